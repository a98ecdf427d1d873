-- Whole numbers in values and in their fields.
use Rattle.std.specs.Prelude.{ℕ, nat_lt, if◌then◌else◌, List, Option, Some, None, option_and_then}
use Rattle.serde_json.specs.Data.{Data}
use Rattle.serde_json.specs.Find.{get, as_number, as_u64}

-- The whole number that a value is. It is None for floats, for numbers below 0 and for numbers past 64 bits.
abbrev pub whole_number : Data → Option ℕ
whole_number d = option_and_then as_u64 (as_number d)

-- The whole number in the field with this name.
abbrev pub number_in : List ℕ → Data → Option ℕ
number_in name d = option_and_then as_u64 (option_and_then as_number (get name d))

-- The highest number of 32 bits.
abbrev pub MAX_U32 : ℕ
MAX_U32 = 0xffff_ffff

-- The number, if it fits into 32 bits.
abbrev pub u32_from : ℕ → Option ℕ
u32_from n = if nat_lt MAX_U32 n then None else Some n

-- The whole number in the field with this name, if it fits into 32 bits.
abbrev pub u32_in : List ℕ → Data → Option ℕ
u32_in name d = option_and_then u32_from (number_in name d)
