-- The numbers of words.
use Rattle.std.specs.Prelude.{ℕ, ◌+◌, ◌-◌, ◌*◌, ◌^◌, Bool, ◌&&◌, if◌then◌else◌, nat_lt, nat_le, List, [], ◌∷◌, length, Option, Some, None}
use Rattle.std.specs.List.{list_all}

-- The byte of the digit 0.
abbrev pub digit_zero : ℕ
digit_zero = 48

-- The byte of the digit 9.
abbrev pub digit_nine : ℕ
digit_nine = 57

-- The maximum number of digits of a number.
abbrev pub max_digits : ℕ
max_digits = 20

-- The byte is an ASCII digit.
abbrev pub is_digit : ℕ → Bool
is_digit byte = nat_le digit_zero byte && nat_le byte digit_nine

-- The value of the digits, if the digits before them have the value `before`.
abbrev pub value_from : ℕ → List ℕ → ℕ
value_from before [] = before
value_from before (digit ∷ digits) = value_from (before * 10 + (digit - digit_zero)) digits

-- The word has from 1 to 20 bytes, and all are digits.
abbrev pub is_numeral : List ℕ → Bool
is_numeral word = nat_le 1 (length word) && nat_le (length word) max_digits && list_all is_digit word

-- The value of a numeral, if it is below the bound.
abbrev pub number_below : ℕ → List ℕ → Option ℕ
number_below bound word = if is_numeral word && nat_lt (value_from 0 word) bound then Some (value_from 0 word) else None

-- The value of a numeral, if it fits into 64 bits.
abbrev pub number_of : List ℕ → Option ℕ
number_of word = number_below (2 ^ 64) word

-- The value of a numeral, if it fits into 32 bits.
abbrev pub id_of : List ℕ → Option ℕ
id_of word = number_below (2 ^ 32) word
