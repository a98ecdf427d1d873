-- The digits of a number in an array.
use Rattle.std.specs.Prelude.{ℕ, ◌-◌, List, take, drop}
use Rattle.vm_commands.specs.Numbers.{max_digits}

-- The digits in an array from the index start to before the index max_digits.
abbrev pub digits_from : ℕ → List ℕ → List ℕ
digits_from start digits = take (max_digits - start) (drop start digits)
