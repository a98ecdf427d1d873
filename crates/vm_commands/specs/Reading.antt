-- The parts of a line, as the code reads them.
use Rattle.std.specs.Prelude.{◌≡◌, ℕ, List, [], ◌∷◌, take, Option, Some, None, MatchOption}
use Rattle.std.specs.List.{prefix_len}
use Rattle.std.specs.Option.{option_map}
use Rattle.vm_commands.specs.Numbers.{is_digit, number_of}

-- The number of digits at the beginning of a text.
abbrev pub leading_digits : List ℕ → ℕ
leading_digits text = prefix_len is_digit text

-- The number at the beginning of a text and the number of its digits, or None if they are not a number of 64 bits.
abbrev pub IsLeadingNumber : List ℕ → Option (ℕ × ℕ) → Type 0
IsLeadingNumber text result =
    MatchOption result
    (number_of (take (leading_digits text) text) ≡ None)
    (λ found. (number_of (take (leading_digits text) text) ≡ Some found.0) × (found.1 ≡ leading_digits text))

-- The number of the first word, and the words after it.
abbrev pub number_first : List (List ℕ) → Option (ℕ × List (List ℕ))
number_first [] = None
number_first (word ∷ words) = option_map (λ number. (number, words)) (number_of word)
