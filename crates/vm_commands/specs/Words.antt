-- The words of a line, and their numbers.
use Rattle.std.specs.Prelude.{ℕ, ◌==◌, List, [], ◌∷◌, Option, Some, None}
use Rattle.std.specs.List.{slice_split}
use Rattle.std.specs.Option.{option_map, option_zip}

-- The byte that separates words.
abbrev pub blank_byte : ℕ
blank_byte = 32

-- The words of a text: its parts between blanks.
abbrev pub words_of : List ℕ → List (List ℕ)
words_of text = slice_split (λ byte. byte == blank_byte) text

-- The words after a word and its blank, if there is a blank.
abbrev pub words_after : Option (List ℕ) → List (List ℕ)
words_after None = []
words_after (Some rest) = words_of rest

-- The command, if no word follows its name.
abbrev pub alone : {A : Type 0} → A → List (List ℕ) → Option A
alone asked [] = Some asked
alone asked (word ∷ words) = None

-- The number of the words by this reading, if there is one word.
abbrev pub one_in : (List ℕ → Option ℕ) → List (List ℕ) → Option ℕ
one_in read [] = None
one_in read (word ∷ []) = read word
one_in read (word ∷ second ∷ more) = None

-- The numbers of the words by this reading, if there are two words.
abbrev pub two_in : (List ℕ → Option ℕ) → List (List ℕ) → Option (ℕ × ℕ)
two_in read [] = None
two_in read (first ∷ []) = None
two_in read (first ∷ second ∷ []) = option_zip (read first) (read second)
two_in read (first ∷ second ∷ third ∷ more) = None

-- The numbers of the words by this reading, if there are three words.
abbrev pub three_in : (List ℕ → Option ℕ) → List (List ℕ) → Option (ℕ × ℕ × ℕ)
three_in read [] = None
three_in read (first ∷ words) = option_map (λ p. (p.0, p.1.0, p.1.1)) (option_zip (read first) (two_in read words))

-- The numbers of the words, two by each reading, if there are four words.
abbrev pub four_in : (List ℕ → Option ℕ) → (List ℕ → Option ℕ) → List (List ℕ) → Option ((ℕ × ℕ) × (ℕ × ℕ))
four_in read other [] = None
four_in read other (first ∷ []) = None
four_in read other (first ∷ second ∷ words) = option_zip (option_zip (read first) (read second)) (two_in other words)
