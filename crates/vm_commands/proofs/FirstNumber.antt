-- The number of the first word of a text.
use Rattle.std.proofs.Common.{
  ◌≡◌,
  ◌≢◌,
  ℕ,
  ◌+◌,
  ◌-◌,
  ◌<◌,
  ◌≤◌,
  Bool,
  true,
  false,
  List,
  [],
  ◌∷◌,
  length,
  take,
  drop,
  get_or,
  Option,
  Some,
  None,
  ◌==◌,
  refl,
  sym,
  ap,
  ◌∙◌,
  arith,
  ⊎_elim,
}
use Rattle.std.specs.Prelude.{not}
use Rattle.std.specs.List.{position_or_len, after_first}
use Rattle.std.specs.Option.{option_map, option_zip}
use Rattle.std.proofs.lemmas.Bool.Decides.{nat_tests}
use Rattle.std.proofs.lemmas.Bool.{cases_lt}
use Rattle.std.proofs.lemmas.List.{take_all, get_or-take, length-take-le}
use Rattle.std.proofs.lemmas.List.Folds.{list_all_at}
use Rattle.std.proofs.lemmas.List.Splits.{slice_split_first}
use Rattle.std.proofs.lemmas.List.Sums.{prefix_len_stops, prefix_len-le-length, passes_at_first, fails_before_first}
use Rattle.vm_commands.specs.Numbers.{is_digit, number_of}
use Rattle.vm_commands.specs.Reading.{leading_digits, number_first}
use Rattle.vm_commands.specs.Words.{blank_byte, words_of, one_in, two_in, three_in}
use Rattle.vm_commands.proofs.Splitting.{words_some, words_none}

-- Words that begin with a number.

-- The number of the first word.
pub says_none : (word : List ℕ) (words : List (List ℕ)) → number_first (word ∷ words) ≡ None → number_of word ≡ None
says_none word words e = step (number_of word) refl
  where
    step : (o : Option ℕ) → number_of word ≡ o → number_of word ≡ None
    step None is = is
    step (Some n) is = absurd (let f = rw is at e in cc)

-- The first word is the number, and the other words are behind it.
pub says_some : (word : List ℕ) (words behind : List (List ℕ)) (number : ℕ) → number_first (word ∷ words) ≡ Some (number, behind)
    → (number_of word ≡ Some number) × (words ≡ behind)
says_some word words behind number e = step (number_of word) refl
  where
    step : (o : Option ℕ) → number_of word ≡ o → (number_of word ≡ Some number) × (words ≡ behind)
    step None is = absurd (let f = rw is at e in cc)
    step (Some n) is =
        let p : (n, words) ≡ (number, behind) = let f = rw is at e in cc in
        (is ∙ ap (λ (q : ℕ × List (List ℕ)). Some q.0) p, ap (λ (q : ℕ × List (List ℕ)). q.1) p)

-- One number.
pub one_none : (words : List (List ℕ)) → number_first words ≡ None → one_in number_of words ≡ None
one_none [] e = refl
one_none (word ∷ []) e = says_none word [] e
one_none (word ∷ second ∷ more) e = refl

-- One number is read if it is the only word.
pub one_alone : (words : List (List ℕ)) (number : ℕ) → number_first words ≡ Some (number, []) → one_in number_of words ≡ Some number
one_alone [] number e = absurd cc
one_alone (word ∷ []) number e = (says_some word [] [] number e).0
one_alone (word ∷ second ∷ more) number e = let h = (says_some word (second ∷ more) [] number e).1 in absurd cc

-- One number is not read if words are behind it.
pub one_more : (words behind : List (List ℕ)) (number : ℕ) → number_first words ≡ Some (number, behind) → 0 < length behind
    → one_in number_of words ≡ None
one_more [] behind number e some = refl
one_more (word ∷ []) behind number e some = let h = (says_some word [] behind number e).1 in absurd (omega (arith, rw (sym h) at some))
one_more (word ∷ second ∷ more) behind number e some = refl

-- Two numbers.
pub two_none : (words : List (List ℕ)) → number_first words ≡ None → two_in number_of words ≡ None
two_none [] e = refl
two_none (word ∷ []) e = refl
two_none (word ∷ second ∷ []) e = rw (says_none word (second ∷ []) e) refl
two_none (word ∷ second ∷ third ∷ more) e = refl

-- Two numbers are the first one and the one behind it.
pub two_some : (words behind : List (List ℕ)) (number : ℕ) → number_first words ≡ Some (number, behind)
    → two_in number_of words ≡ option_map {U = ℕ × ℕ} (λ second. (number, second)) (one_in number_of behind)
two_some [] behind number e = absurd cc
two_some (word ∷ []) behind number e = rw (sym (says_some word [] behind number e).1) refl
two_some (word ∷ second ∷ []) behind number e =
    let h = says_some word (second ∷ []) behind number e in rw (sym h.1, h.0) (zip (number_of second))
  where
    zip : (o : Option ℕ) → option_zip (Some number) o ≡ option_map {U = ℕ × ℕ} (λ n. (number, n)) o
    zip None = refl
    zip (Some n) = refl
two_some (word ∷ second ∷ third ∷ more) behind number e = rw (sym (says_some word (second ∷ third ∷ more) behind number e).1) refl

-- Three numbers.
pub three_none : (words : List (List ℕ)) → number_first words ≡ None → three_in number_of words ≡ None
three_none [] e = refl
three_none (word ∷ words) e = rw (says_none word words e) refl

-- Three numbers are the first one and two behind it.
pub three_some : (words behind : List (List ℕ)) (number : ℕ) → number_first words ≡ Some (number, behind)
    → three_in number_of words ≡ option_map {U = ℕ × ℕ × ℕ} (λ p. (number, p.0, p.1)) (two_in number_of behind)
three_some [] behind number e = absurd cc
three_some (word ∷ words) behind number e =
    let h = says_some word words behind number e in rw (sym h.1, h.0) (zip (two_in number_of words))
  where
    zip : (o : Option (ℕ × ℕ)) →
        option_map {U = ℕ × ℕ × ℕ} (λ p. (p.0, p.1.0, p.1.1)) (option_zip (Some number) o)
        ≡ option_map {U = ℕ × ℕ × ℕ} (λ p. (number, p.0, p.1)) o
    zip None = refl
    zip (Some p) = refl

-- A text and the digits at its beginning.

-- The index of the first blank, or the length of the text.
abbrev end_of_word : List ℕ → ℕ
end_of_word text = position_or_len (λ byte. byte == blank_byte) text

-- No digit is a blank.
digits_before_blank : (text : List ℕ) → leading_digits text ≤ end_of_word text
digits_before_blank [] = omega arith
digits_before_blank (x ∷ xs) = step (is_digit x) refl (digits_before_blank xs)
  where
    step : (b : Bool) → is_digit x ≡ b → leading_digits xs ≤ end_of_word xs → leading_digits (x ∷ xs) ≤ end_of_word (x ∷ xs)
    step true e h = let other : (x == blank_byte) ≡ false = grind (arith, nat_tests) in rw (e, other) (omega arith)
    step false e h = rw e (omega arith)

-- The first word of a text, and the words after it.
first_word_is : (text : List ℕ) → (words : List (List ℕ)) × (words_of text ≡ take (end_of_word text) text ∷ words)
first_word_is text =
    ⊎_elim (λ within. (words_of (after_first (λ byte. byte == blank_byte) text), slice_split_first (λ byte. byte == blank_byte) text 0 within))
    (λ all. ([], rw (take_all (end_of_word text) text all) (words_none text (grind (arith, nat_tests)))))
    (cases_lt (end_of_word text) (length text))

-- The first word ends within the text.
end_within : (text : List ℕ) → end_of_word text ≤ length text
end_within text = prefix_len-le-length (λ byte. not (byte == blank_byte)) text

-- A word that has other bytes after its digits is not a number.
mixed_none : (text : List ℕ) (n : ℕ) → n ≡ leading_digits text → n < end_of_word text → number_of (take (end_of_word text) text) ≡ None
mixed_none text n is more =
    let m = end_of_word text in
    let within : n < length (take m text) = omega (arith, length-take-le m text (end_within text)) in
    let stops : is_digit (get_or text (leading_digits text) 0)
    ≡ false = prefix_len_stops is_digit text 0 (omega (arith, end_within text)) in
    let at : is_digit (get_or (take m text) n 0) ≡ false = rw (get_or-take m text n 0 more, is) stops in
    let mixed = list_all_at is_digit (take m text) n 0 within at in
    rw mixed (grind (arith, nat_tests))

-- If the first word is not a number, there is no first number.
says_word : (text : List ℕ) → number_of (take (end_of_word text) text) ≡ None → number_first (words_of text) ≡ None
says_word text none = let first = first_word_is text in rw (first.1, none) refl

-- There is no first number if the leading digits are not a number.
pub no_number : (text : List ℕ) → number_of (take (leading_digits text) text) ≡ None → number_first (words_of text) ≡ None
no_number text e =
    ⊎_elim (λ more. says_word text (mixed_none text (leading_digits text) refl more))
    (λ all. let same : leading_digits text ≡ end_of_word text = omega (arith, digits_before_blank text) in says_word text (rw same at e))
    (cases_lt (leading_digits text) (end_of_word text))

-- There is no first number if a byte other than a blank follows the digits.
pub then_other : (text : List ℕ) (n : ℕ) → n ≡ leading_digits text → n < length text → get_or text n 0 ≢ 32
    → number_first (words_of text) ≡ None
then_other text n is within other =
    ⊎_elim (λ more. says_word text (mixed_none text n is more))
    (λ all.
    let same : end_of_word text ≡ n = omega (arith, digits_before_blank text) in
    let blank_there = rw same at (passes_at_first (λ byte. byte == blank_byte) text 0 (omega arith)) in
    absurd (other (grind (arith, nat_tests))))
    (cases_lt n (end_of_word text))

-- If the text is digits only, its number is the first one.
pub alone_number : (text : List ℕ) (number : ℕ) → leading_digits text ≡ length text
    → number_of (take (leading_digits text) text) ≡ Some number → number_first (words_of text) ≡ Some (number, [])
alone_number text number all e =
    let whole : take (leading_digits text) text ≡ text = take_all (leading_digits text) text (omega arith) in
    let far : length text ≤ end_of_word text = omega (arith, digits_before_blank text) in
    let word = words_none text (grind (arith, nat_tests)) in
    let says : number_of text ≡ Some number = rw whole at e in
    rw (word, says) refl

-- If a blank follows the digits, their number is the first one, and the other words are behind it.
pub then_blank : (text : List ℕ) (number n : ℕ) → n ≡ leading_digits text → n < length text → get_or text n 0 ≡ 32
    → number_of (take (leading_digits text) text) ≡ Some number
    → number_first (words_of text) ≡ Some (number, words_of (take (length text - (n + 1)) (drop (n + 1) text)))
then_blank text number n is within at e =
    let there : (get_or text n 0 == blank_byte) ≡ true = grind (arith, nat_tests) in
    let near : end_of_word text ≤ n =
    ⊎_elim (λ more. absurd (let other = fails_before_first (λ byte. byte == blank_byte) text n 0 more in cc)) (λ l. l)
    (cases_lt n (end_of_word text)) in
    let ends : end_of_word text ≡ n = omega (arith, digits_before_blank text) in
    let first = words_some text n (rw ends (grind (arith, nat_tests))) in
    let says : number_of (take n text) ≡ Some number = rw (sym is) at e in
    rw (first, says) refl

pub ruleset first_numbers = (no_number, alone_number, then_blank, then_other)

pub ruleset one_numbers = (one_none, one_alone, one_more)
