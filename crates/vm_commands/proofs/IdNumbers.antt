-- Ids and numbers of words.
use Rattle.std.proofs.Common.{◌≡◌, ℕ, ◌<◌, ◌≤◌, ◌^◌, List, [], ◌∷◌, Option, Some, None, Result, Ok, Err, refl, sym, ap, ◌∙◌, arith}
use Rattle.std.specs.Prelude.{if◌then◌else◌, nat_lt}
use Rattle.std.specs.Option.{option_map, option_zip}
use Rattle.std.specs.Result.{OkIff, result_ok}
use Rattle.std.proofs.lemmas.Bool.{lt-ltb, le-ltb}
use Rattle.std.proofs.lemmas.Bool.Decides.{nat_tests}
use Rattle.std.proofs.lemmas.Result.{OkIff-at_ok, OkIff-at_err}
use Rattle.vm_commands.specs.Numbers.{number_of, id_of}
use Rattle.vm_commands.specs.Reading.{number_first}
use Rattle.vm_commands.specs.Words.{words_of, words_after, one_in, two_in, three_in, four_in}
use Rattle.vm_commands.proofs.FirstNumber.{says_none, says_some}

-- One id.
abbrev pub id_in : Option ℕ → Option ℕ
id_in None = None
id_in (Some n) = if nat_lt n (2 ^ 32) then Some n else None

-- Two ids.
abbrev pub ids_in : Option (ℕ × ℕ) → Option (ℕ × ℕ)
ids_in None = None
ids_in (Some p) = option_zip (id_in (Some p.0)) (id_in (Some p.1))

-- The id of a word is that of its number.
id_is : (word : List ℕ) → id_of word ≡ id_in (number_of word)
id_is word = grind (arith, nat_tests)

-- The id of a number that is converted.
pub converted : (E : Type 0) (n : ℕ) (r : Result ℕ E) → OkIff r (n < 2 ^ 32) n → result_ok r ≡ id_in (Some n)
converted E n (Ok x) h = let is = OkIff-at_ok {E = E} (Ok x) (n < 2 ^ 32) n x h refl in rw (is.1, lt-ltb n (2 ^ 32) is.0) refl
converted E n (Err e) h = let high : 2 ^ 32 ≤ n = omega (arith, OkIff-at_err {E = E} (Err e) (n < 2 ^ 32) n e h refl) in rw
    (le-ltb n (2 ^ 32) high) refl

-- The ids of words are those of their numbers.
pub one_id : (words : List (List ℕ)) → one_in id_of words ≡ id_in (one_in number_of words)
one_id [] = refl
one_id (word ∷ []) = id_is word
one_id (word ∷ second ∷ more) = refl

pub two_ids : (words : List (List ℕ)) → two_in id_of words ≡ ids_in (two_in number_of words)
two_ids [] = refl
two_ids (word ∷ []) = refl
two_ids (word ∷ second ∷ []) = rw (id_is word, id_is second) (zip (number_of word) (number_of second))
  where
    zip : (o p : Option ℕ) → option_zip (id_in o) (id_in p) ≡ ids_in (option_zip o p)
    zip None p = refl
    zip (Some n) None = alone (id_in (Some n))
      where
        alone : (o : Option ℕ) → option_zip {U = ℕ} o None ≡ None
        alone None = refl
        alone (Some m) = refl
    zip (Some n) (Some m) = refl
two_ids (word ∷ second ∷ third ∷ more) = refl

-- Two ids and two numbers.
abbrev pub ids_among : ℕ → Option (ℕ × ℕ × ℕ) → Option ((ℕ × ℕ) × (ℕ × ℕ))
ids_among number None = None
ids_among number (Some p) = option_map (λ ids. (ids, (p.1, p.2))) (option_zip (id_in (Some number)) (id_in (Some p.0)))

-- Without a first number, two ids and two numbers are not read.
pub four_none : (words : List (List ℕ)) → number_first words ≡ None → four_in id_of number_of words ≡ None
four_none [] e = refl
four_none (word ∷ []) e = refl
four_none (word ∷ second ∷ words) e = rw (id_is word, says_none word (second ∷ words) e) refl

-- With a first number, the result is the one from this id and three numbers behind it.
pub four_some : (words behind : List (List ℕ)) (number : ℕ) → number_first words ≡ Some (number, behind)
    → four_in id_of number_of words ≡ ids_among number (three_in number_of behind)
four_some [] behind number e = absurd cc
four_some (word ∷ []) behind number e = rw (sym (says_some word [] behind number e).1) refl
four_some (word ∷ second ∷ words) behind number e =
    let h = says_some word (second ∷ words) behind number e in
    rw (sym h.1, id_is word, h.0, id_is second) (zip (number_of second) (two_in number_of words))
  where
    zip : (o : Option ℕ) (p : Option (ℕ × ℕ)) →
        option_zip (option_zip (id_in (Some number)) (id_in o)) p
        ≡ ids_among number (option_map {U = ℕ × ℕ × ℕ} (λ q. (q.0, q.1.0, q.1.1)) (option_zip o p))
    zip None p = none (id_in (Some number))
      where
        none : (o : Option ℕ) → option_zip {U = ℕ × ℕ} (option_zip {U = ℕ} o None) p ≡ None
        none None = refl
        none (Some m) = refl
    zip (Some n) None = none (option_zip (id_in (Some number)) (id_in (Some n)))
      where
        none : (o : Option (ℕ × ℕ)) → option_zip {U = ℕ × ℕ} o None ≡ None
        none None = refl
        none (Some q) = refl
    zip (Some n) (Some p) = some (option_zip (id_in (Some number)) (id_in (Some n)))
      where
        some : (o : Option (ℕ × ℕ)) → option_zip o (Some p) ≡ option_map {U = (ℕ × ℕ) × (ℕ × ℕ)} (λ ids. (ids, p)) o
        some None = refl
        some (Some q) = refl

-- With fewer than three numbers behind the first one, nothing is read.
pub four_less : (words behind : List (List ℕ)) (number : ℕ) → number_first words ≡ Some (number, behind) → three_in number_of behind ≡ None
    → four_in id_of number_of words ≡ None
four_less words behind number e less = four_some words behind number e ∙ ap (ids_among number) less

-- The result from the two ids, either of which can be None.
pub four_ids : (words : List (List ℕ)) (rest : Option (List ℕ)) (text : List ℕ) (number second third fourth : ℕ) (i j : Option ℕ) →
    number_first words ≡ Some (number, words_after rest) → rest ≡ Some text
    → Some (second, third, fourth) ≡ three_in number_of (words_of text) → i ≡ id_in (Some number) → j ≡ id_in (Some second) →
    four_in id_of number_of words ≡ option_map (λ ids. (ids, (third, fourth))) (option_zip i j)
four_ids words rest text number second third fourth i j first some three is js =
    four_some words (words_after rest) number first ∙ ap (λ r. ids_among number (three_in number_of (words_after r))) some
    ∙ ap (ids_among number) (sym three) ∙ rw (is, js) refl

pub ruleset four_words = (four_none, four_less, four_ids, converted)
