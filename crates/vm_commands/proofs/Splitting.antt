-- The words of a line and the parts of a piece, by the index of the first byte between them.
use Rattle.std.proofs.Common.{
  ◌≡◌,
  ◌≢◌,
  ℕ,
  ◌+◌,
  ◌-◌,
  ◌<◌,
  ◌≤◌,
  Bool,
  true,
  false,
  List,
  [],
  ◌∷◌,
  length,
  take,
  drop,
  Some,
  None,
  ◌==◌,
  refl,
  arith,
  rules,
  ◌++◌,
  get_or,
  length-drop,
  sym,
  ⊎_elim,
  ap,
  ◌∙◌,
}
use Rattle.std.specs.Prelude.{position}
use Rattle.std.specs.List.{position_or_len, slice_split, after_first}
use Rattle.std.proofs.lemmas.List.Splits.{slice_split_first, length-slice_split}
use Rattle.std.proofs.lemmas.Bool.{cases_lt}
use Rattle.std.proofs.lemmas.Bool.Decides.{nat_tests}
use Rattle.std.proofs.lemmas.List.{take_all}
use Rattle.std.proofs.lemmas.List.Prefix.{front_fits, front_reads, front_from_reads}
use Rattle.std.proofs.lemmas.List.Sums.{split_at_first, passes_at_first}
use Rattle.std.proofs.lemmas.Grind.{common_steps}
use Rattle.vm_commands.specs.Lines.{newline, parts_of}
use Rattle.vm_commands.specs.Words.{blank_byte, words_of}

-- The parts of a text between bytes of this value.
abbrev cut_at : ℕ → List ℕ → List (List ℕ)
cut_at c text = slice_split (λ byte. byte == c) text

-- The index of the first such byte.
some_below : (c : ℕ) (text : List ℕ) (i : ℕ) → position (λ byte. byte == c) text ≡ Some i
    → (i < length text) × (position_or_len (λ byte. byte == c) text ≡ i)
some_below c text i e = search (rules, common_steps)

-- A text with such a byte.
cut_some : (c : ℕ) (text : List ℕ) (i : ℕ) → position (λ byte. byte == c) text ≡ Some i
    → cut_at c text ≡ take i text ∷ cut_at c (take (length text - (i + 1)) (drop (i + 1) text))
cut_some c text i e = let h = some_below c text i e in search
    (rules, common_steps, slice_split_first (λ byte. byte == c) text 0 (omega arith))

-- A text without such a byte is one part.
none_step : (c : ℕ) (xs : List ℕ) → length xs ≤ position_or_len (λ byte. byte == c) xs → cut_at c xs ≡ xs ∷ []
none_step c [] h = refl
none_step c (x ∷ xs) h = none_cons c x xs (x == c) refl (none_step c xs) h
  where
    none_cons : (c x : ℕ) (xs : List ℕ) (b : Bool) → (x == c) ≡ b
        → (length xs ≤ position_or_len (λ byte. byte == c) xs → cut_at c xs ≡ xs ∷ [])
        → length (x ∷ xs) ≤ position_or_len (λ byte. byte == c) (x ∷ xs) → cut_at c (x ∷ xs) ≡ (x ∷ xs) ∷ []
    none_cons c x xs true e ih h = absurd (omega (arith, rw e at h))
    none_cons c x xs false e ih h = let k : length xs ≤ position_or_len (λ byte. byte == c) xs = omega (arith, rw e at h) in rw (e, ih k)

-- A text without such a byte is not cut.
cut_none : (c : ℕ) (text : List ℕ) → position (λ byte. byte == c) text ≡ None → cut_at c text ≡ text ∷ []
cut_none c text e = none_step c text (grind (arith, nat_tests))

-- The first word of a text with a blank, and the words after it.
pub words_some : (line : List ℕ) (i : ℕ) → position (λ byte. byte == blank_byte) line ≡ Some i
    → words_of line ≡ take i line ∷ words_of (take (length line - (i + 1)) (drop (i + 1) line))
words_some line i e = cut_some blank_byte line i e

-- The words of a text without a blank.
pub words_none : (line : List ℕ) → position (λ byte. byte == blank_byte) line ≡ None → words_of line ≡ line ∷ []
words_none line e = cut_none blank_byte line e

-- A text of several words begins with the first word and a blank.
pub begins_with : (text word next : List ℕ) (more : List (List ℕ)) → words_of text ≡ word ∷ next ∷ more
    → (rest : List ℕ) × (text ≡ word ++ blank_byte ∷ rest)
begins_with text word next more e =
    let m = position_or_len (λ byte. byte == blank_byte) text in
    ⊎_elim (λ within.
    let first = slice_split_first (λ byte. byte == blank_byte) text 0 within in
    let is : word ≡ take m text = cc in
    let ends : get_or text m 0 ≡ blank_byte = let there = passes_at_first (λ byte. byte == blank_byte) text 0 within in grind (arith, nat_tests) in
    let rest = after_first (λ byte. byte == blank_byte) text in (
      rest,
      split_at_first (λ byte. byte == blank_byte) text 0 within ∙ ap (λ byte. take m text ++ byte ∷ rest) ends
          ∙ ap (λ w. w ++ blank_byte ∷ rest) (sym is),
    ))
    (λ all. absurd (let alone = words_none text (grind (arith, nat_tests)) in cc))
    (cases_lt m (length text))

-- Whether a text begins with a prefix.
pub too_short : (text prefix rest : List ℕ) → length text < length prefix → text ≢ prefix ++ rest
too_short text prefix rest h e = omega (arith, front_fits text prefix rest e)

-- A text that differs from the prefix at an index does not begin with it.
pub begins_else : (text prefix rest : List ℕ) (i : ℕ) → i < length prefix → get_or text i 0 ≢ get_or prefix i 0 → text ≢ prefix ++ rest
begins_else text prefix rest i within differs e = differs (front_reads 0 text prefix rest e i within)

-- A text with the bytes of the prefix begins with it.
pub begins_so : (text prefix : List ℕ) → length prefix ≤ length text
    → ((i : ℕ) → i < length prefix → get_or text i 0 ≡ get_or prefix i 0)
    → text ≡ prefix ++ take (length text - length prefix) (drop (length prefix) text)
begins_so text prefix fits same =
    rw (take_all (length text - length prefix) (drop (length prefix) text) (omega (arith, length-drop (length prefix) text)))
    (front_from_reads 0 text prefix fits same)

-- The first part of a piece with a newline, and the parts after it.
pub parts_some : (piece : List ℕ) (i : ℕ) → position (λ byte. byte == newline) piece ≡ Some i
    → parts_of piece ≡ take i piece ∷ parts_of (take (length piece - (i + 1)) (drop (i + 1) piece))
parts_some piece i e = cut_some newline piece i e

-- The parts of a piece without a newline.
pub parts_none : (piece : List ℕ) → position (λ byte. byte == newline) piece ≡ None → parts_of piece ≡ piece ∷ []
parts_none piece e = cut_none newline piece e

-- A text has at least one word.
pub some_words : (text : List ℕ) → 0 < length (words_of text)
some_words text = omega (arith, length-slice_split (λ byte. byte == blank_byte) text)
