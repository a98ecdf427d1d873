-- The parts of a text when a piece is appended to it.
use Rattle.std.proofs.Common.{◌≡◌, ℕ, ◌<◌, Bool, true, false, List, [], ◌∷◌, ◌++◌, length, ◌==◌, refl, sym, ap, arith}
use Rattle.std.specs.Prelude.{if◌then◌else◌}
use Rattle.std.specs.List.{onto_first}
use Rattle.std.proofs.lemmas.List.Splits.{length-slice_split}
use Rattle.vm_commands.specs.Lines.{newline, parts_of, lines_among, ended_among}

-- The parts of two texts that are joined: the last part of the first continues with the first part of the second.
abbrev pub glued : List (List ℕ) → List (List ℕ) → List (List ℕ)
glued [] others = others
glued (last ∷ []) [] = last ∷ []
glued (last ∷ []) (other ∷ others) = (last ++ other) ∷ others
glued (part ∷ next ∷ parts) others = part ∷ glued (next ∷ parts) others

-- The first of several parts is unchanged.
glued_cons : (part : List ℕ) (parts others : List (List ℕ)) → 0 < length parts → glued (part ∷ parts) others ≡ part ∷ glued parts others
glued_cons part [] others h = absurd (omega arith)
glued_cons part (next ∷ parts) others h = refl

-- An empty text before the others changes nothing.
glued_nothing : (others : List (List ℕ)) → 0 < length others → glued ([] ∷ []) others ≡ others
glued_nothing [] h = absurd (omega arith)
glued_nothing (other ∷ others) h = refl

-- A byte before the first part does not change what is after the last part.
glued_onto : (x : ℕ) (parts others : List (List ℕ)) → 0 < length parts →
    onto_first x (glued parts others) ≡ glued (onto_first x parts) others
glued_onto x [] others h = absurd (omega arith)
glued_onto x (last ∷ []) [] h = refl
glued_onto x (last ∷ []) (other ∷ others) h = refl
glued_onto x (part ∷ next ∷ parts) others h = refl

-- A text has at least one part.
pub some_parts : (xs : List ℕ) → 0 < length (parts_of xs)
some_parts xs = omega (arith, length-slice_split (λ x. x == newline) xs)

-- The parts of two texts that are joined.
pub parts_glued : (xs ys : List ℕ) → parts_of (xs ++ ys) ≡ glued (parts_of xs) (parts_of ys)
parts_glued [] ys = sym (glued_nothing (parts_of ys) (some_parts ys))
parts_glued (x ∷ xs) ys = step x xs ys (x == newline) refl (parts_glued xs ys)
  where
    step : (x : ℕ) (xs ys : List ℕ) (b : Bool) → (x == newline) ≡ b
        → parts_of (xs ++ ys) ≡ glued (parts_of xs) (parts_of ys)
        → parts_of (x ∷ (xs ++ ys)) ≡ glued (parts_of (x ∷ xs)) (parts_of ys)
    step x xs ys true e ih = rw (e, ih) (sym (glued_cons [] (parts_of xs) (parts_of ys) (some_parts xs)))
    step x xs ys false e ih = rw (e, ih) (glued_onto x (parts_of xs) (parts_of ys) (some_parts xs))

-- The last part continues with the first part of the others.
pub glued_is : (ended : List (List ℕ)) (begun other : List ℕ) (others : List (List ℕ))
    → glued (ended ++ begun ∷ []) (other ∷ others) ≡ ended ++ (begun ++ other) ∷ others
glued_is [] begun other others = refl
glued_is (x ∷ []) begun other others = refl
glued_is (x ∷ y ∷ ended) begun other others = ap (λ ps. x ∷ ps) (glued_is (y ∷ ended) begun other others)

-- A newline ends each part except the last.
pub ended_is : (ended : List (List ℕ)) (begun : List ℕ) → ended_among (ended ++ begun ∷ []) ≡ ended
ended_is [] begun = refl
ended_is (x ∷ []) begun = refl
ended_is (x ∷ y ∷ ended) begun = ap (λ ps. x ∷ ps) (ended_is (y ∷ ended) begun)

-- The last part is a line if it is not empty.
pub lines_are : (ended : List (List ℕ)) (begun : List ℕ)
    → lines_among (ended ++ begun ∷ []) ≡ ended ++ (if length begun == 0 then [] else begun ∷ [])
lines_are [] begun = refl
lines_are (x ∷ []) begun = refl
lines_are (x ∷ y ∷ ended) begun = ap (λ ps. x ∷ ps) (lines_are (y ∷ ended) begun)
