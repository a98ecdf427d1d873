-- An ordered list of held ranges is determined by its set of ranges.
use Rattle.std.proofs.Common.{◌≡◌, ℕ, ◌+◌, ◌<◌, ◌≤◌, ◌↔◌, List, [], ◌∷◌, refl, sym, ap, ◌∙◌, arith, inl, inr, ⊎_elim, subst}
use Rattle.vm_ranges.specs.Range.{Range, MAX, IsIn}
use Rattle.vm_ranges.specs.Address.{AreInOrder}
use Rattle.vm_ranges.proofs.PlainWords.{IsHeld}

-- ---- The position of a held range
pub held_lies : (lo hi : ℕ) (hs : List Range) (r : Range) → AreInOrder lo hs hi → IsHeld hs r →
    (lo ≤ r.start) × (r.start ≤ r.end) × (r.end ≤ hi) × (r.end < MAX)
held_lies lo hi [] r s h = absurd h
held_lies lo hi (x ∷ xs) r s h =
    ⊎_elim
    (λ (e : x ≡ r). subst (λ (v : Range). (lo ≤ v.start) × (v.start ≤ v.end) × (v.end ≤ hi) × (v.end < MAX)) e (s.0, s.1, s.2, s.3))
    (λ (e : IsHeld xs r). let i = held_lies (x.end + 1) hi xs r s.4 e in (omega (arith, s.0, s.1, i.0), i.1, i.2, i.3))
    h

-- The first range is below each later range.
pub later_above : (lo hi : ℕ) (x : Range) (xs : List Range) (r : Range) → AreInOrder lo (x ∷ xs) hi → IsHeld xs r → x.end < r.start
later_above lo hi x xs r s h = let i = held_lies (x.end + 1) hi xs r s.4 h in omega (arith, i.0)

-- Two held ranges with a common address are equal.
pub one_held : (lo hi a : ℕ) (hs : List Range) (r q : Range) → AreInOrder lo hs hi → IsHeld hs r → IsHeld hs q → IsIn r a → IsIn q a → r ≡ q
one_held lo hi a [] r q s h k i j = absurd h
one_held lo hi a (x ∷ xs) r q s h k i j =
    ⊎_elim
    (λ (e : x ≡ r).
    ⊎_elim
    (λ (f : x ≡ q). sym e ∙ f)
    (λ (f : IsHeld xs q). absurd (omega (arith, later_above lo hi x xs q s f, ap (λ (v : Range). v.end) e, i.1, j.0)))
    k)
    (λ (e : IsHeld xs r).
    ⊎_elim
    (λ (f : x ≡ q). absurd (omega (arith, later_above lo hi x xs r s e, ap (λ (v : Range). v.end) f, i.0, j.1)))
    (λ (f : IsHeld xs q). one_held (x.end + 1) hi a xs r q s.4 e f i j)
    k)
    h

-- Two held ranges with the same start are equal.
pub one_start : (lo hi : ℕ) (r q : Range) (hs : List Range) → AreInOrder lo hs hi → IsHeld hs r → IsHeld hs q → r.start ≡ q.start → r ≡ q
one_start lo hi r q hs s h k e =
    let i = held_lies lo hi hs r s h in
    let j = held_lies lo hi hs q s k in
    one_held lo hi q.start hs r q s h k (omega arith, omega (arith, i.1)) (omega arith, j.1)

-- ---- Two lists of the same ranges
-- Two ordered lists with the same ranges have the same first range.
same_first : (lo ly hi hy : ℕ) (x y : Range) (xs ys : List Range) → AreInOrder lo (x ∷ xs) hi → AreInOrder ly (y ∷ ys) hy →
    IsHeld (y ∷ ys) x → IsHeld (x ∷ xs) y → x ≡ y
same_first lo ly hi hy x y xs ys s t h k =
    ⊎_elim
    (λ (e : y ≡ x). sym e)
    (λ (e : IsHeld ys x).
    ⊎_elim
    (λ (f : x ≡ y). f)
    (λ (f : IsHeld xs y). absurd (omega (arith, later_above ly hy y ys x t e, later_above lo hi x xs y s f, s.1, t.1)))
    k)
    h

-- A range that follows in the list is not the first range.
in_rest : (lo hi : ℕ) (x y : Range) (xs ys : List Range) (r : Range) → AreInOrder lo (x ∷ xs) hi → x ≡ y → IsHeld xs r → IsHeld (y ∷ ys) r →
    IsHeld ys r
in_rest lo hi x y xs ys r s e h k =
    ⊎_elim
    (λ (f : y ≡ r). absurd (omega (arith, later_above lo hi x xs r s h, s.1, ap (λ (v : Range). v.start) (e ∙ f))))
    (λ (f : IsHeld ys r). f)
    k

-- Two ordered lists with the same ranges are equal.
pub same_ranges_held : (lo ly hi hy : ℕ) (xs ys : List Range) → AreInOrder lo xs hi → AreInOrder ly ys hy →
    ((r : Range) → IsHeld xs r ↔ IsHeld ys r) → xs ≡ ys
same_ranges_held lo ly hi hy [] [] s t h = refl
same_ranges_held lo ly hi hy [] (y ∷ ys) s t h = absurd ((h y).1 (inl refl))
same_ranges_held lo ly hi hy (x ∷ xs) [] s t h = absurd ((h x).0 (inl refl))
same_ranges_held lo ly hi hy (x ∷ xs) (y ∷ ys) s t h =
    let e : x ≡ y = same_first lo ly hi hy x y xs ys s t ((h x).0 (inl refl)) ((h y).1 (inl refl)) in
    let i : xs ≡ ys = same_ranges_held (x.end + 1) (y.end + 1) hi hy xs ys s.4 t.4 (λ r. (
      λ (k : IsHeld xs r). in_rest lo hi x y xs ys r s e k ((h r).0 (inr k)),
      λ (k : IsHeld ys r). in_rest ly hy y x ys xs r t (sym e) k ((h r).1 (inr k)),
    )) in
    cc
