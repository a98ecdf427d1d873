-- The results of the calls of a range.
use Rattle.std.proofs.Common.{◌≡◌, ℕ, ◌<◌, ◌≤◌, ◌⊎◌, arith, inl, inr, refl, ap, ◌∙◌, ⊎_elim}
use Rattle.std.proofs.lemmas.Bool.{cases_lt, and_parts, eq-eqb, eqb-true, lt-ltb, le-ltb, ltb-true}
use Rattle.vm_ranges.specs.Range.{Range, Overlaps, Covers}
use Rattle.vm_ranges.specs.RangeOrder.{Before}

-- Ranges with the same ends are equal.
pub same_range : (x y : Range) → x.start ≡ y.start → x.end ≡ y.end → x ≡ y
same_range x y p q =
    let f : ℕ → ℕ → Range = λ s e. record { start = s; end = e } in
    let g : f x.start x.end ≡ f y.start x.end = ap (λ v. f v x.end) p in
    g ∙ ap (λ v. f y.start v) q

-- ---- The order of two ranges
-- A range before another one has a lower start, or the same start and a lower end.
pub before_parts : (a b : Range) → Before a b → (a.start < b.start) ⊎ ((a.start ≡ b.start) × (a.end < b.end))
unfolding Before
before_parts a b h =
    ⊎_elim
    (λ (l : a.start < b.start). inl l)
    (λ (l : b.start ≤ a.start).
    let p = and_parts _ _ (rw (le-ltb a.start b.start l) at h) in
    inr (eqb-true a.start b.start p.0, ltb-true a.end b.end p.1))
    (cases_lt a.start b.start)

pub before_by_start : (a b : Range) → a.start < b.start → Before a b
unfolding Before
before_by_start a b l = rw (lt-ltb a.start b.start l) refl

pub before_by_end : (a b : Range) → a.start ≡ b.start → a.end < b.end → Before a b
unfolding Before
before_by_end a b e l =
    rw (le-ltb a.start b.start (omega (arith, e)), eq-eqb a.start b.start e, lt-ltb a.end b.end l) refl

pub ruleset orders = (before_by_start, before_by_end)

-- ---- Ranges that overlap, and ranges that contain others

-- Two ranges overlap if each starts at most at the end of the other one.
pub meet : (r s : Range) → r.start ≤ r.end → s.start ≤ s.end → r.start ≤ s.end → s.start ≤ r.end → Overlaps r s
unfolding Overlaps
meet r s a b l h =
    ⊎_elim
    (λ (i : r.start < s.start). (s.start, (omega arith, h), (omega arith, b)))
    (λ (i : s.start ≤ r.start). (r.start, (omega arith, a), (i, l)))
    (cases_lt r.start s.start)

-- A range does not overlap one that ends below its start.
pub apart_below : (r s : Range) → s.end < r.start → ¬ Overlaps r s
unfolding Overlaps
apart_below r s l o = omega (arith, o.1, o.2)

-- A range does not overlap one that starts above its end.
pub apart_above : (r s : Range) → r.end < s.start → ¬ Overlaps r s
unfolding Overlaps
apart_above r s l o = omega (arith, o.1, o.2)

pub ruleset overlappings = (meet, apart_below, apart_above)

-- A range covers another one if both ends of the other one are in it.
pub covers : (r s : Range) → r.start ≤ s.start → s.end ≤ r.end → Covers r s
unfolding Covers
covers r s l h x i = (omega (arith, i.0), omega (arith, i.1))

-- A range does not cover one that starts below it.
pub sticks_out_below : (r s : Range) → s.start ≤ s.end → s.start < r.start → ¬ Covers r s
unfolding Covers
sticks_out_below r s o l c = let i = c s.start (omega arith, o) in omega (arith, i.0)

-- A range does not cover one that ends above it.
pub sticks_out_above : (r s : Range) → s.start ≤ s.end → r.end < s.end → ¬ Covers r s
unfolding Covers
sticks_out_above r s o l c = let i = c s.end (o, omega arith) in omega (arith, i.1)

pub ruleset coverings = (covers, sticks_out_below, sticks_out_above)
