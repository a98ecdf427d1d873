-- The order of ranges, and what it means.
use Rattle.std.proofs.Common.{◌≡◌, ◌<◌, ◌≤◌, ◌⊎◌, ℕ, Option, Some, None, refl, sym, ap, ◌∙◌, arith, inl, inr, subst, ⊎_elim}
use Rattle.std.proofs.lemmas.Bool.{cases_lt}
use Rattle.std.specs.declared.cmp.Ordering.{Ordering}
use Rattle.std.specs.declared.cmp.Ordering.TheVariants.{Less, Equal, Greater}
use Rattle.std.specs.Ordering.{nat_cmp, ordering_then, MatchOrdering}
use Rattle.std.specs.Cmp.{tied_itself, nat_cmp_is}
use Rattle.std.proofs.lemmas.Map.Lookups.{CmpEqualImpliesEq, exact_unsigned}
use Rattle.vm_ranges.specs.Range.{Range, Overlaps, Covers}
use Rattle.vm_ranges.specs.Making.{IsOffset}
use Rattle.vm_ranges.specs.RangeOrder.{range_cmp, range_cmp-total, Before}
use Rattle.vm_ranges.specs.RangeLaws.{RangesAreSets}
use Rattle.vm_ranges.proofs.RangeCalls.{before_parts, before_by_start, before_by_end, same_range}

-- A comparison in two steps is Equal only if both steps are.
pub both_equal : (o p : Ordering) → ordering_then o p ≡ Equal → (o ≡ Equal) × (p ≡ Equal)
both_equal Less p h = cc
both_equal Equal p h = (refl, h)
both_equal Greater p h = cc

-- If the starts are equal, the ends decide.
by_ends : (a b : Range) (o : Ordering) → a.start ≡ b.start → o ≡ nat_cmp a.end b.end → o ≡ range_cmp a b
by_ends a b o s e = e ∙ ap (λ (v : Ordering). ordering_then v (nat_cmp a.end b.end)) (nat_cmp_is a.start b.start Equal s)

-- The starts are compared first, and then the ends.
by_starts : (a b : Range) (o : Ordering) → o ≡ nat_cmp a.start b.start → ordering_then o (nat_cmp a.end b.end) ≡ range_cmp a b
by_starts a b o e = ap (λ (v : Ordering). ordering_then v (nat_cmp a.end b.end)) e

-- An order that agrees with `Before` is the order of ranges.
pub ordered_is : (o : Ordering) (a b : Range) → MatchOrdering o (Before a b) (a ≡ b) (Before b a) → o ≡ range_cmp a b
ordered_is Less a b h =
    ⊎_elim
    (λ (l : a.start < b.start). by_starts a b Less (nat_cmp_is a.start b.start Less l))
    (λ e. by_ends a b Less e.0 (nat_cmp_is a.end b.end Less e.1))
    (before_parts a b h)
ordered_is Equal a b h =
    by_ends a b Equal (ap (λ (v : Range). v.start) h) (nat_cmp_is a.end b.end Equal (ap (λ (v : Range). v.end) h))
ordered_is Greater a b h =
    ⊎_elim
    (λ (l : b.start < a.start). by_starts a b Greater (nat_cmp_is a.start b.start Greater l))
    (λ e. by_ends a b Greater (sym e.0) (nat_cmp_is a.end b.end Greater e.1))
    (before_parts b a h)

pub ruleset by_order = (ordered_is)

-- One of two ranges is before the other, unless they are equal.
in_turn : (a b : Range) → Before a b ⊎ ((a ≡ b) ⊎ Before b a)
in_turn a b =
    ⊎_elim
    (λ (l : a.start < b.start). inl (before_by_start a b l))
    (λ (l : b.start ≤ a.start).
    ⊎_elim
    (λ (g : b.start < a.start). inr (inr (before_by_start b a g)))
    (λ (g : a.start ≤ b.start).
    let s : a.start ≡ b.start = omega arith in
    ⊎_elim
    (λ (k : a.end < b.end). inl (before_by_end a b s k))
    (λ (k : b.end ≤ a.end).
    ⊎_elim
    (λ (m : b.end < a.end). inr (inr (before_by_end b a (sym s) m)))
    (λ (m : a.end ≤ b.end). inr (inl (same_range a b s (omega arith))))
    (cases_lt b.end a.end))
    (cases_lt a.end b.end))
    (cases_lt b.start a.start))
    (cases_lt a.start b.start)

-- The order of ranges agrees with `Before`.
pub told : (o : Ordering) (a b : Range) → o ≡ range_cmp a b → MatchOrdering o (Before a b) (a ≡ b) (Before b a)
told o a b e =
    let said : Ordering → Type 0 = λ v. MatchOrdering v (Before a b) (a ≡ b) (Before b a) in
    ⊎_elim
    (λ (h : Before a b). subst said (ordered_is Less a b h ∙ sym e) h)
    (λ r.
    ⊎_elim
    (λ (h : a ≡ b). subst said (ordered_is Equal a b h ∙ sym e) h)
    (λ (h : Before b a). subst said (ordered_is Greater a b h ∙ sym e) h)
    r)
    (in_turn a b)

pub ruleset ordered = (told)

-- Ranges that are compared as Equal are equal.
pub range_cmp-exact : CmpEqualImpliesEq range_cmp
range_cmp-exact a b h =
    let p = both_equal (nat_cmp a.start b.start) (nat_cmp a.end b.end) h in
    same_range a b (exact_unsigned a.start b.start p.0) (exact_unsigned a.end b.end p.1)

-- ---- Ranges as sets of addresses
-- An address has one offset in a range, or none.
one_offset : (r : Range) (x : ℕ) (answer other : Option ℕ) → IsOffset r x answer → IsOffset r x other → answer ≡ other
one_offset r x None None h k = refl
one_offset r x None (Some b) h k = absurd (h k.0)
one_offset r x (Some a) None h k = absurd (k h.0)
one_offset r x (Some a) (Some b) h k = let e : a ≡ b = omega (arith, h.1, k.1) in ap (λ (v : ℕ). Some v) e

-- Overlaps is symmetric, Covers is an order, only equal ranges compare as Equal, and offsets are decided.
pub ranges_are_sets : RangesAreSets
unfolding Overlaps Covers
ranges_are_sets = record {
  symmetric = λ r s o. (o.0, o.2, o.1);
  reflexive = λ r x i. i;
  transitive = λ r s t c d x i. c x (d x i);
  equal = λ r s. (range_cmp-exact r s, λ e. subst (λ (v : Range). range_cmp r v ≡ Equal) e (tied_itself range_cmp-total r));
  offset = one_offset;
}
