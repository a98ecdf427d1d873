-- The held ids of an allocator's fields, and tests of sets of ids.
use Rattle.std.proofs.Common.{◌≡◌, ℕ, zero, suc, ◌+◌, ◌-◌, ◌≤◌, ◌&&◌, ◌||◌, Bool, eqb, leb, ltb, not, ap, ◌∙◌, arith, Option, Some, None}
use Rattle.std.specs.List.{range_with_len, list_any}
use Rattle.std.specs.Ordering.{nat_cmp, eq_by_cmp}
use Rattle.std.specs.Cmp.{nat_cmp_total, unsigned_tied}
use Rattle.std.specs.BTreeSet.{BTreeSet, contains}
use Rattle.std.specs.FinSet as set
use Rattle.vm_ids.specs.Ids.{IdState, bound_of, unfreed_ids, IsNext}

-- ---- Tests of a member
pub row_test : (a n i : ℕ) → list_any (eq_by_cmp nat_cmp i) (range_with_len a n) ≡ (leb a i && ltb i (a + n))
row_test a zero i = grind arith
row_test a (suc n) i = rw (row_test (a + 1) n i) (grind arith)

pub inserted_test : (s : set.FinSet nat_cmp) (k q : ℕ) → set.contains (set.insert s k) q ≡ (eqb q k || set.contains s q)
inserted_test s k q = set.contains-insert nat_cmp_total s k q ∙ ap (λ (b : Bool). b || set.contains s q) (unsigned_tied q k)

pub removed_test : (s : set.FinSet nat_cmp) (k q : ℕ) → set.contains (set.remove s k) q ≡ (not (eqb q k) && set.contains s q)
removed_test s k q = set.contains-remove nat_cmp_total s k q ∙ ap (λ (b : Bool). not b && set.contains s q) (unsigned_tied q k)

-- An id is held if it was allocated at some time and is not freed.
pub held_test : (lo bound : ℕ) (freed : BTreeSet ℕ) (i : ℕ) →
    set.contains (unfreed_ids lo bound freed) i ≡ (leb lo i && (ltb i bound && not (contains nat_cmp freed i)))
unfolding unfreed_ids
held_test lo bound freed i =
    rw (
      set.contains-difference nat_cmp_total,
      set.contains-from_list nat_cmp_total (range_with_len lo (bound - lo)),
      set.contains-from_list nat_cmp_total freed.keys,
      row_test,
    ) (grind arith)

pub ruleset tests = (inserted_test, removed_test, held_test)

-- States with the same bounds and the same held ids are equal.
pub same_state : (a b : IdState) → a.lo ≡ b.lo → a.hi ≡ b.hi → a.bound ≡ b.bound →
    ((q : ℕ) → set.contains a.held q ≡ set.contains b.held q) → a ≡ b
same_state a b l h n s =
    let held = set.same_set nat_cmp_total set.nat_cmp-IsAntisymmetric a.held b.held s in
    λ i. record { lo = l i; hi = h i; bound = n i; held = held i }

-- The bound is at most one past the range.
pub bound_fits : (lo hi : ℕ) (next : Option ℕ) → IsNext lo hi next → bound_of next hi ≤ hi + 1
bound_fits lo hi None h = omega arith
bound_fits lo hi (Some n) h = h.1

pub bound_above : (lo hi : ℕ) (next : Option ℕ) → lo ≤ hi → IsNext lo hi next → lo ≤ bound_of next hi
bound_above lo hi None l h = omega arith
bound_above lo hi (Some n) l h = h.0
