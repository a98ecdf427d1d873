-- Equality of id allocators is equality of their states.
use Rattle.std.proofs.Common.{◌≡◌, ◌↔◌, ℕ, Bool, refl, sym, ap, ◌∙◌, arith, Option, Some, None, IsTrue}
use Rattle.std.proofs.lemmas.Bool.Decides.{same_from_decides}
use Rattle.std.proofs.lemmas.Cmp.{tied_itself}
use Rattle.std.specs.List.{list_any}
use Rattle.std.specs.declared.cmp.Ordering.TheVariants.{Equal}
use Rattle.std.specs.Ordering.{nat_cmp, eq_by_cmp, is_eq}
use Rattle.std.specs.Cmp.{Equal-is}
use Rattle.std.specs.BTreeSet.{BTreeSet, contains, IsOrdered}
use Rattle.std.specs.FinMap.{slice_cmp-IsAntisymmetric}
use Rattle.std.specs.FinSet as set
use Rattle.vm_ranges.proofs.RangeOrders.{both_equal}
use Rattle.vm_ids.specs.Ids.{IdState, IsIdState, held_ids, bound_of, unfreed_ids, ids_of, IsNext, AreIds}
use Rattle.vm_ids.specs.Checks.IdQueries.{HaveSameBounds}
use Rattle.vm_ids.specs.IdOrder.{id_state_cmp, id_state_cmp-total}
use Rattle.vm_ids.proofs.Ids.IdFields.{is_state}
use Rattle.vm_ids.proofs.Ids.IdSets.{held_test, same_state}
use Rattle.vm_ids.proofs.Ids.RisingIds.{same_rising}
use Rattle.vm_ids.proofs.Ids.HeldIds.{in_held_ids}

-- ---- States
-- The order returns Equal if and only if both states are the same.
pub id_state_cmp-Equal : (a b : IdState) → IsIdState a → IsIdState b → (id_state_cmp a b ≡ Equal) ↔ (a ≡ b)
id_state_cmp-Equal a b s t = (
  λ h.
      let p = both_equal _ _ h in
      let q = both_equal _ _ p.1 in
      let r = both_equal _ _ q.1 in
      let n = set.nat_cmp-IsAntisymmetric in
      let e = slice_cmp-IsAntisymmetric n (held_ids a) (held_ids b) r.1 in
      same_state a b (n a.lo b.lo p.0) (n a.hi b.hi q.0) (n a.bound b.bound r.0)
      (λ i. sym (in_held_ids a s i) ∙ rw e (in_held_ids b t i)),
  λ e. ap (id_state_cmp a) (sym e) ∙ tied_itself id_state_cmp-total a,
)

-- A test of equality of valid states agrees with the order.
tested_by_order : (a b : IdState) (r : Bool) → IsIdState a → IsIdState b → IsTrue r ↔ (a ≡ b) → r ≡ eq_by_cmp id_state_cmp a b
tested_by_order a b r s t h =
    let k = id_state_cmp-Equal a b s t in
    same_from_decides r (is_eq (id_state_cmp a b)) h
    (λ v. k.0 ((Equal-is (id_state_cmp a b)).0 v), λ e. (Equal-is (id_state_cmp a b)).1 (k.1 e))

-- ---- Fields
-- The next id follows from the bound.
pub same_next : (lo hi : ℕ) (n m : Option ℕ) → IsNext lo hi n → IsNext lo hi m → bound_of n hi ≡ bound_of m hi → n ≡ m
same_next lo hi None None f g e = refl
same_next lo hi None (Some m) f g e = absurd (omega (arith, f, g.1))
same_next lo hi (Some n) None f g e = absurd (omega (arith, g, f.1))
same_next lo hi (Some n) (Some m) f g e = ap Some e

-- The fields of an id allocator are valid, and represent the state.
pub record Represent (lo hi : ℕ) (next : Option ℕ) (freed : BTreeSet ℕ) (state : IdState) : Type 0 where
  pub valid : AreIds lo hi next freed
  pub is : ids_of lo hi next freed ≡ state

state_of_fields : {lo hi : ℕ} {next : Option ℕ} {freed : BTreeSet ℕ} {s : IdState} → Represent lo hi next freed s → IsIdState s
state_of_fields {lo} {hi} {next} {freed} {s} p = is_state s lo hi next freed p.is p.valid

-- With the same bounds, the freed ids decide.
same_if_freed : {lo hi lo' hi' : ℕ} {next next' : Option ℕ} {freed freed' : BTreeSet ℕ} {s t : IdState} → Represent lo hi next freed s →
    Represent lo' hi' next' freed' t →
    HaveSameBounds s t → IsOrdered nat_cmp freed → IsOrdered nat_cmp freed' → (freed.keys ≡ freed'.keys) ↔ (s ≡ t)
unfolding ids_of
same_if_freed {lo} {hi} {lo'} {hi'} {next} {next'} {freed} {freed'} {s} {t} p q h o k =
    let lows : lo ≡ lo' = ap (λ (v : IdState). v.lo) p.is ∙ h.lo ∙ sym (ap (λ (v : IdState). v.lo) q.is) in
    let bounds : bound_of next hi ≡ bound_of next' hi' = ap (λ (v : IdState). v.bound) p.is ∙ h.bound
    ∙ sym (ap (λ (v : IdState). v.bound) q.is) in
    let one : (i : ℕ) → set.contains s.held i ≡ set.contains (unfreed_ids lo (bound_of next hi) freed) i =
    λ i. ap (λ (v : IdState). set.contains v.held i) (sym p.is) in
    let two : (i : ℕ) → set.contains t.held i ≡ set.contains (unfreed_ids lo' (bound_of next' hi') freed') i =
    λ i. ap (λ (v : IdState). set.contains v.held i) (sym q.is) in (
      λ e.
          let listed : (i : ℕ) → contains nat_cmp freed i ≡ contains nat_cmp freed' i = λ i. ap (list_any (eq_by_cmp nat_cmp i)) e in
          same_state s t h.lo h.hi h.bound (λ i. grind (arith, held_test, one i, two i, lows, bounds, listed i)),
      λ e. same_rising freed.keys freed'.keys o k (λ i.
          grind (
            arith,
            held_test,
            one i,
            two i,
            lows,
            bounds,
            p.valid.freed_ids i,
            q.valid.freed_ids i,
            ap (λ (v : IdState). set.contains v.held i) e,
          )),
    )

pub tested : {lo hi lo' hi' : ℕ} {next next' : Option ℕ} {freed freed' : BTreeSet ℕ} {s t : IdState} (r : Bool) →
    Represent lo hi next freed s → Represent lo' hi' next' freed' t →
    HaveSameBounds s t → IsOrdered nat_cmp freed × IsOrdered nat_cmp freed' → IsTrue r ↔ (freed.keys ≡ freed'.keys) → IsTrue r ↔ (s ≡ t)
tested r p q h o k = let same = same_if_freed p q h o.0 o.1 in (λ v. same.0 (k.0 v), λ e. k.1 (same.1 e))

pub ordered : {lo hi lo' hi' : ℕ} {next next' : Option ℕ} {freed freed' : BTreeSet ℕ} {s t : IdState} (r : Bool) →
    Represent lo hi next freed s → Represent lo' hi' next' freed' t →
    IsTrue r ↔ (s ≡ t) → r ≡ eq_by_cmp id_state_cmp s t
ordered {s = s} {t = t} r p q h = tested_by_order s t r (state_of_fields p) (state_of_fields q) h
