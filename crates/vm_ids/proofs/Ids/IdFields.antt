-- The fields of an id allocator and its state.
use Rattle.std.proofs.Common.{◌≡◌, ℕ, ◌+◌, ◌<◌, ◌≤◌, List, false, refl, ap, arith, inl, inr, Option, Some, None, Ok, Err, IsTrue, subst}
use Rattle.std.proofs.lemmas.Bool.{le-leb, lt-leb}
use Rattle.std.specs.Ordering.{nat_cmp}
use Rattle.std.specs.BTreeSet.{BTreeSet, contains, IsEmpty}
use Rattle.std.specs.FinSet as set
use Rattle.std.specs.List.{AllZip}
use Rattle.std.proofs.lemmas.List.Elements.{same_from_all_zip}
use Rattle.vm_ids.specs.Ids.{MAX_ID, IdState, WasEverAllocated, IsHeld, next_id_of, MakesIds, ids_of, IsNext, AreIds, IsIdState}
use Rattle.vm_ranges.specs.declared.error.Error.TheVariants.{InvalidRange}
use Rattle.vm_ids.proofs.Ids.IdSets.{held_test, same_state, bound_fits, bound_above}

-- Creating.
pub makes_fresh : (lo hi : ℕ) (freed : BTreeSet ℕ) → lo ≤ hi → IsEmpty freed → MakesIds lo hi (Ok (ids_of lo hi (Some lo) freed))
unfolding MakesIds ids_of
makes_fresh lo hi freed l e =
    inr (λ h. omega arith, ap Ok (same_state _ _ refl refl refl (λ q. grind (arith, held_test, set.contains-empty))))

pub makes_refused : (lo hi : ℕ) → hi < lo → MakesIds lo hi (Err (InvalidRange lo hi))
unfolding MakesIds
makes_refused lo hi h = inl (h, refl)

pub ruleset makes = (makes_fresh, makes_refused)

-- Facts of each state.
next_of : (lo hi : ℕ) (next : Option ℕ) (freed : BTreeSet ℕ) → IsNext lo hi next → next ≡ next_id_of (ids_of lo hi next freed)
unfolding ids_of
next_of lo hi None freed n = rw (lt-leb (hi + 1) MAX_ID (omega arith)) refl
next_of lo hi (Some i) freed n = rw (le-leb i MAX_ID n.2) refl

module _ (state : IdState) (lo hi : ℕ) (next : Option ℕ) (freed : BTreeSet ℕ) (e : ids_of lo hi next freed ≡ state) where
  pub is_state : AreIds lo hi next freed → IsIdState state
  unfolding ids_of
  is_state h =
      let s : IsIdState (ids_of lo hi next freed) = record {
        range = h.range;
        ids = h.ids;
        bound = (bound_above lo hi next h.range h.next_id, bound_fits lo hi next h.next_id);
        held = λ i k. grind (arith, held_test);
      } in
      subst IsIdState e s

  pub next_is : AreIds lo hi next freed → next ≡ next_id_of state
  next_is h = rw e at (next_of lo hi next freed h.next_id)

  pub holds : (i : ℕ) → WasEverAllocated state i → contains nat_cmp freed i ≡ false → IsHeld state i
  unfolding ids_of
  holds i = rw (← e) (λ h f. grind (arith, held_test))

  pub holds_not : (i : ℕ) → IsTrue (contains nat_cmp freed i) → IsHeld state i → ⊥
  unfolding ids_of
  holds_not i t = rw (← e) (λ h. grind (arith, held_test))

pub ruleset states = (is_state)

pub ruleset nexts = (next_is)

pub ruleset holdings = (holds, holds_not)

-- Freed ids that are copied one by one are the same.
pub copied_ids : (freed copy : BTreeSet ℕ) → AllZip (λ x y. y ≡ x) freed.keys copy.keys → copy ≡ freed
copied_ids freed copy h =
    ap (λ (ks : List ℕ). record { keys = ks }) (same_from_all_zip (λ x y. y ≡ x) freed.keys copy.keys h (λ x y e. e))

pub ruleset clones = (copied_ids)
