-- The value before is the one that was found, and only the value changes. The prover does not name the range of the value.
use Rattle.std.proofs.Common.{◌≡◌, Option, Some, None, OnSome, ap, subst}
use Rattle.vm_range_map.specs.RangeMaps.{IsMapState}
use Rattle.vm_range_map.specs.Trees.{map_state}
use Rattle.vm_range_map.specs.MapLends.{WritesAt}
use Rattle.vm_range_map.proofs.MapCalls.{none_set, written_set, written_state, written_tree}
use Rattle.vm_range_map.proofs.range_map.RangeMap.set.Goals as goal

-- A fact on a result holds if it is there.
of_some : {A : Type 0} (o : Option A) (x : A) (P : Type 0) → o ≡ Some x → OnSome o P → P
of_some None x P e h = absurd (cc (e))
of_some (Some y) x P e h = h

-- The map after the value was written.
wrote : (g : _) (c : goal.After-self-in-Some-1 g) → WritesAt c.args.self.now c.args.address c.args.value (c.get_mut.follows.lender c.replace.new.dest)
wrote g c =
    rw (← c.replace.ensures.after)
    (of_some c.get_mut.result c.in-Some.place (WritesAt c.args.self.now c.args.address c.replace.new.dest (c.get_mut.follows.lender c.replace.new.dest))
    c.in-Some.is (c.get_mut.follows.holds c.replace.new.dest))

valid : (g : _) (c : goal.After-self-in-Some-1 g) → IsMapState (map_state c.args.self.now)
valid g c = subst (λ m. IsMapState (map_state m)) c.self.view_is c.self.invariant

pub returns-in-Some-clause-answer : goal.returns-in-Some-clause-answer
returns-in-Some-clause-answer g c =
    rw c.replace.ensures.value
    (written_set c.args.self.now _ c.args.address c.args.value c.in-Some.place.now (valid g c) (wrote g c) c.in-Some.ensures.value)

pub returns-in-Some-clause-tree : goal.returns-in-Some-clause-tree
returns-in-Some-clause-tree g c =
    written_tree c.args.self.now _ c.args.address c.args.value c.in-Some.place.now (valid g c) (wrote g c) c.in-Some.ensures.value

pub returns-in-Some-clause-state : goal.returns-in-Some-clause-state
returns-in-Some-clause-state g c =
    written_state c.args.self.now _ c.args.address c.args.value c.in-Some.place.now (valid g c) (wrote g c) c.in-Some.ensures.value

pub returns-in-None-clause-answer : goal.returns-in-None-clause-answer
returns-in-None-clause-answer g c =
    none_set (map_state c.args.self.now) _ c.args.address c.args.value c.in-None.ensures.none (ap (λ m. map_state m) c.get_mut.follows.holds-at-none)

pub returns-in-None-clause-state : goal.returns-in-None-clause-state
returns-in-None-clause-state g c =
    rw c.get_mut.follows.holds-at-none (subst (λ m. IsMapState (map_state m)) c.self.view_is c.self.invariant)
