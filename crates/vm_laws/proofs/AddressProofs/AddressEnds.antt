-- The states that histories reach: those of clones, those that were read, and those that are equal to others.
use Rattle.std.proofs.Common.{[], ◌∷◌, refl, inl, inr, Ok}
use Rattle.vm_addresses.specs.Values.AllocatorValues.{EncodesAddresses, EncodesRepaired}
use Rattle.vm_addresses.specs.Histories.AddressHistories.{Clone, IsCallFrom, IsReadOfNodes}
use Rattle.vm_saved_trees.specs.SavedTrees.{HasHeldKeys, HasTreeOf}
use Rattle.vm_laws.specs.HistoryLaws.{CloneIsReached, ReadIsReached, NodesAreReached, EqualStatesAreEqual, FreeMakesEqual, FreesInAnyOrderMakeEqual}
use Rattle.vm_ranges.proofs.Clones.{clone_is}
use Rattle.vm_ranges.proofs.Histories.{history_append}
use Rattle.vm_addresses.proofs.Comparing.StateOrders.{equal_states}
use Rattle.vm_laws.proofs.AddressProofs.AlongHistories.{alike_state, release_undoes}
use Rattle.vm_laws.proofs.AddressProofs.Releases.{order_is_free}

pub clone_is_reached : CloneIsReached
clone_is_reached old clone c =
    let r = old.reached in (
      clone_is old.state clone c,
      record {
        first = r.first;
        begins = r.begins;
        history = history_append IsCallFrom old.calls ((Clone, Ok clone) ∷ []) r.first old.state clone r.history (clone, (c, refl), refl);
      },
    )

pub read_is_reached : ReadIsReached EncodesAddresses
read_is_reached value state s = record
    { first = state; begins = inr (inr (inl (record { value = value; encoded = inl s }))); history = refl }

pub repaired_is_reached : ReadIsReached EncodesRepaired
repaired_is_reached value state s = record
    { first = state; begins = inr (inr (inl (record { value = value; encoded = inr s }))); history = refl }

pub nodes_are_reached : NodesAreReached HasTreeOf
nodes_are_reached space t state r h =
    let nodes : IsReadOfNodes state = record { space = space; tree = t; range = r; nodes = inl h } in
    record { first = state; begins = inr (inr (inr nodes)); history = refl }

pub repaired_nodes_are_reached : NodesAreReached HasHeldKeys
repaired_nodes_are_reached space t state r h =
    let nodes : IsReadOfNodes state = record { space = space; tree = t; range = r; nodes = inr h } in
    record { first = state; begins = inr (inr (inr nodes)); history = refl }

pub one_end_is_equal : EqualStatesAreEqual
one_end_is_equal first second h = equal_states first.state second.state (alike_state first second h)

pub release_makes_equal : FreeMakesEqual
release_makes_equal old mid new request r answer s f = equal_states new old.state (release_undoes old mid new request r answer s f).1

pub order_makes_equal : FreesInAnyOrderMakeEqual
order_makes_equal old first second rs qs e s t = equal_states first second (order_is_free.same old first second rs qs e s t)
