-- Objects that are restored from their saved values, and the calls after that.
use Rattle.std.proofs.Common.{List, ap, sym, ◌∙◌, subst}
use Rattle.serde_json.specs.Data.{Data}
use Rattle.serde_json.specs.View.{view}
use Rattle.vm_ranges.specs.Address.{AddressState}
use Rattle.vm_space.specs.Shape.{blocks}
use Rattle.vm_addresses.specs.Allocator.{space_of}
use Rattle.vm_saved_trees.proofs.SavedNodes.Roots.{state_with}
use Rattle.vm_addresses.proofs.Trees.WrittenTrees.{written_is_read}
use Rattle.vm_addresses.specs.Values.AllocatorValues.{EncodesAddresses}
use Rattle.vm_ids.specs.Values.IdValues.{EncodesIds}
use Rattle.vm_addresses.specs.Histories.AddressHistories.{IsHistoryFrom}
use Rattle.vm_ids.specs.Histories.IdHistories.{IsIdHistoryFrom}
use Rattle.vm_laws.specs.ValueLaws.{EncodesAtMostOne}
use Rattle.vm_laws.specs.RestoredLaws.{RestoredIsSaved, RestoredNodesHaveState}
use Rattle.vm_ids.proofs.Ids.ReadIdStates.{one_encoded}
use Rattle.vm_addresses.proofs.Reading.ReadAllocators.{one_addresses}

restored : {X C : Type 0} (States : Data → X → Type 0) (History : X → List C → X → Type 0) → EncodesAtMostOne States →
    RestoredIsSaved States History
restored States History one old back last value calls w r =
    let same = one (view value) back old r w in
    (same, (λ h. subst (λ v. History v calls last) same h, λ h. subst (λ v. History v calls last) (sym same) h))

pub allocator_restored : RestoredIsSaved EncodesAddresses IsHistoryFrom
allocator_restored = restored EncodesAddresses IsHistoryFrom one_addresses

pub ids_restored : RestoredIsSaved EncodesIds IsIdHistoryFrom
ids_restored = restored EncodesIds IsIdHistoryFrom one_encoded

pub nodes_restored : RestoredNodesHaveState
nodes_restored old t back last calls i w h =
    let own = written_is_read old t i w in
    let same = ap (λ s. state_with s back.held) (h.is_space ∙ sym own.is_space)
    ∙ ap (state_with (space_of (blocks old))) (sym h.held ∙ own.held) in (
      same,
      (
        λ k. subst (λ (v : AddressState). IsHistoryFrom v calls last) same k,
        λ k. subst
            (λ (v : AddressState). IsHistoryFrom v calls last) (sym same) k,
      ),
    )
