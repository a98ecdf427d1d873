-- Laws of objects that are restored from their saved values, and of the calls after that.
use Rattle.std.specs.Prelude.{◌≡◌, ◌↔◌, List, Ok}
use Rattle.serde_json.specs.Data.{Data}
use Rattle.serde_json.specs.View.{view}
use Rattle.serde_json.specs.declared.value.Value.{Value}
use Rattle.vm_ranges.specs.Saving.{Saves, Reads}
use Rattle.vm_ranges.specs.Address.{AddressState}
use Rattle.vm_space.specs.Shape.{Shape, blocks}
use Rattle.vm_addresses.specs.Allocator.{space_of, state_of, IsSpaceTree}
use Rattle.vm_saved_trees.specs.SavedTrees.{Saved, HasTreeOf}
use Rattle.vm_saved_trees.specs.WrittenTrees.{IsWritten}
use Rattle.vm_addresses.specs.Histories.AddressHistories.{Call, IsHistoryFrom}

-- The object that is restored from the value of a saved object is the saved object. So a list of calls with its results is a
-- history of the one if and only if it is a history of the other.
abbrev pub RestoredIsSaved : {X C : Type 0} → (Data → X → Type 0) → (X → List C → X → Type 0) → Type 0
RestoredIsSaved {X} {C} States History =
    (saved restored last : X) (value : Value) (calls : List C) →
    Saves (λ d. States d saved) (Ok value) → Reads (States (view value)) (Ok restored) →
    (restored ≡ saved) × (History restored calls last ↔ History saved calls last)

-- An allocator that is restored node by node, from the tree that is written for the saved one, has the state of the saved
-- one. So a list of calls with its results is a history of the one if and only if it is a history of the other.
abbrev pub RestoredNodesHaveState : Type 0
RestoredNodesHaveState =
    (saved : Shape) (t : Saved) (restored last : AddressState) (calls : List Call) →
    IsSpaceTree saved → IsWritten (blocks saved) t → HasTreeOf (space_of (blocks saved)) t restored →
    (restored ≡ state_of saved) × (IsHistoryFrom restored calls last ↔ IsHistoryFrom (state_of saved) calls last)
