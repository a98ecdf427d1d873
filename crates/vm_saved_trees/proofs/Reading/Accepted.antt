-- The values that encode a tree that is accepted are read, and no others.
use Rattle.std.proofs.Common.{◌≡◌, List, Option, true, false, subst}
use Rattle.serde_json.specs.Data.{Data}
use Rattle.vm_ranges.specs.Range.{Range, IsRange}
use Rattle.vm_ranges.specs.Address.{AddressState}
use Rattle.vm_saved_trees.specs.KeyValues.{EncodesAs}
use Rattle.vm_saved_trees.specs.SavedTrees.{Saved, held_keys, HasHeldAs}
use Rattle.vm_saved_trees.specs.Spans.{StandsFor, is_accepted}
use Rattle.vm_saved_trees.specs.ValueNodes.{EncodesSaved, IsSavedIn}
use Rattle.vm_saved_trees.specs.declared.span.Form.{Form}
use Rattle.vm_saved_trees.specs.declared.span.Form.TheVariants.{Strict, Repaired}
use Rattle.vm_saved_trees.specs.declared.span.Span.{Span}
use Rattle.vm_saved_trees.proofs.Reading.ReadSpaces as strict
use Rattle.vm_saved_trees.proofs.Reading.RepairedTrees as repaired
use Rattle.vm_saved_trees.proofs.SavedNodes.Roots.{state_with, not_accepted, keys_as}
use Rattle.vm_saved_trees.proofs.SavedNodes.ValueLaws.{nodes_as, value_as}
use Rattle.vm_saved_trees.proofs.SavedNodes.ValueTrees.{one_saved}

module _ (form : Form) (d : Data) (space : Range) (range : IsRange space.start space.end) where
  pub unread : ¬ ((span : Option Span) × (t : Saved) × IsSavedIn 0 d span t) → ((state : AddressState) × EncodesAs form d space state) → ⊥
  unread none p = by_form form p.1
    where
      by_form : (form : Form) → EncodesAs form d space p.0 → ⊥
      by_form Strict e = none (strict.saved_in d space p.0 range e)
      by_form Repaired e = none (repaired.saved_in d space p.0 range.1 e)

  module _ (o : Option Span) (t : Saved) (nodes : EncodesSaved d t) (stands : StandsFor o t) where
    pub not_read : is_accepted form space o ≡ false → ((state : AddressState) × EncodesAs form d space state) → ⊥
    not_read i p =
        let u = nodes_as form d space p.0 p.1 in
        not_accepted form space o t stands i (p.0, subst (λ (v : Saved). HasHeldAs form space v p.0) (one_saved u.0 t d u.1 nodes) u.2)

    module _ (i : is_accepted form space o ≡ true) (keys : List Range) (same : keys ≡ held_keys t) where
      pub keys_held : HasHeldAs form space t (state_with space keys)
      keys_held = keys_as form space o t stands range.1 i keys same

      pub keys_read : EncodesAs form d space (state_with space keys)
      keys_read = value_as form d space (state_with space keys) t nodes keys_held
