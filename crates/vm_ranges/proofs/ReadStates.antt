-- The state that a value encodes.
use Rattle.std.proofs.Common.{◌≡◌, ℕ, true, false, cond, List, Option, Some, None, codes, bytes_eq, refl, sym, ap, ◌∙◌}
use Rattle.std.proofs.lemmas.Option.{same_Some}
use Rattle.std.proofs.lemmas.Slice.Eq.{bytes_eq-Decides}
use Rattle.serde_json.specs.Data.{Data, null, boolean, number, string, array, object}
use Rattle.serde_json.specs.Find.{as_str}
use Rattle.vm_ranges.proofs.Steps.{if_some}
use Rattle.vm_ranges.specs.RangeValues.{EncodesState, state_name, state_named, decoded_state}
use Rattle.vm_ranges.specs.declared.state.NodeState.{NodeState}
use Rattle.vm_ranges.specs.declared.state.NodeState.TheVariants.{Free, Allocated}

-- A text that is read as a state is the name of the state.
spelled : (o : Option (List ℕ)) (s : NodeState) → state_named o ≡ Some s → o ≡ Some (state_name s)
spelled None s h = absurd (cc)
spelled (Some t) s h =
    elim (bytes_eq t (codes "Free")) as
    (λ v. bytes_eq t (codes "Free") ≡ v → cond v (Some Free) (cond (bytes_eq t (codes "Allocated")) (Some Allocated) None) ≡ Some s →
    Some t ≡ Some (state_name s)) [
      | true ↦ λ e k. ap Some ((bytes_eq-Decides t (codes "Free")).0 e ∙ ap state_name (same_Some Free s k))
      | false ↦ λ e k.
          let p = if_some (bytes_eq t (codes "Allocated")) (Some Allocated) s k in
          ap Some ((bytes_eq-Decides t (codes "Allocated")).0 p.0 ∙ ap state_name (same_Some Allocated s p.1))
    ] refl h

-- Only a string is read as a text.
text_of : (d : Data) (t : List ℕ) → as_str d ≡ Some t → d ≡ string t
text_of null t e = absurd (cc)
text_of (boolean b) t e = absurd (cc)
text_of (number n) t e = absurd (cc)
text_of (string s) t e = ap string (same_Some s t e)
text_of (array ds) t e = absurd (cc)
text_of (object ms) t e = absurd (cc)

-- A state that is read from a value is encoded by it.
pub found-states : (d : Data) (s : NodeState) → decoded_state d ≡ Some s → EncodesState d s
found-states d s h = text_of d (state_name s) (spelled (as_str d) s h)

-- A state that a value encodes is read from it.
pub states-found : (d : Data) (s : NodeState) → EncodesState d s → decoded_state d ≡ Some s
states-found d Free h = rw h refl
states-found d Allocated h = rw h refl

-- A value from which no state is read encodes no state.
pub none_encoded : (d : Data) → decoded_state d ≡ None → ((s : NodeState) × EncodesState d s) → ⊥
none_encoded d e p = let t = states-found d p.0 p.1 in cc

pub ruleset read = (found-states, none_encoded)

-- A value encodes at most one state.
pub one_state : (d : Data) (a b : NodeState) → EncodesState d a → EncodesState d b → a ≡ b
one_state d a b p q = same_Some a b (sym (states-found d a p) ∙ states-found d b q)
