-- Each turn encodes one id more. The lemma is on mapped lists, and the prover does not rewrite an identity map to its list.
use Rattle.std.proofs.Common.{List, ℕ, ◌++◌, ◌∷◌, [], ap, sym, subst}
use Rattle.std.proofs.lemmas.List.{map-id}
use Rattle.serde_json.specs.View.{items_view}
use Rattle.vm_ranges.specs.Numbers.{whole_number}
use Rattle.vm_ranges.specs.Lists.{EncodesItems}
use Rattle.vm_ranges.proofs.Lists.{encodes_more}
use Rattle.vm_ids.specs.Values.IdValues.{EncodesNumber}
use Rattle.vm_ids.proofs.saved.ids.encode_ids.Goals as goal

pub loop-id-preserved : goal.loop-id-preserved
loop-id-preserved c =
    let now = c.loop-id.yielded ++ c.in-Some.id ∷ [] in
    subst (λ (is : List ℕ). EncodesItems EncodesNumber (items_view c.push.new.self.items) is) (map-id now)
    (encodes_more EncodesNumber (λ i. i) c.loop-id.list.items c.push.new.self.items c.from.result c.loop-id.yielded c.in-Some.id
    c.in_ok-push.ensures.items (ap whole_number c.from.ensures)
    (subst (λ (is : List ℕ). EncodesItems EncodesNumber (items_view c.loop-id.list.items) is) (sym (map-id c.loop-id.yielded)) c.loop-id.invariant))
