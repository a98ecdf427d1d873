use Rattle.serde_json.specs.View.{items_view}
use Rattle.vm_ranges.specs.Lists.{EncodesItems}
use Rattle.vm_ids.specs.Values.IdValues.{EncodesNumber}
use Rattle.vm_ids.proofs.saved.ids.encode_ids.Given as goal

abbrev pub invariant-loop-id : goal.invariant-loop-id
invariant-loop-id l = EncodesItems EncodesNumber (items_view l.list.items) l.yielded
