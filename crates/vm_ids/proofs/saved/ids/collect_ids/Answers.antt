-- The next item is an id above those so far, so only memory can run out. The prover does not derive this from the order of all items.
use Rattle.std.proofs.Common.{◌≡◌, ◌++◌, ◌∷◌, [], Some, Err, refl, sym, ◌∙◌, nat_cmp, rules, option_and_then}
use Rattle.std.specs.List.Sorted.{IsStrictlySortedBy}
use Rattle.serde_json.specs.View.{view}
use Rattle.vm_ranges.specs.Numbers.{whole_number, u32_from}
use Rattle.vm_ranges.proofs.NumberSteps.{u32-some}
use Rattle.vm_ranges.specs.declared.saved.SavedError.TheVariants.{OutOfMemory}
use Rattle.vm_ids.proofs.Ids.AddedIds.{only_memory}
use Rattle.vm_ids.proofs.Ids.AscendingNumbers.{one_gathered, next_follows}
use Rattle.vm_ids.proofs.saved.ids.collect_ids.Goals as goal

pub returns-in_err-push : goal.returns-in_err-push
returns-in_err-push c =
    let h = c.loop-item.invariant in
    let w : whole_number (view c.item-item.result) ≡ Some c.unwrap-id.result = sym c.as_u64.ensures ∙ c.unwrap-id.ensures in
    let next = next_follows _ c.args.list.now _ c.loop-item.ids c.loop-item-test.true c.item-item.is h.so_far c.requires h.ascending in
    let u = u32-some c.unwrap-id.result next.0 (rw w at next.1) in
    let s : IsStrictlySortedBy nat_cmp (c.loop-item.ids ++ c.unwrap-id.result ∷ []) = rw u.0 next.2 in
    let e = only_memory c.unwrap-id.result c.loop-item.ids c.push.new.self c.in_err-push.field-0.0 s c.in_err-push.ensures in
    let r : c.from_residual.result ≡ Err OutOfMemory = search (rules, e) in
    rw r refl

pub loop-item-preserved : goal.loop-item-preserved
loop-item-preserved c =
    let h = c.loop-item.invariant in
    let w : whole_number (view c.item-item.result) ≡ Some c.unwrap-id.result = sym c.as_u64.ensures ∙ c.unwrap-id.ensures in
    let next = next_follows _ c.args.list.now _ c.loop-item.ids c.loop-item-test.true c.item-item.is h.so_far c.requires h.ascending in
    let u = u32-some c.unwrap-id.result next.0 (rw w at next.1) in
    let n : option_and_then u32_from (whole_number (view c.item-item.result)) ≡ Some c.unwrap-id.result = rw u.0 next.1 in
    let new = c.in_ok-push.ensures in
    record {
      ascending = new.1;
      so_far = rw new.0 (one_gathered _ c.args.list.now _ c.loop-item.ids c.loop-item-test.true c.item-item.is h.so_far n (rw new.0 at new.1));
    }
