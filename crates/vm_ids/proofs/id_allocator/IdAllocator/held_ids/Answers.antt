use Rattle.std.proofs.Common.{◌∙◌, ap, sym, length}
use Rattle.vm_ids.specs.Ids.{IdState, ids_of, held_ids_in}
use Rattle.vm_ids.proofs.Ids.HeldIds.{all_held, held_ids_counted}
use Rattle.vm_ids.proofs.id_allocator.IdAllocator.held_ids.Goals as goal

pub returns : goal.returns
unfolding ids_of
returns c =
    let lo = ap (λ (s : IdState). s.lo) c.self.view_is in
    let hi = ap (λ (s : IdState). s.hi) c.self.view_is in
    c.held_ids_in.ensures
    ∙ ap (λ k. held_ids_in k c.self.inside.range_end c.args.self.now) lo ∙ ap (λ k. held_ids_in c.args.self.now.lo k c.args.self.now) hi
    ∙ all_held c.args.self.now c.held_count.ensures.state

pub invariant_of-result : goal.invariant_of-result
invariant_of-result c =
    c.held_count.ensures.value ∙ sym (held_ids_counted c.args.self.now c.held_count.ensures.state) ∙ sym (ap length (returns c))
