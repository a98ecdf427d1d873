-- The walk begins with the runs of freed ids from the first id on, and with those up to the last id. The prover does not build the
-- invariant of its parts.
use Rattle.std.proofs.Common.{◌∙◌}
use Rattle.vm_ids.proofs.Ids.HeldIds.{from_parts, to_parts, walk_starts, walk_lists}
use Rattle.vm_ids.proofs.id_allocator.IdAllocator.held_ids_in.Goals as goal

pub invariant_of-result : goal.invariant_of-result
invariant_of-result c =
    let f = c.runs_from-next_freed.ensures in
    let t = c.runs_to-freed_below.ensures in
    rw (c.into.ensures, c.max.ensures, c.min.ensures, c.from.ensures, c.bound_of-bound.ensures) (
      walk_starts _ _ _ c.args.first c.args.last _ _ c.self.view_is c.self.invariant _ _ (from_parts _ _ f.none ∙ f.ids) (to_parts _ _ t.none ∙ t.ids) f.order,
      (f.lowest, f.others),
      (t.highest, t.others),
    )

pub returns : goal.returns
returns c =
    let f = c.runs_from-next_freed.ensures in
    let t = c.runs_to-freed_below.ensures in
    rw (c.into.ensures, c.max.ensures, c.min.ensures, c.from.ensures, c.bound_of-bound.ensures)
    (walk_lists _ _ _ c.args.first c.args.last _ _ c.self.view_is c.self.invariant _ _ (from_parts _ _ f.none ∙ f.ids) (to_parts _ _ t.none ∙ t.ids))
