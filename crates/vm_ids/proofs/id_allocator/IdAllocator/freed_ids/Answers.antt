use Rattle.std.proofs.Common.{ap, ◌∙◌}
use Rattle.std.proofs.lemmas.List.{append-nil}
use Rattle.std.specs.List.{flat_map}
use Rattle.vm_list.specs.Runs.{ids_of_run}
use Rattle.vm_ids.proofs.Ids.FreedLists.{keys_listed}
use Rattle.vm_ids.proofs.id_allocator.IdAllocator.freed_ids.Goals as goal

pub returns : goal.returns
returns c =
    ap (flat_map ids_of_run) (append-nil c.runs.result) ∙ c.runs.ensures.ids ∙ keys_listed c.args.self.now _ _ _ _ c.self.view_is c.self.invariant c.runs.ensures.order
