-- The first run that is left is the stored run, or else the first of the list. The prover does not rewrite the list in each case.
use Rattle.std.proofs.Common.{None, Option, List, ap, ◌∙◌}
use Rattle.vm_list.specs.declared.id_set.Run.{Run}
use Rattle.vm_ids.specs.Checks.IdQueries.{runs_left}
use Rattle.vm_ids.proofs.Ids.HeldIds.{begins}
use Rattle.vm_ids.proofs.id_allocator.freed_ids.take_first.Goals as goal

pub returns-in-Some : goal.returns-in-Some
returns-in-Some c =
    begins _ _ c.in-Some.run' c.requires (ap (λ (first : Option Run). runs_left first c.args.runs.now c.args.last.now) c.in-Some.is)

pub returns-in-Some-next_run : goal.returns-in-Some-next_run
returns-in-Some-next_run c =
    begins _ _ c.in-Some-next_run.run' c.requires (ap (λ (first : Option Run). runs_left first c.args.runs.now c.args.last.now) c.in-None.is
    ∙ ap (λ (runs : List Run). runs_left None runs c.args.last.now) c.in-Some-next_run.ensures)
