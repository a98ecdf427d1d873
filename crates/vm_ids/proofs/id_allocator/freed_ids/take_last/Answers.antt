-- The last run that is left is the stored run, or else the last of the list. The prover does not move the brackets of joined lists.
use Rattle.std.proofs.Common.{None, Option, List, [], ◌∷◌, ◌++◌, option_to_list, ap, sym, ◌∙◌}
use Rattle.std.proofs.lemmas.List.{append-nil, append_assoc}
use Rattle.vm_list.specs.declared.id_set.Run.{Run}
use Rattle.vm_ids.specs.Checks.IdQueries.{runs_left}
use Rattle.vm_ids.proofs.Ids.HeldIds.{ends, last_left}
use Rattle.vm_ids.proofs.id_allocator.freed_ids.take_last.Goals as goal

pub returns-in-Some : goal.returns-in-Some
returns-in-Some c =
    ends _ _ c.in-Some.run' c.requires (ap (λ (last : Option Run). runs_left c.args.first.now c.args.runs.now last) c.in-Some.is
    ∙ last_left c.args.first.now c.args.runs.now c.in-Some.run')

pub returns-in-Some-last_run : goal.returns-in-Some-last_run
returns-in-Some-last_run c =
    let run = c.in-Some-last_run.run' in
    ends _ _ run c.requires (ap (λ (last : Option Run). runs_left c.args.first.now c.args.runs.now last) c.in-None.is
    ∙ ap (λ (runs : List Run). runs_left c.args.first.now runs None) c.in-Some-last_run.ensures
    ∙ append-nil (option_to_list c.args.first.now ++ (c.last_run.new.runs ++ run ∷ []))
    ∙ sym (append_assoc (option_to_list c.args.first.now) c.last_run.new.runs (run ∷ []))
    ∙ last_left c.args.first.now c.last_run.new.runs run)
