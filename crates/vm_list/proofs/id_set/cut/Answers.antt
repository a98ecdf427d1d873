use Rattle.std.proofs.Common.{◌<◌, ◌-◌, ◌+◌, [], ◌∷◌, sym, ap, ◌∙◌, refl, inl, inr, arith, subst}
use Rattle.vm_list.specs.Entries.{with_entry, without}
use Rattle.vm_list.proofs.Runs.{key_of}
use Rattle.vm_list.proofs.RunCuts.{known, lower_apart, taken_parts, lower_parts, Parted, not_parted, inserted, part_known, set_parts, cuts}
use Rattle.vm_list.proofs.id_set.cut.Goals as goal
use Rattle.vm_list.proofs.id_set.cut.Goals.{then-run-id-2+in_ok-insert_run, else-run-id-2}

pub lower_key-requires-clause-known : goal.lower_key-requires-clause-known
lower_key-requires-clause-known c =
    rw (c.into-else-run-id.ensures, c.if-id-run.true) (known c.args.id _ c.args.run c.requires.order c.requires.run)

pub lower_key-requires-clause-apart : goal.lower_key-requires-clause-apart
lower_key-requires-clause-apart c =
    let f = c.requires.run.first in
    rw (c.into-else-run-id.ensures, c.if-id-run.true)
    (rw c.if-id-run.true at
    (lower_apart c.args.id _ c.args.run c.requires.order c.requires.run c.if-id-run.true (omega (arith, f, c.if-run-id.false))))

pub returns-then-run-id-clause-cut : goal.returns-then-run-id-clause-cut
returns-then-run-id-clause-cut c =
    cuts c.args.id _ c.args.run c.requires.order c.requires.run [] [] (inl (refl, c.if-id-run.true)) (inl (refl, c.if-run-id.true)) _
    (taken_parts c.args.id _ c.args.run c.requires.order c.requires.run c.if-id-run.true _ (rw (c.into.ensures, c.if-id-run.true) at c.remove.ensures.rest))

pub returns-else-run-id-clause-cut : goal.returns-else-run-id-clause-cut
returns-else-run-id-clause-cut c =
    let f = c.requires.run.first in
    let l : c.args.run.first < c.args.id = omega (arith, f, c.if-run-id.false) in
    cuts c.args.id _ c.args.run c.requires.order c.requires.run [] (record { first = c.args.run.first; last = c.args.id - 1 } ∷ [])
    (inl (refl, c.if-id-run.true)) (inr (l, refl)) _
    (lower_parts c.args.id _ c.args.run c.requires.order c.requires.run c.if-id-run.true _ l
    (c.lower_key.ensures ∙ ap (λ k. with_entry key_of (record { first = c.args.run.first; last = c.args.id - 1 }) (without key_of k c.args.runs.now))
    (c.into-else-run-id.ensures ∙ c.if-id-run.true)))

pub set-requires : goal.set-requires
set-requires c =
    let now : Parted c.args.id c.args.runs.now c.args.run c.requires.order c.requires.run c.if-run-id-2.runs = elim c.if-run-id-2.branch [
      | then-run-id-2+in_ok-insert_run w ↦ inserted c.args.id _ c.args.run c.requires.order c.requires.run _ w.if-run-id-2.true
          (w.runs-is ∙ w.in_ok-insert_run.ensures.inserted)
      | else-run-id-2 w ↦ subst (Parted c.args.id c.args.runs.now c.args.run c.requires.order c.requires.run) (sym w.runs-is)
          (not_parted c.args.id _ c.args.run c.requires.order c.requires.run w.if-run-id-2.false)
    ] in
    part_known c.args.id _ c.args.run c.requires.order c.requires.run _ now

pub returns-clause-cut : goal.returns-clause-cut
returns-clause-cut c =
    let now : Parted c.args.id c.args.runs.now c.args.run c.requires.order c.requires.run c.if-run-id-2.runs = elim c.if-run-id-2.branch [
      | then-run-id-2+in_ok-insert_run w ↦ inserted c.args.id _ c.args.run c.requires.order c.requires.run _ w.if-run-id-2.true
          (w.runs-is ∙ w.in_ok-insert_run.ensures.inserted)
      | else-run-id-2 w ↦ subst (Parted c.args.id c.args.runs.now c.args.run c.requires.order c.requires.run) (sym w.runs-is)
          (not_parted c.args.id _ c.args.run c.requires.order c.requires.run w.if-run-id-2.false)
    ] in
    let l = c.requires.run.last in
    cuts c.args.id _ c.args.run c.requires.order c.requires.run (record { first = c.args.id + 1; last = c.args.run.last } ∷ []) now.low
    (inr (omega (arith, l, c.if-id-run.false), refl)) now.first _
    (set_parts c.args.id _ c.args.run c.requires.order c.requires.run _ now _ c.set.ensures)
