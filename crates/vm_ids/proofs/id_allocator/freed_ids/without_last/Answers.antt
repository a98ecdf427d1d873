-- The ids of a run are those below its last id, and this id. The prover does not rewrite the number of ids in the row.
use Rattle.std.proofs.Common.{◌≡◌, ◌+◌, ◌-◌, ℕ, List, [], ◌∷◌, ◌++◌, ap, ◌∙◌, arith, sym}
use Rattle.std.proofs.lemmas.List.{append-nil}
use Rattle.std.specs.List.{range_with_len}
use Rattle.vm_ids.proofs.Ids.HeldIds.{run_tail}
use Rattle.vm_ids.proofs.id_allocator.freed_ids.without_last.Goals as goal

pub returns-then-run-clause-rest : goal.returns-then-run-clause-rest
returns-then-run-clause-rest c =
    let run = c.args.run in
    let n : run.last - run.first ≡ run.last - 1 + 1 - run.first = omega (arith, c.if-run.true) in
    run_tail run c.requires
    ∙ ap (λ (k : ℕ). range_with_len run.first k ++ run.last ∷ []) n
    ∙ ap (λ (is : List ℕ). is ++ run.last ∷ []) (sym (append-nil (range_with_len run.first (run.last - 1 + 1 - run.first))))
