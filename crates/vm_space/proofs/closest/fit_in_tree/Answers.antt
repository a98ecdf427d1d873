use Rattle.std.proofs.Common.{sym, subst}
use Rattle.vm_space.specs.Fitting.{IsFitTree}
use Rattle.vm_space.proofs.Closests.{fit_nowhere, fit_found, fit_absent, fit_failed}
use Rattle.vm_space.proofs.Taking.{is_no_memory}
use Rattle.vm_space.proofs.closest.fit_in_tree.Goals as goal

pub returns-then-search : goal.returns-then-search
returns-then-search c = fit_nowhere c.args.end c.args.search.now c.requires.search c.if-search.true c.args.tree.now c.args.count.now

pub returns-in-Some : goal.returns-in-Some
returns-in-Some c =
    subst (IsFitTree c.args.end c.args.search.now c.args.tree.now c.seek.new.self c.args.count.now c.seek.new.count) (sym c.answer.ensures)
    (fit_found c.args.end c.args.search.now c.requires.search c.if-search.false c.args.tree.now c.seek.new.self c.requires.space c.args.count.now c.seek.new.count
    c.seek.new.seek.fitting c.in-Some._done (rw c.in-Some.is at c.in_ok-_done.ensures.sought))

pub returns-in-None : goal.returns-in-None
returns-in-None c =
    fit_absent c.args.end c.args.search.now c.requires.search c.if-search.false c.args.tree.now c.seek.new.self c.requires.space c.args.count.now c.seek.new.count
    c.seek.new.seek.fitting (rw c.in-None.is at c.in_ok-_done.ensures.sought)

pub returns-in_err-_done : goal.returns-in_err-_done
returns-in_err-_done c =
    let r = c.from_residual.ensures in
    subst (IsFitTree c.args.end c.args.search.now c.args.tree.now c.seek.new.self c.args.count.now c.seek.new.count)
    (sym (is_no_memory c.in_err-_done.field-0.0 c.from_residual.result r.0 r.1))
    (fit_failed c.args.end c.args.search.now c.requires.search c.if-search.false c.args.tree.now c.seek.new.self c.requires.space c.args.count.now c.seek.new.count
    c.in_err-_done.field-0.0 c.in_err-_done.ensures.failed)
