use Rattle.vm_space.proofs.Fitted.{fit_answer, fit_space, leaves_same}
use Rattle.vm_space.proofs.closest.fit_in_space.Goals as goal

pub returns-clause-answer : goal.returns-clause-answer
returns-clause-answer c =
    fit_answer c.args.end c.args.search.now c.requires.search.some c.args.tree.now.leaves c.fit_in_tree.new.tree.leaves c.requires.space
    c.fit_in_tree.result c.fit_in_tree.ensures.fits

pub returns-clause-space : goal.returns-clause-space
returns-clause-space c =
    fit_space c.args.end c.args.search.now c.requires.search.some c.args.tree.now.leaves c.fit_in_tree.new.tree.leaves c.requires.space
    c.fit_in_tree.result c.fit_in_tree.ensures.fits (leaves_same c.args.tree.now c.fit_in_tree.new.tree c.fit_in_tree.result c.fit_in_tree.ensures.unchanged)
