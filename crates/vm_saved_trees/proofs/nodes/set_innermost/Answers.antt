-- A child is set in the last of the nested nodes. A lemma by induction shows that the last index has this node.
use Rattle.std.proofs.Common.{ap, sym, ◌∙◌, arith}
use Rattle.vm_saved_trees.specs.NodesRead.{with_span}
use Rattle.vm_saved_trees.specs.declared.nodes.Children.{Children}
use Rattle.vm_saved_trees.proofs.SavedNodes.Stored.{last_is, set_last, set_others}
use Rattle.vm_saved_trees.proofs.nodes.set_innermost.Goals as goal

pub returns-clause-last : goal.returns-clause-last
returns-clause-last c =
    let some = c.if-count-eq0.false in
    set_last c.args.root.now c.set_child-2.new.children c.args.nested.now _ (omega arith) ∙ c.set_child-2.ensures
    ∙ ap (λ (v : Children). with_span c.args.side c.args.span v) (sym (last_is c.args.root.now _ c.args.nested.now _ (omega arith)))

pub returns-clause-others : goal.returns-clause-others
returns-clause-others c =
    let some = c.if-count-eq0.false in
    set_others c.args.root.now c.set_child-2.new.children c.args.nested.now _ (omega arith)
