use Rattle.std.proofs.Common.{◌≡◌, ◌∙◌, ◌<◌, arith, sym, subst, [], ap, option_copied}
use Rattle.vm_tree.specs.Subtree.{Subtree, kids, leaf_of}
use Rattle.vm_tree.specs.Sought.{FindsLeaf}
use Rattle.vm_tree.proofs.Looks.{finds_leaf, none_beyond}
use Rattle.vm_tree.proofs.tree.Tree.look.Goals as goal

pub look_at-requires : goal.look_at-requires
look_at-requires g c =
    let tree : c.deref-node.result.now ≡ c.args.self.now = c.deref-node.ensures ∙ rw c.in-Inner.is at c.self.view_is in
    let some = rw c.in-Inner.is at c.self.invariant in (
      omega arith,
      (
        subst (λ (s : Subtree g.row.L.Denot). 0 < kids s) (sym c.deref-node.ensures) (omega (arith, some)),
        record {
          lawful = c.end-end.ensures.lawful;
          runs = subst (λ (s : Subtree g.row.L.Denot). (g.S.Seek.seeking c.args.seek.now).runs s.leaves) (sym tree) c.requires.runs;
          fits = c.if-may_enter.ensures;
        },
      ),
    )

pub returns-then-has : goal.returns-then-has
returns-then-has g c =
    let q = g.S.Seek.seeking c.args.seek.now in
    let tree : leaf_of c.deref-leaf.result.now ≡ c.args.self.now = ap leaf_of c.deref-leaf.ensures ∙ rw c.in-Leaf.is at c.self.view_is in
    record { before = []; after = []; was = ap (λ (s : Subtree g.row.L.Denot). s.leaves) (sym tree); none = none_beyond q q.end; has = c.if-has.ensures }

pub returns-then-may_enter : goal.returns-then-may_enter
returns-then-may_enter g c =
    let q = g.S.Seek.seeking c.args.seek.now in
    let tree : c.deref-node.result.now ≡ c.args.self.now = c.deref-node.ensures ∙ rw c.in-Inner.is at c.self.view_is in
    let r = c.look_at.ensures 0 in
    subst (λ (s : Subtree g.row.L.Denot). FindsLeaf q s.leaves (option_copied c.look_at.result)) tree
    (finds_leaf q 0 r.0 c.deref-node.result.now (option_copied c.look_at.result) r.1)
