use Rattle.std.proofs.Common.{true, false, ◌≡◌, ◌+◌, length, map, ap, subst, sym, refl, arith, ◌∙◌}
use Rattle.vm_tree.specs.Slots.{held}
use Rattle.vm_tree.specs.Subtree.{Subtree, over, front}
use Rattle.vm_tree.specs.Nodes.{kids_of, leaf_tree, node_tree, AreUnder}
use Rattle.vm_tree.specs.declared.node.Kids.{Kids}
use Rattle.vm_tree.proofs.Parts.{parts, count, low_some, low_over, high_over, least_over, joined_by, no_leaves, differ}
use Rattle.vm_tree.proofs.node.Node.join.Goals as goal
use Rattle.vm_tree.proofs.node.Node.join.Goals.{in_default-via-in-Leaves+in_default, in_default-via-in-Nodes+in_default}

pub invariant_of-self : goal.invariant_of-self
invariant_of-self g c =
    let j = c.join_children.ensures in
    let a = subst (AreUnder g.L.Leaf.entry g.L.Leaf.enough c.self.inside.entries) c.in-Leaves-Leaves.is-0 c.self.invariant in
    let b = subst (AreUnder g.L.Leaf.entry g.L.Leaf.enough c.next.inside.entries) c.in-Leaves-Leaves.is-1 c.next.invariant in
    let u = ap (λ (k : Kids g.row.L.Denot). over (kids_of k)) (sym c.in-Leaves-Leaves.is-0) ∙ c.self.view_is in
    let v = ap (λ (k : Kids g.row.L.Denot). over (kids_of k)) (sym c.in-Leaves-Leaves.is-1) ∙ c.next.view_is in
    let p = parts g.L.Leaf.entry g.L.Leaf.enough 0 leaf_tree c.args.self.now c.args.next.now c.self.inside.entries c.next.inside.entries
    c.join_children.new.low c.join_children.new.high c.in-Leaves-Leaves.low c.in-Leaves-Leaves.high (held c.join_children.new.low_slots) (held c.join_children.new.high_slots) a b u v c.requires.height
    j.entries j.held j.low in
    let n = count g.L.Leaf.entry g.L.Leaf.enough 0 leaf_tree c.args.self.now c.args.next.now c.self.inside.entries c.next.inside.entries
    c.join_children.new.low c.join_children.new.high c.in-Leaves-Leaves.low c.in-Leaves-Leaves.high a b u v j.entries in
    low_over g.L.Leaf.entry g.L.Leaf.enough 0 leaf_tree _ _ _ _ _ _ j.dense.0 p j.low (low_some g.L.Leaf.entry g.L.Leaf.enough 0 leaf_tree _ c.join_children.result _ _ n c.requires.enough j.one j.two)

pub invariant_of-next : goal.invariant_of-next
invariant_of-next g c =
    let j = c.join_children.ensures in
    let a = subst (AreUnder g.L.Leaf.entry g.L.Leaf.enough c.self.inside.entries) c.in-Leaves-Leaves.is-0 c.self.invariant in
    let b = subst (AreUnder g.L.Leaf.entry g.L.Leaf.enough c.next.inside.entries) c.in-Leaves-Leaves.is-1 c.next.invariant in
    let u = ap (λ (k : Kids g.row.L.Denot). over (kids_of k)) (sym c.in-Leaves-Leaves.is-0) ∙ c.self.view_is in
    let v = ap (λ (k : Kids g.row.L.Denot). over (kids_of k)) (sym c.in-Leaves-Leaves.is-1) ∙ c.next.view_is in
    let p = parts g.L.Leaf.entry g.L.Leaf.enough 0 leaf_tree c.args.self.now c.args.next.now c.self.inside.entries c.next.inside.entries
    c.join_children.new.low c.join_children.new.high c.in-Leaves-Leaves.low c.in-Leaves-Leaves.high (held c.join_children.new.low_slots) (held c.join_children.new.high_slots) a b u v c.requires.height
    j.entries j.held j.low in
    let n = count g.L.Leaf.entry g.L.Leaf.enough 0 leaf_tree c.args.self.now c.args.next.now c.self.inside.entries c.next.inside.entries
    c.join_children.new.low c.join_children.new.high c.in-Leaves-Leaves.low c.in-Leaves-Leaves.high a b u v j.entries in
    least_over g.L.Leaf.entry g.L.Leaf.enough leaf_tree _ _ _ _ _ _ j.dense.1 p j.high

pub returns-in-Leaves-Leaves : goal.returns-in-Leaves-Leaves
returns-in-Leaves-Leaves g c =
    let j = c.join_children.ensures in
    let a = subst (AreUnder g.L.Leaf.entry g.L.Leaf.enough c.self.inside.entries) c.in-Leaves-Leaves.is-0 c.self.invariant in
    let b = subst (AreUnder g.L.Leaf.entry g.L.Leaf.enough c.next.inside.entries) c.in-Leaves-Leaves.is-1 c.next.invariant in
    let u = ap (λ (k : Kids g.row.L.Denot). over (kids_of k)) (sym c.in-Leaves-Leaves.is-0) ∙ c.self.view_is in
    let v = ap (λ (k : Kids g.row.L.Denot). over (kids_of k)) (sym c.in-Leaves-Leaves.is-1) ∙ c.next.view_is in
    let p = parts g.L.Leaf.entry g.L.Leaf.enough 0 leaf_tree c.args.self.now c.args.next.now c.self.inside.entries c.next.inside.entries
    c.join_children.new.low c.join_children.new.high c.in-Leaves-Leaves.low c.in-Leaves-Leaves.high (held c.join_children.new.low_slots) (held c.join_children.new.high_slots) a b u v c.requires.height
    j.entries j.held j.low in
    let n = count g.L.Leaf.entry g.L.Leaf.enough 0 leaf_tree c.args.self.now c.args.next.now c.self.inside.entries c.next.inside.entries
    c.join_children.new.low c.join_children.new.high c.in-Leaves-Leaves.low c.in-Leaves-Leaves.high a b u v j.entries in
    let h : front (map leaf_tree (held c.in-Leaves-Leaves.low)) + 1 ≡ c.args.self.now.height = ap (λ (z : Subtree g.row.L.Denot). z.height) u in
    joined_by g.L.Leaf.entry g.L.Leaf.enough 0 leaf_tree _ _ _ c.join_children.result _ _ _ (held c.join_children.new.high_slots) _ _ j.dense.0.fits j.dense.1.fits p h j.low j.high n c.requires.enough j.one j.two (λ _. refl)
    (λ z. no_leaves g.L.Leaf.entry g.L.Leaf.enough 0 leaf_tree (held c.join_children.new.high_slots) (omega (arith, j.high, ap length (j.one z))))

pub invariant_of-self-then-join_children : goal.invariant_of-self-then-join_children
invariant_of-self-then-join_children g c =
    let j = c.join_children-in-Nodes-Nodes.ensures in
    let a = subst (AreUnder g.L.Leaf.entry g.L.Leaf.enough c.self.inside.entries) c.in-Nodes-Nodes.is-0 c.self.invariant in
    let b = subst (AreUnder g.L.Leaf.entry g.L.Leaf.enough c.next.inside.entries) c.in-Nodes-Nodes.is-1 c.next.invariant in
    let u = ap (λ (k : Kids g.row.L.Denot). over (kids_of k)) (sym c.in-Nodes-Nodes.is-0) ∙ c.self.view_is in
    let v = ap (λ (k : Kids g.row.L.Denot). over (kids_of k)) (sym c.in-Nodes-Nodes.is-1) ∙ c.next.view_is in
    let p = parts g.L.Leaf.entry g.L.Leaf.enough 2 node_tree c.args.self.now c.args.next.now c.self.inside.entries c.next.inside.entries
    c.join_children-in-Nodes-Nodes.new.low c.join_children-in-Nodes-Nodes.new.high c.in-Nodes-Nodes.low c.in-Nodes-Nodes.high (held c.join_children-in-Nodes-Nodes.new.low_slots) (held c.join_children-in-Nodes-Nodes.new.high_slots) a b u v c.requires.height
    j.entries j.held j.low in
    let n = count g.L.Leaf.entry g.L.Leaf.enough 2 node_tree c.args.self.now c.args.next.now c.self.inside.entries c.next.inside.entries
    c.join_children-in-Nodes-Nodes.new.low c.join_children-in-Nodes-Nodes.new.high c.in-Nodes-Nodes.low c.in-Nodes-Nodes.high a b u v j.entries in
    low_over g.L.Leaf.entry g.L.Leaf.enough 2 node_tree _ _ _ _ _ _ j.dense.0 p j.low (low_some g.L.Leaf.entry g.L.Leaf.enough 2 node_tree _ c.join_children-in-Nodes-Nodes.result _ _ n c.requires.enough j.one j.two)

pub invariant_of-self-in-Nodes-next-high : goal.invariant_of-self-in-Nodes-next-high
invariant_of-self-in-Nodes-next-high g c =
    let j = c.join_children-in-Nodes-Nodes.ensures in
    let a = subst (AreUnder g.L.Leaf.entry g.L.Leaf.enough c.self.inside.entries) c.in-Nodes-Nodes.is-0 c.self.invariant in
    let b = subst (AreUnder g.L.Leaf.entry g.L.Leaf.enough c.next.inside.entries) c.in-Nodes-Nodes.is-1 c.next.invariant in
    let u = ap (λ (k : Kids g.row.L.Denot). over (kids_of k)) (sym c.in-Nodes-Nodes.is-0) ∙ c.self.view_is in
    let v = ap (λ (k : Kids g.row.L.Denot). over (kids_of k)) (sym c.in-Nodes-Nodes.is-1) ∙ c.next.view_is in
    let p = parts g.L.Leaf.entry g.L.Leaf.enough 2 node_tree c.args.self.now c.args.next.now c.self.inside.entries c.next.inside.entries
    c.join_children-in-Nodes-Nodes.new.low c.join_children-in-Nodes-Nodes.new.high c.in-Nodes-Nodes.low c.in-Nodes-Nodes.high (held c.join_children-in-Nodes-Nodes.new.low_slots) (held c.join_children-in-Nodes-Nodes.new.high_slots) a b u v c.requires.height
    j.entries j.held j.low in
    let n = count g.L.Leaf.entry g.L.Leaf.enough 2 node_tree c.args.self.now c.args.next.now c.self.inside.entries c.next.inside.entries
    c.join_children-in-Nodes-Nodes.new.low c.join_children-in-Nodes-Nodes.new.high c.in-Nodes-Nodes.low c.in-Nodes-Nodes.high a b u v j.entries in
    low_over g.L.Leaf.entry g.L.Leaf.enough 2 node_tree _ _ _ _ _ _ j.dense.0 p j.low (low_some g.L.Leaf.entry g.L.Leaf.enough 2 node_tree _ c.join_children-in-Nodes-Nodes.result _ _ n c.requires.enough j.one j.two)

pub invariant_of-next-else-join_children : goal.invariant_of-next-else-join_children
invariant_of-next-else-join_children g c =
    let j = c.join_children-in-Nodes-Nodes.ensures in
    let a = subst (AreUnder g.L.Leaf.entry g.L.Leaf.enough c.self.inside.entries) c.in-Nodes-Nodes.is-0 c.self.invariant in
    let b = subst (AreUnder g.L.Leaf.entry g.L.Leaf.enough c.next.inside.entries) c.in-Nodes-Nodes.is-1 c.next.invariant in
    let u = ap (λ (k : Kids g.row.L.Denot). over (kids_of k)) (sym c.in-Nodes-Nodes.is-0) ∙ c.self.view_is in
    let v = ap (λ (k : Kids g.row.L.Denot). over (kids_of k)) (sym c.in-Nodes-Nodes.is-1) ∙ c.next.view_is in
    let p = parts g.L.Leaf.entry g.L.Leaf.enough 2 node_tree c.args.self.now c.args.next.now c.self.inside.entries c.next.inside.entries
    c.join_children-in-Nodes-Nodes.new.low c.join_children-in-Nodes-Nodes.new.high c.in-Nodes-Nodes.low c.in-Nodes-Nodes.high (held c.join_children-in-Nodes-Nodes.new.low_slots) (held c.join_children-in-Nodes-Nodes.new.high_slots) a b u v c.requires.height
    j.entries j.held j.low in
    let n = count g.L.Leaf.entry g.L.Leaf.enough 2 node_tree c.args.self.now c.args.next.now c.self.inside.entries c.next.inside.entries
    c.join_children-in-Nodes-Nodes.new.low c.join_children-in-Nodes-Nodes.new.high c.in-Nodes-Nodes.low c.in-Nodes-Nodes.high a b u v j.entries in
    let k = j.two c.if-join_children.false in high_over g.L.Leaf.entry g.L.Leaf.enough 2 node_tree _ _ _ _ _ _ j.dense.1 p j.high (omega (arith, k.1))

pub returns-then-join_children : goal.returns-then-join_children
returns-then-join_children g c =
    let j = c.join_children-in-Nodes-Nodes.ensures in
    let a = subst (AreUnder g.L.Leaf.entry g.L.Leaf.enough c.self.inside.entries) c.in-Nodes-Nodes.is-0 c.self.invariant in
    let b = subst (AreUnder g.L.Leaf.entry g.L.Leaf.enough c.next.inside.entries) c.in-Nodes-Nodes.is-1 c.next.invariant in
    let u = ap (λ (k : Kids g.row.L.Denot). over (kids_of k)) (sym c.in-Nodes-Nodes.is-0) ∙ c.self.view_is in
    let v = ap (λ (k : Kids g.row.L.Denot). over (kids_of k)) (sym c.in-Nodes-Nodes.is-1) ∙ c.next.view_is in
    let p = parts g.L.Leaf.entry g.L.Leaf.enough 2 node_tree c.args.self.now c.args.next.now c.self.inside.entries c.next.inside.entries
    c.join_children-in-Nodes-Nodes.new.low c.join_children-in-Nodes-Nodes.new.high c.in-Nodes-Nodes.low c.in-Nodes-Nodes.high (held c.join_children-in-Nodes-Nodes.new.low_slots) (held c.join_children-in-Nodes-Nodes.new.high_slots) a b u v c.requires.height
    j.entries j.held j.low in
    let n = count g.L.Leaf.entry g.L.Leaf.enough 2 node_tree c.args.self.now c.args.next.now c.self.inside.entries c.next.inside.entries
    c.join_children-in-Nodes-Nodes.new.low c.join_children-in-Nodes-Nodes.new.high c.in-Nodes-Nodes.low c.in-Nodes-Nodes.high a b u v j.entries in
    let h : front (map node_tree (held c.in-Nodes-Nodes.low)) + 1 ≡ c.args.self.now.height = ap (λ (z : Subtree g.row.L.Denot). z.height) u in
    let t = c.if-join_children.true in joined_by g.L.Leaf.entry g.L.Leaf.enough 2 node_tree _ _ _ true _ _ _ (held c.join_children-in-Nodes-Nodes.new.high_slots) _ _ j.dense.0.fits j.dense.1.fits p h j.low j.high n c.requires.enough (λ _. j.one t) (λ z. absurd cc) (λ z. absurd cc)
    (λ _. no_leaves g.L.Leaf.entry g.L.Leaf.enough 0 leaf_tree (held c.no_slots.result) (ap length c.no_slots.ensures.held))

pub returns-else-join_children : goal.returns-else-join_children
returns-else-join_children g c =
    let j = c.join_children-in-Nodes-Nodes.ensures in
    let a = subst (AreUnder g.L.Leaf.entry g.L.Leaf.enough c.self.inside.entries) c.in-Nodes-Nodes.is-0 c.self.invariant in
    let b = subst (AreUnder g.L.Leaf.entry g.L.Leaf.enough c.next.inside.entries) c.in-Nodes-Nodes.is-1 c.next.invariant in
    let u = ap (λ (k : Kids g.row.L.Denot). over (kids_of k)) (sym c.in-Nodes-Nodes.is-0) ∙ c.self.view_is in
    let v = ap (λ (k : Kids g.row.L.Denot). over (kids_of k)) (sym c.in-Nodes-Nodes.is-1) ∙ c.next.view_is in
    let p = parts g.L.Leaf.entry g.L.Leaf.enough 2 node_tree c.args.self.now c.args.next.now c.self.inside.entries c.next.inside.entries
    c.join_children-in-Nodes-Nodes.new.low c.join_children-in-Nodes-Nodes.new.high c.in-Nodes-Nodes.low c.in-Nodes-Nodes.high (held c.join_children-in-Nodes-Nodes.new.low_slots) (held c.join_children-in-Nodes-Nodes.new.high_slots) a b u v c.requires.height
    j.entries j.held j.low in
    let n = count g.L.Leaf.entry g.L.Leaf.enough 2 node_tree c.args.self.now c.args.next.now c.self.inside.entries c.next.inside.entries
    c.join_children-in-Nodes-Nodes.new.low c.join_children-in-Nodes-Nodes.new.high c.in-Nodes-Nodes.low c.in-Nodes-Nodes.high a b u v j.entries in
    let h : front (map node_tree (held c.in-Nodes-Nodes.low)) + 1 ≡ c.args.self.now.height = ap (λ (z : Subtree g.row.L.Denot). z.height) u in
    let t = c.if-join_children.false in joined_by g.L.Leaf.entry g.L.Leaf.enough 2 node_tree _ _ _ false _ _ _ (held c.join_children-in-Nodes-Nodes.new.high_slots) _ _ j.dense.0.fits j.dense.1.fits p h j.low j.high n c.requires.enough (λ z. absurd cc) (λ _. j.two t) (λ _. refl)
    (λ z. absurd cc)

pub unreachable-requires : goal.unreachable-requires
unreachable-requires g c =
    let r = c.requires in
    elim c.in_default.branch [
      | in_default-via-in-Leaves+in_default w ↦ differ g.L.Leaf.entry g.L.Leaf.enough c.self.inside.entries c.next.inside.entries w.in_default.field-0-0 w.in_default.field-0-1
          c.self.inside.kids c.next.inside.kids c.args.self.now c.args.next.now w.in_default.is-0 w.in_default.is-1 c.self.invariant c.next.invariant c.self.view_is
          c.next.view_is r.some.0 r.height
      | in_default-via-in-Nodes+in_default w ↦ differ g.L.Leaf.entry g.L.Leaf.enough c.next.inside.entries c.self.inside.entries w.in_default.field-0-1 w.in_default.field-0-0
          c.next.inside.kids c.self.inside.kids c.args.next.now c.args.self.now w.in_default.is-1 w.in_default.is-0 c.next.invariant c.self.invariant c.next.view_is
          c.self.view_is r.some.1 (sym r.height)
    ]
