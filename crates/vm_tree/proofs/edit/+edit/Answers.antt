use Rattle.std.proofs.Common.{rules, ◌≡◌, ◌+◌, ◌<◌, length, map, arith, ap, subst, sym, ◌∙◌, refl}
use Rattle.std.proofs.lemmas.List.{length-map, length-set}
use Rattle.vm_tree.specs.Slots.{held}
use Rattle.vm_tree.specs.Subtree.{Subtree, kids, front, nth_tree, Ascend}
use Rattle.vm_tree.specs.Nodes.{leaf_tree, node_tree, kids_of}
use Rattle.vm_tree.specs.declared.node.Kids.{Kids}
use Rattle.vm_tree.proofs.Below.{at as below, grew_at, kept_at}
use Rattle.vm_tree.proofs.Flats.{length-entries, full_at, child_ascends}
use Rattle.vm_tree.specs.declared.outcome.Outcome.TheVariants as outcome
use Rattle.vm_tree.specs.declared.outcome.Settled.TheVariants as settled
use Rattle.vm_tree.specs.Edits.{AtKey}
use Rattle.vm_tree.proofs.Widened.{key_lifts}
use Rattle.vm_tree.proofs.Settles.{over_done, can_finish, grew_done}
use Rattle.vm_tree.specs.Found.{IsLeafOf}
use Rattle.vm_tree.proofs.Finds.{over_found}
use Rattle.vm_tree.proofs.Unders.{under_ascends, front_leaf}
use Rattle.vm_tree.proofs.Results.{if_ok, on_err, on_any}
use Rattle.vm_tree.proofs.edit.+edit.Goals as goal

pub edit_at-index_of-i-requires-clause-order : goal.edit_at-index_of-i-requires-clause-order
edit_at-index_of-i-requires-clause-order g t c = λ i j p q r.
    under_ascends g.L.Leaf.entry g.L.Leaf.enough c.node.inside.entries c.node.inside.kids c.node.invariant
    (subst (λ (s : Subtree g.row.L.Denot). Ascend g.L.Leaf.entry s.leaves) (sym c.node.view_is) c.requires.ascend) i j p q r

pub edit_at-returns-in-Leaves-clause-count : goal.edit_at-returns-in-Leaves-clause-count
edit_at-returns-in-Leaves-clause-count g t c =
    let h : front (map leaf_tree (held c.in-Leaves.slots)) + 1 ≡ c.args.node.now.height =
    ap (λ (k : Kids g.row.L.Denot). front (kids_of k) + 1) (sym c.in-Leaves.is) ∙ ap (λ (s : Subtree g.row.L.Denot). s.height) c.node.view_is in
    let k : length (map leaf_tree (held c.in-Leaves.slots)) ≡ kids c.args.node.now =
    ap (λ (k : Kids g.row.L.Denot). length (kids_of k)) (sym c.in-Leaves.is) ∙ ap (λ (s : Subtree g.row.L.Denot). kids s) c.node.view_is in
    let n = length-map (held c.in-Leaves.slots) leaf_tree in
    let y = front_leaf (held c.in-Leaves.slots) (omega (arith, k, n, c.requires.some)) in
    let z = c.edit_leaves.ensures.count in
    record { upto = omega (arith, h, y, z); from = omega (arith, h, y, z) }

pub edit_node_at-edit_at-requires : goal.edit_node_at-edit_at-requires
edit_node_at-edit_at-requires g t c κs within =
    let e = below node_tree c.args.slots.now c.args.i _ c.in-Some.kid c.in-Some.kid c.requires.dense c.requires.within c.in-Some.is ∙ sym c.deref_mut-kid.ensures.value in
    let d : (nth_tree (map node_tree (held c.args.slots.now)) c.args.i).height ≡ c.deref_mut-kid.result.now.height =
    ap (λ (s : Subtree g.row.L.Denot). s.height) e in (
      search (rules, d, c.decreases),
      (
        within.0,
        (
          within.1,
          (
            omega arith,
            (
              subst (λ (s : Subtree g.row.L.Denot). 0 < kids s) e c.requires.some,
              (
                subst (λ (s : Subtree g.row.L.Denot). Ascend g.L.Leaf.entry s.leaves) e c.requires.ascend,
                subst (λ (s : Subtree g.row.L.Denot). (l : g.row.L.Denot) → IsLeafOf g.L.Leaf.entry c.args.key s.leaves l → g.E.Edit.can_change c.args.edit.now l) e
                    c.requires.can,
              ),
            ),
          ),
        ),
      ),
    )

pub edit_node_at-returns-clause-grew : goal.edit_node_at-returns-clause-grew
edit_node_at-returns-clause-grew g t c =
    if_ok c.edit_at.result _ _
    (λ o h. grew_at node_tree c.args.slots.now c.args.i _ c.in-Some.kid _ c.requires.dense c.requires.within c.in-Some.is g.L.Leaf.entry g.L.Leaf.enough
    _ _ _ o _ c.deref_mut-kid.ensures.value h)
    c.edit_at.ensures.grew

pub edit_node_at-returns-clause-unchanged : goal.edit_node_at-returns-clause-unchanged
edit_node_at-returns-clause-unchanged g t c =
    on_err c.edit_at.result _ _
    (λ h. (
      kept_at node_tree c.args.slots.now c.args.i _ c.in-Some.kid _ c.requires.dense c.requires.within c.in-Some.is (h.0 ∙ c.deref_mut-kid.ensures.value),
      h.1,
    ))
    c.edit_at.ensures.unchanged

pub edit_node_at-returns-clause-count : goal.edit_node_at-returns-clause-count
edit_node_at-returns-clause-count g t c =
    let e = below node_tree c.args.slots.now c.args.i _ c.in-Some.kid c.in-Some.kid c.requires.dense c.requires.within c.in-Some.is in
    let x = c.edit_at.ensures.count in
    let y = ap (λ (s : Subtree g.row.L.Denot). s.height) e in
    let z = ap (λ (s : Subtree g.row.L.Denot). s.height) c.deref_mut-kid.ensures.value in
    record { upto = omega (arith, x, y, z); from = omega (arith, x, y, z) }

pub edit_nodes-edit_node_at-requires : goal.edit_nodes-edit_node_at-requires
edit_nodes-edit_node_at-requires g t c κs within =
    let ss = map node_tree (held c.args.slots.now) in
    let o = c.requires.over in
    let n : length c.args.entries.now ≡ length ss = ap length o.entries ∙ length-entries g.L.Leaf.entry ss in
    let k : length ss ≡ length (held c.args.slots.now) = length-map (held c.args.slots.now) node_tree in
    let f = full_at g.L.Leaf.enough (front ss) ss c.args.i o.even (omega (arith, n, c.requires.within)) in
    let h : (nth_tree ss c.args.i).height ≡ front ss = f.height in (
      search (rules, h, c.decreases),
      (
        within.0,
        (
          within.1,
          (
            omega arith,
            (
              omega arith,
              (
                o.dense,
                (
                  omega (arith, n, k, c.requires.within),
                  (
                    omega (arith, f.fan (omega (arith, o.deep))),
                    (
                      child_ascends g.L.Leaf.entry c.args.i ss c.requires.ascend,
                      λ l f. c.requires.can l (over_found g.L.Leaf.entry g.L.Leaf.enough c.args.key c.args.entries.now ss o.even o.entries c.args.i
                          c.requires.within c.requires.from c.requires.upto l f),
                    ),
                  ),
                ),
              ),
            ),
          ),
        ),
      ),
    )

pub edit_nodes-returns-in_err-outcome-clause-count : goal.edit_nodes-returns-in_err-outcome-clause-count
edit_nodes-returns-in_err-outcome-clause-count g t c =
    let ss = map node_tree (held c.args.slots.now) in
    let o = c.requires.over in
    let n : length c.args.entries.now ≡ length ss = ap length o.entries ∙ length-entries g.L.Leaf.entry ss in
    let x = c.edit_node_at.ensures.count in
    let y = (full_at g.L.Leaf.enough (front ss) ss c.args.i o.even (omega (arith, n, c.requires.within))).height in
    record { upto = omega (arith, x, y); from = omega (arith, x, y) }

pub edit_nodes-settle_nodes-requires : goal.edit_nodes-settle_nodes-requires
edit_nodes-settle_nodes-requires g t c =
    let ss = map node_tree (held c.args.slots.now) in
    let o = c.requires.over in
    let n : length c.args.entries.now ≡ length ss = ap length o.entries ∙ length-entries g.L.Leaf.entry ss in
    let at = AtKey g.L.Leaf.entry c.args.key in
    let lift = key_lifts g.L.Leaf.entry c.args.key g.L.Leaf.enough ss (front ss) o.even c.args.entries.now o.entries c.args.i c.requires.within c.requires.from c.requires.upto in
    let w = c.in_ok-outcome.ensures.grew in
    let m = ap length w.list ∙ length-set ss c.args.i w.new in
    let z = length-map (held c.edit_node_at.new.slots) node_tree in (
      omega arith,
      (
        omega arith,
        (
          c.edit_node_at.ensures.dense,
          (
            omega (arith, n, m, z),
            (
              c.requires.within,
              λ fs os r d k. can_finish g.L.Leaf.entry g.L.Leaf.enough at at _ _ node_tree c.args.i ss o.even (omega (arith, n, c.requires.within)) lift c.args.entries.now
                  o.entries (held c.edit_node_at.new.slots) c.in_ok-outcome.outcome r fs
                  os c.in_ok-outcome.ensures.grew k d 2 o.deep
                  c.full_with-full.result _ c.in_ok-outcome.ensures.spares (λ k. c.full_with-full.ensures.some (omega (arith, k, c.len.ensures.value))),
            ),
          ),
        ),
      ),
    )

pub edit_nodes-returns-clause-over : goal.edit_nodes-returns-clause-over
edit_nodes-returns-clause-over g t c =
    let ss = map node_tree (held c.args.slots.now) in
    let o = c.requires.over in
    let n : length c.args.entries.now ≡ length ss = ap length o.entries ∙ length-entries g.L.Leaf.entry ss in
    let at = AtKey g.L.Leaf.entry c.args.key in
    let lift = key_lifts g.L.Leaf.entry c.args.key g.L.Leaf.enough ss (front ss) o.even c.args.entries.now o.entries c.args.i c.requires.within c.requires.from c.requires.upto in
    over_done g.L.Leaf.entry g.L.Leaf.enough at at _ _ node_tree c.args.i ss o.even (omega (arith, n, c.requires.within)) lift c.args.entries.now
    o.entries (held c.edit_node_at.new.slots) c.in_ok-outcome.outcome c.settle_nodes.ensures.settled.settled c.settle_nodes.new.entries
    c.settle_nodes.new.slots c.in_ok-outcome.ensures.grew c.settle_nodes.ensures.settled.is c.settle_nodes.ensures.dense 2 o.deep

pub edit_nodes-returns-clause-grew : goal.edit_nodes-returns-clause-grew
edit_nodes-returns-clause-grew g t c =
    let ss = map node_tree (held c.args.slots.now) in
    let o = c.requires.over in
    let n : length c.args.entries.now ≡ length ss = ap length o.entries ∙ length-entries g.L.Leaf.entry ss in
    let at = AtKey g.L.Leaf.entry c.args.key in
    let lift = key_lifts g.L.Leaf.entry c.args.key g.L.Leaf.enough ss (front ss) o.even c.args.entries.now o.entries c.args.i c.requires.within c.requires.from c.requires.upto in
    grew_done g.L.Leaf.entry g.L.Leaf.enough at at _ _ node_tree c.args.i ss o.even (omega (arith, n, c.requires.within)) lift c.args.entries.now
    o.entries (held c.edit_node_at.new.slots) c.in_ok-outcome.outcome c.settle_nodes.ensures.settled.settled c.settle_nodes.new.entries
    c.settle_nodes.new.slots c.in_ok-outcome.ensures.grew c.settle_nodes.ensures.settled.is c.settle_nodes.ensures.dense 2 o.deep
    node_tree _ _ c.settle_nodes.result c.settle_nodes.ensures.settled.finished

pub edit_nodes-returns-clause-count : goal.edit_nodes-returns-clause-count
edit_nodes-returns-clause-count g t c =
    let ss = map node_tree (held c.args.slots.now) in
    let o = c.requires.over in
    let n : length c.args.entries.now ≡ length ss = ap length o.entries ∙ length-entries g.L.Leaf.entry ss in
    let x = c.edit_node_at.ensures.count in
    let y = (full_at g.L.Leaf.enough (front ss) ss c.args.i o.even (omega (arith, n, c.requires.within))).height in
    record { upto = omega (arith, x, y); from = omega (arith, x, y) }

pub edit_node_at-returns-clause-failed : goal.edit_node_at-returns-clause-failed
edit_node_at-returns-clause-failed g t c =
    on_err c.edit_at.result _ _
    (λ h. grew_at node_tree c.args.slots.now c.args.i _ c.in-Some.kid _ c.requires.dense c.requires.within c.in-Some.is g.L.Leaf.entry g.L.Leaf.enough
    _ _ _ outcome.Refused _ c.deref_mut-kid.ensures.value h)
    c.edit_at.ensures.failed

pub edit_nodes-returns-in_err-outcome-clause-failed : goal.edit_nodes-returns-in_err-outcome-clause-failed
edit_nodes-returns-in_err-outcome-clause-failed g t c =
    let ss = map node_tree (held c.args.slots.now) in
    let o = c.requires.over in
    let n : length c.args.entries.now ≡ length ss = ap length o.entries ∙ length-entries g.L.Leaf.entry ss in
    let at = AtKey g.L.Leaf.entry c.args.key in
    let lift = key_lifts g.L.Leaf.entry c.args.key g.L.Leaf.enough ss (front ss) o.even c.args.entries.now o.entries c.args.i c.requires.within c.requires.from c.requires.upto in
    on_any c.from_residual.result _
    (grew_done g.L.Leaf.entry g.L.Leaf.enough at at _ _ node_tree c.args.i ss o.even (omega (arith, n, c.requires.within)) lift c.args.entries.now
    o.entries (held c.edit_node_at.new.slots) outcome.Refused settled.Refused c.args.entries.now
    c.edit_node_at.new.slots (c.in_err-outcome.ensures.failed) (record { entries = refl; kids = refl }) c.edit_node_at.ensures.dense 2 o.deep
    node_tree 0 0 outcome.Refused tt)

pub edit_node_at-returns-clause-spare : goal.edit_node_at-returns-clause-spare
edit_node_at-returns-clause-spare g t c = λ p.
    let e = below node_tree c.args.slots.now c.args.i _ c.in-Some.kid c.in-Some.kid c.requires.dense c.requires.within c.in-Some.is in
    on_err c.edit_at.result _ _
    (λ h. grew_at node_tree c.args.slots.now c.args.i _ c.in-Some.kid _ c.requires.dense c.requires.within c.in-Some.is g.L.Leaf.entry g.L.Leaf.enough
    _ _ _ outcome.Refused _ c.deref_mut-kid.ensures.value h)
    (c.edit_at.ensures.spare (omega (arith, p, ap (λ (s : Subtree g.row.L.Denot). s.height) e, ap (λ (s : Subtree g.row.L.Denot). s.height) c.deref_mut-kid.ensures.value)))

pub edit_nodes-returns-in_err-outcome-clause-spare : goal.edit_nodes-returns-in_err-outcome-clause-spare
edit_nodes-returns-in_err-outcome-clause-spare g t c = λ p.
    let ss = map node_tree (held c.args.slots.now) in
    let o = c.requires.over in
    let n : length c.args.entries.now ≡ length ss = ap length o.entries ∙ length-entries g.L.Leaf.entry ss in
    let at = AtKey g.L.Leaf.entry c.args.key in
    let lift = key_lifts g.L.Leaf.entry c.args.key g.L.Leaf.enough ss (front ss) o.even c.args.entries.now o.entries c.args.i c.requires.within c.requires.from c.requires.upto in
    on_any c.from_residual.result _
    (grew_done g.L.Leaf.entry g.L.Leaf.enough at at _ _ node_tree c.args.i ss o.even (omega (arith, n, c.requires.within)) lift c.args.entries.now
    o.entries (held c.edit_node_at.new.slots) outcome.Refused settled.Refused c.args.entries.now
    c.edit_node_at.new.slots (c.in_err-outcome.ensures.spare (omega (arith, p, c.full_with-full.ensures.most, (full_at g.L.Leaf.enough (front ss) ss c.args.i o.even (omega (arith, n, c.requires.within))).height))) (record { entries = refl; kids = refl }) c.edit_node_at.ensures.dense 2 o.deep
    node_tree 0 0 outcome.Refused tt)

pub edit_at-returns-in-Leaves-clause-spare : goal.edit_at-returns-in-Leaves-clause-spare
edit_at-returns-in-Leaves-clause-spare g t c = λ p.
    let h : front (map leaf_tree (held c.in-Leaves.slots)) + 1 ≡ c.args.node.now.height =
    ap (λ (k : Kids g.row.L.Denot). front (kids_of k) + 1) (sym c.in-Leaves.is) ∙ ap (λ (s : Subtree g.row.L.Denot). s.height) c.node.view_is in
    let k : length (map leaf_tree (held c.in-Leaves.slots)) ≡ kids c.args.node.now =
    ap (λ (k : Kids g.row.L.Denot). length (kids_of k)) (sym c.in-Leaves.is) ∙ ap (λ (s : Subtree g.row.L.Denot). kids s) c.node.view_is in
    let n = length-map (held c.in-Leaves.slots) leaf_tree in
    let q = c.edit_leaves.ensures.spare (omega (arith, p, h, front_leaf (held c.in-Leaves.slots) (omega (arith, k, n, c.requires.some)))) in
    search (rules, q)

pub edit_at-returns-in-Nodes-clause-spare : goal.edit_at-returns-in-Nodes-clause-spare
edit_at-returns-in-Nodes-clause-spare g t c = λ p.
    let h : front (map node_tree (held c.in-Nodes.slots)) + 1 ≡ c.args.node.now.height =
    ap (λ (k : Kids g.row.L.Denot). front (kids_of k) + 1) (sym c.in-Nodes.is) ∙ ap (λ (s : Subtree g.row.L.Denot). s.height) c.node.view_is in
    let q = c.edit_nodes.ensures.spare (omega (arith, p, h)) in
    search (rules, q)
