use Rattle.std.proofs.Common.{length, map, arith, ap, ◌∙◌, ◌≡◌, subst, refl}
use Rattle.std.proofs.lemmas.List.{length-map, length-set}
use Rattle.vm_tree.specs.Slots.{held}
use Rattle.vm_tree.specs.Nodes.{leaf_tree, node_tree}
use Rattle.vm_tree.specs.Subtree.{leaf_of, front}
use Rattle.vm_tree.specs.Found.{IsLeafOf}
use Rattle.vm_tree.proofs.Finds.{leaf_found, found_over, kid_entry}
use Rattle.vm_tree.proofs.Flats.{length-entries}
use Rattle.vm_tree.specs.Edits.{AtKey}
use Rattle.vm_tree.proofs.Widened.{key_lifts}
use Rattle.vm_tree.proofs.Settles.{over_done, can_finish, grew_done}
use Rattle.vm_tree.specs.declared.outcome.Outcome.TheVariants as outcome
use Rattle.vm_tree.specs.declared.outcome.Settled.TheVariants as settled
use Rattle.vm_tree.proofs.Results.{on_any}
use Rattle.vm_tree.proofs.edit.edit_leaves.Goals as goal

pub settle_leaves-requires : goal.settle_leaves-requires
settle_leaves-requires g c =
    let ss = map leaf_tree (held c.args.slots.now) in
    let o = c.requires.over in
    let n : length c.args.entries.now ≡ length ss = ap length o.entries ∙ length-entries g.L.Leaf.entry ss in
    let at = AtKey g.L.Leaf.entry c.args.key in
    let lift = key_lifts g.L.Leaf.entry c.args.key g.L.Leaf.enough ss (front ss) o.even c.args.entries.now o.entries c.args.i c.requires.within c.requires.from c.requires.upto in
    let w = c.in_ok-outcome.ensures.grew c.args.key in
    let m = ap length w.list ∙ length-set ss c.args.i w.new in
    let z = length-map (held c.edit_leaf_at.new.slots) leaf_tree in (
      omega arith,
      (
        omega arith,
        (
          c.edit_leaf_at.ensures.dense,
          (
            omega (arith, n, m, z),
            (
              c.requires.within,
              λ fs os r d k. can_finish g.L.Leaf.entry g.L.Leaf.enough at at _ _ leaf_tree c.args.i ss o.even (omega (arith, n, c.requires.within)) lift c.args.entries.now
                  o.entries (held c.edit_leaf_at.new.slots) c.in_ok-outcome.outcome r fs
                  os (c.in_ok-outcome.ensures.grew c.args.key) k d 0 (omega arith)
                  c.full_with-full.result _ c.in_ok-outcome.ensures.spares (λ k. c.full_with-full.ensures.some (omega (arith, k, c.len.ensures.value))),
            ),
          ),
        ),
      ),
    )

pub returns-clause-over : goal.returns-clause-over
returns-clause-over g c =
    let ss = map leaf_tree (held c.args.slots.now) in
    let o = c.requires.over in
    let n : length c.args.entries.now ≡ length ss = ap length o.entries ∙ length-entries g.L.Leaf.entry ss in
    let at = AtKey g.L.Leaf.entry c.args.key in
    let lift = key_lifts g.L.Leaf.entry c.args.key g.L.Leaf.enough ss (front ss) o.even c.args.entries.now o.entries c.args.i c.requires.within c.requires.from c.requires.upto in
    over_done g.L.Leaf.entry g.L.Leaf.enough at at _ _ leaf_tree c.args.i ss o.even (omega (arith, n, c.requires.within)) lift c.args.entries.now
    o.entries (held c.edit_leaf_at.new.slots) c.in_ok-outcome.outcome c.settle_leaves.ensures.settled.settled c.settle_leaves.new.entries
    c.settle_leaves.new.slots (c.in_ok-outcome.ensures.grew c.args.key) c.settle_leaves.ensures.settled.is c.settle_leaves.ensures.dense 0 (omega arith)

pub returns-clause-grew : goal.returns-clause-grew
returns-clause-grew g c =
    let ss = map leaf_tree (held c.args.slots.now) in
    let o = c.requires.over in
    let n : length c.args.entries.now ≡ length ss = ap length o.entries ∙ length-entries g.L.Leaf.entry ss in
    let at = AtKey g.L.Leaf.entry c.args.key in
    let lift = key_lifts g.L.Leaf.entry c.args.key g.L.Leaf.enough ss (front ss) o.even c.args.entries.now o.entries c.args.i c.requires.within c.requires.from c.requires.upto in
    grew_done g.L.Leaf.entry g.L.Leaf.enough at at _ _ leaf_tree c.args.i ss o.even (omega (arith, n, c.requires.within)) lift c.args.entries.now
    o.entries (held c.edit_leaf_at.new.slots) c.in_ok-outcome.outcome c.settle_leaves.ensures.settled.settled c.settle_leaves.new.entries
    c.settle_leaves.new.slots (c.in_ok-outcome.ensures.grew c.args.key) c.settle_leaves.ensures.settled.is c.settle_leaves.ensures.dense 0 (omega arith)
    node_tree _ _ c.settle_leaves.result c.settle_leaves.ensures.settled.finished

pub edit_leaf_at-requires : goal.edit_leaf_at-requires
edit_leaf_at-requires g c =
    let ss = map leaf_tree (held c.args.slots.now) in
    let o = c.requires.over in
    let n : length c.args.entries.now ≡ length ss = ap length o.entries ∙ length-entries g.L.Leaf.entry ss in
    let m : length ss ≡ length (held c.args.slots.now) = length-map (held c.args.slots.now) leaf_tree in (
      omega arith,
      (
        omega arith,
        (
          o.dense,
          (
            omega (arith, n, m, c.requires.within),
            (
              λ l k.
                  c.requires.can l
                  (found_over g.L.Leaf.entry g.L.Leaf.enough c.args.key 0 leaf_tree c.args.entries.now c.args.slots.now o c.args.i c.requires.within k.other k.box
                  k.is c.requires.from c.requires.upto l
                  (subst (λ (x : g.row.L.Denot). IsLeafOf g.L.Leaf.entry c.args.key (leaf_of x).leaves l) k.value (leaf_found g.L.Leaf.entry c.args.key l))),
              λ l k. c.entry-was.ensures ∙ kid_entry g.L.Leaf.entry c.args.slots.now c.args.entries.now c.args.i l o.dense (omega (arith, n, m, c.requires.within)) o.entries k,
            ),
          ),
        ),
      ),
    )

pub returns-in_err-outcome-clause-failed : goal.returns-in_err-outcome-clause-failed
returns-in_err-outcome-clause-failed g c =
    let ss = map leaf_tree (held c.args.slots.now) in
    let o = c.requires.over in
    let n : length c.args.entries.now ≡ length ss = ap length o.entries ∙ length-entries g.L.Leaf.entry ss in
    let at = AtKey g.L.Leaf.entry c.args.key in
    let lift = key_lifts g.L.Leaf.entry c.args.key g.L.Leaf.enough ss (front ss) o.even c.args.entries.now o.entries c.args.i c.requires.within c.requires.from c.requires.upto in
    on_any c.from_residual.result _
    (grew_done g.L.Leaf.entry g.L.Leaf.enough at at _ _ leaf_tree c.args.i ss o.even (omega (arith, n, c.requires.within)) lift c.args.entries.now
    o.entries (held c.edit_leaf_at.new.slots) outcome.Refused settled.Refused c.args.entries.now
    c.edit_leaf_at.new.slots (c.in_err-outcome.ensures.failed c.args.key) (record { entries = refl; kids = refl }) c.edit_leaf_at.ensures.dense 0 (omega arith)
    node_tree 0 0 outcome.Refused tt)

pub returns-in_err-outcome-clause-spare : goal.returns-in_err-outcome-clause-spare
returns-in_err-outcome-clause-spare g c = λ p.
    let ss = map leaf_tree (held c.args.slots.now) in
    let o = c.requires.over in
    let n : length c.args.entries.now ≡ length ss = ap length o.entries ∙ length-entries g.L.Leaf.entry ss in
    let at = AtKey g.L.Leaf.entry c.args.key in
    let lift = key_lifts g.L.Leaf.entry c.args.key g.L.Leaf.enough ss (front ss) o.even c.args.entries.now o.entries c.args.i c.requires.within c.requires.from c.requires.upto in
    on_any c.from_residual.result _
    (grew_done g.L.Leaf.entry g.L.Leaf.enough at at _ _ leaf_tree c.args.i ss o.even (omega (arith, n, c.requires.within)) lift c.args.entries.now
    o.entries (held c.edit_leaf_at.new.slots) outcome.Refused settled.Refused c.args.entries.now
    c.edit_leaf_at.new.slots (c.in_err-outcome.ensures.spare c.args.key (omega (arith, p, c.full_with-full.ensures.most))) (record { entries = refl; kids = refl }) c.edit_leaf_at.ensures.dense 0 (omega arith)
    node_tree 0 0 outcome.Refused tt)
