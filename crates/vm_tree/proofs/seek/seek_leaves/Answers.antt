use Rattle.std.proofs.Common.{length, map, arith, ap, ◌∙◌, ◌≡◌, refl}
use Rattle.std.proofs.lemmas.List.{length-map, length-set}
use Rattle.vm_tree.specs.Slots.{held}
use Rattle.vm_tree.specs.Nodes.{leaf_tree, node_tree}
use Rattle.vm_tree.specs.Subtree.{nth_tree}
use Rattle.vm_tree.specs.Sought.{AtNearest, IsInChild}
use Rattle.vm_tree.proofs.Finds.{kid_entry}
use Rattle.vm_tree.proofs.Flats.{length-entries}
use Rattle.vm_tree.proofs.Settles.{over_done, can_finish, grew_done}
use Rattle.vm_tree.proofs.Soughts.{in_child}
use Rattle.vm_tree.specs.declared.outcome.Outcome.TheVariants as outcome
use Rattle.vm_tree.specs.declared.outcome.Settled.TheVariants as settled
use Rattle.vm_tree.proofs.Results.{on_any}
use Rattle.vm_tree.proofs.seek.seek_leaves.Goals as goal

pub seek_leaf_at-requires : goal.seek_leaf_at-requires
seek_leaf_at-requires g c =
    let ss = map leaf_tree (held c.args.slots.now) in
    let o = c.requires.over in
    let n : length c.args.entries.now ≡ length ss = ap length o.entries ∙ length-entries g.L.Leaf.entry ss in
    let m : length ss ≡ length (held c.args.slots.now) = length-map (held c.args.slots.now) leaf_tree in (
      omega arith,
      (
        omega arith,
        (
          o.dense,
          (
            omega (arith, n, m, c.requires.within),
            (
              c.requires.may,
              λ l k. c.entry-was.ensures ∙ kid_entry g.L.Leaf.entry c.args.slots.now c.args.entries.now c.args.i l o.dense (omega (arith, n, m, c.requires.within)) o.entries k,
            ),
          ),
        ),
      ),
    )

pub settle_leaves-requires : goal.settle_leaves-requires
settle_leaves-requires g c =
    let ss = map leaf_tree (held c.args.slots.now) in
    let o = c.requires.over in
    let n : length c.args.entries.now ≡ length ss = ap length o.entries ∙ length-entries g.L.Leaf.entry ss in
    let at = AtNearest (g.S.Seek.seeking c.args.seek.now) c.args.count.now c.seek_leaf_at.new.count (nth_tree ss c.args.i) in
    let w = rw c.in-Some.is at c.in_ok-outcome.ensures.sought in
    let p = rw c.in-Some.is at c.in_ok-outcome.ensures.spares in
    let m = ap length w.list ∙ length-set ss c.args.i w.new in
    let z = length-map (held c.seek_leaf_at.new.slots) leaf_tree in (
      omega arith,
      (
        omega arith,
        (
          c.seek_leaf_at.ensures.dense,
          (
            omega (arith, n, m, z),
            (
              c.requires.within,
              λ fs os r d k. can_finish g.L.Leaf.entry g.L.Leaf.enough at (IsInChild at c.args.i ss) _ _ leaf_tree c.args.i ss o.even (omega (arith, n, c.requires.within))
                  (in_child at c.args.i ss) c.args.entries.now
                  o.entries (held c.seek_leaf_at.new.slots) c.in-Some.outcome r fs
                  os w k d 0 (omega arith)
                  c.full_with-full.result _ p (λ k. c.full_with-full.ensures.some (omega (arith, k, c.len.ensures.value))),
            ),
          ),
        ),
      ),
    )

pub returns-clause-over : goal.returns-clause-over
returns-clause-over g c =
    let ss = map leaf_tree (held c.args.slots.now) in
    let o = c.requires.over in
    let n : length c.args.entries.now ≡ length ss = ap length o.entries ∙ length-entries g.L.Leaf.entry ss in
    let at = AtNearest (g.S.Seek.seeking c.args.seek.now) c.args.count.now c.seek_leaf_at.new.count (nth_tree ss c.args.i) in
    let w = rw c.in-Some.is at c.in_ok-outcome.ensures.sought in
    over_done g.L.Leaf.entry g.L.Leaf.enough at (IsInChild at c.args.i ss) _ _ leaf_tree c.args.i ss o.even (omega (arith, n, c.requires.within))
    (in_child at c.args.i ss) c.args.entries.now o.entries (held c.seek_leaf_at.new.slots) c.in-Some.outcome c.settle_leaves.ensures.settled.settled c.settle_leaves.new.entries
    c.settle_leaves.new.slots w c.settle_leaves.ensures.settled.is c.settle_leaves.ensures.dense 0 (omega arith)

pub returns-clause-sought : goal.returns-clause-sought
returns-clause-sought g c =
    let ss = map leaf_tree (held c.args.slots.now) in
    let o = c.requires.over in
    let n : length c.args.entries.now ≡ length ss = ap length o.entries ∙ length-entries g.L.Leaf.entry ss in
    let at = AtNearest (g.S.Seek.seeking c.args.seek.now) c.args.count.now c.seek_leaf_at.new.count (nth_tree ss c.args.i) in
    let w = rw c.in-Some.is at c.in_ok-outcome.ensures.sought in
    grew_done g.L.Leaf.entry g.L.Leaf.enough at (IsInChild at c.args.i ss) _ _ leaf_tree c.args.i ss o.even (omega (arith, n, c.requires.within))
    (in_child at c.args.i ss) c.args.entries.now o.entries (held c.seek_leaf_at.new.slots) c.in-Some.outcome c.settle_leaves.ensures.settled.settled c.settle_leaves.new.entries
    c.settle_leaves.new.slots w c.settle_leaves.ensures.settled.is c.settle_leaves.ensures.dense 0 (omega arith)
    node_tree _ _ c.settle_leaves.result c.settle_leaves.ensures.settled.finished

pub returns-in_err-outcome-clause-failed : goal.returns-in_err-outcome-clause-failed
returns-in_err-outcome-clause-failed g c =
    let ss = map leaf_tree (held c.args.slots.now) in
    let o = c.requires.over in
    let n : length c.args.entries.now ≡ length ss = ap length o.entries ∙ length-entries g.L.Leaf.entry ss in
    let at = AtNearest (g.S.Seek.seeking c.args.seek.now) c.args.count.now c.seek_leaf_at.new.count (nth_tree ss c.args.i) in
    on_any c.from_residual.result _
    (grew_done g.L.Leaf.entry g.L.Leaf.enough at (IsInChild at c.args.i ss) _ _ leaf_tree c.args.i ss o.even (omega (arith, n, c.requires.within))
    (in_child at c.args.i ss) c.args.entries.now o.entries (held c.seek_leaf_at.new.slots) outcome.Refused settled.Refused c.args.entries.now
    c.seek_leaf_at.new.slots c.in_err-outcome.ensures.failed (record { entries = refl; kids = refl }) c.seek_leaf_at.ensures.dense 0 (omega arith)
    node_tree 0 0 outcome.Refused tt)
