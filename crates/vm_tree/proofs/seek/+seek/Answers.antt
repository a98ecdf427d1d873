use Rattle.std.proofs.Common.{rules, ◌≡◌, ◌<◌, length, map, Some, arith, ap, subst, sym, ◌∙◌, refl}
use Rattle.std.proofs.lemmas.List.{length-map, length-set}
use Rattle.vm_tree.specs.Slots.{held}
use Rattle.vm_tree.specs.Subtree.{Subtree, kids, front, over, nth_tree}
use Rattle.vm_tree.specs.Nodes.{node_tree, kids_of}
use Rattle.vm_tree.specs.Sought.{MayEnter, AtNearest, IsInChild}
use Rattle.vm_tree.specs.declared.outcome.Outcome.TheVariants as outcome
use Rattle.vm_tree.specs.declared.outcome.Settled.TheVariants as settled
use Rattle.vm_tree.proofs.Below.{at as below}
use Rattle.vm_tree.proofs.Flats.{length-entries, full_at}
use Rattle.vm_tree.proofs.Settles.{over_done, can_finish, grew_done}
use Rattle.vm_tree.proofs.Soughts.{in_child, in_node, sought_at, map_grew, map_kept}
use Rattle.vm_tree.proofs.Nexts.{kids_order, kids_start, next_within, next_may, next_found, passes_first, passes_last, none_next}
use Rattle.vm_tree.proofs.Results.{if_ok, on_err, on_any}
use Rattle.vm_tree.proofs.seek.+seek.Goals as goal

pub seek_node_at-seek_at-requires : goal.seek_node_at-seek_at-requires
seek_node_at-seek_at-requires g t c κs within =
    let e = below node_tree c.args.slots.now c.args.i _ c.in-Some.kid c.in-Some.kid c.requires.dense c.requires.within c.in-Some.is ∙ sym c.deref_mut-kid.ensures.value in
    let d : (nth_tree (map node_tree (held c.args.slots.now)) c.args.i).height ≡ c.deref_mut-kid.result.now.height =
    ap (λ (s : Subtree g.row.L.Denot). s.height) e in (
      search (rules, d, c.decreases),
      (
        within.0,
        (
          within.1,
          (
            omega arith,
            (
              subst (λ (s : Subtree g.row.L.Denot). 0 < kids s) e c.requires.some,
              subst (λ (s : Subtree g.row.L.Denot). MayEnter g.L.Leaf.entry (g.S.Seek.seeking c.args.seek.now) s.leaves) e c.requires.may,
            ),
          ),
        ),
      ),
    )

pub seek_node_at-returns-clause-sought : goal.seek_node_at-returns-clause-sought
seek_node_at-returns-clause-sought g t c =
    if_ok c.seek_at.result _ _
    (λ r h. sought_at node_tree c.args.slots.now c.args.i _ c.in-Some.kid _ c.requires.dense c.requires.within c.in-Some.is g.L.Leaf.entry g.L.Leaf.enough
    (g.S.Seek.seeking c.args.seek.now) _ _ _ _ _ c.deref_mut-kid.ensures.value r h)
    c.seek_at.ensures.sought

pub seek_node_at-returns-clause-failed : goal.seek_node_at-returns-clause-failed
seek_node_at-returns-clause-failed g t c =
    on_err c.seek_at.result _ _
    (λ h. sought_at node_tree c.args.slots.now c.args.i _ c.in-Some.kid _ c.requires.dense c.requires.within c.in-Some.is g.L.Leaf.entry g.L.Leaf.enough
    (g.S.Seek.seeking c.args.seek.now) _ _ _ _ _ c.deref_mut-kid.ensures.value (Some outcome.Refused) h)
    c.seek_at.ensures.failed

pub seek_nodes-seek_node_at-requires : goal.seek_nodes-seek_node_at-requires
seek_nodes-seek_node_at-requires g t c κs within =
    let ss = map node_tree (held c.args.slots.now) in
    let o = c.requires.over in
    let n : length c.args.entries.now ≡ length ss = ap length o.entries ∙ length-entries g.L.Leaf.entry ss in
    let k : length ss ≡ length (held c.args.slots.now) = length-map (held c.args.slots.now) node_tree in
    let f = full_at g.L.Leaf.enough (front ss) ss c.args.i o.even (omega (arith, n, c.requires.within)) in
    let h : (nth_tree ss c.args.i).height ≡ front ss = f.height in (
      search (rules, h, c.decreases),
      (
        within.0,
        (
          within.1,
          (
            omega arith,
            (omega arith, (o.dense, (omega (arith, n, k, c.requires.within), (omega (arith, f.fan (omega (arith, o.deep))), c.requires.may)))),
          ),
        ),
      ),
    )

pub seek_nodes-settle_nodes-requires : goal.seek_nodes-settle_nodes-requires
seek_nodes-settle_nodes-requires g t c =
    let ss = map node_tree (held c.args.slots.now) in
    let o = c.requires.over in
    let n : length c.args.entries.now ≡ length ss = ap length o.entries ∙ length-entries g.L.Leaf.entry ss in
    let at = AtNearest (g.S.Seek.seeking c.args.seek.now) c.args.count.now c.seek_node_at.new.count (nth_tree ss c.args.i) in
    let w = rw c.in-Some.is at c.in_ok-outcome.ensures.sought in
    let p = rw c.in-Some.is at c.in_ok-outcome.ensures.spares in
    let m = ap length w.list ∙ length-set ss c.args.i w.new in
    let z = length-map (held c.seek_node_at.new.slots) node_tree in (
      omega arith,
      (
        omega arith,
        (
          c.seek_node_at.ensures.dense,
          (
            omega (arith, n, m, z),
            (
              c.requires.within,
              λ fs os r d k. can_finish g.L.Leaf.entry g.L.Leaf.enough at (IsInChild at c.args.i ss) _ _ node_tree c.args.i ss o.even (omega (arith, n, c.requires.within))
                  (in_child at c.args.i ss) c.args.entries.now
                  o.entries (held c.seek_node_at.new.slots) c.in-Some.outcome r fs
                  os w k d 2 o.deep
                  c.full_with-full.result _ p (λ k. c.full_with-full.ensures.some (omega (arith, k, c.len.ensures.value))),
            ),
          ),
        ),
      ),
    )

pub seek_nodes-returns-clause-over : goal.seek_nodes-returns-clause-over
seek_nodes-returns-clause-over g t c =
    let ss = map node_tree (held c.args.slots.now) in
    let o = c.requires.over in
    let n : length c.args.entries.now ≡ length ss = ap length o.entries ∙ length-entries g.L.Leaf.entry ss in
    let at = AtNearest (g.S.Seek.seeking c.args.seek.now) c.args.count.now c.seek_node_at.new.count (nth_tree ss c.args.i) in
    let w = rw c.in-Some.is at c.in_ok-outcome.ensures.sought in
    over_done g.L.Leaf.entry g.L.Leaf.enough at (IsInChild at c.args.i ss) _ _ node_tree c.args.i ss o.even (omega (arith, n, c.requires.within))
    (in_child at c.args.i ss) c.args.entries.now o.entries (held c.seek_node_at.new.slots) c.in-Some.outcome c.settle_nodes.ensures.settled.settled c.settle_nodes.new.entries
    c.settle_nodes.new.slots w c.settle_nodes.ensures.settled.is c.settle_nodes.ensures.dense 2 o.deep

pub seek_nodes-returns-clause-sought : goal.seek_nodes-returns-clause-sought
seek_nodes-returns-clause-sought g t c =
    let ss = map node_tree (held c.args.slots.now) in
    let o = c.requires.over in
    let n : length c.args.entries.now ≡ length ss = ap length o.entries ∙ length-entries g.L.Leaf.entry ss in
    let at = AtNearest (g.S.Seek.seeking c.args.seek.now) c.args.count.now c.seek_node_at.new.count (nth_tree ss c.args.i) in
    let w = rw c.in-Some.is at c.in_ok-outcome.ensures.sought in
    grew_done g.L.Leaf.entry g.L.Leaf.enough at (IsInChild at c.args.i ss) _ _ node_tree c.args.i ss o.even (omega (arith, n, c.requires.within))
    (in_child at c.args.i ss) c.args.entries.now o.entries (held c.seek_node_at.new.slots) c.in-Some.outcome c.settle_nodes.ensures.settled.settled c.settle_nodes.new.entries
    c.settle_nodes.new.slots w c.settle_nodes.ensures.settled.is c.settle_nodes.ensures.dense 2 o.deep
    node_tree _ _ c.settle_nodes.result c.settle_nodes.ensures.settled.finished

pub seek_nodes-returns-in_err-outcome-clause-failed : goal.seek_nodes-returns-in_err-outcome-clause-failed
seek_nodes-returns-in_err-outcome-clause-failed g t c =
    let ss = map node_tree (held c.args.slots.now) in
    let o = c.requires.over in
    let n : length c.args.entries.now ≡ length ss = ap length o.entries ∙ length-entries g.L.Leaf.entry ss in
    let at = AtNearest (g.S.Seek.seeking c.args.seek.now) c.args.count.now c.seek_node_at.new.count (nth_tree ss c.args.i) in
    on_any c.from_residual.result _
    (grew_done g.L.Leaf.entry g.L.Leaf.enough at (IsInChild at c.args.i ss) _ _ node_tree c.args.i ss o.even (omega (arith, n, c.requires.within))
    (in_child at c.args.i ss) c.args.entries.now o.entries (held c.seek_node_at.new.slots) outcome.Refused settled.Refused c.args.entries.now
    c.seek_node_at.new.slots c.in_err-outcome.ensures.failed (record { entries = refl; kids = refl }) c.seek_node_at.ensures.dense 2 o.deep
    node_tree 0 0 outcome.Refused tt)

pub seek_kids-low_kid-from-requires-clause-order : goal.seek_kids-low_kid-from-requires-clause-order
seek_kids-low_kid-from-requires-clause-order g t c =
    kids_order g.L.Leaf.entry g.L.Leaf.enough (g.S.Seek.seeking c.args.seek.now) c.args.entries.now c.args.kids.now c.requires.under c.requires.may

pub seek_kids-kid_count-to-requires-clause-order : goal.seek_kids-kid_count-to-requires-clause-order
seek_kids-kid_count-to-requires-clause-order g t c =
    kids_order g.L.Leaf.entry g.L.Leaf.enough (g.S.Seek.seeking c.args.seek.now) c.args.entries.now c.args.kids.now c.requires.under c.requires.may

pub seek_kids-loop-i-init : goal.seek_kids-loop-i-init
seek_kids-loop-i-init g t c = record {
  under = c.requires.under;
  trees = refl;
  seek = refl;
  passing = kids_start g.L.Leaf.entry g.L.Leaf.enough (g.S.Seek.seeking c.args.seek.now) c.args.entries.now c.args.kids.now c.requires.under c.requires.may
      c.end-end.result _ _ _ _ _ _ c.low.ensures c.high.ensures c.low_kid-from.ensures c.kid_count-to.ensures c.saturating_add.ensures;
}

pub seek_kids-seek_kid-requires : goal.seek_kids-seek_kid-requires
seek_kids-seek_kid-requires g t c κs within =
    let v = c.loop-i.invariant in
    let n = rw v.seek at c.in-Some.ensures in
    let h : front (kids_of c.loop-i.kids) ≡ front (kids_of c.args.kids.now) = ap front v.trees in
    let m = next_may g.L.Leaf.entry g.L.Leaf.enough (g.S.Seek.seeking c.args.seek.now) c.args.entries.now c.args.kids.now c.requires.under c.requires.may
    c.loop-i.entries c.loop-i.kids v.under v.trees _ _ _ _ _ v.passing c.in-Some.i n in (
      search (rules, h, c.decreases),
      (
        within.0,
        (
          within.1,
          (
            omega arith,
            (
              omega arith,
              (
                v.under,
                (
                  next_within g.L.Leaf.entry g.L.Leaf.enough (g.S.Seek.seeking c.args.seek.now) c.args.entries.now c.args.kids.now c.requires.under c.requires.may
                      c.loop-i.entries c.loop-i.kids v.under v.trees _ _ _ _ _ v.passing c.in-Some.i n,
                  subst (λ (z : g.row.S.Denot). MayEnter g.L.Leaf.entry (g.S.Seek.seeking z) (nth_tree (kids_of c.loop-i.kids) c.in-Some.i).leaves) (sym v.seek) m,
                ),
              ),
            ),
          ),
        ),
      ),
    )

pub seek_kids-returns-in-Some-2-clause-sought : goal.seek_kids-returns-in-Some-2-clause-sought
seek_kids-returns-in-Some-2-clause-sought g t c =
    let v = c.loop-i.invariant in
    let q = g.S.Seek.seeking c.args.seek.now in
    let ss = kids_of c.args.kids.now in
    let n = rw v.seek at c.in-Some.ensures in
    let at = AtNearest q c.loop-i.count c.seek_kid.new.count (nth_tree ss c.in-Some.i) in
    let more = AtNearest q c.args.count.now c.seek_kid.new.count (over ss) in
    let w = rw (c.in-Some-2.is, v.seek, v.trees) at c.in_ok-outcome.ensures.sought in
    map_grew (IsInChild at c.in-Some.i ss) more g.L.Leaf.entry g.L.Leaf.enough _ _ node_tree (over ss) _
    (in_node at c.in-Some.i ss more _
    (next_found g.L.Leaf.entry g.L.Leaf.enough q c.args.entries.now c.args.kids.now c.requires.under c.requires.may
    c.loop-i.entries c.loop-i.kids v.under v.trees _ _ _ _ _ v.passing c.in-Some.i n c.seek_kid.new.count c.end-end.ensures.end))
    c.in-Some-2.outcome w

pub seek_kids-returns-in_err-outcome-clause-failed : goal.seek_kids-returns-in_err-outcome-clause-failed
seek_kids-returns-in_err-outcome-clause-failed g t c =
    let v = c.loop-i.invariant in
    let q = g.S.Seek.seeking c.args.seek.now in
    let ss = kids_of c.args.kids.now in
    let n = rw v.seek at c.in-Some.ensures in
    let at = AtNearest q c.loop-i.count c.seek_kid.new.count (nth_tree ss c.in-Some.i) in
    let more = AtNearest q c.args.count.now c.seek_kid.new.count (over ss) in
    let w = rw (v.seek, v.trees) at c.in_err-outcome.ensures.failed in
    on_any c.from_residual.result _
    (map_kept (IsInChild at c.in-Some.i ss) more g.L.Leaf.entry g.L.Leaf.enough _ _ node_tree (over ss) _
    (in_node at c.in-Some.i ss more _
    (next_found g.L.Leaf.entry g.L.Leaf.enough q c.args.entries.now c.args.kids.now c.requires.under c.requires.may
    c.loop-i.entries c.loop-i.kids v.under v.trees _ _ _ _ _ v.passing c.in-Some.i n c.seek_kid.new.count c.end-end.ensures.end))
    w)

pub seek_kids-loop-i-preserved-in-First : goal.seek_kids-loop-i-preserved-in-First
seek_kids-loop-i-preserved-in-First g t c =
    let v = c.loop-i.invariant in
    let n = rw v.seek at c.in-Some.ensures in
    let w = rw (c.in_default-2.is, v.seek, v.trees) at c.in_ok-outcome.ensures.sought in
    let s = rw c.in_default-2.is at c.in_ok-outcome.ensures.same in
    record {
      under = c.seek_kid.ensures.under;
      trees = w.same;
      seek = s ∙ v.seek;
      passing = passes_first g.L.Leaf.entry g.L.Leaf.enough (g.S.Seek.seeking c.args.seek.now) c.args.entries.now c.args.kids.now c.requires.under c.requires.may
          c.loop-i.entries c.loop-i.kids v.under v.trees _ _ _ _ _ v.passing c.in-Some.i n c.seek_kid.new.count w.vain c.in-First.is;
    }

pub seek_kids-loop-i-preserved : goal.seek_kids-loop-i-preserved
seek_kids-loop-i-preserved g t c =
    let v = c.loop-i.invariant in
    let n = rw v.seek at c.in-Some.ensures in
    let w = rw (c.in_default-2.is, v.seek, v.trees) at c.in_ok-outcome.ensures.sought in
    let s = rw c.in_default-2.is at c.in_ok-outcome.ensures.same in
    record {
      under = c.seek_kid.ensures.under;
      trees = w.same;
      seek = s ∙ v.seek;
      passing = passes_last g.L.Leaf.entry g.L.Leaf.enough (g.S.Seek.seeking c.args.seek.now) c.args.entries.now c.args.kids.now c.requires.under c.requires.may
          c.loop-i.entries c.loop-i.kids v.under v.trees _ _ _ _ _ v.passing c.in-Some.i n c.seek_kid.new.count w.vain c.in-Last.is;
    }

pub seek_kids-returns-clause-sought : goal.seek_kids-returns-clause-sought
seek_kids-returns-clause-sought g t c =
    let v = c.loop-i.invariant in
    none_next g.L.Leaf.entry g.L.Leaf.enough (g.S.Seek.seeking c.args.seek.now) c.args.entries.now c.args.kids.now c.requires.under c.requires.may
    c.loop-i.entries c.loop-i.kids v.under v.trees _ _ _ _ _ v.passing (rw v.seek at c.in_default.ensures)
