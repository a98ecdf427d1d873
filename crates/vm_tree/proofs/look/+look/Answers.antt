use Rattle.std.proofs.Common.{rules, ◌≡◌, ◌+◌, ◌<◌, length, min, option_copied, arith, ap, subst, sym, ◌∙◌, refl}
use Rattle.vm_tree.specs.Subtree.{Subtree, kids, nth_tree, leaf_of}
use Rattle.vm_tree.specs.Nodes.{kids_of, AreUnder}
use Rattle.vm_tree.specs.Sought.{MayEnter, Looked}
use Rattle.vm_tree.specs.declared.node.Kids.{Kids}
use Rattle.vm_tree.specs.declared.node.Kids.TheVariants.{Nodes}
use Rattle.vm_tree.proofs.Flats.{length-entries}
use Rattle.vm_tree.proofs.Unders.{under_entries}
use Rattle.vm_tree.proofs.Walked.{under_fan, under_height}
use Rattle.vm_tree.proofs.Looks.{looked_in, looked_none}
use Rattle.vm_tree.proofs.Nexts.{kids_order, kids_start, next_within, next_may, passes_first, passes_last}
use Rattle.vm_tree.proofs.look.+look.Goals as goal

pub look_at-returns : goal.look_at-returns
look_at-returns g t c = λ n.
    let r = c.look_kids.ensures n in
    (r.0, subst (λ (s : Subtree g.row.L.Denot). Looked (g.S.Seek.seeking c.args.seek.now) n r.0 s (option_copied c.look_kids.result)) c.node.view_is r.1)

pub look_kid-look_at-requires : goal.look_kid-look_at-requires
look_kid-look_at-requires g t c κs within =
    let kid : c.node_in.result.now ≡ nth_tree (kids_of c.args.kids.now) c.args.i =
    c.node_in.ensures ∙ ap (λ (k : Kids g.row.L.Denot). nth_tree (kids_of k) c.args.i) (sym c.in-Nodes.is) in
    let same : c.node_in.result.now.height ≡ (nth_tree (kids_of c.args.kids.now) c.args.i).height = ap (λ (s : Subtree g.row.L.Denot). s.height) kid in
    let u : AreUnder g.L.Leaf.entry g.L.Leaf.enough c.args.entries.now (Nodes c.in-Nodes.slots) =
    subst (AreUnder g.L.Leaf.entry g.L.Leaf.enough c.args.entries.now) c.in-Nodes.is c.requires.under in
    let n = ap length (under_entries g.L.Leaf.entry g.L.Leaf.enough c.args.entries.now c.args.kids.now c.requires.under)
    ∙ length-entries g.L.Leaf.entry (kids_of c.args.kids.now) in
    let low = under_height g.L.Leaf.entry g.L.Leaf.enough c.args.entries.now c.args.kids.now c.args.i c.requires.under (omega (arith, n, c.requires.within)) in (
      search (rules, same, low, c.decreases),
      (
        within.0,
        (
          within.1,
          (
            omega arith,
            (
              subst (λ (s : Subtree g.row.L.Denot). 0 < kids s) (sym c.node_in.ensures)
                  (under_fan g.L.Leaf.entry g.L.Leaf.enough c.args.entries.now c.in-Nodes.slots c.args.i u (omega (arith, n, c.requires.within))),
              subst (λ (s : Subtree g.row.L.Denot). MayEnter g.L.Leaf.entry (g.S.Seek.seeking c.args.seek.now) s.leaves) (sym kid) c.requires.may,
            ),
          ),
        ),
      ),
    )

pub look_kid-returns-in-Leaves : goal.look_kid-returns-in-Leaves
look_kid-returns-in-Leaves g t c = λ n.
    let kid : leaf_of c.leaf_in.result.now ≡ nth_tree (kids_of c.args.kids.now) c.args.i =
    c.leaf_in.ensures ∙ ap (λ (k : Kids g.row.L.Denot). nth_tree (kids_of k) c.args.i) (sym c.in-Leaves.is) in
    let r = c.look_leaf.ensures n in
    (r.0, subst (λ (s : Subtree g.row.L.Denot). Looked (g.S.Seek.seeking c.args.seek.now) n r.0 s (option_copied c.look_leaf.result)) kid r.1)

pub look_kid-returns-in-Nodes : goal.look_kid-returns-in-Nodes
look_kid-returns-in-Nodes g t c = λ n.
    let kid : c.node_in.result.now ≡ nth_tree (kids_of c.args.kids.now) c.args.i =
    c.node_in.ensures ∙ ap (λ (k : Kids g.row.L.Denot). nth_tree (kids_of k) c.args.i) (sym c.in-Nodes.is) in
    let r = c.look_at.ensures n in
    (r.0, subst (λ (s : Subtree g.row.L.Denot). Looked (g.S.Seek.seeking c.args.seek.now) n r.0 s (option_copied c.look_at.result)) kid r.1)

pub look_kids-low_kid-from-requires-clause-order : goal.look_kids-low_kid-from-requires-clause-order
look_kids-low_kid-from-requires-clause-order g t c =
    kids_order g.L.Leaf.entry g.L.Leaf.enough (g.S.Seek.seeking c.args.seek.now) c.args.entries.now c.args.kids.now c.requires.under c.requires.may

pub look_kids-kid_count-to-requires-clause-order : goal.look_kids-kid_count-to-requires-clause-order
look_kids-kid_count-to-requires-clause-order g t c =
    kids_order g.L.Leaf.entry g.L.Leaf.enough (g.S.Seek.seeking c.args.seek.now) c.args.entries.now c.args.kids.now c.requires.under c.requires.may

pub look_kids-loop-i-init : goal.look_kids-loop-i-init
look_kids-loop-i-init g t c = λ n. (
  min (n + 1) 18446744073709551615,
  kids_start g.L.Leaf.entry g.L.Leaf.enough (g.S.Seek.seeking c.args.seek.now) c.args.entries.now c.args.kids.now c.requires.under c.requires.may
      c.end-end.result _ _ _ _ n (min (n + 1) 18446744073709551615) c.low.ensures c.high.ensures c.low_kid-from.ensures c.kid_count-to.ensures refl,
)

pub look_kids-next_kid-requires : goal.look_kids-next_kid-requires
look_kids-next_kid-requires g t c =
    let p = (c.loop-i.invariant 0).1 in
    let n = ap length (under_entries g.L.Leaf.entry g.L.Leaf.enough c.args.entries.now c.args.kids.now c.requires.under)
    ∙ length-entries g.L.Leaf.entry (kids_of c.args.kids.now) in
    omega (arith, p.within, n)

pub look_kids-look_kid-requires : goal.look_kids-look_kid-requires
look_kids-look_kid-requires g t c κs within =
    let p = (c.loop-i.invariant 0).1 in (
      search (rules, c.decreases),
      (
        within.0,
        (
          within.1,
          (
            omega arith,
            (
              c.requires.under,
              (
                next_within g.L.Leaf.entry g.L.Leaf.enough (g.S.Seek.seeking c.args.seek.now) c.args.entries.now c.args.kids.now c.requires.under c.requires.may
                    c.args.entries.now c.args.kids.now c.requires.under refl c.end-end.result _ _ 0 _ p c.in-Some.i c.in-Some.ensures,
                next_may g.L.Leaf.entry g.L.Leaf.enough (g.S.Seek.seeking c.args.seek.now) c.args.entries.now c.args.kids.now c.requires.under c.requires.may
                    c.args.entries.now c.args.kids.now c.requires.under refl c.end-end.result _ _ 0 _ p c.in-Some.i c.in-Some.ensures,
              ),
            ),
          ),
        ),
      ),
    )

pub look_kids-returns-in-Some-look_kid : goal.look_kids-returns-in-Some-look_kid
look_kids-returns-in-Some-look_kid g t c = λ n.
    let p = c.loop-i.invariant n in
    let r = rw c.in-Some-look_kid.is at (c.look_kid.ensures p.0) in (
      r.0,
      looked_in g.L.Leaf.entry g.L.Leaf.enough (g.S.Seek.seeking c.args.seek.now) c.args.entries.now c.args.kids.now c.requires.under c.requires.may
          c.end-end.result _ _ n p.0 p.1 c.in-Some.i c.in-Some.ensures r.0 c.end-end.ensures.end c.in-Some-look_kid.leaf.now r.1,
    )

pub look_kids-overflow_add-from : goal.look_kids-overflow_add-from
look_kids-overflow_add-from g t c =
    let p = (c.loop-i.invariant 0).1 in
    let n = ap length (under_entries g.L.Leaf.entry g.L.Leaf.enough c.args.entries.now c.args.kids.now c.requires.under)
    ∙ length-entries g.L.Leaf.entry (kids_of c.args.kids.now) in
    let k = c.in-Some.ensures in
    omega (arith, p.within, n, k.before, c.len-len.ensures.fits)

pub look_kids-loop-i-preserved-in-First : goal.look_kids-loop-i-preserved-in-First
look_kids-loop-i-preserved-in-First g t c = λ n.
    let p = c.loop-i.invariant n in
    let r = rw c.in_default-look_kid.is at (c.look_kid.ensures p.0) in (
      r.0,
      passes_first g.L.Leaf.entry g.L.Leaf.enough (g.S.Seek.seeking c.args.seek.now) c.args.entries.now c.args.kids.now c.requires.under c.requires.may
          c.args.entries.now c.args.kids.now c.requires.under refl c.end-end.result _ _ n p.0 p.1 c.in-Some.i c.in-Some.ensures r.0 r.1 c.in-First.is,
    )

pub look_kids-loop-i-preserved : goal.look_kids-loop-i-preserved
look_kids-loop-i-preserved g t c = λ n.
    let p = c.loop-i.invariant n in
    let r = rw c.in_default-look_kid.is at (c.look_kid.ensures p.0) in (
      r.0,
      passes_last g.L.Leaf.entry g.L.Leaf.enough (g.S.Seek.seeking c.args.seek.now) c.args.entries.now c.args.kids.now c.requires.under c.requires.may
          c.args.entries.now c.args.kids.now c.requires.under refl c.end-end.result _ _ n p.0 p.1 c.in-Some.i c.in-Some.ensures r.0 r.1 c.in-Last.is,
    )

pub look_kids-returns : goal.look_kids-returns
look_kids-returns g t c = λ n.
    let p = c.loop-i.invariant n in (
      p.0,
      looked_none g.L.Leaf.entry g.L.Leaf.enough (g.S.Seek.seeking c.args.seek.now) c.args.entries.now c.args.kids.now c.requires.under c.requires.may
          c.end-end.result _ _ n p.0 p.1 c.in_default.ensures,
    )
