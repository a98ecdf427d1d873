use Rattle.std.proofs.Common.{◌≡◌, length, map, arith, ap, ◌∙◌, sym, subst, lit<}
use Rattle.std.proofs.lemmas.List.{length-map}
use Rattle.vm_tree.specs.Slots.{held}
use Rattle.vm_tree.specs.Subtree.{front, AreFull}
use Rattle.vm_tree.specs.Nodes.{leaf_tree}
use Rattle.vm_tree.specs.Mends.{NoJoin}
use Rattle.vm_tree.specs.Shrinks.{JoinsIf, ShrankAt}
use Rattle.vm_tree.proofs.Flats.{length-entries}
use Rattle.vm_tree.proofs.Unders.{front_leaf}
use Rattle.vm_tree.proofs.Shrinking.{uncut_over, uncut, same_over, same, begun_over, begun, full_over_set, changed, small_entries, small_length, small_meet, plain, small_over, small_some, small, join_after, leaf_pair, beside_suc}
use Rattle.vm_tree.proofs.Finds.{kid_entry}
use Rattle.vm_tree.proofs.cut.cut_leaves.Goals as goal

pub returns-in-Refused-clause-over : goal.returns-in-Refused-clause-over
returns-in-Refused-clause-over g c =
    let ss = map leaf_tree (held c.args.slots.now) in
    let o = c.requires.over in
    let n : length c.args.entries.now ≡ length ss = ap length o.entries ∙ length-entries g.L.Leaf.entry ss in
    let k : length ss ≡ length (held c.args.slots.now) = length-map (held c.args.slots.now) leaf_tree in
    let h : front ss ≡ 1 = front_leaf (held c.args.slots.now) (omega (arith, n, k, c.requires.within)) in
    uncut_over g.L.Leaf.entry g.L.Leaf.enough c.args.key _ _ NoJoin (JoinsIf (g.E.Cut.shrinks c.args.edit.now) g.L.Leaf.joins) leaf_tree 0 c.args.i ss o.even (omega (arith, n, c.requires.within)) (omega arith) (omega (arith, h)) c.args.entries.now o.entries c.requires.from c.requires.upto (λ x y zs q. absurd q) c.cut_leaf_at.new.slots c.cut_leaf_at.ensures.dense (subst (ShrankAt g.L.Leaf.entry g.L.Leaf.enough NoJoin c.args.key _ _ c.args.i ss (map leaf_tree (held c.cut_leaf_at.new.slots))) c.in-Refused.is (c.cut_leaf_at.ensures.shrank c.args.key))

pub returns-in-Refused-clause-shrank : goal.returns-in-Refused-clause-shrank
returns-in-Refused-clause-shrank g c =
    let ss = map leaf_tree (held c.args.slots.now) in
    let o = c.requires.over in
    let n : length c.args.entries.now ≡ length ss = ap length o.entries ∙ length-entries g.L.Leaf.entry ss in
    let k : length ss ≡ length (held c.args.slots.now) = length-map (held c.args.slots.now) leaf_tree in
    let h : front ss ≡ 1 = front_leaf (held c.args.slots.now) (omega (arith, n, k, c.requires.within)) in
    uncut g.L.Leaf.entry g.L.Leaf.enough c.args.key _ _ NoJoin (JoinsIf (g.E.Cut.shrinks c.args.edit.now) g.L.Leaf.joins) leaf_tree 0 c.args.i ss o.even (omega (arith, n, c.requires.within)) (omega arith) (omega (arith, h)) c.args.entries.now o.entries c.requires.from c.requires.upto (λ x y zs q. absurd q) c.cut_leaf_at.new.slots c.cut_leaf_at.ensures.dense (subst (ShrankAt g.L.Leaf.entry g.L.Leaf.enough NoJoin c.args.key _ _ c.args.i ss (map leaf_tree (held c.cut_leaf_at.new.slots))) c.in-Refused.is (c.cut_leaf_at.ensures.shrank c.args.key))

pub returns-in-Same-clause-over : goal.returns-in-Same-clause-over
returns-in-Same-clause-over g c =
    let ss = map leaf_tree (held c.args.slots.now) in
    let o = c.requires.over in
    let n : length c.args.entries.now ≡ length ss = ap length o.entries ∙ length-entries g.L.Leaf.entry ss in
    let k : length ss ≡ length (held c.args.slots.now) = length-map (held c.args.slots.now) leaf_tree in
    let h : front ss ≡ 1 = front_leaf (held c.args.slots.now) (omega (arith, n, k, c.requires.within)) in
    same_over g.L.Leaf.entry g.L.Leaf.enough c.args.key _ _ NoJoin (JoinsIf (g.E.Cut.shrinks c.args.edit.now) g.L.Leaf.joins) leaf_tree 0 c.args.i ss o.even (omega (arith, n, c.requires.within)) (omega arith) (omega (arith, h)) c.args.entries.now o.entries c.requires.from c.requires.upto (λ x y zs q. absurd q) c.cut_leaf_at.new.slots c.cut_leaf_at.ensures.dense (subst (ShrankAt g.L.Leaf.entry g.L.Leaf.enough NoJoin c.args.key _ _ c.args.i ss (map leaf_tree (held c.cut_leaf_at.new.slots))) c.in-Same.is (c.cut_leaf_at.ensures.shrank c.args.key))

pub returns-in-Same-clause-shrank : goal.returns-in-Same-clause-shrank
returns-in-Same-clause-shrank g c =
    let ss = map leaf_tree (held c.args.slots.now) in
    let o = c.requires.over in
    let n : length c.args.entries.now ≡ length ss = ap length o.entries ∙ length-entries g.L.Leaf.entry ss in
    let k : length ss ≡ length (held c.args.slots.now) = length-map (held c.args.slots.now) leaf_tree in
    let h : front ss ≡ 1 = front_leaf (held c.args.slots.now) (omega (arith, n, k, c.requires.within)) in
    same g.L.Leaf.entry g.L.Leaf.enough c.args.key _ _ NoJoin (JoinsIf (g.E.Cut.shrinks c.args.edit.now) g.L.Leaf.joins) leaf_tree 0 c.args.i ss o.even (omega (arith, n, c.requires.within)) (omega arith) (omega (arith, h)) c.args.entries.now o.entries c.requires.from c.requires.upto (λ x y zs q. absurd q) c.cut_leaf_at.new.slots c.cut_leaf_at.ensures.dense (subst (ShrankAt g.L.Leaf.entry g.L.Leaf.enough NoJoin c.args.key _ _ c.args.i ss (map leaf_tree (held c.cut_leaf_at.new.slots))) c.in-Same.is (c.cut_leaf_at.ensures.shrank c.args.key))

pub returns-in-Begins-clause-over : goal.returns-in-Begins-clause-over
returns-in-Begins-clause-over g c =
    let ss = map leaf_tree (held c.args.slots.now) in
    let o = c.requires.over in
    let n : length c.args.entries.now ≡ length ss = ap length o.entries ∙ length-entries g.L.Leaf.entry ss in
    let k : length ss ≡ length (held c.args.slots.now) = length-map (held c.args.slots.now) leaf_tree in
    let h : front ss ≡ 1 = front_leaf (held c.args.slots.now) (omega (arith, n, k, c.requires.within)) in
    begun_over g.L.Leaf.entry g.L.Leaf.enough c.args.key _ _ NoJoin (JoinsIf (g.E.Cut.shrinks c.args.edit.now) g.L.Leaf.joins) leaf_tree 0 c.args.i ss o.even (omega (arith, n, c.requires.within)) (omega arith) (omega (arith, h)) c.args.entries.now o.entries c.requires.from c.requires.upto (λ x y zs q. absurd q) c.cut_leaf_at.new.slots c.cut_leaf_at.ensures.dense _ _ (subst (ShrankAt g.L.Leaf.entry g.L.Leaf.enough NoJoin c.args.key _ _ c.args.i ss (map leaf_tree (held c.cut_leaf_at.new.slots))) c.in-Begins.is (c.cut_leaf_at.ensures.shrank c.args.key)) c.begin_at.ensures.entries

pub returns-in-Begins-clause-shrank : goal.returns-in-Begins-clause-shrank
returns-in-Begins-clause-shrank g c =
    let ss = map leaf_tree (held c.args.slots.now) in
    let o = c.requires.over in
    let n : length c.args.entries.now ≡ length ss = ap length o.entries ∙ length-entries g.L.Leaf.entry ss in
    let k : length ss ≡ length (held c.args.slots.now) = length-map (held c.args.slots.now) leaf_tree in
    let h : front ss ≡ 1 = front_leaf (held c.args.slots.now) (omega (arith, n, k, c.requires.within)) in
    begun g.L.Leaf.entry g.L.Leaf.enough c.args.key _ _ NoJoin (JoinsIf (g.E.Cut.shrinks c.args.edit.now) g.L.Leaf.joins) leaf_tree 0 c.args.i ss o.even (omega (arith, n, c.requires.within)) (omega arith) (omega (arith, h)) c.args.entries.now o.entries c.requires.from c.requires.upto (λ x y zs q. absurd q) c.cut_leaf_at.new.slots c.cut_leaf_at.ensures.dense _ _ (subst (ShrankAt g.L.Leaf.entry g.L.Leaf.enough NoJoin c.args.key _ _ c.args.i ss (map leaf_tree (held c.cut_leaf_at.new.slots))) c.in-Begins.is (c.cut_leaf_at.ensures.shrank c.args.key)) c.begin_at.ensures.entries _ c.begin_at.ensures.begun

pub returns-in-Changed-clause-over : goal.returns-in-Changed-clause-over
returns-in-Changed-clause-over g c =
    let ss = map leaf_tree (held c.args.slots.now) in
    let o = c.requires.over in
    let n : length c.args.entries.now ≡ length ss = ap length o.entries ∙ length-entries g.L.Leaf.entry ss in
    let k : length ss ≡ length (held c.args.slots.now) = length-map (held c.args.slots.now) leaf_tree in
    let h : front ss ≡ 1 = front_leaf (held c.args.slots.now) (omega (arith, n, k, c.requires.within)) in
    full_over_set g.L.Leaf.entry g.L.Leaf.enough c.args.key _ _ NoJoin (JoinsIf (g.E.Cut.shrinks c.args.edit.now) g.L.Leaf.joins) leaf_tree 0 c.args.i ss o.even (omega (arith, n, c.requires.within)) (omega arith) (omega (arith, h)) c.args.entries.now o.entries c.requires.from c.requires.upto (λ x y zs q. absurd q) c.cut_leaf_at.new.slots c.cut_leaf_at.ensures.dense _ _ (subst (ShrankAt g.L.Leaf.entry g.L.Leaf.enough NoJoin c.args.key _ _ c.args.i ss (map leaf_tree (held c.cut_leaf_at.new.slots))) c.in-Changed.is (c.cut_leaf_at.ensures.shrank c.args.key)) c.set_entry.ensures

pub returns-in-Changed-clause-shrank : goal.returns-in-Changed-clause-shrank
returns-in-Changed-clause-shrank g c =
    let ss = map leaf_tree (held c.args.slots.now) in
    let o = c.requires.over in
    let n : length c.args.entries.now ≡ length ss = ap length o.entries ∙ length-entries g.L.Leaf.entry ss in
    let k : length ss ≡ length (held c.args.slots.now) = length-map (held c.args.slots.now) leaf_tree in
    let h : front ss ≡ 1 = front_leaf (held c.args.slots.now) (omega (arith, n, k, c.requires.within)) in
    changed g.L.Leaf.entry g.L.Leaf.enough c.args.key _ _ NoJoin (JoinsIf (g.E.Cut.shrinks c.args.edit.now) g.L.Leaf.joins) leaf_tree 0 c.args.i ss o.even (omega (arith, n, c.requires.within)) (omega arith) (omega (arith, h)) c.args.entries.now o.entries c.requires.from c.requires.upto (λ x y zs q. absurd q) c.cut_leaf_at.new.slots c.cut_leaf_at.ensures.dense _ _ (subst (ShrankAt g.L.Leaf.entry g.L.Leaf.enough NoJoin c.args.key _ _ c.args.i ss (map leaf_tree (held c.cut_leaf_at.new.slots))) c.in-Changed.is (c.cut_leaf_at.ensures.shrank c.args.key)) c.set_entry.ensures

pub mend_leaves-requires : goal.mend_leaves-requires
mend_leaves-requires g c =
    let ss = map leaf_tree (held c.args.slots.now) in
    let o = c.requires.over in
    let n : length c.args.entries.now ≡ length ss = ap length o.entries ∙ length-entries g.L.Leaf.entry ss in
    let k : length ss ≡ length (held c.args.slots.now) = length-map (held c.args.slots.now) leaf_tree in
    let h : front ss ≡ 1 = front_leaf (held c.args.slots.now) (omega (arith, n, k, c.requires.within)) in
    let e = small_entries g.L.Leaf.entry g.L.Leaf.enough c.args.key _ _ NoJoin (JoinsIf (g.E.Cut.shrinks c.args.edit.now) g.L.Leaf.joins) leaf_tree 0 c.args.i ss o.even (omega (arith, n, c.requires.within)) (omega arith) (omega (arith, h)) c.args.entries.now o.entries c.requires.from c.requires.upto (λ x y zs q. absurd q) c.cut_leaf_at.new.slots c.cut_leaf_at.ensures.dense _ (subst (ShrankAt g.L.Leaf.entry g.L.Leaf.enough NoJoin c.args.key _ _ c.args.i ss (map leaf_tree (held c.cut_leaf_at.new.slots))) c.in-Small.is (c.cut_leaf_at.ensures.shrank c.args.key)) _ c.set_entry-in-Small.ensures in
    let m = small_length g.L.Leaf.entry g.L.Leaf.enough c.args.key _ _ NoJoin (JoinsIf (g.E.Cut.shrinks c.args.edit.now) g.L.Leaf.joins) leaf_tree 0 c.args.i ss o.even (omega (arith, n, c.requires.within)) (omega arith) (omega (arith, h)) c.args.entries.now o.entries c.requires.from c.requires.upto (λ x y zs q. absurd q) c.cut_leaf_at.new.slots c.cut_leaf_at.ensures.dense _ (subst (ShrankAt g.L.Leaf.entry g.L.Leaf.enough NoJoin c.args.key _ _ c.args.i ss (map leaf_tree (held c.cut_leaf_at.new.slots))) c.in-Small.is (c.cut_leaf_at.ensures.shrank c.args.key)) in
    let s = beside_suc c.neighbour.result c.args.i c.neighbour.ensures.beside in
    let w = c.neighbour.ensures.within (length ss) (omega (arith, n, c.requires.some)) (omega (arith, n, c.requires.within)) in
    (lit< tt, (c.cut_leaf_at.ensures.dense, (e, leaf_pair g.L.Leaf.meets g.L.Leaf.enough c.args.i c.neighbour.result (held c.cut_leaf_at.new.slots) ss _ (subst (ShrankAt g.L.Leaf.entry g.L.Leaf.enough NoJoin c.args.key _ _ c.args.i ss (map leaf_tree (held c.cut_leaf_at.new.slots))) c.in-Small.is (c.cut_leaf_at.ensures.shrank c.args.key)).list (subst (λ i. AreFull g.L.Leaf.enough i ss) h o.even) (small_meet g.L.Leaf.entry g.L.Leaf.enough c.args.key _ _ NoJoin (JoinsIf (g.E.Cut.shrinks c.args.edit.now) g.L.Leaf.joins) leaf_tree 0 c.args.i ss o.even (omega (arith, n, c.requires.within)) (omega arith) (omega (arith, h)) c.args.entries.now o.entries c.requires.from c.requires.upto (λ x y zs q. absurd q) c.cut_leaf_at.new.slots c.cut_leaf_at.ensures.dense _ (subst (ShrankAt g.L.Leaf.entry g.L.Leaf.enough NoJoin c.args.key _ _ c.args.i ss (map leaf_tree (held c.cut_leaf_at.new.slots))) c.in-Small.is (c.cut_leaf_at.ensures.shrank c.args.key)) g.L.Leaf.meets _ (plain (JoinsIf (g.E.Cut.shrinks c.args.edit.now) g.L.Leaf.joins)) (λ x xs q. (c.cut_leaf_at.new.edit, q)) (c.requires.meet (c.cut_leaf_at.ensures.may _ c.in-Small.is))) (omega (arith, w, m)) s)))

pub small_of-requires : goal.small_of-requires
small_of-requires g c =
    let ss = map leaf_tree (held c.args.slots.now) in
    let o = c.requires.over in
    let n : length c.args.entries.now ≡ length ss = ap length o.entries ∙ length-entries g.L.Leaf.entry ss in
    let k : length ss ≡ length (held c.args.slots.now) = length-map (held c.args.slots.now) leaf_tree in
    let h : front ss ≡ 1 = front_leaf (held c.args.slots.now) (omega (arith, n, k, c.requires.within)) in
    let e = small_entries g.L.Leaf.entry g.L.Leaf.enough c.args.key _ _ NoJoin (JoinsIf (g.E.Cut.shrinks c.args.edit.now) g.L.Leaf.joins) leaf_tree 0 c.args.i ss o.even (omega (arith, n, c.requires.within)) (omega arith) (omega (arith, h)) c.args.entries.now o.entries c.requires.from c.requires.upto (λ x y zs q. absurd q) c.cut_leaf_at.new.slots c.cut_leaf_at.ensures.dense _ (subst (ShrankAt g.L.Leaf.entry g.L.Leaf.enough NoJoin c.args.key _ _ c.args.i ss (map leaf_tree (held c.cut_leaf_at.new.slots))) c.in-Small.is (c.cut_leaf_at.ensures.shrank c.args.key)) _ c.set_entry-in-Small.ensures in
    let m = small_length g.L.Leaf.entry g.L.Leaf.enough c.args.key _ _ NoJoin (JoinsIf (g.E.Cut.shrinks c.args.edit.now) g.L.Leaf.joins) leaf_tree 0 c.args.i ss o.even (omega (arith, n, c.requires.within)) (omega arith) (omega (arith, h)) c.args.entries.now o.entries c.requires.from c.requires.upto (λ x y zs q. absurd q) c.cut_leaf_at.new.slots c.cut_leaf_at.ensures.dense _ (subst (ShrankAt g.L.Leaf.entry g.L.Leaf.enough NoJoin c.args.key _ _ c.args.i ss (map leaf_tree (held c.cut_leaf_at.new.slots))) c.in-Small.is (c.cut_leaf_at.ensures.shrank c.args.key)) in
    let s = beside_suc c.neighbour.result c.args.i c.neighbour.ensures.beside in
    let w = c.neighbour.ensures.within (length ss) (omega (arith, n, c.requires.some)) (omega (arith, n, c.requires.within)) in
    small_some g.L.Leaf.entry g.L.Leaf.enough c.args.key _ _ NoJoin (JoinsIf (g.E.Cut.shrinks c.args.edit.now) g.L.Leaf.joins) leaf_tree 0 c.args.i ss o.even (omega (arith, n, c.requires.within)) (omega arith) (omega (arith, h)) c.args.entries.now o.entries c.requires.from c.requires.upto (λ x y zs q. absurd q) c.cut_leaf_at.new.slots c.cut_leaf_at.ensures.dense _ (subst (ShrankAt g.L.Leaf.entry g.L.Leaf.enough NoJoin c.args.key _ _ c.args.i ss (map leaf_tree (held c.cut_leaf_at.new.slots))) c.in-Small.is (c.cut_leaf_at.ensures.shrank c.args.key)) g.L.Leaf.joins (join_after g.L.Leaf.joins (g.E.Cut.shrinks c.args.edit.now) (c.cut_leaf_at.ensures.may _ c.in-Small.is)) c.neighbour.result _ s (omega (arith, w)) (sym h) c.mend_leaves.new.slots c.mend_leaves.ensures.mended c.mend_leaves.ensures.dense _ c.mend_leaves.ensures.entries

pub returns-in-Small-clause-over : goal.returns-in-Small-clause-over
returns-in-Small-clause-over g c =
    let ss = map leaf_tree (held c.args.slots.now) in
    let o = c.requires.over in
    let n : length c.args.entries.now ≡ length ss = ap length o.entries ∙ length-entries g.L.Leaf.entry ss in
    let k : length ss ≡ length (held c.args.slots.now) = length-map (held c.args.slots.now) leaf_tree in
    let h : front ss ≡ 1 = front_leaf (held c.args.slots.now) (omega (arith, n, k, c.requires.within)) in
    let e = small_entries g.L.Leaf.entry g.L.Leaf.enough c.args.key _ _ NoJoin (JoinsIf (g.E.Cut.shrinks c.args.edit.now) g.L.Leaf.joins) leaf_tree 0 c.args.i ss o.even (omega (arith, n, c.requires.within)) (omega arith) (omega (arith, h)) c.args.entries.now o.entries c.requires.from c.requires.upto (λ x y zs q. absurd q) c.cut_leaf_at.new.slots c.cut_leaf_at.ensures.dense _ (subst (ShrankAt g.L.Leaf.entry g.L.Leaf.enough NoJoin c.args.key _ _ c.args.i ss (map leaf_tree (held c.cut_leaf_at.new.slots))) c.in-Small.is (c.cut_leaf_at.ensures.shrank c.args.key)) _ c.set_entry-in-Small.ensures in
    let m = small_length g.L.Leaf.entry g.L.Leaf.enough c.args.key _ _ NoJoin (JoinsIf (g.E.Cut.shrinks c.args.edit.now) g.L.Leaf.joins) leaf_tree 0 c.args.i ss o.even (omega (arith, n, c.requires.within)) (omega arith) (omega (arith, h)) c.args.entries.now o.entries c.requires.from c.requires.upto (λ x y zs q. absurd q) c.cut_leaf_at.new.slots c.cut_leaf_at.ensures.dense _ (subst (ShrankAt g.L.Leaf.entry g.L.Leaf.enough NoJoin c.args.key _ _ c.args.i ss (map leaf_tree (held c.cut_leaf_at.new.slots))) c.in-Small.is (c.cut_leaf_at.ensures.shrank c.args.key)) in
    let s = beside_suc c.neighbour.result c.args.i c.neighbour.ensures.beside in
    let w = c.neighbour.ensures.within (length ss) (omega (arith, n, c.requires.some)) (omega (arith, n, c.requires.within)) in
    small_over g.L.Leaf.entry g.L.Leaf.enough c.args.key _ _ NoJoin (JoinsIf (g.E.Cut.shrinks c.args.edit.now) g.L.Leaf.joins) leaf_tree 0 c.args.i ss o.even (omega (arith, n, c.requires.within)) (omega arith) (omega (arith, h)) c.args.entries.now o.entries c.requires.from c.requires.upto (λ x y zs q. absurd q) c.cut_leaf_at.new.slots c.cut_leaf_at.ensures.dense _ (subst (ShrankAt g.L.Leaf.entry g.L.Leaf.enough NoJoin c.args.key _ _ c.args.i ss (map leaf_tree (held c.cut_leaf_at.new.slots))) c.in-Small.is (c.cut_leaf_at.ensures.shrank c.args.key)) g.L.Leaf.joins (join_after g.L.Leaf.joins (g.E.Cut.shrinks c.args.edit.now) (c.cut_leaf_at.ensures.may _ c.in-Small.is)) c.neighbour.result _ s (omega (arith, w)) (sym h) c.mend_leaves.new.slots c.mend_leaves.ensures.mended c.mend_leaves.ensures.dense _ c.mend_leaves.ensures.entries

pub returns-in-Small-clause-shrank : goal.returns-in-Small-clause-shrank
returns-in-Small-clause-shrank g c =
    let ss = map leaf_tree (held c.args.slots.now) in
    let o = c.requires.over in
    let n : length c.args.entries.now ≡ length ss = ap length o.entries ∙ length-entries g.L.Leaf.entry ss in
    let k : length ss ≡ length (held c.args.slots.now) = length-map (held c.args.slots.now) leaf_tree in
    let h : front ss ≡ 1 = front_leaf (held c.args.slots.now) (omega (arith, n, k, c.requires.within)) in
    let e = small_entries g.L.Leaf.entry g.L.Leaf.enough c.args.key _ _ NoJoin (JoinsIf (g.E.Cut.shrinks c.args.edit.now) g.L.Leaf.joins) leaf_tree 0 c.args.i ss o.even (omega (arith, n, c.requires.within)) (omega arith) (omega (arith, h)) c.args.entries.now o.entries c.requires.from c.requires.upto (λ x y zs q. absurd q) c.cut_leaf_at.new.slots c.cut_leaf_at.ensures.dense _ (subst (ShrankAt g.L.Leaf.entry g.L.Leaf.enough NoJoin c.args.key _ _ c.args.i ss (map leaf_tree (held c.cut_leaf_at.new.slots))) c.in-Small.is (c.cut_leaf_at.ensures.shrank c.args.key)) _ c.set_entry-in-Small.ensures in
    let m = small_length g.L.Leaf.entry g.L.Leaf.enough c.args.key _ _ NoJoin (JoinsIf (g.E.Cut.shrinks c.args.edit.now) g.L.Leaf.joins) leaf_tree 0 c.args.i ss o.even (omega (arith, n, c.requires.within)) (omega arith) (omega (arith, h)) c.args.entries.now o.entries c.requires.from c.requires.upto (λ x y zs q. absurd q) c.cut_leaf_at.new.slots c.cut_leaf_at.ensures.dense _ (subst (ShrankAt g.L.Leaf.entry g.L.Leaf.enough NoJoin c.args.key _ _ c.args.i ss (map leaf_tree (held c.cut_leaf_at.new.slots))) c.in-Small.is (c.cut_leaf_at.ensures.shrank c.args.key)) in
    let s = beside_suc c.neighbour.result c.args.i c.neighbour.ensures.beside in
    let w = c.neighbour.ensures.within (length ss) (omega (arith, n, c.requires.some)) (omega (arith, n, c.requires.within)) in
    small g.L.Leaf.entry g.L.Leaf.enough c.args.key _ _ NoJoin (JoinsIf (g.E.Cut.shrinks c.args.edit.now) g.L.Leaf.joins) leaf_tree 0 c.args.i ss o.even (omega (arith, n, c.requires.within)) (omega arith) (omega (arith, h)) c.args.entries.now o.entries c.requires.from c.requires.upto (λ x y zs q. absurd q) c.cut_leaf_at.new.slots c.cut_leaf_at.ensures.dense _ (subst (ShrankAt g.L.Leaf.entry g.L.Leaf.enough NoJoin c.args.key _ _ c.args.i ss (map leaf_tree (held c.cut_leaf_at.new.slots))) c.in-Small.is (c.cut_leaf_at.ensures.shrank c.args.key)) g.L.Leaf.joins (join_after g.L.Leaf.joins (g.E.Cut.shrinks c.args.edit.now) (c.cut_leaf_at.ensures.may _ c.in-Small.is)) c.neighbour.result _ s (omega (arith, w)) (sym h) c.mend_leaves.new.slots c.mend_leaves.ensures.mended c.mend_leaves.ensures.dense _ c.mend_leaves.ensures.entries _ c.small_of.ensures

pub cut_leaf_at-requires : goal.cut_leaf_at-requires
cut_leaf_at-requires g c =
    let ss = map leaf_tree (held c.args.slots.now) in
    let o = c.requires.over in
    let n : length c.args.entries.now ≡ length ss = ap length o.entries ∙ length-entries g.L.Leaf.entry ss in
    let m : length ss ≡ length (held c.args.slots.now) = length-map (held c.args.slots.now) leaf_tree in (
      lit< tt,
      (
        o.dense,
        (
          omega (arith, n, m, c.requires.within),
          λ l k. c.entry-was.ensures ∙ kid_entry g.L.Leaf.entry c.args.slots.now c.args.entries.now c.args.i l o.dense (omega (arith, n, m, c.requires.within)) o.entries k,
        ),
      ),
    )
