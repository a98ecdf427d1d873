use Rattle.std.proofs.Common.{rules, ◌≡◌, ◌+◌, ◌≤◌, length, map, arith, ap, ◌∙◌, sym, subst, lit<}
use Rattle.std.proofs.lemmas.List.{length-map}
use Rattle.vm_tree.specs.Slots.{held}
use Rattle.vm_tree.specs.Subtree.{Subtree, kids, front, nth_tree, entry_of, Ascend}
use Rattle.vm_tree.specs.Nodes.{leaf_tree, node_tree, kids_of}
use Rattle.vm_tree.specs.Mends.{NoJoin}
use Rattle.vm_tree.specs.Shrinks.{JoinsIf, MeetsAfter, ShrankAt}
use Rattle.vm_tree.proofs.Flats.{length-entries, nth-entries, full_at}
use Rattle.vm_tree.proofs.Unders.{front_leaf}
use Rattle.vm_tree.proofs.Shrinking.{uncut_over, uncut, same_over, same, begun_over, begun, full_over_set, changed, small_entries, small_length, child_meets, small_over, small_some, small, join_before, node_pair, node_height, beside_suc}
use Rattle.vm_tree.specs.declared.node.Kids.{Kids}
use Rattle.vm_tree.proofs.Below.{at}
use Rattle.vm_tree.proofs.Cuts.{shrank_at}
use Rattle.vm_tree.proofs.Quiets.{shrunk_node_of}
use Rattle.vm_tree.proofs.Lowered.{some_left}
use Rattle.vm_tree.specs.Rows.{nth}
use Rattle.vm_tree.proofs.Flats.{child_ascends}
use Rattle.vm_tree.proofs.Unders.{under_ascends}
use Rattle.vm_tree.proofs.cut.+cut.Goals as goal

pub cut_nodes-returns-in-Refused-clause-over : goal.cut_nodes-returns-in-Refused-clause-over
cut_nodes-returns-in-Refused-clause-over g t c =
    let ss = map node_tree (held c.args.slots.now) in
    let o = c.requires.over in
    let n : length c.args.entries.now ≡ length ss = ap length o.entries ∙ length-entries g.L.Leaf.entry ss in
    let k : length ss ≡ length (held c.args.slots.now) = length-map (held c.args.slots.now) node_tree in
    uncut_over g.L.Leaf.entry g.L.Leaf.enough c.args.key _ _ (JoinsIf (g.E.Cut.shrinks c.args.edit.now) g.L.Leaf.joins) (JoinsIf (g.E.Cut.shrinks c.args.edit.now) g.L.Leaf.joins) node_tree 2 c.args.i ss o.even (omega (arith, n, c.requires.within)) o.deep (omega (arith, o.deep)) c.args.entries.now o.entries c.requires.from c.requires.upto (λ x y zs q. q) c.cut_node_at.new.slots c.cut_node_at.ensures.dense (subst (ShrankAt g.L.Leaf.entry g.L.Leaf.enough (JoinsIf (g.E.Cut.shrinks c.args.edit.now) g.L.Leaf.joins) c.args.key _ _ c.args.i ss (map node_tree (held c.cut_node_at.new.slots))) c.in-Refused.is c.cut_node_at.ensures.shrank)

pub cut_nodes-returns-in-Refused-clause-shrank : goal.cut_nodes-returns-in-Refused-clause-shrank
cut_nodes-returns-in-Refused-clause-shrank g t c =
    let ss = map node_tree (held c.args.slots.now) in
    let o = c.requires.over in
    let n : length c.args.entries.now ≡ length ss = ap length o.entries ∙ length-entries g.L.Leaf.entry ss in
    let k : length ss ≡ length (held c.args.slots.now) = length-map (held c.args.slots.now) node_tree in
    uncut g.L.Leaf.entry g.L.Leaf.enough c.args.key _ _ (JoinsIf (g.E.Cut.shrinks c.args.edit.now) g.L.Leaf.joins) (JoinsIf (g.E.Cut.shrinks c.args.edit.now) g.L.Leaf.joins) node_tree 2 c.args.i ss o.even (omega (arith, n, c.requires.within)) o.deep (omega (arith, o.deep)) c.args.entries.now o.entries c.requires.from c.requires.upto (λ x y zs q. q) c.cut_node_at.new.slots c.cut_node_at.ensures.dense (subst (ShrankAt g.L.Leaf.entry g.L.Leaf.enough (JoinsIf (g.E.Cut.shrinks c.args.edit.now) g.L.Leaf.joins) c.args.key _ _ c.args.i ss (map node_tree (held c.cut_node_at.new.slots))) c.in-Refused.is c.cut_node_at.ensures.shrank)

pub cut_nodes-returns-in-Same-clause-over : goal.cut_nodes-returns-in-Same-clause-over
cut_nodes-returns-in-Same-clause-over g t c =
    let ss = map node_tree (held c.args.slots.now) in
    let o = c.requires.over in
    let n : length c.args.entries.now ≡ length ss = ap length o.entries ∙ length-entries g.L.Leaf.entry ss in
    let k : length ss ≡ length (held c.args.slots.now) = length-map (held c.args.slots.now) node_tree in
    same_over g.L.Leaf.entry g.L.Leaf.enough c.args.key _ _ (JoinsIf (g.E.Cut.shrinks c.args.edit.now) g.L.Leaf.joins) (JoinsIf (g.E.Cut.shrinks c.args.edit.now) g.L.Leaf.joins) node_tree 2 c.args.i ss o.even (omega (arith, n, c.requires.within)) o.deep (omega (arith, o.deep)) c.args.entries.now o.entries c.requires.from c.requires.upto (λ x y zs q. q) c.cut_node_at.new.slots c.cut_node_at.ensures.dense (subst (ShrankAt g.L.Leaf.entry g.L.Leaf.enough (JoinsIf (g.E.Cut.shrinks c.args.edit.now) g.L.Leaf.joins) c.args.key _ _ c.args.i ss (map node_tree (held c.cut_node_at.new.slots))) c.in-Same.is c.cut_node_at.ensures.shrank)

pub cut_nodes-returns-in-Same-clause-shrank : goal.cut_nodes-returns-in-Same-clause-shrank
cut_nodes-returns-in-Same-clause-shrank g t c =
    let ss = map node_tree (held c.args.slots.now) in
    let o = c.requires.over in
    let n : length c.args.entries.now ≡ length ss = ap length o.entries ∙ length-entries g.L.Leaf.entry ss in
    let k : length ss ≡ length (held c.args.slots.now) = length-map (held c.args.slots.now) node_tree in
    same g.L.Leaf.entry g.L.Leaf.enough c.args.key _ _ (JoinsIf (g.E.Cut.shrinks c.args.edit.now) g.L.Leaf.joins) (JoinsIf (g.E.Cut.shrinks c.args.edit.now) g.L.Leaf.joins) node_tree 2 c.args.i ss o.even (omega (arith, n, c.requires.within)) o.deep (omega (arith, o.deep)) c.args.entries.now o.entries c.requires.from c.requires.upto (λ x y zs q. q) c.cut_node_at.new.slots c.cut_node_at.ensures.dense (subst (ShrankAt g.L.Leaf.entry g.L.Leaf.enough (JoinsIf (g.E.Cut.shrinks c.args.edit.now) g.L.Leaf.joins) c.args.key _ _ c.args.i ss (map node_tree (held c.cut_node_at.new.slots))) c.in-Same.is c.cut_node_at.ensures.shrank)

pub cut_nodes-returns-in-Begins-clause-over : goal.cut_nodes-returns-in-Begins-clause-over
cut_nodes-returns-in-Begins-clause-over g t c =
    let ss = map node_tree (held c.args.slots.now) in
    let o = c.requires.over in
    let n : length c.args.entries.now ≡ length ss = ap length o.entries ∙ length-entries g.L.Leaf.entry ss in
    let k : length ss ≡ length (held c.args.slots.now) = length-map (held c.args.slots.now) node_tree in
    begun_over g.L.Leaf.entry g.L.Leaf.enough c.args.key _ _ (JoinsIf (g.E.Cut.shrinks c.args.edit.now) g.L.Leaf.joins) (JoinsIf (g.E.Cut.shrinks c.args.edit.now) g.L.Leaf.joins) node_tree 2 c.args.i ss o.even (omega (arith, n, c.requires.within)) o.deep (omega (arith, o.deep)) c.args.entries.now o.entries c.requires.from c.requires.upto (λ x y zs q. q) c.cut_node_at.new.slots c.cut_node_at.ensures.dense _ _ (subst (ShrankAt g.L.Leaf.entry g.L.Leaf.enough (JoinsIf (g.E.Cut.shrinks c.args.edit.now) g.L.Leaf.joins) c.args.key _ _ c.args.i ss (map node_tree (held c.cut_node_at.new.slots))) c.in-Begins.is c.cut_node_at.ensures.shrank) c.begin_at.ensures.entries

pub cut_nodes-returns-in-Begins-clause-shrank : goal.cut_nodes-returns-in-Begins-clause-shrank
cut_nodes-returns-in-Begins-clause-shrank g t c =
    let ss = map node_tree (held c.args.slots.now) in
    let o = c.requires.over in
    let n : length c.args.entries.now ≡ length ss = ap length o.entries ∙ length-entries g.L.Leaf.entry ss in
    let k : length ss ≡ length (held c.args.slots.now) = length-map (held c.args.slots.now) node_tree in
    begun g.L.Leaf.entry g.L.Leaf.enough c.args.key _ _ (JoinsIf (g.E.Cut.shrinks c.args.edit.now) g.L.Leaf.joins) (JoinsIf (g.E.Cut.shrinks c.args.edit.now) g.L.Leaf.joins) node_tree 2 c.args.i ss o.even (omega (arith, n, c.requires.within)) o.deep (omega (arith, o.deep)) c.args.entries.now o.entries c.requires.from c.requires.upto (λ x y zs q. q) c.cut_node_at.new.slots c.cut_node_at.ensures.dense _ _ (subst (ShrankAt g.L.Leaf.entry g.L.Leaf.enough (JoinsIf (g.E.Cut.shrinks c.args.edit.now) g.L.Leaf.joins) c.args.key _ _ c.args.i ss (map node_tree (held c.cut_node_at.new.slots))) c.in-Begins.is c.cut_node_at.ensures.shrank) c.begin_at.ensures.entries _ c.begin_at.ensures.begun

pub cut_nodes-returns-in-Changed-clause-over : goal.cut_nodes-returns-in-Changed-clause-over
cut_nodes-returns-in-Changed-clause-over g t c =
    let ss = map node_tree (held c.args.slots.now) in
    let o = c.requires.over in
    let n : length c.args.entries.now ≡ length ss = ap length o.entries ∙ length-entries g.L.Leaf.entry ss in
    let k : length ss ≡ length (held c.args.slots.now) = length-map (held c.args.slots.now) node_tree in
    full_over_set g.L.Leaf.entry g.L.Leaf.enough c.args.key _ _ (JoinsIf (g.E.Cut.shrinks c.args.edit.now) g.L.Leaf.joins) (JoinsIf (g.E.Cut.shrinks c.args.edit.now) g.L.Leaf.joins) node_tree 2 c.args.i ss o.even (omega (arith, n, c.requires.within)) o.deep (omega (arith, o.deep)) c.args.entries.now o.entries c.requires.from c.requires.upto (λ x y zs q. q) c.cut_node_at.new.slots c.cut_node_at.ensures.dense _ _ (subst (ShrankAt g.L.Leaf.entry g.L.Leaf.enough (JoinsIf (g.E.Cut.shrinks c.args.edit.now) g.L.Leaf.joins) c.args.key _ _ c.args.i ss (map node_tree (held c.cut_node_at.new.slots))) c.in-Changed.is c.cut_node_at.ensures.shrank) c.set_entry.ensures

pub cut_nodes-returns-in-Changed-clause-shrank : goal.cut_nodes-returns-in-Changed-clause-shrank
cut_nodes-returns-in-Changed-clause-shrank g t c =
    let ss = map node_tree (held c.args.slots.now) in
    let o = c.requires.over in
    let n : length c.args.entries.now ≡ length ss = ap length o.entries ∙ length-entries g.L.Leaf.entry ss in
    let k : length ss ≡ length (held c.args.slots.now) = length-map (held c.args.slots.now) node_tree in
    changed g.L.Leaf.entry g.L.Leaf.enough c.args.key _ _ (JoinsIf (g.E.Cut.shrinks c.args.edit.now) g.L.Leaf.joins) (JoinsIf (g.E.Cut.shrinks c.args.edit.now) g.L.Leaf.joins) node_tree 2 c.args.i ss o.even (omega (arith, n, c.requires.within)) o.deep (omega (arith, o.deep)) c.args.entries.now o.entries c.requires.from c.requires.upto (λ x y zs q. q) c.cut_node_at.new.slots c.cut_node_at.ensures.dense _ _ (subst (ShrankAt g.L.Leaf.entry g.L.Leaf.enough (JoinsIf (g.E.Cut.shrinks c.args.edit.now) g.L.Leaf.joins) c.args.key _ _ c.args.i ss (map node_tree (held c.cut_node_at.new.slots))) c.in-Changed.is c.cut_node_at.ensures.shrank) c.set_entry.ensures

pub cut_nodes-mend_nodes-requires : goal.cut_nodes-mend_nodes-requires
cut_nodes-mend_nodes-requires g t c =
    let ss = map node_tree (held c.args.slots.now) in
    let o = c.requires.over in
    let n : length c.args.entries.now ≡ length ss = ap length o.entries ∙ length-entries g.L.Leaf.entry ss in
    let k : length ss ≡ length (held c.args.slots.now) = length-map (held c.args.slots.now) node_tree in
    let e = small_entries g.L.Leaf.entry g.L.Leaf.enough c.args.key _ _ (JoinsIf (g.E.Cut.shrinks c.args.edit.now) g.L.Leaf.joins) (JoinsIf (g.E.Cut.shrinks c.args.edit.now) g.L.Leaf.joins) node_tree 2 c.args.i ss o.even (omega (arith, n, c.requires.within)) o.deep (omega (arith, o.deep)) c.args.entries.now o.entries c.requires.from c.requires.upto (λ x y zs q. q) c.cut_node_at.new.slots c.cut_node_at.ensures.dense _ (subst (ShrankAt g.L.Leaf.entry g.L.Leaf.enough (JoinsIf (g.E.Cut.shrinks c.args.edit.now) g.L.Leaf.joins) c.args.key _ _ c.args.i ss (map node_tree (held c.cut_node_at.new.slots))) c.in-Small.is c.cut_node_at.ensures.shrank) _ c.set_entry-in-Small.ensures in
    let m = small_length g.L.Leaf.entry g.L.Leaf.enough c.args.key _ _ (JoinsIf (g.E.Cut.shrinks c.args.edit.now) g.L.Leaf.joins) (JoinsIf (g.E.Cut.shrinks c.args.edit.now) g.L.Leaf.joins) node_tree 2 c.args.i ss o.even (omega (arith, n, c.requires.within)) o.deep (omega (arith, o.deep)) c.args.entries.now o.entries c.requires.from c.requires.upto (λ x y zs q. q) c.cut_node_at.new.slots c.cut_node_at.ensures.dense _ (subst (ShrankAt g.L.Leaf.entry g.L.Leaf.enough (JoinsIf (g.E.Cut.shrinks c.args.edit.now) g.L.Leaf.joins) c.args.key _ _ c.args.i ss (map node_tree (held c.cut_node_at.new.slots))) c.in-Small.is c.cut_node_at.ensures.shrank) in
    let s = beside_suc c.neighbour.result c.args.i c.neighbour.ensures.beside in
    let w = c.neighbour.ensures.within (length ss) (omega (arith, n, c.requires.some)) (omega (arith, n, c.requires.within)) in
    (lit< tt, (lit< tt, (c.cut_node_at.ensures.dense, (e, node_pair g.L.Leaf.enough (front ss) c.args.i c.neighbour.result (held c.cut_node_at.new.slots) ss _ (subst (ShrankAt g.L.Leaf.entry g.L.Leaf.enough (JoinsIf (g.E.Cut.shrinks c.args.edit.now) g.L.Leaf.joins) c.args.key _ _ c.args.i ss (map node_tree (held c.cut_node_at.new.slots))) c.in-Small.is c.cut_node_at.ensures.shrank).list o.even o.deep (((subst (ShrankAt g.L.Leaf.entry g.L.Leaf.enough (JoinsIf (g.E.Cut.shrinks c.args.edit.now) g.L.Leaf.joins) c.args.key _ _ c.args.i ss (map node_tree (held c.cut_node_at.new.slots))) c.in-Small.is c.cut_node_at.ensures.shrank).shrank.one.height) ∙ (full_at g.L.Leaf.enough (front ss) ss c.args.i o.even (omega (arith, n, c.requires.within))).height) (subst (ShrankAt g.L.Leaf.entry g.L.Leaf.enough (JoinsIf (g.E.Cut.shrinks c.args.edit.now) g.L.Leaf.joins) c.args.key _ _ c.args.i ss (map node_tree (held c.cut_node_at.new.slots))) c.in-Small.is c.cut_node_at.ensures.shrank).shrank.one.fan (omega (arith, w, m)) (omega (arith, n, c.requires.within)) s))))

pub cut_nodes-small_of-requires : goal.cut_nodes-small_of-requires
cut_nodes-small_of-requires g t c =
    let ss = map node_tree (held c.args.slots.now) in
    let o = c.requires.over in
    let n : length c.args.entries.now ≡ length ss = ap length o.entries ∙ length-entries g.L.Leaf.entry ss in
    let k : length ss ≡ length (held c.args.slots.now) = length-map (held c.args.slots.now) node_tree in
    let e = small_entries g.L.Leaf.entry g.L.Leaf.enough c.args.key _ _ (JoinsIf (g.E.Cut.shrinks c.args.edit.now) g.L.Leaf.joins) (JoinsIf (g.E.Cut.shrinks c.args.edit.now) g.L.Leaf.joins) node_tree 2 c.args.i ss o.even (omega (arith, n, c.requires.within)) o.deep (omega (arith, o.deep)) c.args.entries.now o.entries c.requires.from c.requires.upto (λ x y zs q. q) c.cut_node_at.new.slots c.cut_node_at.ensures.dense _ (subst (ShrankAt g.L.Leaf.entry g.L.Leaf.enough (JoinsIf (g.E.Cut.shrinks c.args.edit.now) g.L.Leaf.joins) c.args.key _ _ c.args.i ss (map node_tree (held c.cut_node_at.new.slots))) c.in-Small.is c.cut_node_at.ensures.shrank) _ c.set_entry-in-Small.ensures in
    let m = small_length g.L.Leaf.entry g.L.Leaf.enough c.args.key _ _ (JoinsIf (g.E.Cut.shrinks c.args.edit.now) g.L.Leaf.joins) (JoinsIf (g.E.Cut.shrinks c.args.edit.now) g.L.Leaf.joins) node_tree 2 c.args.i ss o.even (omega (arith, n, c.requires.within)) o.deep (omega (arith, o.deep)) c.args.entries.now o.entries c.requires.from c.requires.upto (λ x y zs q. q) c.cut_node_at.new.slots c.cut_node_at.ensures.dense _ (subst (ShrankAt g.L.Leaf.entry g.L.Leaf.enough (JoinsIf (g.E.Cut.shrinks c.args.edit.now) g.L.Leaf.joins) c.args.key _ _ c.args.i ss (map node_tree (held c.cut_node_at.new.slots))) c.in-Small.is c.cut_node_at.ensures.shrank) in
    let s = beside_suc c.neighbour.result c.args.i c.neighbour.ensures.beside in
    let w = c.neighbour.ensures.within (length ss) (omega (arith, n, c.requires.some)) (omega (arith, n, c.requires.within)) in
    small_some g.L.Leaf.entry g.L.Leaf.enough c.args.key _ _ (JoinsIf (g.E.Cut.shrinks c.args.edit.now) g.L.Leaf.joins) (JoinsIf (g.E.Cut.shrinks c.args.edit.now) g.L.Leaf.joins) node_tree 2 c.args.i ss o.even (omega (arith, n, c.requires.within)) o.deep (omega (arith, o.deep)) c.args.entries.now o.entries c.requires.from c.requires.upto (λ x y zs q. q) c.cut_node_at.new.slots c.cut_node_at.ensures.dense _ (subst (ShrankAt g.L.Leaf.entry g.L.Leaf.enough (JoinsIf (g.E.Cut.shrinks c.args.edit.now) g.L.Leaf.joins) c.args.key _ _ c.args.i ss (map node_tree (held c.cut_node_at.new.slots))) c.in-Small.is c.cut_node_at.ensures.shrank) NoJoin (join_before (JoinsIf (g.E.Cut.shrinks c.args.edit.now) g.L.Leaf.joins)) c.neighbour.result _ s (omega (arith, w)) (node_height g.L.Leaf.enough (front ss) c.args.i c.neighbour.result (held c.cut_node_at.new.slots) ss _ (subst (ShrankAt g.L.Leaf.entry g.L.Leaf.enough (JoinsIf (g.E.Cut.shrinks c.args.edit.now) g.L.Leaf.joins) c.args.key _ _ c.args.i ss (map node_tree (held c.cut_node_at.new.slots))) c.in-Small.is c.cut_node_at.ensures.shrank).list o.even (((subst (ShrankAt g.L.Leaf.entry g.L.Leaf.enough (JoinsIf (g.E.Cut.shrinks c.args.edit.now) g.L.Leaf.joins) c.args.key _ _ c.args.i ss (map node_tree (held c.cut_node_at.new.slots))) c.in-Small.is c.cut_node_at.ensures.shrank).shrank.one.height) ∙ (full_at g.L.Leaf.enough (front ss) ss c.args.i o.even (omega (arith, n, c.requires.within))).height) (omega (arith, w))) c.mend_nodes.new.slots c.mend_nodes.ensures.mended c.mend_nodes.ensures.dense _ c.mend_nodes.ensures.entries

pub cut_nodes-returns-in-Small-clause-over : goal.cut_nodes-returns-in-Small-clause-over
cut_nodes-returns-in-Small-clause-over g t c =
    let ss = map node_tree (held c.args.slots.now) in
    let o = c.requires.over in
    let n : length c.args.entries.now ≡ length ss = ap length o.entries ∙ length-entries g.L.Leaf.entry ss in
    let k : length ss ≡ length (held c.args.slots.now) = length-map (held c.args.slots.now) node_tree in
    let e = small_entries g.L.Leaf.entry g.L.Leaf.enough c.args.key _ _ (JoinsIf (g.E.Cut.shrinks c.args.edit.now) g.L.Leaf.joins) (JoinsIf (g.E.Cut.shrinks c.args.edit.now) g.L.Leaf.joins) node_tree 2 c.args.i ss o.even (omega (arith, n, c.requires.within)) o.deep (omega (arith, o.deep)) c.args.entries.now o.entries c.requires.from c.requires.upto (λ x y zs q. q) c.cut_node_at.new.slots c.cut_node_at.ensures.dense _ (subst (ShrankAt g.L.Leaf.entry g.L.Leaf.enough (JoinsIf (g.E.Cut.shrinks c.args.edit.now) g.L.Leaf.joins) c.args.key _ _ c.args.i ss (map node_tree (held c.cut_node_at.new.slots))) c.in-Small.is c.cut_node_at.ensures.shrank) _ c.set_entry-in-Small.ensures in
    let m = small_length g.L.Leaf.entry g.L.Leaf.enough c.args.key _ _ (JoinsIf (g.E.Cut.shrinks c.args.edit.now) g.L.Leaf.joins) (JoinsIf (g.E.Cut.shrinks c.args.edit.now) g.L.Leaf.joins) node_tree 2 c.args.i ss o.even (omega (arith, n, c.requires.within)) o.deep (omega (arith, o.deep)) c.args.entries.now o.entries c.requires.from c.requires.upto (λ x y zs q. q) c.cut_node_at.new.slots c.cut_node_at.ensures.dense _ (subst (ShrankAt g.L.Leaf.entry g.L.Leaf.enough (JoinsIf (g.E.Cut.shrinks c.args.edit.now) g.L.Leaf.joins) c.args.key _ _ c.args.i ss (map node_tree (held c.cut_node_at.new.slots))) c.in-Small.is c.cut_node_at.ensures.shrank) in
    let s = beside_suc c.neighbour.result c.args.i c.neighbour.ensures.beside in
    let w = c.neighbour.ensures.within (length ss) (omega (arith, n, c.requires.some)) (omega (arith, n, c.requires.within)) in
    small_over g.L.Leaf.entry g.L.Leaf.enough c.args.key _ _ (JoinsIf (g.E.Cut.shrinks c.args.edit.now) g.L.Leaf.joins) (JoinsIf (g.E.Cut.shrinks c.args.edit.now) g.L.Leaf.joins) node_tree 2 c.args.i ss o.even (omega (arith, n, c.requires.within)) o.deep (omega (arith, o.deep)) c.args.entries.now o.entries c.requires.from c.requires.upto (λ x y zs q. q) c.cut_node_at.new.slots c.cut_node_at.ensures.dense _ (subst (ShrankAt g.L.Leaf.entry g.L.Leaf.enough (JoinsIf (g.E.Cut.shrinks c.args.edit.now) g.L.Leaf.joins) c.args.key _ _ c.args.i ss (map node_tree (held c.cut_node_at.new.slots))) c.in-Small.is c.cut_node_at.ensures.shrank) NoJoin (join_before (JoinsIf (g.E.Cut.shrinks c.args.edit.now) g.L.Leaf.joins)) c.neighbour.result _ s (omega (arith, w)) (node_height g.L.Leaf.enough (front ss) c.args.i c.neighbour.result (held c.cut_node_at.new.slots) ss _ (subst (ShrankAt g.L.Leaf.entry g.L.Leaf.enough (JoinsIf (g.E.Cut.shrinks c.args.edit.now) g.L.Leaf.joins) c.args.key _ _ c.args.i ss (map node_tree (held c.cut_node_at.new.slots))) c.in-Small.is c.cut_node_at.ensures.shrank).list o.even (((subst (ShrankAt g.L.Leaf.entry g.L.Leaf.enough (JoinsIf (g.E.Cut.shrinks c.args.edit.now) g.L.Leaf.joins) c.args.key _ _ c.args.i ss (map node_tree (held c.cut_node_at.new.slots))) c.in-Small.is c.cut_node_at.ensures.shrank).shrank.one.height) ∙ (full_at g.L.Leaf.enough (front ss) ss c.args.i o.even (omega (arith, n, c.requires.within))).height) (omega (arith, w))) c.mend_nodes.new.slots c.mend_nodes.ensures.mended c.mend_nodes.ensures.dense _ c.mend_nodes.ensures.entries

pub cut_nodes-returns-in-Small-clause-shrank : goal.cut_nodes-returns-in-Small-clause-shrank
cut_nodes-returns-in-Small-clause-shrank g t c =
    let ss = map node_tree (held c.args.slots.now) in
    let o = c.requires.over in
    let n : length c.args.entries.now ≡ length ss = ap length o.entries ∙ length-entries g.L.Leaf.entry ss in
    let k : length ss ≡ length (held c.args.slots.now) = length-map (held c.args.slots.now) node_tree in
    let e = small_entries g.L.Leaf.entry g.L.Leaf.enough c.args.key _ _ (JoinsIf (g.E.Cut.shrinks c.args.edit.now) g.L.Leaf.joins) (JoinsIf (g.E.Cut.shrinks c.args.edit.now) g.L.Leaf.joins) node_tree 2 c.args.i ss o.even (omega (arith, n, c.requires.within)) o.deep (omega (arith, o.deep)) c.args.entries.now o.entries c.requires.from c.requires.upto (λ x y zs q. q) c.cut_node_at.new.slots c.cut_node_at.ensures.dense _ (subst (ShrankAt g.L.Leaf.entry g.L.Leaf.enough (JoinsIf (g.E.Cut.shrinks c.args.edit.now) g.L.Leaf.joins) c.args.key _ _ c.args.i ss (map node_tree (held c.cut_node_at.new.slots))) c.in-Small.is c.cut_node_at.ensures.shrank) _ c.set_entry-in-Small.ensures in
    let m = small_length g.L.Leaf.entry g.L.Leaf.enough c.args.key _ _ (JoinsIf (g.E.Cut.shrinks c.args.edit.now) g.L.Leaf.joins) (JoinsIf (g.E.Cut.shrinks c.args.edit.now) g.L.Leaf.joins) node_tree 2 c.args.i ss o.even (omega (arith, n, c.requires.within)) o.deep (omega (arith, o.deep)) c.args.entries.now o.entries c.requires.from c.requires.upto (λ x y zs q. q) c.cut_node_at.new.slots c.cut_node_at.ensures.dense _ (subst (ShrankAt g.L.Leaf.entry g.L.Leaf.enough (JoinsIf (g.E.Cut.shrinks c.args.edit.now) g.L.Leaf.joins) c.args.key _ _ c.args.i ss (map node_tree (held c.cut_node_at.new.slots))) c.in-Small.is c.cut_node_at.ensures.shrank) in
    let s = beside_suc c.neighbour.result c.args.i c.neighbour.ensures.beside in
    let w = c.neighbour.ensures.within (length ss) (omega (arith, n, c.requires.some)) (omega (arith, n, c.requires.within)) in
    small g.L.Leaf.entry g.L.Leaf.enough c.args.key _ _ (JoinsIf (g.E.Cut.shrinks c.args.edit.now) g.L.Leaf.joins) (JoinsIf (g.E.Cut.shrinks c.args.edit.now) g.L.Leaf.joins) node_tree 2 c.args.i ss o.even (omega (arith, n, c.requires.within)) o.deep (omega (arith, o.deep)) c.args.entries.now o.entries c.requires.from c.requires.upto (λ x y zs q. q) c.cut_node_at.new.slots c.cut_node_at.ensures.dense _ (subst (ShrankAt g.L.Leaf.entry g.L.Leaf.enough (JoinsIf (g.E.Cut.shrinks c.args.edit.now) g.L.Leaf.joins) c.args.key _ _ c.args.i ss (map node_tree (held c.cut_node_at.new.slots))) c.in-Small.is c.cut_node_at.ensures.shrank) NoJoin (join_before (JoinsIf (g.E.Cut.shrinks c.args.edit.now) g.L.Leaf.joins)) c.neighbour.result _ s (omega (arith, w)) (node_height g.L.Leaf.enough (front ss) c.args.i c.neighbour.result (held c.cut_node_at.new.slots) ss _ (subst (ShrankAt g.L.Leaf.entry g.L.Leaf.enough (JoinsIf (g.E.Cut.shrinks c.args.edit.now) g.L.Leaf.joins) c.args.key _ _ c.args.i ss (map node_tree (held c.cut_node_at.new.slots))) c.in-Small.is c.cut_node_at.ensures.shrank).list o.even (((subst (ShrankAt g.L.Leaf.entry g.L.Leaf.enough (JoinsIf (g.E.Cut.shrinks c.args.edit.now) g.L.Leaf.joins) c.args.key _ _ c.args.i ss (map node_tree (held c.cut_node_at.new.slots))) c.in-Small.is c.cut_node_at.ensures.shrank).shrank.one.height) ∙ (full_at g.L.Leaf.enough (front ss) ss c.args.i o.even (omega (arith, n, c.requires.within))).height) (omega (arith, w))) c.mend_nodes.new.slots c.mend_nodes.ensures.mended c.mend_nodes.ensures.dense _ c.mend_nodes.ensures.entries _ c.small_of.ensures

pub cut_at-index_of-i-requires-clause-order : goal.cut_at-index_of-i-requires-clause-order
cut_at-index_of-i-requires-clause-order g t c = λ i j p q r.
    under_ascends g.L.Leaf.entry g.L.Leaf.enough c.node.inside.entries c.node.inside.kids c.node.invariant
    (subst (λ (s : Subtree g.row.L.Denot). Ascend g.L.Leaf.entry s.leaves) (sym c.node.view_is) c.requires.ascend) i j p q r

pub cut_node_at-shrunk_of-requires : goal.cut_node_at-shrunk_of-requires
cut_node_at-shrunk_of-requires g t c =
    let e = at node_tree c.args.slots.now c.args.i _ c.in-Some.kid c.in-Some.kid c.requires.dense c.requires.within c.in-Some.is in (
      lit< tt,
      λ h. some_left g.L.Leaf.entry g.L.Leaf.enough g.L.Leaf.joins c.args.key _ _ (g.E.Cut.shrinks c.args.edit.now) _ _ c.cut_at-outcome.result
          c.cut_at-outcome.ensures.shrank (subst (λ (s : Subtree g.row.L.Denot). 2 ≤ kids s) (e ∙ sym c.deref_mut-kid.ensures.value) c.requires.some),
    )

pub cut_node_at-returns-clause-shrank : goal.cut_node_at-returns-clause-shrank
cut_node_at-returns-clause-shrank g t c =
    let J = JoinsIf (g.E.Cut.shrinks c.args.edit.now) g.L.Leaf.joins in
    let e = at node_tree c.args.slots.now c.args.i _ c.in-Some.kid c.in-Some.kid c.requires.dense c.requires.within c.in-Some.is in
    shrank_at node_tree c.args.slots.now c.args.i _ c.in-Some.kid _ c.requires.dense c.requires.within c.in-Some.is g.L.Leaf.entry g.L.Leaf.enough J
    c.args.key _ _ c.shrunk_of.result _ c.deref_mut-kid.ensures.value
    (shrunk_node_of g.L.Leaf.entry g.L.Leaf.enough J c.args.key _ _ c.args.was _ _ c.cut_at-outcome.result c.shrunk_of.result
    (c.requires.was ∙ ap (entry_of g.L.Leaf.entry) (e ∙ sym c.deref_mut-kid.ensures.value)) c.shrunk_of.ensures c.cut_at-outcome.ensures.shrank)

pub cut_node_at-returns-clause-count : goal.cut_node_at-returns-clause-count
cut_node_at-returns-clause-count g t c =
    let e = at node_tree c.args.slots.now c.args.i _ c.in-Some.kid c.in-Some.kid c.requires.dense c.requires.within c.in-Some.is in
    let x = c.cut_at-outcome.ensures.count in
    let y = ap (λ (s : Subtree g.row.L.Denot). s.height) e in
    let z = ap (λ (s : Subtree g.row.L.Denot). s.height) c.deref_mut-kid.ensures.value in
    record { upto = omega (arith, x, y, z); from = omega (arith, x, y, z) }

pub cut_nodes-returns-in-Refused-clause-count : goal.cut_nodes-returns-in-Refused-clause-count
cut_nodes-returns-in-Refused-clause-count g t c =
    let ss = map node_tree (held c.args.slots.now) in
    let o = c.requires.over in
    let n : length c.args.entries.now ≡ length ss = ap length o.entries ∙ length-entries g.L.Leaf.entry ss in
    let k : length ss ≡ length (held c.args.slots.now) = length-map (held c.args.slots.now) node_tree in
    let f = full_at g.L.Leaf.enough (front ss) ss c.args.i o.even (omega (arith, n, c.requires.within)) in
    let h : (nth_tree ss c.args.i).height ≡ front ss = f.height in
    let x = c.cut_node_at.ensures.count in
    record { upto = omega (arith, x, h); from = omega (arith, x, h) }

pub cut_nodes-returns-in-Same-clause-count : goal.cut_nodes-returns-in-Same-clause-count
cut_nodes-returns-in-Same-clause-count g t c =
    let ss = map node_tree (held c.args.slots.now) in
    let o = c.requires.over in
    let n : length c.args.entries.now ≡ length ss = ap length o.entries ∙ length-entries g.L.Leaf.entry ss in
    let k : length ss ≡ length (held c.args.slots.now) = length-map (held c.args.slots.now) node_tree in
    let f = full_at g.L.Leaf.enough (front ss) ss c.args.i o.even (omega (arith, n, c.requires.within)) in
    let h : (nth_tree ss c.args.i).height ≡ front ss = f.height in
    let x = c.cut_node_at.ensures.count in
    record { upto = omega (arith, x, h); from = omega (arith, x, h) }

pub cut_nodes-returns-in-Begins-clause-count : goal.cut_nodes-returns-in-Begins-clause-count
cut_nodes-returns-in-Begins-clause-count g t c =
    let ss = map node_tree (held c.args.slots.now) in
    let o = c.requires.over in
    let n : length c.args.entries.now ≡ length ss = ap length o.entries ∙ length-entries g.L.Leaf.entry ss in
    let k : length ss ≡ length (held c.args.slots.now) = length-map (held c.args.slots.now) node_tree in
    let f = full_at g.L.Leaf.enough (front ss) ss c.args.i o.even (omega (arith, n, c.requires.within)) in
    let h : (nth_tree ss c.args.i).height ≡ front ss = f.height in
    let x = c.cut_node_at.ensures.count in
    record { upto = omega (arith, x, h); from = omega (arith, x, h) }

pub cut_nodes-returns-in-Changed-clause-count : goal.cut_nodes-returns-in-Changed-clause-count
cut_nodes-returns-in-Changed-clause-count g t c =
    let ss = map node_tree (held c.args.slots.now) in
    let o = c.requires.over in
    let n : length c.args.entries.now ≡ length ss = ap length o.entries ∙ length-entries g.L.Leaf.entry ss in
    let k : length ss ≡ length (held c.args.slots.now) = length-map (held c.args.slots.now) node_tree in
    let f = full_at g.L.Leaf.enough (front ss) ss c.args.i o.even (omega (arith, n, c.requires.within)) in
    let h : (nth_tree ss c.args.i).height ≡ front ss = f.height in
    let x = c.cut_node_at.ensures.count in
    record { upto = omega (arith, x, h); from = omega (arith, x, h) }

pub cut_nodes-returns-in-Small-clause-count : goal.cut_nodes-returns-in-Small-clause-count
cut_nodes-returns-in-Small-clause-count g t c =
    let ss = map node_tree (held c.args.slots.now) in
    let o = c.requires.over in
    let n : length c.args.entries.now ≡ length ss = ap length o.entries ∙ length-entries g.L.Leaf.entry ss in
    let k : length ss ≡ length (held c.args.slots.now) = length-map (held c.args.slots.now) node_tree in
    let f = full_at g.L.Leaf.enough (front ss) ss c.args.i o.even (omega (arith, n, c.requires.within)) in
    let h : (nth_tree ss c.args.i).height ≡ front ss = f.height in
    let x = c.cut_node_at.ensures.count in
    record { upto = omega (arith, x, h); from = omega (arith, x, h) }

pub cut_nodes-cut_node_at-requires : goal.cut_nodes-cut_node_at-requires
cut_nodes-cut_node_at-requires g t c κs within =
    let ss = map node_tree (held c.args.slots.now) in
    let o = c.requires.over in
    let n : length c.args.entries.now ≡ length ss = ap length o.entries ∙ length-entries g.L.Leaf.entry ss in
    let k : length ss ≡ length (held c.args.slots.now) = length-map (held c.args.slots.now) node_tree in
    let f = full_at g.L.Leaf.enough (front ss) ss c.args.i o.even (omega (arith, n, c.requires.within)) in
    let h : (nth_tree ss c.args.i).height ≡ front ss = f.height in (
      search (rules, h, c.decreases),
      (
        within.0,
        (
          within.1,
          (
            lit< tt,
            (
              lit< tt,
              (
                o.dense,
                (
                  omega (arith, n, k, c.requires.within),
                  (
                    omega (arith, f.fan (omega (arith, o.deep))),
                    (
                      child_ascends g.L.Leaf.entry c.args.i ss c.requires.ascend,
                      (
                        (λ q. child_meets g.L.Leaf.entry g.L.Leaf.enough c.args.key (λ _. ⊥) (λ _ _. ⊥) NoJoin NoJoin node_tree 2 c.args.i ss o.even (omega (arith, n, c.requires.within)) o.deep (omega (arith, o.deep)) c.args.entries.now o.entries c.requires.from c.requires.upto g.L.Leaf.meets _ (c.requires.meet q)),
                        c.entry-was.ensures ∙ ap (λ zs. nth zs c.args.i) o.entries ∙ nth-entries g.L.Leaf.entry ss c.args.i (omega (arith, n, c.requires.within)),
                      ),
                    ),
                  ),
                ),
              ),
            ),
          ),
        ),
      ),
    )

pub cut_node_at-cut_at-outcome-requires : goal.cut_node_at-cut_at-outcome-requires
cut_node_at-cut_at-outcome-requires g t c κs within =
    let e = at node_tree c.args.slots.now c.args.i _ c.in-Some.kid c.in-Some.kid c.requires.dense c.requires.within c.in-Some.is ∙ sym c.deref_mut-kid.ensures.value in
    let d : (nth_tree (map node_tree (held c.args.slots.now)) c.args.i).height ≡ c.deref_mut-kid.result.now.height =
    ap (λ (s : Subtree g.row.L.Denot). s.height) e in (
      search (rules, d, c.decreases),
      (
        within.0,
        (
          within.1,
          (
            lit< tt,
            (
              subst (λ (s : Subtree g.row.L.Denot). 2 ≤ kids s) e c.requires.some,
              (
                subst (λ (s : Subtree g.row.L.Denot). Ascend g.L.Leaf.entry s.leaves) e c.requires.ascend,
                λ q. subst (λ (s : Subtree g.row.L.Denot). MeetsAfter g.L.Leaf.entry g.L.Leaf.meets c.args.key (λ l ls. (d : g.row.E.Denot) × g.E.Cut.edits c.args.edit.now l d ls) s.leaves) e (c.requires.meet q),
              ),
            ),
          ),
        ),
      ),
    )

pub cut_at-returns-in-Leaves-clause-count : goal.cut_at-returns-in-Leaves-clause-count
cut_at-returns-in-Leaves-clause-count g t c =
    let h : front (map leaf_tree (held c.in-Leaves.slots)) + 1 ≡ c.args.node.now.height =
    ap (λ (k : Kids g.row.L.Denot). front (kids_of k) + 1) (sym c.in-Leaves.is) ∙ ap (λ (s : Subtree g.row.L.Denot). s.height) c.node.view_is in
    let k : length (map leaf_tree (held c.in-Leaves.slots)) ≡ kids c.args.node.now =
    ap (λ (k : Kids g.row.L.Denot). length (kids_of k)) (sym c.in-Leaves.is) ∙ ap (λ (s : Subtree g.row.L.Denot). kids s) c.node.view_is in
    let n = length-map (held c.in-Leaves.slots) leaf_tree in
    let x = front_leaf (held c.in-Leaves.slots) (omega (arith, k, n, c.requires.some)) in
    let y = c.cut_leaves.ensures.count in
    record { upto = omega (arith, h, x, y); from = omega (arith, h, x, y) }
