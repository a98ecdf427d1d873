use Rattle.std.proofs.Common.{rules, ◌≡◌, ℕ, ◌+◌, ◌-◌, ◌*◌, ◌/◌, ap, ◌∙◌, sym, arith, subst}
use Rattle.vm_tree.specs.Subtree.{Subtree, IsFull, entry_of, kids}
use Rattle.vm_tree.specs.Nodes.{node_tree}
use Rattle.vm_tree.specs.Building.{IsRow, IsShare, IsBuilt}
use Rattle.vm_tree.proofs.Building.{row_first, row_next, row_built, row_left, share_count, level_below, part_of, count_most, eight_kids}
use Rattle.vm_tree.proofs.build.+build.Goals as goal

pub build_nodes-loop-i-init : goal.build_nodes-loop-i-init
build_nodes-loop-i-init g t c =
    let b = level_below c.args.levels c.args.below c.requires.levels c.requires.power in
    let none : 0 ≡ c.args.n - c.args.n = omega arith in
    let whole : 16 * (c.args.below / 16) ≡ c.args.below = omega (arith, b.whole) in
    let s = share_count c.args.n (c.args.below / 16) b.some (omega (arith, c.requires.many)) (omega (arith, c.requires.few)) in
    let count : (c.args.n - 1) / (16 * (c.args.below / 16)) + 1 ≡ (c.args.n - 1) / c.args.below + 1 - 0 =
    ap (λ m. (c.args.n - 1) / m + 1) whole ∙ omega arith in
    record {
      row = subst (λ m. IsRow g.L.Leaf.entry g.L.Leaf.enough node_tree (c.args.levels + 1) 0 c.empty-entries.result c.no_slots-slots.result
          (g.S.Source.left c.args.source.now) (g.S.Source.left c.args.source.now) m) none
          (row_first g.L.Leaf.entry g.L.Leaf.enough node_tree (c.args.levels + 1) c.empty-entries.result c.no_slots-slots.result
          (g.S.Source.left c.args.source.now) c.empty-entries.ensures c.no_slots-slots.ensures.dense c.no_slots-slots.ensures.held c.requires.all);
      left = omega arith;
      share = subst (λ m. IsShare m (8 * (c.args.below / 16)) (16 * (c.args.below / 16)) c.args.n) count s.2;
    }

pub build_nodes-build_node-requires : goal.build_nodes-build_node-requires
build_nodes-build_node-requires g t c κs within =
    let b = level_below c.args.levels c.args.below c.requires.levels c.requires.power in
    let count = (c.args.n - 1) / c.args.below + 1 in
    let p = part_of (c.args.below / 16) c.loop-i.left (count - c.loop-i.i) b.some (omega (arith, c.loop-i-test.true)) c.loop-i.invariant.share in
    let l = row_left g.L.Leaf.entry g.L.Leaf.enough node_tree (c.args.levels + 1) c.loop-i.i c.args.n c.loop-i.left c.loop-i.entries c.loop-i.slots
    (g.S.Source.left c.args.source.now) (g.S.Source.left c.loop-i.source) c.loop-i.invariant.row c.loop-i.invariant.left c.requires.there in (
      search (rules, c.requires.levels, c.decreases),
      (within.0, (within.1, (omega arith, (b.power, (p.many, (p.few, (omega (arith, p.upto, l), c.loop-i.invariant.row.all))))))),
    )

pub build_nodes-entry_over-requires : goal.build_nodes-entry_over-requires
build_nodes-entry_over-requires g t c =
    let b = level_below c.args.levels c.args.below c.requires.levels c.requires.power in
    let count = (c.args.n - 1) / c.args.below + 1 in
    let p = part_of (c.args.below / 16) c.loop-i.left (count - c.loop-i.i) b.some (omega (arith, c.loop-i-test.true)) c.loop-i.invariant.share in
    let high = eight_kids (c.loop-i.left / (count - c.loop-i.i)) (c.args.below / 16) _ b.some c.in_ok-kid.ensures.fan p.low in
    let v : c.deref.result.now ≡ c.in_ok-kid.kid.value = c.deref.ensures in
    (omega arith, omega (arith, high, ap kids v))

pub build_nodes-loop-i-preserved : goal.build_nodes-loop-i-preserved
build_nodes-loop-i-preserved g t c =
    let b = level_below c.args.levels c.args.below c.requires.levels c.requires.power in
    let count = (c.args.n - 1) / c.args.below + 1 in
    let p = part_of (c.args.below / 16) c.loop-i.left (count - c.loop-i.i) b.some (omega (arith, c.loop-i-test.true)) c.loop-i.invariant.share in
    let k = c.in_ok-kid.ensures in
    let part : ℕ = c.loop-i.left / (count - c.loop-i.i) in
    let high = eight_kids part (c.args.below / 16) _ b.some k.fan p.low in
    let level : c.args.levels - 1 + 2 ≡ c.args.levels + 1 = omega (arith, c.requires.levels) in
    let less : count - c.loop-i.i - 1 ≡ count - (c.loop-i.i + 1) = omega arith in
    record {
      row = row_next g.L.Leaf.entry g.L.Leaf.enough node_tree (c.args.levels + 1) c.loop-i.i (c.args.n - c.loop-i.left)
          (c.args.n - (c.loop-i.left - part)) c.loop-i.entries c.insert.new.self c.entry_over.result c.loop-i.slots c.insert_slot.new.slots
          c.in_ok-kid.kid (g.S.Source.left c.args.source.now) (g.S.Source.left c.loop-i.source) (g.S.Source.left c.build_node.new.source)
          c.loop-i.invariant.row
          (subst (λ m. IsFull g.L.Leaf.enough m c.in_ok-kid.kid.value) level (k.full (omega (arith, high)))) k.cut
          (c.entry_over.ensures ∙ ap (entry_of g.L.Leaf.entry) c.deref.ensures) c.insert.ensures c.insert_slot.ensures.dense
          c.insert_slot.ensures.held (omega (arith, k.count, p.upto, c.loop-i.invariant.left));
      left = omega (arith, c.loop-i.invariant.left);
      share = subst (λ m. IsShare m (8 * (c.args.below / 16)) (16 * (c.args.below / 16)) (c.loop-i.left - part)) less p.next;
    }

pub build_nodes-returns : goal.build_nodes-returns
build_nodes-returns g t c =
    let b = level_below c.args.levels c.args.below c.requires.levels c.requires.power in
    let count = (c.args.n - 1) / c.args.below + 1 in
    let e : c.loop-i.i ≡ (c.args.n - 1) / c.args.below + 1 = omega arith in
    let none : count - c.loop-i.i ≡ 0 = omega arith in
    let s : IsShare 0 (8 * (c.args.below / 16)) (16 * (c.args.below / 16)) c.loop-i.left =
    subst (λ m. IsShare m (8 * (c.args.below / 16)) (16 * (c.args.below / 16)) c.loop-i.left) none c.loop-i.invariant.share in
    let all : c.args.n - c.loop-i.left ≡ c.args.n = omega (arith, s.most) in
    subst (λ (s : Subtree g.row.L.Denot). IsBuilt g.L.Leaf.enough c.args.levels c.args.below c.args.n (g.S.Source.left c.args.source.now)
    (g.S.Source.left c.loop-i.source) s)
    (sym c.in_ok-new.ensures.ok)
    (row_built g.L.Leaf.entry g.L.Leaf.enough node_tree (c.args.levels + 1) c.args.levels c.args.below c.args.n c.loop-i.i c.loop-i.entries
    c.loop-i.slots (g.S.Source.left c.args.source.now) (g.S.Source.left c.loop-i.source)
    (subst (λ m. IsRow g.L.Leaf.entry g.L.Leaf.enough node_tree (c.args.levels + 1) c.loop-i.i c.loop-i.entries c.loop-i.slots
    (g.S.Source.left c.args.source.now) (g.S.Source.left c.loop-i.source) m) all c.loop-i.invariant.row) (omega arith)
    (omega (arith, count_most c.args.n c.args.below (omega (arith, b.whole, b.some)), ap (λ m. c.args.below * m) e)) (omega arith))
