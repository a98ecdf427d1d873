use Rattle.std.proofs.Common.{rules, ◌+◌, ◌<◌, length, arith}
use Rattle.vm_tree.specs.Slots.{held}
use Rattle.std.specs.Box.{with_value}
use Rattle.vm_tree.proofs.Pairs.{pair_within, held_fits, no_low, no_high, kid_low, kid_high, pair_held, pair_dense, at_pair, paired_leaf}
use Rattle.vm_tree.proofs.mend.join_leaves.Goals as goal

pub overflow_add-i : goal.overflow_add-i
overflow_add-i g c =
    let w = pair_within _ c.args.i (held c.args.slots.now) c.requires.pair in
    let h = held_fits c.args.slots.now in
    let k : c.args.i + 1 < 17 = omega (arith, c.told-slots) in
    search rules

pub split_at_mut-from-requires : goal.split_at_mut-from-requires
split_at_mut-from-requires g c =
    omega (arith, pair_within _ c.args.i (held c.args.slots.now) c.requires.pair, held_fits c.args.slots.now)

pub bounds-to-0 : goal.bounds-to-0
bounds-to-0 g c =
    let w = pair_within _ c.args.i (held c.args.slots.now) c.requires.pair in
    let h = held_fits c.args.slots.now in
    let l : 0 < length c.split_at_mut-from.result.1.now = omega (arith, c.split_at_mut-from.ensures.back_len) in
    search rules

pub unreachable-requires : goal.unreachable-requires
unreachable-requires g c =
    let s = c.split_at_mut-from.ensures in
    no_low c.args.slots.now _ _ c.args.i s.value s.front_len c.requires.dense _ (pair_within _ c.args.i (held c.args.slots.now) c.requires.pair)
    c.in_default.is

pub unreachable-requires-in_default-to : goal.unreachable-requires-in_default-to
unreachable-requires-in_default-to g c =
    let s = c.split_at_mut-from.ensures in
    no_high c.args.slots.now _ _ c.args.i s.value s.front_len c.requires.dense _ (pair_within _ c.args.i (held c.args.slots.now) c.requires.pair)
    c.in_default-to.is

pub join-one-requires-clause-meets : goal.join-one-requires-clause-meets
join-one-requires-clause-meets g c =
    let s = c.split_at_mut-from.ensures in
    let w = pair_within _ c.args.i (held c.args.slots.now) c.requires.pair in
    let a = kid_low c.args.slots.now _ _ c.args.i s.value s.front_len c.requires.dense _ c.in-Some.low w c.in-Some.is in
    let b = kid_high c.args.slots.now _ _ c.args.i s.value s.front_len c.requires.dense _ c.in-Some-to.high w c.in-Some-to.is in
    rw (c.deref_mut-low.ensures.value, c.deref_mut-high.ensures.value)
    (at_pair _ c.args.i (held c.args.slots.now) c.in-Some.low c.in-Some-to.high c.requires.pair a b).0

pub join-one-requires-clause-enough : goal.join-one-requires-clause-enough
join-one-requires-clause-enough g c =
    let s = c.split_at_mut-from.ensures in
    let w = pair_within _ c.args.i (held c.args.slots.now) c.requires.pair in
    let a = kid_low c.args.slots.now _ _ c.args.i s.value s.front_len c.requires.dense _ c.in-Some.low w c.in-Some.is in
    let b = kid_high c.args.slots.now _ _ c.args.i s.value s.front_len c.requires.dense _ c.in-Some-to.high w c.in-Some-to.is in
    rw (c.deref_mut-low.ensures.value, c.deref_mut-high.ensures.value)
    (at_pair _ c.args.i (held c.args.slots.now) c.in-Some.low c.in-Some-to.high c.requires.pair a b).1

pub returns-clause-dense : goal.returns-clause-dense
returns-clause-dense g c =
    let s = c.split_at_mut-from.ensures in
    pair_dense c.args.slots.now _ _ c.args.i s.value s.front_len c.requires.dense _ _
    (pair_within _ c.args.i (held c.args.slots.now) c.requires.pair)

pub returns-clause-paired : goal.returns-clause-paired
returns-clause-paired g c =
    let s = c.split_at_mut-from.ensures in
    let w = pair_within _ c.args.i (held c.args.slots.now) c.requires.pair in
    let a = kid_low c.args.slots.now _ _ c.args.i s.value s.front_len c.requires.dense _ c.in-Some.low w c.in-Some.is in
    let b = kid_high c.args.slots.now _ _ c.args.i s.value s.front_len c.requires.dense _ c.in-Some-to.high w c.in-Some-to.is in
    let p = pair_held c.args.slots.now _ _ c.args.i s.value s.front_len c.requires.dense (with_value c.in-Some.low c.join-one.new.self)
    (with_value c.in-Some-to.high c.join-one.new.next) w in
    let o = rw (c.deref_mut-low.ensures.value, c.deref_mut-high.ensures.value) at c.join-one.ensures.one in
    let t = rw (c.deref_mut-low.ensures.value, c.deref_mut-high.ensures.value) at c.join-one.ensures.two in
    paired_leaf g.L.Leaf.entry g.L.Leaf.enough g.L.Leaf.joins (held c.args.slots.now) _ c.args.i c.in-Some.low c.in-Some-to.high _ _
    c.join-one.result c.entry.result c.entry-2.result w a b p o t c.entry.ensures c.entry-2.ensures
