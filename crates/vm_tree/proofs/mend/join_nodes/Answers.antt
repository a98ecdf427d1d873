use Rattle.std.proofs.Common.{rules, ◌+◌, ◌<◌, length, arith, lit<}
use Rattle.vm_tree.specs.Slots.{held}
use Rattle.vm_tree.specs.Subtree.{kids}
use Rattle.vm_tree.specs.Mends.{NoJoin}
use Rattle.std.specs.Box.{with_value}
use Rattle.vm_tree.proofs.Pairs.{pair_within, held_fits, no_low, no_high, kid_low, kid_high, pair_held, pair_dense, at_pair, paired_node}
use Rattle.vm_tree.proofs.mend.join_nodes.Goals as goal

pub overflow_add-i : goal.overflow_add-i
overflow_add-i g c =
    let w = pair_within _ c.args.i (held c.args.slots.now) c.requires.pair in
    let h = held_fits c.args.slots.now in
    let k : c.args.i + 1 < 17 = omega (arith, c.told-slots) in
    search rules

pub split_at_mut-from-requires : goal.split_at_mut-from-requires
split_at_mut-from-requires g c =
    omega (arith, pair_within _ c.args.i (held c.args.slots.now) c.requires.pair, held_fits c.args.slots.now)

pub bounds-to-0 : goal.bounds-to-0
bounds-to-0 g c =
    let w = pair_within _ c.args.i (held c.args.slots.now) c.requires.pair in
    let h = held_fits c.args.slots.now in
    let l : 0 < length c.split_at_mut-from.result.1.now = omega (arith, c.split_at_mut-from.ensures.back_len) in
    search rules

pub unreachable-requires : goal.unreachable-requires
unreachable-requires g c =
    let s = c.split_at_mut-from.ensures in
    no_low c.args.slots.now _ _ c.args.i s.value s.front_len c.requires.dense _ (pair_within _ c.args.i (held c.args.slots.now) c.requires.pair)
    c.in_default.is

pub unreachable-requires-in_default-to : goal.unreachable-requires-in_default-to
unreachable-requires-in_default-to g c =
    let s = c.split_at_mut-from.ensures in
    no_high c.args.slots.now _ _ c.args.i s.value s.front_len c.requires.dense _ (pair_within _ c.args.i (held c.args.slots.now) c.requires.pair)
    c.in_default-to.is

pub join-one-requires : goal.join-one-requires
join-one-requires g c =
    let s = c.split_at_mut-from.ensures in
    let w = pair_within _ c.args.i (held c.args.slots.now) c.requires.pair in
    let a = kid_low c.args.slots.now _ _ c.args.i s.value s.front_len c.requires.dense _ c.in-Some.low w c.in-Some.is in
    let b = kid_high c.args.slots.now _ _ c.args.i s.value s.front_len c.requires.dense _ c.in-Some-to.high w c.in-Some-to.is in
    let p = at_pair _ c.args.i (held c.args.slots.now) c.in-Some.low c.in-Some-to.high c.requires.pair a b in
    rw (c.deref_mut-low.ensures.value, c.deref_mut-high.ensures.value) (lit< tt, (p.0, ((p.1, p.2), p.3)))

pub entry-first-requires : goal.entry-first-requires
entry-first-requires g c =
    let s = c.split_at_mut-from.ensures in
    let w = pair_within _ c.args.i (held c.args.slots.now) c.requires.pair in
    let a = kid_low c.args.slots.now _ _ c.args.i s.value s.front_len c.requires.dense _ c.in-Some.low w c.in-Some.is in
    let b = kid_high c.args.slots.now _ _ c.args.i s.value s.front_len c.requires.dense _ c.in-Some-to.high w c.in-Some-to.is in
    let p = at_pair _ c.args.i (held c.args.slots.now) c.in-Some.low c.in-Some-to.high c.requires.pair a b in
    let q : 0 < kids c.deref_mut-low.result.now = rw (c.deref_mut-low.ensures.value) p.1 in
    let l = c.len-len.ensures.kids in
    let f = c.join-one.ensures.low.fan (omega (arith, l.kids, l.tall (omega (arith, l.kids, q)))) in
    omega (arith, f)

pub second_entry-second-requires : goal.second_entry-second-requires
second_entry-second-requires g c =
    let s = c.split_at_mut-from.ensures in
    let w = pair_within _ c.args.i (held c.args.slots.now) c.requires.pair in
    let a = kid_low c.args.slots.now _ _ c.args.i s.value s.front_len c.requires.dense _ c.in-Some.low w c.in-Some.is in
    let b = kid_high c.args.slots.now _ _ c.args.i s.value s.front_len c.requires.dense _ c.in-Some-to.high w c.in-Some-to.is in
    let p = at_pair _ c.args.i (held c.args.slots.now) c.in-Some.low c.in-Some-to.high c.requires.pair a b in
    let q : 0 < kids c.deref_mut-low.result.now = rw (c.deref_mut-low.ensures.value) p.1 in
    let l = c.len-len.ensures.kids in
    (lit< tt, λ z. omega (arith, (c.join-one.ensures.high z).fan (omega (arith, l.kids, l.tall (omega (arith, l.kids, q))))))

pub returns-clause-dense : goal.returns-clause-dense
returns-clause-dense g c =
    let s = c.split_at_mut-from.ensures in
    pair_dense c.args.slots.now _ _ c.args.i s.value s.front_len c.requires.dense _ _
    (pair_within _ c.args.i (held c.args.slots.now) c.requires.pair)

pub returns-clause-paired : goal.returns-clause-paired
returns-clause-paired g c =
    let s = c.split_at_mut-from.ensures in
    let w = pair_within _ c.args.i (held c.args.slots.now) c.requires.pair in
    let a = kid_low c.args.slots.now _ _ c.args.i s.value s.front_len c.requires.dense _ c.in-Some.low w c.in-Some.is in
    let b = kid_high c.args.slots.now _ _ c.args.i s.value s.front_len c.requires.dense _ c.in-Some-to.high w c.in-Some-to.is in
    let p = pair_held c.args.slots.now _ _ c.args.i s.value s.front_len c.requires.dense (with_value c.in-Some.low c.join-one.new.self)
    (with_value c.in-Some-to.high c.join-one.new.next) w in
    let j = rw (c.deref_mut-low.ensures.value, c.deref_mut-high.ensures.value) at c.join-one.ensures in
    paired_node g.L.Leaf.entry g.L.Leaf.enough NoJoin (held c.args.slots.now) _ c.args.i c.in-Some.low c.in-Some-to.high _ _
    c.join-one.result c.entry-first.result c.second_entry-second.result w a b p j c.entry-first.ensures c.second_entry-second.ensures
