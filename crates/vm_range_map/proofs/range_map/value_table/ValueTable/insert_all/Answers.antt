-- The last value that is left goes to the last range without one. The prover does not take a list apart.
use Rattle.std.proofs.Common.{◌≡◌, ◌+◌, ◌<◌, ◌++◌, ◌∷◌, [], List, length, sym, ap, ◌∙◌, length-append, arith}
use Rattle.std.proofs.lemmas.List.{take_rest}
use Rattle.std.specs.Vec.{vec_len}
use Rattle.vm_range_map.proofs.SeveralValues.{next_new, last_inserted}
use Rattle.vm_range_map.proofs.range_map.value_table.ValueTable.insert_all.Goals as goal

pub insert-requires : goal.insert-requires
insert-requires g c =
    let i = c.loop-value.invariant.inserted in
    let n : vec_len c.loop-value.left ≡ c.len-at.result + 1 = omega (arith, c.in-Some.ensures.cases, c.len-at.ensures) in
    let all = ap (λ (v : List g.row.T.Denot). length v) i.1 ∙ length-append c.loop-value.left.items i.0 in
    let within : c.len-at.result < length c.args.ranges.now = omega (arith, n, all, c.loop-value.left.ok.0, c.requires.many) in
    rw (i.2, n, c.start.ensures.value)
    (next_new c.args.ranges.now c.len-at.result c.index-ranges-at.result within c.index-ranges-at.is c.args.self.now i.0 c.requires.new)

pub remove_all-requires-clause-inserted : goal.remove_all-requires-clause-inserted
remove_all-requires-clause-inserted g c =
    let l = c.loop-value in
    let n : vec_len l.left ≡ c.len-at.result + 1 = omega (arith, c.in-Some.ensures.cases, c.len-at.ensures) in
    rw (take_rest c.args.ranges.now (c.len-at.result + 1)) (
      c.args.self.now,
      l.invariant.inserted.0,
      last_inserted c.args.self.now c.insert.new.self c.args.ranges.now c.args.values.items l.left.items l.invariant.inserted.0
          (c.len-at.result + 1) (vec_len l.left) c.requires.many l.invariant.inserted.1 l.left.ok.0 n c.requires.new
          (c.in-Err.ensures.err ∙ l.invariant.inserted.2),
    )

-- The table and the list after the values were taken out again.
taken_out : (g : _) (c : goal.After-remove_all g) → (c.remove_all.new.self ≡ c.args.self.now)
    × (c.remove_all.new.values.items ≡ c.push.new.self.items ++ c.loop-value.invariant.inserted.0)
taken_out g c =
    let l = c.loop-value in
    let n : vec_len l.left ≡ c.len-at.result + 1 = omega (arith, c.in-Some.ensures.cases, c.len-at.ensures) in
    c.remove_all.ensures c.args.self.now l.invariant.inserted.0 (
    rw (take_rest c.args.ranges.now (c.len-at.result + 1))
    (last_inserted c.args.self.now c.insert.new.self c.args.ranges.now c.args.values.items l.left.items l.invariant.inserted.0
    (c.len-at.result + 1) (vec_len l.left) c.requires.many l.invariant.inserted.1 l.left.ok.0 n c.requires.new
    (c.in-Err.ensures.err ∙ l.invariant.inserted.2))
    )

pub returns-in-Err-clause-err : goal.returns-in-Err-clause-err
returns-in-Err-clause-err g c = (taken_out g c).0

pub returns-in-Err-clause-returned : goal.returns-in-Err-clause-returned
returns-in-Err-clause-returned g c =
    let i = c.loop-value.invariant.inserted in
    (taken_out g c).1
    ∙ ap (λ (v : List g.row.T.Denot). v ++ i.0)
    (c.in-Ok.ensures.items ∙ ap (λ (v : g.row.T.Denot). c.pop.new.self.items ++ v ∷ []) c.in-Err.ensures.returned ∙ sym c.in-Some.ensures.items)
    ∙ sym i.1
