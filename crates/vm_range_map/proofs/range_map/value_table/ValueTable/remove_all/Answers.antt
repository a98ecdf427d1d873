-- The first range that is left has the first of the values that are left. The prover does not take a list apart.
use Rattle.std.proofs.Common.{◌≡◌, ◌++◌, ◌∷◌, [], List, sym, ap, ◌∙◌, append_assoc, arith}
use Rattle.std.specs.FinMap as map
use Rattle.vm_range_map.proofs.SeveralValues.{first_at}
use Rattle.vm_range_map.proofs.range_map.value_table.ValueTable.remove_all.Goals as goal

pub unreachable-requires : goal.unreachable-requires
unreachable-requires g c =
    let l = c.loop-range in
    let i = l.invariant.inserted in
    let f = first_at i.0 l.self c.args.ranges.now l.range-index c.range-item.result i.1 c.loop-range-test.true c.range-item.is i.2 in
    let here = f.here in
    absurd (cc (c.in_default.is, c.remove.ensures.value, c.start.ensures.value, here))

pub loop-range-preserved : goal.loop-range-preserved
loop-range-preserved g c =
    let l = c.loop-range in
    let i = l.invariant in
    let left : c.remove.new.self ≡ map.remove l.self c.range-item.result.start =
    c.remove.ensures.rest ∙ ap (λ k. map.remove l.self k) c.start.ensures.value in
    record {
      inserted =
          let f = first_at i.inserted.0 l.self c.args.ranges.now l.range-index c.range-item.result i.inserted.1 c.loop-range-test.true
          c.range-item.is i.inserted.2 in
          (i.inserted.0, f.others, rw left f.left);
      moved = λ before removed h.
          let m = i.moved before removed h in
          let f = first_at before l.self c.args.ranges.now l.range-index c.range-item.result m.0 c.loop-range-test.true c.range-item.is m.1 in
          let here = f.here in
          let same : f.value ≡ c.in-Some.value = cc (c.in-Some.is, c.remove.ensures.value, c.start.ensures.value, here) in (
            f.others,
            rw left f.left,
            m.2 ∙ ap (λ (v : List g.row.T.Denot). l.values.items ++ v) (f.are ∙ ap (λ (v : g.row.T.Denot). v ∷ f.others) same)
                ∙ sym (append_assoc l.values.items (c.in-Some.value ∷ []) f.others)
                ∙ ap (λ (v : List g.row.T.Denot). v ++ f.others) (sym c.in-Ok.ensures.items),
          );
      room = let room = i.room in omega (arith, room, c.in-Ok.ensures.len, c.in-Ok.ensures.capacity);
    }
