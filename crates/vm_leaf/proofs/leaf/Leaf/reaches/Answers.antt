-- The gaps so far are summed up. The prover does not find that a gap in the mask is a block of the leaf.
use Rattle.std.proofs.Common.{rules, arith, ◌≡◌, ◌+◌, max, refl}
use Rattle.std.proofs.lemmas.Grind.{common_steps}
use Rattle.vm_leaf.specs.GapMasks.{IsLowestOne}
use Rattle.vm_leaf.specs.Blocks.{nth}
use Rattle.vm_leaf.proofs.GapMasks.{lowest_within, lowest_from, held_between, gaps_behind}
use Rattle.vm_leaf.proofs.Reaches.{none_summed, skipped, summed, part_summed}
use Rattle.vm_leaf.proofs.leaf.Leaf.reaches.Goals as goal

pub loop-gaps-init : goal.loop-gaps-init
loop-gaps-init c = record {
  index = 0;
  within = omega arith;
  rest = c.gaps-gaps.ensures;
  summed = none_summed c.args.self.now;
}

pub measure-length-requires : goal.measure-length-requires
measure-length-requires c =
    let h = c.loop-gaps.invariant in
    lowest_within c.args.self.now h.index c.lowest_one-i.result c.loop-gaps.gaps 0 h.rest c.lowest_one-i.ensures

pub loop-gaps-preserved : goal.loop-gaps-preserved
loop-gaps-preserved c =
    let bs = c.args.self.now in
    let h = c.loop-gaps.invariant in
    let i = c.lowest_one-i.result in
    let low : IsLowestOne c.loop-gaps.gaps i = c.lowest_one-i.ensures in
    let l = lowest_within bs h.index i c.loop-gaps.gaps 0 h.rest low in
    let f = lowest_from bs h.index i c.loop-gaps.gaps 0 h.rest low in
    let before = skipped bs h.index i c.loop-gaps.most c.loop-gaps.reached f (omega (arith, l))
    (held_between bs h.index i c.loop-gaps.gaps 0 h.rest low) h.summed in
    let w = c.without_lowest-gaps.ensures in
    let m = c.measure-length.ensures in
    let most : c.max-most.result ≡ max c.loop-gaps.most c.measure-length.result.0 = grind (arith, common_steps) in
    record {
      index = i + 1;
      within = omega (arith, l);
      rest = gaps_behind bs h.index i c.loop-gaps.gaps c.without_lowest-gaps.result h.rest low w.less (w.above i low);
      summed = rw most
          (summed bs i c.loop-gaps.most c.loop-gaps.reached c.measure-length.result.1 c.measure-length.result.0 (nth bs i).key l (h.rest.free i low.one) refl
          m.length m.reach before);
    }

pub returns-then-longest-most : goal.returns-then-longest-most
returns-then-longest-most c = λ e.
    let h = c.loop-gaps.invariant in
    let p = part_summed c.args.self.now h.index c.loop-gaps.most c.loop-gaps.reached _ h.summed c.bit_length-then-longest-most.ensures in
    (omega (arith, p.0, c.if-longest-most.true), search (rules, p.1, e))
