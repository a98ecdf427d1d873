-- The block in the middle splits the starts in two. The prover does not carry this cut from the starts over to the blocks.
use Rattle.std.proofs.Common.{◌≡◌, ◌∷◌, ◌++◌, length, rules}
use Rattle.vm_saved_trees.proofs.SavedNodes.BlockStarts.{is_parted, length-blocks_from, lowest_height}
use Rattle.vm_saved_trees.proofs.written.WrittenTree.root.Goals as goal

pub between-requires : goal.between-requires
between-requires c =
    let cut : c.self.inside.starts.now ≡ c.split_at.result.0.now ++ c.in-Some.block.now ∷ c.in-Some.after.now = search rules in
    rw c.last_before.ensures (is_parted _ c.split_at.result.0.now c.in-Some.after.now c.in-Some.block.now c.self.inside.end cut c.self.invariant).middle

pub invariant_of-result : goal.invariant_of-result
invariant_of-result c =
    let cut : c.self.inside.starts.now ≡ c.split_at.result.0.now ++ c.in-Some.block.now ∷ c.in-Some.after.now = search rules in
    rw c.saturating_sub.ensures (is_parted _ c.split_at.result.0.now c.in-Some.after.now c.in-Some.block.now c.self.inside.end cut c.self.invariant).lower

pub invariant_of-result-2 : goal.invariant_of-result-2
invariant_of-result-2 c =
    let cut : c.self.inside.starts.now ≡ c.split_at.result.0.now ++ c.in-Some.block.now ∷ c.in-Some.after.now = search rules in
    (is_parted _ c.split_at.result.0.now c.in-Some.after.now c.in-Some.block.now c.self.inside.end cut c.self.invariant).upper

pub returns : goal.returns
returns c =
    let cut : c.self.inside.starts.now ≡ c.split_at.result.0.now ++ c.in-Some.block.now ∷ c.in-Some.after.now = search rules in
    let parted = is_parted _ c.split_at.result.0.now c.in-Some.after.now c.in-Some.block.now c.self.inside.end cut c.self.invariant in
    let all = length-blocks_from c.self.inside.starts.now c.self.inside.end in
    let left = length-blocks_from c.split_at.result.0.now c.saturating_sub.result in
    rw (← c.self.view_is) (record {
      cut = rw (c.saturating_sub.ensures, c.between.ensures, c.last_before.ensures) parted.parts;
      half = rw (all, left) c.split_at.ensures.front_len;
      height = rw (all, c.from.ensures) (lowest_height (length c.self.inside.starts.now) c.ilog2.result c.ilog2.ensures.power_le c.ilog2.ensures.next_power_gt);
    })
