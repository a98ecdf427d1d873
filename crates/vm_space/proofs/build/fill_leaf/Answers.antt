-- The blocks so far and the next one are a leaf, as all blocks are a run. Lemmas state this, but the search with them gives up at its limits.
use Rattle.std.proofs.Common.{arith}
use Rattle.vm_space.specs.Building.{remaining_blocks}
use Rattle.vm_space.proofs.BlockCursors.{cursor_run, leaf_one_more, none_of_none}
use Rattle.vm_space.proofs.build.fill_leaf.Goals as goal

pub push-requires : goal.push-requires
push-requires c =
    let old = c.args.cursor.now in
    let run = cursor_run old c.requires.cursor (none_of_none (remaining_blocks old) c.args.count c.requires.enough c.requires.some) in
    leaf_one_more (remaining_blocks old) c.loop-filled.leaf (remaining_blocks c.loop-filled.cursor)
    (remaining_blocks c.take_first-in-loop-filled.new.self) c.take_first-in-loop-filled.result
    run c.loop-filled.invariant.cut c.take_first-in-loop-filled.ensures.first (omega arith)
