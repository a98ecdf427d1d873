use Rattle.std.proofs.Common.{◌≡◌, ◌++◌, length}
use Rattle.vm_space.specs.Building.{remaining_blocks, IsBlockCursor}
use Rattle.vm_space.proofs.build.fill_leaf.Given as goal

abbrev pub invariant-loop-filled : goal.invariant-loop-filled
invariant-loop-filled l = record {
  cut : remaining_blocks l.fn.cursor ≡ l.leaf ++ remaining_blocks l.cursor;
  filled : length l.leaf ≡ l._filled;
  cursor : IsBlockCursor l.cursor;
}
