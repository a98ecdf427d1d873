use Rattle.std.proofs.Common.{lit<}
use Rattle.vm_tree.proofs.tree.node_root.Goals as goal

pub array_drop-deref_mut-requires : goal.array_drop-deref_mut-requires
array_drop-deref_mut-requires g c = lit< tt

pub array_drop-requires : goal.array_drop-requires
array_drop-requires g c = lit< tt
