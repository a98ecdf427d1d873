use Rattle.vm_space.proofs.Spares.{more_spare}
use Rattle.vm_space.proofs.spare.Spare.new.Goals as goal

pub returns : goal.returns
returns c = more_spare _ _ _ c.in_ok-reserve_nodes.ensures.enough c.highest_with.ensures
