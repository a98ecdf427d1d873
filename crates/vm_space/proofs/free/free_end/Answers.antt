use Rattle.std.proofs.Common.{refl}
use Rattle.vm_space.specs.Edges.{FreesEnd}
use Rattle.vm_space.specs.declared.edge.FreeEnd.{FreeEnd}
use Rattle.vm_space.proofs.Spaces.{space_ascends}
use Rattle.vm_space.proofs.Dropped.{changed_meets, changed_after, frees_end}
use Rattle.vm_space.proofs.free.free_end.Goals as goal

pub cut-requires-clause-ascend : goal.cut-requires-clause-ascend
cut-requires-clause-ascend c = space_ascends _ c.requires.space

pub cut-requires-clause-meet : goal.cut-requires-clause-meet
cut-requires-clause-meet c = λ _.
    changed_meets c.args.edge.at (FreesEnd c.args.edge.end) _ c.args._key.now c.args.tree.now.leaves c.args.tree.now.leaves c.requires.space
    (frees_end c.args._key.now c.args.edge c.args.tree.now.leaves c.requires.space c.requires.apart) (λ (e : FreeEnd). e.joined)

pub returns-clause-freed : goal.returns-clause-freed
returns-clause-freed c =
    changed_after c.args.edge.at (FreesEnd c.args.edge.end) _ c.args._key.now c.args.tree.now.leaves c.args.tree.now.leaves c.requires.space
    (frees_end c.args._key.now c.args.edge c.args.tree.now.leaves c.requires.space c.requires.apart) c.cut.new.edit.joined
    c.args.tree.now c.cut.new.self c.cut.result refl c.cut.ensures.after
