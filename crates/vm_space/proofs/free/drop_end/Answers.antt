use Rattle.std.proofs.Common.{refl}
use Rattle.vm_space.specs.Edges.{Drops}
use Rattle.vm_space.specs.declared.edge.DropEnd.{DropEnd}
use Rattle.vm_space.proofs.Dropped.{changed_meets, changed_after, drops}
use Rattle.vm_space.proofs.free.drop_end.Goals as goal

pub cut-requires-clause-ascend : goal.cut-requires-clause-ascend
cut-requires-clause-ascend c =
    let x = c.requires.extended in
    (drops c.args._key.now c.args.edge x.0 c.args.tree.now.leaves x.1.0 x.1.1 c.facts.ensures.enough).ascends

pub cut-requires-clause-meet : goal.cut-requires-clause-meet
cut-requires-clause-meet c = λ _.
    let x = c.requires.extended in
    changed_meets c.args.edge.at (Drops c.args.edge.end) _ c.args._key.now x.0 c.args.tree.now.leaves x.1.0
    (drops c.args._key.now c.args.edge x.0 c.args.tree.now.leaves x.1.0 x.1.1 c.facts.ensures.enough) (λ (e : DropEnd). e.dropped)

pub returns-clause-freed : goal.returns-clause-freed
returns-clause-freed c = λ was s x.
    changed_after c.args.edge.at (Drops c.args.edge.end) _ c.args._key.now was c.args.tree.now.leaves s
    (drops c.args._key.now c.args.edge was c.args.tree.now.leaves s x c.facts.ensures.enough) c.cut.new.edit.dropped
    c.args.tree.now c.cut.new.self c.cut.result refl c.cut.ensures.after
