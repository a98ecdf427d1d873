use Rattle.std.proofs.Common.{subst, sym, refl, arith, length}
use Rattle.vm_tree.specs.Grew.{CanSettle, IsSettledIn}
use Rattle.vm_tree.specs.Nodes.{node_tree}
use Rattle.vm_tree.specs.Slots.{held}
use Rattle.vm_tree.specs.declared.outcome.Outcome.TheVariants as outcome
use Rattle.vm_tree.specs.declared.outcome.Settled.TheVariants as settled
use Rattle.vm_tree.proofs.settle.settle_nodes.Goals as goal

pub split_nodes-requires : goal.split_nodes-requires
split_nodes-requires g c = (
  omega arith,
  (
    omega arith,
    (
      c.requires.dense,
      (
        c.requires.same,
        (
          c.requires.within,
          subst (CanSettle g.L.Leaf.entry g.L.Leaf.enough 2 node_tree (length c.args.spares.now.items) c.args.i c.args.entries.now (held c.args.slots.now))
              c.in-Split.is c.requires.can,
        ),
      ),
    ),
  ),
)

pub returns-in-Some-clause-settled : goal.returns-in-Some-clause-settled
returns-in-Some-clause-settled g c =
    let n = c.in-Some.ensures in
    subst (λ o. IsSettledIn node_tree node_tree (length c.args.spares.now.items) (length c.args.spares.now.items) c.args.i c.args.entries.now (held c.args.slots.now)
    c.note.new.entries (held c.args.slots.now) o (outcome.Changed c.in-Some.sum)) (sym c.in-Changed.is)
    (record {
      settled = settled.Changed c.in-Some.sum;
      is = record { entries = n.0; kids = refl; sum = n.1 };
      finished = refl;
    })
