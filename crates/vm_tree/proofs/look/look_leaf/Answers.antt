use Rattle.std.proofs.Common.{refl, min, [], ◌+◌}
use Rattle.vm_tree.proofs.Soughts.{at_leaf, leaf_vain}
use Rattle.vm_tree.proofs.look.look_leaf.Goals as goal

pub returns-then-has : goal.returns-then-has
returns-then-has g c = λ n. (
  min (n + 1) 18446744073709551615,
  record {
    before = [];
    after = [];
    home = record { was = refl; here = at_leaf g.L.Leaf.entry (g.S.Seek.seeking c.args.seek.now) n (min (n + 1) 18446744073709551615) c.args.leaf.now refl };
    has = c.if-has.ensures;
  },
)

pub returns-else-has : goal.returns-else-has
returns-else-has g c = λ n. (
  min (n + 1) 18446744073709551615,
  (leaf_vain g.L.Leaf.entry (g.S.Seek.seeking c.args.seek.now) n (min (n + 1) 18446744073709551615) c.args.leaf.now refl c.args.leaf.now c.requires.may refl c.if-has.ensures).vain,
)
