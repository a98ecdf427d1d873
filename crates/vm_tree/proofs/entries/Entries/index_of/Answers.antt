use Rattle.std.proofs.Common.{rules, ◌<◌, subst, sym, arith}
use Rattle.vm_tree.specs.Rows.{Ascends}
use Rattle.vm_tree.proofs.Rows.{cut}
use Rattle.vm_tree.proofs.entries.Entries.index_of.Goals as goal

pub last_up_to-requires : goal.last_up_to-requires
last_up_to-requires c = λ i j p q r s.
    let m : c.args.address < 18446744073709551615 = grind arith in
    cut c.self.inside.at c.self.inside.longest c.self.inside.alignments c.self.inside.len c.args.address i j (search rules) (search rules)
    (search rules) (subst Ascends (sym c.self.view_is) c.requires.order) c.self.invariant.at m p q r s
