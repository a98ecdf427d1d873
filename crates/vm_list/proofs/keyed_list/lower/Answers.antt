use Rattle.std.proofs.Common.{◌∙◌, ap, sym, refl}
use Rattle.std.specs.Option.{is_some}
use Rattle.std.proofs.lemmas.Bool.{true≢false}
use Rattle.vm_list.specs.Entries.{entry_at}
use Rattle.vm_list.specs.Leaves.{items_of}
use Rattle.vm_list.proofs.Homes.{ascending}
use Rattle.vm_list.proofs.Nears.{no_entry}
use Rattle.vm_list.proofs.Lowered.{reworked, not_refused}
use Rattle.vm_list.proofs.keyed_list.lower.Goals as goal

pub unreachable-requires : goal.unreachable-requires
unreachable-requires g c =
    true≢false (sym c.requires.can.known
    ∙ ap is_some (ap (λ cs. entry_at g.E.Keyed.key_of c.args.key (items_of cs)) (c.is_empty.ensures.empty c.if-is_empty.true) ∙ no_entry g.E.Keyed.key_of c.args.key))

pub cut-requires-clause-ascend : goal.cut-requires-clause-ascend
cut-requires-clause-ascend g c = ascending g.E.Keyed.key_of _ (record { order = c.requires.order; filled = c.facts.ensures.enough })

pub unreachable-requires-then-not-cut : goal.unreachable-requires-then-not-cut
unreachable-requires-then-not-cut g c =
    not_refused g.E.Keyed.key_of c.args.tree.now.leaves c.cut.new.self.leaves (record { order = c.requires.order; filled = c.facts.ensures.enough })
    c.args.key c.args.entry c.requires.can _ refl c.if-not-cut.ensures.after.refused

pub returns : goal.returns
returns g c =
    reworked g.E.Keyed.key_of c.args.tree.now.leaves c.cut.new.self.leaves (record { order = c.requires.order; filled = c.facts.ensures.enough })
    c.args.key c.args.entry c.requires.can _ refl c.if-not-cut.ensures.after.cut
