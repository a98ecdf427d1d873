use Rattle.std.proofs.Common.{◌∙◌, ap, sym, subst}
use Rattle.std.specs.Option.{IsSome}
use Rattle.vm_list.specs.Entries.{IsDescendingBy, with_entry, without, entry_at}
use Rattle.vm_list.specs.Leaves.{items_of}
use Rattle.vm_list.proofs.EntryLaws.{put_descends, taken_descends}
use Rattle.vm_list.proofs.Lowered.{can_set, set_is}
use Rattle.vm_list.proofs.keyed_list.KeyedList.set.Goals as goal

pub lower-requires-clause-can : goal.lower-requires-clause-can
lower-requires-clause-can g c =
    rw c.key.ensures (can_set g.E.Keyed.key_of c.args.entry (items_of c.self.inside.tree.leaves)
    (subst (λ l. IsSome (entry_at g.E.Keyed.key_of (g.E.Keyed.key_of c.args.entry) l)) (sym c.self.view_is) c.requires))

pub invariant_of-self : goal.invariant_of-self
invariant_of-self g c =
    subst (IsDescendingBy g.E.Keyed.key_of) (sym c.lower.ensures) (put_descends g.E.Keyed.key_of c.args.entry _ (taken_descends g.E.Keyed.key_of c.key.result _ c.self.invariant))

pub returns : goal.returns
returns g c =
    c.lower.ensures
    ∙ ap (λ k. with_entry g.E.Keyed.key_of c.args.entry (without g.E.Keyed.key_of k (items_of c.self.inside.tree.leaves))) c.key.ensures
    ∙ set_is g.E.Keyed.key_of c.args.entry (items_of c.self.inside.tree.leaves) c.self.invariant
    ∙ ap (with_entry g.E.Keyed.key_of c.args.entry) c.self.view_is
