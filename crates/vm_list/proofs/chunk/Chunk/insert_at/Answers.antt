use Rattle.std.proofs.Common.{refl, sym, ◌∙◌, subst}
use Rattle.vm_list.specs.Entries.{IsDescendingBy}
use Rattle.vm_list.proofs.Found.{missing_inserts}
use Rattle.vm_list.proofs.EntryLaws.{put_descends}
use Rattle.vm_list.proofs.chunk.Chunk.insert_at.Goals as goal

pub returns-clause-inserted : goal.returns-clause-inserted
returns-clause-inserted g c =
    rw c.self.view_is at c.in_default.ensures.items
    ∙ missing_inserts g.E.Keyed.key_of (g.E.Keyed.key_of c.args.entry) _ _ c.requires c.args.entry refl

pub invariant_of-self-2 : goal.invariant_of-self-2
invariant_of-self-2 g c =
    subst (IsDescendingBy g.E.Keyed.key_of) (sym (returns-clause-inserted g c))
    (put_descends g.E.Keyed.key_of c.args.entry _ (rw c.self.view_is at c.self.invariant))
