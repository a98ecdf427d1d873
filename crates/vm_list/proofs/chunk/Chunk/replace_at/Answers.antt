use Rattle.std.proofs.Common.{rules, refl, sym, ◌∙◌}
use Rattle.std.proofs.lemmas.List.{get_or_read}
use Rattle.vm_list.proofs.Found.{found, found_sets}
use Rattle.vm_list.proofs.chunk.Chunk.replace_at.Goals as goal

pub returns-clause-old : goal.returns-clause-old
returns-clause-old g c =
    let is = get_or_read c.args.self.now _ c.index_mut.result.now c.requires.within (rw c.self.view_is at c.index_mut.ensures.value) in
    sym (found g.E.Keyed.key_of (g.E.Keyed.key_of c.args.entry) _ _ c.requires c.index_mut.result.now is) ∙ search rules

pub returns-clause-replaced : goal.returns-clause-replaced
returns-clause-replaced g c =
    let is = get_or_read c.args.self.now _ c.index_mut.result.now c.requires.within (rw c.self.view_is at c.index_mut.ensures.value) in
    rw (c.self.view_is, c.replace.ensures.after)
    (found_sets g.E.Keyed.key_of (g.E.Keyed.key_of c.args.entry) _ _ c.requires c.index_mut.result.now is (rw c.self.view_is at c.self.invariant) c.args.entry refl)
