-- The item gets another start, and its index is found there. The prover does not find the item of an entry.
use Rattle.std.proofs.Common.{◌≡◌, Some, None, IsSome, option_copied, sym, ap, ◌∙◌, subst}
use Rattle.std.specs.FinMap as map
use Rattle.vm_list.specs.Entries.{entry_at}
use Rattle.vm_range_map.specs.Checks.{start_of}
use Rattle.vm_range_map.proofs.Tables.{moved_nowhere}
use Rattle.vm_range_map.proofs.Places.{entry_there, entry_within, value_read, item_moved, values_with_moved}
use Rattle.vm_range_map.proofs.range_map.value_table.ValueTable.move_to.Goals as goal

pub returns-then-from-to-clause-moved : goal.returns-then-from-to-clause-moved
returns-then-from-to-clause-moved g c = λ value h. moved_nowhere c.args.self.now c.args.from c.args.to value c.if-from-to.true h

pub unreachable-requires : goal.unreachable-requires
unreachable-requires g c =
    let none : entry_at start_of c.args.from c.self.inside.indices ≡ None = sym c.get.ensures ∙ ap option_copied c.in_default.is in
    entry_there c.self.inside.indices c.self.inside.values.items c.self.invariant c.args.from
    (subst (λ m. IsSome (map.get m c.args.from)) (sym c.self.view_is) c.requires.known) none

pub index_mut-requires : goal.index_mut-requires
index_mut-requires g c =
    let found : entry_at start_of c.args.from c.self.inside.indices ≡ Some c.in-Some.entry.now = sym c.get.ensures ∙ ap option_copied c.in-Some.is in
    rw c.self.inside.values.ok.0
    (entry_within c.self.inside.indices c.self.inside.values.items c.self.invariant c.args.from c.in-Some.entry.now found)

pub invariant_of-self-2 : goal.invariant_of-self-2
invariant_of-self-2 g c =
    let found : entry_at start_of c.args.from c.self.inside.indices ≡ Some c.in-Some.entry.now = sym c.get.ensures ∙ ap option_copied c.in-Some.is in
    let none = subst (λ m. map.get m c.args.to ≡ None) (sym c.self.view_is) (c.requires.new c.if-from-to.false) in
    rw (c.remove.ensures.rest, c.in_ok-insert.ensures.inserted)
    (item_moved c.self.inside.indices c.self.inside.values.items c.self.invariant c.args.from c.in-Some.entry.now found
    c.index_mut.result.now c.args.to c.index_mut.ensures.value none)

pub returns-clause-moved : goal.returns-clause-moved
returns-clause-moved g c = λ value h.
    let found : entry_at start_of c.args.from c.self.inside.indices ≡ Some c.in-Some.entry.now = sym c.get.ensures ∙ ap option_copied c.in-Some.is in
    let none = subst (λ m. map.get m c.args.to ≡ None) (sym c.self.view_is) (c.requires.new c.if-from-to.false) in
    let had = subst (λ m. map.get m c.args.from ≡ Some value) (sym c.self.view_is) h in
    let read = value_read c.self.inside.indices c.self.inside.values.items c.self.invariant c.args.from c.in-Some.entry.now
    c.index_mut.result.now found c.index_mut.ensures.value in
    let same : c.index_mut.result.now.value ≡ value = cc (sym read ∙ had) in
    rw (← c.self.view_is, ← same)
    (values_with_moved c.self.inside.indices c.self.inside.values.items c.self.invariant c.args.from c.in-Some.entry.now found
    c.index_mut.result.now c.args.to c.index_mut.ensures.value none)
