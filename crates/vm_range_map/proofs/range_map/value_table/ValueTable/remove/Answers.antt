-- The last value takes the index of the one that is removed. The prover does not find the items of the shorter list.
use Rattle.std.proofs.Common.{◌≡◌, Some, None, sym, ◌∙◌}
use Rattle.vm_list.specs.Entries.{entry_at}
use Rattle.vm_range_map.specs.Checks.{start_of, indices_of}
use Rattle.vm_range_map.proofs.Tables.{taken_table}
use Rattle.vm_range_map.proofs.Places.{index_of, entry_none, value_none, entry_within, value_read, removed_nowhere, left_known, left_indexed, values_left}
use Rattle.vm_range_map.proofs.range_map.value_table.ValueTable.remove.Goals as goal

pub invariant_of-self : goal.invariant_of-self
invariant_of-self g c =
    let es = c.self.inside.indices in
    let none : entry_at start_of c.args.start es ≡ None = sym c.remove.ensures.entry ∙ c.in_err-index.was in
    rw (c.remove.ensures.rest, taken_table start_of index_of c.args.start es, removed_nowhere (indices_of es) c.args.start (entry_none es c.self.inside.values.items c.self.invariant c.args.start none))
    c.self.invariant

pub returns-in_err-index-clause-value : goal.returns-in_err-index-clause-value
returns-in_err-index-clause-value g c =
    let none : entry_at start_of c.args.start c.self.inside.indices ≡ None = sym c.remove.ensures.entry ∙ c.in_err-index.was in
    rw (← c.self.view_is, c.from_residual.ensures) (sym (value_none c.self.inside.indices c.self.inside.values.items c.self.invariant c.args.start none))

pub returns-in_err-index-clause-rest : goal.returns-in_err-index-clause-rest
returns-in_err-index-clause-rest g c =
    let none : entry_at start_of c.args.start c.self.inside.indices ≡ None = sym c.remove.ensures.entry ∙ c.in_err-index.was in
    rw (← c.self.view_is)
    (sym (removed_nowhere _ c.args.start (value_none c.self.inside.indices c.self.inside.values.items c.self.invariant c.args.start none)))

pub swap_remove-value-requires : goal.swap_remove-value-requires
swap_remove-value-requires g c =
    let found : entry_at start_of c.args.start c.self.inside.indices ≡ Some c.in_ok-index.field-0 = sym c.remove.ensures.entry ∙ c.in_ok-index.was in
    rw c.self.inside.values.ok.0
    (entry_within c.self.inside.indices c.self.inside.values.items c.self.invariant c.args.start c.in_ok-index.field-0 found)

pub renumber-requires : goal.renumber-requires
renumber-requires g c =
    let found : entry_at start_of c.args.start c.self.inside.indices ≡ Some c.in_ok-index.field-0 = sym c.remove.ensures.entry ∙ c.in_ok-index.was in
    rw (c.deref.ensures.value, c.remove.ensures.rest, c.swap_remove-value.ensures.items)
    (left_known c.self.inside.indices c.self.inside.values.items c.self.invariant c.args.start c.in_ok-index.field-0 found c.swap_remove-value.result)

pub invariant_of-self-2 : goal.invariant_of-self-2
invariant_of-self-2 g c =
    let found : entry_at start_of c.args.start c.self.inside.indices ≡ Some c.in_ok-index.field-0 = sym c.remove.ensures.entry ∙ c.in_ok-index.was in
    rw (c.renumber.ensures, c.deref.ensures.value, c.remove.ensures.rest, c.swap_remove-value.ensures.items)
    (left_indexed c.self.inside.indices c.self.inside.values.items c.self.invariant c.args.start c.in_ok-index.field-0 found c.swap_remove-value.result)

pub returns-clause-value : goal.returns-clause-value
returns-clause-value g c =
    let found : entry_at start_of c.args.start c.self.inside.indices ≡ Some c.in_ok-index.field-0 = sym c.remove.ensures.entry ∙ c.in_ok-index.was in
    rw (← c.self.view_is)
    (sym (value_read c.self.inside.indices c.self.inside.values.items c.self.invariant c.args.start c.in_ok-index.field-0
    c.swap_remove-value.result found c.swap_remove-value.ensures.value))

pub returns-clause-rest : goal.returns-clause-rest
returns-clause-rest g c =
    let found : entry_at start_of c.args.start c.self.inside.indices ≡ Some c.in_ok-index.field-0 = sym c.remove.ensures.entry ∙ c.in_ok-index.was in
    rw (← c.self.view_is, c.swap_remove-value.ensures.items)
    (values_left c.self.inside.indices c.self.inside.values.items c.self.invariant c.args.start c.in_ok-index.field-0 found c.swap_remove-value.result)
