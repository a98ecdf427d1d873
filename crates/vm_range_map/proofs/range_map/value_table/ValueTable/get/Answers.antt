-- The value of a start is that of the item at its index. The prover does not find the item of an entry.
use Rattle.std.proofs.Common.{◌≡◌, Some, None, option_copied, sym, ap, ◌∙◌}
use Rattle.vm_list.specs.Entries.{entry_at}
use Rattle.vm_range_map.specs.Checks.{start_of}
use Rattle.vm_range_map.proofs.Places.{value_none, entry_within, value_read}
use Rattle.vm_range_map.proofs.range_map.value_table.ValueTable.get.Goals as goal

pub returns-in_err-entry : goal.returns-in_err-entry
returns-in_err-entry g c =
    let none : entry_at start_of c.args.start c.self.inside.indices ≡ None = sym c.get.ensures ∙ ap option_copied c.in_err-entry.was in
    rw (← c.self.view_is, c.from_residual.ensures) (sym (value_none c.self.inside.indices c.self.inside.values.items c.self.invariant c.args.start none))

-- The entry that was found.
found : (g : _) (c : goal.At-field_known-1-known-fits g) → entry_at start_of c.args.start c.self.inside.indices ≡ Some c.in_ok-entry.entry.now
found g c = sym c.get.ensures ∙ ap option_copied c.in_ok-entry.was

pub index-requires : goal.index-requires
index-requires g c =
    rw c.self.inside.values.ok.0
    (entry_within c.self.inside.indices c.self.inside.values.items c.self.invariant c.args.start c.in_ok-entry.entry.now (found g c))

pub returns : goal.returns
returns g c =
    let found : entry_at start_of c.args.start c.self.inside.indices ≡ Some c.in_ok-entry.entry.now =
    sym c.get.ensures ∙ ap option_copied c.in_ok-entry.was in
    rw (← c.self.view_is)
    (sym (value_read c.self.inside.indices c.self.inside.values.items c.self.invariant c.args.start c.in_ok-entry.entry.now c.index.result.now found c.index.ensures))
