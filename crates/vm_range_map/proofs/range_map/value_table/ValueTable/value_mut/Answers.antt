-- The value of a start is that of the item at its index, and the indices stay. The prover does not find the item of an entry.
use Rattle.std.proofs.Common.{◌≡◌, Some, None, option_copied, refl, sym, ap, ◌∙◌, subst, IsSome}
use Rattle.std.specs.FinMap as map
use Rattle.vm_list.specs.Entries.{entry_at}
use Rattle.vm_range_map.specs.Checks.{start_of}
use Rattle.vm_range_map.proofs.Places.{entry_there, entry_within, value_read, item_written, values_with}
use Rattle.vm_range_map.proofs.range_map.value_table.ValueTable.value_mut.Goals as goal

pub unreachable-requires : goal.unreachable-requires
unreachable-requires g c =
    let none : entry_at start_of c.args.start c.self.inside.indices ≡ None = sym c.get.ensures ∙ ap option_copied c.in_default.is in
    entry_there c.self.inside.indices c.self.inside.values.items c.self.invariant c.args.start
    (subst (λ m. IsSome (map.get m c.args.start)) (sym c.self.view_is) c.requires) none

pub index_mut-requires : goal.index_mut-requires
index_mut-requires g c =
    let found : entry_at start_of c.args.start c.self.inside.indices ≡ Some c.in-Some.entry.now = sym c.get.ensures ∙ ap option_copied c.in-Some.is in
    rw c.self.inside.values.ok.0
    (entry_within c.self.inside.indices c.self.inside.values.items c.self.invariant c.args.start c.in-Some.entry.now found)

pub invariant_of-self-lent : goal.invariant_of-self-lent
invariant_of-self-lent g c = λ w.
    let found : entry_at start_of c.args.start c.self.inside.indices ≡ Some c.in-Some.entry.now = sym c.get.ensures ∙ ap option_copied c.in-Some.is in
    item_written c.self.inside.indices c.self.inside.values.items c.self.invariant c.args.start c.in-Some.entry.now found
    c.index_mut.result.now w c.index_mut.ensures.value

pub returns : goal.returns
returns g c =
    let found : entry_at start_of c.args.start c.self.inside.indices ≡ Some c.in-Some.entry.now = sym c.get.ensures ∙ ap option_copied c.in-Some.is in
    rw (← c.self.view_is) (
      (
        refl,
        λ w. values_with c.self.inside.indices c.self.inside.values.items c.self.invariant c.args.start c.in-Some.entry.now found
            c.index_mut.result.now w c.index_mut.ensures.value,
      ),
      record {
        writes_back = tt;
        value = sym (value_read c.self.inside.indices c.self.inside.values.items c.self.invariant c.args.start c.in-Some.entry.now
            c.index_mut.result.now found c.index_mut.ensures.value);
      },
    )
