-- The new value is at the end of the list, or it is taken out again. The prover does not find the items of the longer list.
use Rattle.std.proofs.Common.{◌≡◌, None, sym, ◌∙◌, subst, arith}
use Rattle.std.proofs.lemmas.Grind.{common_steps}
use Rattle.std.specs.FinMap as map
use Rattle.vm_range_map.proofs.Places.{done_of, failed_of, item_added, values_with_item}
use Rattle.vm_range_map.proofs.range_map.value_table.ValueTable.insert.Goals as goal

pub invariant_of-self-then-is_ok : goal.invariant_of-self-then-is_ok
invariant_of-self-then-is_ok g c =
    let new = done_of c.insert.result _ c.if-is_ok.ensures.value c.insert.ensures.inserted in
    let none = subst (λ m. map.get m c.args.start ≡ None) (sym c.self.view_is) c.requires in
    rw (new, c.in_default.ensures.items)
    (item_added c.self.inside.indices c.self.inside.values.items c.self.invariant c.len-index.result
    (record { start = c.args.start; value = c.args.value }) (c.len-index.ensures ∙ c.self.inside.values.ok.0) none)

pub returns-then-is_ok-clause-inserted : goal.returns-then-is_ok-clause-inserted
returns-then-is_ok-clause-inserted g c =
    let none = subst (λ m. map.get m c.args.start ≡ None) (sym c.self.view_is) c.requires in
    rw (← c.self.view_is, c.in_default.ensures.items)
    (values_with_item c.self.inside.indices c.self.inside.values.items c.self.invariant c.len-index.result
    (record { start = c.args.start; value = c.args.value }) (c.len-index.ensures ∙ c.self.inside.values.ok.0) none)

pub invariant_of-self-2 : goal.invariant_of-self-2
invariant_of-self-2 g c =
    let old = failed_of c.insert.result _ c.if-is_ok.ensures.value c.insert.ensures.unchanged in
    let items : c.pop.new.self.items ≡ c.self.inside.values.items = grind (arith, common_steps, c.in-Some.ensures.items, c.in_default.ensures.items) in
    rw (old, items) c.self.invariant
