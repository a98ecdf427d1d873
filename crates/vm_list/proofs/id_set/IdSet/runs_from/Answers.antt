use Rattle.std.proofs.Common.{ℕ, nat_le, ap, ◌∙◌, ◌≤◌, arith, sym, subst}
use Rattle.std.specs.List.{filter, flat_map}
use Rattle.std.specs.BTreeSet.{BTreeSet, IsOrdered}
use Rattle.std.specs.Ordering.{nat_cmp}
use Rattle.vm_list.specs.Runs.{RUNS_END, ids_of_run}
use Rattle.vm_list.proofs.RunOrder.{ids_sorted}
use Rattle.vm_list.proofs.RunParts.{some_from, none_from, cut_filled, rest_filled}
use Rattle.vm_list.proofs.id_set.IdSet.runs_from.Goals as goal

pub returns-in-Some-clause-ids : goal.returns-in-Some-clause-ids
returns-in-Some-clause-ids c =
    let h : RUNS_END ≤ 0xffff_ffff_ffff_ffff = omega arith in
    let e = sym (rw c.into.ensures at c.iter_between-runs.ensures.entries) ∙ c.in-Some.ensures in
    rw c.max.ensures (some_from c.args.first 0xffff_ffff_ffff_ffff RUNS_END _ c.self.invariant.0 h _ _ e)
    ∙ ap (λ (s : BTreeSet ℕ). filter (λ i. nat_le c.args.first i) s.keys) c.self.view_is

pub returns-in-Some-clause-lowest : goal.returns-in-Some-clause-lowest
returns-in-Some-clause-lowest c =
    let h : RUNS_END ≤ 0xffff_ffff_ffff_ffff = omega arith in
    let e = sym (rw c.into.ensures at c.iter_between-runs.ensures.entries) ∙ c.in-Some.ensures in
    rw c.max.ensures (cut_filled c.args.first 0xffff_ffff_ffff_ffff RUNS_END _ c.self.invariant.0 h _ _ e)

pub returns-in-Some-clause-others : goal.returns-in-Some-clause-others
returns-in-Some-clause-others c =
    let h : RUNS_END ≤ 0xffff_ffff_ffff_ffff = omega arith in
    let e = sym (rw c.into.ensures at c.iter_between-runs.ensures.entries) ∙ c.in-Some.ensures in
    rest_filled c.args.first 0xffff_ffff_ffff_ffff RUNS_END _ c.self.invariant.0 h _ _ e

pub returns-in-None-clause-ids : goal.returns-in-None-clause-ids
returns-in-None-clause-ids c =
    let h : RUNS_END ≤ 0xffff_ffff_ffff_ffff = omega arith in
    let e = sym (rw c.into.ensures at c.iter_between-runs.ensures.entries) ∙ c.in-None.ensures.0 in
    ap (flat_map ids_of_run) c.in-None.ensures.1 ∙ none_from c.args.first 0xffff_ffff_ffff_ffff RUNS_END _ c.self.invariant.0 h e
    ∙ ap (λ (s : BTreeSet ℕ). filter (λ i. nat_le c.args.first i) s.keys) c.self.view_is

pub returns-in-Some-clause-order : goal.returns-in-Some-clause-order
returns-in-Some-clause-order c =
    subst (λ (s : BTreeSet ℕ). IsOrdered nat_cmp s) c.self.view_is (ids_sorted RUNS_END c.self.inside.runs c.self.invariant.0)

pub returns-in-None-clause-order : goal.returns-in-None-clause-order
returns-in-None-clause-order c =
    subst (λ (s : BTreeSet ℕ). IsOrdered nat_cmp s) c.self.view_is (ids_sorted RUNS_END c.self.inside.runs c.self.invariant.0)
