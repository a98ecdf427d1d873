use Rattle.std.proofs.Common.{ℕ, ◌-◌, ap, ◌∙◌, arith, subst}
use Rattle.std.specs.BTreeSet.{BTreeSet}
use Rattle.vm_list.specs.Runs.{IsLowestFrom, Removes}
use Rattle.vm_list.proofs.Runs.{set_of}
use Rattle.vm_list.proofs.RunEnds.{some_ids, lowest_is, left_runs, left_count, left_members}
use Rattle.vm_list.proofs.id_set.IdSet.pop_first.Goals as goal

pub overflow_sub-self : goal.overflow_sub-self
overflow_sub-self c =
    let n = some_ids c.in_ok-id.id _ _ c.self.invariant.0 c.in_ok-id.ensures in omega (arith, n, c.self.invariant.1)

pub invariant_of-self-2 : goal.invariant_of-self-2
invariant_of-self-2 c = (
  left_runs c.in_ok-id.id _ _ c.self.invariant.0 c.in_ok-id.ensures,
  ap (λ n. n - 1) c.self.invariant.1 ∙ left_count c.in_ok-id.id _ _ c.self.invariant.0 c.in_ok-id.ensures,
)

pub returns-clause-lowest : goal.returns-clause-lowest
returns-clause-lowest c = (
  subst (λ (s : BTreeSet ℕ). IsLowestFrom 0 s c.in_ok-id.id) c.self.view_is (lowest_is _ _ _ c.self.invariant.0 c.in_ok-id.ensures),
  subst (λ (s : BTreeSet ℕ). Removes c.in_ok-id.id s (set_of c.pop.new.self)) c.self.view_is
      (left_members _ _ _ c.self.invariant.0 c.in_ok-id.ensures),
)
