-- The order of the states of id allocators. Only equality uses it.
use Rattle.std.specs.declared.cmp.Ordering.{Ordering}
use Rattle.std.specs.Ordering.{nat_cmp, on, then_cmp}
use Rattle.std.specs.Cmp.{IsTotalOrder}
use Rattle.std.specs.Cmp.Lexicographic.{slice_cmp}
use Rattle.std.proofs.lemmas.Cmp.{lists_total, then_total, on_total, nat_cmp_total}
use Rattle.vm_ids.specs.Ids.{IdState, held_ids}

-- The order of states: by range, then by the bound of the ids that were allocated at some time, then by held ids.
abbrev pub id_state_cmp : IdState → IdState → Ordering
id_state_cmp =
    then_cmp (on (λ s. s.lo) nat_cmp) (
    then_cmp (on (λ s. s.hi) nat_cmp) (
    then_cmp (on (λ s. s.bound) nat_cmp) (on held_ids (slice_cmp nat_cmp))))

-- The order is total.
pub id_state_cmp-total : IsTotalOrder id_state_cmp
id_state_cmp-total =
    then_total (on_total (λ (s : IdState). s.lo) nat_cmp_total) (
    then_total (on_total (λ (s : IdState). s.hi) nat_cmp_total) (
    then_total (on_total (λ (s : IdState). s.bound) nat_cmp_total) (on_total held_ids (lists_total nat_cmp_total))))
