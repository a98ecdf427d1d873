-- The walk over the held ids, and a part of equality. Only private functions and the iterator cite them.
use Rattle.std.specs.Prelude.{◌≡◌, ℕ, ◌+◌, ◌-◌, ◌^◌, ◌<◌, ◌≤◌, min, max, not, List, [], ◌∷◌, ◌++◌, Option, Some, None, IfSome, option_to_list}
use Rattle.std.specs.List.{All, filter, flat_map, list_any, range_with_len}
use Rattle.std.specs.Ordering.{nat_cmp, eq_by_cmp}
use Rattle.vm_list.specs.Runs.{ids_of_run}
use Rattle.vm_list.specs.declared.id_set.Run.{Run}
use Rattle.vm_ids.specs.Ids.{IdState}

-- The freed ids that the walk from below did not visit: those of the next run, and of the runs above it.
abbrev pub freed_from : Option Run → List Run → List ℕ
freed_from None above = []
freed_from (Some run) above = ids_of_run run ++ flat_map ids_of_run above

-- The freed ids that the walk from above did not visit: those of the runs below the next one, and its own.
abbrev pub freed_to : List Run → Option Run → List ℕ
freed_to below None = []
freed_to below (Some run) = flat_map ids_of_run below ++ ids_of_run run

-- The runs of a walk from both ends: what is left of the run begun from below, the others, and that begun from above.
abbrev pub runs_left : Option Run → List Run → Option Run → List Run
runs_left first runs last = option_to_list first ++ runs ++ option_to_list last

-- The run is not empty.
abbrev pub IsFilled : Run → Type 0
IsFilled run = run.first ≤ run.last

-- The next run and the others are not empty.
abbrev pub AreFilled : Option Run → List Run → Type 0
AreFilled next runs = IfSome next IsFilled × All IsFilled runs

-- The ids from `next` up to below `bound` that are not in the list of freed ids.
unfoldable pub ids_left : ℕ → ℕ → List ℕ → List ℕ
ids_left next bound freed =
    filter (λ i. not (list_any (eq_by_cmp nat_cmp i) freed)) (range_with_len next (bound - next))

-- The held ids below the next run of freed ids end where it begins, or at the bound.
abbrev pub held_end : ℕ → Option Run → ℕ
held_end bound None = bound
held_end bound (Some run) = min bound run.first

-- The held ids above the last run of freed ids start after it, or at the next id.
abbrev pub held_start : ℕ → Option Run → ℕ
held_start next None = next
held_start next (Some run) = max next (run.last + 1)

-- The run is the first of the runs and the others are left, or there is none. None of them is empty.
abbrev pub Begins : List Run → Option Run → List Run → Type 0
Begins runs None left = (runs ≡ []) × (left ≡ [])
Begins runs (Some run) left = (runs ≡ run ∷ left) × IsFilled run × All IsFilled left

-- The run is the last of the runs and the others are left, or there is none. None of them is empty.
abbrev pub Ends : List Run → Option Run → List Run → Type 0
Ends runs None left = (runs ≡ []) × (left ≡ [])
Ends runs (Some run) left = (runs ≡ left ++ run ∷ []) × IsFilled run × All IsFilled left

-- The numbers are in strictly ascending order, at least `lowest` and below `bound`.
abbrev pub AscendWithin : ℕ → ℕ → List ℕ → Type 0
AscendWithin lowest bound [] = Unit {0}
AscendWithin lowest bound (n ∷ ns) = (lowest ≤ n) × (n < bound) × AscendWithin (n + 1) bound ns

-- The fields of the walk are valid. Both lists of freed ids ascend, and have the same ones of the ids that were not
-- visited.
pub record AreIdsLeft (next bound : ℕ) (above below : List ℕ) : Type 0 where
  pub ids : bound ≤ 2 ^ 32
  pub from_next : AscendWithin next (2 ^ 32) above
  pub to_bound : AscendWithin 0 bound below
  pub same : (i : ℕ) → next ≤ i → i < bound → list_any (eq_by_cmp nat_cmp i) above ≡ list_any (eq_by_cmp nat_cmp i) below

-- The states have the same range and the same bound.
pub record HaveSameBounds (a b : IdState) : Type 0 where
  pub lo : a.lo ≡ b.lo
  pub hi : a.hi ≡ b.hi
  pub bound : a.bound ≡ b.bound
