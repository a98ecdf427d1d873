-- The ranges of a map with their values as a list, and the equality of states.
use Rattle.std.specs.Prelude.{◌&&◌, Bool, List, [], ◌∷◌, Option, IsSome, option_map}
use Rattle.std.specs.List.{filter_map}
use Rattle.std.specs.Ordering.{nat_cmp, eq_by_cmp}
use Rattle.std.specs.Cmp.{IsPartialEquivalence, IsEquivalence, on_per, and_per, on_equiv, and_equiv, eq_by_cmp_equiv, partial_equiv_from_equiv}
use Rattle.std.specs.Cmp.Lexicographic.{pointwise, lists_per, lists_equiv}
use Rattle.std.specs.FinMap as map
use Rattle.vm_ranges.specs.Range.{Range}
use Rattle.vm_ranges.specs.RangeOrder.{range_cmp, range_cmp-total}
use Rattle.vm_addresses.specs.Queries.{meeting}
use Rattle.vm_addresses.specs.Comparison.{state_cmp, state_cmp-total}
use Rattle.vm_range_map.specs.RangeMaps.{MapState}

-- The range with its value in the table, if there is one.
abbrev pub valued_in : {X : Type 0} → map.FinMap nat_cmp X → Range → Option (Range × X)
valued_in values r = option_map (λ value. (r, value)) (map.get values r.start)

-- The held ranges with their values, from the lowest to the highest. Each has a value if the state is valid.
abbrev pub valued_ranges : {X : Type 0} → MapState X → List (Range × X)
valued_ranges state = filter_map (valued_in state.values) state.space.held

-- The held ranges that have an address in common with the window, with their values.
abbrev pub valued_ranges_in : {X : Type 0} → Range → MapState X → List (Range × X)
valued_ranges_in window state = filter_map (valued_in state.values) (meeting window state.space.held)

-- Each range has a value in the table.
abbrev pub AreValued : {X : Type 0} → map.FinMap nat_cmp X → List Range → Type 0
AreValued values [] = Unit {0}
AreValued values (r ∷ rs) = IsSome (map.get values r.start) × AreValued values rs

-- Whether both ranges are the same, and their values are equal.
abbrev pub same_valued : {X : Type 0} → (X → X → Bool) → Range × X → Range × X → Bool
same_valued eq p q = eq_by_cmp range_cmp p.0 q.0 && eq p.1 q.1

-- Whether both states have the same space and the same held ranges with equal values.
abbrev pub same_maps : {X : Type 0} → (X → X → Bool) → MapState X → MapState X → Bool
same_maps eq a b = eq_by_cmp state_cmp a.space b.space && pointwise (same_valued eq) (valued_ranges a) (valued_ranges b)

-- If the equality of values is symmetric and transitive, so is that of states.
pub same_valued-partial : {X : Type 0} {eq : X → X → Bool} → IsPartialEquivalence eq → IsPartialEquivalence (same_valued eq)
same_valued-partial {X} e =
    and_per (on_per (λ (p : Range × X). p.0) (partial_equiv_from_equiv (eq_by_cmp_equiv range_cmp-total))) (on_per (λ (p : Range × X). p.1) e)

pub same_maps-partial : {X : Type 0} {eq : X → X → Bool} → IsPartialEquivalence eq → IsPartialEquivalence (same_maps eq)
same_maps-partial {X} e =
    and_per (on_per (λ (s : MapState X). s.space) (partial_equiv_from_equiv (eq_by_cmp_equiv state_cmp-total)))
    (on_per valued_ranges (lists_per (same_valued-partial e)))

-- If the equality of values is an equivalence, so is that of states.
pub same_valued-equivalence : {X : Type 0} {eq : X → X → Bool} → IsEquivalence eq → IsEquivalence (same_valued eq)
same_valued-equivalence {X} e =
    and_equiv (on_equiv (λ (p : Range × X). p.0) (eq_by_cmp_equiv range_cmp-total)) (on_equiv (λ (p : Range × X). p.1) e)

pub same_maps-equivalence : {X : Type 0} {eq : X → X → Bool} → IsEquivalence eq → IsEquivalence (same_maps eq)
same_maps-equivalence {X} e =
    and_equiv (on_equiv (λ (s : MapState X). s.space) (eq_by_cmp_equiv state_cmp-total))
    (on_equiv valued_ranges (lists_equiv (same_valued-equivalence e)))
