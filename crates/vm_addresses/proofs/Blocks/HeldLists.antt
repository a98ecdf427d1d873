-- A list of different held ranges is complete if and only if its length is the number of held ranges.
use Rattle.std.proofs.Common.{◌≡◌, ◌≢◌, ℕ, ◌+◌, Bool, true, List, [], ◌∷◌, length, sym, subst, arith, AllPairs, All, ◌↔◌}
use Rattle.std.proofs.lemmas.Cmp.{eq_by_cmp_equiv}
use Rattle.std.proofs.lemmas.List.Elements.{Contains-get_or}
use Rattle.std.proofs.lemmas.List.Kept.{AllPairs-cons}
use Rattle.std.proofs.lemmas.Map.Made.{length-le_from_is_member, is_member-Decides, IsDistinct-from_AllPairs}
use Rattle.std.proofs.lemmas.Map.Views.{tells_apart}
use Rattle.std.specs.Bool.{Decides}
use Rattle.std.specs.Cmp.{IsEquivalence}
use Rattle.std.specs.List.{Contains}
use Rattle.std.specs.Ordering.{eq_by_cmp}
use Rattle.vm_ranges.specs.Range.{Range}
use Rattle.vm_ranges.specs.RangeOrder.{range_cmp, range_cmp-total}
use Rattle.vm_ranges.specs.Address.{AreInOrder, AddressState, IsAddressState}
use Rattle.vm_ranges.proofs.Listed.{Differ, AreAtMost, listed_is, each_listed}
use Rattle.vm_ranges.proofs.PlainWords.{held_contains}
use Rattle.vm_addresses.proofs.Blocks.HeldSets.{later_above}
use Rattle.vm_ranges.proofs.RangeOrders.{range_cmp-exact}

abbrev same : Range → Range → Bool
same = eq_by_cmp range_cmp

laws : IsEquivalence same
laws = eq_by_cmp_equiv range_cmp-total

tells : (r s : Range) → Decides (same r s) (r ≡ s)
tells r s = (tells_apart range_cmp-exact r s, λ e. subst (λ (v : Range). same r v ≡ true) e (laws.refl r))

no_more : (hs : List Range) → AreAtMost (Contains hs) (length hs)
no_more hs rs d a =
    length-le_from_is_member laws rs hs (IsDistinct-from_AllPairs tells rs d)
    (λ q m. (is_member-Decides tells hs q).1 (listed_is tells (Contains hs) rs q a m))

held_differ : (lo hi : ℕ) (hs : List Range) → AreInOrder lo hs hi → Differ hs
held_differ lo hi [] s = λ i j d l m. absurd (omega (arith, m))
held_differ lo hi (x ∷ xs) s =
    AllPairs-cons (λ r s. r ≢ s) x xs
    (λ k b l e.
    let c : Contains xs x = subst (Contains xs) (sym e) (Contains-get_or xs k b l) in
    omega (arith, later_above lo hi x xs x s (held_contains xs x c), s.1))
    (held_differ (x.end + 1) hi xs s.4)

pub ranges_listed : (state : AddressState) (list : List Range) → IsAddressState state →
    AllPairs (λ r s. r ≢ s) list → All (Contains state.held) list →
    (length list ≡ length state.held) ↔ ((r : Range) → Contains state.held r → Contains list r)
ranges_listed state list i d a =
    let held = state.held in (
      λ e r. each_listed tells (Contains held) (length held) (no_more held) list r d a e,
      λ each.
          let back = no_more list held (held_differ state.space.start state.space.end held i.in_order)
          (λ k b l. each _ (Contains-get_or held k b l)) in
          omega (arith, no_more held list d a, back),
    )

pub ruleset listings = (ranges_listed)
