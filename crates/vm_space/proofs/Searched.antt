-- The place of a tree that is closest to an end, from those of its children.
use Rattle.std.specs.Prelude.{Result, Ok}
use Rattle.std.proofs.Common.{◌≡◌, ℕ, ◌+◌, ◌-◌, ◌<◌, List, ◌∷◌, ◌++◌, length, take, drop, refl, ap, ◌∙◌, sym, subst, arith, inl, inr, append_assoc, take_all}
use Rattle.std.proofs.lemmas.List.Elements.{All-append}
use Rattle.vm_ranges.specs.Range.{Range, span}
use Rattle.vm_ranges.proofs.RangeCalls.{same_range}
use Rattle.vm_leaf.specs.declared.block.Block.{Block}
use Rattle.vm_leaf.specs.Block.{free_block}
use Rattle.vm_leaf.specs.Blocks.{nth, IsTakenFrom}
use Rattle.vm_leaf.specs.Rest.{IsRest}
use Rattle.vm_leaf.specs.Fit.{IsFit, IsLowestFit, IsHighestFit}
use Rattle.vm_leaf.specs.Windows.{cut_to, HaveNoFitIn}
use Rattle.vm_leaf.specs.declared.leaf.Fit.{Fit}
use Rattle.vm_tree.specs.Seeking.{beyond}
use Rattle.vm_space.specs.Allocation.{ListPlace, IsClosestFit, IsClosestPlace, HasNoPlace, HasNoFitIn, window_of, AllocatesFit}
use Rattle.vm_space.specs.Placing.{IsClosestFitIn, IsClosestLeafPlace}
use Rattle.vm_space.specs.declared.place.Place.{Place}
use Rattle.vm_tree.specs.declared.end.End.{End}
use Rattle.vm_tree.specs.declared.end.End.TheVariants.{First, Last}
use Rattle.vm_space.specs.declared.search.Search.{Search}
use Rattle.vm_space.specs.declared.search.Taken.{Taken}
use Rattle.vm_space.specs.declared.search.Refusal.{Refusal}
use Rattle.vm_space.proofs.Lists.{cut_at}
use Rattle.vm_space.proofs.Allocating.{gap_of, IsAllocated, settles_left, settles_right}
use Rattle.vm_space.specs.Allocation.{SettlesAt}
use Rattle.vm_space.proofs.SearchedBlocks.{none_upto, none_from}

-- The fit that is closest to an end is a fit.
is_fit : (end : End) (n a t : ℕ) (b : Block) → IsClosestFit end n a b t → IsFit n a b t
unfolding IsLowestFit IsHighestFit
is_fit First n a t b h = h.0
is_fit Last n a t b h = h.0

-- ---- A leaf
module _ (seek : Search) (bs : List Block) (found : Fit) where
  -- The fit that was found is in a block of the leaf.
  pub fit_of : (end : End) → IsClosestFitIn end seek bs found →
      (found.index < length bs) × IsFit seek.size seek.alignment (cut_to (window_of seek) (nth bs found.index)) found.start
  fit_of First h = (h.within, is_fit First seek.size seek.alignment found.start (cut_to (window_of seek) (nth bs found.index)) h.lowest)
  fit_of Last h = (h.within, is_fit Last seek.size seek.alignment found.start (cut_to (window_of seek) (nth bs found.index)) h.highest)

  -- The range of the fit is taken from its gap.
  pub fit_taken : (end : End) (gap range : Range) → 0 < seek.size → IsClosestFitIn end seek bs found → gap ≡ (nth bs found.index).key →
      range ≡ span found.start seek.size → IsTakenFrom gap range
  fit_taken end gap range z h p q = let f = (fit_of end h).1 in rw (p, q)
      (record { from = omega (arith, f.2); some = omega arith; upto = omega (arith, f.3) })

  -- The fit that is closest to an end gives the closest place of the leaf.
  closest_in : (end : End) → IsClosestFitIn end seek bs found →
      IsClosestPlace end seek bs (record
      { lower = take found.index bs; key = (nth bs found.index).key; upper = drop (found.index + 1) bs; start = found.start })
  closest_in end h =
      let gap = gap_of (nth bs found.index) (fit_of end h).1.0 in
      record {
        cut = cut_at bs found.index (fit_of end h).0 ∙ ap (λ (b : Block). take found.index bs ++ b ∷ drop (found.index + 1) bs) gap;
        none = none_by end h;
        fit = subst (λ (b : Block). IsClosestFit end seek.size seek.alignment (cut_to (window_of seek) b) found.start) gap (fit_by end h);
      }
    where
      none_by : (end : End) → IsClosestFitIn end seek bs found →
          HasNoPlace seek (beyond end (take found.index bs) (drop (found.index + 1) bs))
      none_by First h = none_upto (window_of seek) seek.size seek.alignment bs found.index h.first
      none_by Last h = none_from (window_of seek) seek.size seek.alignment bs (found.index + 1) h.last

      fit_by : (end : End) → IsClosestFitIn end seek bs found →
          IsClosestFit end seek.size seek.alignment (cut_to (window_of seek) (nth bs found.index)) found.start
      fit_by First h = h.lowest
      fit_by Last h = h.highest

  -- The same for the fields of a place.
  pub closest_place : (end : End) (place : Place) (gap range : Range) → 0 < seek.size → IsClosestFitIn end seek bs found →
      gap ≡ (nth bs found.index).key → range ≡ record { start = found.start; end = found.start + (seek.size - 1) }
      → (place.index ≡ found.index) × (place.gap ≡ gap) × (place.range ≡ range) → IsRest place.rest gap range →
      IsClosestLeafPlace end seek bs place
  closest_place end place gap range z h p is e r =
      let q : range ≡ span found.start seek.size = is ∙ same_range _ (span found.start seek.size) refl (omega (arith, z)) in record {
        fits = record {
          inside = record {
            within = rw e.0 (fit_of end h).0;
            gap = rw (e.0, e.1, p) (gap_of (nth bs found.index) (fit_of end h).1.0);
            taken = rw (e.1, e.2) (fit_taken end gap range z h p q);
            rest = rw (e.1, e.2) r;
          };
          sized = rw (e.2, q) refl;
        };
        closest = rw (e.0, e.1, p, e.2, q) (closest_in end h);
      }

-- Without a fit there is no place.
pub no_place : (seek : Search) (bs : List Block) → HaveNoFitIn (window_of seek) seek.size seek.alignment bs 0 (length bs) →
    HasNoPlace seek bs
no_place seek bs h = subst (HasNoPlace seek) (take_all (length bs) bs (omega arith))
    (none_upto (window_of seek) seek.size seek.alignment bs (length bs) h)

pub ruleset places = (fit_taken)

-- A place that was found lies in a gap.
pub closest_allocated : (end : End) (seek : Search) (old new : List Block) (taken : Taken) → 0 < seek.size →
    AllocatesFit end seek old new (Ok taken) → IsAllocated seek old new taken
closest_allocated end seek old new taken z h =
    elim h [
      | inl x ↦ (let e = x.1 in absurd (cc))
      | inr x ↦ (
          let f = is_fit end seek.size seek.alignment x.0.start (cut_to (window_of seek) (free_block x.0.key)) x.1.fit in
          record {
            place = x.0;
            cut = x.1.cut;
            inside = record { from = omega (arith, f.2); some = omega arith; upto = omega (arith, f.3) };
            taken_at = x.2;
          }
          )
    ]

-- ---- A place in the middle of three lists
none_beside : (end : End) (seek : Search) (l r lower upper : List Block) → HasNoPlace seek (beyond end l r) → HasNoPlace seek (beyond end lower upper) →
    HasNoPlace seek (beyond end (l ++ lower) (upper ++ r))
none_beside First seek l r lower upper h k = All-append (HasNoFitIn (window_of seek) seek.size seek.alignment) l lower h k
none_beside Last seek l r lower upper h k = All-append (HasNoFitIn (window_of seek) seek.size seek.alignment) upper r k h

pub closest_middle : (end : End) (seek : Search) (l m r : List Block) (p : ListPlace) → HasNoPlace seek (beyond end l r) → IsClosestPlace end seek m p
    → IsClosestPlace end seek (l ++ (m ++ r)) (record { lower = l ++ p.lower; key = p.key; upper = p.upper ++ r; start = p.start })
closest_middle end seek l m r p h x = record {
  cut = ap (λ (z : List Block). l ++ (z ++ r)) x.cut ∙ ap (λ (z : List Block). l ++ z) (append_assoc p.lower (free_block p.key ∷ p.upper) r)
      ∙ sym (append_assoc l p.lower (free_block p.key ∷ (p.upper ++ r)));
  none = none_beside end seek l r p.lower p.upper h x.none;
  fit = x.fit;
}

pub fit_middle : (end : End) (seek : Search) (l m n r : List Block) (answer : Result Taken Refusal) → HasNoPlace seek (beyond end l r)
    → (place : ListPlace) × IsClosestPlace end seek m place × SettlesAt seek place n answer
    → AllocatesFit end seek (l ++ (m ++ r)) (l ++ (n ++ r)) answer
fit_middle end seek l m n r answer h x =
    let p = x.0 in
    inr (
      record { lower = l ++ p.lower; key = p.key; upper = p.upper ++ r; start = p.start },
      closest_middle end seek l m r p h x.1,
      settles_right seek (record p { upper = p.upper ++ r }) l (n ++ r) answer (settles_left seek p n r answer x.2),
    )
