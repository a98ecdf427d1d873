-- The entry of a leaf after a range was allocated in a gap, or freed.
use Rattle.std.specs.Prelude.{◌⊎◌}
use Rattle.std.proofs.Common.{◌≡◌, ℕ, ◌+◌, ◌<◌, ◌≤◌, List, [], ◌∷◌, ◌++◌, length, take, drop, refl, ap, ◌∙◌, sym, subst, arith, inl, inr}
use Rattle.std.proofs.lemmas.List.{append-nil}
use Rattle.vm_ranges.specs.Range.{Range, address_count}
use Rattle.vm_ranges.specs.declared.state.NodeState.TheVariants.{Allocated}
use Rattle.vm_leaf.specs.declared.block.Block.{Block}
use Rattle.vm_leaf.specs.Block.{free_block}
use Rattle.vm_leaf.specs.Blocks.{Tiles, nth, start_of, longest_gap, parts, with_parts, freed_at, IsLeaf, IsRun, IsTakenFrom}
use Rattle.vm_leaf.specs.Rest.{IsRest}
use Rattle.vm_leaf.specs.Entries.{blocks_entry}
use Rattle.vm_leaf.specs.Multiples.{alignment_count, most_alignments}
use Rattle.vm_leaf.specs.Raises.{Raises}
use Rattle.vm_leaf.specs.declared.leaf.rest.Rest.{Rest}
use Rattle.vm_leaf.proofs.Raised.{longest_upto, most_upto}
use Rattle.vm_tree.specs.declared.entries.Entry.{Entry}
use Rattle.vm_tree.specs.declared.cut.Cutting.TheVariants as cutting
use Rattle.vm_space.specs.Placing.{with_place, IsLeafPlace}
use Rattle.vm_space.specs.Frees.{raised_entry}
use Rattle.vm_space.specs.declared.place.Place.{Place}
use Rattle.vm_space.proofs.Allocating.{start_after, tiles_parts}
use Rattle.vm_space.proofs.Frees.{freed_start}
use Rattle.vm_space.proofs.Lists.{longest_append, alignments_append, cut_at}

-- The parts of a gap cover it, so they have at most its length, and at most its alignments.
parts_tile : (rest : Rest) (k r : Range) → IsRest rest k r → IsTakenFrom k r → Tiles Allocated k.start (parts k r) k.end
parts_tile rest k r h t =
    subst (λ xs. Tiles Allocated k.start xs k.end) (append-nil (parts k r))
    (tiles_parts rest k r Allocated k.start k.end [] h t (refl, omega (arith, t.from, t.some, t.upto), tt, refl))

longest_parts : (rest : Rest) (k r : Range) → IsRest rest k r → IsTakenFrom k r → longest_gap (parts k r) ≤ address_count k
longest_parts rest k r h t = omega (arith, t.from, t.some, t.upto, longest_upto Allocated k.start k.end (parts k r) (parts_tile rest k r h t))

alignments_parts : (rest : Rest) (k r : Range) → IsRest rest k r → IsTakenFrom k r → most_alignments (parts k r) ≤ alignment_count k
alignments_parts rest k r h t = most_upto k Allocated k.start k.end (parts k r) (omega arith) (omega arith) (parts_tile rest k r h t)

-- A range was allocated in a gap. If the gap was not the longest, or as long a gap is left, then the longest gap is as long as before;
-- the same holds of the alignments.
module _ (bs : List Block) (i : ℕ) (rest : Rest) (k r : Range) (within : i < length bs) (gap : nth bs i ≡ free_block k)
    (rest_is : IsRest rest k r) (taken : IsTakenFrom k r) where
  around : bs ≡ take i bs ++ free_block k ∷ drop (i + 1) bs
  around = cut_at bs i within ∙ ap (λ (b : Block). take i bs ++ b ∷ drop (i + 1) bs) gap

  pub longest_same : (n : ℕ) → (address_count k < longest_gap bs) ⊎ (n ≡ longest_gap bs) → n ≤ longest_gap (with_parts bs i 1 (parts k r))
      → longest_gap (with_parts bs i 1 (parts k r)) ≡ longest_gap bs
  longest_same n o l =
      let a = ap longest_gap around ∙ longest_append (take i bs) (free_block k ∷ drop (i + 1) bs) in
      let b = longest_append (take i bs) (parts k r ++ drop (i + 1) bs) in
      let c = longest_append (parts k r) (drop (i + 1) bs) in
      let d = longest_parts rest k r rest_is taken in
      elim o [ inl p ↦ omega (arith, p) | inr p ↦ omega (arith, p) ]

  pub alignments_same : (n : ℕ) → (alignment_count k < most_alignments bs) ⊎ (n ≡ most_alignments bs) → n ≤ most_alignments (with_parts bs i 1 (parts k r))
      → most_alignments (with_parts bs i 1 (parts k r)) ≡ most_alignments bs
  alignments_same n o l =
      let a = ap most_alignments around ∙ alignments_append (take i bs) (free_block k ∷ drop (i + 1) bs) in
      let b = alignments_append (take i bs) (parts k r ++ drop (i + 1) bs) in
      let c = alignments_append (parts k r) (drop (i + 1) bs) in
      let d = alignments_parts rest k r rest_is taken in
      elim o [ inl p ↦ omega (arith, p) | inr p ↦ omega (arith, p) ]

alike : (d e : Entry) → d.at ≡ e.at → d.longest ≡ e.longest → d.alignments ≡ e.alignments → d ≡ e
alike d e p q r =
    ap (λ n. record { at = n; longest = d.longest; alignments = d.alignments }) p
    ∙ ap (λ n. record { at = e.at; longest = n; alignments = d.alignments }) q
    ∙ ap (λ n. record { at = e.at; longest = e.longest; alignments = n }) r

-- The place was allocated, and its leaf has the entry that it had: n addresses and m alignments are left in gaps.
pub keeps_entry : (bs new : List Block) (place : Place) (was : Entry) (n m : ℕ) → IsLeaf bs → IsLeafPlace bs place → new ≡ with_place bs place
    → (address_count place.gap < was.longest) ⊎ (n ≡ was.longest) → (alignment_count place.gap < was.alignments) ⊎ (m ≡ was.alignments)
    → n ≤ longest_gap new → m ≤ most_alignments new → was ≡ blocks_entry bs → blocks_entry new ≡ blocks_entry bs
keeps_entry bs new place was n m leaf p e o q l h w =
    let run : IsRun bs = record { lo = leaf.lo; hi = leaf.hi; some = leaf.some; tiles = leaf.tiles; range = leaf.range } in
    let f = ap (λ (x : Entry). x.longest) w in
    let g = ap (λ (x : Entry). x.alignments) w in
    alike (blocks_entry new) (blocks_entry bs)
    (start_after bs new (take place.index bs) (drop (place.index + 1) bs) place.gap place.range run
    (around bs place.index place.rest place.gap place.range p.within p.gap p.rest p.taken) p.taken e)
    (ap longest_gap e ∙ longest_same bs place.index place.rest place.gap place.range p.within p.gap p.rest p.taken n
    (elim o [ inl a ↦ inl (omega (arith, a, f)) | inr a ↦ inr (a ∙ f) ]) (omega (arith, l, ap longest_gap e)))
    (ap most_alignments e ∙ alignments_same bs place.index place.rest place.gap place.range p.within p.gap p.rest p.taken m
    (elim q [ inl a ↦ inl (omega (arith, a, g)) | inr a ↦ inr (a ∙ g) ]) (omega (arith, h, ap most_alignments e)))

-- A block of the leaf that is not its first, or the only one, was freed, and the gap is k.
pub raises_entry : (bs new : List Block) (i : ℕ) (k : Range) (was : Entry) → i < length bs → ((0 < i) × (i + 1 < length bs)) ⊎ (length bs ≡ 1)
    → new ≡ freed_at i bs → Raises k bs new → (told : Entry) → told ≡ raised_entry was k → was ≡ blocks_entry bs → told ≡ blocks_entry new
raises_entry bs new i k was within inner e r told d w =
    let s = freed_start bs i within inner in
    d ∙ alike (raised_entry was k) (blocks_entry new) (ap (λ (x : Entry). x.at) w ∙ sym (ap start_of e ∙ s))
    (omega (arith, ap (λ (x : Entry). x.longest) w, r.longest)) (omega (arith, ap (λ (x : Entry). x.alignments) w, r.alignments))

-- The entry that a change returns.
pub told_changed : (d e : Entry) → cutting.Changed d ≡ cutting.Changed e → e ≡ d
told_changed d e h = cc

pub told_small : (d e : Entry) → cutting.Small d ≡ cutting.Small e → e ≡ d
told_small d e h = cc
