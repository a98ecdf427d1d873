-- An exact range in a leaf.
use Rattle.std.specs.Prelude.{◌⊎◌, Some, None, Result, Ok, Err, IsErr, IsErrAnd}
use Rattle.std.proofs.Common.{◌≡◌, ℕ, ◌+◌, ◌-◌, ◌<◌, List, [], ◌∷◌, ◌++◌, length, take, drop, refl, ap, ◌∙◌, sym, subst, arith, inl, inr}
use Rattle.std.proofs.lemmas.List.{append-nil}
use Rattle.vm_ranges.specs.Range.{Range, IsIn, span}
use Rattle.vm_ranges.proofs.RangeCalls.{same_range}
use Rattle.vm_leaf.specs.declared.block.Block.{Block}
use Rattle.vm_leaf.specs.declared.leaf.TheConstants.{CAPACITY}
use Rattle.vm_leaf.specs.Blocks.{nth, parts, with_parts, IsLeaf, IsTakenFrom}
use Rattle.vm_leaf.specs.Rest.{IsRest, added_by}
use Rattle.vm_leaf.specs.declared.leaf.rest.Rest.{Rest}
use Rattle.vm_leaf.specs.declared.leaf.rest.Rest.TheVariants.{Nothing, Before, After, Both}
use Rattle.vm_leaf.proofs.Parts.{parts_all, parts_upper, parts_lower, parts_middle}
use Rattle.vm_leaf.proofs.Tiles.{length-with_parts}
use Rattle.vm_space.specs.Allocation.{SettlesAt, AllocatesExact}
use Rattle.vm_space.specs.Placing.{in_list, with_place, IsPlaceFor, IsExactPlace, RefusesPlace, LiesIn}
use Rattle.vm_space.specs.Exact.{IsFullAt, EditsExact}
use Rattle.vm_space.specs.Leaves.{IsInLeaf}
use Rattle.std.specs.declared.alloc.AllocError.{AllocError}
use Rattle.vm_space.specs.declared.place.Place.{Place}
use Rattle.vm_space.specs.declared.search.Search.{Search}
use Rattle.vm_space.specs.declared.search.Taken.{Taken}
use Rattle.vm_space.specs.declared.search.Refusal.{Refusal}
use Rattle.vm_space.specs.declared.search.Refusal.TheVariants.{NoPlace, Held, PastMax, OutOfMemory, CannotSplit}
use Rattle.vm_space.proofs.Allocating.{rest_of, exact_settled, exact_at, lies_at}
use Rattle.vm_space.proofs.Lists.{cut_at}
use Rattle.vm_space.proofs.Orders.{one_block}

-- The number of blocks that an allocation adds.
pub added_parts : (rest : Rest) (k r : Range) → IsRest rest k r → added_by rest + 1 ≡ length (parts k r)
added_parts Nothing k r h = rw (parts_all k r h.0 h.1) refl
added_parts Before k r h = rw (parts_upper k r h.0 h.1) refl
added_parts After k r h = rw (parts_lower k r h.0 h.1) refl
added_parts Both k r h = rw (parts_middle k r h.0 h.1) refl

-- A range that does not fill its gap leaves a part free.
added_some : (rest : Rest) (k r : Range) → IsRest rest k r → (k.start < r.start) ⊎ (r.end < k.end) → 0 < added_by rest
added_some Nothing k r h s = elim s [ inl l ↦ absurd (omega (arith, h.0)) | inr l ↦ absurd (omega (arith, h.1)) ]
added_some Before k r h s = omega arith
added_some After k r h s = omega arith
added_some Both k r h s = omega arith

split_some : (rest : Rest) (k r : Range) → IsRest rest k r → 0 < added_by rest → (k.start < r.start) ⊎ (r.end < k.end)
split_some Nothing k r h s = absurd (omega arith)
split_some Before k r h s = inl h.0
split_some After k r h s = inr h.1
split_some Both k r h s = inl h.0

module _ (seek : Search) (bs : List Block) (place : Place) (p : IsPlaceFor seek.size bs place) where
  ends : place.range.end ≡ (span place.range.start seek.size).end
  ends = ap (λ (x : Range). x.end) p.sized

  -- The range of a place was allocated.
  pub settled : (new : List Block) (taken : Taken) → new ≡ with_place bs place → RefusesPlace seek place None → taken.range ≡ place.range →
      taken.added ≡ added_by place.rest → SettlesAt seek (in_list bs place) new (Ok taken)
  settled new taken e n r a = record {
    range = r ∙ p.sized;
    below = omega (arith, n.0, ends);
    low = λ s. n.1 (added_some place.rest place.gap place.range p.inside.rest (elim s [ inl l ↦ inl l | inr l ↦ inr (omega (arith, l, ends)) ]));
    blocks = e ∙ ap (λ (x : Range). with_parts bs place.index 1 (parts place.gap x)) p.sized;
    added = ap (λ (x : ℕ). x + 1) a ∙ added_parts place.rest place.gap place.range p.inside.rest ∙ ap (λ (x : Range). length (parts place.gap x)) p.sized;
  }

  -- The range of a place was refused.
  pub refused : (new : List Block) (refusal : Refusal) → RefusesPlace seek place (Some refusal) → SettlesAt seek (in_list bs place) new (Err refusal)
  refused new NoPlace h = h
  refused new Held h = h
  refused new PastMax h = omega (arith, h, ends)
  refused new (OutOfMemory e) h = absurd h
  refused new CannotSplit h = (
    record {
      below = omega (arith, h.0, ends);
      splits = elim (split_some place.rest place.gap place.range p.inside.rest h.1) [ inl l ↦ inl l | inr l ↦ inr (omega (arith, l, ends)) ];
    },
    h.2,
  )

  -- There was no memory for the range of a place that splits its gap.
  pub no_memory : (new : List Block) (error : AllocError) → RefusesPlace seek place None → 0 < added_by place.rest
      → SettlesAt seek (in_list bs place) new (Err (OutOfMemory error))
  no_memory new error n s = (
    record {
      below = omega (arith, n.0, ends);
      splits = elim (split_some place.rest place.gap place.range p.inside.rest s) [ inl l ↦ inl l | inr l ↦ inr (omega (arith, l, ends)) ];
    },
    n.1 s,
  )

-- A list with a place allocated has a block.
some_placed : (bs ys : List Block) (i : ℕ) → i < length bs → 0 < length ys → 0 < length (with_parts bs i 1 ys)
some_placed bs ys i l m = let n = length-with_parts bs i 1 ys (omega arith) in omega arith

module _ (seek : Search) (t : ℕ) (bs : List Block) (z : 0 < seek.size) where
  module _ (place : Place) (h : IsExactPlace seek t bs place) (n : RefusesPlace seek place None) where
    -- The range was allocated in the leaf.
    pub edits_one : (new : List Block) (taken : Taken) → new ≡ with_place bs place → taken.range ≡ place.range → taken.added ≡ added_by place.rest
        → EditsExact seek t bs (Ok taken) (new ∷ [])
    edits_one new taken e r a = record {
      allocates = exact_settled seek t bs place (new ++ []) (Ok taken) z h
          (settled seek bs place h.fits (new ++ []) taken (append-nil new ∙ e) n r a);
      ok = refl;
      some = (
        rw e (some_placed bs (parts place.gap place.range) place.index h.fits.inside.within
            (omega (arith, added_parts place.rest place.gap place.range h.fits.inside.rest))),
        tt,
      );
    }

    -- The range was allocated, and the leaf was split.
    pub edits_two : (low high : List Block) (taken : Taken) → low ++ high ≡ with_place bs place → 0 < length low → 0 < length high →
        taken.range ≡ place.range → taken.added ≡ added_by place.rest
        → EditsExact seek t bs (Ok taken) (low ∷ high ∷ [])
    edits_two low high taken e m k r a = record {
      allocates = exact_settled seek t bs place (low ++ (high ++ [])) (Ok taken) z h
          (settled seek bs place h.fits (low ++ (high ++ [])) taken (ap (λ (x : List Block). low ++ x) (append-nil high) ∙ e) n r a);
      ok = refl;
      some = (m, (k, tt));
    }

    -- The leaf has no room for the range.
    pub is_full : IsLeaf bs → IsInLeaf t bs → CAPACITY < length bs + added_by place.rest → IsFullAt seek t bs
    is_full leaf at f =
        let p = h.fits.inside in
        let s = ap (λ (b : Block). b.key.start) p.gap in
        let e = ap (λ (b : Block). b.key.end) p.gap in
        let r = ap (λ (x : Range). x.end) h.fits.sized in
        let c = added_parts place.rest place.gap place.range p.rest in
        let d : length (parts place.gap place.range) ≡ length (parts (nth bs place.index).key (span t seek.size)) =
        ap (λ (x : Range). length (parts place.gap x)) (h.fits.sized ∙ ap (λ (x : ℕ). span x seek.size) h.start)
        ∙ ap (λ (b : Block). length (parts b.key (span t seek.size))) (sym p.gap) in
        record {
          at = at;
          index = place.index;
          within = p.within;
          inside = (omega (arith, p.taken.from, h.start), omega (arith, p.taken.some, p.taken.upto, h.start));
          lies = record {
            free = ap (λ (b : Block). b.state) p.gap;
            upto = omega (arith, p.taken.upto, h.start);
            high = h.high;
          };
          below = omega (arith, n.0, h.start);
          low = n.1 (omega (arith, leaf.fits));
          fits = leaf.fits;
          full = omega arith;
        }

  -- The place was refused.
  pub refuses_place : (place : Place) → IsExactPlace seek t bs place → (refusal : Refusal) → RefusesPlace seek place (Some refusal) →
      AllocatesExact seek t bs bs (Err refusal)
  refuses_place place h refusal r = exact_settled seek t bs place bs (Err refusal) z h (refused seek bs place h.fits bs refusal r)

  -- Without memory the range is not allocated in a leaf that has no room for it.
  pub lacks : (error : AllocError) → IsFullAt seek t bs → AllocatesExact seek t bs bs (Err (OutOfMemory error))
  lacks error h =
      let b = nth bs h.index in
      let r = span t seek.size in
      let k : IsTakenFrom b.key r = record { from = h.inside.0; some = omega arith; upto = omega (arith, h.lies.upto) } in
      let l = rest_of b.key r k in
      let c = added_parts l.0 b.key r l.1 in
      record {
        lower = take h.index bs;
        block = b;
        upper = drop (h.index + 1) bs;
        at = record { cut = cut_at bs h.index h.within; inside = h.inside };
        settles = rw h.lies.free (inr (
          λ x. elim x [ inl m ↦ omega (arith, h.lies.upto) | inr m ↦ omega (arith, h.lies.high) ],
          (record { below = h.below; splits = split_some l.0 b.key r l.1 (omega (arith, h.full, h.fits)) }, h.low),
        ));
      }

  -- The block at an index that has the start is the gap that has no room.
  module _ (i : ℕ) (leaf : IsLeaf bs) (within : i < length bs) (inside : IsIn (nth bs i).key t) (h : IsFullAt seek t bs) where
    pub full_index : h.index ≡ i
    full_index = one_block bs h.index i t leaf h.within within h.inside inside

    pub full_lies : LiesIn seek t (nth bs i)
    full_lies = subst (λ (x : ℕ). LiesIn seek t (nth bs x)) full_index h.lies

    pub full_parts : CAPACITY + 1 < length bs + length (parts (nth bs i).key (span t seek.size))
    full_parts = subst (λ (x : ℕ). CAPACITY + 1 < length bs + length (parts (nth bs x).key (span t seek.size))) full_index h.full

    module _ (k r : Range) (q : k ≡ (nth bs i).key) (e : r ≡ record { start = t; end = t + (seek.size - 1) }) where
      pub full_taken : IsTakenFrom k r
      full_taken = rw q (lies_at seek t bs i r e z within inside full_lies)

      is_span : r ≡ span t seek.size
      is_span = e ∙ same_range _ (span t seek.size) refl (omega (arith, z))

      module _ (rest : Rest) (p : IsRest rest k r) where
        pub full_room : CAPACITY < length bs + added_by rest
        full_room =
            let c = added_parts rest k r p in
            let d : length (parts k r) ≡ length (parts (nth bs i).key (span t seek.size)) =
            ap (λ (x : Range). length (parts x r)) q ∙ ap (λ (x : Range). length (parts (nth bs i).key x)) is_span in
            omega (arith, full_parts)

        pub full_edited : (low high : List Block) (taken : Taken) → low ++ high ≡ with_parts bs i 1 (parts (nth bs i).key r) →
            0 < length low → 0 < length high → taken.range ≡ r → taken.added ≡ added_by rest
            → EditsExact seek t bs (Ok taken) (low ∷ high ∷ [])
        full_edited low high taken o m n x a =
            let place : Place = record { index = i; gap = k; range = r; rest = rest } in
            edits_two place (exact_at seek t bs i place r e (refl, q, refl) z (rw q at p) within inside full_lies)
            (omega (arith, h.below, ap (λ (x : Range). x.end) is_span), λ l. h.low) low high taken
            (o ∙ ap (λ (x : Range). with_parts bs i 1 (parts x r)) (sym q)) m n x a

pub ruleset splitting = (full_taken, full_lies, full_room, full_edited)

-- A lack of memory is passed on.
pub is_no_memory : (error : AllocError) (found : Result Taken Refusal) → IsErr found → IsErrAnd found (λ e. e ≡ OutOfMemory error) → found ≡ Err (OutOfMemory error)
is_no_memory error (Ok taken) h e = absurd (cc)
is_no_memory error (Err refusal) h e = ap Err e
