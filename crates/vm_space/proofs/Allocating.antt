-- A list of blocks in which a range is allocated.
use Rattle.std.specs.Prelude.{◌⊎◌, Some, Result, Ok, Err}
use Rattle.std.proofs.Common.{
  ◌≡◌,
  ◌≢◌,
  ℕ,
  ◌+◌,
  ◌-◌,
  ◌<◌,
  ◌≤◌,
  List,
  [],
  ◌∷◌,
  ◌++◌,
  length,
  take,
  drop,
  refl,
  ap,
  ◌∙◌,
  sym,
  arith,
  inl,
  inr,
  append_assoc,
  length-append,
}
use Rattle.std.proofs.lemmas.Bool.{cases_lt}
use Rattle.vm_ranges.specs.Range.{Range, IsIn, span}
use Rattle.vm_ranges.proofs.RangeCalls.{same_range}
use Rattle.vm_ranges.specs.declared.state.NodeState.{NodeState}
use Rattle.vm_ranges.specs.declared.state.NodeState.TheVariants.{Free, Allocated}
use Rattle.vm_leaf.specs.declared.block.Block.{Block}
use Rattle.vm_leaf.specs.Block.{free_block}
use Rattle.vm_leaf.specs.Blocks.{Tiles, nth, start_of, parts, IsRun, IsTakenFrom}
use Rattle.vm_leaf.specs.Rest.{IsRest}
use Rattle.vm_leaf.specs.declared.leaf.rest.Rest.{Rest}
use Rattle.vm_leaf.specs.declared.leaf.rest.Rest.TheVariants.{Nothing, Before, After, Both}
use Rattle.vm_leaf.proofs.Parts.{parts_all, parts_upper, parts_lower, parts_middle}
use Rattle.vm_leaf.proofs.Tiles.{tiles_under, tiles_weaken, after_held, last_state}
use Rattle.vm_space.specs.Allocation.{ListPlace, IsPlaceIn, SettlesAt, SettlesIn, IsTakenAt, IsBlockAt, AllocatesExact}
use Rattle.vm_space.specs.Placing.{in_list, LiesIn, RefusesIn, IsExactPlace}
use Rattle.vm_space.proofs.Lists.{cut_at}
use Rattle.vm_space.specs.declared.place.Place.{Place}
use Rattle.vm_space.specs.declared.search.Search.{Search}
use Rattle.vm_space.specs.declared.search.Taken.{Taken}
use Rattle.vm_space.specs.declared.search.Refusal.{Refusal}
use Rattle.vm_space.specs.declared.search.Refusal.TheVariants.{NoPlace, Held, PastMax, OutOfMemory, CannotSplit}

-- ---- The parts that stay free of a gap
-- A range that is taken from a gap leaves parts of it free.
pub rest_of : (k r : Range) → IsTakenFrom k r → (rest : Rest) × IsRest rest k r
rest_of k r t =
    elim (cases_lt k.start r.start) [
      | inl l ↦ elim (cases_lt r.end k.end) [
        | inl m ↦ (Both, (l, m))
        | inr m ↦ (Before, (l, omega (arith, t.upto)))
      ]
      | inr l ↦ elim (cases_lt r.end k.end) [
        | inl m ↦ (After, (omega (arith, t.from), m))
        | inr m ↦ (Nothing, (omega (arith, t.from), omega (arith, t.upto)))
      ]
    ]

-- ---- The parts of a gap cover what the gap covered
-- The parts of a gap cover what the gap covered.
pub tiles_parts : (rest : Rest) (k r : Range) (q : NodeState) (m hi : ℕ) (us : List Block) → IsRest rest k r → IsTakenFrom k r →
    Tiles q m (free_block k ∷ us) hi → Tiles q m (parts k r ++ us) hi
tiles_parts Nothing k r q m hi us h t c =
    rw (parts_all k r h.0 h.1) (c.0, c.1, after_held q, tiles_weaken Free (k.end + 1) hi us c.3)
tiles_parts Before k r q m hi us h t c =
    rw (parts_upper k r h.0 h.1) (
      c.0,
      omega (arith, c.0),
      c.2,
      (omega arith, omega (arith, t.some, t.upto), tt, tiles_weaken Free (k.end + 1) hi us c.3),
    )
tiles_parts After k r q m hi us h t c =
    rw (parts_lower k r h.0 h.1) (c.0, omega (arith, c.0, t.some), after_held q, (omega arith, omega arith, tt, c.3))
tiles_parts Both k r q m hi us h t c =
    rw (parts_middle k r h.0 h.1) (
      c.0,
      omega (arith, c.0),
      c.2,
      (omega arith, omega (arith, t.some), tt, (omega arith, omega arith, tt, c.3)),
    )

-- A gap has at least one part.
some_parts : (k r : Range) → IsTakenFrom k r → 1 ≤ length (parts k r)
some_parts k r t =
    let l = rest_of k r t in
    by_rest l.0 l.1
  where
    by_rest : (rest : Rest) → IsRest rest k r → 1 ≤ length (parts k r)
    by_rest Nothing h = rw (parts_all k r h.0 h.1) (omega arith)
    by_rest Before h = rw (parts_upper k r h.0 h.1) (omega arith)
    by_rest After h = rw (parts_lower k r h.0 h.1) (omega arith)
    by_rest Both h = rw (parts_middle k r h.0 h.1) (omega arith)

-- A cover starts at the start of its first block.
pub start_tiles : (p : NodeState) (lo hi : ℕ) (bs : List Block) → 0 < length bs → Tiles p lo bs hi → start_of bs ≡ lo
start_tiles p lo hi [] l t = absurd (omega arith)
start_tiles p lo hi (b ∷ bs) l t = t.0

-- ---- A run in which a range of a gap is allocated
module _ (old new lower upper : List Block) (k r : Range) (run : IsRun old) (cut : old ≡ lower ++ free_block k ∷ upper)
    (taken : IsTakenFrom k r) (after : new ≡ lower ++ (parts k r ++ upper)) where
  new_tiles : Tiles Allocated run.lo new run.hi
  new_tiles =
      let l = rest_of k r taken in
      let t : Tiles Allocated run.lo (lower ++ free_block k ∷ upper) run.hi = rw cut at run.tiles in
      rw after (tiles_under Allocated run.lo run.hi lower (free_block k ∷ upper) (parts k r ++ upper)
      (λ m c. tiles_parts l.0 k r (last_state Allocated lower) m run.hi upper l.1 taken c) t)

  -- The new list has a block.
  new_some : 0 < length new
  new_some =
      let a = length-append lower (parts k r ++ upper) in
      let b = length-append (parts k r) upper in
      let c = some_parts k r taken in
      rw after (omega arith)

  -- A run in which a range of a gap is allocated is a run.
  pub run_after : IsRun new
  run_after = record { lo = run.lo; hi = run.hi; some = new_some; tiles = new_tiles; range = run.range }

  -- The run starts at the same address.
  pub start_after : start_of new ≡ start_of old
  start_after = start_tiles Allocated run.lo run.hi new new_some new_tiles
      ∙ sym (start_tiles Allocated run.lo run.hi old run.some run.tiles)

-- ---- The result at a place in the left part of a list, and in the right part
pub settles_left : (seek : Search) (place : ListPlace) (m r : List Block) (answer : Result Taken Refusal) → SettlesAt seek place m answer
    → SettlesAt seek (record place { upper = place.upper ++ r }) (m ++ r) answer
settles_left seek place m r (Ok taken) h =
    let ps = parts place.key (span place.start seek.size) in
    record {
      range = h.range;
      below = h.below;
      low = h.low;
      blocks = ap (λ (x : List Block). x ++ r) h.blocks ∙ append_assoc place.lower (ps ++ place.upper) r
          ∙ ap (λ (x : List Block). place.lower ++ x) (append_assoc ps place.upper r);
      added = h.added;
    }
settles_left seek place m r (Err NoPlace) h = h
settles_left seek place m r (Err Held) h = h
settles_left seek place m r (Err PastMax) h = h
settles_left seek place m r (Err (OutOfMemory e)) h = (record { below = h.0.below; splits = h.0.splits }, h.1)
settles_left seek place m r (Err CannotSplit) h = (record { below = h.0.below; splits = h.0.splits }, h.1)

pub settles_right : (seek : Search) (place : ListPlace) (l m : List Block) (answer : Result Taken Refusal) → SettlesAt seek place m answer
    → SettlesAt seek (record place { lower = l ++ place.lower }) (l ++ m) answer
settles_right seek place l m (Ok taken) h =
    let ps = parts place.key (span place.start seek.size) in
    record {
      range = h.range;
      below = h.below;
      low = h.low;
      blocks = ap (λ (x : List Block). l ++ x) h.blocks ∙ sym (append_assoc l place.lower (ps ++ place.upper));
      added = h.added;
    }
settles_right seek place l m (Err NoPlace) h = h
settles_right seek place l m (Err Held) h = h
settles_right seek place l m (Err PastMax) h = h
settles_right seek place l m (Err (OutOfMemory e)) h = (record { below = h.0.below; splits = h.0.splits }, h.1)
settles_right seek place l m (Err CannotSplit) h = (record { below = h.0.below; splits = h.0.splits }, h.1)

same_key : (k : Range) (start end : ℕ) → k.start ≡ start → k.end ≡ end → k ≡ record { start = start; end = end }
same_key k start end p q = rw (← p, ← q) refl

-- A free block is the gap of its range.
pub gap_of : (b : Block) → b.state ≡ Free → b ≡ free_block b.key
gap_of b e = rw (← e) refl

-- ---- The block of an exact range
module _ (seek : Search) (t : ℕ) (bs : List Block) (i : ℕ) where
  -- The block at an index is the one that contains the address.
  here : i < length bs → IsIn (nth bs i).key t → IsBlockAt t bs (take i bs) (nth bs i) (drop (i + 1) bs)
  here l f = record { cut = cut_at bs i l; inside = f }

  -- The result at the block is the result of the exact range.
  found : (new : List Block) (answer : Result Taken Refusal) → i < length bs → IsIn (nth bs i).key t
      → SettlesIn seek t (take i bs) (nth bs i).state (nth bs i).key (drop (i + 1) bs) new answer → AllocatesExact seek t bs new answer
  found new answer l f h = record { lower = take i bs; block = nth bs i; upper = drop (i + 1) bs; at = here l f; settles = h }

  -- If the block refuses the range, the call returns this error.
  pub exact_refused : (refusal : Refusal) → i < length bs → IsIn (nth bs i).key t → RefusesIn seek t (nth bs i) (Some refusal) →
      AllocatesExact seek t bs bs (Err refusal)
  exact_refused refusal l f h = found bs (Err refusal) l f (h (take i bs) (drop (i + 1) bs) bs)

  -- A range that lies in a gap and in the window.
  pub lies_at : (range : Range) → range ≡ record { start = t; end = t + (seek.size - 1) } → 0 < seek.size → i < length bs →
      IsIn (nth bs i).key t → LiesIn seek t (nth bs i) → IsTakenFrom (nth bs i).key range
  lies_at range e z l f h = rw e (record { from = f.0; some = omega arith; upto = omega (arith, h.upto) })

  pub exact_at : (place : Place) (range : Range) → range ≡ record { start = t; end = t + (seek.size - 1) } →
      (place.index ≡ i) × (place.gap ≡ (nth bs i).key) × (place.range ≡ range) → 0 < seek.size → IsRest place.rest (nth bs i).key range →
      i < length bs → IsIn (nth bs i).key t → LiesIn seek t (nth bs i) → IsExactPlace seek t bs place
  exact_at place range is e z r l f h =
      let q : range ≡ span t seek.size = is ∙ same_range _ (span t seek.size) refl (omega (arith, z)) in
      record {
        fits = record {
          inside = record {
            within = rw e.0 l;
            gap = rw (e.0, e.1) (gap_of (nth bs i) h.free);
            taken = rw (e.1, e.2)
                (lies_at range is z l f h);
            rest = rw (e.1, e.2) r;
          };
          sized = rw (e.2, q) refl;
        };
        start = rw (e.2, q) refl;
        high = h.high;
      }

-- The result at the place in the list is the result of the exact range.
pub exact_settled : (seek : Search) (t : ℕ) (bs : List Block) (place : Place) (new : List Block) (answer : Result Taken Refusal) →
    0 < seek.size → IsExactPlace seek t bs place → SettlesAt seek (in_list bs place) new answer → AllocatesExact seek t bs new answer
exact_settled seek t bs place new answer z h s =
    let p = h.fits.inside in
    let e = ap (λ (r : Range). r.end) h.fits.sized in
    record {
      lower = take place.index bs;
      block = free_block place.gap;
      upper = drop (place.index + 1) bs;
      at = record {
        cut = cut_at bs place.index p.within ∙ ap (λ (b : Block). take place.index bs ++ b ∷ drop (place.index + 1) bs) p.gap;
        inside = (omega (arith, p.taken.from, h.start), omega (arith, p.taken.some, p.taken.upto, h.start));
      };
      settles = inr ((λ x. elim x [ inl l ↦ omega (arith, p.taken.upto, e, h.start) | inr l ↦ omega (arith, h.high) ]), rw h.start at s);
    }

-- ---- The reason why an exact range cannot be allocated in a block
module _ (seek : Search) (t : ℕ) (b : Block) where
  -- A held block with exactly this range returns Held.
  pub refused_held : b.state ≡ Allocated → b.key.start ≡ t → b.key.end ≡ t + seek.size - 1 → RefusesIn seek t b (Some Held)
  refused_held state start end = λ lower upper new. rw state (inl (same_key b.key t (t + seek.size - 1) start end, refl))

  -- A held block with another range returns NoPlace.
  pub refused_other_start : b.state ≡ Allocated → b.key.start ≢ t → RefusesIn seek t b (Some NoPlace)
  refused_other_start state start = λ lower upper new. rw state (inr (λ e. start (ap (λ (k : Range). k.start) e), refl))

  pub refused_other_end : b.state ≡ Allocated → b.key.end ≢ t + seek.size - 1 → RefusesIn seek t b (Some NoPlace)
  refused_other_end state end = λ lower upper new. rw state (inr (λ e. end (ap (λ (k : Range). k.end) e), refl))

  -- A gap that ends before the range returns NoPlace.
  pub refused_short : b.state ≡ Free → b.key.end < t + seek.size - 1 → RefusesIn seek t b (Some NoPlace)
  refused_short state short = λ lower upper new. rw state (inl (inl short, refl))

  -- A range that ends past the window returns NoPlace.
  pub refused_past : b.state ≡ Free → seek.high < t + seek.size - 1 → RefusesIn seek t b (Some NoPlace)
  refused_past state past = λ lower upper new. rw state (inl (inr past, refl))

-- ---- An exact range in the left part of a list, and in the right part
in_left : (seek : Search) (t : ℕ) (lower : List Block) (state : NodeState) (key : Range) (upper m r : List Block)
    (answer : Result Taken Refusal)
    → SettlesIn seek t lower state key upper m answer → SettlesIn seek t lower state key (upper ++ r) (m ++ r) answer
in_left seek t lower Allocated key upper m r answer h = h
in_left seek t lower Free key upper m r answer h =
    let place : ListPlace = record { lower = lower; key = key; upper = upper; start = t } in
    elim h [ inl x ↦ inl x | inr x ↦ inr (x.0, settles_left seek place m r answer x.1) ]

in_right : (seek : Search) (t : ℕ) (lower : List Block) (state : NodeState) (key : Range) (upper l m : List Block)
    (answer : Result Taken Refusal)
    → SettlesIn seek t lower state key upper m answer → SettlesIn seek t (l ++ lower) state key upper (l ++ m) answer
in_right seek t lower Allocated key upper l m answer h = h
in_right seek t lower Free key upper l m answer h =
    let place : ListPlace = record { lower = lower; key = key; upper = upper; start = t } in
    elim h [ inl x ↦ inl x | inr x ↦ inr (x.0, settles_right seek place l m answer x.1) ]

-- The result of an exact range in one part is the result in the list.
pub exact_left : (seek : Search) (t : ℕ) (l m r : List Block) (answer : Result Taken Refusal) → AllocatesExact seek t l m answer →
    AllocatesExact seek t (l ++ r) (m ++ r) answer
exact_left seek t l m r answer h = record {
  lower = h.lower;
  block = h.block;
  upper = h.upper ++ r;
  at = record { cut = ap (λ (x : List Block). x ++ r) h.at.cut ∙ append_assoc h.lower (h.block ∷ h.upper) r; inside = h.at.inside };
  settles = in_left seek t h.lower h.block.state h.block.key h.upper m r answer h.settles;
}

pub exact_right : (seek : Search) (t : ℕ) (l r m : List Block) (answer : Result Taken Refusal) → AllocatesExact seek t r m answer →
    AllocatesExact seek t (l ++ r) (l ++ m) answer
exact_right seek t l r m answer h = record {
  lower = l ++ h.lower;
  block = h.block;
  upper = h.upper;
  at = record { cut = ap (λ (x : List Block). l ++ x) h.at.cut ∙ sym (append_assoc l h.lower (h.block ∷ h.upper)); inside = h.at.inside };
  settles = in_right seek t h.lower h.block.state h.block.key h.upper l m answer h.settles;
}

-- If no bound is below the last address, the range lies in the gap.
gap_end : (x last high : ℕ) → ¬ ((x < last) ⊎ (high < last)) → last ≤ x
gap_end x last high h = elim (cases_lt x last) [ inl l ↦ absurd (h (inl l)) | inr l ↦ l ]

-- The range that was allocated lies in a gap.
pub record IsAllocated (seek : Search) (old new : List Block) (taken : Taken) : Type 0 where
  pub place : ListPlace
  pub cut : IsPlaceIn old place
  pub inside : IsTakenFrom place.key (span place.start seek.size)
  pub taken_at : IsTakenAt seek place new taken

-- A run in which a range was allocated is a run.
pub run_allocated : (seek : Search) (old new : List Block) (taken : Taken) → IsRun old → IsAllocated seek old new taken → IsRun new
run_allocated seek old new taken run h = run_after old new h.place.lower h.place.upper h.place.key (span h.place.start seek.size) run h.cut
    h.inside h.taken_at.blocks

-- An exact range that was allocated lies in a gap.
pub exact_allocated : (seek : Search) (t : ℕ) (old new : List Block) (taken : Taken) → 0 < seek.size →
    AllocatesExact seek t old new (Ok taken) → IsAllocated seek old new taken
exact_allocated seek t old new taken z h = by_state h.lower h.block.state h.block.key h.upper h.at.cut h.at.inside h.settles
  where
    by_state : (lower : List Block) (state : NodeState) (key : Range) (upper : List Block) →
        old ≡ lower ++ record { key = key; state = state } ∷ upper → IsIn key t
        → SettlesIn seek t lower state key upper new (Ok taken) → IsAllocated seek old new taken
    by_state lower Allocated key upper cut inside s = elim s [ inl x ↦ (let e = x.1 in absurd (cc)) | inr x ↦ (let e = x.1 in absurd (cc)) ]
    by_state lower Free key upper cut inside s =
        let place : ListPlace = record { lower = lower; key = key; upper = upper; start = t } in
        elim s [
          | inl x ↦ (let e = x.1 in absurd (cc))
          | inr x ↦ record {
            place = place;
            cut = cut;
            inside = record
                { from = inside.0; some = omega arith; upto = gap_end key.end (t + seek.size - 1) seek.high x.0 };
            taken_at = x.1;
          }
        ]

pub ruleset refusing = (refused_held, refused_other_start, refused_other_end, refused_short, refused_past)

pub ruleset finding_exact = (exact_refused, lies_at, exact_at)

pub ruleset settling_exact = (exact_settled)
