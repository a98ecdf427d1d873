-- The laws of a search of the leaves of a space.
use Rattle.std.proofs.Common.{◌≡◌, ℕ, ◌≤◌, ◌<◌, max, Bool, true, false, List, [], ◌∷◌, ◌++◌, length, ◌∙◌, sym, refl, ap, subst, arith, inl, inr}
use Rattle.std.specs.Int.{w64, trailing_zeros}
use Rattle.std.proofs.lemmas.Bool.{and_parts, leb-true, ltb-true, le-leb, lt-leb, le-ltb, lt-ltb, cases_lt}
use Rattle.std.proofs.lemmas.List.{append-nil, length-append}
use Rattle.std.proofs.lemmas.List.Elements.{All-nil, All-cons, All-append, All-head, All-tail}
use Rattle.vm_ranges.specs.Alignment.{IsAlignment}
use Rattle.vm_ranges.specs.declared.state.NodeState.TheVariants.{Allocated}
use Rattle.vm_leaf.specs.declared.block.Block.{Block}
use Rattle.vm_leaf.specs.Blocks.{start_of, end_of, IsRun}
use Rattle.vm_leaf.specs.Entries.{blocks_entry}
use Rattle.vm_tree.specs.declared.entries.Entry.{Entry}
use Rattle.vm_tree.specs.Rows.{joined}
use Rattle.vm_tree.specs.Subtree.{AllOf, leaves_entry}
use Rattle.vm_tree.specs.Seeking.{IsSeeking, total}
use Rattle.vm_tree.specs.declared.end.End.{End}
use Rattle.vm_tree.proofs.Leaves.{joined-none}
use Rattle.vm_space.specs.Allocation.{window_of, HasNoFitIn, HasNoPlace, IsSearch}
use Rattle.vm_space.specs.Closest.{weight_in, Reaches, may_fit, fits_entry, AreRun, seeking, reaches, IsValid}
use Rattle.vm_space.specs.Leaves.{blocks_of, HaveBlocks}
use Rattle.vm_space.specs.NodeCounts.{weight}
use Rattle.vm_space.specs.declared.search.Search.{Search}
use Rattle.vm_space.proofs.Lists.{start_append, longest_append, alignments_append, cover_left, cover_right, end_left, end_append}
use Rattle.vm_space.proofs.SearchedBlocks.{searched_if, not_if_short, not_if_unaligned, none_if_passed, none_below, none_above, start_of_run, end_of_run, exponent_by_trailing}
use Rattle.vm_space.proofs.Spaces.{blocks_append, blocks_new, have_left, have_right, middle_from, middle_run, middle_upto, ascend_tiles}
use Rattle.vm_space.proofs.Weights.{weight-append, weight_some}

-- ---- The summary of leaves is that of their blocks
same_entry : (a b : Entry) → a.at ≡ b.at → a.longest ≡ b.longest → a.alignments ≡ b.alignments → a ≡ b
same_entry a b h n l =
    ap (λ (v : ℕ). record { at = v; longest = a.longest; alignments = a.alignments }) h
    ∙ ap (λ (v : ℕ). record { at = b.at; longest = v; alignments = a.alignments }) n
    ∙ ap (λ (v : ℕ). record { at = b.at; longest = b.longest; alignments = v }) l

some_blocks : (ls : List (List Block)) → HaveBlocks ls → 0 < length ls → 0 < length (blocks_of ls)
some_blocks [] h l = absurd (omega arith)
some_blocks (x ∷ ls) h l = omega (arith, h.0, length-append x (blocks_of ls))

some_leaves : (ls : List (List Block)) → 0 < length (blocks_of ls) → 0 < length ls
some_leaves [] l = absurd (omega arith)
some_leaves (x ∷ ls) l = omega arith

leaves_view : (ls : List (List Block)) → HaveBlocks ls → 0 < length ls → leaves_entry blocks_entry ls ≡ blocks_entry (blocks_of ls)
leaves_view [] h l = absurd (omega arith)
leaves_view (x ∷ []) h l = sym (joined-none (blocks_entry x)) ∙ ap blocks_entry (sym (append-nil x))
leaves_view (x ∷ y ∷ ls) h l =
    ap (joined (blocks_entry x)) (leaves_view (y ∷ ls) h.1 (omega arith))
    ∙ same_entry _ _ (sym (start_append x (blocks_of (y ∷ ls)) h.0))
    (sym (longest_append x (blocks_of (y ∷ ls)))) (sym (alignments_append x (blocks_of (y ∷ ls))))

leaves_start : (ls : List (List Block)) → HaveBlocks ls → 0 < length ls → (leaves_entry blocks_entry ls).at ≡ start_of (blocks_of ls)
leaves_start ls h l = ap (λ (e : Entry). e.at) (leaves_view ls h l)

-- The summary of a part is at most that of all.
parts_entry : (xs ys : List (List Block)) → ((leaves_entry blocks_entry (xs ++ ys)).longest ≡ max (leaves_entry blocks_entry xs).longest (leaves_entry blocks_entry ys).longest)
    × ((leaves_entry blocks_entry (xs ++ ys)).alignments ≡ max (leaves_entry blocks_entry xs).alignments (leaves_entry blocks_entry ys).alignments)
parts_entry [] ys = (omega arith, omega arith)
parts_entry (x ∷ xs) ys = let h = parts_entry xs ys in (omega (arith, h.0), omega (arith, h.1))

-- ---- A valid search
pub is_valid : (s : Search) → IsSearch s → IsValid s
is_valid s v = let e = exponent_by_trailing s.alignment v.aligned in record { some = v.some; exponent = e.0; power = e.1 }

pub is_search : (s : Search) → IsValid s → IsSearch s
unfolding IsAlignment
is_search s v = record { some = v.some; aligned = (trailing_zeros w64 s.alignment, v.exponent, v.power) }

-- ---- No place in leaves, and in their blocks
module _ (s : Search) where
  all_left : (xs ys : List Block) → HasNoPlace s (xs ++ ys) → HasNoPlace s xs
  all_left [] ys h = All-nil (HasNoFitIn (window_of s) s.size s.alignment)
  all_left (x ∷ xs) ys h =
      All-cons (HasNoFitIn (window_of s) s.size s.alignment) x xs (All-head (HasNoFitIn (window_of s) s.size s.alignment) x (xs ++ ys) h)
      (all_left xs ys (All-tail (HasNoFitIn (window_of s) s.size s.alignment) x (xs ++ ys) h))

  all_right : (xs ys : List Block) → HasNoPlace s (xs ++ ys) → HasNoPlace s ys
  all_right [] ys h = h
  all_right (x ∷ xs) ys h = all_right xs ys (All-tail (HasNoFitIn (window_of s) s.size s.alignment) x (xs ++ ys) h)

  pub split_none : (ls : List (List Block)) → HasNoPlace s (blocks_of ls) → AllOf (HasNoPlace s) ls
  split_none [] h = tt
  split_none (x ∷ ls) h = (all_left x (blocks_of ls) h, split_none ls (all_right x (blocks_of ls) h))

  pub join_none : (ls : List (List Block)) → AllOf (HasNoPlace s) ls → HasNoPlace s (blocks_of ls)
  join_none [] h = All-nil (HasNoFitIn (window_of s) s.size s.alignment)
  join_none (x ∷ ls) h = All-append (HasNoFitIn (window_of s) s.size s.alignment) x (blocks_of ls) h.0 (join_none ls h.1)

  pub total_weight : (k : Bool) (ls : List (List Block)) → total (weight_in k s) ls ≡ weight_in k s (blocks_of ls)
  unfolding weight
  total_weight k [] = refl
  total_weight k (x ∷ ls) = omega (arith, total_weight k ls, weight-append k s x (blocks_of ls))

  fits_is : (bs : List Block) → IsSearch s → fits_entry s (blocks_entry bs) ≡ may_fit s bs
  fits_is bs v =
      elim (cases_lt (blocks_entry bs).longest s.size) [
        | inl p ↦ rw (lt-leb s.size (blocks_entry bs).longest p, not_if_short s.size s.alignment bs p) refl
        | inr p ↦ elim (cases_lt (trailing_zeros w64 s.alignment) (blocks_entry bs).alignments) [
          | inl q ↦ rw (le-leb s.size (blocks_entry bs).longest p, lt-ltb (trailing_zeros w64 s.alignment) (blocks_entry bs).alignments q, searched_if s.size s.alignment bs v.aligned p q) refl
          | inr q ↦ rw (le-leb s.size (blocks_entry bs).longest p, le-ltb (trailing_zeros w64 s.alignment) (blocks_entry bs).alignments q, not_if_unaligned s.size s.alignment bs v.aligned q) refl
        ]
      ]

  -- The test passes an entry that is at least as great.
  fits_more : (d e : Entry) → d.longest ≤ e.longest → d.alignments ≤ e.alignments → fits_entry s d ≡ true → fits_entry s e ≡ true
  fits_more d e p q f =
      let parts = and_parts _ _ f in
      rw (
        le-leb s.size e.longest (omega (arith, p, leb-true s.size d.longest parts.0)),
        lt-ltb (trailing_zeros w64 s.alignment) e.alignments (omega (arith, q, ltb-true (trailing_zeros w64 s.alignment) d.alignments parts.1)),
      ) refl

  -- The test of the window is exact.
  pub reach_true : (bs : List Block) → Reaches s bs → reaches s bs ≡ true
  reach_true bs r = rw (le-leb s.low (end_of bs) r.low, le-leb (start_of bs) s.high r.high) refl

  pub true_reach : (bs : List Block) → reaches s bs ≡ true → Reaches s bs
  true_reach bs e = let p = and_parts _ _ e in record { low = leb-true s.low (end_of bs) p.0; high = leb-true (start_of bs) s.high p.1 }

-- ---- The laws
module _ (s : Search) (v : IsSearch s) where
  three : (before xs after : List (List Block)) → AreRun (before ++ (xs ++ after)) → IsRun (blocks_of before ++ (blocks_of xs ++ blocks_of after))
  three before xs after r = subst IsRun (blocks_new before xs after) r.run

  have_middle : (before xs after : List (List Block)) → AreRun (before ++ (xs ++ after)) → HaveBlocks xs
  have_middle before xs after r = have_left xs after (have_right before (xs ++ after) r.some)

  part : (before xs after : List (List Block)) → 0 < length xs → AreRun (before ++ (xs ++ after)) → AreRun xs
  part before xs after l r =
      let h = have_middle before xs after r in
      record { run = middle_run (blocks_of before) (blocks_of xs) (blocks_of after) (three before xs after r) (some_blocks xs h l); some = h }

  reach : (before xs after : List (List Block)) → 0 < length xs → AreRun (before ++ (xs ++ after)) → reaches s (blocks_of (before ++ (xs ++ after))) ≡ true
      → (0 < length before → (leaves_entry blocks_entry xs).at ≤ s.high) → (0 < length after → s.low < (leaves_entry blocks_entry after).at)
      → reaches s (blocks_of xs) ≡ true
  reach before xs after l r t f g =
      let w = true_reach s (blocks_of (before ++ (xs ++ after))) t in
      let h = have_middle before xs after r in
      let m = some_blocks xs h l in
      let b = have_right xs after (have_right before (xs ++ after) r.some) in
      let e = blocks_new before xs after in
      reach_true s (blocks_of xs) (record {
        low = middle_upto (blocks_of before) (blocks_of xs) (blocks_of after) s.low (three before xs after r) m (omega (arith, w.low, ap end_of e))
            (λ k. omega (arith, g (some_leaves after k), leaves_start after b (some_leaves after k)));
        high = middle_from (blocks_of before) (blocks_of xs) (blocks_of after) s.high m (omega (arith, w.high, ap start_of e))
            (λ k. omega (arith, f (some_leaves before k), leaves_start xs h l));
      })

  order : (bs : List Block) → IsRun bs → start_of bs ≤ end_of bs
  order bs run = omega (arith, start_of_run bs run, end_of_run bs run, run.range.0)

  inside : (before after : List (List Block)) → 0 < length before → 0 < length after → AreRun (before ++ after)
      → s.low < (leaves_entry blocks_entry after).at → (leaves_entry blocks_entry after).at ≤ s.high → reaches s (blocks_of (before ++ after)) ≡ true
  inside before after l k r f g =
      let a = some_blocks before (have_left before after r.some) l in
      let b = have_right before after r.some in
      let c = some_blocks after b k in
      let run = subst IsRun (blocks_append before after) r.run in
      let e = blocks_append before after in
      let x = leaves_start after b k in
      let y = end_left (blocks_of before) (blocks_of after) run a c in
      let z = order (blocks_of before) (cover_left (blocks_of before) (blocks_of after) run a) in
      let w = order (blocks_of after) (cover_right (blocks_of before) (blocks_of after) run a c) in
      reach_true s (blocks_of (before ++ after)) (record {
        low = omega (arith, f, x, w, ap end_of e, end_append (blocks_of before) (blocks_of after) c);
        high = omega (arith, g, x, y, z, ap start_of e, start_append (blocks_of before) (blocks_of after) a);
      })

  below : (xs after : List (List Block)) → 0 < length after → AreRun (xs ++ after) → (leaves_entry blocks_entry after).at ≤ s.low → AllOf (HasNoPlace s) xs
  below [] after l r p = tt
  below (x ∷ xs) after l r p =
      let b = have_right (x ∷ xs) after r.some in
      let m = some_blocks (x ∷ xs) (have_left (x ∷ xs) after r.some) (omega arith) in
      let n = some_blocks after b l in
      let run = subst IsRun (blocks_append (x ∷ xs) after) r.run in
      let own = cover_left (blocks_of (x ∷ xs)) (blocks_of after) run m in
      split_none s (x ∷ xs)
      (none_below (window_of s) s.size s.alignment Allocated own.lo own.hi (blocks_of (x ∷ xs)) v.some own.tiles
      (omega (arith, end_of_run (blocks_of (x ∷ xs)) own, end_left (blocks_of (x ∷ xs)) (blocks_of after) run m n, leaves_start after b l, p)))

  above_run : (before xs : List (List Block)) → 0 < length xs → AreRun (before ++ xs) → IsRun (blocks_of xs)
  above_run [] xs l r = r.run
  above_run (x ∷ before) xs l r =
      cover_right (blocks_of (x ∷ before)) (blocks_of xs) (subst IsRun (blocks_append (x ∷ before) xs) r.run)
      (some_blocks (x ∷ before) (have_left (x ∷ before) xs r.some) (omega arith)) (some_blocks xs (have_right (x ∷ before) xs r.some) l)

  above : (before xs : List (List Block)) → 0 < length xs → AreRun (before ++ xs) → s.high < (leaves_entry blocks_entry xs).at → AllOf (HasNoPlace s) xs
  above before xs l r p =
      let own = above_run before xs l r in
      split_none s xs
      (none_above (window_of s) s.size s.alignment Allocated own.lo own.hi (blocks_of xs) v.some own.tiles
      (omega (arith, start_of_run (blocks_of xs) own, leaves_start xs (have_right before xs r.some) l, p)))

  own_some : (xs : List (List Block)) → AreRun xs → 0 < length xs
  own_some xs r = some_leaves xs r.run.some

  excluded : (xs : List (List Block)) → AreRun xs → fits_entry s (leaves_entry blocks_entry xs) ≡ false → AllOf (HasNoPlace s) xs
  excluded xs r f =
      split_none s xs
      (none_if_passed (window_of s) s.size s.alignment (blocks_of xs) v.some v.aligned
      (sym (ap (fits_entry s) (leaves_view xs r.some (own_some xs r)) ∙ fits_is s (blocks_of xs) v) ∙ f))

  wider : (before xs after : List (List Block)) → fits_entry s (leaves_entry blocks_entry xs) ≡ true
      → fits_entry s (leaves_entry blocks_entry (before ++ (xs ++ after))) ≡ true
  wider before xs after f =
      let a = parts_entry before (xs ++ after) in
      let b = parts_entry xs after in
      fits_more s (leaves_entry blocks_entry xs) (leaves_entry blocks_entry (before ++ (xs ++ after))) (omega (arith, a.0, b.0)) (omega (arith, a.1, b.1)) f

  weighs : (k : Bool) (xs : List (List Block)) → AreRun xs → reaches s (blocks_of xs) ≡ true → fits_entry s (leaves_entry blocks_entry xs) ≡ true
      → AllOf (HasNoPlace s) xs → 1 ≤ total (weight_in k s) xs
  weighs k xs r w f none =
      omega (
        arith,
        total_weight s k xs,
        weight_some k s (blocks_of xs) v r.run (true_reach s (blocks_of xs) w) (sym (ap (fits_entry s) (leaves_view xs r.some (own_some xs r)) ∙ fits_is s (blocks_of xs) v) ∙ f) (join_none s xs none),
      )

  pub lawful : (end : End) → IsSeeking blocks_entry (seeking end s)
  lawful end = record {
    ascend = λ xs r. (ascend_tiles Allocated r.run.lo r.run.hi xs r.run.tiles r.some).1;
    part = part;
    reach = reach;
    inside = inside;
    below = below;
    above = above;
    excluded = excluded;
    wider = wider;
    weighs = weighs;
  }

pub lawful_valid : (end : End) (s : Search) → IsValid s → IsSeeking blocks_entry (seeking end s)
lawful_valid end s v = lawful s (is_search s v) end
