-- The result of a search of a tree, in its space.
use Rattle.std.specs.Prelude.{Some, None, Ok, Err}
use Rattle.std.proofs.Common.{◌≡◌, ℕ, ◌+◌, ◌-◌, ◌*◌, ◌≤◌, ◌<◌, min, Bool, true, false, List, [], ◌∷◌, ◌++◌, ◌∙◌, sym, refl, ap, subst, arith, inl, inr}
use Rattle.std.proofs.lemmas.List.{append-nil}
use Rattle.std.proofs.Math.Nat.{mul-le-mul}
use Rattle.std.specs.declared.alloc.AllocError.{AllocError}
use Rattle.vm_leaf.specs.declared.block.Block.{Block}
use Rattle.std.proofs.lemmas.List.Elements.{All-nil, All-cons}
use Rattle.vm_leaf.specs.Fit.{HasNoFit}
use Rattle.vm_leaf.specs.Entries.{HasEnough}
use Rattle.vm_tree.specs.Edits.{StandsAt}
use Rattle.vm_tree.specs.Subtree.{Subtree}
use Rattle.vm_tree.specs.Seeking.{beyond, total, extra}
use Rattle.vm_tree.specs.Sought.{nodes, AtNearest, IsTreeSought, IsTreeFailed}
use Rattle.vm_tree.specs.declared.end.End.{End}
use Rattle.vm_tree.specs.declared.end.End.TheVariants.{First, Last}
use Rattle.vm_space.specs.Allocation.{ListPlace, window_of, HasNoPlace, IsSearch, IsClosestPlace, SettlesAt, HasNoFitIn}
use Rattle.vm_space.specs.Closest.{weight_in, seeking, reaches}
use Rattle.vm_space.specs.Fitting.{IsFitTree, RefusesClosest, EditsClosest, NeedsClosest, answer_of}
use Rattle.vm_space.specs.Leaves.{blocks_of, HaveBlocks}
use Rattle.vm_space.specs.NodeCounts.{IsSearchCount}
use Rattle.vm_space.specs.Placing.{in_list}
use Rattle.vm_space.specs.Shape.{blocks}
use Rattle.vm_space.specs.Spaces.{AreSpace}
use Rattle.vm_space.specs.declared.fit.Fitting.{Fitting}
use Rattle.vm_space.specs.declared.fit.Fitting.TheVariants as fitting
use Rattle.vm_space.specs.declared.search.Search.{Search}
use Rattle.vm_space.specs.declared.search.Taken.{Taken}
use Rattle.vm_space.specs.declared.search.Refusal.{Refusal}
use Rattle.vm_space.specs.declared.search.Refusal.TheVariants.{NoPlace, OutOfMemory}
use Rattle.vm_space.proofs.Bounds.{vain_bounds, found_bounds, fewer, none_entered}
use Rattle.vm_space.proofs.Searched.{closest_middle}
use Rattle.vm_space.proofs.Seekings.{join_none, total_weight}
use Rattle.vm_space.proofs.Spaces.{blocks_cut, have_right}
use Rattle.vm_space.proofs.Taking.{no_memory}
use Rattle.vm_space.proofs.Weights.{weight-append}

module _ (end : End) (s : Search) (v : IsSearch s) (order : s.low ≤ s.high) (old new : Subtree (List Block)) (space : AreSpace old.leaves) (c d : ℕ) where
  -- The leaf with the place.
  module _ (before : List (List Block)) (leaf : List Block) (after : List (List Block)) (h : StandsAt (AtNearest (seeking end s) c d old) old.leaves before leaf after)
      (p : ListPlace) (x : IsClosestPlace end s leaf p) where
    none : HasNoPlace s (beyond end (blocks_of before) (blocks_of after))
    none = by_end end (join_none s (beyond end before after) h.here.none)
      where
        by_end : (e : End) → HasNoPlace s (blocks_of (beyond e before after)) → HasNoPlace s (beyond e (blocks_of before) (blocks_of after))
        by_end First n = n
        by_end Last n = n

    abbrev whole : ListPlace
    whole = record { lower = blocks_of before ++ p.lower; key = p.key; upper = p.upper ++ blocks_of after; start = p.start }

    closest : IsClosestPlace end s (blocks old) whole
    closest =
        subst (λ z. IsClosestPlace end s z whole) (sym (ap blocks_of h.was ∙ blocks_cut before leaf after))
        (closest_middle end s (blocks_of before) leaf (blocks_of after) p none x)

    -- The leaves passed over weigh at most as much as the blocks beyond the place.
    heavier : (k : Bool) → total (weight_in k s) (beyond end before after) ≤ weight_in k s (beyond end whole.lower whole.upper)
    heavier k = by_end end
      where
        by_end : (e : End) → total (weight_in k s) (beyond e before after) ≤ weight_in k s (beyond e whole.lower whole.upper)
        by_end First = omega (arith, total_weight s k before, weight-append k s (blocks_of before) p.lower)
        by_end Last = omega (arith, total_weight s k after, weight-append k s p.upper (blocks_of after))

    wider : (e h a b : ℕ) → e ≤ h * (a + 1) → a ≤ b → e ≤ h * (b + 1)
    wider e h a b l m = let k : h * (a + 1) ≤ h * (b + 1) = mul-le-mul (omega arith) (omega (arith, m)) in omega arith

    found_count : IsSearchCount (window_of s) s.size s.alignment old.height (nodes old) (blocks old) (d - c)
    found_count =
        let e = h.here.entered in
        fewer (window_of s) s.size s.alignment old.height (nodes old) (blocks old) (d - c) e (omega (arith, h.here.counted.upto))
        (found_bounds s (blocks old) space.run whole v end old.height (nodes old) e closest
        (λ k. wider e old.height (total (weight_in k s) (beyond end before after)) (weight_in k s (beyond end whole.lower whole.upper)) (h.here.weights k) (heavier k))
        h.here.most)

    found_path : min (c + old.height) 18446744073709551615 ≤ d
    found_path = omega (arith, h.here.counted.from, h.here.path)

    have_leaf : HaveBlocks (leaf ∷ [])
    have_leaf = ((have_right before (leaf ∷ after) (subst HaveBlocks h.was space.some)).0, tt)

    same_height : new ≡ old → (old.height ≤ new.height) × (new.height ≤ old.height + 1)
    same_height e = let k = ap (λ (z : Subtree (List Block)). z.height) e in (omega (arith, k), omega (arith, k))

    -- The answer is an error, and the tree is as before.
    stays : (refusal : Refusal) → new ≡ old → SettlesAt s p leaf (Err refusal) → IsFitTree end s old new c d (Err refusal)
    stays refusal e t = record {
      fits = inr (record {
        before = before;
        leaf = leaf;
        after = after;
        leaves = leaf ∷ [];
        was = h.was;
        is = ap (λ (z : Subtree (List Block)). z.leaves) e ∙ h.was;
        none = none;
        some = have_leaf;
        place = p;
        closest = x;
        settles = subst (λ z. SettlesAt s p z (Err refusal)) (sym (append-nil leaf)) t;
      });
      unchanged = e;
      height = same_height e;
      count = found_count;
      path = λ _. found_path;
    }

    -- The place was allocated.
    goes : (taken : Taken) (leaves : List (List Block)) → new.leaves ≡ before ++ (leaves ++ after) → old.height ≤ new.height → new.height ≤ old.height + 1
        → HaveBlocks leaves → SettlesAt s p (blocks_of leaves) (Ok taken) → IsFitTree end s old new c d (Ok taken)
    goes taken leaves is l u some t = record {
      fits = inr (record {
        before = before;
        leaf = leaf;
        after = after;
        leaves = leaves;
        was = h.was;
        is = is;
        none = none;
        some = some;
        place = p;
        closest = x;
        settles = t;
      });
      unchanged = tt;
      height = (l, u);
      count = found_count;
      path = λ _. found_path;
    }

  module _ (f : Fitting) where
    -- The leaf with the place refused, or it has changed.
    pub fit_found : (done : Bool)
        → IsTreeSought HasEnough (seeking end s) c d (λ l. RefusesClosest end s l f) (λ l ls. EditsClosest end s l f ls) old new (Some done)
        → IsFitTree end s old new c d (answer_of f)
    fit_found false h = kept f h.refused.refused
      where
        kept : (g : Fitting) → RefusesClosest end s h.refused.leaf g → IsFitTree end s old new c d (answer_of g)
        kept fitting.Absent r = absurd r
        kept (fitting.Refused refusal) r =
            stays h.refused.before h.refused.leaf h.refused.after h.refused.home r.0 r.1 refusal h.same r.2
        kept (fitting.Full place) r = absurd r
        kept (fitting.Taken taken) r = absurd r
    fit_found true h = edited f h.edited.edit
      where
        edited : (g : Fitting) → EditsClosest end s h.edited.leaf g h.edited.leaves → IsFitTree end s old new c d (answer_of g)
        edited fitting.Absent r = absurd r
        edited (fitting.Refused refusal) r = absurd r
        edited (fitting.Full place) r = absurd r
        edited (fitting.Taken taken) r =
            goes h.edited.before h.edited.leaf h.edited.after h.edited.home r.0.0 r.0.1 taken h.edited.leaves h.edited.is h.height h.higher r.1 r.0.2

    -- No leaf has a place.
    pub fit_absent : IsTreeSought HasEnough (seeking end s) c d (λ l. RefusesClosest end s l f) (λ l ls. EditsClosest end s l f ls) old new None
        → IsFitTree end s old new c d (Err NoPlace)
    fit_absent h =
        let k = ap (λ (z : Subtree (List Block)). z.height) h.same in
        let e = h.vain.entered in record {
          fits = inl (ap (λ (z : Subtree (List Block)). z.leaves) h.same, join_none s old.leaves h.vain.none, refl);
          unchanged = h.same;
          height = (omega (arith, k), omega (arith, k));
          count = fewer (window_of s) s.size s.alignment old.height (nodes old) (blocks old) (d - c) e (omega (arith, h.vain.counted.upto))
              (vain_bounds s (blocks old) space.run old.height (nodes old) e order
              (λ k. subst (λ w. e ≤ old.height * (w + extra (reaches s (blocks old)))) (total_weight s k old.leaves) (h.vain.weights k)) h.vain.most);
          path = λ n. absurd (n refl);
        }

  -- There was no memory.
  pub fit_failed : (error : AllocError) → IsTreeFailed HasEnough (seeking end s) c d (λ l. NeedsClosest end s l) old new → IsFitTree end s old new c d (Err (OutOfMemory error))
  fit_failed error h =
      let n = h.refused.refused.1 in
      let p = h.refused.refused.0 in
      stays h.refused.before h.refused.leaf h.refused.after h.refused.home (in_list h.refused.leaf p) n.closest.closest (OutOfMemory error) h.same
      (no_memory s h.refused.leaf p n.closest.fits h.refused.leaf error n.free (omega (arith, n.fits, n.full)))

-- A window without addresses.
no_part : (s : Search) → IsSearch s → s.high < s.low → (b : Block) → HasNoFitIn (window_of s) s.size s.alignment b
unfolding HasNoFit HasNoFitIn
no_part s v o b = λ t f. omega (arith, v.some, o, f.2, f.3)

pub no_parts : (s : Search) → IsSearch s → s.high < s.low → (bs : List Block) → HasNoPlace s bs
no_parts s v o [] = All-nil (HasNoFitIn (window_of s) s.size s.alignment)
no_parts s v o (b ∷ bs) = All-cons (HasNoFitIn (window_of s) s.size s.alignment) b bs (no_part s v o b) (no_parts s v o bs)

pub fit_nowhere : (end : End) (s : Search) → IsSearch s → s.high < s.low → (old : Subtree (List Block)) (c : ℕ) → IsFitTree end s old old c c (Err NoPlace)
fit_nowhere end s v o old c = record {
  fits = inl (refl, no_parts s v o (blocks old), refl);
  unchanged = refl;
  height = (omega arith, omega arith);
  count = fewer (window_of s) s.size s.alignment old.height (nodes old) (blocks old) (c - c) 0 (omega arith)
      (none_entered (window_of s) s.size s.alignment old.height (nodes old) (blocks old));
  path = λ n. absurd (n refl);
}
