-- A range that is freed inside its leaf, in a tree.
use Rattle.std.specs.Prelude.{◌⊎◌}
use Rattle.std.proofs.Common.{◌≡◌, ℕ, ◌+◌, ◌<◌, ◌≤◌, List, [], ◌∷◌, ◌++◌, length, Bool, true, false, refl, ap, ◌∙◌, sym, subst, arith, inl, inr, append_assoc, length-append}
use Rattle.vm_ranges.specs.Range.{Range}
use Rattle.vm_leaf.specs.declared.block.Block.{Block}
use Rattle.vm_leaf.specs.Block.{held_block}
use Rattle.vm_leaf.specs.Blocks.{IsRun}
use Rattle.vm_leaf.specs.Entries.{blocks_entry, HasEnough, AreNext, JoinsTo}
use Rattle.std.proofs.lemmas.List.{append-nil}
use Rattle.vm_tree.specs.Subtree.{Subtree, AllOf}
use Rattle.vm_tree.specs.Mends.{IsRegrouped}
use Rattle.vm_tree.specs.Shrinks.{Meet, MeetsAfter}
use Rattle.vm_tree.specs.Lowers.{IsTreeCut}
use Rattle.vm_space.specs.Leaves.{blocks_of, HaveBlocks}
use Rattle.vm_space.specs.Spaces.{AreSpace}
use Rattle.vm_space.specs.Frees.{FreesBlock, FreesIn, IsFreed, RefusesInside, DoneInside, CutAfter}
use Rattle.vm_space.specs.Edges.{BecomesOne}
use Rattle.vm_space.specs.declared.free.Freeing.{Freeing}
use Rattle.vm_space.specs.declared.free.Freeing.TheVariants.{Absent, AtEdge, Done}
use Rattle.vm_space.specs.declared.free.FreeInside.{FreeInside}
use Rattle.vm_space.proofs.Lists.{cover_left, cover_right}
use Rattle.vm_space.proofs.Spaces.{blocks_append, blocks_cut, have_append, have_left, have_right}
use Rattle.vm_space.proofs.Freed.{freed_space}
use Rattle.vm_space.proofs.Frees.{freed_over, freed_under}

-- Leaves that cover a range meet.
run_meets : (ls : List (List Block)) → IsRun (blocks_of ls) → HaveBlocks ls → Meet AreNext ls
run_meets [] h a = tt
run_meets (x ∷ []) h a = tt
run_meets (x ∷ y ∷ ls) h a =
    let n = length-append x y in
    let m = length-append y (blocks_of ls) in (
      cover_left (x ++ y) (blocks_of ls) (subst IsRun (sym (append_assoc x y (blocks_of ls))) h) (omega (arith, a.0)),
      run_meets (y ∷ ls) (cover_right x (y ++ blocks_of ls) h a.0 (omega (arith, a.1.0))) a.1,
    )

-- Leaves that share their blocks in another way have the same blocks.
module _ (low high : List Block) (after : List (List Block)) (a : 0 < length low) where
  same_blocks : (ls : List (List Block)) → JoinsTo low high ls → blocks_of (ls ++ after) ≡ blocks_of (low ∷ high ∷ after)
  same_blocks [] h = absurd h
  same_blocks (x ∷ []) h = ap (λ (z : List Block). z ++ blocks_of after) h ∙ append_assoc low high (blocks_of after)
  same_blocks (x ∷ y ∷ []) h =
      sym (append_assoc x y (blocks_of after)) ∙ ap (λ (z : List Block). z ++ blocks_of after) h.0 ∙ append_assoc low high (blocks_of after)
  same_blocks (x ∷ y ∷ z ∷ ls) h = absurd h

  same_have : (ls : List (List Block)) → JoinsTo low high ls → HaveBlocks after → HaveBlocks (ls ++ after)
  same_have [] h b = absurd h
  same_have (x ∷ []) h b = (omega (arith, ap length h, length-append low high), b)
  same_have (x ∷ y ∷ []) h b = (h.1, (h.2, b))
  same_have (x ∷ y ∷ z ∷ ls) h b = absurd h

regrouped_have : (mid new : List (List Block)) → IsRegrouped JoinsTo mid new → HaveBlocks mid → HaveBlocks new
regrouped_have mid new r h =
    elim r [
      | inl e ↦ subst HaveBlocks (sym e) h
      | inr j ↦ (
          let k = subst HaveBlocks j.was h in
          let b = have_right j.before (j.low ∷ j.high ∷ j.after) k in
          subst HaveBlocks (sym j.is)
          (have_append j.before (j.leaves ++ j.after) (have_left j.before (j.low ∷ j.high ∷ j.after) k)
          (same_have j.low j.high j.after b.0 j.leaves j.joined b.1.1))
          )
    ]

regrouped_blocks : (mid new : List (List Block)) → IsRegrouped JoinsTo mid new → HaveBlocks mid → blocks_of new ≡ blocks_of mid
regrouped_blocks mid new r h =
    elim r [
      | inl e ↦ ap blocks_of e
      | inr j ↦ (
          let k = subst HaveBlocks j.was h in
          let b = have_right j.before (j.low ∷ j.high ∷ j.after) k in
          ap blocks_of j.is ∙ blocks_append j.before (j.leaves ++ j.after)
          ∙ ap (λ (z : List Block). blocks_of j.before ++ z) (same_blocks j.low j.high j.after b.0 j.leaves j.joined)
          ∙ sym (blocks_append j.before (j.low ∷ j.high ∷ j.after)) ∙ ap blocks_of (sym j.was)
          )
    ]

-- A range was freed, and then two leaves shared their blocks in another way: the range is freed all the same.
pub freed_regrouped : (k : Range) (joined : ℕ) (old mid new : List (List Block)) → IsFreed k joined old mid → IsRegrouped JoinsTo mid new
    → IsFreed k joined old new
freed_regrouped k joined old mid new h r =
    let e = regrouped_blocks mid new r h.some in
    record {
      frees = subst (FreesBlock k (blocks_of old)) (sym e) h.frees;
      some = regrouped_have mid new r h.some;
      loss = h.loss ∙ ap (λ (z : List Block). length z + joined) (sym e);
    }

-- The leaves meet after a range was freed.
pub freed_meets : (k : Range) (joined : ℕ) (old mid : List (List Block)) → AreSpace old → IsFreed k joined old mid → Meet AreNext mid
freed_meets k joined old mid s h = let a = freed_space k joined old mid s h in run_meets mid a.run a.some

-- ---- A range inside a leaf
pub enough_leaf : (before : List (List Block)) (leaf : List Block) (after : List (List Block)) → AllOf HasEnough (before ++ leaf ∷ after) → HasEnough leaf
enough_leaf [] leaf after h = h.0
enough_leaf (x ∷ before) leaf after h = enough_leaf before leaf after h.1

-- A leaf of one block is alone.
alone : (ls before : List (List Block)) (leaf : List Block) (after : List (List Block)) → (2 ≤ length ls → AllOf HasEnough ls)
    → ls ≡ before ++ leaf ∷ after → length leaf ≡ 1 → (before ≡ []) × (after ≡ [])
alone ls [] leaf [] f e l = (refl, refl)
alone ls [] leaf (y ∷ after) f e l =
    absurd (omega (arith, l, (enough_leaf [] leaf (y ∷ after) (subst (AllOf HasEnough) e (f (omega (arith, ap length e))))).0))
alone ls (x ∷ before) leaf after f e l =
    let n = length-append before (leaf ∷ after) in
    absurd (omega (arith, l, (enough_leaf (x ∷ before) leaf after (subst (AllOf HasEnough) e (f (omega (arith, ap length e, n))))).0))

-- Leaves of which one became another.
module _ (before : List (List Block)) (leaf : List Block) (after : List (List Block)) (n : List Block) where
  pub one_loss : (lost : ℕ) → length leaf ≡ length n + lost → length (blocks_of (before ++ leaf ∷ after)) ≡ length (blocks_of (before ++ n ∷ after)) + lost
  one_loss lost e =
      omega (
        arith,
        e,
        ap length (blocks_cut before leaf after),
        ap length (blocks_cut before n after),
        length-append (blocks_of before) (leaf ++ blocks_of after),
        length-append leaf (blocks_of after),
        length-append (blocks_of before) (n ++ blocks_of after),
        length-append n (blocks_of after),
      )

  pub one_have : HaveBlocks (before ++ leaf ∷ after) → 0 < length n → HaveBlocks (before ++ n ∷ after)
  one_have h l = have_append before (n ∷ after) (have_left before (leaf ∷ after) h) (l, (have_right before (leaf ∷ after) h).1)

  -- The only leaf, or a leaf in which the range has neighbours.
  pub inside_frees : (k : Range) (f : FreesBlock k leaf n)
      → ((0 < length f.lower) × (0 < length f.upper)) ⊎ ((before ≡ []) × (after ≡ []))
      → FreesBlock k (blocks_of (before ++ leaf ∷ after)) (blocks_of (before ++ n ∷ after))
  inside_frees k f (inl d) =
      let l = blocks_of before in
      let r = blocks_of after in
      record {
        lower = l ++ f.lower;
        upper = f.upper ++ r;
        before = blocks_cut before leaf after ∙ ap (λ (z : List Block). l ++ (z ++ r)) f.before
            ∙ ap (λ (z : List Block). l ++ z) (append_assoc f.lower (held_block k ∷ f.upper) r) ∙ sym (append_assoc l f.lower (held_block k ∷ (f.upper ++ r)));
        after = blocks_cut before n after ∙ ap (λ (z : List Block). l ++ (z ++ r)) f.after
            ∙ ap (λ (z : List Block). l ++ z) (freed_over f.lower f.upper r k d.1) ∙ sym (freed_under l f.lower (f.upper ++ r) k d.0);
      }
  inside_frees k f (inr d) = rw (d.0, d.1) (record {
    lower = f.lower;
    upper = f.upper;
    before = append-nil leaf ∙ f.before;
    after = append-nil n ∙ f.after;
  })

module _ (k : Range) (old : List (List Block)) (s : AreSpace old) (facts : 2 ≤ length old → AllOf HasEnough old) where
  -- A range was freed inside its leaf.
  inside_freed : (joined : ℕ) (before : List (List Block)) (leaf : List Block) (after : List (List Block)) (n : List Block)
      → old ≡ before ++ leaf ∷ after → FreesIn k joined leaf n → IsFreed k joined old (before ++ n ∷ after)
  inside_freed joined before leaf after n e f =
      let at : ((0 < length f.frees.lower) × (0 < length f.frees.upper)) ⊎ ((before ≡ []) × (after ≡ [])) = elim f.inner [
        | inl d ↦ inl d
        | inr d ↦ inr (alone old before leaf after facts e d)
      ] in
      record {
        frees = subst (λ z. FreesBlock k (blocks_of z) (blocks_of (before ++ n ∷ after))) (sym e) (inside_frees before leaf after n k f.frees at);
        loss = ap (λ z. length (blocks_of z)) e ∙ one_loss before leaf after n joined f.loss;
        some = one_have before leaf after n (subst HaveBlocks e s.some) f.some;
      }

  -- A leaf after a change inside it.
  inside_one : (answer : Freeing) (joined : ℕ) (before : List (List Block)) (leaf : List Block) (after leaves : List (List Block)) → answer ≡ Done joined
      → old ≡ before ++ leaf ∷ after → BecomesOne (DoneInside k answer) leaf leaves → IsFreed k joined old (before ++ (leaves ++ after))
  inside_one answer joined before leaf after leaves a e b =
      subst (λ z. IsFreed k joined old (before ++ (z ++ after))) (sym b.1.0)
      (inside_freed joined before leaf after b.0 e (subst (λ z. DoneInside k z leaf b.0) a b.1.1))

  -- It meets its neighbours.
  pub inside_meets : MeetsAfter blocks_entry AreNext k.start (λ l ls. (e : FreeInside) × BecomesOne (DoneInside k e.answer) l ls) old
  inside_meets before leaf after leaves home h = by_case h.0.answer h.1
    where
      by_case : (answer : Freeing) → BecomesOne (DoneInside k answer) leaf leaves → Meet AreNext (before ++ (leaves ++ after))
      by_case Absent b = absurd b.1.1
      by_case (AtEdge edge) b = absurd b.1.1
      by_case (Done joined) b =
          freed_meets k joined old (before ++ (leaves ++ after)) s (inside_one (Done joined) joined before leaf after leaves refl home.was b)

  -- The tree after the change.
  pub cut_after : (was now : Subtree (List Block)) (answer : Freeing) (done : Bool) → was.leaves ≡ old
      → IsTreeCut blocks_entry JoinsTo k.start (λ l. RefusesInside k l answer) (λ l ls. BecomesOne (DoneInside k answer) l ls) was now done
      → CutAfter k was now answer × (now.height ≤ was.height)
  cut_after was now Absent false e h = ((h.same, h.refused), omega (arith, ap (λ (z : Subtree (List Block)). z.height) h.same))
  cut_after was now (AtEdge edge) false e h =
      let r = h.refused in (
        (h.same, record { before = r.before; leaf = r.leaf; after = r.after; was = r.home.was; here = r.refused }),
        omega (arith, ap (λ (z : Subtree (List Block)). z.height) h.same),
      )
  cut_after was now (Done n) false e h = absurd h.refused.refused
  cut_after was now Absent true e h = absurd h.cut.edited.edit.1.1
  cut_after was now (AtEdge edge) true e h = absurd h.cut.edited.edit.1.1
  cut_after was now (Done n) true e h =
      let d = h.cut.edited in
      let m = inside_one (Done n) n d.before d.leaf d.after d.leaves refl (sym e ∙ d.home.was) d.edit in (
        subst (λ z. IsFreed k n z now.leaves) (sym e) (freed_regrouped k n old h.cut.middle now.leaves (subst (IsFreed k n old) (sym d.is) m) h.cut.regrouped),
        h.height,
      )
