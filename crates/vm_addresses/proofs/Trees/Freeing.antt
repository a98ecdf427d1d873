-- From the blocks that a free leaves to the result of the call.
use Rattle.std.proofs.Common.{◌≡◌, ℕ, suc, ◌+◌, ◌-◌, List, [], ◌∷◌, ◌++◌, length, refl, sym, ap, ◌∙◌, arith, inl, inr, ◌⊎◌, ⊎_elim, subst, append_assoc, Ok, Err, cond, eqb, true, false}
use Rattle.std.specs.List.{Contains}
use Rattle.vm_ranges.specs.Range.{Range, IsIn}
use Rattle.vm_ranges.specs.declared.error.Error.TheVariants.{ResourceNotAvailable}
use Rattle.vm_ranges.specs.declared.state.NodeState.{NodeState}
use Rattle.vm_ranges.specs.declared.state.NodeState.TheVariants.{Free, Allocated}
use Rattle.vm_leaf.specs.declared.block.Block.{Block}
use Rattle.vm_leaf.specs.Block.{held_block}
use Rattle.vm_leaf.specs.Blocks.{NotBothFree, nth, freed_between, freed_on, with_free}
use Rattle.vm_space.specs.Frees.{FreesBlock, Holds}
use Rattle.vm_space.proofs.Frees.{freed_under}
use Rattle.vm_space.proofs.Lists.{cut_last}
use Rattle.vm_ranges.specs.Address.{releasing, without_range}
use Rattle.vm_ranges.specs.Answer.{Frees}
use Rattle.vm_leaf.specs.SpaceBlocks.{held_of, blocks_state, TilesSpace, IsBlocksOf, AreBelowMax}
use Rattle.vm_ranges.proofs.PlainWords.{IsHeld, contains_held, held_contains}
use Rattle.vm_leaf.proofs.Spaces.Gaps.{state_cases}
use Rattle.vm_addresses.proofs.Trees.Joining.{EndsHeld, blocks_freed, blocks_freed_before, held_or_later, is_held, IsHeldBlock}
use Rattle.vm_addresses.proofs.Placing.TakenRanges.{as_blocks}
use Rattle.vm_addresses.specs.Allocator.{space_of, state_of, IsSpaceTree}
use Rattle.vm_space.specs.Shape.{Shape, blocks}
use Rattle.vm_addresses.proofs.Blocks.HeldSets.{held_lies}
use Rattle.vm_addresses.proofs.Trees.CountedTrees.{FreesOne}
use Rattle.vm_addresses.proofs.Trees.Spaces.{state_of_tree}

-- ---- A list that ends with a held block
ends_held : (p : NodeState) (xs : List Block) (x : Block) → x.state ≡ Allocated → EndsHeld p (xs ++ x ∷ [])
ends_held p [] x e = subst (λ (s : NodeState). NotBothFree s Free) (sym e) tt
ends_held p (y ∷ xs) x e = ends_held y.state xs x e

-- ---- A freed block
-- A block after a gap: it is freed from the start of the gap on, which is dropped.
freed_gap_before : (m : List Block) (g : Block) (us : List Block) (k : Range) → g.state ≡ Free
    → m ++ with_free (record { start = g.key.start; end = k.end }) us ≡ freed_between (m ++ g ∷ []) k us
freed_gap_before m g us k e =
    ap (λ (z : List Block). m ++ z) (sym (ap (λ (s : NodeState). freed_on s g k us) e)) ∙ sym (freed_under m (g ∷ []) us k (omega arith))

-- A block after a held block.
freed_held_before : (m : List Block) (g : Block) (us : List Block) (k : Range) → g.state ≡ Allocated →
    (m ++ g ∷ []) ++ with_free k us ≡ freed_between (m ++ g ∷ []) k us
freed_held_before m g us k e =
    append_assoc m (g ∷ []) (with_free k us) ∙ ap (λ (z : List Block). m ++ z) (sym (ap (λ (s : NodeState). freed_on s g k us) e))
    ∙ sym (freed_under m (g ∷ []) us k (omega arith))

module _ (sp : Range) (old : List Block) (tiles : TilesSpace sp old) (k : Range) where
  freed_first : (us : List Block) → old ≡ held_block k ∷ us → IsBlocksOf (releasing k (blocks_state sp old)) (with_free k us)
  freed_first us e = blocks_freed (blocks_state sp old) old [] us (held_block k) (as_blocks sp old tiles) e refl tt

  freed_later : (xs : List Block) (x : Block) (us : List Block) → old ≡ (xs ++ x ∷ []) ++ held_block k ∷ us →
      IsBlocksOf (releasing k (blocks_state sp old)) (freed_between (xs ++ x ∷ []) k us)
  freed_later xs x us e =
      ⊎_elim
      (λ (f : x.state ≡ Free).
      subst (λ (v : List Block). IsBlocksOf (releasing k (blocks_state sp old)) v) (freed_gap_before xs x us k f)
      (blocks_freed_before (blocks_state sp old) old xs us x (held_block k) (as_blocks sp old tiles)
      (e ∙ append_one xs x (held_block k ∷ us)) f refl))
      (λ (f : x.state ≡ Allocated).
      subst (λ (v : List Block). IsBlocksOf (releasing k (blocks_state sp old)) v) (freed_held_before xs x us k f)
      (blocks_freed (blocks_state sp old) old (xs ++ x ∷ []) us (held_block k) (as_blocks sp old tiles) e refl
      (ends_held Allocated xs x f)))
      (state_cases x.state)
    where
      append_one : (xs : List Block) (x : Block) (ys : List Block) → (xs ++ x ∷ []) ++ ys ≡ xs ++ x ∷ ys
      append_one [] x ys = refl
      append_one (y ∷ xs) x ys = ap (λ (v : List Block). y ∷ v) (append_one xs x ys)

  freed_cut : (lower us : List Block) → old ≡ lower ++ held_block k ∷ us →
      IsBlocksOf (releasing k (blocks_state sp old)) (freed_between lower k us)
  freed_cut [] us e = freed_first us e
  freed_cut (y ∷ ys) us e =
      let c = cut_last (y ∷ ys) (omega arith) in
      let xs = Rattle.std.proofs.Common.take (length (y ∷ ys) - 1) (y ∷ ys) in
      let x = nth (y ∷ ys) (length (y ∷ ys) - 1) in
      subst (λ (v : List Block). IsBlocksOf (releasing k (blocks_state sp old)) (freed_between v k us)) (sym c)
      (freed_later xs x us (e ∙ ap (λ (v : List Block). v ++ held_block k ∷ us) c))

  pub freed_blocks : (new : List Block) → FreesBlock k old new → IsBlocksOf (releasing k (blocks_state sp old)) new
  freed_blocks new h = subst (λ (v : List Block). IsBlocksOf (releasing k (blocks_state sp old)) v) (sym h.after)
      (freed_cut h.lower h.upper h.before)

  was_held : (new : List Block) → FreesBlock k old new → IsHeld (held_of old) k
  unfolding IsHeldBlock
  was_held new h = subst (λ (v : List Block). IsHeld (held_of v) k) (sym h.before) (is_held k (held_block k) h.lower h.upper (refl, refl))

  pub frees : (new : List Block) → FreesBlock k old new → Frees (blocks_state sp old) k (Ok tt) (blocks_state sp new)
  unfolding Frees
  frees new h = inl (
    contains_held (held_of old) k (was_held new h),
    (refl, ap (λ (v : List Range). record { space = sp; held = v }) (freed_blocks new h).held),
  )

-- ---- A range that no block holds
pub found_at : (r : Range) (bs : List Block) → IsHeld (held_of bs) r → Holds r bs
unfolding IsHeldBlock
found_at r [] h = absurd h
found_at r (b ∷ bs) h =
    ⊎_elim
    (λ (i : IsHeldBlock r b). record { index = 0; within = omega arith; found = held_is b i.0 i.1 })
    (λ (i : IsHeld (held_of bs) r). let f = found_at r bs i in record
    { index = suc f.index; within = omega (arith, f.within); found = f.found })
    (held_or_later r b bs h)
  where
    held_is : (b : Block) → b.key ≡ r → b.state ≡ Allocated → b ≡ held_block r
    held_is b p q = ap (λ (v : Range). record { key = v; state = b.state }) p ∙ ap (λ (s : NodeState). record { key = r; state = s }) q

pub not_freed : (sp : Range) (bs : List Block) (r : Range) → (Holds r bs → ⊥) →
    Frees (blocks_state sp bs) r (Err ResourceNotAvailable) (blocks_state sp bs)
unfolding Frees
not_freed sp bs r n = inr (λ c. n (found_at r bs (held_contains (held_of bs) r c)), (refl, refl))

-- ---- The call
below_without : (r : Range) (hs : List Range) → AreBelowMax hs → AreBelowMax (without_range r hs)
below_without r [] h = tt
below_without r (x ∷ xs) h = elim (eqb r.start x.start) as (λ v. AreBelowMax (cond v xs (x ∷ without_range r xs)))
    [ true ↦ h.1 | false ↦ (h.0, below_without r xs h.1) ]

module _ (s n : Shape) (k : Range) (joined : ℕ) (h : IsSpaceTree s) (f : FreesBlock k (blocks s) (blocks n))
    (l : length (blocks s) ≡ length (blocks n) + joined) where
  pub frees_one : FreesOne s n k joined
  frees_one = record {
    held = contains_held (held_of (blocks s)) k (was_held (space_of (blocks s)) (blocks s) h.tiling.tiles k (blocks n) f);
    is = freed_blocks (space_of (blocks s)) (blocks s) h.tiling.tiles k (blocks n) f;
    below = below_without k (held_of (blocks s)) h.tiling.below;
    less = l;
  }

-- A range that starts outside the space is not held.
pub not_outside : (s : Shape) (k : Range) → IsSpaceTree s → (IsIn (space_of (blocks s)) k.start → ⊥) →
    Frees (state_of s) k (Err ResourceNotAvailable) (state_of s)
unfolding Frees
not_outside s k h out =
    let sp = space_of (blocks s) in
    inr (
      λ c. let l = held_lies sp.start sp.end (held_of (blocks s)) k (state_of_tree s h).in_order (held_contains (held_of (blocks s)) k c)
          in out (omega (arith, l.0), omega (arith, l.1, l.2)),
      (refl, refl),
    )

pub frees_held : (s n : Shape) (k : Range) → Contains (held_of (blocks s)) k → state_of n ≡ releasing k (state_of s) →
    Frees (state_of s) k (Ok tt) (state_of n)
unfolding Frees
frees_held s n k c e = inl (c, (refl, e))

pub ruleset freeing = (not_freed, not_outside, frees_one, frees_held)
