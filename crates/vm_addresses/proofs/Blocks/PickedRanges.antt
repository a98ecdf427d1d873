-- The ranges of the blocks in one state, for held ranges and gaps.
use Rattle.std.proofs.Common.{◌≡◌, ℕ, ◌+◌, ◌<◌, ◌⊎◌, true, false, cond, List, [], ◌∷◌, Some, None, refl, sym, ap, ◌∙◌, arith, inl, inr, ⊎_elim, subst}
use Rattle.vm_ranges.specs.Range.{Range, IsIn, at_address}
use Rattle.vm_ranges.specs.RangeOrder.{covers}
use Rattle.vm_leaf.specs.declared.block.Block.{Block}
use Rattle.vm_leaf.specs.SpaceBlocks.{held_of}
use Rattle.vm_space.specs.Lookups.{find_superset}
use Rattle.vm_addresses.specs.Queries.{free_of, IsRangeAt, meeting}
use Rattle.vm_space.specs.Walks.{meets, meeting_blocks}
use Rattle.vm_ranges.specs.declared.state.NodeState.{NodeState}
use Rattle.vm_ranges.specs.declared.state.NodeState.TheVariants.{Free, Allocated}
use Rattle.vm_leaf.proofs.Spaces.Gaps.{state_cases}
use Rattle.vm_leaf.proofs.Spaces.OneList.{held_of-free, held_of-held}
use Rattle.vm_ranges.proofs.PlainWords.{IsHeldAddress, IsHeld, contains_held, all_miss}
use Rattle.vm_addresses.proofs.Blocks.BlockOrder.{some_same, covers_in, in_covers, IsOrderedFrom}
use Rattle.vm_addresses.proofs.Walking.GapsInTrees.{free_of-free, free_of-held}

-- The ranges of a list of blocks are those of the blocks in the state `kept`, in order.
pub record Picks (kept : NodeState) (ranges : List Block → List Range) : Type 0 where
  pub none : ranges [] ≡ []
  pub first : (b : Block) (bs : List Block) → b.state ≡ kept → ranges (b ∷ bs) ≡ b.key ∷ ranges bs
  pub other : (b : Block) (bs : List Block) → ¬ (b.state ≡ kept) → ranges (b ∷ bs) ≡ ranges bs

pub held_picked : Picks Allocated held_of
held_picked = record {
  none = refl;
  first = held_of-held;
  other = λ b bs n. ⊎_elim (λ (e : b.state ≡ Free). held_of-free b bs e) (λ (e : b.state ≡ Allocated). absurd (n e)) (state_cases b.state);
}

pub free_picked : Picks Free free_of
free_picked = record {
  none = refl;
  first = free_of-free;
  other = λ b bs n. ⊎_elim (λ (e : b.state ≡ Free). absurd (n e)) (λ (e : b.state ≡ Allocated). free_of-held b bs e) (state_cases b.state);
}

pub same_state : (p q : NodeState) → (p ≡ q) ⊎ ¬ (p ≡ q)
same_state Free Free = inl refl
same_state Free Allocated = inr (λ e. cc)
same_state Allocated Free = inr (λ e. cc)
same_state Allocated Allocated = inl refl

module _ (kept : NodeState) (ranges : List Block → List Range) (picks : Picks kept ranges) where
  -- ---- One block in front of a list
  module _ (b : Block) (bs : List Block) where
    address_cases : (x : ℕ) → IsHeldAddress (ranges (b ∷ bs)) x → ((b.state ≡ kept) × IsIn b.key x) ⊎ IsHeldAddress (ranges bs) x
    address_cases x h =
        ⊎_elim
        (λ (e : b.state ≡ kept).
        let k : IsHeldAddress (b.key ∷ ranges bs) x = subst (λ (v : List Range). IsHeldAddress v x) (picks.first b bs e) h in
        ⊎_elim (λ (i : IsIn b.key x). inl (e, i)) (λ (i : IsHeldAddress (ranges bs) x). inr i) k)
        (λ (n : ¬ (b.state ≡ kept)). inr (subst (λ (v : List Range). IsHeldAddress v x) (picks.other b bs n) h))
        (same_state b.state kept)

    first_listed : b.state ≡ kept → IsHeld (ranges (b ∷ bs)) b.key
    first_listed e = subst (λ (v : List Range). IsHeld v b.key) (sym (picks.first b bs e)) (inl refl)

    later_listed : (r : Range) → IsHeld (ranges bs) r → IsHeld (ranges (b ∷ bs)) r
    later_listed r h =
        ⊎_elim
        (λ (e : b.state ≡ kept). subst (λ (v : List Range). IsHeld v r) (sym (picks.first b bs e)) (inr h))
        (λ (n : ¬ (b.state ≡ kept)). subst (λ (v : List Range). IsHeld v r) (sym (picks.other b bs n)) h)
        (same_state b.state kept)

  none_listed : (x : ℕ) → ¬ IsHeldAddress (ranges []) x
  none_listed x h = subst (λ (v : List Range). IsHeldAddress v x) picks.none h

  -- ---- The block at an address
  -- No range that starts above an address contains it.
  none_below : (lo x : ℕ) (bs : List Block) → IsOrderedFrom lo bs → x < lo → ¬ IsHeldAddress (ranges bs) x
  none_below lo x [] o l h = none_listed x h
  none_below lo x (b ∷ bs) o l h =
      ⊎_elim
      (λ (i : (b.state ≡ kept) × IsIn b.key x). omega (arith, i.1.0, o.0))
      (λ (i : IsHeldAddress (ranges bs) x). none_below (b.key.end + 1) x bs o.2 (omega (arith, o.0, o.1)) i)
      (address_cases b bs x h)

  -- An address is in no range if it is in no block.
  no_block : (x : ℕ) (bs : List Block) → find_superset (at_address x) bs ≡ None → ¬ IsHeldAddress (ranges bs) x
  no_block x [] e h = none_listed x h
  no_block x (y ∷ bs) e h =
      elim (covers y.key (at_address x)) as
      (λ v. covers y.key (at_address x) ≡ v → cond v (Some y) (find_superset (at_address x) bs) ≡ None → ⊥) [
        | true ↦ λ s f. absurd (cc)
        | false ↦ λ s f.
            ⊎_elim
            (λ (i : (y.state ≡ kept) × IsIn y.key x). let c = in_covers y.key x i.1 in let bad : false ≡ true = sym s ∙ c in absurd (cc))
            (λ (i : IsHeldAddress (ranges bs) x). no_block x bs f i)
            (address_cases y bs x h)
      ] refl e

  -- If an address is in a range, its block has the state `kept`.
  block_kept : (lo x : ℕ) (bs : List Block) (b : Block) → IsOrderedFrom lo bs → find_superset (at_address x) bs ≡ Some b →
      IsHeldAddress (ranges bs) x → b.state ≡ kept
  block_kept lo x [] b o e h = absurd (cc)
  block_kept lo x (y ∷ bs) b o e h =
      elim (covers y.key (at_address x)) as
      (λ v. covers y.key (at_address x) ≡ v → cond v (Some y) (find_superset (at_address x) bs) ≡ Some b → b.state ≡ kept) [
        | true ↦ λ s f.
            let same : y ≡ b = some_same y b f in
            ⊎_elim
            (λ (i : (y.state ≡ kept) × IsIn y.key x). sym (ap (λ (v : Block). v.state) same) ∙ i.0)
            (λ (i : IsHeldAddress (ranges bs) x). absurd (none_below (y.key.end + 1) x bs o.2 (omega (arith, (covers_in y.key x s).1)) i))
            (address_cases y bs x h)
        | false ↦ λ s f.
            ⊎_elim
            (λ (i : (y.state ≡ kept) × IsIn y.key x). let c = in_covers y.key x i.1 in let bad : false ≡ true = sym s ∙ c in absurd (cc))
            (λ (i : IsHeldAddress (ranges bs) x). block_kept (y.key.end + 1) x bs b o.2 f i)
            (address_cases y bs x h)
      ] refl e

  block_listed : (x : ℕ) (bs : List Block) (b : Block) → find_superset (at_address x) bs ≡ Some b → b.state ≡ kept →
      IsHeld (ranges bs) b.key × IsIn b.key x
  block_listed x [] b e k = absurd (cc)
  block_listed x (y ∷ bs) b e k =
      elim (covers y.key (at_address x)) as
      (λ v. covers y.key (at_address x) ≡ v → cond v (Some y) (find_superset (at_address x) bs) ≡ Some b →
      IsHeld (ranges (y ∷ bs)) b.key × IsIn b.key x) [
        | true ↦ λ s f.
            let same : y ≡ b = some_same y b f in
            subst (λ (v : Block). IsHeld (ranges (y ∷ bs)) v.key × IsIn v.key x) same
            (first_listed y bs (ap (λ (v : Block). v.state) same ∙ k), covers_in y.key x s)
        | false ↦ λ s f. let i = block_listed x bs b f k in (later_listed y bs b.key i.0, i.1)
      ] refl e

  -- ---- The range at an address
  pub range_at : (x : ℕ) (bs : List Block) (b : Block) → find_superset (at_address x) bs ≡ Some b → b.state ≡ kept →
      IsRangeAt (ranges bs) x (Some b.key)
  range_at x bs b e k = let i = block_listed x bs b e k in (contains_held (ranges bs) b.key i.0, i.1)

  pub other_at : (lo x : ℕ) (bs : List Block) (b : Block) → IsOrderedFrom lo bs → find_superset (at_address x) bs ≡ Some b →
      ¬ (b.state ≡ kept) → IsRangeAt (ranges bs) x None
  other_at lo x bs b o e n = all_miss (ranges bs) x (λ h. n (block_kept lo x bs b o e h))

  pub none_at : (x : ℕ) (bs : List Block) → find_superset (at_address x) bs ≡ None → IsRangeAt (ranges bs) x None
  none_at x bs e = all_miss (ranges bs) x (no_block x bs e)

  -- ---- The ranges that meet a window
  pub picked_meeting : (w : Range) (bs : List Block) → ranges (meeting_blocks w bs) ≡ meeting w (ranges bs)
  picked_meeting w [] = picks.none ∙ ap (meeting w) (sym picks.none)
  picked_meeting w (b ∷ bs) =
      let rest = picked_meeting w bs in
      ⊎_elim
      (λ (e : b.state ≡ kept).
      elim (meets w b.key) as (λ v. meets w b.key ≡ v → ranges (cond v (b ∷ meeting_blocks w bs) (meeting_blocks w bs)) ≡ meeting w
      (ranges (b ∷ bs))) [
        | true ↦ λ m.
            picks.first b (meeting_blocks w bs) e ∙ ap (λ (v : List Range). b.key ∷ v) rest
            ∙ sym (ap (meeting w) (picks.first b bs e) ∙ rw m refl)
        | false ↦ λ m. rest ∙ sym (ap (meeting w) (picks.first b bs e) ∙ rw m refl)
      ] refl)
      (λ (n : ¬ (b.state ≡ kept)).
      elim (meets w b.key) as (λ v. ranges (cond v (b ∷ meeting_blocks w bs) (meeting_blocks w bs)) ≡ meeting w (ranges (b ∷ bs))) [
        | true ↦ picks.other b (meeting_blocks w bs) n ∙ rest ∙ sym (ap (meeting w) (picks.other b bs n))
        | false ↦ rest ∙ sym (ap (meeting w) (picks.other b bs n))
      ])
      (same_state b.state kept)
