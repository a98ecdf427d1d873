-- The gaps of a leaf by its mask.
use Rattle.std.proofs.Common.{◌≡◌, ℕ, ◌-◌, ◌%◌, ◌^◌, ◌<◌, ◌≤◌, List, length, Option, Some, None, ap, ◌∙◌, sym, arith, pow_mono}
use Rattle.std.specs.Prelude.{MatchOption}
use Rattle.vm_ranges.specs.declared.state.NodeState.{NodeState}
use Rattle.vm_ranges.specs.declared.state.NodeState.TheVariants.{Free, Allocated}
use Rattle.vm_leaf.specs.Block.{Block}
use Rattle.vm_leaf.specs.Blocks.{nth}
use Rattle.vm_leaf.specs.Leaf.{encoded_blocks, IsInside}
use Rattle.vm_leaf.specs.States.{states_in}
use Rattle.vm_leaf.specs.declared.leaf.Leaf.TheInside.{Inside}
use Rattle.vm_leaf.specs.GapMasks.{AreGapsFrom}
use Rattle.vm_leaf.proofs.Fields.{length_of, state_is}
use Rattle.vm_leaf.proofs.GapMasks.{gaps_from}
use Rattle.vm_leaf.specs.declared.leaf.TheConstants.{CAPACITY, CUTS}

-- No state is both free and held.
not_both : (s : NodeState) → s ≡ Free → s ≡ Allocated → ⊥
not_both s e f = cc

-- The result of `gap_before` for a mask, and that of `last_gap` for a list.
abbrev pub FindsBefore : (ℕ → NodeState) → ℕ → Option ℕ → Type 0
FindsBefore st upto r =
    MatchOption r ((k : ℕ) → k < upto → st k ≡ Allocated)
    (λ i. (i < upto) × (st i ≡ Free) × ((k : ℕ) → i < k → k < upto → st k ≡ Allocated))

-- The result of `gap_before` is the same for states that agree below `upto`.
same_finds : (st su : ℕ → NodeState) (upto : ℕ) → ((k : ℕ) → k < upto → su k ≡ st k) → (r : Option ℕ) → FindsBefore st upto r →
    FindsBefore su upto r
same_finds st su upto e None h = λ k l. e k l ∙ h k l
same_finds st su upto e (Some i) h = (h.0, e i h.0 ∙ h.1, λ k l u. e k u ∙ h.2 k l u)

module _ (a : Inside) (bs : List Block) (v : IsInside a) (e : length a.cuts ≡ CUTS) (view : encoded_blocks a ≡ bs) where
  -- The last gap by the mask is the last gap by the blocks.
  pub gap_last : (upto : ℕ) (r : Option ℕ) → upto ≤ length bs → FindsBefore (states_in a.held) upto r →
      FindsBefore (λ k. (nth bs k).state) upto r
  gap_last upto r l h = same_finds (states_in a.held) (λ k. (nth bs k).state) upto (λ k u. sym (state_is a bs k v e view (omega arith))) r h

  -- The inverted mask has the gaps of the leaf.
  pub gap_mask : (x : ℕ) → x ≡ (18446744073709551615 - a.held) % 2 ^ a.len → AreGapsFrom 0 bs x
  gap_mask x q =
      let n : length bs ≡ a.len = ap length (sym view) ∙ length_of a v e in
      let long : length bs ≤ CAPACITY = omega (arith, v.fits) in
      let up : 2 ^ length bs ≤ 2 ^ CAPACITY = pow_mono long in
      let mask : a.held < 2 ^ length bs = rw n v.mask in
      gaps_from bs a.held x long mask (omega arith) (λ k l. sym (state_is a bs k v e view l)) (rw n q)
