-- Misaligned gaps have no place. At alignment 1 no gap is misaligned.
use Rattle.std.specs.Prelude.{not}
use Rattle.std.proofs.Common.{◌≡◌, ℕ, ◌+◌, ◌-◌, ◌<◌, ◌≤◌, Bool, true, false, leb, List, [], ◌∷◌, length, Option, Some, None, refl, sym, ◌∙◌, arith, ⊎_elim}
use Rattle.std.specs.List.{filter}
use Rattle.std.proofs.Math.Nat.{mod-one}
use Rattle.std.proofs.lemmas.Bool.{and_parts, leb-true, le-leb, lt-ltb, le-ltb, cases_lt, false_from_ne_true}
use Rattle.vm_ranges.specs.Range.{Range}
use Rattle.vm_leaf.specs.declared.block.Block.{Block}
use Rattle.vm_leaf.specs.Block.{free_length, free_block, held_block}
use Rattle.vm_ranges.specs.declared.state.NodeState.{NodeState}
use Rattle.vm_ranges.specs.declared.state.NodeState.TheVariants.{Free, Allocated}
use Rattle.vm_leaf.specs.SpaceBlocks.{blocks_between, gap_before, blocks_of}
use Rattle.vm_leaf.specs.Fit.{HasNoFit}
use Rattle.vm_ranges.specs.Address.{AddressState}
use Rattle.vm_leaf.specs.Windows.{cut_to}
use Rattle.vm_space.specs.NodeCounts.{is_misaligned, on_part}
use Rattle.vm_addresses.specs.Counts.GapSearch.{passing, misaligned_gaps}
use Rattle.vm_laws.specs.AddressLaws.{MisalignedIsExact, NoneIsMisalignedAtOne}
use Rattle.vm_space.specs.NodeCounts.{has_fit}
use Rattle.vm_space.proofs.Weights.{among_append}
use Rattle.vm_space.proofs.SearchedBlocks.{fit_found, no_fit_missed}

-- The number of misaligned gaps in a list of blocks.
abbrev pub misaligned_among : ℕ → ℕ → List Block → ℕ
misaligned_among n a bs = length (filter (is_misaligned n a) bs)

not_true : (t : Bool) → not t ≡ true → t ≡ false
not_true true e = sym e
not_true false e = refl

pub misaligned_is_exact : MisalignedIsExact
unfolding is_misaligned HasNoFit
misaligned_is_exact n a b p = (
  λ e.
      let parts = and_parts (leb n (free_length b)) (not (has_fit n a b)) e in
      (leb-true _ _ parts.0, λ t f. let both : true ≡ false = sym (fit_found n a t b p f) ∙ not_true _ parts.1 in cc),
  λ k. rw (le-leb n (free_length b) k.0, no_fit_missed n a b p k.1) refl,
)

-- ---- At alignment 1
-- A block whose ends are in order has a place at its start, if it is long enough.
free_is_aligned : (n : ℕ) (k : Range) → 0 < n → k.start ≤ k.end → is_misaligned n 1 (free_block k) ≡ false
unfolding HasNoFit
free_is_aligned n k z o = false_from_ne_true (is_misaligned n 1 (free_block k)) (λ e.
    let reported = (misaligned_is_exact n 1 (free_block k) (omega arith)).0 e in
    reported.1 k.start (refl, mod-one k.start, omega arith, omega (arith, reported.0)))

held_is_aligned : (n : ℕ) (k : Range) → 0 < n → is_misaligned n 1 (held_block k) ≡ false
held_is_aligned n k z = false_from_ne_true (is_misaligned n 1 (held_block k)) (λ e.
    let reported = (misaligned_is_exact n 1 (held_block k) (omega arith)).0 e in omega (arith, reported.0))

in_order : (n : ℕ) (k : Range) → 0 < n → k.start ≤ k.end → misaligned_among n 1 (free_block k ∷ []) ≡ 0
in_order n k z o = rw (free_is_aligned n k z o) refl

held_has_none : (n : ℕ) (k : Range) → 0 < n → misaligned_among n 1 (held_block k ∷ []) ≡ 0
held_has_none n k z = rw (held_is_aligned n k z) refl

gap_has_none : (n lo next : ℕ) → 0 < n → misaligned_among n 1 (gap_before lo next) ≡ 0
gap_has_none n lo next z =
    ⊎_elim
    (λ (l : lo < next). rw (lt-ltb lo next l) (in_order n (record { start = lo; end = next - 1 }) z (omega arith)))
    (λ (l : next ≤ lo). rw (le-ltb lo next l) refl)
    (cases_lt lo next)

none_between : (n lo hi : ℕ) (rs : List Range) → 0 < n → misaligned_among n 1 (blocks_between lo rs hi) ≡ 0
none_between n lo hi [] z = gap_has_none n lo (hi + 1) z
none_between n lo hi (r ∷ rs) z =
    let rest = blocks_between (r.end + 1) rs hi in
    omega (
      arith,
      among_append (is_misaligned n 1) (gap_before lo r.start) (held_block r ∷ rest),
      among_append (is_misaligned n 1) (held_block r ∷ []) rest,
      gap_has_none n lo r.start z,
      held_has_none n r z,
      none_between n (r.end + 1) hi rs z,
    )

-- ---- In a window
part_is_aligned : (n : ℕ) (p : NodeState) (k : Range) → 0 < n → k.start ≤ k.end → is_misaligned n 1 (record { key = k; state = p }) ≡ false
part_is_aligned n Free k z o = free_is_aligned n k z o
part_is_aligned n Allocated k z o = held_is_aligned n k z

no_part : (n : ℕ) (w : Range) (b : Block) → 0 < n → on_part w (is_misaligned n 1) b ≡ false
no_part n w b z = false_from_ne_true (on_part w (is_misaligned n 1) b) (λ e.
    let parts = and_parts (leb (cut_to w b).key.start (cut_to w b).key.end) (is_misaligned n 1 (cut_to w b)) e in
    let not : is_misaligned n 1 (cut_to w b) ≡ false = part_is_aligned n b.state (cut_to w b).key z (leb-true _ _ parts.0) in
    let both : true ≡ false = sym parts.1 ∙ not in cc)

none_in_window : (n : ℕ) (w : Range) (bs : List Block) → 0 < n → length (filter (on_part w (is_misaligned n 1)) bs) ≡ 0
none_in_window n w [] z = refl
none_in_window n w (b ∷ bs) z = rw (no_part n w b z) (none_in_window n w bs z)

none_passes : (window : Option Range) (n : ℕ) (state : AddressState) → 0 < n → passing window (is_misaligned n 1) (blocks_of state) ≡ 0
unfolding blocks_of
none_passes None n state z = none_between n state.space.start state.space.end state.held z
none_passes (Some w) n state z = none_in_window n w (blocks_of state) z

pub none_is_misaligned_at_one : NoneIsMisalignedAtOne
unfolding misaligned_gaps
none_is_misaligned_at_one state request z e = rw e (none_passes request.window request.size state z)

pub ruleset misaligned = (misaligned_is_exact, none_is_misaligned_at_one)
