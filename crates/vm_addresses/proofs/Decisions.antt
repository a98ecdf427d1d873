-- Decidable facts of the state of an allocator.
use Rattle.std.proofs.Common.{◌≡◌, ℕ, ◌+◌, ◌-◌, ◌%◌, ◌<◌, List, [], ◌∷◌, refl, subst, arith, inl, inr, ⊎_elim}
use Rattle.std.proofs.lemmas.Bool.{cases_eq}
use Rattle.std.specs.List.{Contains}
use Rattle.vm_ranges.specs.Range.{Range, MAX, IsRange, IsIn}
use Rattle.vm_ranges.specs.Address.{AddressState, IsClear, AreClear, IsPlace, SplitsGap}
use Rattle.vm_ranges.proofs.Decisions.{Decided, decided_both, decided_if, decided_below, decided_up_to, decided_row, decided_in, decided_same}
use Rattle.vm_ranges.proofs.PlainWords.{IsHeldAddress, IsHeld, contains_held, held_contains, all_miss, none_holds}

decided_held_address : (hs : List Range) (x : ℕ) → Decided (IsHeldAddress hs x)
decided_held_address [] x = inr (λ h. h)
decided_held_address (r ∷ rs) x =
    ⊎_elim (λ (i : IsIn r x). inl (inl i))
    (λ (n : IsIn r x → ⊥). decided_if (IsHeldAddress rs x) (IsHeldAddress (r ∷ rs) x) inr (λ h. ⊎_elim (λ i. absurd (n i)) (λ k. k) h)
    (decided_held_address rs x))
    (decided_in r x)

decided_clear : (state : AddressState) (x : ℕ) → Decided (IsClear state x)
decided_clear state x =
    decided_both _ _ (decided_in state.space x)
    (⊎_elim
    (λ (h : IsHeldAddress state.held x). inr (λ a. none_holds state.held x a h))
    (λ (n : IsHeldAddress state.held x → ⊥). inl (all_miss state.held x n))
    (decided_held_address state.held x))

pub decided_all_clear : (n : ℕ) (state : AddressState) (s : ℕ) → Decided (AreClear n state s)
decided_all_clear n state s = decided_row (IsClear state) (decided_clear state) s n

-- Whether a clear address is right before or right after the range.
pub decided_split : (state : AddressState) (r : Range) → Decided (SplitsGap state r)
unfolding SplitsGap
decided_split state r =
    let below = decided_both (0 < r.start) (IsClear state (r.start - 1)) (decided_below 0 r.start) (decided_clear state (r.start - 1)) in
    ⊎_elim
    (λ b. inl (r.start - 1, b.1, inl (omega (arith, b.0))))
    (λ (n : (0 < r.start) × IsClear state (r.start - 1) → ⊥).
    decided_if (IsClear state (r.end + 1)) (SplitsGap state r)
    (λ c. (r.end + 1, c, inr refl))
    (λ h. ⊎_elim
    (λ (e : h.0 + 1 ≡ r.start). let same : h.0 ≡ r.start - 1 = omega (arith, e) in absurd
    (n (omega (arith, e), subst (λ (v : ℕ). IsClear state v) same h.1)))
    (λ (e : h.0 ≡ r.end + 1). subst (λ (v : ℕ). IsClear state v) e h.1)
    h.2)
    (decided_clear state (r.end + 1)))
    below

pub decided_place : (n a : ℕ) (state : AddressState) (s : ℕ) → Decided (IsPlace n a state s)
unfolding IsPlace
decided_place n a state s = decided_both _ _ (cases_eq (s % a) 0) (decided_all_clear n state s)

pub decided_inside : (state : AddressState) (t : ℕ) → Decided (IsIn state.space t)
decided_inside state t = decided_in state.space t

decided_among : (hs : List Range) (r : Range) → Decided (IsHeld hs r)
decided_among [] r = inr (λ h. h)
decided_among (x ∷ xs) r =
    ⊎_elim (λ (e : x ≡ r). inl (inl e))
    (λ (n : x ≡ r → ⊥). decided_if (IsHeld xs r) (IsHeld (x ∷ xs) r) inr (λ h. ⊎_elim (λ i. absurd (n i)) (λ k. k) h) (decided_among xs r))
    (decided_same x r)

pub decided_held : (hs : List Range) (r : Range) → Decided (Contains hs r)
decided_held hs r = decided_if (IsHeld hs r) (Contains hs r) (contains_held hs r) (held_contains hs r) (decided_among hs r)

-- Three facts together.
decided_three : (P Q R : Type 0) → Decided P → Decided Q → Decided R → Decided (P × Q × R)
decided_three P Q R p q r = decided_if (P × (Q × R)) (P × Q × R) (λ h. (h.0, h.1.0, h.1.1)) (λ h. (h.0, (h.1, h.2)))
    (decided_both _ _ p (decided_both _ _ q r))

-- Whether two numbers are the ends of a range.
pub decided_range : (start end : ℕ) → Decided (IsRange start end)
decided_range start end =
    decided_three _ _ _ (decided_up_to start end) (decided_up_to end MAX)
    (⊎_elim
    (λ (zero : start ≡ 0). decided_if (end < MAX) (start ≡ 0 → end < MAX) (λ l _. l) (λ f. f zero) (decided_below end MAX))
    (λ (other : start ≡ 0 → ⊥). inl (λ e. absurd (other e)))
    (cases_eq start 0))
