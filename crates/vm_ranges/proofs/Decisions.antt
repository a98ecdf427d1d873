-- Decidable facts, and searches for a number with a decidable fact.
use Rattle.std.proofs.Common.{◌≡◌, ℕ, ◌+◌, ◌%◌, ◌^◌, ◌<◌, ◌≤◌, ◌⊎◌, zero, suc, true, false, sym, arith, inl, inr, ⊎_elim, subst}
use Rattle.std.proofs.lemmas.Bool.{cases_eq, cases_lt, cases_Bool}
use Rattle.std.specs.Int.{is_power_of_two}
use Rattle.vm_ranges.specs.Range.{Range, IsIn}
use Rattle.vm_ranges.specs.Alignment.{IsAlignment}
use Rattle.vm_ranges.specs.Request.{IsStartAligned}
use Rattle.vm_ranges.specs.declared.constraint.AllocPolicy.{AllocPolicy}
use Rattle.vm_ranges.specs.declared.constraint.AllocPolicy.TheVariants.{FirstMatch, LastMatch, ExactMatch}
use Rattle.vm_ranges.proofs.Power.{alignment_if_true, no_alignment_if_false, alignment_below}
use Rattle.vm_ranges.proofs.RangeCalls.{same_range}

-- The fact is true or false.
abbrev pub Decided : Type 0 → Type 0
Decided P = P ⊎ ¬ P

-- Whether both facts are true can be decided.
pub decided_both : (P Q : Type 0) → Decided P → Decided Q → Decided (P × Q)
decided_both P Q (inl p) (inl q) = inl (p, q)
decided_both P Q (inl p) (inr n) = inr (λ h. n h.1)
decided_both P Q (inr n) q = inr (λ h. n h.0)

-- Facts that follow from each other are decided together.
pub decided_if : (P Q : Type 0) → (P → Q) → (Q → P) → Decided P → Decided Q
decided_if P Q f g (inl p) = inl (f p)
decided_if P Q f g (inr n) = inr (λ q. n (g q))

pub decided_below : (a b : ℕ) → Decided (a < b)
decided_below a b = ⊎_elim (λ (l : a < b). inl l) (λ (l : b ≤ a). inr (λ h. omega arith)) (cases_lt a b)

pub decided_up_to : (a b : ℕ) → Decided (a ≤ b)
decided_up_to a b = ⊎_elim (λ (l : b < a). inr (λ h. omega arith)) (λ (l : a ≤ b). inl l) (cases_lt b a)

-- A fact of all n numbers starting at s.
pub decided_row : (P : ℕ → Type 0) → ((x : ℕ) → Decided (P x)) → (s n : ℕ) → Decided ((x : ℕ) → s ≤ x → x < s + n → P x)
decided_row P decide s zero = inl (λ x l m. absurd (omega arith))
decided_row P decide s (suc n) =
    decided_if (((x : ℕ) → s ≤ x → x < s + n → P x) × P (s + n)) ((x : ℕ) → s ≤ x → x < s + suc n → P x)
    (λ h x l m. ⊎_elim (λ (e : x ≡ s + n). subst P (sym e) h.1) (λ (d : x ≡ s + n → ⊥). h.0 x l (omega arith)) (cases_eq x (s + n)))
    (λ h. (λ x l m. h x l (omega arith), h (s + n) (omega arith) (omega arith)))
    (decided_both _ _ (decided_row P decide s n) (decide (s + n)))

-- ---- Facts of ranges and of requests
pub decided_in : (r : Range) (x : ℕ) → Decided (IsIn r x)
decided_in r x = decided_both _ _ (decided_up_to r.start x) (decided_up_to x r.end)

pub decided_same : (r q : Range) → Decided (r ≡ q)
decided_same r q = decided_if ((r.start ≡ q.start) × (r.end ≡ q.end)) (r ≡ q) (λ h. same_range r q h.0 h.1) (λ e. (cc, cc))
    (decided_both _ _ (cases_eq r.start q.start) (cases_eq r.end q.end))

pub decided_alignment : (a : ℕ) → Decided (IsAlignment a)
decided_alignment a =
    ⊎_elim
    (λ (l : a < 2 ^ 64).
    ⊎_elim
    (λ (e : is_power_of_two a ≡ true). inl (alignment_if_true a l e))
    (λ (e : is_power_of_two a ≡ false). inr (no_alignment_if_false a e))
    (cases_Bool (is_power_of_two a)))
    (λ (l : 2 ^ 64 ≤ a). inr (λ h. omega (arith, alignment_below a h)))
    (cases_lt a (2 ^ 64))

pub decided_start : (a : ℕ) (policy : AllocPolicy) → Decided (IsStartAligned a policy)
unfolding IsStartAligned
decided_start a FirstMatch = inl tt
decided_start a LastMatch = inl tt
decided_start a (ExactMatch t) = cases_eq (t % a) 0

-- ---- Searches
-- Either no number below the bound has the fact, or there is a lowest number with the fact.
pub lowest_or_none : (P : ℕ → Type 0) → ((x : ℕ) → Decided (P x)) → (bound : ℕ) →
    ((x : ℕ) → x < bound → ¬ P x) ⊎ ((x : ℕ) × P x × ((y : ℕ) → P y → x ≤ y))
lowest_or_none P decide zero = inl (λ x l p. omega arith)
lowest_or_none P decide (suc bound) =
    ⊎_elim
    (λ (none : (x : ℕ) → x < bound → ¬ P x).
    ⊎_elim
    (λ (p : P bound). inr (bound, p, λ y q. ⊎_elim (λ (l : y < bound). absurd (none y l q)) (λ (l : bound ≤ y). l) (cases_lt y bound)))
    (λ (n : P bound → ⊥). inl (λ x l p. ⊎_elim (λ (e : x ≡ bound). n (subst P e p)) (λ (d : x ≡ bound → ⊥). none x (omega arith) p)
    (cases_eq x bound)))
    (decide bound))
    (λ found. inr found)
    (lowest_or_none P decide bound)

-- Either no number below the bound has the fact, or there is a highest number below the bound with the fact.
pub highest_or_none : (P : ℕ → Type 0) → ((x : ℕ) → Decided (P x)) → (bound : ℕ) →
    ((x : ℕ) → x < bound → ¬ P x) ⊎ ((x : ℕ) × P x × ((y : ℕ) → y < bound → P y → y ≤ x))
highest_or_none P decide zero = inl (λ x l p. omega arith)
highest_or_none P decide (suc bound) =
    ⊎_elim
    (λ (p : P bound). inr (bound, p, λ y l q. omega arith))
    (λ (n : P bound → ⊥).
    ⊎_elim
    (λ (none : (x : ℕ) → x < bound → ¬ P x). inl
    (λ x l p. ⊎_elim (λ (e : x ≡ bound). n (subst P e p)) (λ (d : x ≡ bound → ⊥). none x (omega arith) p) (cases_eq x bound)))
    (λ found. inr (
      found.0,
      found.1,
      λ y l q. ⊎_elim (λ (e : y ≡ bound). absurd (n (subst P e q)))
          (λ (d : y ≡ bound → ⊥). found.2 y (omega arith) q) (cases_eq y bound),
    ))
    (highest_or_none P decide bound))
    (decide bound)
