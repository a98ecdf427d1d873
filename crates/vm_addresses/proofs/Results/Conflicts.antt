-- The conflict of a request.
use Rattle.std.proofs.Common.{◌≡◌, ◌↔◌, ℕ, ◌+◌, ◌-◌, ◌%◌, ◌<◌, ◌≤◌, nat_eq, cond, Bool, true, false, List, [], ◌∷◌, Option, Some, None, Ok, Err, refl, sym, ap, ◌∙◌, arith, inl, inr, ⊎_elim, subst}
use Rattle.std.specs.List.{Contains}
use Rattle.std.proofs.lemmas.Bool.{cases_eq, eq-eqb, ne_eqb}
use Rattle.vm_ranges.specs.Cases.{Unless}
use Rattle.vm_ranges.specs.Range.{Range, MAX, IsIn, Overlaps, Covers, span, address_count}
use Rattle.vm_ranges.specs.Request.{Request, ByPolicy, IsStartAligned, IsRequest}
use Rattle.vm_ranges.specs.declared.constraint.AllocPolicy.{AllocPolicy}
use Rattle.vm_ranges.specs.declared.constraint.AllocPolicy.TheVariants.{FirstMatch, LastMatch, ExactMatch}
use Rattle.vm_ranges.specs.Address.{AddressState, IsAddressState, IsPlace, AreClear, releasing, without_range, AreInOrder}
use Rattle.vm_space.specs.Walks.{meets}
use Rattle.vm_ranges.proofs.PlainWords.{held_contains}
use Rattle.vm_addresses.proofs.Results.AddressResults.{freed_state, releases_held}
use Rattle.vm_addresses.specs.Queries.{meeting}
use Rattle.vm_ranges.specs.Windows.{within}
use Rattle.vm_addresses.proofs.Choosing.WindowPlaces.{LiesIn, lies_in, place_lying}
use Rattle.vm_addresses.proofs.Results.Meeting.{clear_if_none_meets}
use Rattle.vm_addresses.proofs.Results.Once.{place_anywhere}
use Rattle.vm_addresses.specs.Conflicts.{with_first, IsConflictOf, IsWindowConflict, IsConflict, IsMoveConflict, ConflictDecides, LooksAt}
use Rattle.vm_addresses.specs.declared.address_allocator.conflicts.Conflict.{Conflict}
use Rattle.vm_addresses.specs.declared.address_allocator.conflicts.Conflict.TheVariants.{OutsideSpace}
use Rattle.vm_addresses.proofs.Results.WindowResults.{covered}
use Rattle.vm_addresses.specs.Facts.{anywhere, in_window}

-- ---- The first of the ranges
none_listed : (rs : List Range) → with_first rs ≡ None → rs ≡ []
none_listed [] e = refl
none_listed (r ∷ rs) e = absurd (cc e)

-- ---- A request of ExactMatch
module _ (state : AddressState) (n a s : ℕ) (some : 0 < n) (aligned : s % a ≡ 0) (valid : IsAddressState state)
    (answer : Option Conflict) where
  in_space : (window : Option Range) → IsPlace n a (within window state) s → Covers state.space (span s n)
  unfolding IsPlace Covers
  in_space window p x i = ((place_anywhere window n a s state p).1 x i.0 (omega (arith, i.1))).0

  is_covered : (w : Range) → LiesIn w n s → Covers w (span s n)
  unfolding Covers
  is_covered w l x i = (omega (arith, l.0, i.0), omega (arith, l.1, i.1))

  long : address_count (span s n) ≡ n
  long = omega (arith, some)

  clear_or_not : Covers state.space (span s n) → AreClear n state s ↔ (meeting (span s n) state.held ≡ [])
  clear_or_not c = subst (λ (v : ℕ). AreClear v state s ↔ (meeting (span s n) state.held ≡ [])) long
      (clear_if_none_meets state (span s n) valid (omega (arith, some)) c).clear

  -- A range of the space has no conflict if and only if it is clear.
  free_decides : Unless (Covers state.space (span s n)) (answer ≡ Some (OutsideSpace state.space))
      (answer ≡ with_first (meeting (span s n) state.held)) → (answer ≡ None) ↔ IsPlace n a state s
  unfolding IsPlace
  free_decides (inl o) = (λ e. absurd (cc (e, o.1)), λ p. absurd (o.0 (in_space None p)))
  free_decides (inr i) =
      let clear = clear_or_not i.0 in (
        λ e. (aligned, clear.1 (none_listed (meeting (span s n) state.held) (sym i.1 ∙ e))),
        λ p. i.1 ∙ ap with_first (clear.0 p.1),
      )

  -- A range of the window has no conflict if and only if it is clear.
  window_decides : (window : Option Range) → IsConflictOf state window (span s n) answer →
      (answer ≡ None) ↔ IsPlace n a (within window state) s
  unfolding IsConflictOf
  window_decides None h = free_decides h
  window_decides (Some w) (inl o) = (λ e. absurd (cc (e, o.1)), λ p. absurd (o.0 (in_space (Some w) p)))
  window_decides (Some w) (inr (inside, inl o)) =
      (λ e. absurd (cc (e, o.1)), λ p. absurd (o.0 (is_covered w (lies_in w n a state some s p))))
  window_decides (Some w) (inr (inside, inr i)) =
      let free = free_decides (inr (inside, i.1)) in (
        λ e. place_lying w n a state some s (covered w n s some i.0) (free.0 e),
        λ p. free.1 (place_anywhere (Some w) n a s state p),
      )

by_policy : (state : AddressState) (size align : ℕ) (policy : AllocPolicy) (window : Option Range) (answer : Option Conflict) →
    IsAddressState state
    → IsRequest (record { size = size; align = align; policy = policy; window = window }) →
    IsConflict state (record { size = size; align = align; policy = policy; window = window }) answer
    → ConflictDecides state (record { size = size; align = align; policy = policy; window = window }) answer
unfolding IsConflict ConflictDecides IsStartAligned
by_policy state size align FirstMatch window answer valid r h = tt
by_policy state size align LastMatch window answer valid r h = tt
by_policy state size align (ExactMatch s) window answer valid r h = window_decides state size align s r.some r.start valid answer window h

pub conflict_decides : (state : AddressState) (request : Request) (answer : Option Conflict) → IsAddressState state → IsRequest request →
    IsConflict state request answer → ConflictDecides state request answer
conflict_decides state request answer valid r h = by_policy state request.size request.align request.policy request.window answer valid r h

-- The conflict of a move decides in the same way.
pub move_decides : (state : AddressState) (r : Range) (request : Request) (answer : Option Conflict) → IsAddressState state → IsRequest request →
    IsMoveConflict state r request answer → Contains state.held r → ConflictDecides (releasing r state) request answer
move_decides state r request answer valid is h held =
    let free = freed_state state (releasing r state) r (Ok tt) valid (releases_held state r (held_contains state.held r held)) in
    ⊎_elim (λ k. absurd (k.0 held)) (λ k. conflict_decides (releasing r state) request answer free is k.1) h

-- ---- A window that contains the space
same_conflict : (state : AddressState) (size : ℕ) (policy : AllocPolicy) (w : Range) (answer : Option Conflict) → IsAddressState state →
    w.start ≤ state.space.start → state.space.end ≤ w.end →
    ByPolicy policy (IsWindowConflict state.space (Some w) answer) (IsWindowConflict state.space (Some w) answer)
    (λ s. IsConflictOf state (Some w) (span s size) answer)
    ↔ ByPolicy policy (IsWindowConflict state.space None answer) (IsWindowConflict state.space None answer)
    (λ s. IsConflictOf state None (span s size) answer)
unfolding IsConflictOf Covers Overlaps
same_conflict state size FirstMatch w answer valid low high =
    let common : (x : ℕ) × IsIn w x × IsIn state.space x = (state.space.start, (low, omega (arith, high, valid.space.0)), (omega arith, valid.space.0)) in
    (λ h. ⊎_elim (λ o. absurd (o.0 common)) (λ k. k.1) h, λ h. inr (common, h))
same_conflict state size LastMatch w answer valid low high =
    let common : (x : ℕ) × IsIn w x × IsIn state.space x = (state.space.start, (low, omega (arith, high, valid.space.0)), (omega arith, valid.space.0)) in
    (λ h. ⊎_elim (λ o. absurd (o.0 common)) (λ k. k.1) h, λ h. inr (common, h))
same_conflict state size (ExactMatch s) w answer valid low high = (
  λ h. ⊎_elim (λ o. inl o) (λ i. ⊎_elim (λ o. absurd (o.0 (λ x k. let j = i.0 x k in (omega (arith, low, j.0), omega (arith, high, j.1)))))
      (λ k. inr (i.0, k.1)) i.1) h,
  λ h. ⊎_elim (λ o. inl o) (λ i. inr (i.0, inr (λ x k. let j = i.0 x k in (omega (arith, low, j.0), omega (arith, high, j.1)), i.1))) h,
)

pub whole_conflict : (state : AddressState) (request : Request) (window : Range) (answer : Option Conflict) → IsAddressState state →
    window.start ≤ state.space.start → state.space.end ≤ window.end →
    IsConflict state (in_window window request) answer ↔ IsConflict state (anywhere request) answer
unfolding IsConflict
whole_conflict state request w answer valid low high = same_conflict state request.size request.policy w answer valid low high

-- ---- The ranges in the way after a range is freed
-- No range of the list starts like r.
none_removed : (lo hi : ℕ) (r w : Range) (hs : List Range) → AreInOrder lo hs hi → r.start < lo → without_range r (meeting w hs) ≡ meeting w hs
none_removed lo hi r w [] s l = refl
none_removed lo hi r w (x ∷ xs) s l =
    by_test (ne_eqb r.start x.start (λ e. omega (arith, e, l, s.0))) (none_removed (x.end + 1) hi r w xs s.4 (omega (arith, l, s.0, s.1))) (meets w x)
  where
    by_test : nat_eq r.start x.start ≡ false → without_range r (meeting w xs) ≡ meeting w xs → (b : Bool) →
        without_range r (cond b (x ∷ meeting w xs) (meeting w xs)) ≡ cond b (x ∷ meeting w xs) (meeting w xs)
    by_test apart rest true = rw apart (ap (λ (v : List Range). x ∷ v) rest)
    by_test apart rest false = rest

-- Freeing a range removes it from the ranges in the way.
pub meeting_without : (lo hi : ℕ) (r w : Range) (hs : List Range) → AreInOrder lo hs hi → meeting w (without_range r hs) ≡ without_range r (meeting w hs)
meeting_without lo hi r w [] s = refl
meeting_without lo hi r w (x ∷ xs) s =
    ⊎_elim
    (λ (d : r.start ≡ x.start).
    let e = eq-eqb r.start x.start d in
    rw e (by_same d e (meets w x)))
    (λ (d : r.start ≡ x.start → ⊥).
    let e = ne_eqb r.start x.start d in
    let rest = meeting_without (x.end + 1) hi r w xs s.4 in
    rw e (by_other e rest (meets w x)))
    (cases_eq r.start x.start)
  where
    by_same : r.start ≡ x.start → nat_eq r.start x.start ≡ true → (b : Bool) → meeting w xs ≡ without_range r (cond b (x ∷ meeting w xs) (meeting w xs))
    by_same d e true = rw e refl
    by_same d e false = sym (none_removed (x.end + 1) hi r w xs s.4 (omega (arith, d, s.1)))

    by_other : nat_eq r.start x.start ≡ false → meeting w (without_range r xs) ≡ without_range r (meeting w xs) → (b : Bool) →
        cond b (x ∷ meeting w (without_range r xs)) (meeting w (without_range r xs)) ≡ without_range r (cond b (x ∷ meeting w xs) (meeting w xs))
    by_other e rest true = rw e (ap (λ (v : List Range). x ∷ v) rest)
    by_other e rest false = rest

-- The conflict with the first range in the way after the range r is freed.
pub first_in_the_way : (state : AddressState) (space r q : Range) (request : Request) (answer : Option Conflict) → IsAddressState state →
    space ≡ state.space → Contains state.held r → LooksAt space request (Ok q) → answer ≡ with_first (without_range r (meeting q state.held)) →
    IsMoveConflict state r request answer
first_in_the_way state space r q request answer valid e held looks is =
    let there : IsConflict (releasing r state) request (with_first (meeting q (without_range r state.held))) = subst
    (λ (v : Range). IsConflict (record { space = v; held = without_range r state.held }) request (with_first (meeting q (without_range r state.held)))) e
    (looks (without_range r state.held)) in
    let same = meeting_without state.space.start state.space.end r q state.held valid.in_order in
    inr (held, subst (IsConflict (releasing r state) request) (ap with_first same ∙ sym is) there)

pub not_by_held : (state : AddressState) (space r : Range) (request : Request) (answer : Option Conflict) → space ≡ state.space →
    Contains state.held r → LooksAt space request (Err answer) → IsMoveConflict state r request answer
not_by_held state space r request answer e held looks = inr (
  held,
  subst
      (λ (v : Range). IsConflict (record { space = v; held = without_range r state.held }) request answer) e (looks (without_range r state.held)),
)

pub no_move_conflict : (state : AddressState) (r : Range) (request : Request) → ¬ Contains state.held r → IsMoveConflict state r request None
no_move_conflict state r request none = inl (none, refl)

pub ruleset move_conflicts = (move_decides, first_in_the_way, not_by_held, no_move_conflict)

-- ---- The body
-- A range that would end past MAX is in no range.
pub ends_past : (w : Range) (s n : ℕ) → 0 < n → w.end ≤ MAX → MAX < s + n - 1 → ¬ Covers w (span s n)
unfolding Covers
ends_past w s n z l m c = omega (arith, l, m, (c (s + n - 1) (omega (arith, m), omega arith)).1)

pub past_conflict : (space : Range) (request : Request) (t : ℕ) → request.policy ≡ ExactMatch t → 0 < request.size → space.end ≤ MAX →
    MAX < t + request.size - 1 → LooksAt space request (Err (Some (OutsideSpace space)))
unfolding IsConflict IsConflictOf
past_conflict space request t e z l m = λ held. rw e (inl (ends_past space t request.size z l m, refl))

pub ruleset looking = (past_conflict)

pub ruleset conflicts = (conflict_decides)
