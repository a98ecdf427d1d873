-- Lists of held ranges with a range added or removed.
use Rattle.std.proofs.Common.{◌≡◌, ◌≢◌, ℕ, ◌+◌, ◌<◌, ◌≤◌, ◌⊎◌, List, [], ◌∷◌, refl, sym, ap, ◌∙◌, arith, inl, inr, ⊎_elim, eq-eqb}
use Rattle.std.proofs.lemmas.Bool.{cases_lt, lt-ltb, le-ltb, cases_eq, ne_eqb}
use Rattle.vm_ranges.specs.Range.{Range, MAX, IsIn}
use Rattle.vm_ranges.specs.Address.{with_range, without_range, AreInOrder}
use Rattle.vm_ranges.proofs.PlainWords.{IsHeldAddress, IsHeld}
use Rattle.vm_leaf.proofs.Spaces.BlockStates.{in_order_from}
use Rattle.vm_addresses.proofs.Blocks.HeldSets.{later_above, one_start}

-- ---- A range added
-- No address of the range is held.
abbrev pub Misses : List Range → Range → Type 0
Misses hs r = (a : ℕ) → IsIn r a → ¬ IsHeldAddress hs a

-- A range that has no held address is below a held range or above it.
pub beside : (x r : Range) (xs : List Range) → x.start ≤ x.end → r.start ≤ r.end → Misses (x ∷ xs) r → (r.end < x.start) ⊎ (x.end < r.start)
beside x r xs o l m =
    ⊎_elim
    (λ (a : r.end < x.start). inl a)
    (λ (a : x.start ≤ r.end).
    ⊎_elim
    (λ (b : x.end < r.start). inr b)
    (λ (b : r.start ≤ x.end).
    ⊎_elim
    (λ (c : r.start < x.start). absurd (m x.start (omega arith, a) (inl (omega arith, o))))
    (λ (c : x.start ≤ r.start). absurd (m r.start (omega arith, l) (inl (c, b))))
    (cases_lt r.start x.start))
    (cases_lt x.end r.start))
    (cases_lt r.end x.start)

pub misses_later : (x r : Range) (xs : List Range) → Misses (x ∷ xs) r → Misses xs r
misses_later x r xs m a i h = m a i (inr h)

pub in_order_with : (lo hi : ℕ) (r : Range) (hs : List Range) → AreInOrder lo hs hi → lo ≤ r.start → r.start ≤ r.end → r.end ≤ hi →
    r.end < MAX → Misses hs r → AreInOrder lo (with_range r hs) hi
in_order_with lo hi r [] s b l u w m = (b, l, u, w, tt)
in_order_with lo hi r (x ∷ xs) s b l u w m =
    ⊎_elim
    (λ (d : r.end < x.start). let e = lt-ltb r.start x.start (omega arith) in rw e (b, l, u, w, (omega arith, s.1, s.2, s.3, s.4)))
    (λ (d : x.end < r.start).
    let e = le-ltb r.start x.start (omega (arith, s.1)) in
    rw e (s.0, s.1, s.2, s.3, in_order_with (x.end + 1) hi r xs s.4 (omega arith) l u w (misses_later x r xs m)))
    (beside x r xs s.1 l m)

-- A held range after the addition is the new range or was held before.
pub held_with : (r q : Range) (hs : List Range) → IsHeld (with_range r hs) q → (r ≡ q) ⊎ IsHeld hs q
held_with r q [] h = h
held_with r q (x ∷ xs) h =
    ⊎_elim
    (λ (d : r.start < x.start). let e = lt-ltb r.start x.start d in rw e at h)
    (λ (d : x.start ≤ r.start).
    let e = le-ltb r.start x.start d in
    let k : IsHeld (x ∷ with_range r xs) q = rw e at h in
    ⊎_elim
    (λ (f : x ≡ q). inr (inl f))
    (λ (f : IsHeld (with_range r xs) q). ⊎_elim (λ (g : r ≡ q). inl g) (λ (g : IsHeld xs q). inr (inr g)) (held_with r q xs f))
    k)
    (cases_lt r.start x.start)

-- A range that was held is still held after the addition.
pub still_held_with : (r q : Range) (hs : List Range) → IsHeld hs q → IsHeld (with_range r hs) q
still_held_with r q [] h = absurd h
still_held_with r q (x ∷ xs) h =
    ⊎_elim
    (λ (d : r.start < x.start). let e = lt-ltb r.start x.start d in rw e (inr h))
    (λ (d : x.start ≤ r.start). let e = le-ltb r.start x.start d in rw e
    (⊎_elim (λ (f : x ≡ q). inl f) (λ (f : IsHeld xs q). inr (still_held_with r q xs f)) h))
    (cases_lt r.start x.start)

-- The new range is held.
pub held_now : (r : Range) (hs : List Range) → IsHeld (with_range r hs) r
held_now r [] = inl refl
held_now r (x ∷ xs) =
    ⊎_elim
    (λ (d : r.start < x.start). let e = lt-ltb r.start x.start d in rw e (inl refl))
    (λ (d : x.start ≤ r.start). let e = le-ltb r.start x.start d in rw e (inr (held_now r xs)))
    (cases_lt r.start x.start)

-- ---- A range removed
pub in_order_without : (lo hi : ℕ) (r : Range) (hs : List Range) → AreInOrder lo hs hi → AreInOrder lo (without_range r hs) hi
in_order_without lo hi r [] s = tt
in_order_without lo hi r (x ∷ xs) s =
    ⊎_elim
    (λ (d : r.start ≡ x.start). let e = eq-eqb r.start x.start d in rw e (in_order_from lo (x.end + 1) hi xs (omega (arith, s.0, s.1)) s.4))
    (λ (d : r.start ≡ x.start → ⊥). let e = ne_eqb r.start x.start d in rw e (s.0, s.1, s.2, s.3, in_order_without (x.end + 1) hi r xs s.4))
    (cases_eq r.start x.start)

-- Removing a range right after its addition restores the list.
pub without_with : (lo hi : ℕ) (r : Range) (hs : List Range) → AreInOrder lo hs hi → r.start ≤ r.end → Misses hs r →
    without_range r (with_range r hs) ≡ hs
without_with lo hi r [] s l m = let e = eq-eqb r.start r.start refl in rw e refl
without_with lo hi r (x ∷ xs) s l m =
    ⊎_elim
    (λ (d : r.end < x.start).
    let e = lt-ltb r.start x.start (omega arith) in
    let f = eq-eqb r.start r.start refl in
    rw (e, f) refl)
    (λ (d : x.end < r.start).
    let e = le-ltb r.start x.start (omega (arith, s.1)) in
    let f = ne_eqb r.start x.start (λ i. omega (arith, s.1)) in
    rw (e, f) (ap (λ (v : List Range). x ∷ v) (without_with (x.end + 1) hi r xs s.4 l (misses_later x r xs m))))
    (beside x r xs s.1 l m)

-- A range that starts below all others is added in front of them.
with_first : (lo hi : ℕ) (r : Range) (hs : List Range) → AreInOrder lo hs hi → r.start < lo → with_range r hs ≡ r ∷ hs
with_first lo hi r [] s l = refl
with_first lo hi r (x ∷ xs) s l = let e = lt-ltb r.start x.start (omega (arith, s.0)) in rw e refl

-- A held range that is removed and added again.
pub with_without : (lo hi : ℕ) (r : Range) (hs : List Range) → AreInOrder lo hs hi → IsHeld hs r → with_range r (without_range r hs) ≡ hs
with_without lo hi r [] s h = absurd h
with_without lo hi r (x ∷ xs) s h =
    ⊎_elim
    (λ (d : r.start ≡ x.start).
    let e = eq-eqb r.start x.start d in
    let same : x ≡ r = one_start lo hi x r (x ∷ xs) s (inl refl) h (sym d) in
    rw e (with_first (x.end + 1) hi r xs s.4 (omega (arith, d, s.1)) ∙ ap (λ (v : Range). v ∷ xs) (sym same)))
    (λ (d : r.start ≡ x.start → ⊥).
    let e = ne_eqb r.start x.start d in
    let k : IsHeld xs r = ⊎_elim (λ (f : x ≡ r). absurd (d (sym (ap (λ (v : Range). v.start) f)))) (λ k. k) h in
    let f = le-ltb r.start x.start (omega (arith, later_above lo hi x xs r s k, s.1)) in
    rw (e, f) (ap (λ (v : List Range). x ∷ v) (with_without (x.end + 1) hi r xs s.4 k)))
    (cases_eq r.start x.start)

-- A range can be removed before another one is added, or after it.
pub without_other : (lo hi : ℕ) (r q : Range) (hs : List Range) → AreInOrder lo hs hi → r.start ≢ q.start →
    without_range r (with_range q hs) ≡ with_range q (without_range r hs)
without_other lo hi r q [] s d = let e = ne_eqb r.start q.start d in rw e refl
without_other lo hi r q (x ∷ xs) s d =
    let other = ne_eqb r.start q.start d in
    ⊎_elim
    (λ (b : q.start < x.start).
    let e = lt-ltb q.start x.start b in
    ⊎_elim
    (λ (c : r.start ≡ x.start). let f = eq-eqb r.start x.start c in rw (e, other, f)
    (sym (with_first (x.end + 1) hi q xs s.4 (omega (arith, s.1)))))
    (λ (c : r.start ≡ x.start → ⊥). let f = ne_eqb r.start x.start c in rw (e, other, f, e) refl)
    (cases_eq r.start x.start))
    (λ (b : x.start ≤ q.start).
    let e = le-ltb q.start x.start b in
    ⊎_elim
    (λ (c : r.start ≡ x.start). let f = eq-eqb r.start x.start c in rw (e, f) refl)
    (λ (c : r.start ≡ x.start → ⊥).
    let f = ne_eqb r.start x.start c in
    rw (e, f, e) (ap (λ (v : List Range). x ∷ v) (without_other (x.end + 1) hi r q xs s.4 d)))
    (cases_eq r.start x.start))
    (cases_lt q.start x.start)

-- A held range after the deletion was held before.
pub held_without : (r q : Range) (hs : List Range) → IsHeld (without_range r hs) q → IsHeld hs q
held_without r q [] h = h
held_without r q (x ∷ xs) h =
    ⊎_elim
    (λ (d : r.start ≡ x.start). let e = eq-eqb r.start x.start d in let k : IsHeld xs q = rw e at h in inr k)
    (λ (d : r.start ≡ x.start → ⊥).
    let e = ne_eqb r.start x.start d in
    let k : IsHeld (x ∷ without_range r xs) q = rw e at h in
    ⊎_elim (λ (f : x ≡ q). inl f) (λ (f : IsHeld (without_range r xs) q). inr (held_without r q xs f)) k)
    (cases_eq r.start x.start)

-- The removed range is not held.
pub not_held_without : (lo hi : ℕ) (r q : Range) (hs : List Range) → AreInOrder lo hs hi → IsHeld (without_range r hs) q → r ≡ q → ⊥
not_held_without lo hi r q [] s h g = h
not_held_without lo hi r q (x ∷ xs) s h g =
    let same : r.start ≡ q.start = ap (λ (v : Range). v.start) g in
    ⊎_elim
    (λ (d : r.start ≡ x.start).
    let e = eq-eqb r.start x.start d in
    let k : IsHeld xs q = rw e at h in
    omega (arith, later_above lo hi x xs q s k, s.1))
    (λ (d : r.start ≡ x.start → ⊥).
    let e = ne_eqb r.start x.start d in
    let k : IsHeld (x ∷ without_range r xs) q = rw e at h in
    ⊎_elim
    (λ (f : x ≡ q). d (same ∙ sym (ap (λ (v : Range). v.start) f)))
    (λ (f : IsHeld (without_range r xs) q). not_held_without (x.end + 1) hi r q xs s.4 f g)
    k)
    (cases_eq r.start x.start)

-- Each range with another start is held as before.
still_held : (r q : Range) (hs : List Range) → IsHeld hs q → ¬ (r.start ≡ q.start) → IsHeld (without_range r hs) q
still_held r q [] h n = h
still_held r q (x ∷ xs) h n =
    ⊎_elim
    (λ (d : r.start ≡ x.start).
    let e = eq-eqb r.start x.start d in
    rw e (⊎_elim (λ (f : x ≡ q). absurd (n (d ∙ ap (λ (v : Range). v.start) f))) (λ (f : IsHeld xs q). f) h))
    (λ (d : r.start ≡ x.start → ⊥).
    let e = ne_eqb r.start x.start d in
    rw e (⊎_elim (λ (f : x ≡ q). inl f) (λ (f : IsHeld xs q). inr (still_held r q xs f n)) h))
    (cases_eq r.start x.start)

-- Each other range is held as before, if the removed range was held.
pub others_held : (lo hi : ℕ) (r q : Range) (hs : List Range) → AreInOrder lo hs hi → IsHeld hs r → IsHeld hs q → ¬ (r ≡ q) →
    IsHeld (without_range r hs) q
others_held lo hi r q hs s h k n = still_held r q hs k (λ (e : r.start ≡ q.start). n (one_start lo hi r q hs s h k e))
