-- The result for a range in the gap that a held range leaves, after this range is freed.
use Rattle.std.proofs.Common.{◌≡◌, ℕ, ◌+◌, ◌-◌, ◌<◌, ◌≤◌, List, [], ◌∷◌, length, arith, refl, sym, ap, ◌∙◌, inl, inr, ⊎_elim, subst, Option, Result, Ok, Err}
use Rattle.std.specs.List.{Contains}
use Rattle.std.proofs.lemmas.Bool.{cases_eq, cases_lt, eq-eqb, ne_eqb}
use Rattle.vm_ranges.specs.Cases.{IfElse}
use Rattle.vm_ranges.proofs.Decisions.{decided_same}
use Rattle.vm_ranges.specs.Range.{Range, MAX}
use Rattle.vm_ranges.specs.declared.error.Error.{Error}
use Rattle.vm_ranges.specs.declared.error.Error.TheVariants.{Overflow}
use Rattle.vm_ranges.specs.declared.constraint.AllocPolicy.{AllocPolicy}
use Rattle.vm_ranges.specs.declared.constraint.AllocPolicy.TheVariants.{FirstMatch, LastMatch, ExactMatch}
use Rattle.vm_ranges.specs.Address.{AddressState, AreClear, IsPlace, IsClear, SplitsGap, releasing, without_range}
use Rattle.vm_ranges.specs.Answer.{IsChosen, ByStart, ByExactPolicy, ByPlace, AllocatesAt, Grants}
use Rattle.vm_addresses.specs.Checks.Moving.{BeginsInside, IsLeftGap}
use Rattle.vm_ranges.specs.Windows.{within}
use Rattle.vm_addresses.specs.declared.address_allocator.moving.BegunMove.{BegunMove}
use Rattle.vm_ranges.proofs.PlainWords.{IsHeld, held_contains}
use Rattle.vm_addresses.proofs.Moving.LeftPlaces.{released_then}
use Rattle.vm_addresses.proofs.Results.Filling.{TakesBelowMax, clear_not_held}
use Rattle.vm_addresses.proofs.Results.Requests.{request_in}

-- One range less is held after a held range is freed.
pub length_without : (r : Range) (hs : List Range) → IsHeld hs r → length (without_range r hs) + 1 ≡ length hs
length_without r [] h = absurd h
length_without r (x ∷ xs) h =
    ⊎_elim
    (λ (d : r.start ≡ x.start). let e = eq-eqb r.start x.start d in rw e (omega arith))
    (λ (d : r.start ≡ x.start → ⊥).
    let e = ne_eqb r.start x.start d in
    let k : IsHeld xs r = ⊎_elim (λ (f : x ≡ r). absurd (d (sym (ap (λ (v : Range). v.start) f)))) (λ k. k) h in
    let n = length_without r xs k in
    rw e (omega (arith, n)))
    (cases_eq r.start x.start)

pub one_less : (old : AddressState) (r : Range) → Contains old.held r → length (releasing r old).held ≡ length old.held - 1
one_less old r c = omega (arith, length_without r old.held (held_contains old.held r c))

-- The whole gap does not split it, and any other range in it does.
pub gap_is_filled : (old : AddressState) (r gap : Range) → IsLeftGap old r gap → ¬ SplitsGap (releasing r old) gap
unfolding SplitsGap
gap_is_filled old r gap g s =
    ⊎_elim (λ e. g.before s.0 e s.1) (λ e. g.after (subst (λ (v : ℕ). IsClear (releasing r old) v) e s.1)) s.2

pub part_splits : (old : AddressState) (r gap q : Range) → IsLeftGap old r gap → gap.start ≤ q.start → q.start ≤ q.end → q.end ≤ gap.end →
    ¬ (q ≡ gap) → SplitsGap (releasing r old) q
unfolding SplitsGap
part_splits old r gap q left from some upto n =
    ⊎_elim
    (λ (l : gap.start < q.start). (q.start - 1, left.clear (q.start - 1) (omega (arith, l), omega (arith, some, upto)), inl (omega (arith, l))))
    (λ (l : q.start ≤ gap.start).
    ⊎_elim
    (λ (m : q.end < gap.end). (q.end + 1, left.clear (q.end + 1) (omega (arith, from, some), omega (arith, m)), inr refl))
    (λ (m : gap.end ≤ q.end).
    let a : q.start ≡ gap.start = omega (arith, l, from) in
    let b : q.end ≡ gap.end = omega (arith, m, upto) in
    absurd (n (ap (λ (v : ℕ). record { start = v; end = q.end }) a ∙ ap (λ (v : ℕ). record { start = gap.start; end = v }) b)))
    (cases_lt q.end gap.end))
    (cases_lt gap.start q.start)

-- The result for the chosen place of a valid request is that of the request.
pub grants_at : (counted : ℕ) (policy : AllocPolicy) (w : Option Range) (n a s : ℕ) (old new : AddressState) (answer : Result Range Error) →
    0 < n → s + n - 1 ≤ MAX → IsChosen (request_in w n a policy) old s → TakesBelowMax counted old n s answer new →
    Grants counted old (request_in w n a policy) answer new
unfolding Grants ByExactPolicy ByStart ByPlace IsChosen IsPlace
grants_at counted FirstMatch w n a s old new answer z m c h = inr (s, c, h)
grants_at counted LastMatch w n a s old new answer z m c h = inr (s, c, h)
grants_at counted (ExactMatch t) w n a s old new answer z m c h =
    let at : s ≡ t = c.0 in
    let clear : AreClear n (within w old) t = subst (AreClear n (within w old)) at c.1.1 in
    let refused : t + n - 1 ≡ MAX → (answer ≡ Err Overflow) × (new ≡ old) = λ e.
    ⊎_elim (λ l. l.1) (λ l. absurd (l.0 (omega (arith, e, at)))) h in
    ⊎_elim
    (λ (e : t ≡ MAX). inl (e, refused (omega (arith, e, m, z, at))))
    (λ (ne : t ≡ MAX → ⊥). inr (
      ne,
      inr (
        (clear t (omega arith) (omega (arith, z))).0,
        inr (
          (λ o. omega (arith, o, m, at)),
          inr (
            clear_not_held n t (within w old) z clear,
            inr (
              clear,
              ⊎_elim (λ (e : t + n - 1 ≡ MAX). inl (e, refused e)) (λ (k : t + n - 1 ≡ MAX → ⊥). inr (k, inr (s, c, h))) (cases_eq (t + n - 1) MAX),
            ),
          ),
        ),
      ),
    ))
    (cases_eq t MAX)

-- ---- A move that begins in the gap
module _ (old : AddressState) (r gap q : Range) (held : Contains old.held r) (left : IsLeftGap old r gap) (from : gap.start ≤ q.start)
    (some : q.start ≤ q.end) (upto : q.end ≤ gap.end) where
  abbrev counted : ℕ
  counted = length old.held - 1

  abbrev Settles : Result Range Error → Type 0
  Settles answer = IfElse (q.end ≡ MAX) ((answer ≡ Err Overflow) × (released_then old r answer ≡ releasing r old))
      (AllocatesAt counted (releasing r old) q answer (released_then old r answer))

  pub fails : (e : Error) → BeginsInside old r gap q (Err e) → Settles (Err e)
  unfolding AllocatesAt
  fails e h =
      let less = length_without r old.held (held_contains old.held r held) in
      ⊎_elim
      (λ k. inl (k.0, (ap (λ (v : Error). Err v) k.1, refl)))
      (λ k. inr (
        k.0,
        inr (
          part_splits old r gap q left from some upto k.1.0,
          ⊎_elim
              (λ l. inl (omega (arith, l.0, less), (ap (λ (v : Error). Err v) l.1, refl)))
              (λ l. inr ((λ m. l.0 (omega (arith, m, less))), inr (ap (λ (v : Error). Err v) l.1, refl)))
              k.1.1,
        ),
      ))
      h

  pub succeeds : (begun : BegunMove) → BeginsInside old r gap q (Ok begun) → Settles (Ok q)
  unfolding AllocatesAt
  succeeds begun h =
      let less = length_without r old.held (held_contains old.held r held) in
      inr (
        (λ e. omega (arith, e, h.0)),
        ⊎_elim
            (λ (e : q ≡ gap). inl (subst (λ (v : Range). ¬ SplitsGap (releasing r old) v) (sym e) (gap_is_filled old r gap left), (refl, refl)))
            (λ (n : ¬ (q ≡ gap)). inr (part_splits old r gap q left from some upto n, inr ((λ m. omega (arith, m, less, h.4 n)), inl (refl, refl))))
            (decided_same q gap),
      )
