-- If a range cannot be held after others, `ExactMatch` has the same error for it.
use Rattle.std.proofs.Common.{
  ◌≡◌,
  ℕ,
  ◌+◌,
  ◌≤◌,
  ◌<◌,
  List,
  [],
  ◌∷◌,
  ◌++◌,
  true,
  false,
  cond,
  eqb,
  ltb,
  eq-eqb,
  Some,
  None,
  Result,
  Err,
  refl,
  ap,
  ◌∙◌,
  arith,
  subst,
  ⊎_elim,
}
use Rattle.std.specs.List.{All, Contains}
use Rattle.std.proofs.lemmas.Bool.{ltb-true, ltb-false, lt-ltb, eqb-true, cases_lt}
use Rattle.std.proofs.lemmas.List.Elements.{All-head, All-tail}
use Rattle.vm_ranges.specs.Range.{Range, MAX, IsRange, IsIn, address_count, span}
use Rattle.vm_ranges.specs.Alignment.{IsAlignment}
use Rattle.vm_ranges.specs.Request.{IsRequest, IsStartAligned, request_for}
use Rattle.vm_ranges.specs.Address.{AddressState, AreInOrder}
use Rattle.vm_ranges.specs.Answer.{ByStart, ByExactPolicy, Grants, Allocates}
use Rattle.vm_addresses.specs.Held.{range_fault, or_else, first_fault}
use Rattle.vm_laws.specs.SeveralLaws.{AreAscending, FailsAt, FaultIsThatOfExactMatch}
use Rattle.vm_ranges.specs.declared.error.Error.{Error}
use Rattle.vm_ranges.specs.declared.error.Error.TheVariants.{Overflow, ResourceNotAvailable}
use Rattle.vm_ranges.specs.declared.constraint.AllocPolicy.TheVariants.{ExactMatch}
use Rattle.vm_ranges.proofs.PlainWords.{IsHeldAddress, held_contains, held_address, all_miss}
use Rattle.vm_addresses.proofs.Results.Filling.{request_grants}
use Rattle.vm_laws.proofs.AddressProofs.HeldOnes.{held_if_no_fault}

module _ (space : Range) (before : List Range) (lo : ℕ) (r : Range) (some : r.start ≤ r.end) (top : r.end ≤ MAX) (from : space.start ≤ lo)
    (behind : lo ≤ r.start) (above : (x : ℕ) → lo ≤ x → ¬ IsHeldAddress before x) where
  abbrev state : AddressState
  state = record { space = space; held = before }

  not_held : ¬ Contains before (span r.start (address_count r))
  not_held c = above r.start behind
      (held_address before (span r.start (address_count r)) r.start (held_contains before (span r.start (address_count r)) c)
      (omega arith, omega arith))

  past : (e : Error) (P : Error → Type 0) (Q : Type 0) → ¬ (r.start ≡ MAX) → space.end < r.end →
      ByStart r.start (address_count r) state P Q → P ResourceNotAvailable
  unfolding ByStart
  past e P Q n l h =
      ⊎_elim
      (λ a. absurd (n a.0))
      (λ a. ⊎_elim
      (λ b. b.1)
      (λ b. ⊎_elim
      (λ c. absurd (omega (arith, c.0)))
      (λ c. ⊎_elim
      (λ d. absurd (not_held d.0))
      (λ d. ⊎_elim (λ f. f.1) (λ f. let last = f.0 r.end (omega arith) (omega arith) in absurd (omega (arith, last.0.1))) d.1)
      c.1) b.1) a.1) h

  at_max : (P : Error → Type 0) (Q : Type 0) → ¬ (r.start ≡ MAX) → r.end ≤ space.end → r.end ≡ MAX →
      ByStart r.start (address_count r) state P Q → P Overflow
  unfolding ByStart
  at_max P Q n l m h =
      ⊎_elim
      (λ a. absurd (n a.0))
      (λ a. ⊎_elim
      (λ b. absurd (b.0 (omega arith, omega arith)))
      (λ b. ⊎_elim
      (λ c. absurd (omega (arith, c.0)))
      (λ c. ⊎_elim
      (λ d. absurd (not_held d.0))
      (λ d. ⊎_elim
      (λ f. absurd (f.0 (λ x i j. ((omega arith, omega arith), all_miss before x (above x (omega arith))))))
      (λ f. ⊎_elim (λ g. g.1) (λ g. absurd (g.0 (omega arith))) f.1)
      d.1) c.1) b.1) a.1) h

  starts_at_max : (P : Error → Type 0) (Q : Type 0) → r.start ≡ MAX → ByStart r.start (address_count r) state P Q → P Overflow
  unfolding ByStart
  starts_at_max P Q m h = ⊎_elim (λ a. a.1) (λ a. absurd (a.0 m)) h

  same_fault : (e : Error) (P : Error → Type 0) (Q : Type 0) → range_fault lo space.end r ≡ Some e →
      ByStart r.start (address_count r) state P Q → P e
  same_fault e P Q f h =
      elim (ltb r.start lo) as (λ v. ltb r.start lo ≡ v → cond v (Some ResourceNotAvailable)
      (cond (eqb r.start MAX) (Some Overflow)
      (cond (ltb space.end r.end) (Some ResourceNotAvailable) (cond (eqb r.end MAX) (Some Overflow) None))) ≡ Some e → P e) [
        | true ↦ λ a _. absurd (omega (arith, ltb-true r.start lo a))
        | false ↦ λ a g. elim (eqb r.start MAX) as
            (λ v. eqb r.start MAX ≡ v →
            cond v (Some Overflow) (cond (ltb space.end r.end) (Some ResourceNotAvailable) (cond (eqb r.end MAX) (Some Overflow) None))
            ≡ Some e → P e) [
              | true ↦ λ b k. let same : Overflow ≡ e = cc k in subst P same (starts_at_max P Q (eqb-true r.start MAX b) h)
              | false ↦ λ b k.
                  let n : ¬ (r.start ≡ MAX) = λ m. let t = eq-eqb r.start MAX m in cc in
                  elim (ltb space.end r.end) as (λ v. ltb space.end r.end ≡ v → cond v (Some ResourceNotAvailable)
                  (cond (eqb r.end MAX) (Some Overflow) None) ≡ Some e → P e) [
                    | true ↦ λ d m. let same : ResourceNotAvailable ≡ e = cc m in subst P same (past e P Q n (ltb-true space.end r.end d) h)
                    | false ↦ λ d m. elim (eqb r.end MAX) as (λ v. eqb r.end MAX ≡ v → cond v (Some Overflow) None ≡ Some e → P e) [
                      | true ↦ λ o p. let same : Overflow
                          ≡ e = cc p in subst P same (at_max P Q n (ltb-false space.end r.end d) (eqb-true r.end MAX o) h)
                      | false ↦ λ o p. absurd (cc p)
                    ] refl m
                  ] refl k
            ] refl g
      ] refl f

-- ---- The ranges before it
-- The address after the last range, or lo if there is no range.
abbrev next_after : ℕ → List Range → ℕ
next_after lo [] = lo
next_after lo (b ∷ bs) = next_after (b.end + 1) bs

-- All ranges end before that address.
from_next : (lo hi : ℕ) (before : List Range) → AreInOrder lo before hi → lo ≤ next_after lo before
from_next lo hi [] s = omega arith
from_next lo hi (b ∷ bs) s = omega (arith, from_next (b.end + 1) hi bs s.4, s.0, s.1)

none_above : (lo hi x : ℕ) (before : List Range) → AreInOrder lo before hi → next_after lo before ≤ x → ¬ IsHeldAddress before x
none_above lo hi x [] s l h = h
none_above lo hi x (b ∷ bs) s l h =
    ⊎_elim
    (λ (i : IsIn b x). omega (arith, i.1, l, from_next (b.end + 1) hi bs s.4))
    (none_above (b.end + 1) hi x bs s.4 l)
    h

-- The first range of a list that cannot be held.
record FirstFault (lo hi : ℕ) (held : List Range) (e : Error) : Type 0 where
  before : List Range
  range : Range
  after : List Range
  cut : held ≡ before ++ range ∷ after
  order : AreInOrder lo before hi
  valid : IsRange range.start range.end
  behind : next_after lo before ≤ range.start
  fault : range_fault (next_after lo before) hi range ≡ Some e

first_one : (lo hi : ℕ) (held : List Range) (e : Error) → hi ≤ MAX → All (λ r. IsRange r.start r.end) held → AreAscending lo held →
    first_fault lo hi held ≡ Some e → FirstFault lo hi held e
first_one lo hi [] e top a i f = absurd (cc f)
first_one lo hi (r ∷ rs) e top a i f =
    let range = All-head (λ r. IsRange r.start r.end) r rs a in
    elim (range_fault lo hi r) as (λ v. range_fault lo hi r ≡ v → or_else v (first_fault (r.end + 1) hi rs) ≡ Some e → FirstFault lo hi
    (r ∷ rs) e) [
      | None ↦ λ none g.
          let k = first_one (r.end + 1) hi rs e top (All-tail (λ r. IsRange r.start r.end) r rs a) i.1 g in
          let here = held_if_no_fault lo hi r none range.0 in
          let below : r.end < MAX = ⊎_elim (λ (l : r.end < MAX). l) (λ (l : MAX ≤ r.end). absurd (here.2 (omega (arith, here.1))))
          (cases_lt r.end MAX) in
          record {
            before = r ∷ k.before;
            range = k.range;
            after = k.after;
            cut = ap (λ (v : List Range). r ∷ v) k.cut;
            order = (here.0, range.0, here.1, below, k.order);
            valid = k.valid;
            behind = k.behind;
            fault = k.fault;
          }
      | Some x ↦ λ some g.
          record { before = []; range = r; after = rs; cut = refl; order = tt; valid = range; behind = i.0; fault = some ∙ g }
    ] refl f

-- ---- The result of the request
exact_grants : (old : AddressState) (r : Range) (answer : Result Range Error) (new : AddressState) →
    Allocates old (request_for (address_count r) 1 (ExactMatch r.start)) answer new
    → (Rest : Type 0) × ByStart r.start (address_count r) old (λ e. (answer ≡ Err e) × (new ≡ old)) Rest
unfolding IsAlignment IsStartAligned Grants ByExactPolicy
exact_grants old r answer new h =
    let request = request_for (address_count r) 1 (ExactMatch r.start) in
    let sense : IsRequest request = record { some = omega arith; aligned = (0, omega arith, refl); start = omega arith } in
    (_, request_grants request old new answer sense h)

-- ---- The first range that cannot be held
-- The list starts in the space.
later_fault : (space : Range) (held : List Range) (e : Error) → IsRange space.start space.end → All (λ r. IsRange r.start r.end) held →
    AreAscending space.start held → first_fault space.start space.end held ≡ Some e → FailsAt space held e
later_fault space held e range each ascending fault =
    let lo = space.start in
    let hi = space.end in
    let k = first_one lo hi held e range.1 each ascending fault in
    let old : AddressState = record { space = space; held = k.before } in
    record {
      before = k.before;
      range = k.range;
      after = k.after;
      cut = k.cut;
      state = record { space = range; in_order = k.order };
      error = λ answer new h.
          let g = exact_grants old k.range answer new h in
          (same_fault space k.before (next_after lo k.before) k.range k.valid.0 k.valid.1 (from_next lo hi k.before k.order) k.behind
          (λ x l. none_above lo hi x k.before k.order l)
          e (λ x. (answer ≡ Err x) × (new ≡ old)) g.0 k.fault g.1).0;
    }

-- The first range starts below the space.
below_space : (space : Range) (r : Range) (P : Error → Type 0) (Q : Type 0) → r.start < space.start → space.start ≤ MAX →
    ByStart r.start (address_count r) (record { space = space; held = [] }) P Q → P ResourceNotAvailable
unfolding ByStart
below_space space r P Q l m h = ⊎_elim (λ a. absurd (omega (arith, a.0))) (λ a. ⊎_elim (λ b. b.1) (λ b. absurd (omega (arith, b.0.0))) a.1)
    h

first_fault_below : (space : Range) (r : Range) (rs : List Range) (e : Error) → IsRange space.start space.end → r.start < space.start →
    first_fault space.start space.end (r ∷ rs) ≡ Some e → FailsAt space (r ∷ rs) e
first_fault_below space r rs e range l fault =
    let old : AddressState = record { space = space; held = [] } in
    let same : ResourceNotAvailable ≡ e = cc (rw (lt-ltb r.start space.start l) at fault) in
    record {
      before = [];
      range = r;
      after = rs;
      cut = refl;
      state = record { space = range; in_order = tt };
      error = λ answer new h.
          let g = exact_grants old r answer new h in
          (subst (λ (x : Error). (answer ≡ Err x) × (new ≡ old)) same
          (below_space space r (λ x. (answer ≡ Err x) × (new ≡ old)) g.0 l (omega (arith, range.0, range.1)) g.1)).0;
    }

pub fault_is_that_of_exact_match : FaultIsThatOfExactMatch
fault_is_that_of_exact_match space [] e range each ascending fault = absurd (cc fault)
fault_is_that_of_exact_match space (r ∷ rs) e range each ascending fault =
    ⊎_elim
    (λ (l : r.start < space.start). first_fault_below space r rs e range l fault)
    (λ (l : space.start ≤ r.start). later_fault space (r ∷ rs) e range each (l, ascending.1) fault)
    (cases_lt r.start space.start)
