-- Ranges that are allocated by their starts one after the other.
use Rattle.std.proofs.Common.{
  ◌≡◌,
  ℕ,
  ◌+◌,
  ◌-◌,
  ◌<◌,
  ◌≤◌,
  ◌⊎◌,
  List,
  [],
  ◌∷◌,
  ◌++◌,
  length,
  true,
  false,
  cond,
  eqb,
  ltb,
  Option,
  Some,
  None,
  MatchOption,
  Result,
  Ok,
  Err,
  refl,
  sym,
  ap,
  ◌∙◌,
  subst,
  arith,
  inl,
  inr,
  ⊎_elim,
}
use Rattle.std.proofs.lemmas.Bool.{le-ltb, ltb-false, eqb-false, cases_lt}
use Rattle.std.specs.List.{All}
use Rattle.std.proofs.lemmas.List.{append_assoc, append-nil}
use Rattle.std.proofs.lemmas.List.Elements.{All-head, All-tail}
use Rattle.vm_ranges.specs.Cases.{IfElse}
use Rattle.vm_ranges.specs.Range.{Range, MAX, IsRange, address_count, span}
use Rattle.vm_ranges.specs.Request.{request_for}
use Rattle.vm_ranges.specs.declared.constraint.AllocPolicy.TheVariants.{ExactMatch}
use Rattle.vm_ranges.specs.declared.error.Error.{Error}
use Rattle.vm_ranges.specs.declared.error.Error.TheVariants.{Overflow, ResourceNotAvailable, OutOfMemory}
use Rattle.vm_ranges.specs.Address.{AddressState, IsAddressState, with_range, AreInOrder}
use Rattle.vm_ranges.specs.Answer.{Makes}
use Rattle.vm_addresses.specs.Held.{range_fault, or_else, first_fault, BySpace, MakesHeld, MakesWithHeld}
use Rattle.vm_leaf.specs.TreeHeights.{TOO_MANY_BLOCKS}
use Rattle.vm_leaf.specs.SpaceBlocks.{blocks_of}
use Rattle.vm_addresses.specs.Several.{AllocatesEach, exact_requests, HeldAsAllocated}
use Rattle.vm_laws.specs.SeveralLaws.{HeldIsEqual}
use Rattle.vm_addresses.proofs.Callers.{given}
use Rattle.vm_ranges.proofs.PlainWords.{IsHeld}
use Rattle.vm_addresses.proofs.Blocks.HeldSets.{later_above}
use Rattle.vm_addresses.proofs.Trees.HeldTrees.{held_made}

-- The ranges of a list without its end are in order.
in_order_below : (xs ys : List Range) (lo hi : ℕ) → AreInOrder lo (xs ++ ys) hi → AreInOrder lo xs hi
in_order_below [] ys lo hi s = tt
in_order_below (x ∷ xs) ys lo hi s = (s.0, s.1, s.2, s.3, in_order_below xs ys (x.end + 1) hi s.4)

last_held : (xs : List Range) (r : Range) → IsHeld (xs ++ r ∷ []) r
last_held [] r = inl refl
last_held (x ∷ xs) r = inr (last_held xs r)

-- A range above all others is added as the last one.
goes_last : (xs : List Range) (r : Range) (lo hi : ℕ) → AreInOrder lo (xs ++ r ∷ []) hi → with_range r xs ≡ xs ++ r ∷ []
goes_last [] r lo hi s = refl
goes_last (y ∷ ys) r lo hi s =
    rw (le-ltb r.start y.start (omega (arith, s.1, later_above lo hi y (ys ++ r ∷ []) r s (last_held ys r))))
    (ap (λ (v : List Range). y ∷ v) (goes_last ys r (y.end + 1) hi s.4))

abbrev with_held : Range → List Range → AddressState
with_held space held = record { space = space; held = held }

each_exact : (rs before : List Range) (space : Range) (new : AddressState) → AreInOrder space.start (before ++ rs) space.end →
    AllocatesEach (with_held space before) (exact_requests rs) rs new → new ≡ with_held space (before ++ rs)
each_exact [] before space new s e = e ∙ ap (with_held space) (sym (append-nil before))
each_exact (r ∷ rs) before space new s e =
    let first : before ++ r ∷ rs ≡ (before ++ r ∷ []) ++ rs = sym (append_assoc before (r ∷ []) rs) in
    let in_order : AreInOrder space.start ((before ++ r ∷ []) ++ rs) space.end = subst
    (λ (v : List Range). AreInOrder space.start v space.end) first s in
    let g = given (with_held space before) e.0 (request_for (address_count r) 1 (ExactMatch r.start)) r e.1 in
    let mid : e.0 ≡ with_held space (before ++ r ∷ []) = g.left
    ∙ ap (with_held space) (goes_last before r space.start space.end
    (in_order_below (before ++ r ∷ []) rs space.start space.end in_order)) in
    each_exact rs (before ++ r ∷ []) space new in_order (subst (λ (v : AddressState). AllocatesEach v (exact_requests rs) rs new) mid e.2)
    ∙ ap (with_held space) (sym first)

pub held_as_allocated : HeldAsAllocated
held_as_allocated space held new i e = each_exact held [] space new i.in_order e

-- ---- An allocator that is created with these ranges
-- Each range is in order.
abbrev AreSome : List Range → Type 0
AreSome [] = Unit {0}
AreSome (r ∷ rs) = (r.start ≤ r.end) × AreSome rs

allocated_are_some : (rs : List Range) (old new : AddressState) → AllocatesEach old (exact_requests rs) rs new → AreSome rs
allocated_are_some [] old new e = tt
allocated_are_some (r ∷ rs) old new e =
    let g = given old e.0 (request_for (address_count r) 1 (ExactMatch r.start)) r e.1 in
    (omega (arith, ap (λ (v : Range). v.end) g.long), allocated_are_some rs e.0 new e.2)

-- A range without a fault can be held.
pub held_if_no_fault : (lo hi : ℕ) (r : Range) → range_fault lo hi r ≡ None → r.start ≤ r.end →
    (lo ≤ r.start) × (r.end ≤ hi) × (¬ (r.end ≡ MAX))
held_if_no_fault lo hi r f some =
    elim (ltb r.start lo) as (λ v. ltb r.start lo ≡ v → cond v (Some ResourceNotAvailable)
    (cond (eqb r.start MAX) (Some Overflow) (cond (ltb hi r.end) (Some ResourceNotAvailable) (cond (eqb r.end MAX) (Some Overflow) None)))
    ≡ None → (lo ≤ r.start) × (r.end ≤ hi) × (¬ (r.end ≡ MAX))) [
      | true ↦ λ a g. absurd (cc g)
      | false ↦ λ a g. elim (eqb r.start MAX) as
          (λ v. cond v (Some Overflow) (cond (ltb hi r.end) (Some ResourceNotAvailable) (cond (eqb r.end MAX) (Some Overflow) None)) ≡ None →
          (lo ≤ r.start) × (r.end ≤ hi) × (¬ (r.end ≡ MAX))) [
            | true ↦ λ k. absurd (cc k)
            | false ↦ λ k. elim (ltb hi r.end) as
                (λ v. ltb hi r.end ≡ v → cond v (Some ResourceNotAvailable) (cond (eqb r.end MAX) (Some Overflow) None) ≡ None →
                (lo ≤ r.start) × (r.end ≤ hi) × (¬ (r.end ≡ MAX))) [
                  | true ↦ λ d m. absurd (cc m)
                  | false ↦ λ d m. elim (eqb r.end MAX) as
                      (λ v. eqb r.end MAX ≡ v → cond v (Some Overflow) None ≡ None → (lo ≤ r.start) × (r.end ≤ hi) × (¬ (r.end ≡ MAX))) [
                        | true ↦ λ o p. absurd (cc p)
                        | false ↦ λ o p. (ltb-false r.start lo a, ltb-false hi r.end d, eqb-false r.end MAX o)
                      ] refl m
                ] refl k
          ] g
    ] refl f

no_fault_parts : (o p : Option Error) → or_else o p ≡ None → (o ≡ None) × (p ≡ None)
no_fault_parts None p e = (refl, e)
no_fault_parts (Some x) p e = absurd (cc e)

in_order_if_no_fault : (lo hi : ℕ) (rs : List Range) → hi ≤ MAX → first_fault lo hi rs ≡ None → AreSome rs → AreInOrder lo rs hi
in_order_if_no_fault lo hi [] top f s = tt
in_order_if_no_fault lo hi (r ∷ rs) top f s =
    let parts = no_fault_parts (range_fault lo hi r) (first_fault (r.end + 1) hi rs) f in
    let here = held_if_no_fault lo hi r parts.0 s.0 in
    let below : r.end < MAX = ⊎_elim (λ (l : r.end < MAX). l) (λ (l : MAX ≤ r.end). absurd (here.2 (omega (arith, here.1))))
    (cases_lt r.end MAX) in
    (here.0, s.0, here.1, below, in_order_if_no_fault (r.end + 1) hi rs top parts.1 s.1)

-- The space, and the state that is made.
new_space : (base size : ℕ) (first : AddressState) → size ≤ MAX → Makes base size (Ok first) →
    (first ≡ with_held (span base size) []) × IsRange base (base + size - 1) × ¬ (size ≡ 0) × ¬ (MAX < base + size - 1)
unfolding Makes
new_space base size first l h =
    ⊎_elim
    (λ a. absurd (cc (a.1)))
    (λ a. ⊎_elim
    (λ b. absurd (cc (b.1)))
    (λ b. ⊎_elim
    (λ (c : Ok first ≡ Ok (with_held (span base size) [])).
    (cc c, (omega (arith, a.0), omega (arith, b.0), λ z. omega (arith, a.0)), a.0, b.0))
    (λ c. absurd (cc c))
    b.1)
    a.1)
    h

made_held : (base size : ℕ) (held : List Range) (made : AddressState) → ¬ (size ≡ 0) → ¬ (MAX < base + size - 1) →
    MakesWithHeld base size held (Ok made) → MakesHeld (span base size) held (Ok made)
unfolding BySpace
made_held base size held made some fits h =
    ⊎_elim (λ a. absurd (some a.0)) (λ a. ⊎_elim (λ b. absurd (fits b.0)) (λ b. b.1) a.1) h

no_fault : (o : Option Error) (many : Type 0) (answer : Result AddressState Error) (state made : AddressState) →
    MatchOption o (IfElse many (answer ≡ Err Overflow) ((answer ≡ Ok state) ⊎ (answer ≡ Err OutOfMemory))) (λ fault. answer ≡ Err fault) →
    answer ≡ Ok made → o ≡ None
no_fault None many answer state made h e = refl
no_fault (Some f) many answer state made h e = absurd (cc (h, e))

held_no_fault : (space : Range) (held : List Range) (made : AddressState) → MakesHeld space held (Ok made) →
    first_fault space.start space.end held ≡ None
unfolding MakesHeld
held_no_fault space held made h =
    no_fault (first_fault space.start space.end held) (TOO_MANY_BLOCKS ≤ length (blocks_of (with_held space held))) (Ok made)
    (with_held space held) made h refl

-- The state of an allocator that is made with held ranges is valid.
all_are_some : (rs : List Range) → All (λ r. IsRange r.start r.end) rs → AreSome rs
all_are_some [] a = tt
all_are_some (r ∷ rs) a = ((All-head (λ r. IsRange r.start r.end) r rs a).0, all_are_some rs (All-tail (λ r. IsRange r.start r.end) r rs a))

pub held_state : (base size : ℕ) (held : List Range) (made : AddressState) → size ≤ MAX → All (λ r. IsRange r.start r.end) held →
    MakesWithHeld base size held (Ok made) → IsAddressState made
unfolding BySpace
held_state base size held made word all h =
    ⊎_elim
    (λ a. absurd (cc (a.1)))
    (λ a. ⊎_elim
    (λ b. absurd (cc (b.1)))
    (λ b.
    let space = span base size in
    let range : IsRange base (base + size - 1) = (omega (arith, a.0), omega (arith, b.0), λ z. omega (arith, a.0)) in
    let order = in_order_if_no_fault base (base + size - 1) held range.1 (held_no_fault space held made b.1) (all_are_some held all) in
    subst IsAddressState (sym (held_made space held made b.1)) (record { space = range; in_order = order }))
    a.1)
    h

pub held_is_equal : HeldIsEqual
held_is_equal base size held first new made word m e h =
    let space = span base size in
    let n = new_space base size first word m in
    let k = made_held base size held made n.2 n.3 h in
    let each : AllocatesEach (with_held space []) (exact_requests held) held new = subst
    (λ (v : AddressState). AllocatesEach v (exact_requests held) held new) n.0 e in
    let order = in_order_if_no_fault base (base + size - 1) held n.1.1 (held_no_fault space held made k)
    (allocated_are_some held (with_held space []) new each) in
    let valid : IsAddressState (with_held space held) = record { space = n.1; in_order = order } in
    let same : made ≡ new = held_made space held made k ∙ sym (held_as_allocated space held new valid each) in
    record { space = ap (λ (v : AddressState). v.space) same; held = ap (λ (v : AddressState). v.held) same }
