-- Several requests, as one request and as two lists of requests.
use Rattle.std.proofs.Common.{◌≡◌, ◌⊎◌, List, [], ◌∷◌, ◌++◌, length, refl, sym, ap, subst, arith, inl, inr, ⊎_elim, Ok, Err}
use Rattle.vm_ranges.specs.Range.{Range}
use Rattle.vm_ranges.specs.Request.{Request}
use Rattle.vm_ranges.specs.Address.{AddressState}
use Rattle.vm_ranges.specs.Answer.{Allocates}
use Rattle.vm_addresses.specs.Several.{AllocatesEach, RefusesOne, FailsAll}
use Rattle.vm_addresses.specs.Histories.AddressHistories.{IsHistoryFrom}
use Rattle.vm_laws.specs.SeveralLaws.{OneIsAllocated, PartsAreAllocatedInTurn, FailureChangesNothing}
use Rattle.vm_ranges.specs.declared.error.Error.{Error}
use Rattle.vm_ranges.specs.declared.error.Error.TheVariants.{OutOfMemory}

-- ---- One request
one_failed : (old new : AddressState) (q : Request) (e : Error) → FailsAll old (q ∷ []) e new →
    (e ≡ OutOfMemory) ⊎ Allocates old q (Err e) new
one_failed old new q e (same, inl memory) = inl memory
one_failed old new q e (same, inr (inl a)) = inr (subst (λ (v : AddressState). Allocates old q (Err e) v) (sym same) a)
one_failed old new q e (same, inr (inr k)) = absurd k.3

pub one_is_allocated : OneIsAllocated
one_is_allocated = record {
  allocated = λ old new q r. (
    λ h. subst (λ (v : AddressState). Allocates old q (Ok r) v) (sym h.2) h.1,
    λ h. (new, h, refl),
  );
  failed = one_failed;
}

-- ---- Two lists of requests
-- Both lists are allocated, one after the other.
abbrev BothAre : AddressState → List Request → List Request → List Range → List Range → AddressState → Type 0
BothAre old first second rs qs new = (mid : AddressState) × AllocatesEach old first rs mid × AllocatesEach mid second qs new

split : (first second : List Request) (rs qs : List Range) (old new : AddressState) → length rs ≡ length first →
    AllocatesEach old (first ++ second) (rs ++ qs) new → BothAre old first second rs qs new
split [] second [] qs old new l h = (old, refl, h)
split [] second (r ∷ rs) qs old new l h = absurd (omega arith)
split (x ∷ first) second [] qs old new l h = absurd (omega arith)
split (x ∷ first) second (r ∷ rs) qs old new l h =
    let i = split first second rs qs h.0 new (omega arith) h.2 in (i.0, (h.0, h.1, i.1), i.2)

joined : (first second : List Request) (rs qs : List Range) (old mid new : AddressState) → AllocatesEach old first rs mid →
    AllocatesEach mid second qs new → AllocatesEach old (first ++ second) (rs ++ qs) new
joined [] second [] qs old mid new a b = subst (λ (v : AddressState). AllocatesEach v second qs new) a b
joined [] second (r ∷ rs) qs old mid new a b = absurd a
joined (x ∷ first) second [] qs old mid new a b = absurd a
joined (x ∷ first) second (r ∷ rs) qs old mid new a b = (a.0, a.1, joined first second rs qs a.0 mid new a.2 b)

-- The first list is refused, or else the second one.
abbrev OneIs : AddressState → List Request → List Request → Error → Type 0
OneIs old first second e =
    RefusesOne old first e
    ⊎ ((rs : List Range) × (mid : AddressState) × AllocatesEach old first rs mid × RefusesOne mid second e)

split_refused : (first second : List Request) (old : AddressState) (e : Error) → RefusesOne old (first ++ second) e →
    OneIs old first second e
split_refused [] second old e h = inr ([], old, refl, h)
split_refused (x ∷ first) second old e (inl a) = inl (inl a)
split_refused (x ∷ first) second old e (inr k) =
    ⊎_elim
    (λ (i : RefusesOne k.1 first e). inl (inr (k.0, k.1, k.2, i)))
    (λ i. inr (k.0 ∷ i.0, i.1, (k.1, k.2, i.2), i.3))
    (split_refused first second k.1 e k.3)

refused_first : (first second : List Request) (old : AddressState) (e : Error) → RefusesOne old first e → RefusesOne old (first ++ second) e
refused_first [] second old e h = absurd h
refused_first (x ∷ first) second old e (inl a) = inl a
refused_first (x ∷ first) second old e (inr k) = inr (k.0, k.1, k.2, refused_first first second k.1 e k.3)

refused_second : (first second : List Request) (rs : List Range) (old mid : AddressState) (e : Error) → AllocatesEach old first rs mid →
    RefusesOne mid second e → RefusesOne old (first ++ second) e
refused_second [] second [] old mid e a h = subst (λ (v : AddressState). RefusesOne v second e) a h
refused_second [] second (r ∷ rs) old mid e a h = absurd a
refused_second (x ∷ first) second [] old mid e a h = absurd a
refused_second (x ∷ first) second (r ∷ rs) old mid e a h = inr (r, a.0, a.1, refused_second first second rs a.0 mid e a.2 h)

pub parts_are_allocated_in_turn : PartsAreAllocatedInTurn
parts_are_allocated_in_turn = record {
  allocated = λ old new first second rs qs l. (
    λ h. split first second rs qs old new l h,
    λ h. joined first second rs qs old h.0 new h.1 h.2,
  );
  refused = λ old first second e. (
    λ h. split_refused first second old e h,
    λ h. ⊎_elim (λ a. refused_first first second old e a) (λ k. refused_second first second k.0 old k.1 e k.2 k.3) h,
  );
}

pub failure_changes_nothing : FailureChangesNothing
failure_changes_nothing = record {
  state = λ old new requests e h. h.0;
  equal = λ old new requests e h. record { space = ap (λ (v : AddressState). v.space) h.0; held = ap (λ (v : AddressState). v.held) h.0 };
  later = λ old new last requests e calls h. (
    λ k. subst (λ (v : AddressState). IsHistoryFrom v calls last) h.0 k,
    λ k. subst (λ (v : AddressState). IsHistoryFrom v calls last) (sym h.0) k,
  );
}
