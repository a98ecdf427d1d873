-- Several requests have one result and one next state, unless memory runs out.
use Rattle.std.proofs.Common.{◌≡◌, ◌⊎◌, List, [], ◌∷◌, refl, sym, ap, ◌∙◌, inl, inr, ⊎_elim, subst, Result, Ok, Err}
use Rattle.vm_ranges.specs.Range.{Range}
use Rattle.vm_ranges.specs.Request.{Request}
use Rattle.vm_ranges.specs.declared.error.Error.{Error}
use Rattle.vm_ranges.specs.declared.error.Error.TheVariants.{OutOfMemory}
use Rattle.vm_ranges.specs.Address.{AddressState}
use Rattle.vm_ranges.specs.Answer.{Allocates}
use Rattle.vm_addresses.specs.Facts.{AgreeUnlessMemory}
use Rattle.vm_addresses.proofs.Results.Once.{allocates_once}
use Rattle.vm_addresses.specs.Several.{AllocatesEach, RefusesOne, AllocatesAll}

-- ---- One request
given_once : (old mid after : AddressState) (q : Request) (r p : Range) → Allocates old q (Ok r) mid → Allocates old q (Ok p) after →
    (r ≡ p) × (mid ≡ after)
given_once old mid after q r p a b =
    ⊎_elim
    (λ same. let e = same.0 in (cc, same.1))
    (λ m. absurd (⊎_elim (λ e. cc e) (λ e. cc e) m))
    (allocates_once old mid after q (Ok r) (Ok p) a b)

given_or_refused : (old mid after : AddressState) (q : Request) (r : Range) (e : Error) → Allocates old q (Ok r) mid →
    Allocates old q (Err e) after → e ≡ OutOfMemory
given_or_refused old mid after q r e a b =
    ⊎_elim
    (λ same. absurd (cc (same.0)))
    (λ m. ⊎_elim (λ k. absurd (cc k)) (λ k. cc k) m)
    (allocates_once old mid after q (Ok r) (Err e) a b)

-- ---- A list of requests
pub each_once : (qs : List Request) (rs ps : List Range) (old new later : AddressState) → AllocatesEach old qs rs new →
    AllocatesEach old qs ps later → (rs ≡ ps) × (new ≡ later)
each_once [] [] [] old new later a b = (refl, a ∙ sym b)
each_once [] [] (p ∷ ps) old new later a b = absurd b
each_once [] (r ∷ rs) ps old new later a b = absurd a
each_once (q ∷ qs) [] ps old new later a b = absurd a
each_once (q ∷ qs) (r ∷ rs) [] old new later a b = absurd b
each_once (q ∷ qs) (r ∷ rs) (p ∷ ps) old new later a b =
    let same = given_once old a.0 b.0 q r p a.1 b.1 in
    let rest = each_once qs rs ps a.0 new later a.2 (subst (λ (v : AddressState). AllocatesEach v qs ps later) (sym same.1) b.2) in
    (ap (λ (v : Range). v ∷ rs) same.0 ∙ ap (λ (v : List Range). p ∷ v) rest.0, rest.1)

each_or_refused : (qs : List Request) (rs : List Range) (old new : AddressState) (e : Error) → AllocatesEach old qs rs new →
    RefusesOne old qs e → e ≡ OutOfMemory
each_or_refused [] rs old new e a b = absurd b
each_or_refused (q ∷ qs) [] old new e a b = absurd a
each_or_refused (q ∷ qs) (r ∷ rs) old new e a (inl b) = given_or_refused old a.0 old q r e a.1 b
each_or_refused (q ∷ qs) (r ∷ rs) old new e a (inr k) =
    let same = given_once old a.0 k.1 q r k.0 a.1 k.2 in
    each_or_refused qs rs a.0 new e a.2 (subst (λ (v : AddressState). RefusesOne v qs e) (sym same.1) k.3)

refused_once : (qs : List Request) (old : AddressState) (e f : Error) → RefusesOne old qs e → RefusesOne old qs f →
    (e ≡ f) ⊎ ((e ≡ OutOfMemory) ⊎ (f ≡ OutOfMemory))
refused_once [] old e f a b = absurd a
refused_once (q ∷ qs) old e f (inl a) (inl b) =
    ⊎_elim
    (λ same. let g = same.0 in inl (cc))
    (λ m. inr (⊎_elim (λ k. inl (cc k)) (λ k. inr (cc k)) m))
    (allocates_once old old old q (Err e) (Err f) a b)
refused_once (q ∷ qs) old e f (inl a) (inr k) = inr (inl (given_or_refused old k.1 old q k.0 e k.2 a))
refused_once (q ∷ qs) old e f (inr k) (inl b) = inr (inr (given_or_refused old k.1 old q k.0 f k.2 b))
refused_once (q ∷ qs) old e f (inr k) (inr l) =
    let same = given_once old k.1 l.1 q k.0 l.0 k.2 l.2 in
    refused_once qs k.1 e f k.3 (subst (λ (v : AddressState). RefusesOne v qs f) (sym same.1) l.3)

-- ---- The call
pub all_once : (qs : List Request) (old new later : AddressState) (answer other : Result (List Range) Error) →
    AllocatesAll old qs answer new → AllocatesAll old qs other later → AgreeUnlessMemory answer new other later
all_once qs old new later (Ok rs) (Ok ps) a b = let same = each_once qs rs ps old new later a b in inl
    (ap (λ (v : List Range). Ok v) same.0, same.1)
all_once qs old new later (Ok rs) (Err f) a (e, inl m) = inr (inr (ap (λ (v : Error). Err v) m))
all_once qs old new later (Ok rs) (Err f) a (e, inr b) = inr (inr (ap (λ (v : Error). Err v) (each_or_refused qs rs old new f a b)))
all_once qs old new later (Err f) (Ok ps) (e, inl m) b = inr (inl (ap (λ (v : Error). Err v) m))
all_once qs old new later (Err f) (Ok ps) (e, inr a) b = inr (inl (ap (λ (v : Error). Err v) (each_or_refused qs ps old later f b a)))
all_once qs old new later (Err f) (Err g) (e, inl m) b = inr (inl (ap (λ (v : Error). Err v) m))
all_once qs old new later (Err f) (Err g) (e, inr a) (h, inl m) = inr (inr (ap (λ (v : Error). Err v) m))
all_once qs old new later (Err f) (Err g) (e, inr a) (h, inr b) =
    ⊎_elim
    (λ (same : f ≡ g). inl (ap (λ (v : Error). Err v) same, e ∙ sym h))
    (λ n. inr (⊎_elim (λ m. inl (ap (λ (v : Error). Err v) m)) (λ m. inr (ap (λ (v : Error). Err v) m)) n))
    (refused_once qs old f g a b)
