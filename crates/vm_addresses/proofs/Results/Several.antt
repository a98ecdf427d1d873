-- Several requests, and the frees of their ranges in the opposite order.
use Rattle.std.proofs.Common.{
  ◌≡◌,
  ℕ,
  ◌+◌,
  ◌<◌,
  List,
  [],
  ◌∷◌,
  ◌++◌,
  length,
  take,
  drop,
  get_or,
  refl,
  sym,
  ap,
  ◌∙◌,
  subst,
  zero,
  suc,
  arith,
  inl,
  inr,
  Result,
  Ok,
  Err,
}
use Rattle.std.proofs.Math.Seq.{drop-cons, drop-length}
use Rattle.std.proofs.lemmas.List.{take-append-drop, append-nil, length-take-le}
use Rattle.vm_ranges.specs.Range.{Range}
use Rattle.vm_ranges.specs.Request.{Request}
use Rattle.vm_ranges.specs.Address.{AddressState, IsAddressState}
use Rattle.vm_ranges.specs.Answer.{Allocates, Frees}
use Rattle.vm_addresses.specs.Several.{FailsAtIndex, AllocatesEach, RefusesOne}
use Rattle.vm_ranges.specs.declared.error.Error.{Error}
use Rattle.vm_addresses.proofs.Results.AddressResults.{allocated_state, freeing_undoes}

-- ---- One request more
each_more : (qs : List Request) (rs : List Range) (old mid new : AddressState) (q : Request) (r : Range) → AllocatesEach old qs rs mid →
    Allocates mid q (Ok r) new → AllocatesEach old (qs ++ q ∷ []) (rs ++ r ∷ []) new
each_more [] [] old mid new q r e a = (new, subst (λ (v : AddressState). Allocates v q (Ok r) new) e a, refl)
each_more [] (y ∷ rs) old mid new q r e a = absurd e
each_more (x ∷ qs) [] old mid new q r e a = absurd e
each_more (x ∷ qs) (y ∷ rs) old mid new q r e a = (e.0, e.1, each_more qs rs e.0 mid new q r e.2 a)

one_refused : (qs : List Request) (rs : List Range) (old mid : AddressState) (q : Request) (more : List Request) (e : Error) →
    AllocatesEach old qs rs mid → Allocates mid q (Err e) mid → RefusesOne old (qs ++ q ∷ more) e
one_refused [] [] old mid q more e s a = inl (subst (λ (v : AddressState). Allocates v q (Err e) v) s a)
one_refused [] (y ∷ rs) old mid q more e s a = absurd s
one_refused (x ∷ qs) [] old mid q more e s a = absurd s
one_refused (x ∷ qs) (y ∷ rs) old mid q more e s a = inr (y, s.0, s.1, one_refused qs rs s.0 mid q more e s.2 a)

-- After the last range is freed, the state is the one before its request.
pub last_undone : (rs : List Range) (qs : List Request) (old mid new : AddressState) (r : Range) (answer : Result (Unit {0}) Error) →
    IsAddressState old → AllocatesEach old qs (rs ++ r ∷ []) mid → Frees mid r answer new →
    (ps : List Request) × AllocatesEach old ps rs new
last_undone [] [] old mid new r answer i e f = absurd e
last_undone [] (q ∷ []) old mid new r answer i e f =
    let a : Allocates old q (Ok r) mid = subst (λ (v : AddressState). Allocates old q (Ok r) v) (sym e.2) e.1 in
    ([], (freeing_undoes old mid new q r answer i a f).1)
last_undone [] (q ∷ p ∷ qs) old mid new r answer i e f = absurd e.2
last_undone (x ∷ rs) [] old mid new r answer i e f = absurd e
last_undone (x ∷ rs) (q ∷ qs) old mid new r answer i e f =
    let rest = last_undone rs qs e.0 mid new r answer (allocated_state old e.0 q (Ok x) i e.1) e.2 f in
    (q ∷ rest.0, (e.0, e.1, rest.1))

pub none_given : (qs : List Request) (old new : AddressState) → AllocatesEach old qs [] new → new ≡ old
none_given [] old new e = e
none_given (q ∷ qs) old new e = absurd e

-- ---- The first requests of a list
take_more : {A : Type 0} (xs : List A) (i : ℕ) (x : A) → i < length xs → x ≡ get_or xs i x → take (suc i) xs ≡ take i xs ++ x ∷ []
take_more [] i x l e = absurd (omega arith)
take_more (y ∷ xs) zero x l e = ap (λ v. v ∷ []) (sym e)
take_more (y ∷ xs) (suc i) x l e = ap (λ v. y ∷ v) (take_more xs i x (omega arith) e)

cut_at : {A : Type 0} (xs : List A) (i : ℕ) (x : A) → i < length xs → x ≡ get_or xs i x → xs ≡ take i xs ++ x ∷ drop (suc i) xs
cut_at xs i x l e = sym (take-append-drop i xs) ∙ ap (λ v. take i xs ++ v) (drop-cons xs i x l ∙ ap (λ v. v ∷ drop (suc i) xs) (sym e))

pub all_taken : (qs : List Request) (i : ℕ) (rs : List Range) (old new : AddressState) → i ≡ length qs →
    AllocatesEach old (take i qs) rs new → AllocatesEach old qs rs new
all_taken qs i rs old new e s =
    let none : drop i qs ≡ [] = ap (λ (v : ℕ). drop v qs) e ∙ drop-length qs in
    let same : take i qs ≡ qs = sym (append-nil (take i qs)) ∙ ap (λ (v : List Request). take i qs ++ v) (sym none)
    ∙ take-append-drop i qs in
    subst (λ (v : List Request). AllocatesEach old v rs new) same s

pub one_more : (all : List Request) (i : ℕ) (rs : List Range) (old mid new : AddressState) (q : Request) (r : Range) → i < length all →
    q ≡ get_or all i q → AllocatesEach old (take i all) rs mid → Allocates mid q (Ok r) new →
    AllocatesEach old (take (i + 1) all) (rs ++ r ∷ []) new
one_more all i rs old mid new q r l e s a =
    let next : i + 1 ≡ suc i = omega arith in
    subst (λ (v : List Request). AllocatesEach old v (rs ++ r ∷ []) new) (sym (ap (λ (n : ℕ). take n all) next ∙ take_more all i q l e))
    (each_more (take i all) rs old mid new q r s a)

pub refused_by : (old : AddressState) (all : List Request) (i : ℕ) (e : Error) → FailsAtIndex old all i e → RefusesOne old all e
refused_by old all i e h = subst (λ (v : List Request). RefusesOne old v e) (sym h.cut)
    (one_refused h.before h.ranges old h.state h.request h.after e h.each h.fails)

pub failed_at : (all : List Request) (i : ℕ) (rs : List Range) (old mid new : AddressState) (q : Request) (e : Error) → i < length all →
    q ≡ get_or all i q → AllocatesEach old (take i all) rs mid → Allocates mid q (Err e) new → new ≡ mid → FailsAtIndex old all i e
failed_at all i rs old mid new q e l is s a same = record {
  before = take i all;
  request = q;
  after = drop (suc i) all;
  cut = cut_at all i q l is;
  index_is = sym (length-take-le i all (omega arith));
  ranges = rs;
  state = mid;
  each = s;
  fails = subst (λ (v : AddressState). Allocates mid q (Err e) v) same a;
}
