-- The number of held ids: the ids that were allocated at some time, without the freed ids. A list of different held ids
-- contains all of them if and only if it has this length.
use Rattle.std.proofs.Common.{
  ◌≡◌,
  ℕ,
  zero,
  suc,
  ◌+◌,
  ◌-◌,
  ◌<◌,
  ◌≤◌,
  Bool,
  true,
  false,
  cond,
  not,
  List,
  [],
  ◌∷◌,
  length,
  get_or,
  refl,
  sym,
  ap,
  ◌∙◌,
  subst,
  arith,
  ⊎_elim,
  Option,
  IsTrue,
  AllPairs,
  ◌≢◌,
  ◌↔◌,
}
use Rattle.std.proofs.lemmas.Bool.{cases_eq, both_ways, and_from, or_left, or_right}
use Rattle.std.proofs.lemmas.List.Elements.{All-head, All-tail, All-from_recursion}
use Rattle.std.proofs.lemmas.List.FromFn.{length-range_with_len}
use Rattle.std.proofs.lemmas.Map.Keys.{IsDistinct-from_sorted}
use Rattle.std.proofs.lemmas.Map.Made.{is_member-Decides, IsDistinct-from_AllPairs}
use Rattle.std.specs.Bool.{Decides}
use Rattle.std.specs.List.{All, AllByRecursion, Contains, IsDistinct, range_with_len, list_any}
use Rattle.std.specs.Ordering.{nat_cmp, eq_by_cmp}
use Rattle.std.specs.Cmp.{nat_cmp_total}
use Rattle.std.specs.BTreeSet.{BTreeSet, btree_set_len, IsOrdered}
use Rattle.std.specs.FinSet as set
use Rattle.vm_ranges.proofs.NumberSets.{tied_here, tied_is, apart_not_tied, same_members, removed_other}
use Rattle.vm_ids.specs.Ids.{IdState, IsHeld, held_count, bound_of, unfreed_ids, ids_of, AreIds}
use Rattle.vm_ranges.proofs.Listed.{Differ, listed_is, each_listed}
use Rattle.vm_ids.proofs.Ids.IdSets.{row_test, inserted_test, removed_test, bound_above}

-- ---- A set of different numbers
abbrev same : ℕ → ℕ → Bool
same = eq_by_cmp nat_cmp

none_same : (i : ℕ) (is : List ℕ) → AllByRecursion (λ j. same i j ≡ false) is → list_any (same i) is ≡ false
none_same i [] a = refl
none_same i (j ∷ js) a = rw (a.0, none_same i js a.1) refl

len-differing : (is : List ℕ) → IsDistinct same is → set.len (set.from_list {R = nat_cmp} is) ≡ length is
unfolding IsDistinct
len-differing [] d = set.len-empty nat_cmp
len-differing (i ∷ is) d =
    let rest = set.from_list {R = nat_cmp} is in
    let fresh : set.contains rest i ≡ false = set.contains-from_list nat_cmp_total is i ∙ none_same i is d.0 in
    let one_more : set.len (set.insert rest i) ≡ set.len rest + 1 =
    set.len-insert nat_cmp_total rest i ∙ ap (λ (b : Bool). cond b (set.len rest) (set.len rest + 1)) fresh in
    omega (arith, one_more, len-differing is d.1)

row_above : (n a i : ℕ) → i < a → AllByRecursion (λ j. same i j ≡ false) (range_with_len a n)
row_above zero a i l = tt
row_above (suc n) a i l = (apart_not_tied i a (λ e. omega arith), row_above n (a + 1) i (omega arith))

row_differs : (n a : ℕ) → IsDistinct same (range_with_len a n)
unfolding IsDistinct
row_differs zero a = tt
row_differs (suc n) a = (row_above n (a + 1) a (omega arith), row_differs n (a + 1))

-- ---- Numbers removed from a set
some_in : (s : set.FinSet nat_cmp) (i : ℕ) → IsTrue (set.contains s i) → 0 < set.len s
some_in s i h =
    ⊎_elim
    (λ (e : set.len s ≡ 0).
    let none : set.contains s i ≡ false = ap (λ (t : set.FinSet nat_cmp). set.contains t i) (set.empty_of_len s e)
    ∙ set.contains-empty nat_cmp i in
    absurd (both_ways _ none h))
    (λ (n : set.len s ≡ 0 → ⊥). omega arith)
    (cases_eq (set.len s) 0)

one_less : (s : set.FinSet nat_cmp) (i : ℕ) → IsTrue (set.contains s i) → set.len (set.remove s i) + 1 ≡ set.len s
one_less s i h =
    let left : set.len (set.remove s i) ≡ set.len s - 1 =
    set.len-remove nat_cmp_total s i ∙ ap (λ (b : Bool). cond b (set.len s - 1) (set.len s)) h in
    omega (arith, left, some_in s i h)

abbrev but_for : set.FinSet nat_cmp → List ℕ → set.FinSet nat_cmp
but_for s is = set.difference s (set.from_list is)

-- A number of a set that is removed in addition to others.
but_for_more : (s : set.FinSet nat_cmp) (i : ℕ) (is : List ℕ) → but_for s (i ∷ is) ≡ set.remove (but_for s is) i
but_for_more s i is =
    set.same_set nat_cmp_total set.nat_cmp-IsAntisymmetric (but_for s (i ∷ is)) (set.remove (but_for s is) i) (λ q.
    grind (arith, set.contains-difference nat_cmp_total, inserted_test, removed_test))

len-but_for : (s : set.FinSet nat_cmp) (is : List ℕ) → IsDistinct same is →
    ((i : ℕ) → list_any (same i) is ≡ true → IsTrue (set.contains s i)) → set.len (but_for s is) + length is ≡ set.len s
unfolding IsDistinct
len-but_for s [] d h =
    let same = set.same_set nat_cmp_total set.nat_cmp-IsAntisymmetric (but_for s []) s
    (λ q. grind (arith, set.contains-difference nat_cmp_total, set.contains-empty)) in
    omega (arith, ap set.len same)
len-but_for s (i ∷ is) d h =
    let here : IsTrue (set.contains (but_for s is) i) =
    set.contains-difference nat_cmp_total s (set.from_list is) i
    ∙ and_from _ _ (h i (or_left _ _ (tied_here i))) (ap not (set.contains-from_list nat_cmp_total is i ∙ none_same i is d.0)) in
    omega (arith, len-but_for s is d.1 (λ j m. h j (or_right _ _ m)), one_less (but_for s is) i here, ap set.len (but_for_more s i is))

-- ---- The held ids of an allocator
pub allocated_above : (lo hi : ℕ) (next : Option ℕ) (freed : BTreeSet ℕ) → AreIds lo hi next freed → lo ≤ bound_of next hi
allocated_above lo hi next freed a = bound_above lo hi next a.range a.next_id

held_and_freed : (lo hi : ℕ) (next : Option ℕ) (freed : BTreeSet ℕ) → AreIds lo hi next freed → IsOrdered nat_cmp freed →
    held_count (ids_of lo hi next freed) + btree_set_len freed ≡ bound_of next hi - lo
unfolding ids_of unfreed_ids
held_and_freed lo hi next freed a o =
    let n = bound_of next hi - lo in
    let cursor = set.from_list {R = nat_cmp} (range_with_len lo n) in
    let whole : set.len cursor ≡ n = len-differing (range_with_len lo n) (row_differs n lo) ∙ length-range_with_len lo n in
    let parts : set.len (but_for cursor freed.keys) + length freed.keys ≡ set.len cursor =
    len-but_for cursor freed.keys (IsDistinct-from_sorted nat_cmp freed.keys o) (λ i m.
    let was = a.freed_ids i m in
    set.contains-from_list nat_cmp_total (range_with_len lo n) i ∙ grind (arith, row_test, was)) in
    parts ∙ whole

pub freed_fit : (lo hi : ℕ) (next : Option ℕ) (freed : BTreeSet ℕ) → AreIds lo hi next freed → IsOrdered nat_cmp freed →
    btree_set_len freed ≤ bound_of next hi - lo
freed_fit lo hi next freed a o = omega (arith, held_and_freed lo hi next freed a o)

pub counted : (state : IdState) (lo hi : ℕ) (next : Option ℕ) (freed : BTreeSet ℕ) → ids_of lo hi next freed ≡ state →
    AreIds lo hi next freed → IsOrdered nat_cmp freed → held_count state + btree_set_len freed ≡ bound_of next hi - lo
counted state lo hi next freed e a o =
    subst (λ (s : IdState). held_count s + btree_set_len freed ≡ bound_of next hi - lo) e (held_and_freed lo hi next freed a o)

pub ruleset counts = (allocated_above, freed_fit, counted)

-- ---- A list of held ids
pub tells_apart : (i j : ℕ) → Decides (same i j) (i ≡ j)
tells_apart i j = (tied_is i j, λ e. subst (λ (v : ℕ). same i v ≡ true) e (tied_here i))

few_in : (is : List ℕ) (s : set.FinSet nat_cmp) → IsDistinct same is → All (λ i. IsTrue (set.contains s i)) is → length is ≤ set.len s
unfolding IsDistinct
few_in [] s d a = omega arith
few_in (i ∷ is) s d a =
    let others : All (λ j. same i j ≡ false) is = All-from_recursion (λ j. same i j ≡ false) is d.0 in
    let rest = few_in is (set.remove s i) d.1 (λ k e l.
    removed_other s i (get_or is k e)
    (λ (q : get_or is k e ≡ i). both_ways _ (others k e l) (subst (λ (v : ℕ). same i v ≡ true) (sym q) (tied_here i)))
    (All-tail (λ j. IsTrue (set.contains s j)) i is a k e l)) in
    omega (arith, rest, one_less s i (All-head (λ j. IsTrue (set.contains s j)) i is a))

as_many : (s : set.FinSet nat_cmp) (is : List ℕ) → Differ is → All (λ j. IsTrue (set.contains s j)) is →
    ((i : ℕ) → IsTrue (set.contains s i) → Contains is i) → length is ≡ set.len s
as_many s is d a each =
    let is_set : set.from_list is ≡ s =
    same_members (set.from_list is) s
    (λ q h. listed_is tells_apart (λ j. IsTrue (set.contains s j)) is q a (sym (set.contains-from_list nat_cmp_total is q) ∙ h))
    (λ q h. set.contains-from_list nat_cmp_total is q ∙ (is_member-Decides tells_apart is q).1 (each q h)) in
    sym (len-differing is (IsDistinct-from_AllPairs tells_apart is d)) ∙ ap set.len is_set

pub ids_listed : (state : IdState) (list : List ℕ) → AllPairs (λ i j. i ≢ j) list → All (IsHeld state) list →
    (length list ≡ held_count state) ↔ ((i : ℕ) → IsHeld state i → Contains list i)
ids_listed state list d a = (
  λ e i. each_listed tells_apart (IsHeld state) (held_count state)
      (λ is f h. few_in is state.held (IsDistinct-from_AllPairs tells_apart is f) h) list i d a e,
  as_many state.held list d a,
)

pub ruleset listings = (ids_listed)
