-- A space in which given ranges are free.
use Rattle.std.proofs.Common.{
  ◌≡◌,
  ◌↔◌,
  ℕ,
  ◌+◌,
  ◌-◌,
  ◌*◌,
  ◌<◌,
  ◌≤◌,
  ◌^◌,
  ◌⊎◌,
  List,
  [],
  ◌∷◌,
  ◌++◌,
  length,
  get_or,
  drop,
  Option,
  Some,
  None,
  MatchOption,
  Result,
  Ok,
  Err,
  IfOk,
  IfErr,
  refl,
  sym,
  ap,
  ◌∙◌,
  subst,
  arith,
  inl,
  inr,
  ⊎_elim,
}
use Rattle.std.proofs.lemmas.Bool.{cases_eq, cases_lt, lt-ltb, le-ltb, ne_eqb}
use Rattle.std.proofs.lemmas.List.{length-append, append_assoc, drop_more}
use Rattle.std.proofs.lemmas.List.Elements.{All-nil, All-cons, All-head, All-tail}
use Rattle.std.specs.List.{All, Contains}
use Rattle.vm_ranges.specs.Cases.{Unless}
use Rattle.vm_ranges.specs.Range.{Range, MAX, IsRange, IsIn, span}
use Rattle.vm_ranges.specs.Address.{AddressState, IsClear}
use Rattle.vm_addresses.specs.Allocator.{state_of, made_state}
use Rattle.vm_ranges.specs.ListErrors.{by_error}
use Rattle.vm_ranges.specs.declared.error.ListError.{ListError}
use Rattle.vm_space.specs.Shape.{Shape}
use Rattle.vm_addresses.specs.Held.{first_fault, fault_index, BySpace, MakesHeld}
use Rattle.vm_leaf.specs.Block.{held_block}
use Rattle.vm_leaf.specs.SpaceBlocks.{blocks_between, gap_before}
use Rattle.vm_ranges.specs.declared.error.Error.{Error}
use Rattle.vm_ranges.specs.declared.error.Error.TheVariants.{Overflow, OutOfMemory, ResourceNotAvailable, InvalidRange}
use Rattle.vm_addresses.proofs.Trees.HeldTrees.{held_made, makes_high, makes_memory}
use Rattle.vm_leaf.proofs.Spaces.Tilings.{gap}
use Rattle.vm_ranges.proofs.PlainWords.{IsHeldAddress, contains_held, held_contains, held_address, all_miss, none_holds}
use Rattle.vm_ranges.specs.Making.{MakesRange}
use Rattle.vm_addresses.specs.Checks.FreeChecks.{AreRanges, ChecksFree}
use Rattle.vm_addresses.specs.Holes.{holes_after, last_range_end, wrong_index, MakesWithFree}
use Rattle.vm_addresses.proofs.Callers.{range_of}
use Rattle.vm_addresses.specs.Histories.AddressHistories.{IsMadeWithHeld}

-- ---- One range after another
-- A range that starts too low.
pub wrong_here : (i next : ℕ) (r : Range) (rs : List Range) → r.start < next → wrong_index i next (r ∷ rs) ≡ Some i
wrong_here i next r rs l = rw (lt-ltb r.start next l) refl

pub right_here : (i next : ℕ) (r : Range) (rs : List Range) → next ≤ r.start →
    wrong_index i next (r ∷ rs) ≡ wrong_index (i + 1) (r.end + 1) rs
right_here i next r rs l = rw (le-ltb r.start next l) refl

pub hole_here : (next : ℕ) (r : Range) (rs : List Range) → next < r.start →
    holes_after next (r ∷ rs) ≡ record { start = next; end = r.start - 1 } ∷ holes_after (r.end + 1) rs
hole_here next r rs l = rw (lt-ltb next r.start l) refl

pub no_hole : (next : ℕ) (r : Range) (rs : List Range) → r.start ≤ next → holes_after next (r ∷ rs) ≡ holes_after (r.end + 1) rs
no_hole next r rs l = rw (le-ltb next r.start l) refl

-- A list in order: its first range is, and so are the others.
pub in_order_first : (i next : ℕ) (r : Range) (rs : List Range) → wrong_index i next (r ∷ rs) ≡ None → next ≤ r.start
in_order_first i next r rs e =
    ⊎_elim (λ (l : r.start < next). absurd (cc (e, wrong_here i next r rs l))) (λ (l : next ≤ r.start). l) (cases_lt r.start next)

pub in_order_rest : (i next : ℕ) (r : Range) (rs : List Range) → wrong_index i next (r ∷ rs) ≡ None →
    wrong_index (i + 1) (r.end + 1) rs ≡ None
in_order_rest i next r rs e = sym (right_here i next r rs (in_order_first i next r rs e)) ∙ e

-- The ranges that are left begin with the range at the index.
pub next_range : (all : List Range) (i : ℕ) (r : Range) → i < length all → r ≡ get_or all i r → drop i all ≡ r ∷ drop (i + 1) all
next_range all i r l is = drop_more all i r l ∙ ap (λ (v : Range). v ∷ drop (i + 1) all) (sym is)

-- The first hole, which `new` made, and then the holes of the rest.
pub hole_made : (hs rs : List Range) (end start : ℕ) (r hole : Range) → start ≡ r.start → MakesRange (end + 1) (start - 1) (Ok hole) →
    hs ++ holes_after (end + 1) (r ∷ rs) ≡ (hs ++ hole ∷ []) ++ holes_after (r.end + 1) rs
hole_made hs rs end start r hole is made =
    let k : IsRange (end + 1) (start - 1) × (hole ≡ record { start = end + 1; end = start - 1 }) = ⊎_elim (λ u. absurd (cc (u.1)))
    (λ u. (u.0, cc (u.1))) made in
    let first : holes_after (end + 1) (r ∷ rs) ≡ hole ∷ holes_after (r.end + 1) rs = rw (k.1, is)
    (hole_here (end + 1) r rs (omega (arith, k.0.0, is))) in
    ap (λ (v : List Range). hs ++ v) first ∙ sym (append_assoc hs (hole ∷ []) (holes_after (r.end + 1) rs))

-- No hole, if `new` made none.
pub none_made : (hs rs : List Range) (end start : ℕ) (r : Range) (e : Error) → start ≡ r.start → start < 2 ^ 64 →
    MakesRange (end + 1) (start - 1) (Err e) →
    hs ++ holes_after (end + 1) (r ∷ rs) ≡ hs ++ holes_after (r.end + 1) rs
none_made hs rs end start r e is word made =
    let none : ¬ IsRange (end + 1) (start - 1) = ⊎_elim (λ u. u.0) (λ u. absurd (cc (u.1))) made in
    let low : r.start ≤ end + 1 = ⊎_elim
    (λ (l : end + 1 < r.start). absurd (none (omega (arith, l, is), omega (arith, word), λ z. omega (arith, z))))
    (λ (l : r.start ≤ end + 1). l) (cases_lt (end + 1) r.start) in
    ap (λ (v : List Range). hs ++ v) (no_hole (end + 1) r rs low)

-- The lists of a list in order end at its last range.
last_above : (i end : ℕ) (rs : List Range) → wrong_index i (end + 1) rs ≡ None → AreRanges rs → end ≤ last_range_end end rs
last_above i end [] e v = omega arith
last_above i end (r ∷ rs) e v =
    let l = in_order_first i (end + 1) r rs e in
    let some = v.0 in
    let m = last_above (i + 1) r.end rs (in_order_rest i (end + 1) r rs e) v.1 in
    omega (arith, l, some.0, m)

-- ---- The holes can be held
-- A hole that starts at lo or above and ends below hi can be held.
hole_fits : (lo hi s e : ℕ) (hs : List Range) → lo ≤ s → s ≤ e → e < hi → hi ≤ MAX →
    first_fault lo hi (record { start = s; end = e } ∷ hs) ≡ first_fault (e + 1) hi hs
hole_fits lo hi s e hs l o h m =
    rw (
      le-ltb s lo l,
      ne_eqb s MAX (λ x. omega (arith, x, o, h, m)),
      le-ltb hi e (omega (arith, h)),
      ne_eqb e MAX
          (λ x. omega (arith, x, h, m)),
    ) refl

index_fits : (i lo hi s e : ℕ) (hs : List Range) → lo ≤ s → s ≤ e → e < hi → hi ≤ MAX →
    fault_index i lo hi (record { start = s; end = e } ∷ hs) ≡ fault_index (i + 1) (e + 1) hi hs
index_fits i lo hi s e hs l o h m =
    rw (
      le-ltb s lo l,
      ne_eqb s MAX (λ x. omega (arith, x, o, h, m)),
      le-ltb hi e (omega (arith, h)),
      ne_eqb e MAX
          (λ x. omega (arith, x, h, m)),
    ) refl

-- The holes after a range that ends at `end` can be held in a space from lo to hi, and this is the number of its blocks.
record IsHoleList (lo end hi : ℕ) (hs : List Range) : Type 0 where
  pub faults : first_fault lo hi hs ≡ None
  pub index : (i : ℕ) → fault_index i lo hi hs ≡ None
  pub blocks : lo ≤ end → length (blocks_between lo hs hi) ≡ 2 * length hs + 1

-- A hole, and then the holes after the range r.
more_holes : (lo end hi : ℕ) (r : Range) (hs : List Range) → lo ≤ end + 1 → end + 1 < r.start → r.start ≤ r.end → r.end ≤ hi → hi ≤ MAX →
    IsHoleList r.start r.end hi hs → IsHoleList lo end hi (record { start = end + 1; end = r.start - 1 } ∷ hs)
more_holes lo end hi r hs l o some within m h =
    let next : r.start - 1 + 1 ≡ r.start = omega (arith, o) in
    record {
      faults = hole_fits lo hi (end + 1) (r.start - 1) hs l (omega (arith, o)) (omega (arith, o, some, within)) m
          ∙ ap (λ (v : ℕ). first_fault v hi hs) next ∙ h.faults;
      index = λ i. index_fits i lo hi (end + 1) (r.start - 1) hs l (omega (arith, o)) (omega (arith, o, some, within)) m
          ∙ ap (λ (v : ℕ). fault_index (i + 1) v hi hs) next ∙ h.index (i + 1);
      blocks = λ low.
          let one : length (gap_before lo (end + 1)) ≡ 1 = ap length (gap lo (end + 1) (omega (arith, low))) in
          let rest : length (blocks_between (r.start - 1 + 1) hs hi)
          ≡ 2 * length hs + 1 = ap (λ (v : ℕ). length (blocks_between v hs hi)) next ∙ h.blocks some in
          let both = length-append (gap_before lo (end + 1))
          (held_block (record { start = end + 1; end = r.start - 1 }) ∷ blocks_between (r.start - 1 + 1) hs hi) in
          omega (arith, both, one, rest);
    }

hole_list : (i lo end hi : ℕ) (rs : List Range) → wrong_index i (end + 1) rs ≡ None → AreRanges rs → lo ≤ end + 1 → last_range_end end rs ≤ hi →
    hi ≤ MAX → IsHoleList lo end hi (holes_after (end + 1) rs)
hole_list i lo end hi [] e v l h m = record {
  faults = refl;
  index = λ _. refl;
  blocks = λ low. ap length (gap lo (hi + 1) (omega (arith, low, h)));
}
hole_list i lo end hi (r ∷ rs) e v l h m =
    let first = in_order_first i (end + 1) r rs e in
    let rest = in_order_rest i (end + 1) r rs e in
    let some = v.0.0 in
    let others = v.1 in
    let within : r.end ≤ hi = omega (arith, last_above (i + 1) r.end rs rest others, h) in
    ⊎_elim
    (λ (o : end + 1 < r.start).
    let later = hole_list (i + 1) r.start r.end hi rs rest others (omega (arith, some)) h m in
    subst (IsHoleList lo end hi) (sym (hole_here (end + 1) r rs o))
    (more_holes lo end hi r (holes_after (r.end + 1) rs) l o some within m later))
    (λ (o : r.start ≤ end + 1).
    let later = hole_list (i + 1) lo r.end hi rs rest others (omega (arith, l, first, some)) h m in
    subst (IsHoleList lo end hi) (sym (no_hole (end + 1) r rs o))
    (record { faults = later.faults; index = later.index; blocks = λ low. later.blocks (omega (arith, low, first, some)) }))
    (cases_lt (end + 1) r.start)

-- ---- The clear addresses
-- An address of a list in order that starts at `next` is not below it.
not_before : (i next : ℕ) (rs : List Range) (x : ℕ) → wrong_index i next rs ≡ None → AreRanges rs → IsHeldAddress rs x → next ≤ x
not_before i next [] x e v h = absurd h
not_before i next (r ∷ rs) x e v h =
    let first = in_order_first i next r rs e in
    let some = v.0.0 in
    ⊎_elim
    (λ (k : IsIn r x). omega (arith, first, k.0))
    (λ (k : IsHeldAddress rs x). omega (arith, first, some, not_before (i + 1) (r.end + 1) rs x (in_order_rest i next r rs e) v.1 k))
    h

-- The addresses of the first hole, and of the others.
in_holes : (next : ℕ) (r : Range) (rs : List Range) (x : ℕ) →
    IsHeldAddress (holes_after next (r ∷ rs)) x ↔ (((next ≤ x) × (x < r.start)) ⊎ IsHeldAddress (holes_after (r.end + 1) rs) x)
in_holes next r rs x =
    let others = IsHeldAddress (holes_after (r.end + 1) rs) x in
    ⊎_elim
    (λ (o : next < r.start).
    subst (λ (v : List Range). IsHeldAddress v x ↔ (((next ≤ x) × (x < r.start)) ⊎ others)) (sym (hole_here next r rs o))
    (λ h. ⊎_elim (λ i. inl (i.0, omega (arith, i.1, o))) (λ k. inr k) h, λ h. ⊎_elim (λ i. inl (i.0, omega (arith, i.1))) (λ k. inr k) h))
    (λ (o : r.start ≤ next).
    subst (λ (v : List Range). IsHeldAddress v x ↔ (((next ≤ x) × (x < r.start)) ⊎ others)) (sym (no_hole next r rs o))
    (λ h. inr h, λ h. ⊎_elim (λ i. absurd (omega (arith, i.0, i.1, o))) (λ k. k) h))
    (cases_lt next r.start)

hole_not_before : (i next : ℕ) (rs : List Range) (x : ℕ) → wrong_index i next rs ≡ None → AreRanges rs →
    IsHeldAddress (holes_after next rs) x → next ≤ x
hole_not_before i next [] x e v h = absurd h
hole_not_before i next (r ∷ rs) x e v h =
    let first = in_order_first i next r rs e in
    let some = v.0.0 in
    ⊎_elim
    (λ k. k.0)
    (λ k. omega (arith, first, some, hole_not_before (i + 1) (r.end + 1) rs x (in_order_rest i next r rs e) v.1 k))
    ((in_holes next r rs x).0 h)

-- An address from `next` on is in one of the ranges if and only if it is in none of the holes, and not past the last range.
abbrev AreClearFrom : ℕ → ℕ → List Range → ℕ → Type 0
AreClearFrom next end rs x = ((x ≤ last_range_end end rs) × ¬ IsHeldAddress (holes_after next rs) x) ↔ IsHeldAddress rs x

clear_step : (i next end : ℕ) (r : Range) (rs : List Range) (x : ℕ) → wrong_index i next (r ∷ rs) ≡ None → AreRanges (r ∷ rs) → next ≤ x →
    (r.end < x → AreClearFrom (r.end + 1) r.end rs x) → AreClearFrom next end (r ∷ rs) x
clear_step i next end r rs x e v n later =
    let first = in_order_first i next r rs e in
    let rest = in_order_rest i next r rs e in
    let some = v.0.0 in
    let others = v.1 in
    let high = last_above (i + 1) r.end rs rest others in
    let holes = in_holes next r rs x in
    ⊎_elim
    (λ (low : x < r.start). (
      λ h. absurd (h.1 (holes.1 (inl (n, low)))),
      λ h. absurd (⊎_elim (λ (k : IsIn r x). omega (arith, low, k.0))
          (λ (k : IsHeldAddress rs x). omega (arith, low, some, not_before (i + 1) (r.end + 1) rs x rest others k)) h),
    ))
    (λ (low : r.start ≤ x).
    ⊎_elim
    (λ (above : r.end < x). (
      λ h. inr ((later above).0 (h.0, λ k. h.1 (holes.1 (inr k)))),
      λ h. ⊎_elim
          (λ (k : IsIn r x). absurd (omega (arith, above, k.1)))
          (λ (k : IsHeldAddress rs x). let c = (later above).1 k in (c.0, λ j. ⊎_elim (λ o. omega (arith, o.1, low)) c.1 (holes.0 j)))
          h,
    ))
    (λ (within : x ≤ r.end). (
      λ h. inl (low, within),
      λ h. (
        omega (arith, within, high),
        λ j. ⊎_elim (λ o. omega (arith, o.1, low))
            (λ k. omega (arith, within, hole_not_before (i + 1) (r.end + 1) rs x rest others k)) (holes.0 j),
      ),
    ))
    (cases_lt r.end x))
    (cases_lt x r.start)

clear_above : (i end : ℕ) (rs : List Range) (x : ℕ) → wrong_index i (end + 1) rs ≡ None → AreRanges rs → end < x →
    AreClearFrom (end + 1) end rs x
clear_above i end [] x e v above = (λ h. absurd (omega (arith, h.0, above)), λ h. absurd h)
clear_above i end (r ∷ rs) x e v above =
    clear_step i (end + 1) end r rs x e v (omega (arith, above))
    (λ past. clear_above (i + 1) r.end rs x (in_order_rest i (end + 1) r rs e) v.1 past)

-- An address of the space is clear if and only if it is in one of the free ranges.
pub free_clear : (r : Range) (rs : List Range) (x : ℕ) → wrong_index 0 0 (r ∷ rs) ≡ None → AreRanges (r ∷ rs) →
    IsClear (record { space = record { start = r.start; end = last_range_end r.end rs }; held = holes_after (r.end + 1) rs }) x
    ↔ ((q : Range) × Contains (r ∷ rs) q × IsIn q x)
free_clear r rs x e v =
    let rest = in_order_rest 0 0 r rs e in
    let others = v.1 in
    let here : wrong_index 0 r.start (r ∷ rs) ≡ None = right_here 0 r.start r rs (omega arith) ∙ rest in
    let same = no_hole r.start r rs (omega arith) in
    let step : r.start ≤ x →
    AreClearFrom r.start r.end (r ∷ rs) x = λ n. clear_step 0 r.start r.end r rs x here v n
    (λ past. clear_above 1 r.end rs x rest others past) in (
      λ c.
          let missed : ¬ IsHeldAddress (holes_after r.start (r ∷ rs)) x = subst (λ (v : List Range). ¬ IsHeldAddress v x) (sym same)
          (none_holds (holes_after (r.end + 1) rs) x c.1) in
          let q = range_of (r ∷ rs) x ((step c.0.0).0 (c.0.1, missed)) in
          (q.0, contains_held (r ∷ rs) q.0 q.1, q.2),
      λ q.
          let inside = held_address (r ∷ rs) q.0 x (held_contains (r ∷ rs) q.0 q.1) q.2 in
          let low : r.start ≤ x = not_before 0 r.start (r ∷ rs) x here v inside in
          let c = (step low).1 inside in
          ((low, c.0), all_miss (holes_after (r.end + 1) rs) x (subst (λ (v : List Range). ¬ IsHeldAddress v x) same c.1)),
    )

-- ---- The result of `with_free`
-- A list in order whose space is one.
pub record IsFreeList (r : Range) (rs : List Range) : Type 0 where
  pub right : wrong_index 1 (r.end + 1) rs ≡ None
  pub ranges : AreRanges (r ∷ rs)
  pub space : IsRange r.start (last_range_end r.end rs)

holes_fit : (r : Range) (rs : List Range) → IsFreeList r rs → IsHoleList r.start r.end (last_range_end r.end rs) (holes_after (r.end + 1) rs)
holes_fit r rs l = hole_list 1 r.start r.end (last_range_end r.end rs) rs l.right l.ranges.1 (omega (arith, l.ranges.0.0)) (omega arith)
    (omega (arith, l.space.1))

none_wrong : (r : Range) (rs : List Range) → IsFreeList r rs → wrong_index 0 0 (r ∷ rs) ≡ None
none_wrong r rs l = right_here 0 0 r rs (omega arith) ∙ l.right

-- The checks of the body accept only such a list.
pub list_checked : (r last : Range) (rs : List Range) (n : ℕ) (space : Range) → IsRange r.start r.end → ChecksFree r rs (Ok (last, n)) →
    MakesRange r.start last.end (Ok space) →
    IsFreeList r rs × (space ≡ record { start = r.start; end = last_range_end r.end rs })
list_checked r last rs n space some checks made =
    ⊎_elim
    (λ u. absurd (cc (u.1)))
    (λ u. (
      record { right = checks.0; ranges = (some, checks.3); space = subst (λ (v : ℕ). IsRange r.start v) checks.1 u.0 },
      let is : space ≡ record { start = r.start; end = last.end } = cc (u.1) in is
          ∙ ap (λ (v : ℕ). record { start = r.start; end = v }) checks.1,
    ))
    made

pub makes_of : (r : Range) (rs : List Range) (answer : Result AddressState Error) → IsFreeList r rs →
    MakesHeld (record { start = r.start; end = last_range_end r.end rs }) (holes_after (r.end + 1) rs) answer → MakesWithFree (r ∷ rs) answer
makes_of r rs answer l h = rw (none_wrong r rs l) (inr (l.space, h))

pub too_many : (r : Range) (rs : List Range) (n : ℕ) → IsFreeList r rs → n ≡ length (holes_after (r.end + 1) rs) → 2 ^ 48 ≤ n →
    MakesWithFree (r ∷ rs) (Err Overflow)
too_many r rs n l e many =
    let h = holes_fit r rs l in
    let blocks = h.blocks l.ranges.0.0 in
    makes_of r rs (Err Overflow) l
    (makes_high (record { start = r.start; end = last_range_end r.end rs }) (holes_after (r.end + 1) rs) (2 * n + 1) h.faults
    (omega (arith, blocks, e)) (omega (arith, many)))

pub no_memory : (r : Range) (rs : List Range) (n : ℕ) → IsFreeList r rs → n ≡ length (holes_after (r.end + 1) rs) → n < 2 ^ 48 →
    MakesWithFree (r ∷ rs) (Err OutOfMemory)
no_memory r rs n l e few =
    let h = holes_fit r rs l in
    let blocks = h.blocks l.ranges.0.0 in
    makes_of r rs (Err OutOfMemory) l
    (makes_memory (record { start = r.start; end = last_range_end r.end rs }) (holes_after (r.end + 1) rs) (2 * n + 1) h.faults
    (omega (arith, blocks, e)) (omega (arith, few)))

no_hole_index : (r : Range) (rs : List Range) → IsFreeList r rs →
    fault_index 0 r.start (last_range_end r.end rs) (holes_after (r.end + 1) rs) ≡ wrong_index 0 0 (r ∷ rs)
no_hole_index r rs l = (holes_fit r rs l).index 0 ∙ sym (none_wrong r rs l)

clear_in : (r : Range) (rs : List Range) (made : AddressState) (x : ℕ) → IsFreeList r rs →
    MakesHeld (record { start = r.start; end = last_range_end r.end rs }) (holes_after (r.end + 1) rs) (Ok made) →
    IsClear made x ↔ ((q : Range) × Contains (r ∷ rs) q × IsIn q x)
clear_in r rs made x l h =
    subst (λ (v : AddressState). IsClear v x ↔ ((q : Range) × Contains (r ∷ rs) q × IsIn q x))
    (sym (held_made (record { start = r.start; end = last_range_end r.end rs }) (holes_after (r.end + 1) rs) made h))
    (free_clear r rs x (none_wrong r rs l) l.ranges)

-- The same for the result of making the allocator.
pub no_index_named : (r : Range) (rs : List Range) (made : Result Shape ListError) → IsFreeList r rs →
    IfErr made (λ f. f.index ≡ fault_index 0 r.start (last_range_end r.end rs) (holes_after (r.end + 1) rs)) →
    IfErr made (λ f. f.index ≡ wrong_index 0 0 (r ∷ rs))
no_index_named r rs (Ok s) l e = tt
no_index_named r rs (Err f) l e = e ∙ no_hole_index r rs l

pub clear_if_made : (r : Range) (rs : List Range) (made : Result Shape ListError) → IsFreeList r rs →
    MakesHeld (record { start = r.start; end = last_range_end r.end rs }) (holes_after (r.end + 1) rs) (made_state (by_error made)) →
    IfOk made (λ s. (x : ℕ) → IsClear (state_of s) x ↔ ((q : Range) × Contains (r ∷ rs) q × IsIn q x))
clear_if_made r rs (Ok s) l h = λ x. clear_in r rs (state_of s) x l h
clear_if_made r rs (Err f) l h = tt

-- ---- Made with its holes held
holes_are_ranges : (i end : ℕ) (rs : List Range) → wrong_index i (end + 1) rs ≡ None → AreRanges rs →
    All (λ r. IsRange r.start r.end) (holes_after (end + 1) rs)
holes_are_ranges i end [] e v = All-nil (λ r. IsRange r.start r.end)
holes_are_ranges i end (r ∷ rs) e v =
    let rest = holes_are_ranges (i + 1) r.end rs (in_order_rest i (end + 1) r rs e) v.1 in
    ⊎_elim
    (λ (o : end + 1 < r.start).
    let hole : IsRange (end + 1) (r.start - 1) = (omega (arith, o), omega (arith, v.0.0, v.0.1), λ z. omega (arith, z)) in
    subst (All (λ r. IsRange r.start r.end)) (sym (hole_here (end + 1) r rs o))
    (All-cons (λ r. IsRange r.start r.end) (record { start = end + 1; end = r.start - 1 }) (holes_after (r.end + 1) rs) hole rest))
    (λ (o : r.start ≤ end + 1). subst (All (λ r. IsRange r.start r.end)) (sym (no_hole (end + 1) r rs o)) rest)
    (cases_lt (end + 1) r.start)

all_ranges : (rs : List Range) → All (λ r. IsRange r.start r.end) rs → AreRanges rs
all_ranges [] v = tt
all_ranges (r ∷ rs) v = (All-head (λ r. IsRange r.start r.end) r rs v, all_ranges rs (All-tail (λ r. IsRange r.start r.end) r rs v))

-- The cases of an allocator that is made.
made_cases : (o : Option ℕ) (range : Type 0) (bad : Error) (held : Result AddressState Error → Type 0) (answer : Result AddressState Error)
    (made : AddressState) → MatchOption o (Unless range (answer ≡ Err bad) (held answer)) (λ index. answer ≡ Err ResourceNotAvailable) →
    answer ≡ Ok made → (o ≡ None) × range × held answer
made_cases None range bad held answer made h e = ⊎_elim (λ u. absurd (cc (u.1, e))) (λ k. (refl, k.0, k.1)) h
made_cases (Some i) range bad held answer made h e = absurd (cc (h, e))

pub free_is_held : (free : List Range) (made : AddressState) → All (λ r. IsRange r.start r.end) free →
    MakesWithFree free (Ok made) → IsMadeWithHeld made
unfolding BySpace
free_is_held [] made v m = absurd (cc m)
free_is_held (r ∷ rs) made v m =
    let last = last_range_end r.end rs in
    let k = made_cases (wrong_index 0 0 (r ∷ rs)) (IsRange r.start last) (InvalidRange r.start last)
    (MakesHeld (record { start = r.start; end = last }) (holes_after (r.end + 1) rs)) (Ok made) made m refl in
    let space : record { start = r.start; end = last }
    ≡ span r.start (last - r.start + 1) = ap (λ (e : ℕ). record { start = r.start; end = e }) (omega (arith, k.1.0)) in
    record {
      base = r.start;
      size = last - r.start + 1;
      held = holes_after (r.end + 1) rs;
      word = ⊎_elim (λ (z : r.start ≡ 0). omega (arith, z, k.1.2 z)) (λ (z : r.start ≡ 0 → ⊥). omega (arith, z, k.1.1))
          (cases_eq r.start 0);
      ranges = holes_are_ranges 1 r.end rs (in_order_rest 0 0 r rs k.0) (all_ranges rs (All-tail (λ r. IsRange r.start r.end) r rs v));
      made = inr (
        λ z. omega (arith, z),
        inr
            (λ z. omega (arith, z, k.1.0, k.1.1), subst (λ (s : Range). MakesHeld s (holes_after (r.end + 1) rs) (Ok made)) space k.2),
      );
    }
