-- The walk over the ids that were allocated at some time visits exactly the held ids, from both ends.
use Rattle.std.proofs.Common.{◌≡◌, ◌≢◌, ◌↔◌, ℕ, zero, suc, ◌+◌, ◌-◌, ◌^◌, ◌<◌, ◌≤◌, min, ◌⊎◌, Bool, true, false, cond, not, ◌||◌, List, [], ◌∷◌, ◌++◌, length, get_or, take, drop, max, nat_le, ◌&&◌, sym, subst, refl, IfSome, IfNone, ap, ◌∙◌, arith, inl, inr, Option, Some, None, option_to_list}
use Rattle.std.proofs.Math.Seq.{drop-append-add}
use Rattle.std.proofs.lemmas.List.{append-nil, append_assoc, length-append, take-append-le}
use Rattle.std.proofs.lemmas.List.Elements.{Contains-get_or, filter-append, All-nil, All-cons, All-head, All-tail, All-push}
use Rattle.vm_list.proofs.Runs.{in_run_test}
use Rattle.std.proofs.lemmas.List.Folds.{list_any-append}
use Rattle.std.proofs.lemmas.List.Kept.{IsStrictlySortedBy-filter}
use Rattle.std.proofs.lemmas.Map.Views.{any-filter_same}
use Rattle.std.proofs.lemmas.Map.Keys.{below_from_sorted}
use Rattle.std.proofs.lemmas.Map.Made.{is_member-Decides}
use Rattle.std.specs.Iterator.{YieldsFirst, YieldsLast}
use Rattle.std.specs.List.{All, AllPairs, Contains, filter, flat_map, list_any, range_with_len}
use Rattle.std.specs.List.Sorted.{IsStrictlySortedBy}
use Rattle.std.specs.Ordering.{nat_cmp, eq_by_cmp}
use Rattle.std.specs.BTreeSet.{BTreeSet, IsOrdered}
use Rattle.std.specs.FinSet as set
use Rattle.vm_ids.specs.Ids.{IdState, IsHeld, held_ids, held_ids_in, held_count, IsIdState, bound_of, ids_of, AreIds}
use Rattle.vm_ids.specs.Checks.IdQueries.{freed_from, freed_to, ids_left, held_end, held_start, AscendWithin, AreIdsLeft, IsFilled, AreFilled, Begins, Ends, runs_left}
use Rattle.vm_list.specs.Runs.{ids_of_run}
use Rattle.vm_list.specs.declared.id_set.Run.{Run}
use Rattle.std.proofs.lemmas.Bool.{cases_lt, cases_Bool, cond-true, cond-false}
use Rattle.std.proofs.lemmas.Grind.{flat_map-append}
use Rattle.vm_ids.specs.Facts.{HeldIdsAreListed}
use Rattle.vm_ids.proofs.Ids.IdSets.{held_test, bound_fits}
use Rattle.vm_ids.proofs.Ids.AscendingBounds.{rise, within}
use Rattle.vm_ids.proofs.Ids.IdRows.{same_kept, row_kept, row_end, row_parted, passed_rise, row_passed}
use Rattle.vm_ids.proofs.Ids.IdCounts.{tells_apart, ids_listed}

abbrev same : ℕ → ℕ → Bool
same = eq_by_cmp nat_cmp

abbrev kept : List ℕ → ℕ → Bool
kept freed i = not (list_any (same i) freed)

-- ---- Numbers in ascending order
none_outside : (q low bound : ℕ) (is : List ℕ) → (q < low) ⊎ (bound ≤ q) → AscendWithin low bound is → list_any (same q) is ≡ false
none_outside q low bound is o r = grind (arith, within low bound q is r)

without_last : (a b i : ℕ) (is : List ℕ) → AscendWithin a b (is ++ i ∷ []) → AscendWithin a i is × (a ≤ i) × (i < b)
without_last a b i [] r = (tt, r.0, r.1)
without_last a b i (j ∷ is) r =
    let s = without_last (j + 1) b i is r.2 in ((r.0, omega (arith, s.1), s.0), omega (arith, r.0, s.1), s.2)

-- A bound of the last number is one of all.
last_below : (a b c i : ℕ) (is : List ℕ) → i < c → AscendWithin a b (is ++ i ∷ []) → AscendWithin a c (is ++ i ∷ [])
last_below a b c i [] l r = (r.0, l, tt)
last_below a b c i (j ∷ is) l r =
    let rest = last_below (j + 1) b c i is l r.2 in (r.0, omega (arith, l, (without_last (j + 1) c i is rest).1), rest)

-- ---- The freed ids at hand
-- The ids of the last run are the last.
last_run : (rest : List Run) (run : Run) → flat_map ids_of_run (rest ++ run ∷ []) ≡ flat_map ids_of_run rest ++ ids_of_run run
last_run rest run =
    flat_map-append ids_of_run rest (run ∷ []) ∙ ap (λ l. flat_map ids_of_run rest ++ l) (append-nil (ids_of_run run))

pub first_taken : (keys : List ℕ) (runs rest : List Run) (taken : Option Run) → YieldsFirst (λ (rs : List Run). rs) runs taken rest →
    flat_map ids_of_run runs ≡ keys → freed_from taken rest ≡ keys
first_taken keys runs rest None s e = sym (ap (flat_map ids_of_run) (s.0)) ∙ e
first_taken keys runs rest (Some run) s e = sym (ap (flat_map ids_of_run) s) ∙ e

pub last_taken : (keys : List ℕ) (runs rest : List Run) (taken : Option Run) → YieldsLast (λ (rs : List Run). rs) runs taken rest →
    flat_map ids_of_run runs ≡ keys → freed_to rest taken ≡ keys
last_taken keys runs rest None s e = sym (ap (flat_map ids_of_run) (s.0)) ∙ e
last_taken keys runs rest (Some run) s e = sym (ap (flat_map ids_of_run) s ∙ last_run rest run) ∙ e

-- ---- One step of the walk
pub none_left : (next bound : ℕ) (freed : List ℕ) → bound ≤ next → ids_left next bound freed ≡ []
unfolding ids_left
none_left next bound freed l =
    let none : bound - next ≡ 0 = omega arith in ap (λ (n : ℕ). filter (kept freed) (range_with_len next n)) none

-- The ids that are left are those below a middle and those from it on.
ids_parted : (next mid bound : ℕ) (freed : List ℕ) → next ≤ mid → mid ≤ bound →
    ids_left next bound freed ≡ ids_left next mid freed ++ ids_left mid bound freed
unfolding ids_left
ids_parted next mid bound freed l u =
    let m : ℕ = mid - next in
    let sum : bound - next ≡ m + (bound - mid) = omega (arith, l, u) in
    let seam : next + m ≡ mid = omega (arith, l) in
    ap (λ (n : ℕ). filter (kept freed) (range_with_len next n)) sum
    ∙ ap (filter (kept freed)) (row_parted next m (bound - mid))
    ∙ filter-append (kept freed) (range_with_len next m) (range_with_len (next + m) (bound - mid))
    ∙ ap (λ (i : ℕ). ids_left next mid freed ++ filter (kept freed) (range_with_len i (bound - mid))) seam

-- A freed id is not left.
one_freed : (i : ℕ) (freed : List ℕ) → kept freed i ≡ false → ids_left i (i + 1) freed ≡ []
unfolding ids_left
one_freed i freed e =
    let one : i + 1 - i ≡ 1 = omega arith in
    ap (λ (n : ℕ). filter (kept freed) (range_with_len i n)) one ∙ ap (λ (s : Bool). cond s (i ∷ []) []) e

-- Ids of which none is freed are all left.
none_freed : (i n : ℕ) (freed : List ℕ) → ((k : ℕ) → i ≤ k → k < i + n → list_any (same k) freed ≡ false) →
    ids_left i (i + n) freed ≡ range_with_len i n
unfolding ids_left
none_freed i n freed h =
    let all : i + n - i ≡ n = omega arith in
    ap (λ (m : ℕ). filter (kept freed) (range_with_len i m)) all ∙ row_kept (kept freed) i n (λ k l u. ap not (h k l u))

module _ (next bound : ℕ) (l : next < bound) where
  front_freed : (rest : List ℕ) → ids_left next bound (next ∷ rest) ≡ ids_left (next + 1) bound rest
  unfolding ids_left
  front_freed rest =
      ids_parted next (next + 1) bound (next ∷ rest) (omega arith) (omega (arith, l))
      ∙ ap (λ (is : List ℕ). is ++ ids_left (next + 1) bound (next ∷ rest)) (one_freed next (next ∷ rest) (grind arith))
      ∙ same_kept (kept (next ∷ rest)) (kept rest) (next + 1) (bound - (next + 1)) (λ i a b. grind arith)

  -- The walk from below passes a freed id.
  pub passes_first : (above rest below : List ℕ) → above ≡ next ∷ rest → AreIdsLeft next bound above below →
      AreIdsLeft (next + 1) bound rest below × (ids_left next bound above ≡ ids_left (next + 1) bound rest)
  passes_first above rest below e v =
      let w : AreIdsLeft next bound (next ∷ rest) below = rw e at v in (
        record {
          ids = w.ids;
          from_next = w.from_next.2;
          to_bound = w.to_bound;
          same = λ i a b. grind (arith, w.same i);
        },
        rw e (front_freed rest),
      )

  -- The walk from above does the same. The lists of freed ids agree on the ids that were not visited.
  pub passes_last : (above below rest : List ℕ) → below ≡ rest ++ (bound - 1) ∷ [] → AreIdsLeft next bound above below →
      AreIdsLeft next (bound - 1) above rest × (ids_left next bound above ≡ ids_left next (bound - 1) above)
  passes_last above below rest e v =
      let w : AreIdsLeft next bound above (rest ++ (bound - 1) ∷ []) = rw e at v in
      let any : (i : ℕ) → list_any (same i) (rest ++ (bound - 1) ∷ []) ≡ (list_any (same i) rest || (same i (bound - 1) || false)) =
      λ i. list_any-append (same i) rest ((bound - 1) ∷ []) in
      let freed : kept above (bound - 1) ≡ false = grind (arith, w.same (bound - 1), any (bound - 1)) in
      let z : bound - 1 + 1 ≡ bound = omega (arith, l) in
      let same_left = ids_parted next (bound - 1) bound above (omega (arith, l)) (omega arith)
      ∙ ap (λ (is : List ℕ). ids_left next (bound - 1) above ++ is)
      (ap (λ (k : ℕ). ids_left (bound - 1) k above) (sym z) ∙ one_freed (bound - 1) above freed)
      ∙ append-nil _ in (
        record {
          ids = omega (arith, w.ids);
          from_next = w.from_next;
          to_bound = (without_last 0 bound (bound - 1) rest w.to_bound).0;
          same = λ i a b. grind (arith, w.same i, any i);
        },
        same_left,
      )

-- The walk from below visits n held ids.
module _ (next bound n : ℕ) (l : next + n ≤ bound) (above below : List ℕ) (v : AreIdsLeft next bound above below) where
  pub visits_row : AscendWithin (next + n) (2 ^ 32) above → AreIdsLeft (next + n) bound above below
      × (ids_left next bound above ≡ range_with_len next n ++ ids_left (next + n) bound above)
  visits_row r =
      let held = none_freed next n above (λ i a b. none_outside i (next + n) (2 ^ 32) above (inl b) r) in
      let visited = ids_parted next (next + n) bound above (omega arith) l ∙ ap (λ (is : List ℕ). is ++ ids_left (next + n) bound above) held in (
        record {
          ids = v.ids;
          from_next = r;
          to_bound = v.to_bound;
          same = λ i a b. v.same i (omega (arith, a)) b;
        },
        visited,
      )

  -- The walk from above does the same.
  pub visits_row_back : AscendWithin 0 (bound - n) below → AreIdsLeft next (bound - n) above below
      × (ids_left next bound above ≡ ids_left next (bound - n) above ++ range_with_len (bound - n) n)
  visits_row_back r =
      let z : bound - n + n ≡ bound = omega (arith, l) in
      let held = ap (λ (k : ℕ). ids_left (bound - n) k above) (sym z) ∙ none_freed (bound - n) n above
      (λ i a b. v.same i (omega (arith, a, l)) (omega (arith, b, z)) ∙ none_outside i 0 (bound - n) below (inr a) r) in
      let visited = ids_parted next (bound - n) bound above (omega (arith, l)) (omega arith)
      ∙ ap (λ (is : List ℕ). ids_left next (bound - n) above ++ is) held in (
        record {
          ids = omega (arith, v.ids);
          from_next = v.from_next;
          to_bound = r;
          same = λ i a b. v.same i a (omega (arith, b));
        },
        visited,
      )

-- ---- Several ids in one step
-- A step past held ids stays below the next run and the bound.
pub up_to_held_end : (next bound most end n : ℕ) (freed : Option Run) → next < bound → IfSome freed (λ run. next < run.first) →
    end ≡ held_end bound freed → n ≡ min most (end - next) → (next + n ≤ bound) × IfSome freed (λ run. next + n ≤ run.first)
up_to_held_end next bound most end n None l a e s = (omega (arith, l, e, s), tt)
up_to_held_end next bound most end n (Some run) l a e s = (omega (arith, l, a, e, s), omega (arith, l, a, e, s))

pub down_to_held_start : (next bound most start n : ℕ) (freed : Option Run) → next < bound → IfSome freed (λ run. run.last + 1 < bound) →
    start ≡ held_start next freed → n ≡ min most (bound - start) → (next + n ≤ bound) × IfSome freed (λ run. run.last + n < bound)
down_to_held_start next bound most start n None l a e s = (omega (arith, l, e, s), tt)
down_to_held_start next bound most start n (Some run) l a e s = (omega (arith, l, a, e, s), omega (arith, l, a, e, s))

-- The walk from below passes a row of ids, and then the others.
pub drops_row : (all row is : List ℕ) (n count : ℕ) → all ≡ row ++ is → length row ≡ n → n ≤ count → drop count all ≡ drop (count - n) is
drops_row all row is n count s e l =
    let m : count ≡ length row + (count - n) = omega (arith, e, l) in
    rw s (ap (λ (k : ℕ). drop k (row ++ is)) m ∙ drop-append-add row is (count - n))

-- The walk from above does the same.
pub takes_row : (all is row : List ℕ) (n count : ℕ) → all ≡ is ++ row → length row ≡ n → n ≤ count →
    take (length all - count) all ≡ take (length is - (count - n)) is
takes_row all is row n count s e l =
    let m : length (is ++ row) - count ≡ length is - (count - n) = omega (arith, length-append is row, e, l) in
    rw s (ap (λ (k : ℕ). take k (is ++ row)) m ∙ take-append-le (length is - (count - n)) is row (omega arith))

pub takes_same : (is js : List ℕ) (count : ℕ) → is ≡ js → take (length js - count) js ≡ take (length is - count) is
takes_same is js count e = rw e refl

-- Past the bound no id is left, and the walk passes more.
past_bound : (next bound : ℕ) (rest below : List ℕ) → bound ≤ next → AreIdsLeft next bound (next ∷ rest) below →
    AreIdsLeft (next + 1) bound rest below
past_bound next bound rest below l v = record {
  ids = v.ids;
  from_next = v.from_next.2;
  to_bound = v.to_bound;
  same = λ i a b. absurd (omega (arith, a, b, l));
}

-- The walk from below passes freed ids that follow each other.
pub passes_row : (n next bound : ℕ) (above rest below : List ℕ) → above ≡ range_with_len next n ++ rest →
    AreIdsLeft next bound above below →
    AreIdsLeft (next + n) bound rest below × (ids_left next bound above ≡ ids_left (next + n) bound rest)
passes_row zero next bound above rest below e v =
    let z : next ≡ next + 0 = omega arith in (
      subst (λ k. AreIdsLeft k bound rest below) z (subst (λ a. AreIdsLeft next bound a below) e v),
      ap (ids_left next bound) e ∙ ap (λ k. ids_left k bound rest) z,
    )
passes_row (suc n) next bound above rest below e v =
    let z : next + 1 + n ≡ next + suc n = omega arith in
    elim (cases_lt next bound) [
      | inl l ↦ (
          let p = passes_first next bound l above (range_with_len (next + 1) n ++ rest) below e v in
          let r = passes_row n (next + 1) bound (range_with_len (next + 1) n ++ rest) rest below refl p.0 in
          (subst (λ k. AreIdsLeft k bound rest below) z r.0, p.1 ∙ r.1 ∙ ap (λ k. ids_left k bound rest) z))
      | inr l ↦ (
          let p = past_bound next bound (range_with_len (next + 1) n ++ rest) below l (subst (λ a. AreIdsLeft next bound a below) e v) in
          let r = passes_row n (next + 1) bound (range_with_len (next + 1) n ++ rest) rest below refl p in (
            subst (λ k. AreIdsLeft k bound rest below) z r.0,
            none_left next bound above l ∙ sym (none_left (next + suc n) bound rest (omega (arith, l))),
          ))
    ]

-- The walk from above does the same.
before_next : (next bound : ℕ) (above rest below : List ℕ) → bound ≤ next → below ≡ rest ++ (bound - 1) ∷ [] → 0 < bound →
    AreIdsLeft next bound above below → AreIdsLeft next (bound - 1) above rest
before_next next bound above rest below l e n v =
    let w : AreIdsLeft next bound above (rest ++ (bound - 1) ∷ []) = rw e at v in
    record {
      ids = omega (arith, w.ids);
      from_next = w.from_next;
      to_bound = (without_last 0 bound (bound - 1) rest w.to_bound).0;
      same = λ i a b. absurd (omega (arith, a, b, l));
    }

pub passes_row_back : (n first next : ℕ) (above rest below : List ℕ) → below ≡ rest ++ range_with_len first n →
    AreIdsLeft next (first + n) above below →
    AreIdsLeft next first above rest × (ids_left next (first + n) above ≡ ids_left next first above)
passes_row_back zero first next above rest below e v =
    let z : first + 0 ≡ first = omega arith in (
      subst (λ k. AreIdsLeft next k above rest) z (subst (λ b. AreIdsLeft next (first + 0) above b) (e ∙ append-nil rest) v),
      ap (λ k. ids_left next k above) z,
    )
passes_row_back (suc n) first next above rest below e v =
    let z : first + suc n - 1 ≡ first + n = omega arith in
    let f : below ≡ (rest ++ range_with_len first n) ++ (first + suc n - 1) ∷ [] =
    e ∙ ap (λ l. rest ++ l) (row_end first n ∙ ap (λ i. range_with_len first n ++ i ∷ []) (sym z))
    ∙ sym (append_assoc rest (range_with_len first n) ((first + suc n - 1) ∷ [])) in
    elim (cases_lt next (first + suc n)) [
      | inl l ↦ (
          let p = passes_last next (first + suc n) l above below (rest ++ range_with_len first n) f v in
          let r = passes_row_back n first next above rest (rest ++ range_with_len first n) refl
          (subst (λ k. AreIdsLeft next k above (rest ++ range_with_len first n)) z p.0) in
          (r.0, p.1 ∙ ap (λ k. ids_left next k above) z ∙ r.1))
      | inr l ↦ (
          let p = before_next next (first + suc n) above (rest ++ range_with_len first n) below l f (omega arith) v in
          let r = passes_row_back n first next above rest (rest ++ range_with_len first n) refl
          (subst (λ k. AreIdsLeft next k above (rest ++ range_with_len first n)) z p) in
          (r.0, none_left next (first + suc n) above l ∙ sym (none_left next first above (omega (arith, l)))))
    ]

-- ---- The runs at hand
-- The ids of a run that is not empty.
run_head : (run : Run) → IsFilled run → ids_of_run run ≡ run.first ∷ range_with_len (run.first + 1) (run.last - run.first)
run_head run f = let n : run.last + 1 - run.first ≡ suc (run.last - run.first) = omega (arith, f) in ap (range_with_len run.first) n

pub run_tail : (run : Run) → IsFilled run → ids_of_run run ≡ range_with_len run.first (run.last - run.first) ++ run.last ∷ []
run_tail run f =
    let n : run.last + 1 - run.first ≡ suc (run.last - run.first) = omega (arith, f) in
    let l : run.first + (run.last - run.first) ≡ run.last = omega (arith, f) in
    ap (range_with_len run.first) n ∙ row_end run.first (run.last - run.first) ∙ ap (λ i. range_with_len run.first (run.last - run.first) ++ i ∷ []) l

-- The walk from below passes the next run if it begins up to the next id.
pub passes_run : (next bound : ℕ) (run : Run) (runs rest : List Run) (taken : Option Run) (below : List ℕ) → run.first ≤ next →
    AreFilled (Some run) runs → YieldsFirst (λ (rs : List Run). rs) runs taken rest → AreIdsLeft next bound (freed_from (Some run) runs) below →
    AreIdsLeft (run.last + 1) bound (freed_from taken rest) below
    × (ids_left next bound (freed_from (Some run) runs) ≡ ids_left (run.last + 1) bound (freed_from taken rest)) × (next < run.last + 1)
passes_run next bound run runs rest taken below l f s v =
    let r = subst (λ (is : List ℕ). AscendWithin next (2 ^ 32) (is ++ flat_map ids_of_run runs)) (run_head run f.0) v.from_next in
    let same : run.first ≡ next = omega (arith, l, r.0) in
    let all : freed_from (Some run) runs ≡ range_with_len next (run.last + 1 - run.first) ++ freed_from taken rest =
    ap (λ i. range_with_len i (run.last + 1 - run.first) ++ flat_map ids_of_run runs) same
    ∙ ap (λ is. range_with_len next (run.last + 1 - run.first) ++ is) (sym (first_taken (flat_map ids_of_run runs) runs rest taken s refl)) in
    let p = passes_row (run.last + 1 - run.first) next bound _ (freed_from taken rest) below all v in
    let m : next + (run.last + 1 - run.first) ≡ run.last + 1 = omega (arith, same, f.0) in (
      subst (λ k. AreIdsLeft k bound (freed_from taken rest) below) m p.0,
      p.1 ∙ ap (λ k. ids_left k bound (freed_from taken rest)) m,
      omega (arith, same, f.0),
    )

pub passes_run_back : (next bound : ℕ) (run : Run) (runs rest : List Run) (taken : Option Run) (above : List ℕ) → bound ≤ run.last + 1 →
    AreFilled (Some run) runs → YieldsLast (λ (rs : List Run). rs) runs taken rest → AreIdsLeft next bound above (freed_to runs (Some run)) →
    AreIdsLeft next run.first above (freed_to rest taken)
    × (ids_left next bound above ≡ ids_left next run.first above) × (run.first < bound)
passes_run_back next bound run runs rest taken above l f s v =
    let w = subst (λ (is : List ℕ). AscendWithin 0 bound (flat_map ids_of_run runs ++ is)) (run_tail run f.0) v.to_bound in
    let last = without_last 0 bound run.last (flat_map ids_of_run runs ++ range_with_len run.first (run.last - run.first))
    (subst (AscendWithin 0 bound) (sym (append_assoc (flat_map ids_of_run runs) (range_with_len run.first (run.last - run.first)) (run.last ∷ []))) w) in
    let same : bound ≡ run.first + (run.last + 1 - run.first) = omega (arith, l, last.2, f.0) in
    let all : freed_to runs (Some run) ≡ freed_to rest taken ++ range_with_len run.first (run.last + 1 - run.first) =
    ap (λ is. is ++ ids_of_run run) (sym (last_taken (flat_map ids_of_run runs) runs rest taken s refl)) in
    let p = passes_row_back (run.last + 1 - run.first) run.first next above (freed_to rest taken) _ all
    (subst (λ k. AreIdsLeft next k above (freed_to runs (Some run))) same v) in
    (p.0, ap (λ k. ids_left next k above) same ∙ p.1, omega (arith, same, f.0))

-- The last id of the next run is below the bound of all.
pub run_fits : (lo b : ℕ) (run : Run) (runs : List Run) → AreFilled (Some run) runs → AscendWithin lo b (freed_from (Some run) runs) → run.last < b
run_fits lo b run runs f r =
    let t : list_any (same run.last) (ids_of_run run ++ flat_map ids_of_run runs) ≡ true =
    list_any-append (same run.last) (ids_of_run run) (flat_map ids_of_run runs)
    ∙ rw (in_run_test run run.last) (grind (arith, f.0)) in
    (within lo b run.last (ids_of_run run ++ flat_map ids_of_run runs) r t).1

pub last_run_fits : (lo b : ℕ) (run : Run) (runs : List Run) → AreFilled (Some run) runs → AscendWithin lo b (freed_to runs (Some run)) → run.last < b
last_run_fits lo b run runs f r =
    let t : list_any (same run.last) (flat_map ids_of_run runs ++ ids_of_run run) ≡ true =
    list_any-append (same run.last) (flat_map ids_of_run runs) (ids_of_run run)
    ∙ rw (in_run_test run run.last) (grind (arith, f.0)) in
    (within lo b run.last (flat_map ids_of_run runs ++ ids_of_run run) r t).1

-- A property of each element is true for the last, and for those before it.
All-last : {X : Type 0} (P : X → Type 0) (xs : List X) (x : X) → All P (xs ++ x ∷ []) → P x
All-last P [] x a = All-head P x [] a
All-last P (y ∷ xs) x a = All-last P xs x (All-tail P y (xs ++ x ∷ []) a)

All-init : {X : Type 0} (P : X → Type 0) (xs : List X) (x : X) → All P (xs ++ x ∷ []) → All P xs
All-init P [] x a = All-nil P
All-init P (y ∷ xs) x a = All-cons P y xs (All-head P y (xs ++ x ∷ []) a) (All-init P xs x (All-tail P y (xs ++ x ∷ []) a))

-- The runs of a walk that begins are not empty.
pub first_filled : (runs rest : List Run) (taken : Option Run) → All IsFilled runs → YieldsFirst (λ (rs : List Run). rs) runs taken rest →
    AreFilled taken rest
first_filled runs rest None f s = (tt, subst (All IsFilled) (s.0 ∙ sym s.1) f)
first_filled runs rest (Some next) f s =
    let a = subst (All IsFilled) s f in (All-head IsFilled next rest a, All-tail IsFilled next rest a)

pub last_filled : (runs rest : List Run) (taken : Option Run) → All IsFilled runs → YieldsLast (λ (rs : List Run). rs) runs taken rest →
    AreFilled taken rest
last_filled runs rest None f s = (tt, subst (All IsFilled) (s.0 ∙ sym s.1) f)
last_filled runs rest (Some next) f s =
    let a = subst (All IsFilled) s f in (All-last IsFilled rest next a, All-init IsFilled rest next a)

-- The first and the last of runs that are not empty.
pub begins : (runs rest : List Run) (run : Run) → All IsFilled runs → runs ≡ run ∷ rest → Begins runs (Some run) rest
begins runs rest run f e = let a = subst (All IsFilled) e f in (e, All-head IsFilled run rest a, All-tail IsFilled run rest a)

pub ends : (runs rest : List Run) (run : Run) → All IsFilled runs → runs ≡ rest ++ run ∷ [] → Ends runs (Some run) rest
ends runs rest run f e = let a = subst (All IsFilled) e f in (e, All-last IsFilled rest run a, All-init IsFilled rest run a)

-- The run that was begun from above is the last of those that are left.
pub last_left : (first : Option Run) (runs : List Run) (run : Run) → runs_left first runs (Some run) ≡ runs_left first runs None ++ run ∷ []
last_left first runs run = ap (λ (l : List Run). l ++ run ∷ []) (sym (append-nil (option_to_list first ++ runs)))

pub filled_to : (first last : Option Run) (runs : List Run) → All IsFilled (runs_left first runs None) → IfSome last IsFilled →
    All IsFilled (runs_left first runs last)
filled_to first None runs f l = f
filled_to first (Some run) runs f l = rw (last_left first runs run) (All-push IsFilled (runs_left first runs None) run f l)

-- The runs after the next one are not empty.
pub filled_after : (run : Run) (runs rest : List Run) (taken : Option Run) → AreFilled (Some run) runs →
    YieldsFirst (λ (rs : List Run). rs) runs taken rest → AreFilled taken rest
filled_after run runs rest taken f s = first_filled runs rest taken f.1 s

pub filled_before : (run : Run) (runs rest : List Run) (taken : Option Run) → AreFilled (Some run) runs →
    YieldsLast (λ (rs : List Run). rs) runs taken rest → AreFilled taken rest
filled_before run runs rest taken f s = last_filled runs rest taken f.1 s

-- The next n ids are not freed if the next run begins above them.
pub next_not_freed : (next n b : ℕ) (freed : Option Run) (runs : List Run) → AreFilled freed runs → IfSome freed (λ run. next + n ≤ run.first) →
    AscendWithin next b (freed_from freed runs) → AscendWithin (next + n) b (freed_from freed runs)
next_not_freed next n b None runs f l r = tt
next_not_freed next n b (Some run) runs f l r =
    let s = subst (λ (is : List ℕ). AscendWithin next b (is ++ flat_map ids_of_run runs)) (run_head run f.0) r in
    subst (λ (is : List ℕ). AscendWithin (next + n) b (is ++ flat_map ids_of_run runs)) (sym (run_head run f.0)) (l, s.1, s.2)

pub last_not_freed : (a bound n : ℕ) (freed : Option Run) (runs : List Run) → AreFilled freed runs → IfSome freed (λ run. run.last + n < bound) →
    AscendWithin a bound (freed_to runs freed) → AscendWithin a (bound - n) (freed_to runs freed)
last_not_freed a bound n None runs f l r = tt
last_not_freed a bound n (Some run) runs f l r =
    let low = flat_map ids_of_run runs ++ range_with_len run.first (run.last - run.first) in
    let all : freed_to runs (Some run) ≡ low ++ run.last ∷ [] =
    ap (λ is. flat_map ids_of_run runs ++ is) (run_tail run f.0)
    ∙ sym (append_assoc (flat_map ids_of_run runs) (range_with_len run.first (run.last - run.first)) (run.last ∷ [])) in
    subst (AscendWithin a (bound - n)) (sym all) (last_below a bound (bound - n) run.last low (omega (arith, l)) (subst (AscendWithin a bound) all r))

pub ruleset walks = (none_left)

-- ---- The list of held ids
-- The list has exactly the held ids.
pub in_held_ids : (state : IdState) → IsIdState state → (q : ℕ) → list_any (same q) (held_ids state) ≡ set.contains state.held q
in_held_ids state s q =
    row_passed (λ i. set.contains state.held i) state.lo (state.bound - state.lo) q ∙ grind (arith, s.held q)

pub held_ids_rise : (state : IdState) → IsStrictlySortedBy nat_cmp (held_ids state)
held_ids_rise state = passed_rise (λ i. set.contains state.held i) state.lo (state.bound - state.lo)

held_id_listed : (state : IdState) (id : ℕ) → IsIdState state → Contains (held_ids state) id ↔ IsHeld state id
held_id_listed state id s = (
  λ c. sym (in_held_ids state s id) ∙ (is_member-Decides tells_apart (held_ids state) id).1 c,
  λ h. (is_member-Decides tells_apart (held_ids state) id).0 (in_held_ids state s id ∙ h),
)

pub held_ids_counted : (state : IdState) → IsIdState state → length (held_ids state) ≡ held_count state
held_ids_counted state s =
    let apart : AllPairs (λ i j. i ≢ j) (held_ids state) = λ i j d l m e. omega
    (arith, below_from_sorted (held_ids state) i j d (held_ids_rise state) l m, e) in
    let held : All (IsHeld state) (held_ids state) = λ k d l. (held_id_listed state (get_or (held_ids state) k d) s).0
    (Contains-get_or (held_ids state) k d l) in
    (ids_listed state (held_ids state) apart held).1 (λ i h. (held_id_listed state i s).1 h)

pub listed_held : HeldIdsAreListed
listed_held = record { listed = held_id_listed; ascending = held_ids_rise; counted = held_ids_counted }

pub ruleset listings = (listed_held)

-- ---- The walk over the ids from `first` to `last`
filter_both : (p q : ℕ → Bool) (xs : List ℕ) → filter q (filter p xs) ≡ filter (λ i. p i && q i) xs
filter_both p q [] = refl
filter_both p q (x ∷ xs) = elim (cases_Bool (p x)) [
  | inl t ↦ ap (filter q) (cond-true (p x) (x ∷ filter p xs) (filter p xs) t)
      ∙ ap (λ l. cond (q x) (x ∷ l) l) (filter_both p q xs)
      ∙ sym (ap (λ b. cond (b && q x) (x ∷ filter (λ i. p i && q i) xs) (filter (λ i. p i && q i) xs)) t)
  | inr t ↦ ap (filter q) (cond-false (p x) (x ∷ filter p xs) (filter p xs) t) ∙ filter_both p q xs
      ∙ sym (ap (λ b. cond (b && q x) (x ∷ filter (λ i. p i && q i) xs) (filter (λ i. p i && q i) xs)) t)
]

-- A test that is false for a row keeps none of it.
row_dropped : (p : ℕ → Bool) (a n : ℕ) → ((i : ℕ) → a ≤ i → i < a + n → p i ≡ false) → filter p (range_with_len a n) ≡ []
row_dropped p a zero h = refl
row_dropped p a (suc n) h =
    rw (h a (omega arith) (omega arith), row_dropped p (a + 1) n (λ i l u. h i (omega arith) (omega arith))) refl

-- Only a part of a row passes a test.
row_middle : (p : ℕ → Bool) (a n low high : ℕ) → a ≤ low → high ≤ a + n → ((i : ℕ) → a ≤ i → i < low → p i ≡ false) →
    ((i : ℕ) → high ≤ i → i < a + n → p i ≡ false) →
    filter p (range_with_len a n) ≡ filter p (range_with_len low (high - low))
row_middle p a n low high l u f g = elim (cases_lt low high) [
  | inl m ↦ (
      let x : ℕ = low - a in
      let y : ℕ = high - low in
      let z : ℕ = a + n - high in
      let sum : n ≡ x + (y + z) = omega (arith, l, u, m) in
      let one : a + x ≡ low = omega (arith, l) in
      let two : low + y ≡ high = omega (arith, m) in
      ap (λ k. filter p (range_with_len a k)) sum ∙ ap (filter p) (row_parted a x (y + z))
      ∙ filter-append p (range_with_len a x) (range_with_len (a + x) (y + z))
      ∙ ap (λ k. k ++ filter p (range_with_len (a + x) (y + z))) (row_dropped p a x (λ i b c. f i b (omega (arith, c, one))))
      ∙ ap (λ k. filter p (range_with_len k (y + z))) one ∙ ap (filter p) (row_parted low y z)
      ∙ filter-append p (range_with_len low y) (range_with_len (low + y) z)
      ∙ ap (λ k. filter p (range_with_len low y) ++ k) (row_dropped p (low + y) z (λ i b c. g i (omega (arith, b, two)) (omega (arith, c, two, u))))
      ∙ append-nil (filter p (range_with_len low y)))
  | inr m ↦ (
      let none : high - low ≡ 0 = omega (arith, m) in
      row_dropped p a n (λ i b c. elim (cases_lt i low) [ inl q ↦ f i b q | inr q ↦ g i (omega (arith, q, m)) c ])
      ∙ sym (ap (λ k. filter p (range_with_len low k)) none))
]

module _ (state : IdState) (lo hi first last : ℕ) (next : Option ℕ) (freed : BTreeSet ℕ) (e : ids_of lo hi next freed ≡ state) (a : AreIds lo hi next freed)
    (above below : List ℕ) (up : above ≡ filter (λ i. nat_le first i) freed.keys) (down : below ≡ filter (λ i. nat_le i last) freed.keys) where
  in_above : (i : ℕ) → list_any (same i) above ≡ (nat_le first i && list_any (same i) freed.keys)
  in_above i = ap (list_any (same i)) up ∙ any-filter_same (same i) (λ i. nat_le first i) (nat_le first i) (λ k t. ap (nat_le first) (grind arith)) freed.keys

  in_below : (i : ℕ) → list_any (same i) below ≡ (nat_le i last && list_any (same i) freed.keys)
  in_below i = ap (list_any (same i)) down ∙ any-filter_same (same i) (λ i. nat_le i last) (nat_le i last) (λ k t. ap (λ j. nat_le j last) (grind arith)) freed.keys

  -- The walk visits the held ids from `first` to `last`.
  pub walk_lists : ids_left (max lo first) (min (bound_of next hi) (last + 1)) above ≡ held_ids_in first last state
  unfolding ids_of ids_left
  walk_lists =
      let H : ℕ → Bool = λ i. set.contains (ids_of lo hi next freed).held i in
      let W : ℕ → Bool = λ i. nat_le first i && nat_le i last in
      let b : ℕ = bound_of next hi in
      let low : ℕ = max lo first in
      let high : ℕ = min b (last + 1) in
      rw (← e) (sym (filter_both H W (range_with_len lo (b - lo))
      ∙ row_middle (λ i. H i && W i) lo (b - lo) low high (omega arith) (omega arith) (λ i l u. grind arith) (λ i l u. grind arith)
      ∙ same_kept (λ i. H i && W i) (kept above) low (high - low) (λ i l u. grind (arith, held_test, in_above i))))

  -- ---- The first state of the walk
  pub walk_starts : IsOrdered nat_cmp freed → AreIdsLeft (max lo first) (min (bound_of next hi) (last + 1)) above below
  walk_starts o =
      let fits = bound_fits lo hi next a.next_id in
      record {
        ids = omega (arith, fits, a.ids);
        from_next = rise (max lo first) (2 ^ 32) above (subst (IsStrictlySortedBy nat_cmp) (sym up) (IsStrictlySortedBy-filter nat_cmp (λ i. nat_le first i) freed.keys o))
            (λ i t. grind (arith, in_above i, a.freed_ids i, fits, a.ids));
        to_bound = rise 0 (min (bound_of next hi) (last + 1)) below (subst (IsStrictlySortedBy nat_cmp) (sym down) (IsStrictlySortedBy-filter nat_cmp (λ i. nat_le i last) freed.keys o))
            (λ i t. grind (arith, in_below i, a.freed_ids i));
        same = λ i l u. grind (arith, in_above i, in_below i);
      }

-- The runs of a walk that begins have the freed ids.
pub from_parts : (taken : Option Run) (rest : List Run) → IfNone taken (rest ≡ []) → freed_from taken rest ≡ flat_map ids_of_run (option_to_list taken ++ rest)
from_parts None rest n = sym (ap (flat_map ids_of_run) n)
from_parts (Some run) rest n = refl

pub to_parts : (rest : List Run) (taken : Option Run) → IfNone taken (rest ≡ []) → freed_to rest taken ≡ flat_map ids_of_run (rest ++ option_to_list taken)
to_parts rest None n = sym (ap (λ l. flat_map ids_of_run (l ++ [])) n)
to_parts rest (Some run) n = sym (last_run rest run)

-- All held ids are those from the lowest id to the highest.
pub all_held : (state : IdState) → IsIdState state → held_ids_in state.lo state.hi state ≡ held_ids state
all_held state s =
    let n : ℕ = state.bound - state.lo in
    let H : ℕ → Bool = λ i. set.contains state.held i in
    filter_both H (λ i. nat_le state.lo i && nat_le i state.hi) (range_with_len state.lo n)
    ∙ same_kept (λ i. H i && (nat_le state.lo i && nat_le i state.hi)) H state.lo n (λ i l u. grind (arith, s.bound))
