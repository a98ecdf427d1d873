-- The runs after ids are added above all, or the lowest id is taken out.
use Rattle.std.proofs.Common.{◌≡◌, ℕ, zero, suc, ◌+◌, ◌-◌, ◌<◌, ◌≤◌, ◌⊎◌, true, false, ◌||◌, eqb, List, [], ◌∷◌, ◌++◌, sym, ap, ◌∙◌, subst, refl, arith, inl, inr, ◌^◌, Option, Some, None, IsTrue}
use Rattle.std.proofs.lemmas.Bool.{cases_lt, cond-true, cond-false, lt-ltb, le-ltb}
use Rattle.std.proofs.lemmas.List.{append_assoc}
use Rattle.std.proofs.lemmas.List.Folds.{list_any-append}
use Rattle.std.proofs.lemmas.List.Elements.{All-cons, All-nil}
use Rattle.std.specs.List.{range_with_len}
use Rattle.std.specs.Option.{SomeIff, option_eq}
use Rattle.std.specs.Ordering.{nat_cmp}
use Rattle.std.specs.BTreeSet.{contains}
use Rattle.vm_list.specs.declared.id_set.Run.{Run}
use Rattle.vm_list.specs.Entries.{with_entry, without}
use Rattle.vm_list.specs.Runs.{RUNS_END, ids_of_runs, AreRuns, lowest_of, StartsAbove, IsLowestFrom, Removes, TakesLowest}
use Rattle.vm_list.proofs.Middles.{with_in, with_nothing, without_in}
use Rattle.vm_list.proofs.Runs.{key_of, in_run, in_runs, set_of, member_test, upper_runs, lower_runs, both_runs, all_below, none_above}
use Rattle.vm_list.proofs.RunChanges.{count_of, count_parts, count_more, without_own}

-- ---- Ids above all
pub row_parts : (a n m : ℕ) → range_with_len a (n + m) ≡ range_with_len a n ++ range_with_len (a + n) m
row_parts a zero m = let e : a ≡ a + 0 = omega arith in let f : 0 + m ≡ m = omega arith in ap (range_with_len a) f ∙ ap (λ b. range_with_len b m) e
row_parts a (suc n) m =
    let f : suc n + m ≡ suc (n + m) = omega arith in
    let e : a + 1 + n ≡ a + suc n = omega arith in
    ap (range_with_len a) f ∙ ap (λ l. a ∷ l) (row_parts (a + 1) n m ∙ ap (λ b. range_with_len (a + 1) n ++ range_with_len b m) e)

-- A number that is one more than another is that one's successor.
pub next_is : (n id : ℕ) (o : Option ℕ) → SomeIff o (n + 1 < 2 ^ 32) (n + 1) → true ≡ option_eq eqb o (Some id) → n + 1 ≡ id
next_is n id None s t = grind arith
next_is n id (Some i) s t = grind (arith, s.1)

-- The run that ends right below the id, or none.
pub starts_next : (id : ℕ) (rs : List Run) (r : Run) (rest : List Run) → AreRuns (id + 1) rs → rs ≡ r ∷ rest → r.last + 1 ≡ id →
    StartsAbove id rs r.first
starts_next id rs r rest a e s =
    let b = subst (AreRuns (id + 1)) e a in
    record { low = r ∷ []; rest = rest; parts = e; joins = inr (r, refl, s, refl, b.0); below = b.2 }

module _ (first last start : ℕ) (rs : List Run) (o : first ≤ last) (a : AreRuns (first + 1) rs) (s : StartsAbove first rs start) where
  abbrev added : Run
  added = record { first = start; last = last }

  put_above : with_entry key_of (record { first = start; last = last }) rs ≡ added ∷ rs
  put_above =
      with_in key_of added [] [] rs (All-nil (λ r. last < r.last)) (all_below (first + 1) last rs a (omega (arith, o)))
      ∙ ap (λ l. l ++ rs) (with_nothing key_of added)

  start_to : start ≤ first
  start_to = elim s.joins [
    | inl j ↦ omega (arith, j.1)
    | inr j ↦ omega (arith, j.2, j.3, j.4)
  ]

  added_ids : (new : List Run) → new ≡ added ∷ s.rest → ids_of_runs new ≡ ids_of_runs rs ++ range_with_len first (last + 1 - first)
  added_ids new e = ap (λ (l : List Run). ids_of_runs l) e ∙ (elim s.joins [
    | inl j ↦ (
        let same : s.rest ≡ rs = sym (s.parts ∙ ap (λ l. l ++ s.rest) j.0) in
        ap (λ (l : List Run). ids_of_runs l ++ range_with_len start (last + 1 - start)) same
        ∙ ap (λ f. ids_of_runs rs ++ range_with_len f (last + 1 - f)) j.1)
    | inr j ↦ (
        let n = first - start in
        let m = last + 1 - first in
        let len : last + 1 - start ≡ n + m = omega (arith, j.2, j.3, j.4, o) in
        let own : j.0.last + 1 - j.0.first ≡ n = omega (arith, j.2, j.3, j.4) in
        let mid : start + n ≡ first = omega (arith, j.2, j.3, j.4) in
        let low : ids_of_runs rs ≡ ids_of_runs s.rest ++ range_with_len start n =
        ap (λ (l : List Run). ids_of_runs l) (s.parts ∙ ap (λ l. l ++ s.rest) j.1)
        ∙ ap (λ k. ids_of_runs s.rest ++ range_with_len j.0.first k) own ∙ ap (λ f. ids_of_runs s.rest ++ range_with_len f n) (sym j.3) in
        ap (λ k. ids_of_runs s.rest ++ range_with_len start k) len
        ∙ ap (λ l. ids_of_runs s.rest ++ l) (row_parts start n m ∙ ap (λ f. range_with_len start n ++ range_with_len f m) mid)
        ∙ sym (append_assoc (ids_of_runs s.rest) (range_with_len start n) (range_with_len first m))
        ∙ ap (λ l. l ++ range_with_len first m) (sym low))
  ])

  module _ (fits : last + 1 < RUNS_END) where
    added_runs : (new : List Run) → new ≡ added ∷ s.rest → AreRuns RUNS_END new
    added_runs new e = subst (AreRuns RUNS_END) (sym e) (omega (arith, start_to, o), fits, s.below)

    kept_is : (put : List Run) → put ≡ with_entry key_of (record { first = start; last = last }) rs → first ≤ start → put ≡ added ∷ s.rest
    kept_is put e n = e ∙ put_above ∙ (elim s.joins [
      | inl j ↦ ap (λ l. added ∷ l) (s.parts ∙ ap (λ l. l ++ s.rest) j.0)
      | inr j ↦ absurd (omega (arith, j.2, j.3, j.4, n))
    ])

    dropped_is : (put new : List Run) → put ≡ with_entry key_of (record { first = start; last = last }) rs →
        new ≡ without key_of (first - 1) put → start < first → new ≡ added ∷ s.rest
    dropped_is put new e f n = f ∙ ap (without key_of (first - 1)) (e ∙ put_above) ∙ (elim s.joins [
      | inl j ↦ absurd (omega (arith, j.1, n))
      | inr j ↦ (
          let low = subst (λ l. AreRuns (first + 1) l) (s.parts ∙ ap (λ l. l ++ s.rest) j.1) a in
          ap (λ l. without key_of (first - 1) (added ∷ l)) (s.parts ∙ ap (λ l. l ++ s.rest) j.1)
          ∙ without_in key_of (first - 1) (added ∷ []) (j.0 ∷ []) s.rest
          (All-cons (λ r. first - 1 < r.last) added [] (omega (arith, o, n)) (All-nil (λ r. first - 1 < r.last)))
          (all_below j.0.first (first - 1) s.rest low.2 (omega (arith, low.0, j.2)))
          ∙ ap (λ l. added ∷ (l ++ s.rest)) (without_own (first - 1) j.0 (omega (arith, j.2))))
    ])

    pub kept_runs : (put : List Run) → put ≡ with_entry key_of (record { first = start; last = last }) rs → first ≤ start → AreRuns RUNS_END put
    kept_runs put e n = added_runs put (kept_is put e n)

    pub kept_ids : (put : List Run) → put ≡ with_entry key_of (record { first = start; last = last }) rs → first ≤ start →
        ids_of_runs put ≡ ids_of_runs rs ++ range_with_len first (last + 1 - first)
    kept_ids put e n = added_ids put (kept_is put e n)

    pub dropped_runs : (put new : List Run) → put ≡ with_entry key_of (record { first = start; last = last }) rs →
        new ≡ without key_of (first - 1) put → start < first → AreRuns RUNS_END new
    dropped_runs put new e f n = added_runs new (dropped_is put new e f n)

    pub dropped_ids : (put new : List Run) → put ≡ with_entry key_of (record { first = start; last = last }) rs →
        new ≡ without key_of (first - 1) put → start < first → ids_of_runs new ≡ ids_of_runs rs ++ range_with_len first (last + 1 - first)
    dropped_ids put new e f n = added_ids new (dropped_is put new e f n)

-- If all ids are below one, the runs end below it.
pub runs_below : (id : ℕ) (rs : List Run) → AreRuns RUNS_END rs → ((i : ℕ) → IsTrue (contains nat_cmp (set_of rs) i) → i < id) → AreRuns (id + 1) rs
runs_below id [] a h = tt
runs_below id (r ∷ rs) a h =
    let l = h r.last (member_test (r ∷ rs) r.last ∙ grind (arith, a.0)) in (a.0, omega (arith, l), a.2)

-- ---- The lowest id
module _ (id : ℕ) (rs new : List Run) (a : AreRuns RUNS_END rs) (t : TakesLowest (Some id) rs new) where
  abbrev others : List Run
  others = t.0

  abbrev run : Run
  run = t.1

  both : AreRuns RUNS_END (others ++ run ∷ [])
  both = subst (AreRuns RUNS_END) t.2 a

  own : AreRuns (lowest_of RUNS_END others) (run ∷ [])
  own = lower_runs RUNS_END others (run ∷ []) both

  upper : AreRuns RUNS_END others
  upper = upper_runs RUNS_END others (run ∷ []) both

  was : (i : ℕ) → in_runs rs i ≡ (in_runs others i || (in_run i run || false))
  was i = ap (λ l. in_runs l i) t.2 ∙ list_any-append (in_run i) others (run ∷ [])

  above_them : (i : ℕ) → i ≤ run.last → in_runs others i ≡ false
  above_them i l = let m = own in none_above RUNS_END i others upper (omega (arith, m.1, l))

  pub lowest_is : IsLowestFrom 0 (set_of rs) id
  lowest_is =
      let m = own in
      record {
        from = omega arith;
        member = member_test rs id ∙ was id ∙ grind (arith, m.0, t.3);
        lowest = λ j l has. grind (arith, t.3, member_test rs j, was j, above_them j);
      }

  pub some_ids : 1 ≤ count_of rs
  some_ids =
      let m = own in
      let n = ap count_of t.2 in
      omega (arith, n, count_parts others (run ∷ []), count_more run [], m.0)

  -- The run stays without its first id, or goes.
  abbrev rest : Run
  rest = record { first = run.first + 1; last = run.last }

  new_is : ((new ≡ others ++ rest ∷ []) × (run.first < run.last)) ⊎ ((new ≡ others ++ []) × (run.last ≤ run.first))
  new_is = elim (cases_lt run.first run.last) [
    | inl l ↦ inl (t.4 ∙ ap (λ l. others ++ l) (cond-true _ _ _ (lt-ltb _ _ l)), l)
    | inr l ↦ inr (t.4 ∙ ap (λ l. others ++ l) (cond-false _ _ _ (le-ltb _ _ l)), l)
  ]

  pub left_runs : AreRuns RUNS_END new
  left_runs =
      let m = own in
      elim new_is [
        | inl n ↦ subst (AreRuns RUNS_END) (sym n.0) (both_runs RUNS_END others (rest ∷ []) upper (omega (arith, n.1), m.1, tt))
        | inr n ↦ subst (AreRuns RUNS_END) (sym n.0) (both_runs RUNS_END others [] upper tt)
      ]

  pub left_count : count_of rs - 1 ≡ count_of new
  left_count =
      let m = own in
      let c = ap count_of t.2 in
      elim new_is [
        | inl n ↦ (
            let d = ap count_of n.0 in
            omega (arith, c, d, count_parts others (run ∷ []), count_more run [], count_parts others (rest ∷ []), count_more rest [], n.1))
        | inr n ↦ (
            let d = ap count_of n.0 in
            omega (arith, c, d, count_parts others (run ∷ []), count_more run [], count_parts others [], n.1, m.0))
      ]

  pub left_members : Removes id (set_of rs) (set_of new)
  left_members i =
      let m = own in
      elim new_is [
        | inl n ↦ (
            let now = ap (λ l. in_runs l i) n.0 ∙ list_any-append (in_run i) others (rest ∷ []) in
            rw (member_test new i, now, member_test rs i, was i) (grind (arith, n.1, t.3, above_them run.first)))
        | inr n ↦ (
            let now = ap (λ l. in_runs l i) n.0 ∙ list_any-append (in_run i) others [] in
            rw (member_test new i, now, member_test rs i, was i) (grind (arith, n.1, m.0, t.3, above_them run.first)))
      ]
