-- The runs after an id is added.
use Rattle.std.proofs.Common.{◌≡◌, ℕ, ◌+◌, ◌-◌, ◌<◌, ◌≤◌, false, ◌||◌, eqb, List, [], ◌∷◌, ◌++◌, length, nat_eq, sym, ap, ◌∙◌, subst, refl, arith, inl, inr, Option, Some, None, IfSome, IfNone, Result, Ok, Err, OnErr}
use Rattle.std.proofs.lemmas.Bool.{cond-true, eq-eqb, le-ltb}
use Rattle.std.proofs.lemmas.List.{append_assoc, append-nil, length-append}
use Rattle.std.proofs.lemmas.List.FromFn.{length-range_with_len}
use Rattle.std.proofs.lemmas.List.Folds.{list_any-append}
use Rattle.std.proofs.lemmas.List.Elements.{All-append, All-cons, All-nil}
use Rattle.std.specs.List.{All}
use Rattle.std.specs.Ordering.{nat_cmp}
use Rattle.std.specs.BTreeSet.{contains}
use Rattle.vm_list.specs.declared.id_set.Run.{Run}
use Rattle.vm_list.specs.Entries.{above, below, with_entry, without, without_some, entry_at}
use Rattle.vm_list.specs.Runs.{RUNS_END, ids_of_run, ids_of_runs, AreRuns, lowest_of, Puts}
use Rattle.vm_list.proofs.RunJoins.{Joins}
use Rattle.vm_list.proofs.Middles.{with_in, with_nothing, without_in}
use Rattle.vm_list.proofs.Runs.{
  key_of,
  in_run,
  in_runs,
  set_of,
  member_test,
  upper_runs,
  lower_runs,
  both_runs,
  higher_end,
  all_above,
  all_below,
  none_above,
  none_below,
}

-- ---- Counts
pub ids_of_parts : (us ls : List Run) → ids_of_runs (us ++ ls) ≡ ids_of_runs ls ++ ids_of_runs us
ids_of_parts [] ls = sym (append-nil (ids_of_runs ls))
ids_of_parts (u ∷ us) ls = ap (λ l. l ++ ids_of_run u) (ids_of_parts us ls) ∙ append_assoc (ids_of_runs ls) (ids_of_runs us) (ids_of_run u)

abbrev pub count_of : List Run → ℕ
count_of rs = length (ids_of_runs rs)

pub count_parts : (us ls : List Run) → count_of (us ++ ls) ≡ count_of us + count_of ls
count_parts us ls =
    let e = ap length (ids_of_parts us ls) ∙ length-append (ids_of_runs ls) (ids_of_runs us) in omega (arith, e)

pub count_more : (r : Run) (rs : List Run) → count_of (r ∷ rs) ≡ r.last + 1 - r.first + count_of rs
count_more r rs =
    let e = length-append (ids_of_runs rs) (ids_of_run r) in
    let n = length-range_with_len r.first (r.last + 1 - r.first) in omega (arith, e, n)

-- No more ids than there are below the end.
pub count_bound : (end : ℕ) (rs : List Run) → AreRuns end rs → count_of rs ≤ end
count_bound end [] a = omega arith
count_bound end (r ∷ rs) a = omega (arith, count_more r rs, count_bound r.first rs a.2, a.0, a.1)

-- ---- A list of at most one entry: the entry replaced, removed and found
pub with_own : (e r : Run) → r.last ≡ e.last → with_entry key_of e (r ∷ []) ≡ e ∷ []
unfolding with_entry above below
with_own e r s = rw (le-ltb r.last e.last (omega (arith, s)), le-ltb e.last r.last (omega (arith, s))) refl

pub without_own : (k : ℕ) (r : Run) → r.last ≡ k → without key_of k (r ∷ []) ≡ []
unfolding without above below
without_own k r s = rw (le-ltb r.last k (omega (arith, s)), le-ltb k r.last (omega (arith, s))) refl

pub below_own : (r : Run) → below key_of r.last (r ∷ []) ≡ []
unfolding below
below_own r = rw (le-ltb r.last r.last (omega arith)) refl

pub own_entry : (k : ℕ) (r : Run) → r.last ≡ k → entry_at key_of k (r ∷ []) ≡ Some r
unfolding entry_at
own_entry k r s = cond-true (nat_eq r.last k) (Some r) None (eq-eqb _ _ s)

-- ---- An id and the runs next to it
module _ (id : ℕ) (rs : List Run) (run : Run) (a : AreRuns RUNS_END rs) (j : Joins id rs run) where
  above_runs : AreRuns RUNS_END j.upper
  above_runs = upper_runs RUNS_END j.upper _ (subst (AreRuns RUNS_END) j.parts a)

  middle_runs : AreRuns (lowest_of RUNS_END j.upper) (j.high ++ (j.low ++ j.lower))
  middle_runs = lower_runs RUNS_END j.upper _ (subst (AreRuns RUNS_END) j.parts a)

  -- The run has the id.
  last_from : id ≤ run.last
  last_from = elim j.last [
    | inl l ↦ omega (arith, l.1)
    | inr l ↦ (let m = subst (λ h. AreRuns (lowest_of RUNS_END j.upper) (h ++ (j.low ++ j.lower))) l.1 middle_runs in omega (arith, m.0, l.2, l.3))
  ]

  low_runs : AreRuns (id + 1) (j.low ++ j.lower)
  low_runs = elim j.first [
    | inl f ↦ subst (λ l. AreRuns (id + 1) (l ++ j.lower)) (sym f.0) (higher_end run.first (id + 1) j.lower j.below (omega (arith, f.1)))
    | inr f ↦ (
        let m = lower_runs _ j.high (j.low ++ j.lower) middle_runs in
        let n = subst (λ l. AreRuns (lowest_of (lowest_of RUNS_END j.upper) j.high) (l ++ j.lower)) f.1 m in
        subst (λ l. AreRuns (id + 1) (l ++ j.lower)) (sym f.1) (n.0, omega (arith, f.2), n.2))
  ]

  first_to : run.first ≤ id
  first_to = elim j.first [
    | inl f ↦ omega (arith, f.1)
    | inr f ↦ (let m = subst (λ l. AreRuns (id + 1) (l ++ j.lower)) f.1 low_runs in omega (arith, m.0, f.2, f.3))
  ]

  above_all : (k : ℕ) → k ≤ run.last → All (λ r. k < r.last) j.upper
  above_all k l = all_above RUNS_END k j.upper above_runs (omega (arith, l, j.above))

  below_all : (k : ℕ) → id ≤ k → All (λ r. r.last < k) (j.low ++ j.lower)
  below_all k l = all_below (id + 1) k (j.low ++ j.lower) low_runs (omega (arith, l))

  high_put : with_entry key_of run j.high ≡ run ∷ []
  high_put = elim j.last [
    | inl l ↦ ap (with_entry key_of run) l.0 ∙ with_nothing key_of run
    | inr l ↦ ap (with_entry key_of run) l.1 ∙ with_own run l.0 (sym l.3)
  ]

  pub put_parts : with_entry key_of run rs ≡ j.upper ++ run ∷ (j.low ++ j.lower)
  put_parts =
      ap (with_entry key_of run) j.parts
      ∙ with_in key_of run j.upper j.high (j.low ++ j.lower) (above_all run.last (omega arith)) (below_all run.last last_from)
      ∙ ap (λ l. j.upper ++ (l ++ (j.low ++ j.lower))) high_put

  -- The runs with the new one and without the one below the id.
  pub drop_parts : run.first < id → without key_of (id - 1) (with_entry key_of run rs) ≡ j.upper ++ run ∷ j.lower
  drop_parts n = elim j.first [
    | inl f ↦ absurd (omega (arith, f.1, n))
    | inr f ↦ (
        let low = subst (λ l. AreRuns (id + 1) (l ++ j.lower)) f.1 low_runs in
        ap (without key_of (id - 1)) (put_parts ∙ ap (λ l. j.upper ++ run ∷ (l ++ j.lower)) f.1 ∙ sym (append_assoc j.upper (run ∷ []) (f.0 ∷ j.lower)))
        ∙ without_in key_of (id - 1) (j.upper ++ run ∷ []) (f.0 ∷ []) j.lower
        (All-append (λ r. id - 1 < r.last) j.upper (run ∷ []) (above_all (id - 1) (omega (arith, last_from)))
        (All-cons (λ r. id - 1 < r.last) run [] (omega (arith, last_from, n)) (All-nil (λ r. id - 1 < r.last))))
        (all_below f.0.first (id - 1) j.lower low.2 (omega (arith, low.0, f.2)))
        ∙ ap (λ l. (j.upper ++ run ∷ []) ++ (l ++ j.lower)) (without_own (id - 1) f.0 (omega (arith, f.2)))
        ∙ append_assoc j.upper (run ∷ []) j.lower)
  ]

  pub keep_parts : id ≤ run.first → with_entry key_of run rs ≡ j.upper ++ run ∷ j.lower
  keep_parts n = put_parts ∙ (elim j.first [
    | inl f ↦ ap (λ l. j.upper ++ run ∷ (l ++ j.lower)) f.0
    | inr f ↦ absurd (let low = subst (λ l. AreRuns (id + 1) (l ++ j.lower)) f.1 low_runs in omega (arith, low.0, f.2, f.3, n))
  ])

  -- These runs have one id more.
  old_test : (i : ℕ) → in_runs rs i ≡ (in_runs j.upper i || (in_runs j.high i || (in_runs j.low i || in_runs j.lower i)))
  old_test i =
      ap (λ l. in_runs l i) j.parts ∙ list_any-append (in_run i) j.upper (j.high ++ (j.low ++ j.lower))
      ∙ ap (λ b. in_runs j.upper i || b) (list_any-append (in_run i) j.high (j.low ++ j.lower)
      ∙ ap (λ b. in_runs j.high i || b) (list_any-append (in_run i) j.low j.lower))

  run_test : (i : ℕ) → in_run i run ≡ (eqb i id || (in_runs j.high i || in_runs j.low i))
  run_test i = elim j.last [
    | inl l ↦ elim j.first [
      | inl f ↦ rw (l.0, f.0) (grind (arith, l.1, f.1))
      | inr f ↦ rw (l.0, f.1) (grind (arith, l.1, f.2, f.3, first_to))
    ]
    | inr l ↦ elim j.first [
      | inl f ↦ rw (l.1, f.0) (grind (arith, l.2, l.3, f.1, last_from))
      | inr f ↦ rw (l.1, f.1) (grind (arith, l.2, l.3, f.2, f.3, last_from, first_to))
    ]
  ]

  run_count : run.last + 1 - run.first ≡ count_of j.high + count_of j.low + 1
  run_count = elim j.last [
    | inl l ↦ elim j.first [
      | inl f ↦ rw (l.0, f.0) (omega (arith, l.1, f.1))
      | inr f ↦ rw (l.0, f.1) (omega (arith, l.1, f.2, f.3, first_to, count_more f.0 []))
    ]
    | inr l ↦ elim j.first [
      | inl f ↦ rw (l.1, f.0) (omega (arith, l.2, l.3, f.1, last_from, count_more l.0 []))
      | inr f ↦ rw (l.1, f.1) (omega (arith, l.2, l.3, f.2, f.3, last_from, first_to, count_more l.0 [], count_more f.0 []))
    ]
  ]

  -- No run has the id.
  pub id_is_new : contains nat_cmp (set_of rs) id ≡ false
  id_is_new =
      let high = none_above RUNS_END id j.upper above_runs (omega (arith, last_from, j.above)) in
      let low = none_below run.first id j.lower j.below (omega (arith, first_to)) in
      member_test rs id ∙ old_test id ∙ (elim j.last [
        | inl l ↦ elim j.first [
          | inl f ↦ rw (l.0, f.0) (grind (arith, high, low))
          | inr f ↦ rw (l.0, f.1) (grind (arith, f.2, high, low))
        ]
        | inr l ↦ elim j.first [
          | inl f ↦ rw (l.1, f.0) (grind (arith, l.2, high, low))
          | inr f ↦ rw (l.1, f.1) (grind (arith, l.2, f.2, high, low))
        ]
      ])

  pub puts : (new : List Run) → new ≡ j.upper ++ run ∷ j.lower → Puts id rs new
  puts new e =
      subst (Puts id rs) (sym e) (record {
        order = both_runs RUNS_END j.upper (run ∷ j.lower) above_runs (omega (arith, first_to, last_from), j.above, j.below);
        members = λ i.
            member_test (j.upper ++ run ∷ j.lower) i ∙ list_any-append (in_run i) j.upper (run ∷ j.lower)
            ∙ rw (member_test rs i, old_test i) (grind (arith, run_test i));
        counted =
            let all = count_parts j.upper (j.high ++ (j.low ++ j.lower)) in
            let high = count_parts j.high (j.low ++ j.lower) in
            let low = count_parts j.low j.lower in
            let old = ap count_of j.parts in
            omega (arith, all, high, low, old, count_parts j.upper (run ∷ j.lower), count_more run j.lower, run_count);
      })

  -- The run that ends right below the id is taken out if there is one.
  pub puts_without : (gone : Option ℕ) → IfSome gone (λ k. (run.first < id) × (k ≡ id - 1)) → IfNone gone (id ≤ run.first) → (new : List Run) →
      new ≡ without_some key_of gone (with_entry key_of run rs) → Puts id rs new
  puts_without None s n new e = puts new (e ∙ keep_parts n)
  puts_without (Some k) s n new e = puts new (e ∙ ap (λ k. without key_of k (with_entry key_of run rs)) s.1 ∙ drop_parts s.0)

-- A fact is also true on an error.
pub on_err : {T E : Type 0} (P : Type 0) (r : Result T E) → P → OnErr r P
on_err P (Ok t) p = tt
on_err P (Err e) p = p
