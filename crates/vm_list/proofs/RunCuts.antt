-- The runs after an id is taken out.
use Rattle.std.proofs.Common.{◌≡◌, ℕ, ◌+◌, ◌-◌, ◌<◌, ◌≤◌, ◌⊎◌, not, ◌||◌, ◌&&◌, eqb, List, [], ◌∷◌, ◌++◌, sym, ap, ◌∙◌, subst, refl, arith, inl, inr, Some}
use Rattle.std.proofs.lemmas.List.{append_assoc}
use Rattle.std.proofs.lemmas.List.Folds.{list_any-append}
use Rattle.std.proofs.lemmas.List.Elements.{All-append, All-cons, All-nil}
use Rattle.std.specs.List.{All}
use Rattle.std.specs.Option.{is_some, IsSome}
use Rattle.vm_list.specs.declared.id_set.Run.{Run}
use Rattle.vm_list.specs.Entries.{below, with_entry, without, entry_at, at_or_above}
use Rattle.vm_list.specs.Runs.{RUNS_END, AreRuns, lowest_of, HasRun, Cuts, IsInside}
use Rattle.vm_list.proofs.Middles.{entry_in, with_in, with_nothing, without_in, below_in}
use Rattle.vm_list.proofs.Runs.{
  key_of,
  in_run,
  in_runs,
  set_of,
  member_test,
  upper_runs,
  lower_runs,
  both_runs,
  higher_end,
  all_above,
  all_below,
  none_above,
  none_below,
  found_near,
}
use Rattle.vm_list.proofs.RunChanges.{count_of, count_parts, count_more, with_own, without_own, below_own, own_entry}

-- The run that a search finds has the id if it begins up to it.
pub has_run : (id : ℕ) (rs : List Run) (r : Run) → AreRuns RUNS_END rs → Some r ≡ at_or_above key_of id rs → r.first ≤ id → HasRun id rs r
has_run id rs r a e l =
    let f = found_near id rs RUNS_END a r e in
    let n = f.0 in
    subst (λ (r : Run). r.first ≤ id → HasRun id rs r) f.1
    (λ l. record { upper = n.upper; lower = n.lower; parts = n.parts; first = l; last = n.reaches }) l

module _ (id : ℕ) (rs : List Run) (run : Run) (a : AreRuns RUNS_END rs) (h : HasRun id rs run) where
  above_runs : AreRuns RUNS_END h.upper
  above_runs = upper_runs RUNS_END h.upper _ (subst (AreRuns RUNS_END) h.parts a)

  own_runs : AreRuns (lowest_of RUNS_END h.upper) (run ∷ h.lower)
  own_runs = lower_runs RUNS_END h.upper _ (subst (AreRuns RUNS_END) h.parts a)

  above_all : (k : ℕ) → k ≤ run.last → All (λ r. k < r.last) h.upper
  above_all k l = let m = own_runs in all_above RUNS_END k h.upper above_runs (omega (arith, l, m.1))

  above_more : (k : ℕ) → k < run.last → All (λ r. k < r.last) (h.upper ++ run ∷ [])
  above_more k l =
      All-append (λ r. k < r.last) h.upper (run ∷ []) (above_all k (omega (arith, l)))
      (All-cons (λ r. k < r.last) run [] l (All-nil (λ r. k < r.last)))

  below_all : (k : ℕ) → run.first ≤ k + 1 → All (λ r. r.last < k) h.lower
  below_all k l = all_below run.first k h.lower own_runs.2 l

  pub own_known : (rest : List Run) (now : List Run) → now ≡ h.upper ++ run ∷ rest → AreRuns (run.last + 1) rest →
      IsSome (entry_at key_of run.last now)
  own_known rest now e r =
      ap is_some (ap (entry_at key_of run.last) e
      ∙ entry_in key_of run.last h.upper (run ∷ []) rest (above_all run.last (omega arith)) (all_below (run.last + 1) run.last rest r (omega arith))
      ∙ own_entry run.last run refl)

  lower_end : AreRuns (run.last + 1) h.lower
  lower_end = let m = own_runs in higher_end run.first (run.last + 1) h.lower m.2 (omega (arith, m.0))

  pub known : IsSome (entry_at key_of run.last rs)
  known = own_known h.lower rs h.parts lower_end

  -- The id is the last of its run.
  module _ (s : id ≡ run.last) where
    taken : without key_of run.last rs ≡ h.upper ++ h.lower
    taken =
        let m = own_runs in
        ap (without key_of run.last) h.parts
        ∙ without_in key_of run.last h.upper (run ∷ []) h.lower (above_all run.last (omega arith)) (below_all run.last (omega (arith, m.0)))
        ∙ ap (λ l. h.upper ++ (l ++ h.lower)) (without_own run.last run refl)

    pub lower_apart : run.first < id → All (λ r. r.last < id - 1) (below key_of run.last rs)
    lower_apart l =
        let m = own_runs in
        let e : below key_of run.last rs ≡ h.lower =
        ap (below key_of run.last) h.parts
        ∙ below_in key_of run.last h.upper (run ∷ []) h.lower (above_all run.last (omega arith)) (below_all run.last (omega (arith, m.0)))
        ∙ ap (λ l. l ++ h.lower) (below_own run) in
        subst (λ (l : List Run). All (λ r. r.last < id - 1) l) (sym e) (below_all (id - 1) (omega (arith, l)))

    pub taken_parts : (new : List Run) → new ≡ without key_of run.last rs → new ≡ h.upper ++ ([] ++ ([] ++ h.lower))
    taken_parts new e = e ∙ taken

    pub lower_parts : (new : List Run) → run.first < id →
        new ≡ with_entry key_of (record { first = run.first; last = id - 1 }) (without key_of run.last rs) →
        new ≡ h.upper ++ ([] ++ ((record { first = run.first; last = id - 1 } ∷ []) ++ h.lower))
    lower_parts new l e =
        let low : Run = record { first = run.first; last = id - 1 } in
        e ∙ ap (with_entry key_of low) taken
        ∙ with_in key_of low h.upper [] h.lower (above_all (id - 1) (omega (arith, s))) (below_all (id - 1) (omega (arith, l)))
        ∙ ap (λ l. h.upper ++ (l ++ h.lower)) (with_nothing key_of low)

  abbrev low_run : Run
  low_run = record { first = run.first; last = id - 1 }

  abbrev high_run : Run
  high_run = record { first = id + 1; last = run.last }

  -- The runs above it, the run, and those below after the lower part of it is added, if it has one.
  pub record Parted (now : List Run) : Type 0 where
    pub low : List Run
    pub parts : now ≡ h.upper ++ run ∷ (low ++ h.lower)
    pub first : ((low ≡ []) × (run.first ≡ id)) ⊎ ((run.first < id) × (low ≡ record { first = run.first; last = id - 1 } ∷ []))

  pub not_parted : id ≤ run.first → Parted rs
  not_parted l = let f = h.first in record { low = []; parts = h.parts; first = inl (refl, omega (arith, l, f)) }

  pub inserted : (now : List Run) → run.first < id → now ≡ with_entry key_of (record { first = run.first; last = id - 1 }) rs → Parted now
  inserted now l e =
      let m = h.last in
      record {
        low = low_run ∷ [];
        parts =
            e ∙ ap (with_entry key_of low_run) (h.parts ∙ sym (append_assoc h.upper (run ∷ []) h.lower))
            ∙ with_in key_of low_run (h.upper ++ run ∷ []) [] h.lower (above_more (id - 1) (omega (arith, l, m))) (below_all (id - 1) (omega (arith, l)))
            ∙ ap (λ l. (h.upper ++ run ∷ []) ++ (l ++ h.lower)) (with_nothing key_of low_run)
            ∙ append_assoc h.upper (run ∷ []) (low_run ∷ h.lower);
        first = inr (l, refl);
      }

  module _ (now : List Run) (p : Parted now) where
    rest_end : AreRuns (id + 1) (p.low ++ h.lower)
    rest_end = elim p.first [
      | inl f ↦ subst (λ l. AreRuns (id + 1) (l ++ h.lower)) (sym f.0) (higher_end run.first (id + 1) h.lower own_runs.2 (omega (arith, f.1)))
      | inr f ↦ subst (λ l. AreRuns (id + 1) (l ++ h.lower)) (sym f.1) (omega (arith, f.0), omega arith, own_runs.2)
    ]

    rest_below : id ≤ run.last → AreRuns (run.last + 1) (p.low ++ h.lower)
    rest_below l = higher_end (id + 1) (run.last + 1) (p.low ++ h.lower) rest_end (omega (arith, l))

    pub part_known : IsSome (entry_at key_of run.last now)
    part_known = own_known (p.low ++ h.lower) now p.parts (rest_below h.last)

    pub set_parts : (new : List Run) → new ≡ with_entry key_of (record { first = id + 1; last = run.last }) now →
        new ≡ h.upper ++ ((record { first = id + 1; last = run.last } ∷ []) ++ (p.low ++ h.lower))
    set_parts new e =
        e ∙ ap (with_entry key_of high_run) p.parts
        ∙ with_in key_of high_run h.upper (run ∷ []) (p.low ++ h.lower) (above_all run.last (omega arith))
        (all_below (run.last + 1) run.last (p.low ++ h.lower) (rest_below h.last) (omega arith))
        ∙ ap (λ l. h.upper ++ (l ++ (p.low ++ h.lower))) (with_own high_run run refl)

  -- ---- The runs without the id
  module _ (high low : List Run)
      (hs : ((high ≡ []) × (id ≡ run.last)) ⊎ ((id < run.last) × (high ≡ record { first = id + 1; last = run.last } ∷ [])))
      (ls : ((low ≡ []) × (run.first ≡ id)) ⊎ ((run.first < id) × (low ≡ record { first = run.first; last = id - 1 } ∷ []))) where
    left_runs : AreRuns (lowest_of RUNS_END h.upper) (high ++ (low ++ h.lower))
    left_runs =
        let m = own_runs in
        let top = lowest_of RUNS_END h.upper in
        elim hs [
          | inl t ↦ elim ls [
            | inl f ↦ subst (λ (l : List Run). AreRuns top (l ++ (low ++ h.lower))) (sym t.0)
                (subst (λ (l : List Run). AreRuns top (l ++ h.lower)) (sym f.0) (higher_end run.first top h.lower m.2 (omega (arith, m.0, m.1))))
            | inr f ↦ subst (λ (l : List Run). AreRuns top (l ++ (low ++ h.lower))) (sym t.0)
                (subst (λ (l : List Run). AreRuns top (l ++ h.lower)) (sym f.1) (omega (arith, f.0), omega (arith, f.0, t.1, m.1), m.2))
          ]
          | inr t ↦ subst (λ (l : List Run). AreRuns top (l ++ (low ++ h.lower))) (sym t.1) (elim ls [
            | inl f ↦ subst (λ (l : List Run). AreRuns top (high_run ∷ (l ++ h.lower))) (sym f.0)
                (omega (arith, t.0), m.1, higher_end run.first (id + 1) h.lower m.2 (omega (arith, f.1)))
            | inr f ↦ subst (λ (l : List Run). AreRuns top (high_run ∷ (l ++ h.lower))) (sym f.1)
                (omega (arith, t.0), m.1, (omega (arith, f.0), omega (arith, f.0), m.2))
          ])
        ]

    parts_test : (i : ℕ) → (in_runs high i || in_runs low i) ≡ (not (eqb i id) && in_run i run)
    parts_test i = elim hs [
      | inl t ↦ elim ls [
        | inl f ↦ rw (t.0, f.0) (grind (arith, t.1, f.1))
        | inr f ↦ rw (t.0, f.1) (grind (arith, t.1, f.0))
      ]
      | inr t ↦ elim ls [
        | inl f ↦ rw (t.1, f.0) (grind (arith, t.0, f.1))
        | inr f ↦ rw (t.1, f.1) (grind (arith, t.0, f.0))
      ]
    ]

    parts_count : run.last + 1 - run.first ≡ count_of high + count_of low + 1
    parts_count = elim hs [
      | inl t ↦ elim ls [
        | inl f ↦ rw (t.0, f.0) (omega (arith, t.1, f.1))
        | inr f ↦ rw (t.0, f.1) (omega (arith, t.1, f.0, count_more low_run []))
      ]
      | inr t ↦ elim ls [
        | inl f ↦ rw (t.1, f.0) (omega (arith, t.0, f.1, count_more high_run []))
        | inr f ↦ rw (t.1, f.1) (omega (arith, t.0, f.0, count_more high_run [], count_more low_run []))
      ]
    ]

    pub cuts : (new : List Run) → new ≡ h.upper ++ (high ++ (low ++ h.lower)) → Cuts id rs new
    cuts new e =
        let m = own_runs in
        let first = h.first in
        let last = h.last in
        let up = none_above RUNS_END id h.upper above_runs (omega (arith, last, m.1)) in
        let down = none_below run.first id h.lower m.2 (omega (arith, first)) in
        let was : (i : ℕ) → in_runs rs i ≡ (in_runs h.upper i || (in_run i run || in_runs h.lower i)) =
        λ i. ap (λ l. in_runs l i) h.parts ∙ list_any-append (in_run i) h.upper (run ∷ h.lower) in
        subst (Cuts id rs) (sym e) (record {
          order = both_runs RUNS_END h.upper (high ++ (low ++ h.lower)) above_runs left_runs;
          had = member_test rs id ∙ was id ∙ grind (arith, first, last);
          members = λ i.
              member_test (h.upper ++ (high ++ (low ++ h.lower))) i ∙ list_any-append (in_run i) h.upper (high ++ (low ++ h.lower))
              ∙ ap (λ b. in_runs h.upper i || b) (list_any-append (in_run i) high (low ++ h.lower)
              ∙ ap (λ b. in_runs high i || b) (list_any-append (in_run i) low h.lower))
              ∙ rw (member_test rs i, was i) (grind (arith, parts_test i, up, down));
          counted =
              let old = ap count_of h.parts in
              omega (
                arith,
                old,
                count_parts h.upper (run ∷ h.lower),
                count_more run h.lower,
                parts_count,
                count_parts h.upper (high ++ (low ++ h.lower)),
                count_parts high (low ++ h.lower),
                count_parts low h.lower,
              );
        })

  -- The id is inside if it is no end of its run.
  pub inside : run.first < id → id < run.last → IsInside id (set_of rs)
  inside f l =
      let was : (i : ℕ) → in_runs rs i ≡ (in_runs h.upper i || (in_run i run || in_runs h.lower i)) =
      λ i. ap (λ l. in_runs l i) h.parts ∙ list_any-append (in_run i) h.upper (run ∷ h.lower) in
      record {
        first = omega (arith, f);
        below = member_test rs (id - 1) ∙ was (id - 1) ∙ grind (arith, f, l);
        own = member_test rs id ∙ was id ∙ grind (arith, f, l);
        above = member_test rs (id + 1) ∙ was (id + 1) ∙ grind (arith, f, l);
      }
