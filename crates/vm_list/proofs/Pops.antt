-- The lowest id is taken out of runs.
use Rattle.std.proofs.Common.{◌≡◌, ℕ, ◌+◌, ◌<◌, List, [], ◌∷◌, ◌++◌, length, arith, sym, ap, ◌∙◌, subst, refl, inl, inr, Option, Some, None, append_assoc}
use Rattle.std.proofs.lemmas.Bool.{cases_lt, cond-true, cond-false, lt-ltb, le-ltb}
use Rattle.std.proofs.lemmas.List.{append-nil}
use Rattle.vm_tree.specs.Subtree.{AllOf}
use Rattle.vm_tree.specs.Edits.{IsHome, IsRefused}
use Rattle.vm_tree.specs.Shrinks.{IsShrunk, Meet}
use Rattle.vm_list.specs.declared.id_set.Run.{Run}
use Rattle.vm_list.specs.Entries.{IsDescendingBy}
use Rattle.vm_list.specs.Leaves.{items_of, leaf_entry, AreLeaves, IsEnough}
use Rattle.vm_list.specs.Puts.{IsPopped, Meets, Joins}
use Rattle.vm_list.specs.Runs.{last_of, without_first, TakesLowest}
use Rattle.vm_list.proofs.Falls.{Falls, falls, falls_left, descends, all_both, all_left, all_right}
use Rattle.vm_list.proofs.Homes.{home_mid, items_mid, size, all_filled, meeting_all, regrouped_items}

-- A run without its first id has the same key.
same_last : (rs : List Run) (run : Run) → Falls last_of (rs ++ run ∷ []) → Falls last_of (rs ++ record { first = run.first + 1; last = run.last } ∷ [])
same_last [] run f = f
same_last (r ∷ rs) run f =
    let P : Run → Type 0 = λ y. y.last < r.last in
    (all_both P rs (record { first = run.first + 1; last = run.last } ∷ []) (all_left P rs (run ∷ []) f.0) (all_right P rs (run ∷ []) f.0), same_last rs run f.1)

shortened : (rs : List Run) (run : Run) → Falls last_of (rs ++ run ∷ []) → Falls last_of (rs ++ without_first run)
shortened rs run f =
    elim (cases_lt run.first run.last) [
      | inl l ↦ subst (λ l. Falls last_of (rs ++ l)) (sym (cond-true _ _ _ (lt-ltb _ _ l))) (same_last rs run f)
      | inr l ↦ subst (λ l. Falls last_of (rs ++ l)) (sym (cond-false _ _ _ (le-ltb _ _ l)))
          (subst (Falls last_of) (sym (append-nil rs)) (falls_left last_of rs (run ∷ []) f))
    ]

-- The runs descend then.
pub taken_descends : (o : Option ℕ) (old new : List Run) → TakesLowest o old new → IsDescendingBy last_of old → IsDescendingBy last_of new
taken_descends None old new t d = subst (IsDescendingBy last_of) (sym t.1) d
taken_descends (Some id) old new (rs, run, e, f, g) d =
    subst (IsDescendingBy last_of) (sym g)
    (descends last_of (rs ++ without_first run) (shortened rs run (subst (Falls last_of) e (falls last_of old d))))

nothing : (xs : List Run) → AllOf (λ x. x.last < 0) xs → xs ≡ []
nothing [] a = refl
nothing (x ∷ xs) a = absurd (omega (arith, a.0))

no_items : (cs : List (List Run)) → (0 < length cs → ⊥) → items_of cs ≡ []
no_items [] f = refl
no_items (c ∷ cs) f = absurd (f (omega arith))

module _ (cs : List (List Run)) (ok : AreLeaves last_of cs) where
  -- The leaf of the key 0 is the lowest one.
  module _ (before : List (List Run)) (leaf : List Run) (after : List (List Run)) (h : IsHome (leaf_entry last_of) 0 cs before leaf after) where
    none_before : items_of before ≡ []
    none_before = nothing (items_of before) (home_mid last_of 0 cs ok before leaf after h).under

    lowest : (id : ℕ) (rest : List Run) → TakesLowest (Some id) leaf rest → TakesLowest (Some id) (items_of cs) (items_of (before ++ ((rest ∷ []) ++ after)))
    lowest id rest t = (
      items_of after ++ t.0,
      t.1,
      (home_mid last_of 0 cs ok before leaf after h).is ∙ ap (λ l. items_of after ++ (leaf ++ l)) none_before
          ∙ ap (λ l. items_of after ++ l) (append-nil leaf ∙ t.2) ∙ sym (append_assoc (items_of after) t.0 (t.1 ∷ [])),
      t.3,
      items_mid before (rest ∷ []) after ∙ ap (λ l. items_of after ++ (rest ++ l)) none_before
          ∙ ap (λ l. items_of after ++ l) (append-nil rest ∙ t.4) ∙ sym (append_assoc (items_of after) t.0 (without_first t.1)),
    )

  -- The rest of the leaf meets its neighbours.
  pub meets_popped : (before : List (List Run)) (leaf : List Run) (after leaves : List (List Run)) (taken : Option ℕ) → IsHome (leaf_entry last_of) 0 cs before leaf after
      → IsPopped taken leaf leaves → Meet (Meets last_of) (before ++ (leaves ++ after))
  meets_popped before leaf after leaves taken h p =
      subst (λ l. Meet (Meets last_of) (before ++ (l ++ after))) (sym p.leaves)
      (meeting_all last_of (before ++ ((p.rest ∷ []) ++ after))
      (taken_descends (Some p.id) (items_of cs) _ (lowest before leaf after h p.id p.rest p.takes) ok.order))

  pub popped : (ds : List (List Run)) (taken : Option ℕ) → IsShrunk (leaf_entry last_of) Joins 0 (λ l ls. IsPopped taken l ls) cs ds
      → TakesLowest taken (items_of cs) (items_of ds)
  popped ds taken s =
      let r = s.edited in
      let p = r.edit in
      let e : items_of ds ≡ items_of (r.before ++ ((p.rest ∷ []) ++ r.after)) =
      regrouped_items last_of 0 cs ds ok s.middle ds s.regrouped ∙ ap items_of (r.is ∙ ap (λ l. r.before ++ (l ++ r.after)) p.leaves) in
      subst (λ o. TakesLowest o (items_of cs) (items_of ds)) (sym p.is)
      (subst (TakesLowest (Some p.id) (items_of cs)) (sym e) (lowest r.before r.leaf r.after r.home p.id p.rest p.takes))

  -- A leaf without a run is alone.
  pub none_popped : (taken : Option ℕ) → IsRefused (leaf_entry last_of) 0 (λ l. (taken ≡ None) × (l ≡ [])) cs → items_of cs ≡ []
  none_popped taken s =
      let m = home_mid last_of 0 cs ok s.before s.leaf s.after s.home in
      let n = size last_of 0 cs ok s.before s.leaf s.after s.home in
      let a : items_of s.after ≡ [] = no_items s.after (λ l.
      let f = (all_right IsEnough s.before (s.leaf ∷ s.after) (all_filled last_of 0 cs ok s.before s.leaf s.after s.home (omega (arith, n, l)))).0 in
      omega (arith, f, ap length s.refused.1)) in
      m.is ∙ ap (λ l. l ++ (s.leaf ++ items_of s.before)) a ∙ ap (λ l. l ++ items_of s.before) s.refused.1 ∙ nothing (items_of s.before) m.under
