-- The children that a search within a window begins with.
use Rattle.std.proofs.Common.{◌≡◌, ℕ, zero, suc, ◌+◌, ◌-◌, ◌≤◌, ◌<◌, min, true, List, [], ◌∷◌, ◌++◌, length, take, drop, map, ◌∙◌, sym, ap, subst, refl, arith, take-append-drop, add-one, false, inl, inr}
use Rattle.std.proofs.lemmas.Bool.{cases_lt}
use Rattle.std.proofs.lemmas.List.{length-append}
use Rattle.vm_tree.specs.Entry.{Entry}
use Rattle.vm_tree.specs.Rows.{nth, Ascends}
use Rattle.vm_tree.specs.Subtree.{Subtree, leaves_of, front, entry_of, leaves_entry, nth_tree, AllOf, AreFull}
use Rattle.vm_tree.specs.Seeking.{Seeking, IsSeeking}
use Rattle.vm_tree.specs.Passing.{NoneFits, IsNext, IsLowKid, IsKidCount}
use Rattle.vm_tree.specs.Sought.{MayEnter, IsPassing}
use Rattle.vm_tree.specs.declared.end.End.{End}
use Rattle.vm_tree.proofs.Flats.{flat-append, flat_cut, full_at, ascends, all_left, all_right}
use Rattle.vm_tree.proofs.Passing.{same_count, entry_at, kid_runs, none_left}

module _ {X : Type 0} where
  -- A child of a part of the children.
  all_in_take : (Q : X → Type 0) (ss : List (Subtree X)) (m i : ℕ) → i < m → i < length ss → AllOf Q (leaves_of (take m ss)) → AllOf Q (nth_tree ss i).leaves
  all_in_take Q [] m i p l a = absurd (omega arith)
  all_in_take Q (s ∷ ss) zero i p l a = absurd (omega arith)
  all_in_take Q (s ∷ ss) (suc m) zero p l a = all_left Q s.leaves (leaves_of (take m ss)) a
  all_in_take Q (s ∷ ss) (suc m) (suc i) p l a = all_in_take Q ss m i (omega arith) (omega arith) (all_right Q s.leaves (leaves_of (take m ss)) a)

  all_in_drop : (Q : X → Type 0) (ss : List (Subtree X)) (m i : ℕ) → m ≤ i → i < length ss → AllOf Q (leaves_of (drop m ss)) → AllOf Q (nth_tree ss i).leaves
  all_in_drop Q [] m i p l a = absurd (omega arith)
  all_in_drop Q (s ∷ ss) zero zero p l a = all_left Q s.leaves (leaves_of ss) a
  all_in_drop Q (s ∷ ss) zero (suc i) p l a = all_in_drop Q ss zero i (omega arith) (omega arith) (subst (λ zs. AllOf Q (leaves_of zs)) (sym (whole ss)) (all_right Q s.leaves (leaves_of ss) a))
    where
      whole : (ss : List (Subtree X)) → drop 0 ss ≡ ss
      whole [] = refl
      whole (t ∷ ss) = refl
  all_in_drop Q (s ∷ ss) (suc m) zero p l a = absurd (omega arith)
  all_in_drop Q (s ∷ ss) (suc m) (suc i) p l a = all_in_drop Q ss m i (omega arith) (omega arith) a

  some_take : (i : ℕ) (ss : List (Subtree X)) → 0 < length (leaves_of (take i ss)) → 0 < i
  some_take zero ss k = absurd (omega arith)
  some_take (suc i) ss k = omega arith

  some_drop : (i : ℕ) (ss : List (Subtree X)) → 0 < length (leaves_of (drop i ss)) → i < length ss
  some_drop zero [] k = absurd (omega arith)
  some_drop (suc i) [] k = absurd (omega arith)
  some_drop zero (s ∷ ss) k = omega arith
  some_drop (suc i) (s ∷ ss) k = omega (arith, some_drop i ss k)

  cut_at : (i : ℕ) (ss : List (Subtree X)) → leaves_of ss ≡ leaves_of (take i ss) ++ leaves_of (drop i ss)
  cut_at i ss = ap leaves_of (sym (take-append-drop i ss)) ∙ flat-append (take i ss) (drop i ss)

  module _ (en : X → Entry) (P : X → Type 0) where
    head_at : (xs ys : List X) → 0 < length xs → (leaves_entry en (xs ++ ys)).at ≡ (leaves_entry en xs).at
    head_at [] ys l = absurd (omega arith)
    head_at (x ∷ xs) ys l = refl

    drop_at : (h : ℕ) (ss : List (Subtree X)) (i : ℕ) → AreFull P h ss → i < length ss
        → ((leaves_entry en (leaves_of (drop i ss))).at ≡ (entry_of en (nth_tree ss i)).at) × (0 < length (leaves_of (drop i ss)))
    drop_at h [] i a l = absurd (omega arith)
    drop_at h (s ∷ ss) zero a l = (head_at s.leaves (leaves_of ss) a.0.some, omega (arith, a.0.some, length-append s.leaves (leaves_of ss)))
    drop_at h (s ∷ ss) (suc i) a l = drop_at h ss i a.1 (omega arith)

take_some : {X : Type 0} (P : X → Type 0) (h : ℕ) (ss : List (Subtree X)) (i : ℕ) → AreFull P h ss → i < length ss → 0 < length (leaves_of (take (i + 1) ss))
take_some P h ss i a l = rw add-one (some P h ss i a l)
  where
    some : {X : Type 0} (P : X → Type 0) (h : ℕ) (ss : List (Subtree X)) (i : ℕ) → AreFull P h ss → i < length ss → 0 < length (leaves_of (take (suc i) ss))
    some P h [] i a l = absurd (omega arith)
    some P h (s ∷ ss) i a l = omega (arith, a.0.some, length-append s.leaves (leaves_of (take i ss)))

module _ {X : Type 0} (en : X → Entry) (P : X → Type 0) (q : Seeking X) (law : IsSeeking en q) (es : List Entry) (ss : List (Subtree X))
    (even : AreFull P (front ss) ss) (e : es ≡ map (entry_of en) ss) (run : q.runs (leaves_of ss)) where
  pub in_order : Ascends es
  in_order i j p r l = ascends en P es ss (front ss) i j e even (law.ascend (leaves_of ss) run) p r l

  -- The first address of the children from i on.
  start_at : (i : ℕ) → i < length ss → (leaves_entry en (leaves_of (drop i ss))).at ≡ (nth es i).at
  start_at i l = (drop_at en P (front ss) ss i even l).0 ∙ sym (ap (λ (x : Entry). x.at) (entry_at en P q law es ss even e run i l))

  cut_runs : (i : ℕ) → q.runs (leaves_of (take i ss) ++ leaves_of (drop i ss))
  cut_runs i = subst q.runs (cut_at i ss) run

  module _ (from to : ℕ) (low : IsLowKid q.low es from) (high : IsKidCount q.high es to) where
    n : length es ≡ length ss
    n = same_count en P q law es ss even e run

    -- The children before the first one end before the window.
    none_low : (i : ℕ) → i < from → i < length ss → AllOf q.lacks (nth_tree ss i).leaves
    none_low i p l =
        let m : from < length ss = omega (arith, low.within, n) in
        all_in_take q.lacks ss from i p l
        (law.below (leaves_of (take from ss)) (leaves_of (drop from ss)) (drop_at en P (front ss) ss from even m).1 (cut_runs from)
        (omega (arith, start_at from m, low.from (omega arith))))

    -- The others start after the window.
    none_high : (i : ℕ) → to ≤ i → i < length ss → AllOf q.lacks (nth_tree ss i).leaves
    none_high i p l =
        let m : to < length ss = omega arith in
        all_in_drop q.lacks ss to i p l
        (law.above (leaves_of (take to ss)) (leaves_of (drop to ss)) (drop_at en P (front ss) ss to even m).1 (cut_runs to)
        (omega (arith, start_at to m, high.upto (omega (arith, n)))))

    reach_kid : q.reaches (leaves_of ss) ≡ true → (i : ℕ) → from ≤ i → i < to → q.reaches (nth_tree ss i).leaves ≡ true
    reach_kid reach i f t =
        let l : i < length ss = omega (arith, high.within, n) in
        law.reach (leaves_of (take i ss)) (nth_tree ss i).leaves (leaves_of (drop (suc i) ss)) (full_at P (front ss) ss i even l).some
        (subst q.runs (flat_cut ss i l) run) (subst (λ xs. q.reaches xs ≡ true) (flat_cut ss i l) reach)
        (λ k. omega (
          arith,
          ap (λ (x : Entry). x.at) (entry_at en P q law es ss even e run i l),
          in_order i (to - 1) (some_take i ss k) (omega arith) (omega (arith, high.within, high.some)),
          high.from (omega (arith, some_take i ss k)),
        ))
        (λ k.
        let m : suc i < length ss = some_drop (suc i) ss k in
        omega (arith, start_at (suc i) m, low.upto (omega (arith, n)), in_order (from + 1) (suc i) (omega arith) (omega arith) (omega (arith, n))))

    -- A window that does not reach into the leaves is in one child.
    lone_kid : q.reaches (leaves_of ss) ≡ false → to ≤ from + 1
    lone_kid f =
        elim (cases_lt (from + 1) to) [
          | inr p ↦ p
          | inl p ↦ (
              let m : from + 1 < length ss = omega (arith, high.within, n) in
              let d = drop_at en P (front ss) ss (from + 1) even m in
              let t = law.inside (leaves_of (take (from + 1) ss)) (leaves_of (drop (from + 1) ss)) (take_some P (front ss) ss from even (omega (arith, m))) d.1
              (cut_runs (from + 1)) (omega (arith, start_at (from + 1) m, low.upto (omega (arith, n, m))))
              (omega (arith, start_at (from + 1) m, in_order (from + 1) (to - 1) (omega arith) (omega (arith, p)) (omega (arith, high.within, high.some)), high.from (omega (arith, p)))) in
              let u : true ≡ false = sym t ∙ ap q.reaches (sym (cut_at (from + 1) ss)) ∙ f in
              absurd (cc)
              )
        ]

    pub passing_start : (end : End) (c d : ℕ) → d ≡ min (c + 1) 18446744073709551615 → IsPassing end q ss from to c d
    passing_start end c d k = record {
      within = omega (arith, high.within, n);
      low = none_low;
      high = none_high;
      reach = reach_kid;
      lone = lone_kid;
      besides = 0;
      least = λ p. refl;
      greatest = omega arith;
      entered = 1;
      counted = record { upto = omega (arith, k); from = omega (arith, k) };
      some = omega arith;
      weights = λ k. omega arith;
      nodes = omega arith;
    }

    -- If no child in the window may have a place, then no child has one.
    pub none_fits : (end : End) → NoneFits q.fits es from to → AllOf q.lacks (leaves_of ss)
    none_fits end f = none_left en P q law es ss even e run end from to 0 1 (passing_start end 0 1 (omega arith)) f

  -- The summary of a child is a part of that of all.
  pub some_fits : (i : ℕ) → i < length ss → q.fits (nth es i) ≡ true → q.fits (leaves_entry en (leaves_of ss)) ≡ true
  some_fits i l f =
      subst (λ xs. q.fits (leaves_entry en xs) ≡ true) (sym (flat_cut ss i l))
      (law.wider (leaves_of (take i ss)) (nth_tree ss i).leaves (leaves_of (drop (suc i) ss)) (ap q.fits (sym (entry_at en P q law es ss even e run i l)) ∙ f))

  -- The search may enter the next child.
  pub enter_next : (end : End) (from to c d i : ℕ) → IsPassing end q ss from to c d → IsNext end q.fits es from to i → MayEnter en q (nth_tree ss i).leaves
  enter_next end from to c d i p n =
      let l : i < length ss = omega (arith, p.within, n.before) in
      record {
        lawful = law;
        runs = kid_runs en P q law es ss even e run i l;
        fits = ap q.fits (sym (entry_at en P q law es ss even e run i l)) ∙ n.fits;
      }
