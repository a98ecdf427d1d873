-- The search of the next child of a node.
use Rattle.std.proofs.Common.{◌≡◌, ℕ, ◌+◌, ◌<◌, min, true, List, length, map, ◌∙◌, sym, ap, subst, arith}
use Rattle.vm_tree.specs.Entry.{Entry}
use Rattle.vm_tree.specs.declared.node.Kids.{Kids}
use Rattle.vm_tree.specs.Nodes.{kids_of, AreUnder}
use Rattle.vm_tree.specs.Rows.{nth, Ascends}
use Rattle.vm_tree.specs.Subtree.{Subtree, leaves_of, front, entry_of, nth_tree, over, AllOf, AreFull}
use Rattle.vm_tree.specs.Seeking.{Seeking, IsSeeking}
use Rattle.vm_tree.specs.Passing.{NoneFits, IsNext, IsLowKid, IsKidCount}
use Rattle.vm_tree.specs.Sought.{nodes, MayEnter, IsNearest, IsVain, IsPassing, IsUnsought, AtNearest}
use Rattle.vm_tree.specs.declared.end.End.{End}
use Rattle.vm_tree.specs.declared.end.End.TheVariants.{First, Last}
use Rattle.vm_tree.proofs.Flats.{full_at}
use Rattle.vm_tree.proofs.Unders.{under_entries, under_even}
use Rattle.vm_tree.proofs.Widened.{Lifts}
use Rattle.vm_tree.proofs.Passing.{passes_up, passes_down, found, vain, same_count}
use Rattle.vm_tree.proofs.Starting.{in_order, passing_start, none_fits, some_fits, enter_next}

module _ {X : Type 0} (en : X → Entry) (P : X → Type 0) (q : Seeking X) (es : List Entry) (k : Kids X) (under : AreUnder en P es k)
    (may : MayEnter en q (leaves_of (kids_of k))) where
  abbrev ss : List (Subtree X)
  ss = kids_of k

  even : AreFull P (front ss) ss
  even = under_even en P es k under

  pub kids_order : Ascends es
  kids_order = in_order en P q may.lawful es ss even (under_entries en P es k under) may.runs

  pub kids_start : (end : End) (low high from to c d : ℕ) → low ≡ q.low → high ≡ q.high → IsLowKid low es from → IsKidCount high es to
      → d ≡ min (c + 1) 18446744073709551615 → IsPassing end q ss from to c d
  kids_start end low high from to c d x y a b e =
      passing_start en P q may.lawful es ss even (under_entries en P es k under) may.runs from to (subst (λ z. IsLowKid z es from) x a)
      (subst (λ z. IsKidCount z es to) y b) end c d e

  -- The node while its children are searched.
  module _ (fs : List Entry) (j : Kids X) (now : AreUnder en P fs j) (same : kids_of j ≡ kids_of k) (end : End) (from to c d : ℕ) (p : IsPassing end q ss from to c d) where
    here : fs ≡ map (entry_of en) ss
    here = under_entries en P fs j now ∙ ap (map (entry_of en)) same

    module _ (i : ℕ) (n : IsNext end q.fits fs from to i) where
      pub next_within : i < length (kids_of j)
      next_within = omega (arith, p.within, n.before, ap length same)

      pub next_may : MayEnter en q (nth_tree (kids_of j) i).leaves
      next_may = subst (λ zs. MayEnter en q (nth_tree zs i).leaves) (sym same) (enter_next en P q may.lawful fs ss even here may.runs end from to c d i p n)

      height : (nth_tree ss i).height ≡ front ss
      height = (full_at P (front ss) ss i even (omega (arith, p.within, n.before))).height

      module _ (f : ℕ) where
        pub next_found : end ≡ q.end → Lifts (AtNearest q d f (nth_tree ss i)) (AtNearest q c f (over ss)) i ss
        next_found e =
            subst (λ h. Lifts (IsNearest q.end q h (nodes (nth_tree ss i)) d f) (AtNearest q c f (over ss)) i ss) (sym height)
            (found en P q may.lawful fs ss even here may.runs from to i c d f q.end (subst (λ z. IsPassing z q ss from to c d) e p)
            (subst (λ z. IsNext z q.fits fs from to i) e n))

        module _ (v : IsVain q (nth_tree ss i).height (nodes (nth_tree ss i)) d f (nth_tree ss i).leaves) where
          w : IsVain q (front ss) (nodes (nth_tree ss i)) d f (nth_tree ss i).leaves
          w = subst (λ h. IsVain q h (nodes (nth_tree ss i)) d f (nth_tree ss i).leaves) height v

          pub passes_first : end ≡ First → IsPassing end q ss (i + 1) to c f
          passes_first e =
              subst (λ z. IsPassing z q ss (i + 1) to c f) (sym e)
              (passes_up en P q may.lawful fs ss even here may.runs from to i c d f (subst (λ z. IsPassing z q ss from to c d) e p)
              (subst (λ z. IsNext z q.fits fs from to i) e n) w)

          pub passes_last : end ≡ Last → IsPassing end q ss from i c f
          passes_last e =
              subst (λ z. IsPassing z q ss from i c f) (sym e)
              (passes_down en P q may.lawful fs ss even here may.runs from to i c d f (subst (λ z. IsPassing z q ss from to c d) e p)
              (subst (λ z. IsNext z q.fits fs from to i) e n) w)

    pub none_next : NoneFits q.fits fs from to → IsUnsought q c d (over ss) (over (kids_of j))
    none_next n = record { same = ap over same; vain = vain en P q may.lawful fs ss even here may.runs end from to c d p n may.fits }

-- A root, before it is entered.
module _ {X : Type 0} (en : X → Entry) (P : X → Type 0) (q : Seeking X) (law : IsSeeking en q) (es : List Entry) (k : Kids X) (under : AreUnder en P es k)
    (s : Subtree X) (o : over (kids_of k) ≡ s) (runs : q.runs s.leaves) where
  own : q.runs (leaves_of (kids_of k))
  own = subst (λ (z : Subtree X). q.runs z.leaves) (sym o) runs

  pub root_order : Ascends es
  root_order = in_order en P q law es (kids_of k) (under_even en P es k under) (under_entries en P es k under) own

  pub root_fits : (i : ℕ) → i < length es → q.fits (nth es i) ≡ true → q.fits (entry_of en s) ≡ true
  root_fits i l f =
      subst (λ (z : Subtree X). q.fits (entry_of en z) ≡ true) o
      (some_fits en P q law es (kids_of k) (under_even en P es k under) (under_entries en P es k under) own i
      (omega (arith, l, same_count en P q law es (kids_of k) (under_even en P es k under) (under_entries en P es k under) own)) f)

  pub root_lacks : (end : End) (low high from to : ℕ) → low ≡ q.low → high ≡ q.high → IsLowKid low es from → IsKidCount high es to
      → NoneFits q.fits es from to → AllOf q.lacks s.leaves
  root_lacks end low high from to x y a b n =
      subst (λ (z : Subtree X). AllOf q.lacks z.leaves) o
      (none_fits en P q law es (kids_of k) (under_even en P es k under) (under_entries en P es k under) own from to (subst (λ z. IsLowKid z es from) x a)
      (subst (λ z. IsKidCount z es to) y b) end n)
