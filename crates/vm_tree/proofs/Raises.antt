-- A root after a change.
use Rattle.std.proofs.Common.{◌≡◌, ℕ, ◌≤◌, List, ◌++◌, Bool, Box, sym, subst, arith}
use Rattle.std.proofs.lemmas.List.{append-nil}
use Rattle.std.specs.declared.alloc.Global.{Global}
use Rattle.vm_tree.specs.Entry.{Entry}
use Rattle.vm_tree.specs.Subtree.{Subtree, IsFull}
use Rattle.vm_tree.specs.Edits.{IsEditedAt}
use Rattle.vm_tree.specs.Grew.{Grew, HasSpares, Went}
use Rattle.vm_tree.specs.Raised.{raised, HasChanged, CanRaise, IsTreeAfterAt}
use Rattle.vm_tree.specs.declared.outcome.Outcome.{Outcome}
use Rattle.vm_tree.specs.declared.outcome.Outcome.TheVariants as outcome

module _ {X C : Type 0} (en : X → Entry) (P : X → Type 0) (at : List X → X → List X → Type 0) (refuses : X → Type 0) (edits : X → List X → Type 0)
    (tree : Box C Global → Subtree X) (s t : Subtree X) where
  pub went : (o : Outcome C) → Grew en P at refuses edits tree s t o → Went en P at refuses edits tree s t o
  went outcome.Refused g = g
  went outcome.Same g = g.one
  went (outcome.Changed e) g = g.one
  went (outcome.Split u) g = g

  pub went_raise : (o : Outcome C) → Went en P at refuses edits tree s t o → (n least : ℕ) → HasSpares 1 n o → least ≤ s.height
      → CanRaise en P least tree t n o
  went_raise outcome.Refused g n least h d = tt
  went_raise outcome.Same g n least h d = tt
  went_raise (outcome.Changed e) g n least h d = tt
  went_raise (outcome.Split u) g n least h d =
      let e : t.height ≡ s.height = g.two.low.height in (
        record {
          low = subst (λ k. IsFull P k t) (sym e) g.two.low;
          high = subst (λ k. IsFull P k (tree u.upper)) (sym e) g.two.high;
          first = g.low;
          second = g.high;
          deep = omega (arith, d, e);
        },
        h,
      )

  pub after_went : (o : Outcome C) → Went en P at refuses edits tree s t o → IsTreeAfterAt P at refuses edits s (raised tree t o) (HasChanged o)
  after_went outcome.Refused g = record { same = g.same; refused = g.refused }
  after_went outcome.Same g = record { height = omega (arith, g.height); higher = omega (arith, g.height); edited = g.edited }
  after_went (outcome.Changed e) g = record { height = omega (arith, g.height); higher = omega (arith, g.height); edited = g.edited }
  after_went (outcome.Split u) g =
      let e : t.height ≡ s.height = g.two.low.height in record {
        height = omega (arith, e);
        higher = omega (arith, e);
        edited = subst (λ xs. IsEditedAt P at edits s.leaves (t.leaves ++ xs)) (sym (append-nil (tree u.upper).leaves)) g.two.edited;
      }

  pub went_root : (o : Outcome C) (was now : Subtree X) (done : Bool) → Went en P at refuses edits tree s t o → was ≡ s → now ≡ raised tree t o
      → done ≡ HasChanged o → IsTreeAfterAt P at refuses edits was now done
  went_root o was now done g a b d =
      subst (λ z. IsTreeAfterAt P at refuses edits was now z) (sym d)
      (subst (λ z. IsTreeAfterAt P at refuses edits was z (HasChanged o)) (sym b)
      (subst (λ z. IsTreeAfterAt P at refuses edits z (raised tree t o) (HasChanged o)) (sym a) (after_went o g)))

  pub can_raise : (o : Outcome C) → Grew en P at refuses edits tree s t o → (n least : ℕ) → HasSpares 1 n o → least ≤ s.height
      → CanRaise en P least tree t n o
  can_raise o g = went_raise o (went o g)

  pub after_root : (o : Outcome C) (was now : Subtree X) (done : Bool) → Grew en P at refuses edits tree s t o → was ≡ s → now ≡ raised tree t o
      → done ≡ HasChanged o → IsTreeAfterAt P at refuses edits was now done
  after_root o was now done g = went_root o was now done (went o g)
