-- A child that was changed in its slot.
use Rattle.std.proofs.Common.{◌≡◌, ℕ, zero, suc, ◌<◌, List, [], ◌∷◌, length, map, set, get_or, Option, Some, Box, ◌∙◌, sym, refl, ap, subst, arith}
use Rattle.std.proofs.lemmas.List.{map-set}
use Rattle.std.specs.declared.alloc.Global.{Global}
use Rattle.vm_tree.specs.Entry.{Entry}
use Rattle.vm_tree.specs.Slots.{held, IsDense}
use Rattle.vm_tree.specs.Subtree.{Subtree, nth_tree}
use Rattle.vm_tree.specs.Grew.{Grew, GrewAt}
use Rattle.vm_tree.specs.declared.outcome.Outcome.{Outcome}
use Rattle.vm_tree.proofs.Dense.{kid_at, rewritten}

module _ {X C : Type 0} (tree : Box C Global → Subtree X) where
  nth-map : (bs : List (Box C Global)) (i : ℕ) (b : Box C Global) → i < length bs → nth_tree (map tree bs) i ≡ tree (get_or bs i b)
  nth-map [] i b l = absurd (omega arith)
  nth-map (k ∷ bs) zero b l = refl
  nth-map (k ∷ bs) (suc i) b l = nth-map bs i b (omega arith)

  set-same : (ss : List (Subtree X)) (i : ℕ) (t : Subtree X) → t ≡ nth_tree ss i → i < length ss → set ss i t ≡ ss
  set-same [] i t e l = absurd (omega arith)
  set-same (s ∷ ss) zero t e l = ap (λ r. r ∷ ss) e
  set-same (s ∷ ss) (suc i) t e l = ap (λ rs. s ∷ rs) (set-same ss i t e (omega arith))

  length-map : (bs : List (Box C Global)) → length (map tree bs) ≡ length bs
  length-map [] = refl
  length-map (b ∷ bs) = omega (arith, length-map bs)

  module _ (os : List (Option (Box C Global))) (i : ℕ) (o : Option (Box C Global)) (k n : Box C Global) (d : IsDense os) (l : i < length (held os))
      (h : get_or os i o ≡ Some k) where
    pub at : nth_tree (map tree (held os)) i ≡ tree k
    at = nth-map (held os) i k l ∙ ap tree (kid_at os i o k d l h)

    pub set_at : map tree (held (set os i (Some n))) ≡ set (map tree (held os)) i (tree n)
    set_at = ap (map tree) (rewritten os i n d l) ∙ map-set tree (held os) i n

    pub kept_at : tree n ≡ tree k → map tree (held (set os i (Some n))) ≡ map tree (held os)
    kept_at e = set_at ∙ set-same (map tree (held os)) i (tree n) (e ∙ sym at) (omega (arith, length-map (held os)))

    pub grew_at : (entry : X → Entry) (enough : X → Type 0) (place : List X → X → List X → Type 0) (refuses : X → Type 0) (edits : X → List X → Type 0) (r : Outcome C)
        (s : Subtree X) → s ≡ tree k → Grew entry enough place refuses edits tree s (tree n) r
        → GrewAt entry enough place refuses edits tree i (map tree (held os)) (map tree (held (set os i (Some n)))) r
    grew_at entry enough place refuses edits r s e g = record {
      new = tree n;
      list = set_at;
      grew = subst (λ (s : Subtree X). Grew entry enough place refuses edits tree s (tree n) r) (e ∙ sym at) g;
    }
