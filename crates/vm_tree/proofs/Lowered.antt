-- A root that lost a child.
use Rattle.std.proofs.Common.{◌≡◌, ℕ, ◌≤◌, ◌<◌, List, [], ◌∷◌, Bool, true, false, length, map, get_or, Box, ◌∙◌, sym, ap, subst, arith}
use Rattle.std.proofs.lemmas.List.{append-nil}
use Rattle.std.specs.declared.alloc.Global.{Global}
use Rattle.vm_tree.specs.Entry.{Entry}
use Rattle.vm_tree.specs.Subtree.{Subtree, kids, over, IsFull, AreFull}
use Rattle.vm_tree.specs.Nodes.{kids_of, node_tree}
use Rattle.vm_tree.specs.Lowers.{IsRootCut, IsLowered, HasShrunk, IsTreeCut}
use Rattle.vm_tree.specs.Edits.{IsEdited}
use Rattle.vm_tree.specs.Shrinks.{Any, JoinsIf, ShrankNode, IsShrunk}
use Rattle.vm_tree.specs.Mends.{NoJoin}
use Rattle.vm_tree.specs.declared.node.Kids.{Kids}
use Rattle.vm_tree.specs.declared.node.Node.{Node}
use Rattle.vm_tree.specs.declared.cut.ShrunkNode.{ShrunkNode}
use Rattle.vm_tree.specs.declared.cut.ShrunkNode.TheVariants as shrunk_node
use Rattle.vm_tree.proofs.Shrinking.{weaken, plain}

module _ {X C : Type 0} (tree : Box C Global → Subtree X) where
  only : (bs : List (Box C Global)) (b : Box C Global) → length bs ≡ 1 → get_or bs 0 b ≡ b → map tree bs ≡ tree b ∷ []
  only [] b l e = absurd (omega (arith, l))
  only (c ∷ []) b l e = ap (λ z. tree z ∷ []) e
  only (c ∷ d ∷ bs) b l e = absurd (omega (arith, l))

  pub lowered : (s : Subtree X) (bs : List (Box C Global)) (b : Box C Global) → over (map tree bs) ≡ s → length bs ≡ 1 → get_or bs 0 b ≡ b
      → IsLowered s (tree b)
  lowered s bs b u l e =
      let o : over (tree b ∷ []) ≡ s = ap over (sym (only bs b l e)) ∙ u in
      subst (λ z. IsLowered z (tree b)) o
      (record { leaves = sym (append-nil (tree b).leaves); height = omega arith; lower = omega arith; same = λ k. absurd (omega (arith, k)) })

module _ {X : Type 0} (en : X → Entry) (P : X → Type 0) where
  first : (h : ℕ) (bs : List (Box (Node X) Global)) (b : Box (Node X) Global) → length bs ≡ 1 → get_or bs 0 b ≡ b → AreFull P h (map node_tree bs)
      → IsFull P h b.value
  first h [] b l e a = absurd (omega (arith, l))
  first h (c ∷ bs) b l e a = subst (λ (z : Box (Node X) Global). IsFull P h z.value) e a.0

module _ {X : Type 0} where
  pub one_kid : (k : Kids X) (s : Subtree X) (n : ℕ) → over (kids_of k) ≡ s → n ≡ kids s → n ≤ 1 → 0 < kids s → length (kids_of k) ≡ 1
  one_kid k s n u e l m = omega (arith, ap kids u, e, l, m)

module _ {X : Type 0} (en : X → Entry) (P : X → Type 0) (J : X → X → List X → Type 0) (key : ℕ) (refuses : X → Type 0) (edits : X → List X → Type 0) where
  loose : {old new : List X} → IsShrunk en NoJoin key edits old new → IsShrunk en J key edits old new
  loose {old} {new} r = record { middle = r.middle; edited = r.edited; regrouped = weaken NoJoin J (λ x y zs q. absurd q) r.middle new r.regrouped }

  module _ (K : X → X → List X → Type 0) (w : (x y : X) (zs : List X) → K x y zs → NoJoin x y zs) where
    alone : (old new : List X) → IsShrunk en K key edits old new → IsEdited en Any key edits old new
    alone old new r = subst (λ xs. IsEdited en Any key edits old xs) (sym (plain K r.middle new (weaken K NoJoin w r.middle new r.regrouped))) r.edited

  -- A tree that is one leaf.
  root_cut : (s t : Subtree X) (done : Bool) → IsRootCut en P NoJoin key refuses edits s t done → IsTreeCut en J key refuses edits s t done
  root_cut s t false g = record { same = g.same; refused = g.refused }
  root_cut s t true g = record { height = omega (arith, g.height); lower = omega (arith, g.height); cut = loose g.cut }

  pub leaf_after : (s t was now : Subtree X) (done : Bool) → IsRootCut en P NoJoin key refuses edits s t done → was ≡ s → now ≡ t
      → IsTreeCut en J key refuses edits was now done
  leaf_after s t was now done g a b = rw (a, b) (root_cut s t done g)

  -- No leaves were joined.
  pub leaf_kept : (s t was now : Subtree X) (done : Bool) → IsRootCut en P NoJoin key refuses edits s t done → was ≡ s → now ≡ t
      → done ≡ true → IsEdited en Any key edits was.leaves now.leaves
  leaf_kept s t was now false g a b e = absurd cc
  leaf_kept s t was now true g a b e = rw (a, b) (alone NoJoin (λ x y zs q. q) s.leaves t.leaves g.cut)

  -- A tree whose root is a node, which may lose its only child. Leaves are joined only if S.
  module _ (S : Type 0) where
    looser : {old new : List X} → IsShrunk en (JoinsIf S J) key edits old new → IsShrunk en J key edits old new
    looser {old} {new} r = record {
      middle = r.middle;
      edited = r.edited;
      regrouped = weaken (JoinsIf S J) J (λ x y zs q. q.1) r.middle new r.regrouped;
    }

    node_cut : (s t r : Subtree X) (o : ShrunkNode) → ShrankNode en P (JoinsIf S J) key refuses edits s t o → 2 ≤ kids s → IsLowered t r
        → IsTreeCut en J key refuses edits s r (HasShrunk o)
    node_cut s t r shrunk_node.Refused g k l = record {
      same = l.same (subst (λ (z : Subtree X). 2 ≤ kids z) (sym g.same) k) ∙ g.same;
      refused = g.refused;
    }
    node_cut s t r shrunk_node.Same g k l = record {
      height = omega (arith, g.one.height, l.height);
      lower = omega (arith, g.one.height, l.lower);
      cut = subst (λ xs. IsShrunk en J key edits s.leaves xs) (sym l.leaves) (looser g.one.cut);
    }
    node_cut s t r (shrunk_node.Begins a) g k l = record {
      height = omega (arith, g.one.height, l.height);
      lower = omega (arith, g.one.height, l.lower);
      cut = subst (λ xs. IsShrunk en J key edits s.leaves xs) (sym l.leaves) (looser g.one.cut);
    }
    node_cut s t r shrunk_node.Changed g k l = record {
      height = omega (arith, g.one.height, l.height);
      lower = omega (arith, g.one.height, l.lower);
      cut = subst (λ xs. IsShrunk en J key edits s.leaves xs) (sym l.leaves) (looser g.one.cut);
    }
    node_cut s t r (shrunk_node.Small e) g k l = record {
      height = omega (arith, g.one.height, l.height);
      lower = omega (arith, g.one.height, l.lower);
      cut = subst (λ xs. IsShrunk en J key edits s.leaves xs) (sym l.leaves) (looser g.one.cut);
    }

    pub node_after : (s t r was now : Subtree X) (o : ShrunkNode) (done : Bool) → ShrankNode en P (JoinsIf S J) key refuses edits s t o → 2 ≤ kids s
        → IsLowered t r → was ≡ s → now ≡ r → done ≡ HasShrunk o → IsTreeCut en J key refuses edits was now done
    node_after s t r was now o done g k l a b d = rw (a, b, d) (node_cut s t r o g k l)

    pub some_left : (s t : Subtree X) (o : ShrunkNode) → ShrankNode en P (JoinsIf S J) key refuses edits s t o → 2 ≤ kids s → 0 < kids t
    some_left s t shrunk_node.Refused g k = omega (arith, ap kids g.same, k)
    some_left s t shrunk_node.Same g k = omega (arith, g.one.fan, k)
    some_left s t (shrunk_node.Begins a) g k = omega (arith, g.one.fan, k)
    some_left s t shrunk_node.Changed g k = omega (arith, g.one.fan, k)
    some_left s t (shrunk_node.Small e) g k = omega (arith, g.one.fan, k)
