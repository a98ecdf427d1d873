-- Two nodes between which children moved.
use Rattle.std.proofs.Common.{◌≡◌, ℕ, ◌+◌, ◌≤◌, ◌<◌, List, [], ◌∷◌, ◌++◌, Bool, true, false, length, map, ◌∙◌, sym, refl, ap, subst, arith, Box, Option, inl, inr}
use Rattle.std.proofs.lemmas.Bool.{cases_Bool}
use Rattle.std.proofs.lemmas.List.{length-append, map-append, length-map}
use Rattle.std.specs.declared.alloc.Global.{Global}
use Rattle.vm_tree.specs.Entry.{Entry}
use Rattle.vm_tree.specs.Slots.{held, IsDense}
use Rattle.vm_tree.specs.Subtree.{Subtree, kids, leaves_of, entry_of, front, over, AreFull, IsFull}
use Rattle.vm_tree.specs.Over.{IsOver}
use Rattle.vm_tree.specs.Nodes.{kids_of, leaf_tree, AreUnder}
use Rattle.vm_tree.specs.Joins.{AreJoined}
use Rattle.vm_tree.specs.declared.node.Kids.{Kids}
use Rattle.vm_tree.specs.declared.node.Kids.TheVariants.{Leaves, Nodes}
use Rattle.vm_tree.specs.declared.node.Node.{Node}
use Rattle.vm_tree.proofs.Flats.{flat-append, full_left, full_right, full_both, full_front, front_is, full_over, length-entries}
use Rattle.vm_tree.proofs.Settles.{left_same, right_same}
use Rattle.vm_tree.proofs.Unders.{front_leaf}

module _ {X C : Type 0} (entry : X → Entry) (enough : X → Type 0) (least : ℕ) (tree : Box C Global → Subtree X) where
  -- The children of both nodes.
  pub record Parted (h : ℕ) (es fs : List Entry) (bs cs : List (Box C Global)) (old : List X) : Type 0 where
    pub low : es ≡ map (entry_of entry) (map tree bs)
    pub high : fs ≡ map (entry_of entry) (map tree cs)
    pub full_low : AreFull enough h (map tree bs)
    pub full_high : AreFull enough h (map tree cs)
    pub leaves : leaves_of (map tree bs) ++ leaves_of (map tree cs) ≡ old
    pub deep : least ≤ h

  pub parts : (s t : Subtree X) (es fs et ft : List Entry) (os us : List (Option (Box C Global))) (bt ct : List (Box C Global))
      → IsOver entry enough least tree es os → IsOver entry enough least tree fs us → over (map tree (held os)) ≡ s → over (map tree (held us)) ≡ t
      → s.height ≡ t.height → et ++ ft ≡ es ++ fs → bt ++ ct ≡ held os ++ held us → length et ≡ length bt
      → Parted (front (map tree (held os))) et ft bt ct (s.leaves ++ t.leaves)
  parts s t es fs et ft os us bt ct a b u v h p q l =
      let ss = map tree (held os) in
      let ts = map tree (held us) in
      let g : front ts ≡ front ss = omega (arith, h, ap (λ (z : Subtree X). z.height) u, ap (λ (z : Subtree X). z.height) v) in
      let k : map tree bt ++ map tree ct ≡ ss ++ ts = sym (map-append tree bt ct) ∙ ap (map tree) q ∙ map-append tree (held os) (held us) in
      let full : AreFull enough (front ss) (map tree bt ++ map tree ct) =
      subst (AreFull enough (front ss)) (sym k) (full_both enough (front ss) ss ts a.even (subst (λ n. AreFull enough n ts) g b.even)) in
      let all : et ++ ft ≡ map (entry_of entry) (map tree bt) ++ map (entry_of entry) (map tree ct) =
      p ∙ ap (λ zs. zs ++ fs) a.entries ∙ ap (λ zs. map (entry_of entry) ss ++ zs) b.entries ∙ sym (map-append (entry_of entry) ss ts)
      ∙ ap (map (entry_of entry)) (sym k) ∙ map-append (entry_of entry) (map tree bt) (map tree ct) in
      let n : length et ≡ length (map (entry_of entry) (map tree bt)) = l ∙ sym (length-map bt tree) ∙ sym (length-map (map tree bt) (entry_of entry)) in
      record {
        low = left_same et ft _ _ all n;
        high = right_same et ft _ _ all n;
        full_low = full_left enough (front ss) (map tree bt) (map tree ct) full;
        full_high = full_right enough (front ss) (map tree bt) (map tree ct) full;
        leaves = sym (flat-append (map tree bt) (map tree ct)) ∙ ap leaves_of k ∙ flat-append ss ts ∙ ap (λ (z : Subtree X). z.leaves ++ leaves_of ts) u
            ∙ ap (λ (z : Subtree X). s.leaves ++ z.leaves) v;
        deep = a.deep;
      }

  pub count : (s t : Subtree X) (es fs et ft : List Entry) (os us : List (Option (Box C Global))) → IsOver entry enough least tree es os
      → IsOver entry enough least tree fs us → over (map tree (held os)) ≡ s → over (map tree (held us)) ≡ t → et ++ ft ≡ es ++ fs
      → length et + length ft ≡ kids s + kids t
  count s t es fs et ft os us a b u v p =
      omega (
        arith,
        ap length p,
        length-append et ft,
        length-append es fs,
        ap length a.entries ∙ length-entries entry (map tree (held os)),
        ap length b.entries ∙ length-entries entry (map tree (held us)),
        ap kids u,
        ap kids v,
      )

  -- At least five are in the first one.
  pub low_some : (n : ℕ) (one : Bool) (es fs : List Entry) → length es + length fs ≡ n → 5 ≤ n → (one ≡ true → fs ≡ [])
      → (one ≡ false → (8 ≤ length es) × (8 ≤ length fs)) → 5 ≤ length es
  low_some n one es fs s f x y = elim (cases_Bool one) [ inl z ↦ omega (arith, ap length (x z), s, f) | inr z ↦ omega (arith, (y z).0) ]

  pub over_by : (h : ℕ) (es : List Entry) (os : List (Option (Box C Global))) → IsDense os → es ≡ map (entry_of entry) (map tree (held os))
      → AreFull enough h (map tree (held os)) → least ≤ h → length es ≡ length (held os) → 0 < length es → IsOver entry enough least tree es os
  over_by h es os d e a l m n = record {
    dense = d;
    deep = omega (arith, front_is enough h (map tree (held os)) a (omega (arith, m, n, length-map (held os) tree)), l);
    even = full_front enough h (map tree (held os)) a;
    entries = e;
  }

  pub low_over : (h : ℕ) (es fs : List Entry) (os : List (Option (Box C Global))) (cs : List (Box C Global)) (old : List X) → IsDense os
      → Parted h es fs (held os) cs old → length es ≡ length (held os) → 5 ≤ length es → IsOver entry enough least tree es os
  low_over h es fs os cs old d p m n = over_by h es os d p.low p.full_low p.deep m (omega arith)

  pub high_over : (h : ℕ) (es fs : List Entry) (bs : List (Box C Global)) (us : List (Option (Box C Global))) (old : List X) → IsDense us
      → Parted h es fs bs (held us) old → length fs ≡ length (held us) → 0 < length fs → IsOver entry enough least tree fs us
  high_over h es fs bs us old d p m n = over_by h fs us d p.high p.full_high p.deep m n

  pub no_leaves : (cs : List (Box C Global)) → length cs ≡ 0 → leaves_of (map tree cs) ≡ []
  no_leaves [] l = refl
  no_leaves (c ∷ cs) l = absurd (omega (arith, l))

  -- The contract of a join. If all is in the first one, the second is some node without leaves.
  pub joined_by : (h w n : ℕ) (one : Bool) (es fs : List Entry) (bs cs : List (Box C Global)) (old : List X) (high : Subtree X) → length bs ≤ 16 → length cs ≤ 16 → Parted h es fs bs cs old
      → h + 1 ≡ w → length es ≡ length bs → length fs ≡ length cs → length es + length fs ≡ n → 5 ≤ n → (one ≡ true → fs ≡ [])
      → (one ≡ false → (8 ≤ length es) × (8 ≤ length fs)) → (one ≡ false → high ≡ over (map tree cs)) → (one ≡ true → high.leaves ≡ [])
      → AreJoined enough w old one (over (map tree bs)) high
  joined_by h w n one es fs bs cs old high fb fc p v l q s f x y i j =
      let low = low_some n one es fs s f x y in
      record {
        low = subst (λ i. IsFull enough i (over (map tree bs))) v (full_over enough h (map tree bs) p.full_low (omega (arith, low, l, length-map bs tree)) (omega (arith, length-map bs tree, fb)));
        high = λ z. rw (i z)
            (subst (λ i. IsFull enough i (over (map tree cs))) v (full_over enough h (map tree cs) p.full_high (omega (arith, (y z).1, q, length-map cs tree)) (omega (arith, length-map cs tree, fc))));
        leaves = elim (cases_Bool one) [
          | inl z ↦ ap (λ zs. leaves_of (map tree bs) ++ zs) (j z ∙ sym (no_leaves cs (omega (arith, q, ap length (x z))))) ∙ p.leaves
          | inr z ↦ ap (λ (zs : Subtree X). leaves_of (map tree bs) ++ zs.leaves) (i z) ∙ p.leaves
        ];
        none = j;
      }

module _ {X C : Type 0} (entry : X → Entry) (enough : X → Type 0) (tree : Box C Global → Subtree X) where
  pub least_over : (h : ℕ) (es fs : List Entry) (bs : List (Box C Global)) (us : List (Option (Box C Global))) (old : List X) → IsDense us
      → Parted entry enough 0 tree h es fs bs (held us) old → length fs ≡ length (held us) → IsOver entry enough 0 tree fs us
  least_over h es fs bs us old d p m =
      record { dense = d; deep = omega arith; even = full_front enough h (map tree (held us)) p.full_high; entries = p.high }

module _ {X : Type 0} (entry : X → Entry) (enough : X → Type 0) where
  -- A node over leaves is not as high as one over nodes.
  pub differ : (es fs : List Entry) (os : List (Option (Box X Global))) (us : List (Option (Box (Node X) Global))) (k m : Kids X) (s t : Subtree X)
      → k ≡ Leaves os → m ≡ Nodes us → AreUnder entry enough es k → AreUnder entry enough fs m → over (kids_of k) ≡ s → over (kids_of m) ≡ t
      → 0 < kids s → s.height ≡ t.height → ⊥
  differ es fs os us k m s t e f a b u v l h =
      let x : 0 < length (held os) = omega (arith, l, ap kids u, ap (λ (z : Kids X). length (kids_of z)) e, length-map (held os) leaf_tree) in
      let y = (subst (AreUnder entry enough fs) f b).deep in
      omega (
        arith,
        front_leaf (held os) x,
        ap (λ (z : Kids X). front (kids_of z)) e,
        ap (λ (z : Kids X). front (kids_of z)) f,
        ap (λ (z : Subtree X). z.height) u,
        ap (λ (z : Subtree X). z.height) v,
        h,
        y,
      )
