-- Two neighbours in a list, and in slots.
use Rattle.std.proofs.Common.{◌≡◌, ℕ, zero, suc, ◌+◌, ◌≤◌, ◌<◌, List, [], ◌∷◌, ◌++◌, Bool, true, false, length, map, set, get_or, Option, Some, None, ◌∙◌, sym, refl, ap, subst, arith, inl, inr, Box, if◌then◌else◌}
use Rattle.std.proofs.lemmas.List.{get_or_append_left, get_or-append-add, set-append_left, length-set, map-set, length-map}
use Rattle.std.specs.declared.alloc.Global.{Global}
use Rattle.std.specs.List.{remove}
use Rattle.vm_tree.specs.Entry.{Entry}
use Rattle.vm_tree.specs.Slots.{held, IsDense}
use Rattle.vm_tree.specs.Subtree.{Subtree, leaf_of, nth_tree, entry_of, IsFull}
use Rattle.vm_tree.specs.Nodes.{leaf_tree, node_tree}
use Rattle.vm_tree.specs.declared.node.Node.{Node}
use Rattle.vm_tree.specs.Joins.{AreJoined}
use Rattle.vm_tree.specs.Mends.{AtPair, ArePaired, IsMended, IsLeafJoin, with_pair, with_two, without_next}
use Rattle.vm_tree.proofs.Dense.{not_empty, kid_at, rewritten, rewritten_dense}
use Rattle.vm_tree.proofs.Leaves.{joined-none}
use Rattle.vm_tree.proofs.Evened.{append-none}

module _ {A : Type 0} where
  pub pair_within : (P : A → A → Type 0) (i : ℕ) (xs : List A) → AtPair P i xs → suc i < length xs
  pair_within P i [] p = absurd p
  pair_within P zero (x ∷ []) p = absurd p
  pair_within P zero (x ∷ y ∷ xs) p = omega arith
  pair_within P (suc i) (x ∷ xs) p = omega (arith, pair_within P i xs p)

  pub at_pair : (P : A → A → Type 0) (i : ℕ) (xs : List A) (a b : A) → AtPair P i xs → get_or xs i a ≡ a → get_or xs (suc i) b ≡ b → P a b
  at_pair P i [] a b p e f = absurd p
  at_pair P zero (x ∷ []) a b p e f = absurd p
  at_pair P zero (x ∷ y ∷ xs) a b p e f = subst (P a) f (subst (λ z. P z y) e p)
  at_pair P (suc i) (x ∷ xs) a b p e f = at_pair P i xs a b p e f

  set-right : (xs ys : List A) (n : ℕ) (b : A) → n ≡ length xs → set (xs ++ ys) n b ≡ xs ++ set ys 0 b
  set-right [] ys n b e = rw e refl
  set-right (x ∷ xs) ys zero b e = absurd (omega arith)
  set-right (x ∷ xs) ys (suc n) b e = ap (λ zs. x ∷ zs) (set-right xs ys n b (omega (arith, e)))

  pair-set : (os r0 r1 : List A) (i : ℕ) (a b : A) → os ≡ r0 ++ r1 → length r0 ≡ i + 1 → set r0 i a ++ set r1 0 b ≡ set (set os i a) (suc i) b
  pair-set os r0 r1 i a b e l =
      sym (ap (λ zs. set (set zs i a) (suc i) b) e ∙ ap (λ zs. set zs (suc i) b) (set-append_left r0 r1 i a (omega (arith, l)))
      ∙ set-right (set r0 i a) r1 (suc i) b (omega (arith, l, length-set r0 i a)))

pub held_fits : {T : Type 0} (os : List (Option T)) → length (held os) ≤ length os
held_fits [] = omega arith
held_fits (None ∷ os) = omega (arith, held_fits os)
held_fits (Some x ∷ os) = omega (arith, held_fits os)

-- Slots that were cut behind i.
module _ {T : Type 0} (os r0 r1 : List (Option T)) (i : ℕ) (e : os ≡ r0 ++ r1) (l : length r0 ≡ i + 1) (d : IsDense os) where
  low : (o : Option T) → get_or os i o ≡ get_or r0 i o
  low o = ap (λ zs. get_or zs i o) e ∙ get_or_append_left r0 r1 o i (omega (arith, l))

  high : (o : Option T) → get_or os (suc i) o ≡ get_or r1 0 o
  high o =
      ap (λ zs. get_or zs (suc i) o) e ∙ ap (λ n. get_or (r0 ++ r1) n o) (omega (arith, l)) ∙ get_or-append-add r0 r1 0 o

  pub no_low : (o : Option T) → suc i < length (held os) → get_or r0 i o ≡ None → ⊥
  no_low o w f = not_empty os i o d (omega (arith, w)) (low o ∙ f)

  pub no_high : (o : Option T) → suc i < length (held os) → get_or r1 0 o ≡ None → ⊥
  no_high o w f = not_empty os (suc i) o d w (high o ∙ f)

  pub kid_low : (o : Option T) (a : T) → suc i < length (held os) → get_or r0 i o ≡ Some a → get_or (held os) i a ≡ a
  kid_low o a w f = kid_at os i o a d (omega (arith, w)) (low o ∙ f)

  pub kid_high : (o : Option T) (b : T) → suc i < length (held os) → get_or r1 0 o ≡ Some b → get_or (held os) (suc i) b ≡ b
  kid_high o b w f = kid_at os (suc i) o b d w (high o ∙ f)

  pub pair_held : (a b : T) → suc i < length (held os) → held (set r0 i (Some a) ++ set r1 0 (Some b)) ≡ set (set (held os) i a) (suc i) b
  pair_held a b w =
      let m = rewritten os i a d (omega (arith, w)) in
      ap held (pair-set os r0 r1 i (Some a) (Some b) e l)
      ∙ rewritten (set os i (Some a)) (suc i) b (rewritten_dense os i a d (omega (arith, w)))
      (omega (arith, w, ap length m, length-set (held os) i a))
      ∙ ap (λ zs. set zs (suc i) b) m

  pub pair_dense : (a b : T) → suc i < length (held os) → IsDense (set r0 i (Some a) ++ set r1 0 (Some b))
  pair_dense a b w =
      let m = rewritten os i a d (omega (arith, w)) in
      subst IsDense (sym (pair-set os r0 r1 i (Some a) (Some b) e l))
      (rewritten_dense (set os i (Some a)) (suc i) b (rewritten_dense os i a d (omega (arith, w)))
      (omega (arith, w, ap length m, length-set (held os) i a)))

module _ {X C : Type 0} (tree : Box C Global → Subtree X) where
  pub nth-map : (bs : List (Box C Global)) (i : ℕ) (a : Box C Global) → i < length bs → get_or bs i a ≡ a → nth_tree (map tree bs) i ≡ tree a
  nth-map [] i a l e = absurd (omega arith)
  nth-map (b ∷ bs) zero a l e = ap tree e
  nth-map (b ∷ bs) (suc i) a l e = nth-map bs i a (omega arith) e

  map-two : (bs cs : List (Box C Global)) (i : ℕ) (a b : Box C Global) → cs ≡ set (set bs i a) (suc i) b
      → map tree cs ≡ set (set (map tree bs) i (tree a)) (suc i) (tree b)
  map-two bs cs i a b e = ap (map tree) e ∙ map-set tree (set bs i a) (suc i) b ∙ ap (λ zs. set zs (suc i) (tree b)) (map-set tree bs i a)

choose : {A : Type 0} (one : Bool) (xs ys zs : List A) → (one ≡ true → xs ≡ zs) → xs ++ ys ≡ zs → (if one then xs else (xs ++ ys)) ≡ zs
choose true xs ys zs p q = p refl
choose false xs ys zs p q = q

map-remove : {A B : Type 0} (f : A → B) (xs : List A) (n : ℕ) → map f (remove xs n) ≡ remove (map f xs) n
map-remove f [] zero = refl
map-remove f [] (suc n) = refl
map-remove f (x ∷ xs) zero = refl
map-remove f (x ∷ xs) (suc n) = ap (λ zs. f x ∷ zs) (map-remove f xs n)

module _ {A : Type 0} where
  remove-set : (xs : List A) (n : ℕ) (y : A) → remove (set xs n y) n ≡ remove xs n
  remove-set [] zero y = refl
  remove-set [] (suc n) y = refl
  remove-set (x ∷ xs) zero y = refl
  remove-set (x ∷ xs) (suc n) y = ap (λ zs. x ∷ zs) (remove-set xs n y)

  pair-one : (xs : List A) (i : ℕ) (l h : A) → suc i < length xs → remove (set (set xs i l) (suc i) h) (suc i) ≡ with_pair i (l ∷ []) xs
  pair-one [] i l h m = absurd (omega arith)
  pair-one (x ∷ []) zero l h m = absurd (omega arith)
  pair-one (x ∷ y ∷ xs) zero l h m = refl
  pair-one (x ∷ xs) (suc i) l h m = ap (λ zs. x ∷ zs) (pair-one xs i l h (omega arith))

  pair-two : (xs : List A) (i : ℕ) (l h : A) → suc i < length xs → set (set xs i l) (suc i) h ≡ with_pair i (l ∷ h ∷ []) xs
  pair-two [] i l h m = absurd (omega arith)
  pair-two (x ∷ []) zero l h m = absurd (omega arith)
  pair-two (x ∷ y ∷ xs) zero l h m = refl
  pair-two (x ∷ xs) (suc i) l h m = ap (λ zs. x ∷ zs) (pair-two xs i l h (omega arith))

module _ {X : Type 0} (entry : X → Entry) (enough : X → Type 0) (joins : X → X → List X → Type 0) where
  single : (x : X) → enough x → IsFull enough 1 (leaf_of x)
  single x p = record { height = refl; high = omega arith; fan = λ h. absurd (omega arith); bound = omega arith; few = omega arith; most = omega arith; some = omega arith; all = (p, tt) }

  leaf_join : (a b : X) (ls : List X) → joins a b ls → IsLeafJoin joins (a ∷ b ∷ []) ls
  leaf_join a b ls j = record { before = []; low = a; high = b; after = []; leaves = ls; was = refl; is = sym (append-none ls); joined = j }

  pub paired_leaf : (bs cs : List (Box X Global)) (i : ℕ) (a b c d : Box X Global) (one : Bool) (e f : Entry) → suc i < length bs → get_or bs i a ≡ a
      → get_or bs (suc i) b ≡ b → cs ≡ set (set bs i c) (suc i) d → (one ≡ true → joins a.value b.value (c.value ∷ []) × enough c.value)
      → (one ≡ false → joins a.value b.value (c.value ∷ d.value ∷ []) × enough c.value × enough d.value) → e ≡ entry c.value → f ≡ entry d.value
      → ArePaired entry enough joins 1 i (map leaf_tree bs) (map leaf_tree cs) one e f
  paired_leaf bs cs i a b c d true e f l p q s x y u v =
      let m : nth_tree (map leaf_tree bs) i ≡ leaf_of a.value = nth-map leaf_tree bs i a (omega (arith, l)) p in
      let n : nth_tree (map leaf_tree bs) (suc i) ≡ leaf_of b.value = nth-map leaf_tree bs (suc i) b l q in
      record {
        low = leaf_of c.value;
        high = leaf_of d.value;
        list = map-two leaf_tree bs cs i c d s;
        entry_low = u ∙ joined-none (entry c.value);
        entry_high = λ _. v ∙ joined-none (entry d.value);
        full_low = single c.value (x refl).1;
        full_high = λ z. absurd cc;
        leaves = rw (m, n) (inr (leaf_join a.value b.value (c.value ∷ []) (x refl).0));
      }
  paired_leaf bs cs i a b c d false e f l p q s x y u v =
      let m : nth_tree (map leaf_tree bs) i ≡ leaf_of a.value = nth-map leaf_tree bs i a (omega (arith, l)) p in
      let n : nth_tree (map leaf_tree bs) (suc i) ≡ leaf_of b.value = nth-map leaf_tree bs (suc i) b l q in
      record {
        low = leaf_of c.value;
        high = leaf_of d.value;
        list = map-two leaf_tree bs cs i c d s;
        entry_low = u ∙ joined-none (entry c.value);
        entry_high = λ _. v ∙ joined-none (entry d.value);
        full_low = single c.value (y refl).1;
        full_high = λ _. single d.value (y refl).2;
        leaves = rw (m, n) (inr (leaf_join a.value b.value (c.value ∷ d.value ∷ []) (y refl).0));
      }

  pub paired_node : (bs cs : List (Box (Node X) Global)) (i : ℕ) (a b c d : Box (Node X) Global) (one : Bool) (e f : Entry) → suc i < length bs
      → get_or bs i a ≡ a → get_or bs (suc i) b ≡ b → cs ≡ set (set bs i c) (suc i) d
      → AreJoined enough a.value.height (a.value.leaves ++ b.value.leaves) one c.value d.value → e ≡ entry_of entry c.value
      → (one ≡ false → f ≡ entry_of entry d.value)
      → ArePaired entry enough joins (nth_tree (map node_tree bs) i).height i (map node_tree bs) (map node_tree cs) one e f
  paired_node bs cs i a b c d one e f l p q s j u v =
      let m : nth_tree (map node_tree bs) i ≡ a.value = nth-map node_tree bs i a (omega (arith, l)) p in
      let n : nth_tree (map node_tree bs) (suc i) ≡ b.value = nth-map node_tree bs (suc i) b l q in
      let k : one ≡ true → c.value.leaves ≡ a.value.leaves ++ b.value.leaves =
      λ z. sym (append-none c.value.leaves) ∙ ap (λ zs. c.value.leaves ++ zs) (sym (j.none z)) ∙ j.leaves in
      record {
        low = c.value;
        high = d.value;
        list = map-two node_tree bs cs i c d s;
        entry_low = u;
        entry_high = v;
        full_low = rw m j.low;
        full_high = λ z. rw m (j.high z);
        leaves = rw (m, n) (inl (choose one c.value.leaves d.value.leaves (a.value.leaves ++ b.value.leaves) k j.leaves));
      }

  -- The children of a node after two of them were joined.
  pub mended : {C : Type 0} (tree : Box C Global → Subtree X) (h i : ℕ) (bs cs ds : List (Box C Global)) (es fs : List Entry) (one : Bool) (e f : Entry)
      → suc i < length bs → ArePaired entry enough joins h i (map tree bs) (map tree cs) one e f → es ≡ map (entry_of entry) (map tree bs)
      → fs ≡ with_two i one e f es → ds ≡ without_next i one cs
      → (fs ≡ map (entry_of entry) (map tree ds)) × IsMended enough joins h i (map tree bs) (map tree ds)
  mended tree h i bs cs ds es fs true e f l p q u v =
      let ss = map tree bs in
      let n : i + 1 ≡ suc i = omega arith in
      let m : suc i < length ss = omega (arith, l, length-map bs tree) in
      let k : map tree ds ≡ remove (set (set ss i p.low) (suc i) p.high) (suc i) =
      ap (map tree) (v ∙ ap (remove cs) n) ∙ map-remove tree cs (suc i) ∙ ap (λ zs. remove zs (suc i)) p.list in
      let w : map (entry_of entry) (map tree ds) ≡ remove (set es i e) (suc i) =
      ap (map (entry_of entry)) (k ∙ remove-set (set ss i p.low) (suc i) p.high) ∙ map-remove (entry_of entry) (set ss i p.low) (suc i)
      ∙ ap (λ zs. remove zs (suc i)) (map-set (entry_of entry) ss i p.low ∙ ap (λ zs. set zs i (entry_of entry p.low)) (sym q) ∙ ap (set es i) (sym p.entry_low)) in (
        u ∙ ap (remove (set es i e)) n ∙ sym w,
        record {
          new = p.low ∷ [];
          list = k ∙ pair-one ss i p.low p.high m;
          full = (p.full_low, tt);
          some = omega arith;
          leaves = rw (append-none p.low.leaves) p.leaves;
        },
      )
  mended tree h i bs cs ds es fs false e f l p q u v =
      let ss = map tree bs in
      let n : i + 1 ≡ suc i = omega arith in
      let m : suc i < length ss = omega (arith, l, length-map bs tree) in
      let k : map tree ds ≡ set (set ss i p.low) (suc i) p.high = ap (map tree) v ∙ p.list in
      let w : map (entry_of entry) (map tree ds) ≡ set (set es i e) (suc i) f =
      ap (map (entry_of entry)) k ∙ map-set (entry_of entry) (set ss i p.low) (suc i) p.high ∙ ap (set _ (suc i)) (sym (p.entry_high refl))
      ∙ ap (λ zs. set zs (suc i) f) (map-set (entry_of entry) ss i p.low ∙ ap (λ zs. set zs i (entry_of entry p.low)) (sym q) ∙ ap (set es i) (sym p.entry_low)) in (
        u ∙ ap (λ j. set (set es i e) j f) n ∙ sym w,
        record {
          new = p.low ∷ p.high ∷ [];
          list = k ∙ pair-two ss i p.low p.high m;
          full = (p.full_low, (p.full_high refl, tt));
          some = omega arith;
          leaves = rw (append-none p.high.leaves) p.leaves;
        },
      )

  pub pair_count : {C : Type 0} (tree : Box C Global → Subtree X) (h i : ℕ) (bs cs : List (Box C Global)) (es : List Entry) (one : Bool) (e f : Entry)
      → ArePaired entry enough joins h i (map tree bs) (map tree cs) one e f → es ≡ map (entry_of entry) (map tree bs)
      → (length es ≡ length bs) × (length es ≡ length cs)
  pair_count tree h i bs cs es one e f p q =
      let n : length es ≡ length bs = ap length q ∙ length-map (map tree bs) (entry_of entry) ∙ length-map bs tree in
      let m : length (map tree cs) ≡ length (map tree bs) =
      ap length p.list ∙ length-set (set (map tree bs) i p.low) (suc i) p.high ∙ length-set (map tree bs) i p.low in
      (n, n ∙ sym (length-map bs tree) ∙ sym m ∙ length-map cs tree)
