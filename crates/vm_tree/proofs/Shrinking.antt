-- A node after a change of one child that leaves it fewer items.
use Rattle.std.proofs.Common.{◌≡◌, ℕ, zero, suc, ◌+◌, ◌≤◌, ◌<◌, List, [], ◌∷◌, ◌++◌, length, take, drop, set, map, Option, Box, ◌∙◌, sym, refl, ap, subst, arith, append_assoc, inl, inr, ◌⊎◌}
use Rattle.std.proofs.lemmas.List.{length-append, length-set, map-set, length-map, get_or-set_other, get_or-set_same, set-get_or}
use Rattle.std.proofs.Math.Seq.{map-set_same}
use Rattle.std.proofs.lemmas.Bool.{cases_eq}
use Rattle.std.specs.declared.alloc.Global.{Global}
use Rattle.vm_tree.specs.declared.node.Node.{Node}
use Rattle.vm_tree.specs.Entry.{Entry}
use Rattle.vm_tree.specs.Rows.{sum_of, nth, beginning_at}
use Rattle.vm_tree.specs.Slots.{held, IsDense}
use Rattle.vm_tree.specs.Subtree.{Subtree, leaves_of, front, over, nth_tree, no_tree, kids, entry_of, IsFull, AreFull}
use Rattle.vm_tree.specs.Edits.{AtKey}
use Rattle.vm_tree.specs.Over.{IsOver}
use Rattle.vm_tree.specs.Mends.{NoJoin, IsRegrouped, IsMended, AtPair, with_pair}
use Rattle.vm_tree.specs.Shrinks.{Any, HasBegun, JoinsIf, Meet, MeetsAfter, IsSmallOrFull, IsShrunk, IsCut, IsUncut, IsCutSame, IsCutFull, IsCutOther, ShrankNode, ShrankAt}
use Rattle.vm_tree.specs.declared.cut.Shrunk.TheVariants as shrunk
use Rattle.vm_tree.specs.declared.cut.ShrunkNode.{ShrunkNode}
use Rattle.vm_tree.specs.declared.cut.ShrunkNode.TheVariants as shrunk_node
use Rattle.vm_tree.specs.Nodes.{leaf_tree, node_tree}
use Rattle.vm_tree.proofs.Flats.{flat-append, flat_set, front_set, full_at, full_set, full_both, front_is, full_over, sum-entries, length-entries, nth-entries}
use Rattle.vm_tree.proofs.Rows.{first_begun, later_begun}
use Rattle.vm_tree.proofs.Widened.{Lifts, middle, over_stands, over_refused, over_edited, key_lifts}
use Rattle.vm_tree.proofs.Cuts.{meet_left, meet_right}
use Rattle.vm_tree.proofs.Parts.{over_by}

module _ {X : Type 0} (J : X → X → List X → Type 0) where
  pre_regroup : (a old new : List X) → IsRegrouped J old new → IsRegrouped J (a ++ old) (a ++ new)
  pre_regroup a old new (inl e) = inl (ap (λ xs. a ++ xs) e)
  pre_regroup a old new (inr r) = inr (record {
    before = a ++ r.before;
    low = r.low;
    high = r.high;
    after = r.after;
    leaves = r.leaves;
    was = ap (λ xs. a ++ xs) r.was ∙ sym (append_assoc a r.before (r.low ∷ r.high ∷ r.after));
    is = ap (λ xs. a ++ xs) r.is ∙ sym (append_assoc a r.before (r.leaves ++ r.after));
    joined = r.joined;
  })

  post_regroup : (b old new : List X) → IsRegrouped J old new → IsRegrouped J (old ++ b) (new ++ b)
  post_regroup b old new (inl e) = inl (ap (λ xs. xs ++ b) e)
  post_regroup b old new (inr r) = inr (record {
    before = r.before;
    low = r.low;
    high = r.high;
    after = r.after ++ b;
    leaves = r.leaves;
    was = ap (λ xs. xs ++ b) r.was ∙ append_assoc r.before (r.low ∷ r.high ∷ r.after) b;
    is = ap (λ xs. xs ++ b) r.is ∙ append_assoc r.before (r.leaves ++ r.after) b ∙ ap (λ xs. r.before ++ xs) (append_assoc r.leaves r.after b);
    joined = r.joined;
  })

  -- Two neighbours were joined.
  pair_regroup : (j : ℕ) (us new : List (Subtree X)) → suc j < length us
      → IsRegrouped J ((nth_tree us j).leaves ++ (nth_tree us (suc j)).leaves) (leaves_of new)
      → IsRegrouped J (leaves_of us) (leaves_of (with_pair j new us))
  pair_regroup j [] new l r = absurd (omega arith)
  pair_regroup zero (s ∷ []) new l r = absurd (omega arith)
  pair_regroup zero (s ∷ u ∷ us) new l r =
      subst (λ xs. IsRegrouped J xs (leaves_of (new ++ us))) (append_assoc s.leaves u.leaves (leaves_of us))
      (subst (IsRegrouped J ((s.leaves ++ u.leaves) ++ leaves_of us)) (sym (flat-append new us))
      (post_regroup (leaves_of us) (s.leaves ++ u.leaves) (leaves_of new) r))
  pair_regroup (suc j) (s ∷ us) new l r = pre_regroup s.leaves (leaves_of us) (leaves_of (with_pair j new us)) (pair_regroup j us new (omega arith) r)

  pub weaken : (K : X → X → List X → Type 0) (w : (x y : X) (zs : List X) → J x y zs → K x y zs) (old new : List X) → IsRegrouped J old new
      → IsRegrouped K old new
  weaken K w old new (inl e) = inl e
  weaken K w old new (inr r) = inr (record {
    before = r.before;
    low = r.low;
    high = r.high;
    after = r.after;
    leaves = r.leaves;
    was = r.was;
    is = r.is;
    joined = w r.low r.high r.leaves r.joined;
  })

  pub plain : (old new : List X) → IsRegrouped NoJoin old new → new ≡ old
  plain old new (inl e) = e
  plain old new (inr r) = absurd r.joined

  -- A join of leaves after none, and none after a join.
  pub join_after : (S : Type 0) → S → (a b c : List X) → IsRegrouped NoJoin a b → IsRegrouped J b c → IsRegrouped (JoinsIf S J) a c
  join_after S s a b c p q = subst (λ xs. IsRegrouped (JoinsIf S J) xs c) (plain a b p) (weaken (JoinsIf S J) (λ x y zs j. (s, j)) b c q)

  pub join_before : (a b c : List X) → IsRegrouped J a b → IsRegrouped NoJoin b c → IsRegrouped J a c
  join_before a b c p q = subst (IsRegrouped J a) (sym (plain b c q)) p

-- The pair in a list of which one item of the pair was written.
module _ {A : Type 0} where
  pair_low : (j : ℕ) (new xs : List A) (x : A) → suc j < length xs → with_pair j new (set xs j x) ≡ with_pair j new xs
  pair_low j new [] x l = refl
  pair_low zero new (y ∷ []) x l = absurd (omega arith)
  pair_low zero new (y ∷ z ∷ xs) x l = refl
  pair_low (suc j) new (y ∷ xs) x l = ap (λ zs. y ∷ zs) (pair_low j new xs x (omega arith))

  pair_high : (j : ℕ) (new xs : List A) (x : A) → suc j < length xs → with_pair j new (set xs (suc j) x) ≡ with_pair j new xs
  pair_high j new [] x l = refl
  pair_high zero new (y ∷ []) x l = absurd (omega arith)
  pair_high zero new (y ∷ z ∷ xs) x l = refl
  pair_high (suc j) new (y ∷ xs) x l = ap (λ zs. y ∷ zs) (pair_high j new xs x (omega arith))

  pub pair_beside : (j i : ℕ) (new xs : List A) (x : A) → suc j < length xs → (j ≡ i) ⊎ (suc j ≡ i)
      → with_pair j new (set xs i x) ≡ with_pair j new xs
  pair_beside j i new xs x l (inl e) = ap (λ n. with_pair j new (set xs n x)) (sym e) ∙ pair_low j new xs x l
  pair_beside j i new xs x l (inr e) = ap (λ n. with_pair j new (set xs n x)) (sym e) ∙ pair_high j new xs x l

  pair_length : (j : ℕ) (new xs : List A) → suc j < length xs → length (with_pair j new xs) + 2 ≡ length xs + length new
  pair_length j new [] l = absurd (omega arith)
  pair_length zero new (y ∷ []) l = absurd (omega arith)
  pair_length zero new (y ∷ z ∷ xs) l = omega (arith, length-append new xs)
  pair_length (suc j) new (y ∷ xs) l = omega (arith, pair_length j new xs (omega arith))

pair_full : {X : Type 0} (P : X → Type 0) (h j : ℕ) (new ss : List (Subtree X)) → AreFull P h ss → AreFull P h new → suc j < length ss
    → AreFull P h (with_pair j new ss)
pair_full P h j new [] a b l = b
pair_full P h zero new (s ∷ []) a b l = b
pair_full P h zero new (s ∷ t ∷ ss) a b l = full_both P h new ss b a.1.1
pair_full P h (suc j) new (s ∷ ss) a b l = (a.0, pair_full P h j new ss a.1 b (omega arith))

module _ {X : Type 0} where
  set-nth : (ss : List (Subtree X)) (i : ℕ) (t : Subtree X) → t ≡ nth_tree ss i → set ss i t ≡ ss
  set-nth ss i t e = ap (set ss i) e ∙ set-get_or ss i no_tree

module _ {X C : Type 0} (en : X → Entry) (P : X → Type 0) (key : ℕ) (refuses : X → Type 0) (edits : X → List X → Type 0) (J K : X → X → List X → Type 0)
    (tree : Box C Global → Subtree X) (least i : ℕ) (ss : List (Subtree X)) (even : AreFull P (front ss) ss) (l : i < length ss) (deep : least ≤ front ss)
    (more : 1 ≤ front ss) (es : List Entry) (n : es ≡ map (entry_of en) ss) (f : 0 < i → (nth es i).at ≤ key)
    (u : i + 1 < length es → key < (nth es (i + 1)).at) where
  count : length es ≡ length ss
  count = ap length n ∙ length-entries en ss

  lift : Lifts (AtKey en key) (AtKey en key) i ss
  lift = key_lifts en key P ss (front ss) even es n i (omega (arith, count, l)) f u

  full_child : IsFull P (front ss) (nth_tree ss i)
  full_child = full_at P (front ss) ss i even l

  up : (t : Subtree X) → IsShrunk en J key edits (nth_tree ss i).leaves t.leaves → IsShrunk en J key edits (leaves_of ss) (leaves_of (set ss i t))
  up t r = record {
    middle = leaves_of (take i ss) ++ (r.middle ++ leaves_of (drop (suc i) ss));
    edited = over_edited (AtKey en key) (AtKey en key) i ss l lift Any edits r.middle _ r.edited refl;
    regrouped = subst (IsRegrouped J _) (sym (flat_set ss i t l))
        (pre_regroup J (leaves_of (take i ss)) _ _ (post_regroup J (leaves_of (drop (suc i) ss)) r.middle t.leaves r.regrouped));
  }

  -- A child.
  pub child_meets : (meets : X → X → Type 0) (wider : X → List X → Type 0) → MeetsAfter en meets key wider (leaves_of ss)
      → MeetsAfter en meets key wider (nth_tree ss i).leaves
  child_meets meets wider m before leaf after leaves h e =
      let a = leaves_of (take i ss) in
      let b = leaves_of (drop (suc i) ss) in
      let w = m (a ++ before) leaf (after ++ b) leaves (over_stands (AtKey en key) (AtKey en key) i ss l lift before leaf after h) e in
      meet_left meets (before ++ (leaves ++ after)) b
      (meet_right meets a ((before ++ (leaves ++ after)) ++ b) (subst (Meet meets) (sym (middle a before leaves after b)) w))

  loosen : (w : (x y : X) (zs : List X) → J x y zs → K x y zs) (old new : List X) → IsShrunk en J key edits old new → IsShrunk en K key edits old new
  loosen w old new r = record { middle = r.middle; edited = r.edited; regrouped = weaken J K w r.middle new r.regrouped }

  entries_set : (t : Subtree X) → set es i (entry_of en t) ≡ map (entry_of en) (set ss i t)
  entries_set t = ap (λ zs. set zs i (entry_of en t)) n ∙ sym (map-set (entry_of en) ss i t)

  -- One child was written.
  module _ (os : List (Option (Box C Global))) (d : IsDense os) (fs : List Entry) (new : Subtree X) (list : map tree (held os) ≡ set ss i new) where
    size : length (map tree (held os)) ≡ length ss
    size = ap length list ∙ length-set ss i new

    over_set : IsFull P (front ss) new → fs ≡ map (entry_of en) (set ss i new) → IsOver en P least tree fs os
    over_set g e =
        let a = subst (AreFull P (front ss)) (sym list) (full_set P (front ss) ss i new even g) in
        let b : fs ≡ map (entry_of en) (map tree (held os)) = e ∙ ap (map (entry_of en)) (sym list) in
        let m : length fs ≡ length (held os) = ap length b ∙ length-map (map tree (held os)) (entry_of en) ∙ length-map (held os) tree in
        over_by en P least tree (front ss) fs os d b a deep m (omega (arith, m, size, l, length-map (held os) tree))

    cut_set : (w : (x y : X) (zs : List X) → J x y zs → K x y zs) → IsCut en J key edits (nth_tree ss i) new
        → IsCut en K key edits (over ss) (over (map tree (held os)))
    cut_set w c = record {
      height = ap (λ zs. front zs + 1) list ∙ ap (λ m. m + 1) (front_set ss i new c.height);
      fan = omega (arith, size);
      cut = subst (λ zs. IsShrunk en K key edits (leaves_of ss) (leaves_of zs)) (sym list) (loosen w _ _ (up new c.cut));
    }

    full_set_over : IsFull P (front ss) new → IsFull P (front ss + 1) (over ss) → IsFull P (front ss + 1) (over (map tree (held os)))
    full_set_over g v =
        let a = subst (AreFull P (front ss)) (sym list) (full_set P (front ss) ss i new even g) in
        full_over P (front ss) (map tree (held os)) a (omega (arith, size, v.fan (omega (arith, more)))) (omega (arith, length-map (held os) tree, d.fits))

    still : (IsFull P (nth_tree ss i).height (nth_tree ss i) → IsFull P (nth_tree ss i).height new) → IsFull P (front ss) new
    still g = subst (λ m. IsFull P m new) full_child.height (g (subst (λ m. IsFull P m (nth_tree ss i)) (sym full_child.height) full_child))

  -- The four outcomes.
  module _ (w : (x y : X) (zs : List X) → J x y zs → K x y zs) (os : List (Option (Box C Global))) (d : IsDense os) where
    same_list : (new : Subtree X) → map tree (held os) ≡ set ss i new → new ≡ nth_tree ss i → map tree (held os) ≡ ss
    same_list new e s = e ∙ set-nth ss i new s

    pub uncut_over : ShrankAt en P J key refuses edits i ss (map tree (held os)) shrunk.Refused → IsOver en P least tree es os
    uncut_over r =
        over_set os d es r.new r.list (subst (IsFull P (front ss)) (sym r.shrank.same) full_child)
        (n ∙ ap (map (entry_of en)) (sym (set-nth ss i r.new r.shrank.same)))

    pub uncut : ShrankAt en P J key refuses edits i ss (map tree (held os)) shrunk.Refused
        → IsUncut en P K key refuses edits (over ss) (over (map tree (held os)))
    uncut r = record {
      same = ap over (same_list r.new r.list r.shrank.same);
      refused = over_refused (AtKey en key) (AtKey en key) i ss l lift refuses r.shrank.refused;
    }

    pub same_over : ShrankAt en P J key refuses edits i ss (map tree (held os)) shrunk.Same → IsOver en P least tree es os
    same_over r =
        over_set os d es r.new r.list (still os d es r.new r.list r.shrank.full)
        (n ∙ sym (map-set_same (entry_of en) ss i r.new no_tree r.shrank.sum))

    pub same : ShrankAt en P J key refuses edits i ss (map tree (held os)) shrunk.Same
        → IsCutSame en P K key refuses edits (over ss) (over (map tree (held os)))
    same r =
        let g = still os d es r.new r.list r.shrank.full in
        let o = same_over r in record {
          one = cut_set os d es r.new r.list w r.shrank.one;
          sum = sym (sum-entries en P _ (map tree (held os)) o.even) ∙ ap sum_of (sym o.entries ∙ n) ∙ sum-entries en P _ ss even;
          full = full_set_over os d es r.new r.list g;
        }

    pub full_over_set : (e : Entry) (fs : List Entry) → ShrankAt en P J key refuses edits i ss (map tree (held os)) (shrunk.Changed e) → fs ≡ set es i e
        → IsOver en P least tree fs os
    full_over_set e fs r s =
        over_set os d fs r.new r.list (still os d fs r.new r.list r.shrank.full) (s ∙ ap (set es i) r.shrank.sum ∙ entries_set r.new)

    full : (e m : Entry) (fs : List Entry) → ShrankAt en P J key refuses edits i ss (map tree (held os)) (shrunk.Changed e) → fs ≡ set es i e
        → m ≡ sum_of fs → IsCutFull en P K key refuses edits m (over ss) (over (map tree (held os)))
    full e m fs r s v =
        let g = still os d fs r.new r.list r.shrank.full in
        let o = full_over_set e fs r s in record {
          one = cut_set os d fs r.new r.list w r.shrank.one;
          sum = v ∙ ap sum_of o.entries ∙ sum-entries en P _ (map tree (held os)) o.even;
          full = full_set_over os d fs r.new r.list g;
        }

    pub changed : (e : Entry) (fs : List Entry) → ShrankAt en P J key refuses edits i ss (map tree (held os)) (shrunk.Changed e) → fs ≡ set es i e
        → IsCutOther en P K key refuses edits (over ss) (over (map tree (held os)))
    changed e fs r s = let f = full e (sum_of fs) fs r s refl in record { one = f.one; full = f.full }

    module _ (a : ℕ) (fs : List Entry) (r : ShrankAt en P J key refuses edits i ss (map tree (held os)) (shrunk.Begins a))
        (s : fs ≡ set es i (beginning_at a (nth es i))) where
      whole : ShrankAt en P J key refuses edits i ss (map tree (held os)) (shrunk.Changed (beginning_at a (nth es i)))
      whole = record {
        new = r.new;
        list = r.list;
        shrank = record {
          one = r.shrank.one;
          sum = ap (beginning_at a) (ap (λ zs. nth zs i) n ∙ nth-entries en ss i l) ∙ r.shrank.sum;
          full = r.shrank.full;
        };
      }

      pub begun_over : IsOver en P least tree fs os
      begun_over = full_over_set (beginning_at a (nth es i)) fs whole s

      was : sum_of es ≡ entry_of en (over ss)
      was = ap sum_of n ∙ sum-entries en P _ ss even

      pub begun : (o : ShrunkNode) → HasBegun i a o → ShrankNode en P K key refuses edits (over ss) (over (map tree (held os))) o
      begun shrunk_node.Refused h = absurd h
      begun shrunk_node.Same h =
          let g = full (beginning_at a (nth es i)) (sum_of fs) fs whole s refl in
          record { one = g.one; sum = sym g.sum ∙ ap sum_of s ∙ later_begun es i a h ∙ was; full = g.full }
      begun (shrunk_node.Begins b) h =
          let g = full (beginning_at a (nth es i)) (sum_of fs) fs whole s refl in
          let f : sum_of fs ≡ beginning_at a (sum_of es) =
          ap sum_of (s ∙ ap (λ j. set es j (beginning_at a (nth es j))) h.0) ∙ first_begun es a (omega (arith, count, l)) in
          record { one = g.one; sum = ap (λ c. beginning_at c (entry_of en (over ss))) h.1 ∙ ap (beginning_at a) (sym was) ∙ sym f ∙ g.sum; full = g.full }
      begun shrunk_node.Changed h = absurd h
      begun (shrunk_node.Small e) h = absurd h

    module _ (e : Entry) (r : ShrankAt en P J key refuses edits i ss (map tree (held os)) (shrunk.Small e)) where
      pub small_entries : (fs : List Entry) → fs ≡ set es i e → fs ≡ map (entry_of en) (map tree (held os))
      small_entries fs s = s ∙ ap (set es i) r.shrank.sum ∙ entries_set r.new ∙ ap (map (entry_of en)) (sym r.list)

      pub small_meet : (meets : X → X → Type 0) (wider : X → List X → Type 0) (pl : (a b : List X) → IsRegrouped J a b → b ≡ a)
          (inside : (x : X) (xs : List X) → edits x xs → wider x xs) → MeetsAfter en meets key wider (leaves_of ss)
          → Meet meets (leaves_of (map tree (held os)))
      small_meet meets wider pl inside m =
          let c = up r.new r.shrank.one.cut in
          subst (Meet meets) (sym (ap leaves_of r.list ∙ pl c.middle (leaves_of (set ss i r.new)) c.regrouped ∙ c.edited.is))
          (m c.edited.before c.edited.leaf c.edited.after c.edited.leaves c.edited.home (inside _ _ c.edited.edit))

      pub small_length : length (held os) ≡ length ss
      small_length = sym (length-map (held os) tree) ∙ ap length r.list ∙ length-set ss i r.new

      -- Two neighbours were joined after it.
      module _ (M : X → X → List X → Type 0) (both : (a b c : List X) → IsRegrouped J a b → IsRegrouped M b c → IsRegrouped K a c) (j h : ℕ)
          (beside : (j ≡ i) ⊎ (suc j ≡ i)) (within : suc j < length ss) (height : h ≡ front ss) (ot : List (Option (Box C Global)))
          (m : IsMended P M h j (map tree (held os)) (map tree (held ot))) (dt : IsDense ot) (ft : List Entry)
          (nt : ft ≡ map (entry_of en) (map tree (held ot))) where
        abbrev ts : List (Subtree X)
        ts = map tree (held ot)

        list : ts ≡ with_pair j m.new ss
        list = m.list ∙ ap (with_pair j m.new) r.list ∙ pair_beside j i m.new ss r.new within beside

        size_of : length ts + 2 ≡ length ss + length m.new
        size_of = ap (λ zs. length zs + 2) list ∙ pair_length j m.new ss within

        full_ts : AreFull P (front ss) ts
        full_ts =
            subst (AreFull P (front ss)) (sym list) (pair_full P (front ss) j m.new ss even (subst (λ k. AreFull P k m.new) height m.full) within)

        pub small_over : IsOver en P least tree ft ot
        small_over =
            let k : length ft ≡ length (held ot) = ap length nt ∙ length-map ts (entry_of en) ∙ length-map (held ot) tree in
            over_by en P least tree (front ss) ft ot dt nt full_ts deep k (omega (arith, size_of, m.some, within, k, length-map (held ot) tree))

        pub small_some : 0 < length ft
        small_some = omega (arith, ap length nt ∙ length-map ts (entry_of en), size_of, m.some, within)

        small_cut : IsCut en K key edits (over ss) (over ts)
        small_cut =
            let c = up r.new r.shrank.one.cut in
            let p : IsRegrouped M (leaves_of (set ss i r.new)) (leaves_of ts) =
            subst (λ zs. IsRegrouped M (leaves_of (set ss i r.new)) (leaves_of zs)) (sym (m.list ∙ ap (with_pair j m.new) r.list))
            (pair_regroup M j (set ss i r.new) m.new (omega (arith, within, length-set ss i r.new))
            (subst (λ zs. IsRegrouped M ((nth_tree zs j).leaves ++ (nth_tree zs (suc j)).leaves) (leaves_of m.new)) r.list m.leaves)) in
            record {
              height = ap (λ k. k + 1) (front_is P (front ss) ts full_ts (omega (arith, size_of, m.some, within)));
              fan = omega (arith, size_of, m.some);
              cut = record { middle = c.middle; edited = c.edited; regrouped = both c.middle (leaves_of (set ss i r.new)) (leaves_of ts) c.regrouped p };
            }

        sum_is : sum_of ft ≡ entry_of en (over ts)
        sum_is = ap sum_of nt ∙ sum-entries en P (front ss) ts full_ts

        pub small : (res : ShrunkNode) → IsSmallOrFull ft res → ShrankNode en P K key refuses edits (over ss) (over ts) res
        small shrunk_node.Refused q = absurd q
        small shrunk_node.Same q = absurd q
        small (shrunk_node.Begins a) q = absurd q
        small shrunk_node.Changed q = record {
          one = small_cut;
          full = λ _. full_over P (front ss) ts full_ts (omega (arith, q, ap length nt, length-map ts (entry_of en))) (omega (arith, length-map (held ot) tree, dt.fits));
        }
        small (shrunk_node.Small a) q = record { one = small_cut; sum = q ∙ sum_is }

-- The preconditions of a join.
module _ {A : Type 0} where
  at_both : (P Q : A → A → Type 0) (j : ℕ) (xs : List A) → AtPair P j xs → AtPair Q j xs → AtPair (λ a b. P a b × Q a b) j xs
  at_both P Q j [] p q = absurd p
  at_both P Q zero (x ∷ []) p q = absurd p
  at_both P Q zero (x ∷ y ∷ xs) p q = (p, q)
  at_both P Q (suc j) (x ∷ xs) p q = at_both P Q j xs p q

  at_map : (P Q : A → A → Type 0) → ((a b : A) → P a b → Q a b) → (j : ℕ) (xs : List A) → AtPair P j xs → AtPair Q j xs
  at_map P Q f j [] p = absurd p
  at_map P Q f zero (x ∷ []) p = absurd p
  at_map P Q f zero (x ∷ y ∷ xs) p = f x y p
  at_map P Q f (suc j) (x ∷ xs) p = at_map P Q f j xs p

module _ {X C : Type 0} (tree : Box C Global → Subtree X) where
  pair_of : (Q : Subtree X → Subtree X → Type 0) (j : ℕ) (bs : List (Box C Global)) → suc j < length bs
      → Q (nth_tree (map tree bs) j) (nth_tree (map tree bs) (suc j)) → AtPair (λ a b. Q (tree a) (tree b)) j bs
  pair_of Q j [] l q = absurd (omega arith)
  pair_of Q zero (b ∷ []) l q = absurd (omega arith)
  pair_of Q zero (b ∷ c ∷ bs) l q = q
  pair_of Q (suc j) (b ∷ bs) l q = pair_of Q j bs (omega arith) q

module _ {X : Type 0} where
  meet_pair : (meets : X → X → Type 0) (j : ℕ) (bs : List (Box X Global)) → Meet meets (leaves_of (map leaf_tree bs)) → suc j < length bs
      → AtPair (λ a b. meets a.value b.value) j bs
  meet_pair meets j [] m l = absurd (omega arith)
  meet_pair meets zero (b ∷ []) m l = absurd (omega arith)
  meet_pair meets (suc j) (b ∷ []) m l = absurd (omega arith)
  meet_pair meets zero (b ∷ c ∷ bs) m l = m.0
  meet_pair meets (suc j) (b ∷ c ∷ bs) m l = meet_pair meets j (c ∷ bs) m.1 (omega arith)

  -- One of two neighbours is as before.
  other_full : (P : X → Type 0) (h i j : ℕ) (ss : List (Subtree X)) (t : Subtree X) → AreFull P h ss → suc j < length ss → (j ≡ i) ⊎ (suc j ≡ i)
      → IsFull P h (nth_tree (set ss i t) j) ⊎ IsFull P h (nth_tree (set ss i t) (suc j))
  other_full P h i j ss t a l (inl e) =
      inr (subst (IsFull P h) (sym (get_or-set_other ss i (suc j) t no_tree (λ k. omega (arith, k, e)))) (full_at P h ss (suc j) a l))
  other_full P h i j ss t a l (inr e) =
      inl (subst (IsFull P h) (sym (get_or-set_other ss i j t no_tree (λ k. omega (arith, k, e)))) (full_at P h ss j a (omega (arith, l))))

  pub leaf_pair : (meets : X → X → Type 0) (P : X → Type 0) (i j : ℕ) (bs : List (Box X Global)) (ss : List (Subtree X)) (t : Subtree X)
      → map leaf_tree bs ≡ set ss i t → AreFull P 1 ss → Meet meets (leaves_of (map leaf_tree bs)) → suc j < length bs → (j ≡ i) ⊎ (suc j ≡ i)
      → AtPair (λ a b. meets a.value b.value × (P a.value ⊎ P b.value)) j bs
  leaf_pair meets P i j bs ss t e a m l s =
      let w : suc j < length ss = omega (arith, l, length-map bs leaf_tree, ap length e, length-set ss i t) in
      let f : AtPair (λ (x y : Box X Global). IsFull P 1 (leaf_tree x) ⊎ IsFull P 1 (leaf_tree y)) j bs =
      pair_of leaf_tree (λ x y. IsFull P 1 x ⊎ IsFull P 1 y) j bs l
      (subst (λ zs. IsFull P 1 (nth_tree zs j) ⊎ IsFull P 1 (nth_tree zs (suc j))) (sym e) (other_full P 1 i j ss t a w s)) in
      at_both (λ x y. meets x.value y.value) (λ x y. P x.value ⊎ P y.value) j bs (meet_pair meets j bs m l)
      (at_map (λ x y. IsFull P 1 (leaf_tree x) ⊎ IsFull P 1 (leaf_tree y)) (λ x y. P x.value ⊎ P y.value)
      (λ x y q. elim q [ inl z ↦ inl z.all.0 | inr z ↦ inr z.all.0 ]) j bs f)

module _ {X : Type 0} (P : X → Type 0) (h i j : ℕ) (bs : List (Box (Node X) Global)) (ss : List (Subtree X)) (t : Subtree X) (e : map node_tree bs ≡ set ss i t)
    (a : AreFull P h ss) where
  heights : (k : ℕ) → k < length ss → t.height ≡ h → (nth_tree (set ss i t) k).height ≡ h
  heights k l q =
      elim (cases_eq k i) [
        | inl z ↦ rw z (ap (λ (s : Subtree X). s.height) (get_or-set_same ss i t no_tree (omega (arith, z, l))) ∙ q)
        | inr z ↦ ap (λ (s : Subtree X). s.height) (get_or-set_other ss i k t no_tree z) ∙ (full_at P h ss k a l).height
      ]

  pub node_height : t.height ≡ h → suc j < length ss → (nth_tree (map node_tree bs) j).height ≡ h
  node_height q l = ap (λ zs. (nth_tree zs j).height) e ∙ heights j (omega (arith, l)) q

  kids_at : (k : ℕ) → k < length ss → 2 ≤ h → kids (nth_tree ss i) ≤ kids t + 1 → i < length ss → 4 ≤ kids (nth_tree (set ss i t) k)
  kids_at k l d f m =
      elim (cases_eq k i) [
        | inl z ↦ rw z (omega (arith, ap kids (get_or-set_same ss i t no_tree m), f, (full_at P h ss i a m).fan (omega (arith, d))))
        | inr z ↦ omega (arith, ap kids (get_or-set_other ss i k t no_tree z), (full_at P h ss k a l).fan (omega (arith, d)))
      ]

  pub node_pair : 2 ≤ h → t.height ≡ h → kids (nth_tree ss i) ≤ kids t + 1 → suc j < length bs → i < length ss → (j ≡ i) ⊎ (suc j ≡ i)
      → AtPair (λ a b. (a.value.height ≡ b.value.height) × (0 < kids a.value) × (0 < kids b.value) × (5 ≤ kids a.value + kids b.value)) j bs
  node_pair d q f l m s =
      let w : suc j < length ss = omega (arith, l, length-map bs node_tree, ap length e, length-set ss i t) in
      let x = kids_at j (omega (arith, w)) d f m in
      let y = kids_at (suc j) w d f m in
      let z : (nth_tree (set ss i t) j).height ≡ (nth_tree (set ss i t) (suc j)).height =
      heights j (omega (arith, w)) q ∙ sym (heights (suc j) w q) in
      pair_of node_tree (λ x y. (x.height ≡ y.height) × (0 < kids x) × (0 < kids y) × (5 ≤ kids x + kids y)) j bs l
      (subst (λ zs. ((nth_tree zs j).height ≡ (nth_tree zs (suc j)).height) × (0 < kids (nth_tree zs j)) × (0 < kids (nth_tree zs (suc j)))
      × (5 ≤ kids (nth_tree zs j) + kids (nth_tree zs (suc j)))) (sym e)
      (z, omega (arith, x), omega (arith, y), omega (arith, x, y)))

pub beside_suc : (j i : ℕ) → (j ≡ i) ⊎ (j + 1 ≡ i) → (j ≡ i) ⊎ (suc j ≡ i)
beside_suc j i (inl e) = inl e
beside_suc j i (inr e) = inr (omega (arith, e))
