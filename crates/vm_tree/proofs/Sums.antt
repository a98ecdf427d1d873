-- Facts of a node with this number of children.
use Rattle.std.proofs.Common.{◌≡◌, ℕ, ◌+◌, ◌-◌, ◌*◌, ◌^◌, ◌≤◌, ◌<◌, List, [], ◌∷◌, length, ◌∙◌, sym, ap, subst, arith}
use Rattle.std.proofs.lemmas.List.{length-map}
use Rattle.vm_tree.specs.Entry.{Entry}
use Rattle.vm_tree.specs.declared.node.Kids.{Kids}
use Rattle.vm_tree.specs.declared.node.Kids.TheVariants.{Leaves, Nodes}
use Rattle.vm_tree.specs.Slots.{held}
use Rattle.std.proofs.Common.{add-one}
use Rattle.std.proofs.Math.Nat.{mul-le-mul, pow-suc}
use Rattle.vm_tree.specs.Sized.{IsSizedTree}
use Rattle.vm_tree.specs.Subtree.{Subtree, leaves_of, front, over, AreFull}
use Rattle.vm_tree.specs.Nodes.{kids_of, leaf_tree, node_tree, AreUnder}
use Rattle.vm_tree.specs.HasKids.{HasKids}
use Rattle.vm_tree.proofs.Flats.{front_is, over_most, flat_few, flat_bound, flat_some, flat_all, full_over, length-entries}
use Rattle.vm_tree.proofs.Unders.{under_entries, under_even, front_leaf}

module _ {X : Type 0} (en : X → Entry) (P : X → Type 0) where
  tall : (es : List Entry) (k : Kids X) → AreUnder en P es k → 0 < length (kids_of k) → 2 ≤ front (kids_of k) + 1
  tall es (Leaves os) a l = omega (arith, front_leaf (held os) (omega (arith, l, length-map (held os) leaf_tree)))
  tall es (Nodes os) a l = omega (arith, a.deep)

under_fits : {X : Type 0} (en : X → Entry) (P : X → Type 0) (es : List Entry) (k : Kids X) → AreUnder en P es k → length (kids_of k) ≤ 16
under_fits en P es (Leaves os) a = omega (arith, length-map (held os) leaf_tree, a.dense.fits)
under_fits en P es (Nodes os) a = omega (arith, length-map (held os) node_tree, a.dense.fits)

-- A root over at least two children.
sized_over : {X : Type 0} (P : X → Type 0) (h : ℕ) (ss : List (Subtree X)) → AreFull P h ss → 2 ≤ length ss → length ss ≤ 16 → IsSizedTree (over ss)
sized_over {X} P h ss a l m =
    let f = front_is P h ss a (omega (arith, l)) in
    let e : front ss + 1 - 2 ≡ h - 1 = omega (arith, f) in
    record {
      high = omega arith;
      most = subst (λ k. 15 * (length (over ss).sizes + length (over ss).leaves) + 1 ≤ 16 ^ (k + 1)) (sym f) (over_most P h ss a m);
      few = omega (arith, flat_few P h ss a, l);
      inner = λ p. omega arith;
      fewest = λ p. rw e (two (h - 1) (subst (λ k. length ss * 5 ^ k ≤ 5 * length (leaves_of ss)) (up ss a l) (flat_bound P h ss a)));
    }
  where
    up : (ss : List (Subtree X)) → AreFull P h ss → 2 ≤ length ss → h ≡ h - 1 + 1
    up [] a l = absurd (omega (arith, l))
    up (s ∷ ss) a l = omega (arith, a.0.high)

    two : (k : ℕ) → length ss * 5 ^ (k + 1) ≤ 5 * length (leaves_of ss) → 2 * 5 ^ k ≤ length (leaves_of ss)
    two k b =
        let c : 2 * 5 ^ (k + 1) ≤ length ss * 5 ^ (k + 1) = mul-le-mul l (omega arith) in
        let d : 5 ^ (k + 1) ≡ 5 * 5 ^ k = rw add-one (omega (arith, pow-suc 5 k)) in
        omega (arith, b, c, d)

back : (n : ℕ) → n ≡ n + 1 - 1
back n = omega arith

pub has_kids : {X : Type 0} (en : X → Entry) (P : X → Type 0) (n : ℕ) (k : Kids X) (es : List Entry) → AreUnder en P es k → n ≡ length es
    → HasKids P n (over (kids_of k))
has_kids en P n k es a l =
    let e = under_entries en P es k a in
    let v = under_even en P es k a in
    let m : n ≡ length (kids_of k) = l ∙ ap length e ∙ length-entries en (kids_of k) in
    record {
      kids = m;
      tall = λ p. tall en P es k a (omega (arith, m, p));
      bound = subst (λ j. n * 5 ^ j ≤ 5 * length (leaves_of (kids_of k))) (back (front (kids_of k)))
          (subst (λ j. j * 5 ^ front (kids_of k) ≤ 5 * length (leaves_of (kids_of k))) (sym m) (flat_bound P (front (kids_of k)) (kids_of k) v));
      some = λ p. flat_some P (front (kids_of k)) (kids_of k) v (omega (arith, m, p));
      all = flat_all P (front (kids_of k)) (kids_of k) v;
      full = λ p. full_over P (front (kids_of k)) (kids_of k) v (omega (arith, m, p)) (under_fits en P es k a);
      sized = λ p. sized_over P (front (kids_of k)) (kids_of k) v (omega (arith, m, p)) (under_fits en P es k a);
    }

pub entry_is : {X : Type 0} (en : X → Entry) (P : X → Type 0) (k : Kids X) (es : List Entry) → AreUnder en P es k → length es ≡ length (kids_of k)
entry_is en P k es a = ap length (under_entries en P es k a) ∙ length-entries en (kids_of k)
