-- The leaf to which a key belongs, seen from a node above it.
use Rattle.std.proofs.Common.{◌≡◌, ℕ, zero, suc, ◌+◌, ◌≤◌, ◌<◌, List, [], ◌∷◌, ◌++◌, length, take, drop, map, Box, Option, Some, None, ◌∙◌, sym, refl, ap, subst, arith, inl, inr}
use Rattle.std.proofs.lemmas.Bool.{cases_lt}
use Rattle.std.proofs.lemmas.List.{drop_all}
use Rattle.std.specs.declared.alloc.Global.{Global}
use Rattle.vm_tree.specs.Entry.{Entry}
use Rattle.vm_tree.specs.Rows.{nth}
use Rattle.vm_tree.specs.Slots.{held}
use Rattle.vm_tree.specs.Subtree.{Subtree, leaf_of, leaves_of, leaves_entry, entry_of, front, over, kids, nth_tree, AreFull}
use Rattle.vm_tree.specs.Edits.{IsBefore, IsHome, AtKey}
use Rattle.vm_tree.specs.Walks.{IsFrom, start_or}
use Rattle.vm_tree.specs.Nodes.{kids_of, AreUnder, node_tree}
use Rattle.vm_tree.specs.declared.node.Node.{Node}
use Rattle.vm_tree.specs.declared.node.Kids.{Kids}
use Rattle.vm_tree.specs.declared.node.Kids.TheVariants.{Leaves, Nodes}
use Rattle.vm_tree.proofs.Flats.{flat_cut, length-entries, at-entries, before_flat, full_at}
use Rattle.vm_tree.proofs.Leaves.{at_key}
use Rattle.vm_tree.proofs.Widened.{wide_key, wide_stands}

module _ {X : Type 0} (en : X → Entry) (P : X → Type 0) where
  under_entries : (es : List Entry) (k : Kids X) → AreUnder en P es k → es ≡ map (entry_of en) (kids_of k)
  under_entries es (Leaves os) a = a.entries
  under_entries es (Nodes os) a = a.entries

  under_even : (es : List Entry) (k : Kids X) → AreUnder en P es k → AreFull P (front (kids_of k)) (kids_of k)
  under_even es (Leaves os) a = a.even
  under_even es (Nodes os) a = a.even

  pub under_count : (es : List Entry) (k : Kids X) → AreUnder en P es k → length es ≡ length (kids_of k)
  under_count es k a = ap length (under_entries es k a) ∙ length-entries en (kids_of k)

  pub under_height : (es : List Entry) (k : Kids X) (i : ℕ) → AreUnder en P es k → i < length es → (nth_tree (kids_of k) i).height ≡ front (kids_of k)
  under_height es k i a l = (full_at P (front (kids_of k)) (kids_of k) i (under_even es k a) (omega (arith, under_count es k a))).height

  pub under_fan : (es : List Entry) (os : List (Option (Box (Node X) Global))) (i : ℕ) → AreUnder en P es (Nodes os) → i < length es →
      0 < kids (nth_tree (map node_tree (held os)) i)
  under_fan es os i a l =
      let f = full_at P (front (map node_tree (held os))) (map node_tree (held os)) i a.even (omega (arith, under_count es (Nodes os) a)) in
      omega (arith, f.fan (omega (arith, a.deep)))

  start_append : (xs ys : List X) (end : Option ℕ) → start_or en (xs ++ ys) end ≡ start_or en xs (start_or en ys end)
  start_append [] ys end = refl
  start_append (x ∷ xs) ys end = refl

  -- The first leaf of the children from i on is that of the child i.
  start_flat : (h : ℕ) (ss : List (Subtree X)) (i : ℕ) (end : Option ℕ) → AreFull P h ss → i < length ss →
      start_or en (leaves_of (drop i ss)) end ≡ Some (entry_of en (nth_tree ss i)).at
  start_flat h [] i end a l = absurd (omega arith)
  start_flat h (s ∷ ss) zero end a l = start_append s.leaves (leaves_of ss) end ∙ head s.leaves (start_or en (leaves_of ss) end) a.0.some
    where
      head : (xs : List X) (end : Option ℕ) → 0 < length xs → start_or en xs end ≡ Some (leaves_entry en xs).at
      head [] end l = absurd (omega arith)
      head (x ∷ xs) end l = refl
  start_flat h (s ∷ ss) (suc i) end a l = start_flat h ss i end a.1 (omega arith)

  some_before : (i : ℕ) (ss : List (Subtree X)) → 0 < length (leaves_of (take i ss)) → 0 < i
  some_before zero [] k = absurd (omega arith)
  some_before zero (s ∷ ss) k = absurd (omega arith)
  some_before (suc i) ss k = omega arith

  pub from_over : (es : List Entry) (k : Kids X) (s : Subtree X) (key : ℕ) (end next found : Option ℕ) (i : ℕ) (leaf : X) → AreUnder en P es k → over (kids_of k) ≡ s →
      i < length es → (0 < i → (nth es i).at ≤ key) → (i + 1 < length es → key < (nth es (i + 1)).at) →
      (i + 1 < length es → next ≡ Some (nth es (i + 1)).at) → (length es ≤ i + 1 → next ≡ end) →
      IsFrom en key next (nth_tree (kids_of k) i).leaves leaf found → IsFrom en key end s.leaves leaf found
  from_over es k s key end next found i leaf a q l from upto more last h =
      subst (λ (z : Subtree X). IsFrom en key end z.leaves leaf found) q (record {
        before = leaves_of (take i ss) ++ h.before;
        after = h.after ++ leaves_of (drop (suc i) ss);
        home = subst (λ xs. IsHome en key xs (leaves_of (take i ss) ++ h.before) leaf (h.after ++ leaves_of (drop (suc i) ss))) (sym (flat_cut ss i m))
            (wide_stands (AtKey en key) (AtKey en key) (leaves_of (take i ss)) (nth_tree ss i).leaves (leaves_of (drop (suc i) ss))
            (wide_key en key (leaves_of (take i ss)) (nth_tree ss i).leaves (leaves_of (drop (suc i) ss)) (λ p. omega (arith, from (some_before i ss p), at i m)) high)
            h.before leaf h.after h.home);
        is = h.is ∙ ap (start_or en h.after) rest ∙ sym (start_append h.after (leaves_of (drop (suc i) ss)) end);
      })
    where
      ss : List (Subtree X)
      ss = kids_of k

      n : length es ≡ length (kids_of k)
      n = under_count es k a

      m : i < length (kids_of k)
      m = omega (arith, n)

      at : (j : ℕ) → j < length (kids_of k) → (nth es j).at ≡ (entry_of en (nth_tree (kids_of k) j)).at
      at j l = ap (λ zs. (nth zs j).at) (under_entries es k a) ∙ at-entries en (kids_of k) j l

      one-more : suc i ≡ i + 1
      one-more = omega arith

      high : IsBefore en key (leaves_of (drop (suc i) (kids_of k)))
      high = before_flat en P (front (kids_of k)) key (kids_of k) (suc i) (under_even es k a)
          (λ p. subst (λ j. key < (entry_of en (nth_tree (kids_of k) j)).at) (sym one-more)
          (omega (arith, upto (omega (arith, n)), at (i + 1) (omega arith))))

      rest : next ≡ start_or en (leaves_of (drop (suc i) (kids_of k))) end
      rest = elim (cases_lt (suc i) (length (kids_of k))) [
        | inl p ↦ more (omega (arith, n)) ∙ ap Some (at (i + 1) (omega arith)) ∙ ap (λ j. Some (entry_of en (nth_tree (kids_of k) j)).at) (sym one-more)
            ∙ sym (start_flat (front (kids_of k)) (kids_of k) (suc i) end (under_even es k a) p)
        | inr p ↦ last (omega (arith, n)) ∙ sym (ap (λ zs. start_or en (leaves_of zs) end) (drop_all (suc i) (kids_of k) p))
      ]

  -- A leaf is the home of each key.
  pub one_leaf : (key : ℕ) (next : Option ℕ) (leaf : X) (s : Subtree X) → leaf_of leaf ≡ s → IsFrom en key next s.leaves leaf next
  one_leaf key next leaf s e = subst (λ (z : Subtree X). IsFrom en key next z.leaves leaf next) e (record {
    before = [];
    after = [];
    home = record { was = refl; here = at_key en key leaf };
    is = refl;
  })

-- A leaf that is alone is the home of each key, and there is no next one.
pub alone : {X : Type 0} (en : X → Entry) (key : ℕ) (leaf : X) → IsFrom en key None (leaf ∷ []) leaf None
alone en key leaf = record {
  before = [];
  after = [];
  home = record { was = refl; here = at_key en key leaf };
  is = refl;
}
