-- Facts of the children that follow from the invariant of a node.
use Rattle.std.proofs.Common.{◌≡◌, ℕ, zero, suc, ◌+◌, ◌*◌, ◌^◌, ◌≤◌, ◌<◌, List, [], ◌∷◌, length, map, Box, refl, arith, ◌∙◌, ap, lit≤}
use Rattle.std.proofs.Math.Nat.{mul-le-mul, pow-suc}
use Rattle.std.proofs.lemmas.List.{length-map}
use Rattle.std.specs.declared.alloc.Global.{Global}
use Rattle.vm_tree.specs.declared.node.Kids.{Kids}
use Rattle.vm_tree.specs.declared.node.Kids.TheVariants.{Leaves, Nodes}
use Rattle.vm_tree.specs.Entry.{Entry}
use Rattle.vm_tree.specs.Rows.{nth, sum_of}
use Rattle.vm_tree.specs.Slots.{held}
use Rattle.vm_tree.specs.Subtree.{leaves_of, front, entry_of, Ascend, AreFull, leaves_entry}
use Rattle.vm_tree.specs.Nodes.{kids_of, leaf_tree, AreUnder}
use Rattle.vm_tree.proofs.Flats.{ascends, flat_some, sum-entries}

module _ {X : Type 0} (en : X → Entry) (P : X → Type 0) where
  pub under_entries : (es : List Entry) (k : Kids X) → AreUnder en P es k → es ≡ map (entry_of en) (kids_of k)
  under_entries es (Leaves os) a = a.entries
  under_entries es (Nodes os) a = a.entries

  pub under_even : (es : List Entry) (k : Kids X) → AreUnder en P es k → AreFull P (front (kids_of k)) (kids_of k)
  under_even es (Leaves os) a = a.even
  under_even es (Nodes os) a = a.even

  pub under_ascends : (es : List Entry) (k : Kids X) → AreUnder en P es k → Ascend en (leaves_of (kids_of k)) → (i j : ℕ) → 0 < i → i ≤ j
      → j < length es → (nth es i).at ≤ (nth es j).at
  under_ascends es k a r i j p q l =
      ascends en P es (kids_of k) (front (kids_of k)) i j (under_entries es k a) (under_even es k a) r p q l

pub front_leaf : {X : Type 0} (bs : List (Box X Global)) → 0 < length bs → front (map leaf_tree bs) ≡ 1
front_leaf [] l = absurd (omega arith)
front_leaf (b ∷ bs) l = refl

-- The sum of the entries is that of the node.
pub sum_under : {X : Type 0} (en : X → Entry) (P : X → Type 0) (es : List Entry) (k : Kids X) → AreUnder en P es k
    → sum_of es ≡ leaves_entry en (leaves_of (kids_of k))
sum_under en P es k a = ap sum_of (under_entries en P es k a) ∙ sum-entries en P (front (kids_of k)) (kids_of k) (under_even en P es k a)

pub under_high : {X : Type 0} (en : X → Entry) (P : X → Type 0) (es : List Entry) (k : Kids X) → AreUnder en P es k → 0 < length (kids_of k)
    → 2 ≤ front (kids_of k) + 1
under_high en P es (Leaves os) a l = omega (arith, front_leaf (held os) (omega (arith, l, length-map (held os) leaf_tree)))
under_high en P es (Nodes os) a l = omega (arith, a.deep)

pub under_some : {X : Type 0} (en : X → Entry) (P : X → Type 0) (es : List Entry) (k : Kids X) → AreUnder en P es k → 0 < length (kids_of k)
    → 0 < length (leaves_of (kids_of k))
under_some en P es k a l = flat_some P (front (kids_of k)) (kids_of k) (under_even en P es k a) l

-- The height of a node with few leaves.
five_power : (h : ℕ) → 2 ≤ h → 5 * (h + 1) ≤ 5 ^ h
five_power zero l = absurd (omega (arith, l))
five_power (suc zero) l = absurd (omega (arith, l))
five_power (suc (suc zero)) l = lit≤ tt
five_power (suc (suc (suc h))) l = let r = five_power (suc (suc h)) (omega arith) in omega (arith, r, pow-suc 5 (suc (suc h)))

pub few_levels : (n h leaves most : ℕ) → 0 < n → n * 5 ^ h ≤ 5 * leaves → leaves ≤ most → 2 ≤ most → h + 1 ≤ most
few_levels n zero leaves most s b l m = omega (arith, m)
few_levels n (suc zero) leaves most s b l m = omega (arith, m)
few_levels n (suc (suc h)) leaves most s b l m =
    let p : 1 * 5 ^ suc (suc h) ≤ n * 5 ^ suc (suc h) = mul-le-mul s (omega arith) in
    omega (arith, five_power (suc (suc h)) (omega arith), p, b, l)
