-- The leaf of a key, below a node.
use Rattle.std.proofs.Common.{◌≡◌, ℕ, ◌+◌, ◌≤◌, ◌<◌, List, [], ◌∷◌, length, map, get_or, Option, Some, Box, ◌∙◌, sym, refl, ap, subst, arith}
use Rattle.std.proofs.lemmas.List.{length-map}
use Rattle.std.specs.declared.alloc.Global.{Global}
use Rattle.vm_tree.specs.Entry.{Entry}
use Rattle.vm_tree.specs.Rows.{nth}
use Rattle.vm_tree.specs.Slots.{held, IsDense}
use Rattle.vm_tree.specs.Subtree.{Subtree, leaf_of, leaves_of, front, entry_of, nth_tree, Ascend, IsFull, AreFull}
use Rattle.vm_tree.specs.Edits.{AtKey}
use Rattle.vm_tree.specs.Over.{IsOver}
use Rattle.vm_tree.specs.Found.{IsLeafOf, HasKid}
use Rattle.vm_tree.specs.Nodes.{leaf_tree}
use Rattle.vm_tree.proofs.Below.{at}
use Rattle.vm_tree.proofs.Flats.{length-entries, nth-entries, full_at, child_ascends}
use Rattle.vm_tree.proofs.Leaves.{at_key, joined-none}
use Rattle.vm_tree.proofs.Widened.{over_refused, key_lifts}

pub leaf_found : {X : Type 0} (en : X → Entry) (key : ℕ) (x : X) → IsLeafOf en key (x ∷ []) x
leaf_found en key x = record {
  before = [];
  leaf = x;
  after = [];
  home = record { was = refl; here = at_key en key x };
  refused = refl;
}

pub over_found : {X : Type 0} (en : X → Entry) (P : X → Type 0) (key : ℕ) (es : List Entry) (ss : List (Subtree X)) → AreFull P (front ss) ss
    → es ≡ map (entry_of en) ss → (i : ℕ) → i < length es → (0 < i → (nth es i).at ≤ key) → (i + 1 < length es → key < (nth es (i + 1)).at)
    → (x : X) → IsLeafOf en key (nth_tree ss i).leaves x → IsLeafOf en key (leaves_of ss) x
over_found en P key es ss even e i l f u x r =
    let n : length es ≡ length ss = ap length e ∙ length-entries en ss in
    let inside : i < length ss = omega (arith, n, l) in
    over_refused (AtKey en key) (AtKey en key) i ss inside (key_lifts en key P ss (front ss) even es e i l f u) (λ y. y ≡ x) r

module _ {X C : Type 0} (en : X → Entry) (P : X → Type 0) (key least : ℕ) (tree : Box C Global → Subtree X) (es : List Entry) (os : List (Option (Box C Global)))
    (over : IsOver en P least tree es os) (i : ℕ) (l : i < length es) (o : Option (Box C Global)) (k : Box C Global) (h : get_or os i o ≡ Some k) where
  same : length es ≡ length (held os)
  same = ap length over.entries ∙ length-entries en (map tree (held os)) ∙ length-map (held os) tree

  here : nth_tree (map tree (held os)) i ≡ tree k
  here = at tree os i o k k over.dense (omega (arith, same, l)) h

  inside : i < length (map tree (held os))
  inside = omega (arith, same, l, length-map (held os) tree)

  pub found_over : (0 < i → (nth es i).at ≤ key) → (i + 1 < length es → key < (nth es (i + 1)).at) → (x : X) → IsLeafOf en key (tree k).leaves x
      → IsLeafOf en key (leaves_of (map tree (held os))) x
  found_over f u x r =
      over_found en P key es (map tree (held os)) over.even over.entries i l f u x
      (subst (λ (s : Subtree X). IsLeafOf en key s.leaves x) (sym here) r)

  pub kid_full : IsFull P (front (map tree (held os))) (tree k)
  kid_full = subst (IsFull P (front (map tree (held os)))) here (full_at P (front (map tree (held os))) (map tree (held os)) i over.even inside)

  pub kid_ascends : Ascend en (leaves_of (map tree (held os))) → Ascend en (tree k).leaves
  kid_ascends a = subst (λ (s : Subtree X). Ascend en s.leaves) here (child_ascends en i (map tree (held os)) a)

-- The entry of a child that is a leaf.
pub kid_entry : {X : Type 0} (en : X → Entry) (os : List (Option (Box X Global))) (es : List Entry) (i : ℕ) (x : X) → IsDense os → i < length (held os)
    → es ≡ map (entry_of en) (map leaf_tree (held os)) → HasKid os i x → nth es i ≡ en x
kid_entry en os es i x d l e k =
    let t : nth_tree (map leaf_tree (held os)) i ≡ leaf_of k.box.value = at leaf_tree os i k.other k.box k.box d l k.is in
    ap (λ zs. nth zs i) e ∙ nth-entries en (map leaf_tree (held os)) i (omega (arith, l, length-map (held os) leaf_tree)) ∙ ap (entry_of en) t
    ∙ sym (joined-none (en k.box.value)) ∙ ap en (sym k.value)
