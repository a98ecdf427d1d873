-- The saved tree that is written for a list of blocks: there is one, and it is a tree of the space.
use Rattle.std.proofs.Common.{
  ◌≡◌,
  ◌≢◌,
  ℕ,
  suc,
  ◌+◌,
  ◌/◌,
  ◌^◌,
  ◌≤◌,
  ◌<◌,
  List,
  [],
  ◌∷◌,
  length,
  take,
  drop,
  refl,
  sym,
  ap,
  ◌∙◌,
  subst,
  arith,
  length-append,
  ⊎_elim,
}
use Rattle.std.proofs.lemmas.Bool.{cases_lt}
use Rattle.std.proofs.lemmas.List.{take_at, drop_at}
use Rattle.vm_ranges.specs.Range.{Range}
use Rattle.vm_leaf.specs.declared.block.Block.{Block}
use Rattle.vm_leaf.specs.SpaceBlocks.{IsTiling}
use Rattle.vm_leaf.specs.TreeHeights.{IsLowestHeight}
use Rattle.vm_saved_trees.specs.NodeTree.{node_height, HasBalancedNodes}
use Rattle.vm_saved_trees.specs.SavedTrees.{Saved, Absent, Node, nodes_of_saved, saved_blocks, HasHeights, IsSavedTree}
use Rattle.vm_saved_trees.specs.WrittenTrees.{IsMiddle, IsWritten}
use Rattle.vm_saved_trees.proofs.SavedNodes.Heights.{not_above, at_most_one, height_above, power_grows}

-- The blocks of the tree that is written are those that it is written for.
pub written_blocks : (bs : List Block) (t : Saved) → IsWritten bs t → saved_blocks t ≡ bs
written_blocks bs Absent w = sym w
written_blocks bs (Node l b r h) w = sym w.0.cut

same_height : (n g h : ℕ) → IsLowestHeight n g → IsLowestHeight n h → g ≡ h
same_height n g h p q =
    let a = not_above n n g h (omega arith) p q in
    let b = not_above n n h g (omega arith) q p in
    omega arith

-- ---- The tree is balanced, and its heights are correct

-- The number of the blocks after the one in the middle.
after_middle : (bs left right : List Block) (b : Block) (h : ℕ) → IsMiddle bs left b right h →
    (length right ≤ length left) × (length left ≤ length right + 1) × (length left + length left ≤ length bs)
    × (length bs ≤ length left + length left + 1) × (0 < length bs)
after_middle bs left right b h m =
    let c = ap length m.cut in
    let d = length-append left (b ∷ right) in
    let e = m.half in
    (omega arith, omega arith, omega arith, omega arith, omega arith)

pub record IsLow (bs : List Block) (t : Saved) : Type 0 where
  pub heights : HasHeights t
  pub balanced : HasBalancedNodes (nodes_of_saved t)
  pub low : IsLowestHeight (length bs) (node_height (nodes_of_saved t))

pub written_low : (bs : List Block) (t : Saved) → IsWritten bs t → IsLow bs t
written_low bs Absent w = let e = ap length w in record { heights = tt; balanced = tt; low = (omega arith, omega arith) }
written_low bs (Node l b r h) w =
    let x = written_low (saved_blocks l) l w.1 in
    let y = written_low (saved_blocks r) r w.2 in
    let n = after_middle bs (saved_blocks l) (saved_blocks r) b h w.0 in
    let a = not_above (length (saved_blocks r)) (length (saved_blocks l)) (node_height (nodes_of_saved r)) (node_height (nodes_of_saved l)) n.0 y.low
    x.low in
    let c = at_most_one (length (saved_blocks l)) (length (saved_blocks r)) (node_height (nodes_of_saved l)) (node_height (nodes_of_saved r)) n.1 x.low
    y.low in
    let up = height_above (length bs) (length (saved_blocks l)) (node_height (nodes_of_saved l)) n.2 n.3 n.4 x.low in
    let same = same_height (length bs) (suc (node_height (nodes_of_saved l))) h up w.0.height in
    let whole : suc (node_height (nodes_of_saved l)) ≡ node_height (nodes_of_saved (Node l b r h)) = omega arith in
    record {
      heights = (x.heights, y.heights, omega arith);
      balanced = (x.balanced, y.balanced, (omega arith, omega arith));
      low = subst (IsLowestHeight (length bs)) whole up;
    }

-- The tree that is written for the blocks of a space is read again, node for node.
pub written_tree : (space : Range) (bs : List Block) (t : Saved) → IsTiling space bs → bs ≢ [] → length bs < 2 ^ 49 → IsWritten bs t →
    IsSavedTree space t
written_tree space bs t tiling some few w =
    let x = written_low bs t w in
    let is = written_blocks bs t w in
    let nested : node_height (nodes_of_saved t) ≤ 49 =
    ⊎_elim
    (λ (c : 49 < node_height (nodes_of_saved t)). let f = power_grows 50 (node_height (nodes_of_saved t)) (omega arith) in let h = x.low.1 in absurd
    (omega arith))
    (λ (c : node_height (nodes_of_saved t) ≤ 49). c)
    (cases_lt 49 (node_height (nodes_of_saved t))) in
    record {
      some_node = λ (e : t ≡ Absent). some (sym is ∙ ap saved_blocks e);
      heights = x.heights;
      nested = nested;
      balanced = x.balanced;
      blocks = subst (IsTiling space) (sym is) tiling;
    }

-- ---- There is only one

halves : (bs left right left2 right2 : List Block) (b c : Block) (h g : ℕ) → IsMiddle bs left b right h → IsMiddle bs left2 c right2 g →
    (left ≡ left2) × (b ∷ right ≡ c ∷ right2) × (h ≡ g)
halves bs left right left2 right2 b c h g m n =
    let k = length bs / 2 in
    let l = sym (take_at left (b ∷ right) k m.half) ∙ sym (ap (take k) m.cut) ∙ ap (take k) n.cut ∙ take_at left2 (c ∷ right2) k n.half in
    let r = sym (drop_at left (b ∷ right) k m.half) ∙ sym (ap (drop k) m.cut) ∙ ap (drop k) n.cut ∙ drop_at left2 (c ∷ right2) k n.half in
    (l, r, same_height (length bs) h g m.height n.height)

no_middle : (left right : List Block) (b : Block) (h : ℕ) → IsMiddle [] left b right h → ⊥
no_middle left right b h m = let c = ap length m.cut in let d = length-append left (b ∷ right) in omega arith

-- The blocks decide the tree that is written.
pub one_written : (t u : Saved) (bs : List Block) → IsWritten bs t → IsWritten bs u → t ≡ u
one_written Absent Absent bs p q = refl
one_written Absent (Node l b r h) bs p q = absurd
    (no_middle (saved_blocks l) (saved_blocks r) b h (subst (λ (v : List Block). IsMiddle v (saved_blocks l) b (saved_blocks r) h) p q.0))
one_written (Node l b r h) Absent bs p q = absurd
    (no_middle (saved_blocks l) (saved_blocks r) b h (subst (λ (v : List Block). IsMiddle v (saved_blocks l) b (saved_blocks r) h) q p.0))
one_written (Node l b r h) (Node m c n g) bs p q =
    let x = halves bs (saved_blocks l) (saved_blocks r) (saved_blocks m) (saved_blocks n) b c h g p.0 q.0 in
    let left = one_written l m (saved_blocks l) p.1 (subst (λ (v : List Block). IsWritten v m) (sym x.0) q.1) in
    let rest : (b ≡ c) × (saved_blocks r ≡ saved_blocks n) = (cc (x.1), cc (x.1)) in
    let right = one_written r n (saved_blocks r) p.2 (subst (λ (v : List Block). IsWritten v n) (sym rest.1) q.2) in
    let block = rest.0 in
    let height = x.2 in
    cc (left, right, block, height)
