-- The span of a node from those of its children.
use Rattle.std.proofs.Common.{
  ◌≡◌,
  ℕ,
  ◌+◌,
  ◌-◌,
  ◌^◌,
  ◌≤◌,
  ◌<◌,
  max,
  min,
  true,
  not,
  cond,
  ◌&&◌,
  ◌||◌,
  leb,
  ltb,
  eqb,
  List,
  [],
  ◌∷◌,
  ◌++◌,
  length,
  Option,
  Some,
  None,
  refl,
  sym,
  ap,
  ◌∙◌,
  subst,
  arith,
}
use Rattle.std.proofs.lemmas.Bool.{and_parts, and_from, leb-true, le-leb, ltb-true, lt-ltb, eqb-true, eq-eqb}
use Rattle.std.proofs.lemmas.List.{append_assoc, length-append}
use Rattle.std.proofs.lemmas.Option.{same_Some}
use Rattle.vm_ranges.proofs.Steps.{and_then_some, if_some}
use Rattle.vm_ranges.specs.Range.{Range, MAX, IsRange}
use Rattle.vm_leaf.specs.declared.block.Block.{Block}
use Rattle.vm_leaf.specs.Block.{is_free}
use Rattle.vm_leaf.specs.Blocks.{NotBothFree, Tiles}
use Rattle.vm_leaf.specs.SpaceBlocks.{range_if_held, AreKeysIn, AreBelowMax}
use Rattle.vm_saved_trees.specs.NodeTree.{node_height, HasBalancedNodes}
use Rattle.vm_saved_trees.specs.KeyValues.{MAX_NESTING_REPAIRED}
use Rattle.vm_saved_trees.specs.SavedTrees.{Saved, Absent, Node, nodes_of_saved, saved_blocks, held_keys, HasHeights, HasRanges, IsReadable}
use Rattle.vm_saved_trees.specs.NodeChecks.{is_correct_height}
use Rattle.vm_saved_trees.specs.Spans.{
  nesting_of,
  held_in,
  ends_below,
  starts_above,
  can_join,
  joins_left,
  joins_right,
  is_exact_over,
  held_over,
  first_of,
  last_of,
  joined,
  span_over,
  span_of,
}
use Rattle.vm_saved_trees.specs.declared.span.Span.{Span}
use Rattle.vm_ranges.specs.declared.state.NodeState.{NodeState}
use Rattle.vm_ranges.specs.declared.state.NodeState.TheVariants.{Free, Allocated}
use Rattle.vm_saved_trees.proofs.SavedNodes.Heights.{power_grows, most_nodes, node_count-blocks}
use Rattle.vm_saved_trees.proofs.SavedNodes.KeyLists.{
  keys_within,
  keys_from,
  keys_join,
  keys_left,
  keys_right,
  keys_next,
  tiles_join,
  tiles_cut,
  held_node,
  below_both,
  below_left,
  below_right,
  held_few,
}
use Rattle.vm_saved_trees.proofs.SavedNodes.Meanings.{HasEnds, IsExact, Means, MeansAll}

-- ---- The span of a child that can be absent

pub height_is : (o : Option Span) (t : Saved) → MeansAll o t → node_height (nodes_of_saved t) ≡ nesting_of o
height_is None t m = rw m refl
height_is (Some s) t m = m.nesting

pub held_is : (o : Option Span) (t : Saved) → MeansAll o t → length (held_keys t) ≡ held_in o
held_is None t m = rw m refl
held_is (Some s) t m = m.held

below_of : (o : Option Span) (t : Saved) → MeansAll o t → AreBelowMax (held_keys t)
below_of None t m = rw m tt
below_of (Some s) t m = m.readable.below

apart : (p s : NodeState) → not (is_free p && is_free s) ≡ true → NotBothFree p s
apart Free Free h = absurd (cc)
apart Free Allocated h = tt
apart Allocated s h = tt

apart-true : (p s : NodeState) → NotBothFree p s → not (is_free p && is_free s) ≡ true
apart-true Free Free h = absurd h
apart-true Free Allocated h = refl
apart-true Allocated s h = refl

-- ---- The blocks of the left child, and those from the node's own on

left_keys : (o : Option Span) (l : Saved) (b : Block) (ys : List Block) → MeansAll o l → ends_below o b.key.start ≡ true →
    AreKeysIn 0 (b ∷ ys) MAX → AreKeysIn 0 (saved_blocks l ++ b ∷ ys) MAX
left_keys None l b ys m e k = rw m k
left_keys (Some s) l b ys m e k =
    let z = m.ends in
    let n = ltb-true s.last b.key.start e in
    let w = m.last_end in
    let keys = subst (λ (v : List Block). AreKeysIn 0 v MAX) z.last_is m.readable.keys in
    let all = keys_join 0 MAX z.before z.last (b ∷ ys) keys (keys_from 0 (z.last.key.end + 1) MAX b ys (omega arith) k) in
    let cut : saved_blocks l ++ b ∷ ys ≡ z.before ++ z.last ∷ b ∷ ys = ap (λ (v : List Block). v ++ b ∷ ys) z.last_is
    ∙ append_assoc z.before (z.last ∷ []) (b ∷ ys) in
    subst (λ (v : List Block). AreKeysIn 0 v MAX) (sym cut) all

left_apart : (o : Option Span) (l : Saved) (b : Block) (ys : List Block) → MeansAll o l → AreKeysIn 0 (saved_blocks l ++ b ∷ ys) MAX →
    ends_below o b.key.start ≡ true
left_apart None l b ys m k = refl
left_apart (Some s) l b ys m k =
    let z = m.ends in
    let w = m.last_end in
    let cut : saved_blocks l ++ b ∷ ys ≡ z.before ++ z.last ∷ b ∷ ys = ap (λ (v : List Block). v ++ b ∷ ys) z.last_is
    ∙ append_assoc z.before (z.last ∷ []) (b ∷ ys) in
    let n = keys_next 0 MAX z.before z.last b ys (subst (λ (v : List Block). AreKeysIn 0 v MAX) cut k) in
    lt-ltb s.last b.key.start (omega arith)

left_tiles : (o : Option Span) (l : Saved) (b : Block) (ys : List Block) (hi : ℕ) → MeansAll o l → joins_left o b ≡ true →
    b.key.start ≤ b.key.end → Tiles b.state (b.key.end + 1) ys hi → Tiles Allocated (first_of o b).0 (saved_blocks l ++ b ∷ ys) hi
left_tiles None l b ys hi m e v t = rw m (refl, v, tt, t)
left_tiles (Some s) l b ys hi m e v t =
    let z = m.ends in
    let w = m.last_end in
    let p = and_parts s.is_exact _ e in
    let q = and_parts (eqb (s.last + 1) b.key.start) _ p.1 in
    let n = eqb-true (s.last + 1) b.key.start q.0 in
    let free : NotBothFree z.last.state b.state = subst (λ (x : NodeState). NotBothFree x b.state) (sym m.last_state)
    (apart s.last_state b.state q.1) in
    let own : Tiles Allocated s.first (z.before ++ z.last ∷ []) s.last = subst (λ (x : List Block). Tiles Allocated s.first x s.last)
    z.last_is (m.exact p.0).tiles in
    let all = tiles_join Allocated s.first hi z.before z.last (b ∷ ys) s.last own (omega arith, omega arith, free, t) in
    let cut : saved_blocks l ++ b ∷ ys ≡ z.before ++ z.last ∷ b ∷ ys = ap (λ (x : List Block). x ++ b ∷ ys) z.last_is
    ∙ append_assoc z.before (z.last ∷ []) (b ∷ ys) in
    subst (λ (x : List Block). Tiles Allocated s.first x hi) (sym cut) all

left_tiled : (o : Option Span) (l : Saved) (b : Block) (ys : List Block) (hi : ℕ) → MeansAll o l → HasHeights l → HasBalancedNodes (nodes_of_saved l) →
    Tiles Allocated (first_of o b).0 (saved_blocks l ++ b ∷ ys) hi → (joins_left o b ≡ true) × Tiles b.state (b.key.end + 1) ys hi
left_tiled None l b ys hi m h g t = (refl, (subst (λ (x : Saved). Tiles Allocated b.key.start (saved_blocks x ++ b ∷ ys) hi) m t).3)
left_tiled (Some s) l b ys hi m h g t =
    let z = m.ends in
    let w = m.last_end in
    let cut : saved_blocks l ++ b ∷ ys ≡ z.before ++ z.last ∷ b ∷ ys = ap (λ (x : List Block). x ++ b ∷ ys) z.last_is
    ∙ append_assoc z.before (z.last ∷ []) (b ∷ ys) in
    let two = tiles_cut Allocated s.first hi z.before z.last (b ∷ ys) (subst (λ (x : List Block). Tiles Allocated s.first x hi) cut t) in
    let own : Tiles Allocated s.first (saved_blocks l) s.last = subst (λ (x : List Block). Tiles Allocated s.first x s.last) (sym z.last_is)
    (subst (λ (x : ℕ). Tiles Allocated s.first (z.before ++ z.last ∷ []) x) w two.0) in
    let exact = m.all_exact (record { heights = h; balanced = g; tiles = own }) in
    let free : NotBothFree s.last_state b.state = subst (λ (x : NodeState). NotBothFree x b.state) m.last_state two.1.2 in
    let next = two.1.0 in (
      and_from s.is_exact _ exact (and_from _ _ (eq-eqb (s.last + 1) b.key.start (omega arith)) (apart-true s.last_state b.state free)),
      two.1.3,
    )

-- ---- The blocks of the right child, after the node's own

right_keys : (o : Option Span) (r : Saved) (end : ℕ) → MeansAll o r → starts_above o end ≡ true → AreKeysIn (end + 1) (saved_blocks r) MAX
right_keys None r end m e = rw m tt
right_keys (Some s) r end m e =
    let z = m.ends in
    let w = m.first_start in
    let n = ltb-true end s.first e in
    let keys = subst (λ (v : List Block). AreKeysIn 0 v MAX) z.first_is m.readable.keys in
    subst (λ (v : List Block). AreKeysIn (end + 1) v MAX) (sym z.first_is) (keys_from 0 (end + 1) MAX z.first z.rest (omega arith) keys)

right_apart : (o : Option Span) (r : Saved) (end : ℕ) → MeansAll o r → AreKeysIn (end + 1) (saved_blocks r) MAX → starts_above o end ≡ true
right_apart None r end m k = refl
right_apart (Some s) r end m k =
    let z = m.ends in
    let w = m.first_start in
    let n = (subst (λ (v : List Block). AreKeysIn (end + 1) v MAX) z.first_is k).0 in
    lt-ltb end s.first (omega arith)

right_tiles : (o : Option Span) (r : Saved) (b : Block) → MeansAll o r → joins_right o b ≡ true →
    Tiles b.state (b.key.end + 1) (saved_blocks r) (last_of o b).0
right_tiles None r b m e = rw m refl
right_tiles (Some s) r b m e =
    let z = m.ends in
    let w = m.first_start in
    let p = and_parts s.is_exact _ e in
    let q = and_parts (eqb (b.key.end + 1) s.first) _ p.1 in
    let n = eqb-true (b.key.end + 1) s.first q.0 in
    let free : NotBothFree b.state z.first.state = subst (λ (x : NodeState). NotBothFree b.state x) (sym m.first_state)
    (apart b.state s.first_state q.1) in
    let own : Tiles Allocated s.first (z.first ∷ z.rest) s.last = subst (λ (x : List Block). Tiles Allocated s.first x s.last) z.first_is
    (m.exact p.0).tiles in
    subst (λ (x : List Block). Tiles b.state (b.key.end + 1) x s.last) (sym z.first_is)
    (omega arith, omega (arith, own.0, own.1), free, own.3)

right_tiled : (o : Option Span) (r : Saved) (b : Block) → MeansAll o r → HasHeights r → HasBalancedNodes (nodes_of_saved r) →
    Tiles b.state (b.key.end + 1) (saved_blocks r) (last_of o b).0 → joins_right o b ≡ true
right_tiled None r b m h g t = refl
right_tiled (Some s) r b m h g t =
    let z = m.ends in
    let w = m.first_start in
    let cut : Tiles b.state (b.key.end + 1) (z.first ∷ z.rest) s.last = subst (λ (x : List Block). Tiles b.state (b.key.end + 1) x s.last)
    z.first_is t in
    let own : Tiles Allocated s.first (saved_blocks r) s.last = subst (λ (x : List Block). Tiles Allocated s.first x s.last)
    (sym z.first_is) (w, omega (arith, cut.0, cut.1), tt, cut.3) in
    let exact = m.all_exact (record { heights = h; balanced = g; tiles = own }) in
    let free : NotBothFree b.state s.first_state = subst (λ (x : NodeState). NotBothFree b.state x) m.first_state cut.2 in
    let next = cut.0 in
    and_from s.is_exact _ exact (and_from _ _ (eq-eqb (b.key.end + 1) s.first (omega arith)) (apart-true b.state s.first_state free))

-- ---- The ends of a node's blocks

ends_node : (lo ro : Option Span) (l r : Saved) (b : Block) → MeansAll lo l → MeansAll ro r →
    (e : HasEnds (saved_blocks l ++ b ∷ saved_blocks r)) × (e.first.key.start ≡ (first_of lo b).0) × (e.first.state ≡ (first_of lo b).1)
    × (e.last.key.end ≡ (last_of ro b).0) × (e.last.state ≡ (last_of ro b).1)
ends_node None None l r b m n = rw (m, n)
    (record { first = b; rest = []; first_is = refl; before = []; last = b; last_is = refl }, refl, refl, refl, refl)
ends_node None (Some s) l r b m n =
    let z = n.ends in
    rw m (
      record {
        first = b;
        rest = saved_blocks r;
        first_is = refl;
        before = b ∷ z.before;
        last = z.last;
        last_is = ap
            (λ (v : List Block). b ∷ v) z.last_is;
      },
      refl,
      refl,
      n.last_end,
      n.last_state,
    )
ends_node (Some s) None l r b m n =
    let z = m.ends in
    rw n (
      record {
        first = z.first;
        rest = z.rest ++ b ∷ [];
        first_is = ap (λ (v : List Block). v ++ b ∷ []) z.first_is;
        before = saved_blocks
            l;
        last = b;
        last_is = refl;
      },
      m.first_start,
      m.first_state,
      refl,
      refl,
    )
ends_node (Some s) (Some s2) l r b m n =
    let z = m.ends in
    let y = n.ends in (
      record {
        first = z.first;
        rest = z.rest ++ b ∷ saved_blocks r;
        first_is = ap (λ (v : List Block). v ++ b ∷ saved_blocks r) z.first_is;
        before = saved_blocks l ++ b ∷ y.before;
        last = y.last;
        last_is = ap (λ (v : List Block). saved_blocks l ++ b ∷ v) y.last_is
            ∙ sym (append_assoc (saved_blocks l) (b ∷ y.before) (y.last ∷ []));
      },
      m.first_start,
      m.first_state,
      n.last_end,
      n.last_state,
    )

-- ---- The number of held keys

own_held : (s : NodeState) (k : Range) → length (range_if_held s k) ≡ cond (is_free s) 0 1
own_held Free k = refl
own_held Allocated k = refl

-- So many nodes are never nested that their number does not fit.
held_fit : (t : Saved) → node_height (nodes_of_saved t) ≤ MAX_NESTING_REPAIRED → length (held_keys t) < 2 ^ 50
held_fit t n =
    let a = held_few (saved_blocks t) in
    let b = node_count-blocks (nodes_of_saved t) in
    let c = most_nodes (nodes_of_saved t) in
    let d = power_grows (node_height (nodes_of_saved t)) 50 n in
    omega arith

held_sum : (l r : Saved) (b : Block) (h : ℕ) →
    length (held_keys (Node l b r h)) ≡ length (held_keys l) + length (held_keys r) + cond (is_free b.state) 0 1
held_sum l r b h =
    let e = ap length (held_node (saved_blocks l) b (saved_blocks r)) in
    let f = length-append (held_keys l) (range_if_held b.state b.key ++ held_keys r) in
    let g = length-append (range_if_held b.state b.key) (held_keys r) in
    let o = own_held b.state b.key in
    omega arith

held_node_is : (lo ro : Option Span) (l r : Saved) (b : Block) (h : ℕ) → MeansAll lo l → MeansAll ro r →
    node_height (nodes_of_saved (Node l b r h)) ≤ MAX_NESTING_REPAIRED → length (held_keys (Node l b r h)) ≡ held_over lo b.state ro
held_node_is lo ro l r b h m n deep =
    let fit = held_fit (Node l b r h) deep in
    let sum = held_sum l r b h in
    let x = held_is lo l m in
    let y = held_is ro r n in
    let inner : min (held_in lo + held_in ro) (2 ^ 64 - 1) ≡ held_in lo + held_in ro = omega arith in
    let outer : held_over lo b.state ro ≡ min (held_in lo + held_in ro + cond (is_free b.state) 0 1) (2 ^ 64 - 1) = ap
    (λ (v : ℕ). min (v + cond (is_free b.state) 0 1) (2 ^ 64 - 1)) inner in
    omega arith

-- ---- A node

below_max : (s : NodeState) (k : Range) → (is_free s || ltb k.end MAX) ≡ true → AreBelowMax (range_if_held s k)
below_max Free k h = tt
below_max Allocated k h = (ltb-true k.end MAX h, tt)

max_below : (s : NodeState) (k : Range) → AreBelowMax (range_if_held s k) → (is_free s || ltb k.end MAX) ≡ true
max_below Free k h = refl
max_below Allocated k h = lt-ltb k.end MAX h.0

correct_height : (l r h : ℕ) → is_correct_height l r h ≡ true → (l ≤ r + 1) × (r ≤ l + 1) × (h ≡ max l r + 1)
correct_height l r h e =
    let a = and_parts (leb l (r + 1) && leb r (l + 1)) (eqb h (max l r + 1)) e in
    let b = and_parts (leb l (r + 1)) (leb r (l + 1)) a.0 in
    (leb-true l (r + 1) b.0, leb-true r (l + 1) b.1, eqb-true h (max l r + 1) a.1)

height_correct : (l r h : ℕ) → l ≤ r + 1 → r ≤ l + 1 → h ≡ max l r + 1 → is_correct_height l r h ≡ true
height_correct l r h p q e = and_from _ _ (and_from _ _ (le-leb l (r + 1) p) (le-leb r (l + 1) q)) (eq-eqb h (max l r + 1) e)

heights_of : (o : Option Span) (t : Saved) → MeansAll o t → (b : Block) → joins_left o b ≡ true → HasHeights t × HasBalancedNodes (nodes_of_saved t)
heights_of None t m b e = rw m (tt, tt)
heights_of (Some s) t m b e = let x = m.exact (and_parts s.is_exact _ e).0 in (x.heights, x.balanced)

heights_of_right : (o : Option Span) (t : Saved) → MeansAll o t → (b : Block) → joins_right o b ≡ true →
    HasHeights t × HasBalancedNodes (nodes_of_saved t)
heights_of_right None t m b e = rw m (tt, tt)
heights_of_right (Some s) t m b e = let x = m.exact (and_parts s.is_exact _ e).0 in (x.heights, x.balanced)

module _ (lo ro : Option Span) (l r : Saved) (b : Block) (h : ℕ) (m : MeansAll lo l) (n : MeansAll ro r)
    (range : IsRange b.key.start b.key.end) where
  abbrev tree : Saved
  tree = Node l b r h

  abbrev start : ℕ
  start = (first_of lo b).0

  abbrev end : ℕ
  end = (last_of ro b).0

  node_exact : is_exact_over lo b ro h ≡ true → IsExact tree start end
  node_exact e =
      let p = and_parts (joins_left lo b) _ e in
      let q = and_parts (joins_right ro b) _ p.1 in
      let c = correct_height (nesting_of lo) (nesting_of ro) h q.1 in
      let hl = height_is lo l m in
      let hr = height_is ro r n in
      let x = heights_of lo l m b p.0 in
      let y = heights_of_right ro r n b q.0 in
      let v = range.0 in
      record {
        heights = (x.0, y.0, omega arith);
        balanced = (x.1, y.1, (omega arith, omega arith));
        tiles = left_tiles lo l b (saved_blocks r) end m p.0 v (right_tiles ro r b n q.0);
      }

  exact_node : IsExact tree start end → is_exact_over lo b ro h ≡ true
  exact_node x =
      let hl = height_is lo l m in
      let hr = height_is ro r n in
      let heights = x.heights in
      let two = left_tiled lo l b (saved_blocks r) end m heights.0 x.balanced.0 x.tiles in
      let right = right_tiled ro r b n heights.1 x.balanced.1 two.1 in
      let close = x.balanced.2 in
      let own = heights.2 in
      and_from _ _ two.0 (and_from _ _ right (height_correct (nesting_of lo) (nesting_of ro) h (omega arith) (omega arith) (omega arith)))

  pub node_means : can_join lo b ro ≡ true → Means (joined lo b ro h) tree
  node_means e =
      let p = and_parts (is_free b.state || ltb b.key.end MAX) _ e in
      let q = and_parts (ltb (max (nesting_of lo) (nesting_of ro)) MAX_NESTING_REPAIRED) _ p.1 in
      let w = and_parts (ends_below lo b.key.start) (starts_above ro b.key.end) q.1 in
      let hl = height_is lo l m in
      let hr = height_is ro r n in
      let deep = ltb-true (max (nesting_of lo) (nesting_of ro)) MAX_NESTING_REPAIRED q.0 in
      let nested : node_height (nodes_of_saved tree) ≤ MAX_NESTING_REPAIRED = omega arith in
      let z = ends_node lo ro l r b m n in
      let v = range.0 in
      let v2 = range.1 in
      let keys = left_keys lo l b (saved_blocks r) m w.0 (omega arith, v, v2, right_keys ro r b.key.end n w.1) in
      let below = below_both (held_keys l) (range_if_held b.state b.key ++ held_keys r) (below_of lo l m)
      (below_both (range_if_held b.state b.key) (held_keys r) (below_max b.state b.key p.0) (below_of ro r n)) in
      record {
        ends = z.0;
        first_start = z.1;
        first_state = z.2;
        last_end = z.3;
        last_state = z.4;
        nesting = omega arith;
        held = held_node_is lo ro l r b h m n nested;
        readable = record {
          nested = nested;
          keys = keys;
          below = subst AreBelowMax (sym (held_node (saved_blocks l) b (saved_blocks r)))
              below;
        };
        exact = node_exact;
        all_exact = exact_node;
      }

  -- The node of a readable tree can be joined.
  pub node_joins : IsReadable tree → can_join lo b ro ≡ true
  node_joins x =
      let hl = height_is lo l m in
      let hr = height_is ro r n in
      let deep = x.nested in
      let below = subst AreBelowMax (held_node (saved_blocks l) b (saved_blocks r)) x.below in
      let own = below_left (range_if_held b.state b.key) (held_keys r)
      (below_right (held_keys l) (range_if_held b.state b.key ++ held_keys r) below) in
      let from = keys_right 0 MAX (saved_blocks l) (b ∷ saved_blocks r) x.keys in
      and_from _ _ (max_below b.state b.key own)
      (and_from _ _ (lt-ltb (max (nesting_of lo) (nesting_of ro)) MAX_NESTING_REPAIRED (omega arith))
      (and_from _ _ (left_apart lo l b (saved_blocks r) m x.keys) (right_apart ro r b.key.end n from.3)))

-- ---- All nodes

left_readable : (l r : Saved) (b : Block) (h : ℕ) → IsReadable (Node l b r h) → IsReadable l
left_readable l r b h x =
    let deep = x.nested in
    record {
      nested = omega arith;
      keys = keys_left 0 MAX (saved_blocks l) (b ∷ saved_blocks r) x.keys;
      below = below_left (held_keys l) (range_if_held b.state b.key ++ held_keys r)
          (subst AreBelowMax (held_node (saved_blocks l) b (saved_blocks r)) x.below);
    }

right_readable : (l r : Saved) (b : Block) (h : ℕ) → IsReadable (Node l b r h) → IsReadable r
right_readable l r b h x =
    let deep = x.nested in
    let from = keys_right 0 MAX (saved_blocks l) (b ∷ saved_blocks r) x.keys in
    let v = from.1 in
    record {
      nested = omega arith;
      keys = keys_within (b.key.end + 1) 0 MAX MAX (saved_blocks r) (omega arith) (omega arith) from.3;
      below = below_right (range_if_held b.state b.key) (held_keys r)
          (below_right (held_keys l) (range_if_held b.state b.key ++ held_keys r)
          (subst AreBelowMax (held_node (saved_blocks l) b (saved_blocks r)) x.below));
    }

-- The span of a subtree is true for it.
pub sound : (t : Saved) (o : Option Span) → HasRanges t → span_of t ≡ Some o → MeansAll o t
sound Absent o v e = subst (λ (x : Option Span). MeansAll x Absent) (same_Some None o e) refl
sound (Node l b r h) o v e =
    let left = and_then_some _ (span_of l) o e in
    let right = and_then_some _ (span_of r) o left.2 in
    let own = and_then_some _ (span_over left.0 b right.0 h) o right.2 in
    let can = if_some (can_join left.0 b right.0) (Some (joined left.0 b right.0 h)) own.0 own.1 in
    let m = node_means left.0 right.0 l r b h (sound l left.0 v.0 left.1) (sound r right.0 v.1 right.1) v.2 can.0 in
    let is : Some (joined left.0 b right.0 h) ≡ o = can.1 ∙ same_Some (Some own.0) o own.2 in
    subst (λ (x : Option Span). MeansAll x (Node l b r h)) is m

-- A readable tree has a span.
pub complete : (t : Saved) → HasRanges t → IsReadable t → (o : Option Span) × (span_of t ≡ Some o)
complete Absent v x = (None, refl)
complete (Node l b r h) v x =
    let left = complete l v.0 (left_readable l r b h x) in
    let right = complete r v.1 (right_readable l r b h x) in
    let can = node_joins left.0 right.0 l r b h (sound l left.0 v.0 left.1) (sound r right.0 v.1 right.1) v.2 x in
    (Some (joined left.0 b right.0 h), rw (left.1, right.1, can) refl)
