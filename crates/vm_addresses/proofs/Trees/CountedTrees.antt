-- The counts of a tree before and after a range is allocated or freed.
use Rattle.std.proofs.Common.{zero, suc, ◌≡◌, ℕ, ◌+◌, ◌-◌, ◌^◌, ◌<◌, ◌≤◌, List, [], ◌∷◌, length, drop, refl, sym, ap, ◌∙◌, arith, subst, ⊎_elim}
use Rattle.std.proofs.lemmas.Bool.{cases_lt, lt-ltb, le-ltb}
use Rattle.std.specs.List.{Contains}
use Rattle.vm_ranges.specs.Range.{Range, MAX, address_count}
use Rattle.vm_ranges.specs.declared.state.NodeState.TheVariants.{Allocated}
use Rattle.vm_space.specs.Shape.{Shape, blocks}
use Rattle.vm_ranges.specs.Address.{AddressState, with_range, holding, releasing}
use Rattle.vm_addresses.specs.Tree.CountedTrees.{IsCountedTree}
use Rattle.vm_addresses.specs.Queries.{free_of, count_of}
use Rattle.vm_leaf.specs.SpaceBlocks.{TilesSpace, IsBlocksOf, AreBelowMax, held_of}
use Rattle.vm_addresses.specs.Allocator.{space_of, state_of, IsSpaceTree}
use Rattle.vm_addresses.proofs.Blocks.GapLists.{all_counted}
use Rattle.vm_addresses.proofs.Blocks.HeldChanges.{with_without}
use Rattle.vm_ranges.proofs.PlainWords.{held_contains}
use Rattle.vm_addresses.proofs.Placing.TakenRanges.{below_with}
use Rattle.vm_addresses.proofs.Trees.Spaces.{space_tiled, space_tree, state_of_tree}
use Rattle.vm_addresses.proofs.Walking.HeldInTrees.{all_blocks}

-- ---- A range added to a list
pub length_with : (r : Range) (hs : List Range) → length (with_range r hs) ≡ length hs + 1
length_with r [] = omega arith
length_with r (h ∷ hs) =
    ⊎_elim
    (λ (c : r.start < h.start). rw (lt-ltb r.start h.start c) (omega arith))
    (λ (c : h.start ≤ r.start). rw (le-ltb r.start h.start c) (omega (arith, length_with r hs)))
    (cases_lt r.start h.start)

count_with : (r : Range) (hs : List Range) → count_of (with_range r hs) ≡ address_count r + count_of hs
count_with r [] = refl
count_with r (h ∷ hs) =
    ⊎_elim
    (λ (c : r.start < h.start). rw (lt-ltb r.start h.start c) refl)
    (λ (c : h.start ≤ r.start). rw (le-ltb r.start h.start c) (omega (arith, count_with r hs)))
    (cases_lt r.start h.start)

-- Some last ranges have at most as many addresses as all.
pub count_dropped : (rs : List Range) (i : ℕ) → count_of (drop i rs) ≤ count_of rs
count_dropped rs zero = omega arith
count_dropped [] (suc i) = omega arith
count_dropped (r ∷ rs) (suc i) = omega (arith, count_dropped rs i)

-- Ranges with an address are some ranges.
some_counted : (rs : List Range) → 0 < count_of rs → 0 < length rs
some_counted [] h = absurd (omega arith)
some_counted (r ∷ rs) h = omega arith

-- ---- The numbers of blocks and of addresses
all_of_space : (s : Shape) → IsSpaceTree s →
    count_of (free_of (blocks s)) + count_of (held_of (blocks s)) ≡ address_count (space_of (blocks s))
unfolding TilesSpace
all_of_space s h =
    let sp = space_of (blocks s) in
    omega (arith, all_counted Allocated sp.start sp.end (blocks s) h.tiling.tiles, h.space.0)

-- A space has at most MAX addresses.
space_fits : (s : Shape) → IsSpaceTree s → address_count (space_of (blocks s)) ≤ MAX
space_fits s h =
    let sp = space_of (blocks s) in
    ⊎_elim
    (λ (p : 0 < sp.start). omega (arith, h.space.1))
    (λ (p : sp.start ≤ 0). let last = h.space.2 (omega arith) in omega arith)
    (cases_lt 0 sp.start)

-- ---- One range more
record OneMore (s n : Shape) (r : Range) : Type 0 where
  held : length (held_of (blocks n)) ≡ length (held_of (blocks s)) + 1
  clear : count_of (free_of (blocks n)) + address_count r ≡ count_of (free_of (blocks s))

one_more : (s n : Shape) (r : Range) → IsSpaceTree s → IsSpaceTree n → state_of n ≡ holding r (state_of s) → OneMore s n r
one_more s n r h t e =
    let held : held_of (blocks n) ≡ with_range r (held_of (blocks s)) = ap (λ (v : AddressState). v.held) e in
    let space : address_count (space_of (blocks n))
    ≡ address_count (space_of (blocks s)) = ap (λ (v : AddressState). address_count v.space) e in
    let counts = ap count_of held ∙ count_with r (held_of (blocks s)) in
    record {
      held = ap length held ∙ length_with r (held_of (blocks s));
      clear = omega (arith, all_of_space s h, all_of_space n t, space, counts);
    }

held_again : (s n : Shape) (r : Range) → IsSpaceTree s → Contains (held_of (blocks s)) r → state_of n ≡ releasing r (state_of s) →
    state_of s ≡ holding r (state_of n)
held_again s n r h c e =
    let sp = space_of (blocks s) in
    let back = with_without sp.start sp.end r (held_of (blocks s)) (state_of_tree s h).in_order (held_contains (held_of (blocks s)) r c) in
    ap (λ (v : List Range). record { space = sp; held = v }) (sym back) ∙ ap (holding r) (sym e)

-- ---- The tree after a change of its state
module _ (s n : Shape) (state : AddressState) (h : IsSpaceTree s) (space : state.space ≡ space_of (blocks s))
    (is : IsBlocksOf state (blocks n)) (below : AreBelowMax state.held) (few : length (blocks n) < 2 ^ 49) where
  same_space : space_of (blocks n) ≡ space_of (blocks s)
  unfolding TilesSpace
  same_space =
      let range = subst (λ (v : Range). v.start ≤ v.end) (sym space) h.space.0 in
      space_tiled state.space (blocks n) is.tiles range ∙ space

  changed_tree : IsSpaceTree n
  unfolding TilesSpace
  changed_tree =
      let tiles : TilesSpace (space_of (blocks s)) (blocks n) = subst (λ (v : Range). TilesSpace v (blocks n)) space is.tiles in
      space_tree (space_of (blocks s)) n (record { tiles = tiles; below = subst AreBelowMax (sym is.held) below }) h.space few

  changed_state : state_of n ≡ state
  changed_state = ap (λ (v : Range). record { space = v; held = held_of (blocks n) }) (same_space ∙ sym space)
      ∙ ap (λ (v : List Range). record { space = state.space; held = v }) is.held

-- ---- A range that was allocated
-- The blocks n are those of s with the range r held. There are `added` blocks more.
pub record TakesOne (s n : Shape) (r : Range) (added : ℕ) : Type 0 where
  pub is : IsBlocksOf (holding r (state_of s)) (blocks n)
  pub below : r.end < MAX
  pub more : length (blocks n) ≡ length (blocks s) + added
  pub few : length (blocks n) < 2 ^ 49

module _ (s n : Shape) (space r : Range) (held gaps clear added : ℕ) (h : IsCountedTree s space held gaps clear)
    (k : TakesOne s n r added) where
  taken_tree : IsSpaceTree n
  taken_tree = changed_tree s n (holding r (state_of s)) h.tree refl k.is (below_with r (held_of (blocks s)) k.below h.tree.tiling.below)
      k.few

  pub taken_state : state_of n ≡ holding r (state_of s)
  taken_state = changed_state s n (holding r (state_of s)) h.tree refl k.is
      (below_with r (held_of (blocks s)) k.below h.tree.tiling.below) k.few

  taken_more : OneMore s n r
  taken_more = one_more s n r h.tree taken_tree taken_state

  pub gaps_left : 1 ≤ gaps + added
  gaps_left = omega (arith, h.gap_count, k.more, taken_more.held, all_blocks (blocks s), all_blocks (blocks n))

  pub taken_fits : address_count r ≤ clear
  taken_fits = omega (arith, h.free_len, taken_more.clear)

  pub taken_counted : (count : ℕ) → count ≡ address_count r → IsCountedTree n space (held + 1) (gaps + added - 1) (clear - count)
  taken_counted count e = record {
    tree = taken_tree;
    is_space = h.is_space ∙ sym (ap (λ (v : AddressState). v.space) taken_state);
    held_count = omega (arith, h.held_count, taken_more.held);
    gap_count = omega (arith, h.gap_count, k.more, taken_more.held, all_blocks (blocks s), all_blocks (blocks n));
    free_len = omega (arith, e, h.free_len, taken_more.clear);
  }

pub held_fits : (s : Shape) (space : Range) (held gaps clear : ℕ) → IsCountedTree s space held gaps clear → held < 2 ^ 49
held_fits s space held gaps clear h = omega (arith, h.held_count, h.tree.few, all_blocks (blocks s))

pub gaps_fit : (s : Shape) (space : Range) (held gaps clear : ℕ) → IsCountedTree s space held gaps clear → gaps < 2 ^ 49
gaps_fit s space held gaps clear h = omega (arith, h.gap_count, h.tree.few, all_blocks (blocks s))

-- The number of all blocks.
pub blocks_fit : (s : Shape) (space : Range) (held gaps clear : ℕ) → IsCountedTree s space held gaps clear → held + gaps < 2 ^ 49
blocks_fit s space held gaps clear h = omega (arith, h.held_count, h.gap_count, h.tree.few, all_blocks (blocks s))

-- ---- A range that was freed
-- The blocks n are those of s without the held range r. There are `joined` blocks less.
pub record FreesOne (s n : Shape) (r : Range) (joined : ℕ) : Type 0 where
  pub held : Contains (held_of (blocks s)) r
  pub is : IsBlocksOf (releasing r (state_of s)) (blocks n)
  pub below : AreBelowMax (releasing r (state_of s)).held
  pub less : length (blocks s) ≡ length (blocks n) + joined

module _ (s n : Shape) (space r : Range) (held gaps clear joined : ℕ) (h : IsCountedTree s space held gaps clear)
    (k : FreesOne s n r joined) where
  few_left : length (blocks n) < 2 ^ 49
  few_left = omega (arith, k.less, h.tree.few)

  freed_tree : IsSpaceTree n
  freed_tree = changed_tree s n (releasing r (state_of s)) h.tree refl k.is k.below few_left

  pub freed_state : state_of n ≡ releasing r (state_of s)
  freed_state = changed_state s n (releasing r (state_of s)) h.tree refl k.is k.below few_left

  freed_less : OneMore n s r
  freed_less = one_more n s r freed_tree h.tree (held_again s n r h.tree k.held freed_state)

  pub some_held : 1 ≤ held
  some_held = omega (arith, h.held_count, freed_less.held)

  some_gap : 0 < length (free_of (blocks n))
  some_gap = some_counted (free_of (blocks n)) (omega (arith, freed_less.clear))

  pub joined_fits : joined ≤ gaps
  joined_fits = omega (arith, some_gap, h.gap_count, k.less, freed_less.held, all_blocks (blocks s), all_blocks (blocks n))

  pub freed_fits : clear + address_count r ≤ MAX
  freed_fits = omega (arith, h.free_len, freed_less.clear, all_of_space n freed_tree, space_fits n freed_tree)

  pub freed_counted : (count : ℕ) → count ≡ address_count r → IsCountedTree n space (held - 1) (gaps - joined + 1) (clear + count)
  freed_counted count e = record {
    tree = freed_tree;
    is_space = h.is_space ∙ sym (ap (λ (v : AddressState). v.space) freed_state);
    held_count = omega (arith, h.held_count, freed_less.held);
    gap_count = omega (arith, some_gap, h.gap_count, k.less, freed_less.held, all_blocks (blocks s), all_blocks (blocks n));
    free_len = omega (arith, e, h.free_len, freed_less.clear);
  }
