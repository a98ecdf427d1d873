-- The tree of the blocks of a space with some ranges held.
use Rattle.std.proofs.Common.{
  ◌≡◌,
  ◌≢◌,
  ltb,
  eqb,
  cond,
  true,
  false,
  ℕ,
  ◌+◌,
  ◌-◌,
  ◌^◌,
  ◌≤◌,
  ◌<◌,
  List,
  [],
  ◌∷◌,
  length,
  Some,
  None,
  Option,
  MatchOption,
  ◌⊎◌,
  Result,
  Ok,
  Err,
  refl,
  sym,
  ap,
  ◌∙◌,
  arith,
  subst,
  ⊎_elim,
  inl,
  inr,
}
use Rattle.vm_ranges.specs.Range.{Range, MAX, IsRange, address_count}
use Rattle.vm_ranges.specs.Address.{AddressState, IsAddressState, AreInOrder}
use Rattle.vm_leaf.specs.SpaceBlocks.{blocks_between, blocks_of, held_of, AreBelowMax, IsTiling, TilesSpace}
use Rattle.vm_space.specs.Shape.{Shape, blocks}
use Rattle.vm_addresses.specs.Allocator.{state_of, IsSpaceTree}
use Rattle.vm_addresses.specs.Queries.{count_of}
use Rattle.vm_ranges.specs.Cases.{IfElse}
use Rattle.vm_addresses.specs.Checks.HeldKeys.{CanBeHeld}
use Rattle.vm_addresses.specs.Held.{range_fault, or_else, first_fault, MakesHeld}
use Rattle.vm_space.specs.Building.{IsBuiltTree}
use Rattle.vm_leaf.specs.TreeHeights.{TOO_MANY_BLOCKS}
use Rattle.vm_addresses.specs.Tree.CountedTrees.{IsCountedTree}
use Rattle.vm_ranges.specs.declared.state.NodeState.TheVariants.{Allocated}
use Rattle.vm_ranges.specs.declared.error.Error.{Error}
use Rattle.vm_ranges.specs.declared.error.Error.TheVariants.{Overflow, ResourceNotAvailable, OutOfMemory}
use Rattle.vm_addresses.proofs.Blocks.GapLists.{all_counted}
use Rattle.vm_leaf.proofs.Spaces.Tilings.{held_of-blocks_of}
use Rattle.vm_addresses.proofs.Walking.HeldInTrees.{all_blocks}
use Rattle.vm_addresses.proofs.Trees.Spaces.{space_tiled, space_tree}
use Rattle.vm_space.proofs.BlockCursors.{between_tiles}

below_max : (lo hi : ℕ) (rs : List Range) → AreInOrder lo rs hi → AreBelowMax rs
below_max lo hi [] s = tt
below_max lo hi (r ∷ rs) s = (s.3, below_max (r.end + 1) hi rs s.4)

module _ (space : Range) (held : List Range) (range : IsRange space.start space.end) (order : AreInOrder space.start held space.end) (n : ℕ)
    (count : n ≡ length (blocks_between space.start held space.end)) (few : n < 2 ^ 49) (s : Shape)
    (built : IsBuiltTree (blocks_between space.start held space.end) s) where
  abbrev state : AddressState
  state = record { space = space; held = held }

  held_are : held_of (blocks s) ≡ held
  unfolding blocks_of
  held_are = ap held_of built.blocks ∙ held_of-blocks_of state

  tiling : IsTiling space (blocks s)
  unfolding TilesSpace
  tiling =
      let l = range.0 in
      let tiles = between_tiles space.start space.end held (omega arith) order in
      record {
        tiles = subst (TilesSpace space) (sym built.blocks) tiles;
        below = subst AreBelowMax (sym held_are) (below_max space.start space.end held order);
      }

  pub built_tree : IsSpaceTree s
  built_tree = space_tree space s tiling range (omega (arith, few, count, ap length built.blocks))

  pub held_counted : length held ≤ n
  held_counted = omega (arith, count, all_blocks (blocks s), ap length held_are, ap length built.blocks)

  pub built_counted : (clear : ℕ) → clear + count_of held ≡ address_count space →
      IsCountedTree s space (length held) (n - length held) clear
  unfolding TilesSpace
  built_counted clear f =
      let all = all_counted Allocated space.start space.end (blocks s) tiling.tiles in
      record {
        tree = built_tree;
        is_space = sym (space_tiled space (blocks s) tiling.tiles range.0);
        held_count = ap length (sym held_are);
        gap_count = omega (arith, count, all_blocks (blocks s), ap length held_are, ap length built.blocks);
        free_len = omega (arith, f, all, ap count_of held_are, range.0);
      }

  pub built_state : state_of s ≡ state
  built_state =
      let e = space_tiled space (blocks s) tiling.tiles range.0 in
      ap (λ (v : Range). record { space = v; held = held_of (blocks s) }) e
      ∙ ap (λ (v : List Range). record { space = space; held = v }) held_are

  pub built_is_state : IsAddressState (state_of s)
  built_is_state = subst IsAddressState (sym built_state) (record { space = range; in_order = order })

-- The error of ranges that cannot be held is never OutOfMemory.
range_fault_known : (lo hi : ℕ) (r : Range) → range_fault lo hi r ≢ Some OutOfMemory
range_fault_known lo hi r =
    elim (ltb r.start lo) as (λ v. cond v (Some ResourceNotAvailable)
    (cond (eqb r.start MAX) (Some Overflow) (cond (ltb hi r.end) (Some ResourceNotAvailable) (cond (eqb r.end MAX) (Some Overflow) None))) ≢
    Some OutOfMemory) [
      | true ↦ λ k. cc k
      | false ↦ elim (eqb r.start MAX) as
          (λ v. cond v (Some Overflow) (cond (ltb hi r.end) (Some ResourceNotAvailable) (cond (eqb r.end MAX) (Some Overflow) None)) ≢ Some
          OutOfMemory) [
            | true ↦ λ k. cc k
            | false ↦ elim (ltb hi r.end) as
                (λ v. cond v (Some ResourceNotAvailable) (cond (eqb r.end MAX) (Some Overflow) None) ≢ Some OutOfMemory) [
                  | true ↦ λ k. cc k
                  | false ↦ elim (eqb r.end MAX) as (λ v. cond v (Some Overflow) None ≢ Some OutOfMemory) [
                    | true ↦ λ k. cc k
                    | false ↦ λ k. cc k
                  ]
                ]
          ]
    ]

pub first_fault_known : (lo hi : ℕ) (rs : List Range) → first_fault lo hi rs ≢ Some OutOfMemory
first_fault_known lo hi [] = λ k. cc k
first_fault_known lo hi (r ∷ rs) =
    elim (range_fault lo hi r) as (λ v. v ≢ Some OutOfMemory → or_else v (first_fault (r.end + 1) hi rs) ≢ Some OutOfMemory) [
      | None ↦ λ n. first_fault_known (r.end + 1) hi rs
      | Some e ↦ λ n. n
    ] (range_fault_known lo hi r)

pub makes_fault : (space : Range) (held : List Range) (e : Error) → first_fault space.start space.end held ≡ Some e →
    MakesHeld space held (Err e)
unfolding MakesHeld
makes_fault space held e f = rw f refl

pub makes_high : (space : Range) (held : List Range) (n : ℕ) → first_fault space.start space.end held ≡ None →
    n ≡ length (blocks_between space.start held space.end) → 2 ^ 49 ≤ n → MakesHeld space held (Err Overflow)
unfolding MakesHeld blocks_of
makes_high space held n f c l = rw f (inl (omega arith, refl))

pub makes_memory : (space : Range) (held : List Range) (n : ℕ) → first_fault space.start space.end held ≡ None →
    n ≡ length (blocks_between space.start held space.end) → n < 2 ^ 49 → MakesHeld space held (Err OutOfMemory)
unfolding MakesHeld blocks_of
makes_memory space held n f c l = rw f (inr (λ h. omega (arith, h), inr refl))

-- The state that is made is the one that was asked for.
made_is : (o : Option Error) (many : Type 0) (answer : Result AddressState Error) (state made : AddressState) →
    MatchOption o (IfElse many (answer ≡ Err Overflow) ((answer ≡ Ok state) ⊎ (answer ≡ Err OutOfMemory))) (λ fault. answer ≡ Err fault) →
    answer ≡ Ok made → made ≡ state
made_is None many answer state made h e = ⊎_elim (λ l. absurd (cc (l.1, e))) (λ r. ⊎_elim (λ k. cc (k, e)) (λ k. absurd (cc (k, e))) r.1) h
made_is (Some f) many answer state made h e = absurd (cc (h, e))

pub held_made : (space : Range) (held : List Range) (made : AddressState) → MakesHeld space held (Ok made) →
    made ≡ record { space = space; held = held }
unfolding MakesHeld
held_made space held made m =
    let state : AddressState = record { space = space; held = held } in
    made_is (first_fault space.start space.end held) (TOO_MANY_BLOCKS ≤ length (blocks_of state)) (Ok made) state made m refl

pub makes_tree : (space : Range) (held : List Range) (n : ℕ) (made : AddressState) → first_fault space.start space.end held ≡ None →
    n ≡ length (blocks_between space.start held space.end) → n < 2 ^ 49 →
    made ≡ record { space = space; held = held } → MakesHeld space held (Ok made)
unfolding MakesHeld blocks_of
makes_tree space held n made f c l e = rw f (inr (λ h. omega (arith, h), inl (ap (λ (v : AddressState). Ok v) e)))

-- Ranges that can be held are counted, and their blocks are few.
pub held_are_few : (space : Range) (held : List Range) (n : ℕ) → CanBeHeld space held →
    n ≡ length (blocks_between space.start held space.end) → n < 2 ^ 49
unfolding blocks_of
held_are_few space held n can c = let few = can.few in omega (arith, few)

pub ruleset makings = (makes_tree, makes_fault, makes_high, makes_memory)

pub ruleset holdings = (held_are_few)
