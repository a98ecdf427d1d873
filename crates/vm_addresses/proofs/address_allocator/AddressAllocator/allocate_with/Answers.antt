-- The counts of ranges, gaps and addresses stay true. The prover does not count blocks, and lemmas on both trees do.
use Rattle.std.proofs.Common.{◌≡◌, ◌≤◌, true, length, Bool, Ok, Err, arith}
use Rattle.vm_space.specs.Shape.{Shape, blocks}
use Rattle.vm_addresses.specs.Allocator.{state_of}
use Rattle.vm_ranges.specs.Answer.{SPLIT_LIMIT_MIN_HELD}
use Rattle.vm_leaf.specs.SpaceBlocks.{held_of}
use Rattle.vm_addresses.proofs.Placing.Counted.{IsAnswered, refused_answer, refused_state, taken_new, taken_gaps, taken_clear, granted_state, granted_answer}
use Rattle.vm_addresses.proofs.Trees.CountedTrees.{held_fits}
use Rattle.vm_addresses.proofs.address_allocator.AddressAllocator.allocate_with.Goals as goal

-- The limit of splits is one of the tree.
few : (can_split : Bool) (tree s : Shape) → tree ≡ s → (can_split ≡ true → length (state_of s).held ≤ SPLIT_LIMIT_MIN_HELD) →
    can_split ≡ true → length (held_of (blocks tree)) ≤ SPLIT_LIMIT_MIN_HELD
few can_split tree s e l = rw e l

pub overflow_add-self : goal.overflow_add-self
overflow_add-self c = omega (
  arith,
  held_fits c.self.inside.tree c.self.inside.space c.self.inside.held_count c.self.inside.gap_count
      c.self.inside.free_len c.self.invariant,
)

pub overflow_add-self-2 : goal.overflow_add-self-2
overflow_add-self-2 c =
    let valid = c.in-Ok.ensures.valid in
    let k = taken_gaps c.self.inside.tree c.allocate_in.new.tree c.self.inside.space c.self.inside.held_count c.self.inside.gap_count
    c.self.inside.free_len c.args.can_split c.args.request c.allocate_in.new.count c.self.invariant c.in-Ok.taken (few c.args.can_split c.self.inside.tree c.args.self.now c.self.view_is c.requires.few) valid.some c.in-Ok.ensures.answer
    c.from.result c.from.ensures in
    omega (arith, k.1)

pub overflow_sub-self : goal.overflow_sub-self
overflow_sub-self c =
    let valid = c.in-Ok.ensures.valid in
    (taken_gaps c.self.inside.tree c.allocate_in.new.tree c.self.inside.space c.self.inside.held_count c.self.inside.gap_count
    c.self.inside.free_len c.args.can_split c.args.request c.allocate_in.new.count c.self.invariant c.in-Ok.taken (few c.args.can_split c.self.inside.tree c.args.self.now c.self.view_is c.requires.few) valid.some c.in-Ok.ensures.answer
    c.from.result c.from.ensures).0

pub overflow_sub-self-2 : goal.overflow_sub-self-2
overflow_sub-self-2 c =
    let valid = c.in-Ok.ensures.valid in
    taken_clear c.self.inside.tree c.allocate_in.new.tree c.self.inside.space c.self.inside.held_count c.self.inside.gap_count
    c.self.inside.free_len c.args.can_split c.args.request c.allocate_in.new.count c.self.invariant c.in-Ok.taken (few c.args.can_split c.self.inside.tree c.args.self.now c.self.view_is c.requires.few) valid.some c.in-Ok.ensures.answer
    c.size.result c.size.ensures.value

pub invariant_of-self-2 : goal.invariant_of-self-2
invariant_of-self-2 c =
    let valid = c.in-Ok.ensures.valid in
    taken_new c.self.inside.tree c.allocate_in.new.tree c.self.inside.space c.self.inside.held_count c.self.inside.gap_count
    c.self.inside.free_len c.args.can_split c.args.request c.allocate_in.new.count c.self.invariant c.in-Ok.taken (few c.args.can_split c.self.inside.tree c.args.self.now c.self.view_is c.requires.few) valid.some c.in-Ok.ensures.answer
    c.from.result c.size.result c.from.ensures c.size.ensures.value

pub allocate_in-requires-clause-few : goal.allocate_in-requires-clause-few
allocate_in-requires-clause-few c = rw c.self.view_is c.requires.few

-- ---- The result
refused : (c : goal.In-Err) →
    IsAnswered c.args.self.now c.allocate_in.new.tree c.args.can_split c.args.request (Err c.in-Err.error) c.allocate_in.new.count
refused c = rw (← c.self.view_is)
    (refused_answer c.self.inside.tree c.allocate_in.new.tree c.self.inside.space c.self.inside.held_count c.self.inside.gap_count
    c.self.inside.free_len c.args.can_split c.args.request c.allocate_in.new.count c.self.invariant c.in-Err.error c.in-Err.ensures.answer
    c.in-Err.ensures.valid)

granted : (c : goal.After-self-4-1) →
    IsAnswered c.args.self.now c.allocate_in.new.tree c.args.can_split c.args.request (Ok c.in-Ok.taken.range) c.allocate_in.new.count
granted c =
    let valid = c.in-Ok.ensures.valid in
    rw (← c.self.view_is)
    (granted_answer c.self.inside.tree c.allocate_in.new.tree c.self.inside.space c.self.inside.held_count c.self.inside.gap_count
    c.self.inside.free_len c.args.can_split c.args.request c.allocate_in.new.count c.self.invariant c.in-Ok.taken
    (few c.args.can_split c.self.inside.tree c.args.self.now c.self.view_is c.requires.few) valid.some c.in-Ok.ensures.answer valid)

pub returns-in-Err-clause-state : goal.returns-in-Err-clause-state
returns-in-Err-clause-state c = refused_state c.self.inside.tree c.allocate_in.new.tree c.self.inside.space c.self.inside.held_count
    c.self.inside.gap_count c.self.inside.free_len c.args.can_split c.args.request c.allocate_in.new.count c.self.invariant c.in-Err.error
    c.in-Err.ensures.answer

pub returns-clause-state : goal.returns-clause-state
returns-clause-state c = granted_state c.self.inside.tree c.allocate_in.new.tree c.self.inside.space c.self.inside.held_count
    c.self.inside.gap_count c.self.inside.free_len c.args.can_split c.args.request c.allocate_in.new.count c.self.invariant c.in-Ok.taken
    (few c.args.can_split c.self.inside.tree c.args.self.now c.self.view_is c.requires.few) c.in-Ok.ensures.valid.some
    c.in-Ok.ensures.answer

pub returns-in-Err-clause-grants : goal.returns-in-Err-clause-grants
returns-in-Err-clause-grants c = (refused c).grants

pub returns-in-Err-clause-steps : goal.returns-in-Err-clause-steps
returns-in-Err-clause-steps c = (refused c).steps

pub returns-in-Err-clause-search : goal.returns-in-Err-clause-search
returns-in-Err-clause-search c = (refused c).search

pub returns-clause-grants : goal.returns-clause-grants
returns-clause-grants c = (granted c).grants

pub returns-clause-steps : goal.returns-clause-steps
returns-clause-steps c = (granted c).steps

pub returns-clause-search : goal.returns-clause-search
returns-clause-search c = (granted c).search
