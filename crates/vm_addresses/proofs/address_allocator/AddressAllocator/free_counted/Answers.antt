-- A freed range joins the gaps beside it, and the counts stay true. The prover does not count blocks, and lemmas on both trees do.
use Rattle.std.proofs.Common.{arith, ap}
use Rattle.vm_ranges.specs.Range.{Range}
use Rattle.vm_space.specs.Shape.{blocks}
use Rattle.vm_addresses.proofs.Trees.CountedTrees.{some_held, joined_fits, freed_fits, freed_counted, freed_state, gaps_fit}
use Rattle.vm_addresses.proofs.Trees.Ends.{ends}
use Rattle.vm_addresses.proofs.Trees.Freeing.{frees_one, frees_held}
use Rattle.vm_addresses.proofs.Trees.Spaces.{state_of_tree}
use Rattle.vm_addresses.proofs.address_allocator.AddressAllocator.free_counted.Goals as goal

pub returns-then-start-clause-state : goal.returns-then-start-clause-state
returns-then-start-clause-state c = rw (← c.self.view_is) (state_of_tree c.self.inside.tree c.self.invariant.tree)

pub free-requires : goal.free-requires
free-requires c =
    let t = c.self.invariant.tree in
    let e = ends _ (blocks c.self.inside.tree) t.tiling.tiles t.space.0 in
    let s = ap (λ (r : Range). r.start) c.self.invariant.is_space in
    let f = ap (λ (r : Range). r.end) c.self.invariant.is_space in
    record {
      start = record {
        from = omega (arith, e.start, c.if-start.false, c.start-2.ensures.value, c.start.ensures.value, s);
        upto = omega (arith, e.end, c.if-end-start.false, c.end.ensures.value, c.start-else-start.ensures.value, f);
      };
    }

pub returns-in_default-clause-state : goal.returns-in_default-clause-state
returns-in_default-clause-state c = rw c.in_default.ensures.freed.0 (state_of_tree c.self.inside.tree c.self.invariant.tree)

pub overflow_sub-self : goal.overflow_sub-self
overflow_sub-self c =
    let k = frees_one c.self.inside.tree c.free.new.self c.args.key.now c.in-Some.joined c.self.invariant.tree c.in-Some.ensures.freed.0
    c.in-Some.ensures.freed.1 in
    some_held c.self.inside.tree c.free.new.self c.self.inside.space c.args.key.now c.self.inside.held_count c.self.inside.gap_count
    c.self.inside.free_len c.in-Some.joined c.self.invariant k

pub overflow_sub-self-2 : goal.overflow_sub-self-2
overflow_sub-self-2 c =
    let k = frees_one c.self.inside.tree c.free.new.self c.args.key.now c.in-Some.joined c.self.invariant.tree c.in-Some.ensures.freed.0
    c.in-Some.ensures.freed.1 in
    joined_fits c.self.inside.tree c.free.new.self c.self.inside.space c.args.key.now c.self.inside.held_count c.self.inside.gap_count
    c.self.inside.free_len c.in-Some.joined c.self.invariant k

pub overflow_add-self : goal.overflow_add-self
overflow_add-self c = omega (
  arith,
  gaps_fit c.self.inside.tree c.self.inside.space c.self.inside.held_count c.self.inside.gap_count
      c.self.inside.free_len c.self.invariant,
)

pub overflow_add-self-2 : goal.overflow_add-self-2
overflow_add-self-2 c =
    let k = frees_one c.self.inside.tree c.free.new.self c.args.key.now c.in-Some.joined c.self.invariant.tree c.in-Some.ensures.freed.0
    c.in-Some.ensures.freed.1 in
    omega (
      arith,
      c.len.ensures,
      freed_fits c.self.inside.tree c.free.new.self c.self.inside.space c.args.key.now c.self.inside.held_count
          c.self.inside.gap_count c.self.inside.free_len c.in-Some.joined c.self.invariant k,
    )

pub invariant_of-self-2 : goal.invariant_of-self-2
invariant_of-self-2 c =
    let k = frees_one c.self.inside.tree c.free.new.self c.args.key.now c.in-Some.joined c.self.invariant.tree c.in-Some.ensures.freed.0
    c.in-Some.ensures.freed.1 in
    freed_counted c.self.inside.tree c.free.new.self c.self.inside.space c.args.key.now c.self.inside.held_count c.self.inside.gap_count
    c.self.inside.free_len c.in-Some.joined c.self.invariant k c.len.result c.len.ensures

pub returns-clause-answer : goal.returns-clause-answer
returns-clause-answer c =
    let k = frees_one c.self.inside.tree c.free.new.self c.args.key.now c.in-Some.joined c.self.invariant.tree c.in-Some.ensures.freed.0
    c.in-Some.ensures.freed.1 in
    rw (← c.self.view_is) (frees_held c.self.inside.tree c.free.new.self c.args.key.now k.held
    (freed_state c.self.inside.tree c.free.new.self c.self.inside.space c.args.key.now c.self.inside.held_count c.self.inside.gap_count
    c.self.inside.free_len c.in-Some.joined c.self.invariant k))

pub returns-clause-state : goal.returns-clause-state
returns-clause-state c =
    let k = frees_one c.self.inside.tree c.free.new.self c.args.key.now c.in-Some.joined c.self.invariant.tree c.in-Some.ensures.freed.0
    c.in-Some.ensures.freed.1 in
    state_of_tree c.free.new.self (freed_counted c.self.inside.tree c.free.new.self c.self.inside.space c.args.key.now
    c.self.inside.held_count c.self.inside.gap_count c.self.inside.free_len c.in-Some.joined c.self.invariant k c.len.result
    c.len.ensures).tree
