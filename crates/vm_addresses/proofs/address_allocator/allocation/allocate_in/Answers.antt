-- The policy decides from which end the tree is searched. The prover does not distinguish the cases of the policy.
use Rattle.std.proofs.Common.{◌≡◌, ℕ, ◌-◌, sym, subst, arith}
use Rattle.vm_space.specs.Allocation.{window_of}
use Rattle.vm_space.specs.NodeCounts.{IsSearchCount}
use Rattle.vm_space.specs.Shape.{blocks, height_of, node_count}
use Rattle.vm_addresses.proofs.Placing.Requests.{fit_allocation}
use Rattle.vm_addresses.specs.Tree.Allocation.{policy_of}
use Rattle.vm_addresses.proofs.Trees.Ends.{space_range}
use Rattle.vm_addresses.proofs.address_allocator.allocation.allocate_in.Goals.{in-FirstMatch, in-LastMatch}
use Rattle.vm_addresses.proofs.address_allocator.allocation.allocate_in.Goals as goal

pub returns-clause-answer : goal.returns-clause-answer
returns-clause-answer c =
    let s = c.search_of-search.ensures in
    let tree = c.facts.ensures in
    let h = c.allocate_fit.ensures in
    let policy : c.args.constraint.now.policy ≡ policy_of c.match-policy.end = elim c.match-policy.branch
    [ in-FirstMatch w ↦ rw w.end-is (sym w.in-FirstMatch.ensures) | in-LastMatch w ↦ rw w.end-is (sym w.in-LastMatch.ensures) ] in
    let range = space_range c.args.space.now (blocks c.args.tree.now) c.requires.tiling.tiles tree.space.run.some in
    let q = c.search_of-search.result in
    let n : c.allocate_fit.new.count - c.args.count.now ≡ c.allocate_fit.new.count = omega (arith, c.requires.count) in
    let bounds = subst (λ (k : ℕ). IsSearchCount (window_of q) q.size q.alignment (height_of c.args.tree.now) (node_count c.args.tree.now)
    (blocks c.args.tree.now) k) n h.count in
    rw (c.with_error.ensures, ← s.split)
    (fit_allocation c.args.space.now c.args.tree.now c.allocate_fit.new.self c.requires.tiling.tiles range tree c.args.constraint.now
    c.search_of-search.result s.request s.search s.valid c.args.space.now c.allocate_fit.result h.unchanged c.allocate_fit.new.count
    c.match-policy.end policy h.answer bounds (λ n. omega (arith, h.path n, c.requires.count)))
