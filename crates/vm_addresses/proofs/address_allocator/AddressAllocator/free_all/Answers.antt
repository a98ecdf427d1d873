-- Each turn undoes the last allocation that is left. The prover does not name the requests of the allocations that are left.
use Rattle.std.proofs.Common.{◌≡◌, ◌∙◌, ◌++◌, ◌-◌, ℕ, ap, take, subst, List, []}
use Rattle.vm_ranges.specs.Range.{Range}
use Rattle.vm_addresses.specs.Allocator.{state_of}
use Rattle.vm_addresses.specs.Several.{AllocatesEach}
use Rattle.vm_addresses.proofs.Results.Several.{last_undone, none_given}
use Rattle.vm_addresses.proofs.address_allocator.AddressAllocator.free_all.Goals as goal

pub loop-range-init : goal.loop-range-init
loop-range-init c = record {
  left = λ before requests i e. (requests, e);
}

pub loop-range-preserved : goal.loop-range-preserved
loop-range-preserved c = record {
  left = λ before requests i e.
      let l = c.loop-range.invariant.left before requests i e in
      let s = subst (λ (v : List Range). AllocatesEach before l.0 v (state_of c.loop-range.self)) c.in-Some.ensures.items l.1 in
      last_undone c.pop.new.self.items l.0 before (state_of c.loop-range.self) (state_of c.free.new.self) c.in-Some.range c.free.result
      i s c.free.ensures.answer;
}

pub returns : goal.returns
returns c = record {
  state = λ before requests i e.
      let l = c.loop-range.invariant.left before requests i e in
      let none : c.loop-range.ranges.items ≡ [] = c.in_default.ensures.items
      ∙ ap (λ (v : List Range). v ++ [])
      (c.in_default.ensures.rest ∙ ap (λ (n : ℕ). take (n - 1) c.loop-range.ranges.items) c.in_default.ensures.cases.0) in
      none_given l.0 before (state_of c.loop-range.self)
      (subst (λ (v : List Range). AllocatesEach before l.0 v (state_of c.loop-range.self)) none l.1);
}
