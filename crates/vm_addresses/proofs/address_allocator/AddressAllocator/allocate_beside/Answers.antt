-- The limit of splits leaves out one range, which will be freed. The prover does not split the test of the limit in two cases.
use Rattle.std.proofs.Common.{◌≡◌, ◌-◌, ◌<◌, ◌≤◌, ℕ, length, leb, arith, ⊎_elim, Result}
use Rattle.std.proofs.lemmas.Bool.{cases_lt, le-leb, lt-leb}
use Rattle.vm_ranges.specs.Cases.{IsTestOf}
use Rattle.vm_ranges.specs.Range.{Range}
use Rattle.vm_ranges.specs.Request.{Request}
use Rattle.vm_ranges.specs.declared.error.Error.{Error}
use Rattle.vm_ranges.specs.Address.{AddressState}
use Rattle.vm_addresses.specs.Allocator.{state_of}
use Rattle.vm_ranges.specs.Answer.{SPLIT_LIMIT_MIN_HELD, Grants}
use Rattle.vm_addresses.proofs.address_allocator.AddressAllocator.allocate_beside.Goals as goal

-- The test of the limit for one range less.
limit_tested : (held n : ℕ) → held ≡ n → 0 < n → IsTestOf (leb held SPLIT_LIMIT_MIN_HELD) (n - 1 < SPLIT_LIMIT_MIN_HELD)
limit_tested held n e z =
    ⊎_elim
    (λ (l : SPLIT_LIMIT_MIN_HELD < held). rw (lt-leb held SPLIT_LIMIT_MIN_HELD l) (λ k. omega (arith, k, l, e)))
    (λ (l : held ≤ SPLIT_LIMIT_MIN_HELD). rw (le-leb held SPLIT_LIMIT_MIN_HELD l) (omega (arith, l, e, z)))
    (cases_lt SPLIT_LIMIT_MIN_HELD held)

granted : (held : ℕ) (old new : AddressState) (request : Request) (answer : Result Range Error) → held ≡ length old.held → 0 < length old.held →
    ((counted : ℕ) → IsTestOf (leb held SPLIT_LIMIT_MIN_HELD) (counted < SPLIT_LIMIT_MIN_HELD) → Grants counted old request answer new) →
    Grants (length old.held - 1) old request answer new
granted held old new request answer e some h = h (length old.held - 1) (limit_tested held (length old.held) e some)

pub returns-clause-grants : goal.returns-clause-grants
returns-clause-grants c =
    granted c.self.inside.held_count (state_of c.args.self.now) (state_of c.allocate_with.new.self) c.args.request c.allocate_with.result.0
    (rw (← c.self.view_is) c.self.invariant.held_count) c.requires c.allocate_with.ensures.grants
