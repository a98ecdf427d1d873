-- The place of a request in a gap.
use Rattle.std.proofs.Common.{◌≡◌, ℕ, ◌+◌, ◌-◌, ◌%◌, ◌<◌, ◌≤◌, ◌⊎◌, arith, refl, sym, ap, subst, Option, Some, None, ⊎_elim}
use Rattle.vm_ranges.specs.Range.{Range, IsRange, span}
use Rattle.vm_ranges.specs.Request.{Request, IsRequest, IsStartAligned, ByPolicy}
use Rattle.vm_ranges.specs.declared.constraint.AllocPolicy.{AllocPolicy}
use Rattle.vm_ranges.specs.declared.constraint.AllocPolicy.TheVariants.{FirstMatch, LastMatch, ExactMatch}
use Rattle.vm_leaf.specs.declared.block.Block.{Block}
use Rattle.vm_leaf.specs.Block.{free_block}
use Rattle.vm_leaf.specs.Fit.{HasNoFit, IsFit, IsLowestFit, IsHighestFit}
use Rattle.vm_ranges.specs.Windows.{part_in}
use Rattle.vm_addresses.specs.Checks.Moving.{FindsStart, FindsPlaceIn, part_for}
use Rattle.vm_addresses.proofs.Moving.LeftPlaces.{fit_parts}

-- ---- A start
abbrev StartsBy : AllocPolicy → ℕ → ℕ → Block → Option ℕ → Type 0
StartsBy policy n a b None =
    let none : Type 0 = HasNoFit n a b in
    ByPolicy policy none none (λ start. ¬ IsFit n a b start)
StartsBy policy n a b (Some s) =
    ByPolicy policy (IsLowestFit n a b s) (IsHighestFit n a b s) (λ start. (s ≡ start) × IsFit n a b s)

-- The start that is found is a fit.
fit_by : (policy : AllocPolicy) (n a s : ℕ) (b : Block) → StartsBy policy n a b (Some s) → IsFit n a b s
unfolding IsLowestFit IsHighestFit
fit_by FirstMatch n a s b h = h.0
fit_by LastMatch n a s b h = h.0
fit_by (ExactMatch t) n a s b h = h.1

pub start_fits : (b : Block) (request : Request) (s : ℕ) → FindsStart b request (Some s) → IsFit request.size request.align b s
start_fits b request s h = fit_by request.policy request.size request.align s b h

-- A start by its policy.
pub first_start : (b : Block) (request : Request) (found : Option ℕ) → request.policy ≡ FirstMatch →
    StartsBy FirstMatch request.size request.align b found → FindsStart b request found
first_start b request None e h = rw e h
first_start b request (Some s) e h = rw e h

pub last_start : (b : Block) (request : Request) (found : Option ℕ) → request.policy ≡ LastMatch →
    StartsBy LastMatch request.size request.align b found → FindsStart b request found
last_start b request None e h = rw e h
last_start b request (Some s) e h = rw e h

-- A start that is given lies in the block with its range, or does not.
pub no_exact_start : (low high t : ℕ) (request : Request) → request.policy ≡ ExactMatch t → 0 < request.size →
    (t < low) ⊎ (high < t) ⊎ (high - t < request.size - 1) → FindsStart (free_block (record { start = low; end = high })) request None
no_exact_start low high t request e z out = rw e (λ f.
    ⊎_elim (λ l. omega (arith, l, f.2)) (λ k. ⊎_elim (λ l. omega (arith, l, f.3, z)) (λ l. omega (arith, l, f.2, f.3, z)) k) out)

pub exact_start_in : (low high t : ℕ) (request : Request) → request.policy ≡ ExactMatch t → IsRequest request → low ≤ t → t ≤ high →
    request.size - 1 ≤ high - t → FindsStart (free_block (record { start = low; end = high })) request (Some t)
unfolding IsStartAligned
exact_start_in low high t request e valid l h fits =
    let aligned : t % request.align ≡ 0 = rw e at valid.start in
    rw e (refl, (refl, aligned, l, omega (arith, h, fits, valid.some)))

pub ruleset starting = (first_start, last_start, no_exact_start, exact_start_in)

-- ---- The range at the start
-- A start between the ends of the part of the gap in the window is one in this part.
pub start_in_part : (gap : Range) (request : Request) (w : Option Range) (low high : ℕ) (found : Option ℕ) → w ≡ request.window →
    part_in w gap ≡ record { start = low; end = high } → FindsStart (free_block (record { start = low; end = high })) request found →
    FindsStart (part_for request gap) request found
start_in_part gap request w low high found e p h =
    let q : part_in request.window gap ≡ record { start = low; end = high } = subst (λ (v : Option Range). part_in v gap ≡ record { start = low; end = high }) e p in
    subst (λ (v : Range). FindsStart (free_block v) request found) (sym q) h

-- The range at a fit in a gap is a range.
pub fit_range : (gap : Range) (request : Request) (s : ℕ) → IsRange gap.start gap.end → 0 < request.size →
    FindsStart (part_for request gap) request (Some s) → IsRange s (s + (request.size - 1))
fit_range gap request s range z h =
    let k = fit_parts request.window gap request.size request.align s (start_fits (part_for request gap) request s h) in
    omega (arith, k.1.0, k.1.1, z, range)

span_is : (s n : ℕ) → 0 < n → record { start = s; end = s + (n - 1) } ≡ span s n
span_is s n z = let k : s + (n - 1) ≡ s + n - 1 = omega (arith, z) in ap (λ (v : ℕ). record { start = s; end = v }) k

pub placed : (gap q : Range) (request : Request) (s : ℕ) → 0 < request.size → q ≡ record { start = s; end = s + (request.size - 1) } →
    FindsStart (part_for request gap) request (Some s) → FindsPlaceIn gap request (Some q)
placed gap q request s z e h = rw e (span_is s request.size z, h)

pub ruleset finding = (fit_range, placed)
