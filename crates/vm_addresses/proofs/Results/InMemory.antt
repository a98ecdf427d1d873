-- A call has one result if memory suffices.
use Rattle.std.proofs.Common.{◌≡◌, ◌≢◌, ℕ, sym, ◌∙◌, inl, inr, ⊎_elim, Result, Err}
use Rattle.vm_ranges.specs.Range.{Range}
use Rattle.vm_ranges.specs.Address.{AddressState}
use Rattle.vm_ranges.specs.Request.{Request}
use Rattle.vm_ranges.specs.Answer.{Allocates, Makes}
use Rattle.vm_addresses.specs.Facts.{AgreeUnlessMemory}
use Rattle.vm_ranges.specs.declared.error.Error.{Error}
use Rattle.vm_ranges.specs.declared.error.Error.TheVariants.{OutOfMemory}
use Rattle.vm_ranges.proofs.TwoFacts.{if_same}
use Rattle.vm_addresses.proofs.Results.Once.{allocates_once}

-- Results that agree unless memory runs out are equal if it does not.
pub same_in_memory : {A : Type 0} (x y : Result A Error) (new later : AddressState) → x ≢ Err OutOfMemory → y ≢ Err OutOfMemory →
    AgreeUnlessMemory x new y later → (x ≡ y) × (new ≡ later)
same_in_memory x y new later p q (inl same) = same
same_in_memory x y new later p q (inr (inl e)) = absurd (p e)
same_in_memory x y new later p q (inr (inr e)) = absurd (q e)

-- So a request has one result and one next state.
pub placed_once : (old m n : AddressState) (request : Request) (x y : Result Range Error)
    → x ≢ Err OutOfMemory → y ≢ Err OutOfMemory
    → Allocates old request x m
    → Allocates old request y n → (x ≡ y) × (m ≡ n)
placed_once old m n request x y p q a b = same_in_memory x y m n p q (allocates_once old m n request x y a b)

-- Creating an allocator has one result, unless memory runs out.
pub made_once : (base size : ℕ) (x y : Result AddressState Error) → x ≢ Err OutOfMemory → y ≢ Err OutOfMemory
    → Makes base size x → Makes base size y → x ≡ y
unfolding Makes
made_once base size x y p q a b =
    if_same _ _ _ _ _ a b (λ u v. u ∙ sym v)
    (λ a b. if_same _ _ _ _ _ a b (λ u v. u ∙ sym v) (λ u v.
    ⊎_elim (λ e. ⊎_elim (λ f. e ∙ sym f) (λ f. absurd (q f)) v) (λ e. absurd (p e)) u))
