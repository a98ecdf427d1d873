-- The results of creating an allocator, and the state of a new one.
use Rattle.std.proofs.Common.{List, Result, ⊎_elim, subst, ◌≡◌, ℕ, ◌+◌, ◌-◌, ◌<◌, ◌≤◌, [], ◌∷◌, refl, ap, ◌∙◌, arith, inl, inr, Option, None, Ok, Err}
use Rattle.vm_ranges.specs.Range.{Range, MAX, span}
use Rattle.vm_ranges.specs.Answer.{Makes}
use Rattle.vm_ranges.specs.Address.{AddressState}
use Rattle.vm_ranges.specs.declared.error.Error.{Error}
use Rattle.vm_space.specs.Shape.{Shape, blocks}
use Rattle.vm_addresses.specs.Allocator.{space_of, state_of}
use Rattle.vm_addresses.proofs.Trees.HeldTrees.{held_made}
use Rattle.vm_addresses.specs.Held.{BySpace, MakesSpace, MakesHeld, MakesWithHeld, HasFaultIndex, fault_index}
use Rattle.vm_leaf.specs.SpaceBlocks.{blocks_state, TilesSpace, IsTiling}
use Rattle.vm_ranges.specs.declared.error.Error.TheVariants.{Overflow, Underflow, OutOfMemory}
use Rattle.vm_ranges.specs.declared.state.NodeState.TheVariants.{Free}

pub tiles_space : (sp : Range) → sp.start ≤ sp.end → IsTiling sp (record { key = sp; state = Free } ∷ [])
unfolding TilesSpace
tiles_space sp l = record { tiles = (refl, l, tt, refl); below = tt }

-- ---- The space
pub no_space : (base size : ℕ) → size ≡ 0 → MakesSpace base size (Err Underflow)
unfolding BySpace
no_space base size e = inl (e, refl)

pub space_past : (base size : ℕ) → 0 < size → MAX < base + (size - 1) → MakesSpace base size (Err Overflow)
unfolding BySpace
space_past base size z o = inr (λ e. omega arith, inl (omega arith, refl))

pub space_made : (base size : ℕ) (sp : Range) → 0 < size → base + (size - 1) ≤ MAX → sp ≡ record { start = base; end = base + (size - 1) } →
    MakesSpace base size (Ok sp)
unfolding BySpace
space_made base size sp z o e =
    let last : base + (size - 1) ≡ base + size - 1 = omega arith in
    inr (λ e. omega arith, inr (λ e. omega arith, ap (λ (v : Range). Ok v) (e ∙ ap (λ (v : ℕ). record { start = base; end = v }) last)))

-- ---- An allocator of the space
pub new_refused : (base size : ℕ) (e : Error) → MakesSpace base size (Err e) → Makes base size (Err e)
unfolding BySpace Makes
new_refused base size e s =
    ⊎_elim
    (λ l. inl (l.0, cc (l.1)))
    (λ r. ⊎_elim (λ l. inr (r.0, inl (l.0, cc (l.1)))) (λ k. absurd (cc (k.1))) r.1)
    s

pub new_memory : (base size : ℕ) (sp : Range) → MakesSpace base size (Ok sp) → Makes base size (Err OutOfMemory)
unfolding BySpace Makes
new_memory base size sp s =
    ⊎_elim
    (λ l. absurd (cc (l.1)))
    (λ r. ⊎_elim (λ l. absurd (cc (l.1))) (λ k. inr (r.0, inr (k.0, inr refl))) r.1)
    s

pub new_made : (base size : ℕ) (sp : Range) → MakesSpace base size (Ok sp) →
    Makes base size (Ok (blocks_state sp (record { key = sp; state = Free } ∷ [])))
unfolding BySpace Makes
new_made base size sp s =
    ⊎_elim
    (λ l. absurd (cc (l.1)))
    (λ r. ⊎_elim
    (λ l. absurd (cc (l.1)))
    (λ k. let e : sp ≡ span base size = cc (k.1) in inr
    (r.0, inr (k.0, inl (ap (λ (v : Range). Ok (blocks_state v (record { key = v; state = Free } ∷ []))) e))))
    r.1)
    s

-- ---- An allocator of the space with some ranges held
-- A fact about the space, or about the error if there is none.
by_space : (base size : ℕ) (sp : Range) (refused : Error → Type 0) (makes : Range → Type 0) → MakesSpace base size (Ok sp) → makes sp →
    BySpace base size refused makes
unfolding BySpace
by_space base size sp refused makes s h =
    ⊎_elim
    (λ l. absurd (cc (l.1)))
    (λ r. ⊎_elim (λ l. absurd (cc (l.1))) (λ k. let e : sp ≡ span base size = cc (k.1) in inr (r.0, inr (k.0, subst makes e h))) r.1)
    s

by_error : (base size : ℕ) (e : Error) (refused : Error → Type 0) (makes : Range → Type 0) → MakesSpace base size (Err e) → refused e →
    BySpace base size refused makes
unfolding BySpace
by_error base size e refused makes s h =
    ⊎_elim
    (λ l. let same : e ≡ Underflow = cc (l.1) in inl (l.0, subst refused same h))
    (λ r. ⊎_elim (λ l. let same : e ≡ Overflow = cc (l.1) in inr (r.0, inl (l.0, subst refused same h))) (λ k. absurd (cc (k.1))) r.1)
    s

pub over_space : (base size : ℕ) (sp : Range) (held : List Range) (answer : Result AddressState Error) → MakesSpace base size (Ok sp) →
    MakesHeld sp held answer → MakesWithHeld base size held answer
over_space base size sp held answer s h = by_space base size sp (λ e. answer ≡ Err e) (λ v. MakesHeld v held answer) s h

pub without_space : (base size : ℕ) (held : List Range) (e : Error) → MakesSpace base size (Err e) → MakesWithHeld base size held (Err e)
without_space base size held e s = by_error base size e (λ f. Err e ≡ Err f) (λ v. MakesHeld v held (Err e)) s refl

pub index_over_space : (base size : ℕ) (sp : Range) (held : List Range) (index : Option ℕ) → MakesSpace base size (Ok sp) →
    index ≡ fault_index 0 sp.start sp.end held → HasFaultIndex base size held index
index_over_space base size sp held index s h = by_space base size sp (λ _. index ≡ None) (λ v. index ≡ fault_index 0 v.start v.end held) s h

pub no_index : (base size : ℕ) (held : List Range) (index : Option ℕ) (e : Error) → MakesSpace base size (Err e) → index ≡ None →
    HasFaultIndex base size held index
no_index base size held index e s none = by_error base size e (λ _. index ≡ None) (λ v. index ≡ fault_index 0 v.start v.end held) s none

-- The space of a tree is the one that it was made for.
pub space_of_made : (space : Range) (held : List Range) (s : Shape) → MakesHeld space held (Ok (state_of s)) → space_of (blocks s) ≡ space
space_of_made space held s m = ap (λ (v : AddressState). v.space) (held_made space held (state_of s) m)

pub ruleset making_held = (no_space, space_past, space_made, over_space, without_space, index_over_space, no_index, space_of_made)

pub ruleset making = (no_space, space_past, space_made, new_refused, new_memory, new_made, tiles_space)
