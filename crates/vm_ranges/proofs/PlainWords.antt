-- Recursive definitions, and their equivalents in the standard library.
use Rattle.std.proofs.Common.{◌≡◌, ℕ, ◌<◌, zero, suc, List, [], ◌∷◌, length, arith, inl, inr, ◌⊎◌, ⊎_elim, sym, subst}
use Rattle.std.specs.List.{All, Contains}
use Rattle.std.specs.Prelude.{slice_index_or}
use Rattle.std.proofs.lemmas.List.Elements.{All-head, All-tail, All-cons, All-nil}
use Rattle.vm_ranges.specs.Range.{Range, IsIn}

-- The address x lies in one of the ranges.
abbrev pub IsHeldAddress : List Range → ℕ → Type 0
IsHeldAddress [] x = ⊥
IsHeldAddress (r ∷ rs) x = IsIn r x ⊎ IsHeldAddress rs x

-- The range is in the list.
abbrev pub IsHeld : List Range → Range → Type 0
IsHeld [] r = ⊥
IsHeld (h ∷ hs) r = (h ≡ r) ⊎ IsHeld hs r

pub contains_held : (hs : List Range) (r : Range) → IsHeld hs r → Contains hs r
contains_held [] r h = absurd h
contains_held (x ∷ xs) r h = ⊎_elim (λ (e : x ≡ r). (0, omega arith, e))
    (λ (e : IsHeld xs r). let c = contains_held xs r e in (suc c.0, omega (arith, c.1), c.2)) h

held_contains_at : (hs : List Range) (r : Range) (k : ℕ) → k < length hs → slice_index_or hs k r ≡ r → IsHeld hs r
held_contains_at [] r k l e = absurd (omega arith)
held_contains_at (x ∷ xs) r zero l e = inl e
held_contains_at (x ∷ xs) r (suc k) l e = inr (held_contains_at xs r k (omega arith) e)

pub held_contains : (hs : List Range) (r : Range) → Contains hs r → IsHeld hs r
held_contains hs r c = held_contains_at hs r c.0 c.1 c.2

-- An address that is not held lies in no held range.
pub all_miss : (hs : List Range) (x : ℕ) → ¬ IsHeldAddress hs x → All (λ r. ¬ IsIn r x) hs
all_miss [] x h = All-nil (λ r. ¬ IsIn r x)
all_miss (r ∷ rs) x h = All-cons (λ r. ¬ IsIn r x) r rs (λ i. h (inl i)) (all_miss rs x (λ i. h (inr i)))

pub none_holds : (hs : List Range) (x : ℕ) → All (λ r. ¬ IsIn r x) hs → ¬ IsHeldAddress hs x
none_holds [] x a h = h
none_holds (r ∷ rs) x a h = ⊎_elim (All-head (λ r. ¬ IsIn r x) r rs a) (none_holds rs x (All-tail (λ r. ¬ IsIn r x) r rs a)) h

-- An address of a held range is a held address.
pub held_address : (hs : List Range) (r : Range) (x : ℕ) → IsHeld hs r → IsIn r x → IsHeldAddress hs x
held_address [] r x h i = h
held_address (y ∷ ys) r x h i =
    ⊎_elim (λ (e : y ≡ r). inl (subst (λ (v : Range). IsIn v x) (sym e) i)) (λ (e : IsHeld ys r). inr (held_address ys r x e i)) h
