-- The members of a set of numbers, and of the set after a number is inserted or removed.
use Rattle.std.proofs.Common.{◌≡◌, ℕ, Bool, true, false, not, refl, sym, ap, ◌∙◌, IsTrue}
use Rattle.std.proofs.lemmas.Bool.{both_ways, and_parts, and_from, or_left, or_right, not-true, eq-eqb, eqb-true, ne_eqb}
use Rattle.std.specs.Ordering.{nat_cmp, eq_by_cmp}
use Rattle.std.specs.Cmp.{nat_cmp_total, unsigned_tied}
use Rattle.std.specs.FinSet as set

-- A number is tied with itself.
pub tied_here : (i : ℕ) → eq_by_cmp nat_cmp i i ≡ true
tied_here i = unsigned_tied i i ∙ eq-eqb i i refl

-- Numbers that are tied are equal.
pub tied_is : (i j : ℕ) → eq_by_cmp nat_cmp i j ≡ true → i ≡ j
tied_is i j e = eqb-true i j (sym (unsigned_tied i j) ∙ e)

-- Different numbers are not tied.
pub apart_not_tied : (i j : ℕ) → (i ≡ j → ⊥) → eq_by_cmp nat_cmp i j ≡ false
apart_not_tied i j ne = unsigned_tied i j ∙ ne_eqb i j ne

-- Two tests that follow from each other are equal.
pub same_test : (a b : Bool) → (a ≡ true → b ≡ true) → (b ≡ true → a ≡ true) → a ≡ b
same_test true b f g = sym (f refl)
same_test false true f g = g refl
same_test false false f g = refl

-- Sets with the same members are equal.
pub same_members : (s t : set.FinSet nat_cmp) → ((q : ℕ) → IsTrue (set.contains s q) → IsTrue (set.contains t q)) →
    ((q : ℕ) → IsTrue (set.contains t q) → IsTrue (set.contains s q)) → s ≡ t
same_members s t there back =
    set.same_set nat_cmp_total set.nat_cmp-IsAntisymmetric s t (λ q. same_test (set.contains s q) (set.contains t q) (there q) (back q))

-- A set contains a number that was inserted.
pub inserted_here : (s : set.FinSet nat_cmp) (k : ℕ) → IsTrue (set.contains (set.insert s k) k)
inserted_here s k = set.contains-insert nat_cmp_total s k k ∙ or_left _ _ (tied_here k)

-- A set contains its other members after a removal.
pub removed_other : (s : set.FinSet nat_cmp) (k q : ℕ) → (q ≡ k → ⊥) → IsTrue (set.contains s q) → IsTrue (set.contains (set.remove s k) q)
removed_other s k q ne h =
    set.contains-remove nat_cmp_total s k q ∙ and_from _ _ (ap not (apart_not_tied q k ne)) h

-- A member after a removal is a former member that was not removed.
pub from_removed : (s : set.FinSet nat_cmp) (k q : ℕ) → IsTrue (set.contains (set.remove s k) q) → (q ≡ k → ⊥) × IsTrue (set.contains s q)
from_removed s k q h =
    let parts = and_parts _ _ (sym (set.contains-remove nat_cmp_total s k q) ∙ h) in (
      λ e. both_ways (eq_by_cmp nat_cmp q k) (not-true _ parts.0) (ap (λ (x : ℕ). eq_by_cmp nat_cmp q x) (sym e) ∙ tied_here q),
      parts.1,
    )

-- Sets after a change.
