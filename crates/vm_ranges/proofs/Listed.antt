-- A list of different things of a kind contains all of them if its length is their number.
use Rattle.std.proofs.Common.{◌≡◌, ◌≢◌, ℕ, ◌≤◌, Bool, true, false, List, ◌∷◌, length, sym, subst, arith, ⊎_elim}
use Rattle.std.proofs.lemmas.Bool.{cases_Bool, both_ways}
use Rattle.std.proofs.lemmas.List.Elements.{All-cons, Contains-get_or}
use Rattle.std.proofs.lemmas.List.Kept.{AllPairs-cons}
use Rattle.std.proofs.lemmas.Map.Made.{is_member-Decides}
use Rattle.std.specs.Bool.{Decides}
use Rattle.std.specs.List.{All, AllPairs, Contains, list_any}

-- No two elements are the same.
abbrev pub Differ : {K : Type 0} → List K → Type 0
Differ xs = AllPairs (λ x y. x ≢ y) xs

-- No list of different things of the kind is longer than this.
abbrev pub AreAtMost : {K : Type 0} → (K → Type 0) → ℕ → Type 0
AreAtMost {K} P most = (xs : List K) → Differ xs → All P xs → length xs ≤ most

module _ {K : Type 0} {eq : K → K → Bool} (tells : (x y : K) → Decides (eq x y) (x ≡ y)) where
  -- An element of the list is of the kind.
  pub listed_is : (P : K → Type 0) (xs : List K) (x : K) → All P xs → list_any (eq x) xs ≡ true → P x
  listed_is P xs x a m = let c = (is_member-Decides tells xs x).0 m in subst P c.2 (a c.0 x c.1)

  -- A thing that is not in the list would make the list too long.
  pub each_listed : (P : K → Type 0) (most : ℕ) → AreAtMost P most → (xs : List K) (x : K) → Differ xs → All P xs → length xs ≡ most → P x →
      Contains xs x
  each_listed P most few xs x d a e p =
      ⊎_elim
      (λ (m : list_any (eq x) xs ≡ true). (is_member-Decides tells xs x).0 m)
      (λ (n : list_any (eq x) xs ≡ false).
      let differ = AllPairs-cons (λ y z. y ≢ z) x xs
      (λ k b l q. both_ways _ n ((is_member-Decides tells xs x).1 (subst (Contains xs) (sym q) (Contains-get_or xs k b l)))) d in
      absurd (omega (arith, few (x ∷ xs) differ (All-cons P x xs p a), e)))
      (cases_Bool (list_any (eq x) xs))
