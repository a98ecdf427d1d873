-- Changes in the middle of a descending list, by conditions on indices.
use Rattle.std.proofs.Common.{◌≡◌, ℕ, ◌<◌, ◌≤◌, List, [], ◌∷◌, ◌++◌, arith, refl}
use Rattle.std.specs.List.{All}
use Rattle.std.specs.Option.{option_or}
use Rattle.vm_list.specs.Entries.{below, with_entry, without, entry_at, at_or_above, highest_below, above}
use Rattle.vm_list.proofs.Falls.{all_by, all_weaker}
use Rattle.vm_list.proofs.Mids.{below_mid, with_mid, without_mid, entry_mid, above_mid, under_mid}

module _ {X : Type 0} (key : X → ℕ) (t : ℕ) (pre c post : List X) (high : All (λ x. t < key x) pre) (low : All (λ x. key x < t) post) where
  -- The entry with the key is that of the middle part.
  pub entry_in : entry_at key t (pre ++ (c ++ post)) ≡ entry_at key t c
  entry_in = entry_mid key t pre c post (all_by (λ x. t < key x) pre high) (all_by (λ x. key x < t) post low)

  pub below_in : below key t (pre ++ (c ++ post)) ≡ below key t c ++ post
  below_in = below_mid key t pre c post (all_by (λ x. t < key x) pre high) (all_by (λ x. key x < t) post low)

  -- An entry is taken out of the middle part.
  pub without_in : without key t (pre ++ (c ++ post)) ≡ pre ++ (without key t c ++ post)
  without_in = without_mid key t pre c post (all_by (λ x. t < key x) pre high) (all_by (λ x. key x < t) post low)

-- An entry is put into the middle part.
pub with_in : {X : Type 0} (key : X → ℕ) (e : X) (pre c post : List X) → All (λ x. key e < key x) pre →
    All (λ x. key x < key e) post → with_entry key e (pre ++ (c ++ post)) ≡ pre ++ (with_entry key e c ++ post)
with_in key e pre c post high low =
    with_mid key (key e) pre c post (all_by (λ x. key e < key x) pre high) (all_by (λ x. key x < key e) post low) e refl

-- An entry that is put into an empty list.
pub with_nothing : {X : Type 0} (key : X → ℕ) (e : X) → with_entry key e [] ≡ e ∷ []
unfolding with_entry above below
with_nothing key e = refl

-- The lowest entry from the key on is in the middle part, or before it.
pub from_in : {X : Type 0} (key : X → ℕ) (t : ℕ) (pre c post : List X) → All (λ x. key x < t) post →
    at_or_above key t (pre ++ (c ++ post)) ≡ option_or (at_or_above key t c) (at_or_above key t pre)
from_in key t pre c post low = above_mid key t pre c post (all_by (λ x. key x < t) post low)

-- The highest entry below the key is in the middle part, or after it.
pub under_in : {X : Type 0} (key : X → ℕ) (t : ℕ) (pre c post : List X) → All (λ x. t < key x) pre →
    highest_below key t (pre ++ (c ++ post)) ≡ option_or (highest_below key t c) (highest_below key t post)
under_in key t pre c post high =
    under_mid key t pre c post (all_weaker (λ x. t < key x) (λ x. t ≤ key x) (λ x h. omega (arith, h)) pre (all_by (λ x. t < key x) pre high))
