-- The lowest keys of leaves rise.
use Rattle.std.proofs.Common.{ℕ, ◌<◌, ◌≤◌, List, [], ◌∷◌, length, arith}
use Rattle.vm_tree.specs.Subtree.{AllOf}
use Rattle.vm_tree.specs.Between.{Rise}
use Rattle.vm_list.specs.Leaves.{items_of, lowest_key, leaf_entry, IsEnough, AreLeaves}
use Rattle.vm_list.proofs.Lows.{lowest_of}
use Rattle.vm_list.proofs.Falls.{Falls, AreOver, falls, falls_left, falls_over, all_left, all_right, all_weaker}

module _ {X : Type 0} (key : X → ℕ) where
  from : (z : ℕ) (ds : List (List X)) → AllOf (λ x. z < key x) (items_of ds) → AllOf IsEnough ds → AllOf (λ d. z < lowest_key key d) ds
  from z [] a e = tt
  from z (d ∷ ds) a e = (
    lowest_of key (λ k. z < k) d e.0 (all_right (λ x. z < key x) (items_of ds) d a),
    from z ds (all_left (λ x. z < key x) (items_of ds) d a) e.1,
  )

  above_all : (c : List X) (xs : List X) → 0 < length c → AreOver key xs c → AllOf (λ x. lowest_key key c < key x) xs
  above_all c xs l o = all_weaker (λ x. AllOf (λ y. key y < key x) c) (λ x. lowest_key key c < key x) (λ x a. lowest_of key (λ k. k < key x) c l a) xs o

  full : (cs : List (List X)) → Falls key (items_of cs) → AllOf IsEnough cs → Rise (leaf_entry key) cs
  full [] f e = tt
  full (c ∷ cs) f e = (
    from (lowest_key key c) cs (above_all c (items_of cs) e.0 (falls_over key (items_of cs) c f)) e.1,
    full cs (falls_left key (items_of cs) c f) e.1,
  )

  go : (cs : List (List X)) → Falls key (items_of cs) → (2 ≤ length cs → AllOf IsEnough cs) → Rise (leaf_entry key) cs
  go [] f e = tt
  go (c ∷ []) f e = (tt, tt)
  go (c ∷ d ∷ cs) f e = full (c ∷ d ∷ cs) f (e (omega arith))

  pub rising : (cs : List (List X)) → AreLeaves key cs → Rise (leaf_entry key) cs
  rising cs ok = go cs (falls key (items_of cs) ok.order) ok.filled
