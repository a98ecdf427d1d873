-- The memory for the split of a gap is enough.
use Rattle.std.proofs.Common.{◌≡◌, ◌≢◌, ℕ, ◌-◌, ◌^◌, ◌≤◌, Option, Some, None, arith, inl, inr}
use Rattle.std.proofs.Math.Nat.{pow-le-pow_right}
use Rattle.std.proofs.lemmas.Bool.{cases_lt}
use Rattle.vm_tree.specs.Edits.{IsRefused}
use Rattle.vm_leaf.specs.Entries.{blocks_entry}
use Rattle.vm_space.specs.Exact.{IsFullAt}
use Rattle.vm_space.specs.Shape.{Shape, blocks, height_of}
use Rattle.vm_space.specs.Spares.{HasSpare}
use Rattle.vm_space.specs.Trees.{held_blocks, IsBlockTree}
use Rattle.vm_space.specs.declared.search.Search.{Search}

-- More nodes are enough.
pub more_spare : (k n m : ℕ) → n ≤ m → HasSpare k (Some n) → HasSpare k (Some m)
more_spare k n m l h =
    let p : 5 ^ (n - 1) ≤ 5 ^ (m - 1) = pow-le-pow_right {n = 5} (omega arith) {i = n - 1} {j = m - 1} (omega (arith, l)) in
    (omega (arith, l, h.0), omega (arith, p, h.1))

-- There is a node for each level of a tree.
pub spare_nodes : (s : Shape) (n : ℕ) → IsBlockTree s → HasSpare (held_blocks (blocks s)) (Some n) → height_of s ≤ n
spare_nodes s n t h =
    elim (cases_lt n (height_of s)) [
      | inr l ↦ omega (arith, l)
      | inl l ↦
          (let p = t.low.power (omega (arith, l, h.0)) in
          let m : 5 ^ (n - 1) ≤ 5 ^ (height_of s - 2) = pow-le-pow_right (omega arith) (omega (arith, l)) in
          absurd (omega (arith, p, m, h.1)))
    ]

-- So the memory is not what was missing.
pub not_missing : {L : Type 0} (search : Search) (t : ℕ) (s : Shape) (spare : Option ℕ) (leaf : Option L) (n : ℕ) → IsBlockTree s
    → ((k : ℕ) → HasSpare k spare → (leaf ≢ None) × HasSpare k (Some n)) → HasSpare (held_blocks (blocks s)) spare
    → (height_of s ≤ n → IsRefused blocks_entry t (λ l. IsFullAt search t l × (leaf ≡ None)) s.leaves) → ⊥
not_missing search t s spare leaf n b f h r =
    let g = f _ h in
    g.0 (r (spare_nodes s n b g.1)).refused.1
