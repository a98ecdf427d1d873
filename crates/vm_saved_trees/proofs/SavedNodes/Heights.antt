-- The numbers of nodes of saved trees, by their heights.
use Rattle.std.proofs.Common.{◌≡◌, ℕ, ◌+◌, ◌*◌, ◌^◌, ◌<◌, ◌≤◌, max, zero, suc, length, refl, arith, length-append, ⊎_elim}
use Rattle.std.proofs.lemmas.Bool.{cases_lt}
use Rattle.std.proofs.Math.Nat.{pow-suc}
use Rattle.vm_leaf.specs.TreeHeights.{IsLowestHeight, MAX_HEIGHT}
use Rattle.vm_saved_trees.specs.NodeTree.{NodeTree, Tip, Fork, node_blocks, node_height}

-- The number of nodes.
abbrev pub number_of_nodes : NodeTree → ℕ
number_of_nodes Tip = 0
number_of_nodes (Fork l b r) = number_of_nodes l + number_of_nodes r + 1

pub power_grows : (a b : ℕ) → a ≤ b → 2 ^ a ≤ 2 ^ b
power_grows a zero p = let e : a ≡ 0 = omega arith in rw e (omega arith)
power_grows a (suc b) p =
    ⊎_elim
    (λ (c : a < suc b). omega (arith, power_grows a b (omega arith), pow-suc 2 b))
    (λ (c : suc b ≤ a). let e : a ≡ suc b = omega arith in rw e (omega arith))
    (cases_lt a (suc b))

pub most_nodes : (s : NodeTree) → number_of_nodes s + 1 ≤ 2 ^ node_height s
most_nodes Tip = omega arith
most_nodes (Fork l b r) =
    let m = max (node_height l) (node_height r) in
    let e : m + 1 ≡ suc m = omega arith in
    let p : 2 ^ (m + 1) ≡ 2 ^ m * 2 = rw e (pow-suc 2 m) in
    omega (arith, p, most_nodes l, most_nodes r, power_grows (node_height l) m (omega arith), power_grows (node_height r) m (omega arith))

pub node_count-blocks : (s : NodeTree) → number_of_nodes s ≡ length (node_blocks s)
node_count-blocks Tip = refl
node_count-blocks (Fork l b r) = simp length-append (omega (arith, node_count-blocks l, node_count-blocks r))

-- A tree of the maximum height has fewer than 2 ^ MAX_HEIGHT blocks.
pub few_in_tree : (s : NodeTree) → node_height s ≤ MAX_HEIGHT → length (node_blocks s) < 2 ^ MAX_HEIGHT
few_in_tree s h = omega (arith, node_count-blocks s, most_nodes s, power_grows (node_height s) MAX_HEIGHT h)

-- The heights of two halves differ by at most one.
pub not_above : (a b g h : ℕ) → a ≤ b → IsLowestHeight a g → IsLowestHeight b h → g ≤ h
not_above a b g h l p q =
    ⊎_elim
    (λ (c : h < g). let e = pow-suc 2 h in let f = power_grows (suc h) g (omega arith) in let x = p.1 in let y = q.0 in absurd
    (omega arith))
    (λ (c : g ≤ h). c)
    (cases_lt h g)

pub at_most_one : (a b g h : ℕ) → a ≤ b + 1 → IsLowestHeight a g → IsLowestHeight b h → g ≤ h + 1
at_most_one a b g h l p q =
    ⊎_elim
    (λ (c : h + 1 < g).
    let e = pow-suc 2 h in
    let e2 = pow-suc 2 (suc h) in
    let f = power_grows (suc (suc h)) g (omega arith) in let x = p.1 in let y = q.0 in absurd (omega arith))
    (λ (c : g ≤ h + 1). c)
    (cases_lt (h + 1) g)

-- A node over them is one higher.
pub height_above : (n a g : ℕ) → a + a ≤ n → n ≤ a + a + 1 → 0 < n → IsLowestHeight a g → IsLowestHeight n (suc g)
height_above n a zero l m z p = let x = p.1 in let e = pow-suc 2 0 in (omega arith, omega arith)
height_above n a (suc g) l m z p = let e = pow-suc 2 g in let f = pow-suc 2 (suc g) in let x = p.0 in let y = p.1 in
    (omega arith, omega arith)
