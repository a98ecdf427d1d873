use Rattle.std.proofs.Common.{◌≡◌, ◌+◌, ◌-◌, ◌*◌, ◌^◌, ◌≤◌, ℕ, arith, ap, zero, suc}
use Rattle.std.proofs.Math.Nat.{pow-suc}
use Rattle.vm_space.proofs.spare.highest_with.Goals as goal

next_power : (n x : ℕ) → 1 ≤ n → x ≡ 12 * 5 ^ (n - 1) → x * 5 ≡ 12 * 5 ^ (n + 1 - 1)
next_power zero x l e = absurd (omega arith)
next_power (suc n) x l e =
    let p = pow-suc 5 n in
    let q : 5 ^ (suc n + 1 - 1) ≡ 5 ^ (suc n) = ap (λ k. 5 ^ k) (let e : suc n + 1 - 1 ≡ suc n = omega arith in e) in
    let r : 5 ^ (suc n - 1) ≡ 5 ^ n = ap (λ k. 5 ^ k) (let e : suc n - 1 ≡ n = omega arith in e) in
    omega (arith, e, p, q, r)

pub loop-least-preserved : goal.loop-least-preserved
loop-least-preserved c =
    let i = c.loop-least.invariant in
    (omega arith, omega (arith, i), next_power _ _ i.0 i.2, omega (arith, i, c.loop-least-test.true))
