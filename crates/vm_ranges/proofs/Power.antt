-- A number with one bit is a power of two, and facts of its multiples.
use Rattle.std.proofs.Common.{◌≡◌, ℕ, ◌+◌, ◌-◌, ◌*◌, ◌/◌, ◌%◌, ◌^◌, ◌<◌, ◌≤◌, zero, suc, true, false, refl, sym, ap, ◌∙◌, arith, subst, bit_and, eq-eqb, ⊎_elim}
use Rattle.std.specs.Int.RustNames.{count_ones}
use Rattle.std.specs.Int.{is_power_of_two}
use Rattle.std.proofs.lemmas.Nat.{ones_cat, zero_from_ones, pow_pos, and_mask, and-not, pow_below, and_comm, div-add-mod', mul-le, mod_below}
use Rattle.std.proofs.lemmas.Bool.{eqb-true, cases_lt}
use Rattle.std.proofs.Math.Nat.{pow-suc, mul-add-mod_self_right, add-mul, zero-mod}
use Rattle.vm_ranges.specs.Alignment.{IsAlignment, IsHighestMultiple, IsLowestMultiple}

ones_of_zero : count_ones 0 ≡ 0
unfolding count_ones
ones_of_zero = refl

ones_of_one : count_ones 1 ≡ 1
unfolding count_ones
ones_of_one = refl

-- The lowest bit of n is r, and the other bits are those of a.
last_bit : (w n a r : ℕ) → (a < 2 ^ w → count_ones a ≡ 1 → (k : ℕ) × (k < w) × (a ≡ 2 ^ k)) → n ≡ a * 2 + r → n < 2 ^ suc w →
    count_ones n ≡ 1 → r < 2 → (k : ℕ) × (k < suc w) × (n ≡ 2 ^ k)
last_bit w n a zero rest e p c s =
    let ones : count_ones n ≡ count_ones a + count_ones 0 = ap count_ones e ∙ ones_cat 1 a 0 (omega arith) in
    let one : count_ones a ≡ 1 = omega (arith, ones_of_zero) in
    let f = rest (omega (arith, pow-suc 2 w)) one in
    (suc f.0, omega (arith, f.1), omega (arith, f.2, pow-suc 2 f.0))
last_bit w n a (suc zero) rest e p c s =
    let ones : count_ones n ≡ count_ones a + count_ones 1 = ap count_ones e ∙ ones_cat 1 a 1 (omega arith) in
    let none : count_ones a ≡ 0 = omega (arith, ones_of_one) in
    let z : a ≡ 0 = zero_from_ones a none in
    (0, omega arith, omega arith)
last_bit w n a (suc (suc r)) rest e p c s = absurd (omega arith)

-- A number of w bits with exactly one bit set is a power of two.
one_bit : (w n : ℕ) → n < 2 ^ w → count_ones n ≡ 1 → (k : ℕ) × (k < w) × (n ≡ 2 ^ k)
one_bit zero n p e =
    let z : n ≡ 0 = omega arith in
    let f : count_ones 0 ≡ 1 = ap count_ones (sym z) ∙ e in absurd (omega (arith, ones_of_zero))
one_bit (suc w) n p e = last_bit w n (n / 2) (n % 2) (one_bit w (n / 2)) (omega arith) p e (omega arith)

-- A power of two has one bit.
pow_one_bit : (k : ℕ) → count_ones (2 ^ k) ≡ 1
pow_one_bit zero = ones_of_one
pow_one_bit (suc k) =
    let e : 2 ^ suc k ≡ 2 ^ k * 2 + 0 = omega (arith, pow-suc 2 k) in
    ap count_ones e ∙ ones_cat 1 (2 ^ k) 0 (omega arith) ∙ omega (arith, pow_one_bit k, ones_of_zero)

-- The test for a power of two is true only for alignments.
pub alignment_if_true : (a : ℕ) → a < 2 ^ 64 → is_power_of_two a ≡ true → IsAlignment a
unfolding IsAlignment
alignment_if_true a p e = one_bit 64 a p (eqb-true (count_ones a) 1 e)

-- The test for a power of two is false only for numbers that are no alignment.
pub no_alignment_if_false : (a : ℕ) → is_power_of_two a ≡ false → ¬ IsAlignment a
unfolding IsAlignment
no_alignment_if_false a e h =
    let one : count_ones a ≡ 1 = ap count_ones h.2 ∙ pow_one_bit h.0 in
    let t : is_power_of_two a ≡ true = eq-eqb (count_ones a) 1 one in
    cc

-- An alignment is not 0.
pub alignment_pos : (a : ℕ) → IsAlignment a → 0 < a
unfolding IsAlignment
alignment_pos a h = omega (arith, h.2, pow_pos h.0)

-- An alignment has at most 64 bits.
pub alignment_below : (a : ℕ) → IsAlignment a → a < 2 ^ 64
unfolding IsAlignment
alignment_below a h = omega (arith, h.2, pow_below h.0 64 h.1)

-- The bits below an alignment are the remainder.
pub low_bits : (x a : ℕ) → IsAlignment a → bit_and x (a - 1) ≡ x % a
unfolding IsAlignment
low_bits x a h = subst (λ (v : ℕ). bit_and x (v - 1) ≡ x % v) (sym h.2) (and_mask x h.0)

-- The mask removes the remainder.
pub masked : (x a : ℕ) → x < 2 ^ 64 → IsAlignment a → bit_and x (18446744073709551615 - (a - 1)) ≡ x - x % a
unfolding IsAlignment
masked x a p h =
    let low = low_bits x a h in
    let both : bit_and (18446744073709551615 - (a - 1)) x + bit_and (a - 1) x
    ≡ x = and-not 64 (a - 1) x (omega (arith, alignment_below a h)) p in
    and_comm x (18446744073709551615 - (a - 1)) ∙ omega (arith, both, low, and_comm (a - 1) x)

-- The distance of two multiples of a is at least a.
pub gap : (a m r : ℕ) → m % a ≡ 0 → r % a ≡ 0 → m < r → m + a ≤ r
gap a m r p q l =
    let em : m / a * a + m % a ≡ m = div-add-mod' m a in
    let er : r / a * a + r % a ≡ r = div-add-mod' r a in
    ⊎_elim
    (λ (h : m / a < r / a). let k : (m / a + 1) * a
    ≤ r / a * a = mul-le (m / a + 1) a (r / a) a (omega arith) (omega arith) in omega (arith, add-mul (m / a) 1 a))
    (λ (h : r / a ≤ m / a). let k : r / a * a ≤ m / a * a = mul-le (r / a) a (m / a) a h (omega arith) in absurd (omega arith))
    (cases_lt (m / a) (r / a))

-- A number without its remainder is a multiple.
pub less_remainder : (a x : ℕ) → (x - x % a) % a ≡ 0
less_remainder a x =
    let e : x / a * a + x % a ≡ x = div-add-mod' x a in
    let d : x - x % a ≡ x / a * a + 0 = omega arith in
    ap (λ (v : ℕ). v % a) d ∙ mul-add-mod_self_right (x / a) a 0 ∙ zero-mod a

-- The highest multiple up to x is x without its remainder.
pub highest_multiple : (a x : ℕ) → 0 < a → IsHighestMultiple a x (x - x % a)
unfolding IsHighestMultiple
highest_multiple a x z =
    let low : x % a < a = mod_below x a z in
    let d = less_remainder a x in (
      d,
      omega arith,
      λ m p q.
          ⊎_elim (λ (h : x - x % a < m). let g = gap a (x - x % a) m d p h in absurd (omega arith)) (λ (h : m ≤ x - x % a). h)
          (cases_lt (x - x % a) m),
    )

-- Rounding x up is rounding x + (a - 1) down.
pub lowest_multiple : (a x r : ℕ) → 0 < a → IsHighestMultiple a (x + (a - 1)) r → IsLowestMultiple a x r
unfolding IsHighestMultiple IsLowestMultiple
lowest_multiple a x r z h =
    let y = x + (a - 1) in
    let low : y % a < a = mod_below y a z in
    let up : y - y % a ≤ r = h.2 (y - y % a) (less_remainder a y) (omega arith) in (
      h.0,
      omega arith,
      λ m p q.
          ⊎_elim (λ (g : m < r). let k = gap a m r p h.0 g in absurd (omega (arith, h.1))) (λ (g : r ≤ m). g) (cases_lt m r),
    )
