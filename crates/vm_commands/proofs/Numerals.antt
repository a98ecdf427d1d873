-- Numbers, digit by digit.
use Rattle.std.proofs.Common.{
  ◌≡◌,
  ℕ,
  ◌+◌,
  ◌-◌,
  ◌*◌,
  ◌^◌,
  ◌<◌,
  ◌≤◌,
  Bool,
  true,
  false,
  List,
  [],
  ◌∷◌,
  ◌++◌,
  length,
  take,
  get_or,
  Some,
  None,
  zero,
  suc,
  refl,
  sym,
  arith,
  length-take,
}
use Rattle.std.specs.List.{list_all}
use Rattle.std.proofs.lemmas.Bool.Decides.{nat_tests}
use Rattle.std.proofs.lemmas.List.{take_more}
use Rattle.std.proofs.lemmas.List.Sums.{prefix_len-le-length}
use Rattle.vm_commands.specs.Numbers.{value_from, is_digit, digit_zero, number_of}
use Rattle.vm_commands.specs.Reading.{leading_digits}

-- Values.

-- The value with one more digit.
value_push : (before digit : ℕ) (digits : List ℕ)
    → value_from before (digits ++ digit ∷ []) ≡ value_from before digits * 10 + (digit - digit_zero)
value_push before digit [] = refl
value_push before digit (first ∷ digits) = value_push (before * 10 + (first - digit_zero)) digit digits

-- The value with the digit at an index.
pub value_more : (text : List ℕ) (i : ℕ) → i < length text
    → value_from 0 (take (i + 1) text) ≡ value_from 0 (take i text) * 10 + (get_or text i 0 - digit_zero)
value_more text i h = rw (take_more text i 0 h) (value_push 0 (get_or text i 0) (take i text))

-- More digits have no smaller value.
value_grows : (text : List ℕ) (n k : ℕ) → n + k ≤ length text → value_from 0 (take n text) ≤ value_from 0 (take (n + k) text)
value_grows text n zero h = let all : n + 0 ≡ n = omega arith in rw all (omega arith)
value_grows text n (suc k) h =
    let step : n + suc k ≡ n + k + 1 = omega arith in
    rw step (omega (arith, value_grows text n k (omega (arith, h)), value_more text (n + k) (omega (arith, h))))

-- Digits at the beginning.

-- The first bytes are digits, up to the number of leading digits.
all_digits : (text : List ℕ) (n : ℕ) → n ≤ leading_digits text → list_all is_digit (take n text) ≡ true
all_digits text zero h = refl
all_digits [] (suc n) h = refl
all_digits (x ∷ xs) (suc n) h = step (is_digit x) refl (all_digits xs n)
  where
    step : (b : Bool) → is_digit x ≡ b → (n ≤ leading_digits xs → list_all is_digit (take n xs) ≡ true)
        → list_all is_digit (take (suc n) (x ∷ xs)) ≡ true
    step true e all = let rest : n ≤ leading_digits xs = omega (arith, rw e at h) in rw (e, all rest)
    step false e all = absurd (omega (arith, rw e at h))

-- The leading digits are within the text.
pub ahead_within : (text : List ℕ) → leading_digits text ≤ length text
ahead_within text = prefix_len-le-length is_digit text

-- Numbers.

-- The number of at most 20 digits, if its value fits.
pub number_is : (text : List ℕ) (n value : ℕ) → n ≤ leading_digits text → 0 < n → n ≤ 20 → value ≡ value_from 0 (take n text)
    → value < 2 ^ 64 → number_of (take n text) ≡ Some value
number_is text n value h some few is fits =
    let all = all_digits text n h in
    let long : length (take n text) ≡ n = omega (arith, length-take n text, prefix_len-le-length is_digit text) in
    rw (long, all, sym is) (grind (arith, nat_tests))

-- A text without digits is not a number.
pub number_none : (text : List ℕ) → number_of (take 0 text) ≡ None
number_none text = refl

-- Digits are not a number if the first of them have too large a value.
pub number_large : (text : List ℕ) (n : ℕ) → n ≤ leading_digits text → 2 ^ 64 ≤ value_from 0 (take n text)
    → number_of (take (leading_digits text) text) ≡ None
number_large text n h large =
    let k = leading_digits text - n in
    let all : n + k ≡ leading_digits text = omega arith in
    let more = value_grows text n k (omega (arith, ahead_within text)) in
    let same : value_from 0 (take (n + k) text) ≡ value_from 0 (take (leading_digits text) text) = rw all refl in
    let large : 2 ^ 64 ≤ value_from 0 (take (leading_digits text) text) = omega (arith, large, more, same) in
    grind (arith, nat_tests)
