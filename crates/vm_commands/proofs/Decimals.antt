-- The digits of a number, written from the last to the first before index 20 of an array.
use Rattle.std.proofs.Common.{
  ◌≡◌,
  ℕ,
  ◌+◌,
  ◌-◌,
  ◌/◌,
  ◌%◌,
  ◌^◌,
  ◌<◌,
  ◌≤◌,
  List,
  [],
  ◌∷◌,
  ◌++◌,
  length,
  take,
  drop,
  set,
  refl,
  sym,
  ap,
  arith,
  add-one,
  append_assoc,
  length-append,
  ◌∙◌,
  Bool,
  true,
  false,
  zero,
  suc,
  ◌&&◌,
  ◌==◌,
  ◌*◌,
  get_or,
  ⊎_elim,
}
use Rattle.std.specs.Fmt.{decimal}
use Rattle.std.proofs.lemmas.Fmt.{decimal_step, decimal_digit, decimal_nonempty, length-decimal-le}
use Rattle.std.proofs.Math.Seq.{take-append-add}
use Rattle.std.proofs.lemmas.Bool.{cases_lt}
use Rattle.std.proofs.lemmas.Bool.Decides.{nat_tests}
use Rattle.std.proofs.lemmas.List.{drop-set, take-take, length-take-le, length-drop, length-set}
use Rattle.vm_commands.specs.Printing.{digits_from}
use Rattle.vm_commands.specs.declared.buffer.TheConstants.{PAIRS}

-- A number of 64 bits has from 1 to 20 digits.
pub long : (n : ℕ) → n < 2 ^ 64 → length (decimal n) ≤ 20
long n fits = length-decimal-le 20 n (omega arith) (omega arith) fits

-- A number has at least one digit.
pub some_long : (n : ℕ) → n < 2 ^ 64 → 1 ≤ length (decimal n)
some_long n fits = decimal_nonempty n fits

-- A number of 32 bits has at most 10 digits.
pub short : (n : ℕ) → n < 2 ^ 32 → length (decimal n) ≤ 10
short n fits = length-decimal-le 10 n (omega arith) (omega arith) (omega arith)

-- A text, an id and one more byte, appended to a text.
pub id_behind : (old text named told all : List ℕ) (id last : ℕ) → id < 2 ^ 32 → named ≡ old ++ text → told ≡ named ++ decimal id
    → all ≡ told ++ last ∷ [] → length all ≤ length old + length text + 11
id_behind old text named told all id last fits a b c =
    omega (
      arith,
      ap length a,
      length-append old text,
      ap length b,
      length-append named (decimal id),
      short id fits,
      ap length c,
      length-append told (last ∷ []),
    )

-- One more digit before the others.
take_next : (n x : ℕ) (xs : List ℕ) → take (n + 1) (x ∷ xs) ≡ x ∷ take n xs
take_next n x xs = rw (add-one n) refl

-- The digit is written before the others in the array.
pub put : (start digit : ℕ) (digits : List ℕ) → 0 < start → start ≤ 20 → start ≤ length digits
    → digits_from (start - 1) (set digits (start - 1) digit) ≡ digit ∷ digits_from start digits
put start digit digits some within room =
    let back : start - 1 + 1 ≡ start = omega arith in
    let count : 20 - (start - 1) ≡ 20 - start + 1 = omega arith in
    rw (count, drop-set digits (start - 1) digit (omega arith), back) (take_next (20 - start) digit (drop start digits))

-- The last two digits of a number.
pair_step : (n : ℕ) → 100 ≤ n → n < 2 ^ 64
    → decimal n ≡ decimal (n / 100) ++ (48 + n % 100 / 10) ∷ (48 + n % 100 % 10) ∷ []
pair_step n h fits =
    let prefix : n / 10 / 10 ≡ n / 100 = omega arith in
    let tens : n / 10 % 10 ≡ n % 100 / 10 = omega arith in
    let ones : n % 10 ≡ n % 100 % 10 = omega arith in
    let first = decimal_step (n / 10) (omega arith) (omega arith) in
    decimal_step n (omega arith) fits
    ∙ ap (λ d. d ++ (48 + n % 10) ∷ []) first
    ∙ append_assoc (decimal (n / 10 / 10)) ((48 + n / 10 % 10) ∷ []) ((48 + n % 10) ∷ [])
    ∙ rw (prefix, tens, ones) refl

-- Two more digits are written before the digits in the array.
pub put_more : (n : ℕ) (more there text : List ℕ) → 100 ≤ n → n < 2 ^ 64
    → more ≡ (48 + n % 100 / 10) ∷ (48 + n % 100 % 10) ∷ there → decimal n ++ there ≡ text → decimal (n / 100) ++ more ≡ text
put_more n more there text h fits two e =
    rw two (sym (append_assoc (decimal (n / 100)) ((48 + n % 100 / 10) ∷ (48 + n % 100 % 10) ∷ []) there)
    ∙ ap (λ d. d ++ there) (sym (pair_step n h fits)) ∙ e)

-- The first two digits are written.
pub put_two : (n : ℕ) (more there text : List ℕ) → 10 ≤ n → n < 100 → more ≡ (48 + n / 10) ∷ (48 + n % 10) ∷ there
    → decimal n ++ there ≡ text → more ≡ text
put_two n more there text h below two e =
    let digits = decimal_step n h (omega arith) ∙ ap (λ d. d ++ (48 + n % 10) ∷ []) (decimal_digit (n / 10) (omega arith)) in
    two ∙ ap (λ d. d ++ there) (sym digits) ∙ e

-- The first digit is written.
pub put_one : (n start : ℕ) (digits text : List ℕ) → n < 10 → 0 < start → start ≤ 20 → start ≤ length digits
    → decimal n ++ digits_from start digits ≡ text → digits_from (start - 1) (set digits (start - 1) (48 + n)) ≡ text
put_one n start digits text h some within room e =
    put start (48 + n) digits some within room ∙ ap (λ d. d ++ digits_from start digits) (sym (decimal_digit n h)) ∙ e

-- Pairs of digits in a table.

-- A test is true for each number below the bound.
abbrev passes_below : (ℕ → Bool) → ℕ → Bool
passes_below test zero = true
passes_below test (suc n) = test n && passes_below test n

-- A test that is true below a bound is true for each number below it.
passes_at : (test : ℕ → Bool) (n k : ℕ) → passes_below test n ≡ true → k < n → test k ≡ true
passes_at test zero k e h = absurd (omega arith)
passes_at test (suc n) k e h = step (test n) (passes_below test n) refl refl (passes_at test n k)
  where
    step : (a b : Bool) → test n ≡ a → passes_below test n ≡ b → (passes_below test n ≡ true → k < n → test k ≡ true) → test k ≡ true
    step true true p q more = ⊎_elim (λ below. more q below) (λ from. let same : k ≡ n = omega arith in rw same p) (cases_lt k n)
    step true false p q more = absurd (let f = rw (p, q) at e in cc)
    step false b p q more = absurd (let f = rw p at e in cc)

-- The table has the two digits of each number below a hundred.
pub pairs_are : (k : ℕ) → k < 100 → (get_or PAIRS (k * 2) 0 ≡ 48 + k / 10) × (get_or PAIRS (k * 2 + 1) 0 ≡ 48 + k % 10)
pairs_are k h =
    let both = passes_at (λ n. (get_or PAIRS (n * 2) 0 == 48 + n / 10) && (get_or PAIRS (n * 2 + 1) 0 == 48 + n % 10)) 100 k refl h in
    (grind (arith, nat_tests), grind (arith, nat_tests))

-- Two digits are written, one after the other.
pub put_both : (start one ten : ℕ) (digits : List ℕ) → 1 < start → start ≤ 20 → start ≤ length digits
    → digits_from (start - 2) (set (set digits (start - 1) one) (start - 2) ten) ≡ ten ∷ one ∷ digits_from start digits
put_both start one ten digits some within room =
    let two : start - 1 - 1 ≡ start - 2 = omega arith in
    let first = put start one digits (omega arith) within room in
    let second = put (start - 1) ten (set digits (start - 1) one) (omega arith) (omega arith)
    (omega (arith, length-set digits (start - 1) one)) in
    rw two at second ∙ ap (λ d. ten ∷ d) first

-- The hundredth of a number has two digits less.
pub length_step : (n : ℕ) → 100 ≤ n → n < 2 ^ 64 → length (decimal n) ≡ length (decimal (n / 100)) + 2
length_step n h fits = ap length (pair_step n h fits) ∙ length-append (decimal (n / 100)) ((48 + n % 100 / 10) ∷ (48 + n % 100 % 10) ∷ [])

-- A number of 10 or more has at least two digits.
pub two_long : (n : ℕ) → 10 ≤ n → n < 2 ^ 64 → 2 ≤ length (decimal n)
two_long n h fits =
    let step = ap length (decimal_step n h fits) ∙ length-append (decimal (n / 10)) ((48 + n % 10) ∷ []) in
    omega (arith, step, decimal_nonempty (n / 10) (omega arith))

-- Twenty bytes are appended.
pub twenty_more : (bytes old digits : List ℕ) (total start : ℕ) → start ≤ 20 → length digits ≡ 40 → total ≤ length bytes
    → take total bytes ≡ old ++ take (start + 20 - start) (drop start digits) → total ≡ length old + 20
twenty_more bytes old digits total start within long room is =
    let count : start + 20 - start ≡ 20 = omega arith in
    let added = length-take-le (start + 20 - start) (drop start digits) (omega (arith, length-drop start digits)) in
    omega (
      arith,
      length-take-le total bytes room,
      ap length is,
      length-append old (take (start + 20 - start) (drop start digits)),
      added,
      count,
    )

-- The bytes after the number are removed again.
pub cut_back : (bytes old digits : List ℕ) (total start : ℕ) → start ≤ 20 → length digits ≡ 40 → total ≤ length bytes
    → take total bytes ≡ old ++ take (start + 20 - start) (drop start digits)
    → take (total - start) bytes ≡ old ++ digits_from start digits
cut_back bytes old digits total start within long room is =
    let sum = twenty_more bytes old digits total start within long room is in
    let behind = drop start digits in
    let all : start + 20 - start ≡ 20 = omega arith in
    let count : total - start ≡ length old + (20 - start) = omega arith in
    sym (take-take (total - start) total bytes (omega arith))
    ∙ ap (take (total - start)) (rw all at is)
    ∙ ap (λ n. take n (old ++ take 20 behind)) count
    ∙ take-append-add old (take 20 behind) (20 - start)
    ∙ ap (λ text. old ++ text) (take-take (20 - start) 20 behind (omega arith))
