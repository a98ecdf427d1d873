-- Numbers of 32 bits.
use Rattle.std.proofs.Common.{◌≡◌, ℕ, ◌≤◌, Bool, true, false, cond, ltb, List, Option, Some, None, refl, ap, ◌∙◌, subst}
use Rattle.std.proofs.lemmas.Bool.{le-ltb, ltb-false}
use Rattle.std.proofs.lemmas.Option.{same_Some}
use Rattle.serde_json.specs.Data.{Data}
use Rattle.vm_ranges.specs.Numbers.{number_in, MAX_U32, u32_from, u32_in}
use Rattle.vm_ranges.proofs.Steps.{and_then_some}

-- A conditional that is not None took its second case.
if_none : {A : Type 0} (t : Bool) (o : Option A) (b : A) → cond t None o ≡ Some b → (t ≡ false) × (o ≡ Some b)
if_none true o b e = absurd (cc)
if_none false o b e = (refl, e)

-- A number that fits into 32 bits is read as itself.
pub u32-some : (n m : ℕ) → u32_from n ≡ Some m → (n ≡ m) × (m ≤ MAX_U32)
u32-some n m e =
    let p = if_none (ltb MAX_U32 n) (Some n) m e in
    let same : n ≡ m = same_Some n m p.1 in
    (same, subst (λ (x : ℕ). x ≤ MAX_U32) same (ltb-false MAX_U32 n p.0))

-- A number up to MAX_U32 fits into 32 bits.
pub some-u32 : (n : ℕ) → n ≤ MAX_U32 → u32_from n ≡ Some n
some-u32 n p = rw (le-ltb MAX_U32 n p) refl

-- A field that is read as a number of 32 bits has a number up to MAX_U32.
pub u32_in-some : (k : List ℕ) (d : Data) (n : ℕ) → u32_in k d ≡ Some n → (number_in k d ≡ Some n) × (n ≤ MAX_U32)
u32_in-some k d n e =
    let p = and_then_some u32_from (number_in k d) n e in
    let q = u32-some p.0 n p.2 in
    (p.1 ∙ ap Some q.0, q.1)
