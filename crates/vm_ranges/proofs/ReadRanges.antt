-- The range that a value encodes.
use Rattle.std.proofs.Common.{
  ◌≡◌,
  ℕ,
  zero,
  suc,
  ◌<◌,
  Bool,
  true,
  false,
  not,
  cond,
  ◌&&◌,
  ◌||◌,
  eqb,
  leb,
  ltb,
  Some,
  None,
  Ok,
  Err,
  codes,
  refl,
  sym,
  ◌∙◌,
  subst,
  arith,
  inl,
  inr,
  ⊎_elim,
}
use Rattle.std.proofs.lemmas.Bool.{and_parts, and_from, eq-eqb, ne_eqb, leb-true, ltb-true, le-leb, lt-ltb, or_cases, not-true}
use Rattle.std.proofs.lemmas.Option.{same_Some}
use Rattle.serde_json.specs.Data.{Data}
use Rattle.vm_ranges.proofs.FieldSteps.{count-true, true-count}
use Rattle.vm_ranges.proofs.Steps.{and_then_some, if_some}
use Rattle.vm_ranges.specs.Fields.{field_count, is_count}
use Rattle.vm_ranges.specs.Numbers.{number_in}
use Rattle.vm_ranges.specs.Range.{Range, MAX, IsRange}
use Rattle.vm_ranges.specs.Making.{MakesRange}
use Rattle.vm_ranges.specs.RangeValues.{EncodesRange, are_ends, range_between, decoded_range}
use Rattle.vm_ranges.specs.declared.error.Error.{Error}

-- Ends that pass the test are those of a range.
ends_of : (s e : ℕ) → are_ends s e ≡ true → IsRange s e
ends_of s e h =
    let p = and_parts (leb s e) (leb e MAX && (not (eqb s 0) || ltb e MAX)) h in
    let q = and_parts (leb e MAX) (not (eqb s 0) || ltb e MAX) p.1 in (
      leb-true s e p.0,
      leb-true e MAX q.0,
      λ z. ⊎_elim
          (λ (n : not (eqb s 0) ≡ true). absurd (let a = not-true _ n in let b = eq-eqb s 0 z in cc)) (λ (l : ltb e MAX ≡ true). ltb-true e MAX l)
          (or_cases (not (eqb s 0)) (ltb e MAX) q.1),
    )

-- The ends of a range pass the test.
true_ends : (s e : ℕ) → IsRange s e → are_ends s e ≡ true
true_ends s e r = and_from _ _ (le-leb s e r.0) (and_from _ _ (le-leb e MAX r.1) (not_all s r.2)) where
  not_all : (s : ℕ) → (s ≡ 0 → e < MAX) → (not (eqb s 0) || ltb e MAX) ≡ true
  not_all zero h = lt-ltb e MAX (h refl)
  not_all (suc s) h = rw (ne_eqb (suc s) 0 (λ z. absurd (omega arith))) refl

-- Ends of which a range is made are read as this range.
pub made_range : (s e : ℕ) (r : Range) → MakesRange s e (Ok r) → range_between s e ≡ Some r
made_range s e r (inl x) = absurd (let z = x.1 in cc)
made_range s e r (inr x) = let z = x.1 in let t = true_ends s e x.0 in rw t (cc)

-- A test that is not true leaves no range.
no_range_if : (b : Bool) (r : Range) → (b ≡ true → ⊥) → cond b (Some r) None ≡ None
no_range_if true r n = absurd (n refl)
no_range_if false r n = refl

-- Ends of which no range is made are not read as one.
pub no_range_made : (s e : ℕ) (x : Error) → MakesRange s e (Err x) → range_between s e ≡ None
no_range_made s e x (inr m) = absurd (let z = m.1 in cc)
no_range_made s e x (inl m) = no_range_if (are_ends s e) (record { start = s; end = e }) (λ h. m.0 (ends_of s e h))

pub ruleset made = (made_range, no_range_made)

-- A range that is read from a value is encoded by it.
pub found-states : (d : Data) (r : Range) → decoded_range d ≡ Some r → EncodesRange d r
found-states d r h =
    let two = if_some (is_count 2 (field_count d)) _ r h in
    let start = and_then_some _ (number_in (codes "start") d) r two.1 in
    let end = and_then_some _ (number_in (codes "end") d) r start.2 in
    let ends = if_some (are_ends start.0 end.0) _ r end.2 in
    let is = same_Some _ r ends.1 in
    subst (EncodesRange d) is (record
    { two_fields = count-true 2 (field_count d) two.0; start = start.1; end = end.1; range = ends_of start.0 end.0 ends.0 })

-- A range that a value encodes is read from it.
pub states-found : (d : Data) (r : Range) → EncodesRange d r → decoded_range d ≡ Some r
states-found d r s = rw (true-count 2 (field_count d) s.two_fields, s.start, s.end, true_ends r.start r.end s.range) refl

-- A value from which no range is read encodes no range.
pub none_encoded : (d : Data) → decoded_range d ≡ None → ((r : Range) × EncodesRange d r) → ⊥
none_encoded d e p = let t = states-found d p.0 p.1 in cc

pub ruleset read = (found-states, none_encoded)

-- A value encodes at most one range.
pub one_range : (d : Data) (a b : Range) → EncodesRange d a → EncodesRange d b → a ≡ b
one_range d a b p q = same_Some a b (sym (states-found d a p) ∙ states-found d b q)
