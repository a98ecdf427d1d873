-- Two ranges write the same bytes to a hasher if and only if they are equal.
use Rattle.std.proofs.Common.{◌≡◌, ℕ, ◌<◌, ◌^◌, ◌==◌, List, [], ◌∷◌, refl, sym, ap, ◌∙◌, arith}
use Rattle.std.proofs.lemmas.Bool.{and_parts, and_from, eqb-true, eq-eqb}
use Rattle.std.proofs.lemmas.Nat.{from_le_bytes-to_le_bytes_8}
use Rattle.std.specs.Hash.{HashWrites, u64, le_bytes}
use Rattle.std.specs.Int.{from_le_bytes}
use Rattle.vm_ranges.specs.Range.{Range}
use Rattle.vm_ranges.specs.RangeOrder.{same_range}
use Rattle.vm_ranges.specs.RangeLaws.{HashAgreesWithEquality}
use mir.Syntax.{w64}

-- A range writes this to a hasher: its start, then its end.
abbrev writes : Range → HashWrites
writes r = le_bytes 8 r.start ∷ u64 r.end

-- The first bytes that were written.
abbrev first : HashWrites → List ℕ
first [] = []
first (w ∷ ws) = w

-- The bytes that were written after the first ones.
abbrev second : HashWrites → List ℕ
second [] = []
second (w ∷ ws) = first ws

-- The bytes of a number of 64 bits determine it.
same_number : (n m : ℕ) → n < 2 ^ 64 → m < 2 ^ 64 → le_bytes 8 n ≡ le_bytes 8 m → n ≡ m
unfolding le_bytes
same_number n m p q e = sym (from_le_bytes-to_le_bytes_8 n p) ∙ ap (from_le_bytes w64) e ∙ from_le_bytes-to_le_bytes_8 m q

-- Ranges are equal if and only if they write the same bytes to a hasher.
pub hash_agrees : HashAgreesWithEquality same_range writes
hash_agrees r s p q = (
  λ h.
      let both = and_parts (r.start == s.start) (r.end == s.end) h in
      let start : r.start ≡ s.start = eqb-true r.start s.start both.0 in
      let end : r.end ≡ s.end = eqb-true r.end s.end both.1 in
      rw (start, end) refl,
  λ h.
      let start = same_number r.start s.start (omega (arith, p.0, p.1)) (omega (arith, q.0, q.1)) (ap first h) in
      let end = same_number r.end s.end (omega (arith, p.1)) (omega (arith, q.1)) (ap second h) in
      and_from _ _ (eq-eqb r.start s.start start) (eq-eqb r.end s.end end),
)

pub ruleset hashes = (hash_agrees)
