-- The longest part of a gap in a window.
use Rattle.std.proofs.Common.{◌≡◌, ◌<◌, ◌≤◌, max, true, false, cond, List, [], ◌∷◌, ◌++◌, Option, Some, None, refl, sym, subst, ◌∙◌, arith, ⊎_elim, ap, append_assoc}
use Rattle.std.proofs.lemmas.Bool.{cases_lt, lt-ltb, le-ltb, le-leb}
use Rattle.vm_ranges.specs.Range.{Range}
use Rattle.std.specs.List.{All}
use Rattle.std.proofs.lemmas.List.{append-nil}
use Rattle.std.proofs.lemmas.List.Elements.{All-nil, All-cons, All-head, All-tail, All-append}
use Rattle.vm_addresses.specs.Queries.{common_count, count_if, longer_part, longest_part, meeting, IsLongestPart, FindsLongestPart}
use Rattle.vm_ranges.specs.Windows.{common}
use Rattle.vm_space.specs.Walks.{meets}

-- The lowest of the longest parts of the ranges in the window, if it is longer than one so far, otherwise that.
abbrev pub longest_of_parts : Range → Option Range → List Range → Option Range
longest_of_parts window longest [] = longest
longest_of_parts window longest (g ∷ gs) = longest_of_parts window (longer_part window longest g) gs

-- The length of the longer of a range and a part.
longer_count : (w : Range) (longest : Option Range) (g : Range) →
    count_if (longer_part w longest g) ≡ max (count_if longest) (common_count w g)
longer_count w longest g =
    ⊎_elim
    (λ (l : count_if longest < common_count w g).
    let e : longer_part w longest g ≡ Some (common w g) = rw (lt-ltb (count_if longest) (common_count w g) l) refl in
    omega (arith, ap count_if e, l))
    (λ (l : common_count w g ≤ count_if longest).
    let e : longer_part w longest g ≡ longest = rw (le-ltb (count_if longest) (common_count w g) l) refl in
    omega (arith, ap count_if e, l))
    (cases_lt (count_if longest) (common_count w g))

part_is_longest : (w : Range) (longest : Option Range) (gs : List Range) →
    count_if (longest_of_parts w longest gs) ≡ max (count_if longest) (longest_part w gs)
part_is_longest w longest [] = omega (arith)
part_is_longest w longest (g ∷ gs) =
    let one = longer_count w longest g in
    let rest = part_is_longest w (longer_part w longest g) gs in
    omega (arith, one, rest)

-- A range that does not meet the window has no part in it.
no_part : (w g : Range) → meets w g ≡ false → common_count w g ≡ 0
no_part w g e =
    ⊎_elim
    (λ (l : g.end < w.start). omega (arith, l))
    (λ (l : w.start ≤ g.end).
    ⊎_elim
    (λ (m : w.end < g.start). omega (arith, m))
    (λ (m : g.start ≤ w.end).
    let t : meets w g ≡ true = rw (le-leb w.start g.end l, le-leb g.start w.end m) refl in
    absurd (cc (t, e)))
    (cases_lt w.end g.start))
    (cases_lt g.end w.start)

parts_of_meeting : (w : Range) (gs : List Range) → longest_part w (meeting w gs) ≡ longest_part w gs
parts_of_meeting w [] = refl
parts_of_meeting w (g ∷ gs) =
    elim (meets w g) as (λ v. meets w g ≡ v → longest_part w (cond v (g ∷ meeting w gs) (meeting w gs)) ≡ longest_part w (g ∷ gs)) [
      | true ↦ λ e. omega (arith, parts_of_meeting w gs)
      | false ↦ λ e. omega (arith, no_part w g e, parts_of_meeting w gs)
    ] refl

-- Without a range to begin with, and with all gaps.
pub longest_length : (w : Range) (gs : List Range) → count_if (longest_of_parts w None (meeting w gs)) ≡ longest_part w gs
longest_length w gs = omega (arith, part_is_longest w None (meeting w gs), parts_of_meeting w gs)

-- A fact of each element implies another one.
weaken : (P Q : Range → Type 0) → ((r : Range) → P r → Q r) → (xs : List Range) → All P xs → All Q xs
weaken P Q f [] a = All-nil Q
weaken P Q f (x ∷ xs) a = All-cons Q x xs (f x (All-head P x xs a)) (weaken P Q f xs (All-tail P x xs a))

one : (P : Range → Type 0) (r : Range) → P r → All P (r ∷ [])
one P r p = All-cons P r [] p (All-nil P)

module _ (w : Range) where
  longer : (longest : Option Range) (g : Range) → count_if longest < common_count w g → longer_part w longest g ≡ Some (common w g)
  longer longest g l = rw (lt-ltb (count_if longest) (common_count w g) l) refl

  other : (longest : Option Range) (g : Range) → common_count w g ≤ count_if longest → longer_part w longest g ≡ longest
  other longest g l = rw (le-ltb (count_if longest) (common_count w g) l) refl

  part_count : (rs : List Range) (part : Range) (a : IsLongestPart w rs part) → count_if (Some part) ≡ common_count w a.whole
  part_count rs part a = let s = a.some in omega (arith, ap count_if (ap Some a.is), s)

  -- One more range, behind the others.
  extended : (rs : List Range) (longest : Option Range) (g : Range) → FindsLongestPart w rs longest → FindsLongestPart w (rs ++ g ∷ []) (longer_part w longest g)
  extended rs None g a =
      ⊎_elim
      (λ (l : 0 < common_count w g). subst (FindsLongestPart w (rs ++ g ∷ [])) (sym (longer None g l))
      (record {
        lower = rs;
        whole = g;
        upper = [];
        cut = refl;
        is = refl;
        some = l;
        before = weaken (λ r. common_count w r ≡ 0) (λ r. common_count w r < common_count w g) (λ r e. omega (arith, e, l)) rs a;
        after = All-nil (λ r. common_count w r ≤ common_count w g);
      }))
      (λ (l : common_count w g ≤ 0). subst (FindsLongestPart w (rs ++ g ∷ [])) (sym (other None g l))
      (All-append (λ r. common_count w r ≡ 0) rs (g ∷ []) a (one (λ r. common_count w r ≡ 0) g (omega (arith, l)))))
      (cases_lt 0 (common_count w g))
  extended rs (Some part) g a =
      ⊎_elim
      (λ (l : count_if (Some part) < common_count w g).
      let b = All-append (λ r. common_count w r < common_count w g) a.lower (a.whole ∷ a.upper)
      (weaken (λ r. common_count w r < common_count w a.whole) (λ r. common_count w r < common_count w g) (λ r e. omega (arith, e, l, part_count rs part a)) a.lower a.before)
      (All-cons (λ r. common_count w r < common_count w g) a.whole a.upper (omega (arith, l, part_count rs part a))
      (weaken (λ r. common_count w r ≤ common_count w a.whole) (λ r. common_count w r < common_count w g) (λ r e. omega (arith, e, l, part_count rs part a)) a.upper a.after)) in
      subst (FindsLongestPart w (rs ++ g ∷ [])) (sym (longer (Some part) g l))
      (record {
        lower = rs;
        whole = g;
        upper = [];
        cut = refl;
        is = refl;
        some = omega (arith, l);
        before = subst (All (λ r. common_count w r < common_count w g)) (sym a.cut) b;
        after = All-nil (λ r. common_count w r ≤ common_count w g);
      }))
      (λ (l : common_count w g ≤ count_if (Some part)). subst (FindsLongestPart w (rs ++ g ∷ [])) (sym (other (Some part) g l))
      (record {
        lower = a.lower;
        whole = a.whole;
        upper = a.upper ++ g ∷ [];
        cut = ap (λ xs. xs ++ g ∷ []) a.cut ∙ append_assoc a.lower (a.whole ∷ a.upper) (g ∷ []);
        is = a.is;
        some = a.some;
        before = a.before;
        after = All-append (λ r. common_count w r ≤ common_count w a.whole) a.upper (g ∷ []) a.after
            (one (λ r. common_count w r ≤ common_count w a.whole) g (omega (arith, l, part_count rs part a)));
      }))
      (cases_lt (count_if (Some part)) (common_count w g))

  parts_from : (rs gs : List Range) (longest : Option Range) → FindsLongestPart w rs longest → FindsLongestPart w (rs ++ gs) (longest_of_parts w longest (meeting w gs))
  parts_from rs [] longest a = subst (λ xs. FindsLongestPart w xs longest) (sym (append-nil rs)) a
  parts_from rs (g ∷ gs) longest a =
      subst (λ xs. FindsLongestPart w xs (longest_of_parts w longest (meeting w (g ∷ gs)))) (append_assoc rs (g ∷ []) gs)
      (elim (meets w g) as (λ v. meets w g ≡ v → FindsLongestPart w ((rs ++ g ∷ []) ++ gs) (longest_of_parts w longest (cond v (g ∷ meeting w gs) (meeting w gs)))) [
        | true ↦ λ e. parts_from (rs ++ g ∷ []) gs (longer_part w longest g) (extended rs longest g a)
        | false ↦ λ e.
            let same : longer_part w longest g ≡ longest = rw (le-ltb (count_if longest) (common_count w g) (omega (arith, no_part w g e))) refl in
            parts_from (rs ++ g ∷ []) gs longest (subst (FindsLongestPart w (rs ++ g ∷ [])) same (extended rs longest g a))
      ] refl)

  pub finds_longest : (gs : List Range) → FindsLongestPart w gs (longest_of_parts w None (meeting w gs))
  finds_longest gs = parts_from [] gs None (All-nil (λ r. common_count w r ≡ 0))

pub ruleset longest_parts = (longest_length, finds_longest)
