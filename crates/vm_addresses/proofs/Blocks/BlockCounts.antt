-- The number of blocks before and after a range is added to the held ranges or removed from them.
use Rattle.std.proofs.Common.{◌≡◌, ℕ, ◌+◌, ◌-◌, ◌<◌, ◌≤◌, List, [], ◌∷◌, length, length-append, refl, sym, ap, ◌∙◌, arith, inl, inr, ⊎_elim, subst, eq-eqb, Ok, ◌*◌}
use Rattle.std.proofs.lemmas.Bool.{cases_lt, lt-ltb, le-ltb, cases_eq, ne_eqb}
use Rattle.vm_ranges.specs.Range.{Range, IsIn, span}
use Rattle.vm_ranges.specs.Address.{AddressState, IsClear, with_range, without_range, holding, releasing, AreInOrder, IsAddressState}
use Rattle.vm_leaf.specs.SpaceBlocks.{blocks_between, gap_before, blocks_of}
use Rattle.vm_ranges.specs.declared.state.NodeState.TheVariants.{Allocated}
use Rattle.vm_addresses.specs.Facts.{block_count, IsOneIf, AreClearBeside}
use Rattle.vm_addresses.proofs.Results.AddressResults.{gets, lies_clear, freed_held}
use Rattle.vm_ranges.proofs.PlainWords.{IsHeldAddress, IsHeld, all_miss, none_holds}
use Rattle.vm_addresses.proofs.Blocks.HeldChanges.{Misses, beside, misses_later, in_order_without, with_without}
use Rattle.vm_addresses.proofs.Blocks.HeldSets.{one_start, later_above, held_lies}
use Rattle.vm_leaf.proofs.Spaces.OneList.{few_blocks}
use Rattle.vm_leaf.proofs.Spaces.Tilings.{held_of-blocks_of}
use Rattle.vm_space.proofs.BlockCursors.{between_tiles}
use Rattle.vm_ranges.specs.Request.{Request}
use Rattle.vm_ranges.specs.Answer.{Allocates, Frees}

-- ---- Counts of gaps
abbrev count : ℕ → List Range → ℕ → ℕ
count lo hs hi = length (blocks_between lo hs hi)

no_gap : (lo next : ℕ) → next ≤ lo → length (gap_before lo next) ≡ 0
no_gap lo next h = rw (le-ltb lo next h) refl

one_gap : (lo next : ℕ) → lo < next → length (gap_before lo next) ≡ 1
one_gap lo next h = rw (lt-ltb lo next h) refl

count_cons : (lo hi : ℕ) (r : Range) (rs : List Range) → count lo (r ∷ rs) hi ≡ length (gap_before lo r.start) + 1 + count (r.end + 1) rs hi
count_cons lo hi r rs = let e = length-append (gap_before lo r.start)
    (record { key = r; state = Allocated } ∷ blocks_between (r.end + 1) rs hi) in omega (arith, e)

-- ---- Clear addresses beside a range
abbrev IsClearIn : ℕ → ℕ → List Range → ℕ → Type 0
IsClearIn lo hi hs x = (lo ≤ x) × (x ≤ hi) × ¬ IsHeldAddress hs x

abbrev IsClearBefore : ℕ → ℕ → List Range → Range → Type 0
IsClearBefore lo hi hs r = (x : ℕ) × IsClearIn lo hi hs x × (x + 1 ≡ r.start)

-- The blocks that the range r adds to those of hs, and that make those of ks.
record Adds (lo hi : ℕ) (hs ks : List Range) (r : Range) : Type 0 where
  below : ℕ
  above : ℕ
  before : IsOneIf (IsClearBefore lo hi hs r) below
  after : IsOneIf (IsClearIn lo hi hs (r.end + 1)) above
  more : count lo ks hi ≡ count lo hs hi + below + above

one_if : (P Q : Type 0) (n : ℕ) → (P → Q) → (Q → P) → IsOneIf P n → IsOneIf Q n
one_if P Q n f g h = ⊎_elim (λ l. inl (f l.0, l.1)) (λ k. inr (λ q. k.0 (g q), k.1)) h

-- No range of the list has an address below its start.
none_below : (lo hi x : ℕ) (hs : List Range) → AreInOrder lo hs hi → x < lo → ¬ IsHeldAddress hs x
none_below lo hi x [] s l h = h
none_below lo hi x (y ∷ ys) s l h =
    ⊎_elim (λ (i : IsIn y x). omega (arith, i.0, s.0))
    (λ (k : IsHeldAddress ys x). none_below (y.end + 1) hi x ys s.4 (omega (arith, s.0, s.1)) k) h

-- The range r before all ranges of the list.
module _ (lo hi : ℕ) (r : Range) where
  first_below : (xs : List Range) → lo ≤ r.start → r.start ≤ r.end → r.end ≤ hi → AreInOrder (r.end + 1) xs hi →
      (n : ℕ) × IsOneIf (IsClearBefore lo hi xs r) n × (length (gap_before lo r.start) ≡ n)
  first_below xs a b c s =
      ⊎_elim
      (λ (l : lo < r.start).
      let clear : IsClearBefore lo hi xs r =
      (r.start - 1, (omega arith, omega arith, none_below (r.end + 1) hi (r.start - 1) xs s (omega arith)), omega arith) in
      (1, inl (clear, refl), one_gap lo r.start l))
      (λ (l : r.start ≤ lo). (0, inr (λ p. omega (arith, p.1.0, p.2), refl), no_gap lo r.start l))
      (cases_lt lo r.start)

  first_above : (xs : List Range) → lo ≤ r.start → r.start ≤ r.end → r.end ≤ hi → AreInOrder (r.end + 1) xs hi →
      (n : ℕ) × IsOneIf (IsClearIn lo hi xs (r.end + 1)) n × (count (r.end + 1) xs hi + 1 ≡ count lo xs hi + n)
  first_above [] a b c s =
      let all = one_gap lo (hi + 1) (omega arith) in
      ⊎_elim
      (λ (l : r.end + 1 < hi + 1). (1, inl ((omega arith, omega arith, λ h. h), refl), omega (arith, all, one_gap (r.end + 1) (hi + 1) l)))
      (λ (l : hi + 1 ≤ r.end + 1). (0, inr (λ p. omega (arith, p.1), refl), omega (arith, all, no_gap (r.end + 1) (hi + 1) l)))
      (cases_lt (r.end + 1) (hi + 1))
  first_above (y ∷ ys) a b c s =
      let all = one_gap lo y.start (omega (arith, s.0)) in
      let old = count_cons lo hi y ys in
      let new = count_cons (r.end + 1) hi y ys in
      ⊎_elim
      (λ (l : r.end + 1 < y.start).
      let none : ¬ IsHeldAddress (y ∷ ys) (r.end + 1) = none_below (r.end + 2) hi (r.end + 1) (y ∷ ys) (omega arith, s.1, s.2, s.3, s.4)
      (omega arith) in
      (1, inl ((omega arith, omega (arith, s.1, s.2), none), refl), omega (arith, all, old, new, one_gap (r.end + 1) y.start l)))
      (λ (l : y.start ≤ r.end + 1).
      (0, inr (λ p. p.2 (inl (omega arith, omega (arith, s.0, s.1))), refl), omega (arith, all, old, new, no_gap (r.end + 1) y.start l)))
      (cases_lt (r.end + 1) y.start)

  adds_first : (xs : List Range) → lo ≤ r.start → r.start ≤ r.end → r.end ≤ hi → AreInOrder (r.end + 1) xs hi → Adds lo hi xs (r ∷ xs) r
  adds_first xs a b c s =
      let p = first_below xs a b c s in
      let q = first_above xs a b c s in
      record { below = p.0; above = q.0; before = p.1; after = q.1; more = omega (arith, count_cons lo hi r xs, p.2, q.2) }

-- A range before r is in both lists.
clear_later : (lo hi x : ℕ) (h : Range) (hs : List Range) → lo ≤ h.start → h.start ≤ h.end → h.end ≤ x → IsClearIn (h.end + 1) hi hs x →
    IsClearIn lo hi (h ∷ hs) x
clear_later lo hi x h hs a b c p = (omega arith, p.1, λ k. ⊎_elim (λ (i : IsIn h x). omega (arith, i.1, p.0)) p.2 k)

clear_rest : (lo hi x : ℕ) (h : Range) (hs : List Range) → h.start ≤ h.end → h.end ≤ x → IsClearIn lo hi (h ∷ hs) x →
    IsClearIn (h.end + 1) hi hs x
clear_rest lo hi x h hs b c p =
    ⊎_elim
    (λ (l : h.end < x). (omega arith, p.1, λ k. p.2 (inr k)))
    (λ (l : x ≤ h.end). absurd (p.2 (inl (omega arith, l))))
    (cases_lt h.end x)

adds_later : (lo hi : ℕ) (r h : Range) (hs ks : List Range) → lo ≤ h.start → h.start ≤ h.end → h.end < r.start → r.start ≤ r.end →
    Adds (h.end + 1) hi hs ks r → Adds lo hi (h ∷ hs) (h ∷ ks) r
adds_later lo hi r h hs ks a b c d p = record {
  below = p.below;
  above = p.above;
  before = one_if _ _ p.below
      (λ k. (k.0, clear_later lo hi k.0 h hs a b (omega (arith, k.2)) k.1, k.2))
      (λ k. (k.0, clear_rest lo hi k.0 h hs b (omega (arith, k.2)) k.1, k.2))
      p.before;
  after = one_if _ _ p.above (clear_later lo hi (r.end + 1) h hs a b (omega arith)) (clear_rest lo hi (r.end + 1) h hs b (omega arith))
      p.after;
  more = omega (arith, count_cons lo hi h hs, count_cons lo hi h ks, p.more);
}

-- ---- A range added to an ordered list
adds : (lo hi : ℕ) (r : Range) (hs : List Range) → AreInOrder lo hs hi → lo ≤ r.start → r.start ≤ r.end → r.end ≤ hi → Misses hs r →
    Adds lo hi hs (with_range r hs) r
adds lo hi r [] s a b c m = adds_first lo hi r [] a b c tt
adds lo hi r (x ∷ xs) s a b c m =
    ⊎_elim
    (λ (d : r.end < x.start).
    let e = lt-ltb r.start x.start (omega arith) in
    rw e (adds_first lo hi r (x ∷ xs) a b c (omega arith, s.1, s.2, s.3, s.4)))
    (λ (d : x.end < r.start).
    let e = le-ltb r.start x.start (omega (arith, s.1)) in
    rw e (adds_later lo hi r x xs (with_range r xs) s.0 s.1 d b (adds (x.end + 1) hi r xs s.4 (omega arith) b c (misses_later x r xs m))))
    (beside x r xs s.1 b m)

-- ---- The states of an allocator
-- No address of a removed range is held.
misses_without : (lo hi : ℕ) (r : Range) (hs : List Range) → AreInOrder lo hs hi → IsHeld hs r → Misses (without_range r hs) r
misses_without lo hi r [] s h = absurd h
misses_without lo hi r (x ∷ xs) s h =
    ⊎_elim
    (λ (d : r.start ≡ x.start).
    let e = eq-eqb r.start x.start d in
    let same : x ≡ r = one_start lo hi x r (x ∷ xs) s (inl refl) h (sym d) in
    let end : x.end ≡ r.end = ap (λ (v : Range). v.end) same in
    rw e (λ a i. none_below (x.end + 1) hi a xs s.4 (omega (arith, i.1, end))))
    (λ (d : r.start ≡ x.start → ⊥).
    let e = ne_eqb r.start x.start d in
    let k : IsHeld xs r = ⊎_elim (λ (f : x ≡ r). absurd (d (sym (ap (λ (v : Range). v.start) f)))) (λ k. k) h in
    let above = later_above lo hi x xs r s k in
    rw e (λ a i. ⊎_elim (λ (j : IsIn x a). omega (arith, i.0, j.1, above)) (misses_without (x.end + 1) hi r xs s.4 k a i)))
    (cases_eq r.start x.start)

state_adds : (state : AddressState) (ks : List Range) (r : Range) → Adds state.space.start state.space.end state.held ks r →
    (n : ℕ) × AreClearBeside state r n ×
    (count state.space.start ks state.space.end ≡ count state.space.start state.held state.space.end + n)
state_adds state ks r p =
    let lo = state.space.start in
    let hi = state.space.end in
    let inside : (x : ℕ) → IsClearIn lo hi state.held x → IsClear state x = λ x k. ((k.0, k.1), all_miss state.held x k.2) in
    let outside : (x : ℕ) → IsClear state x → IsClearIn lo hi state.held x = λ x k. (k.0.0, k.0.1, none_holds state.held x k.1) in
    let beside : AreClearBeside state r (p.below + p.above) = record {
      below = p.below;
      above = p.above;
      before = one_if _ _ p.below (λ k. (k.0, inside k.0 k.1, k.2)) (λ k. (k.0, outside k.0 k.1, k.2)) p.before;
      after = one_if _ _ p.above (inside (r.end + 1)) (outside (r.end + 1)) p.after;
      both = refl;
    } in
    (p.below + p.above, beside, omega (arith, p.more))

-- Addresses outside a range are held as before it was added.
held_address_before : (r : Range) (x : ℕ) (hs : List Range) → ¬ IsIn r x → IsHeldAddress (with_range r hs) x → IsHeldAddress hs x
held_address_before r x [] n h = ⊎_elim n (λ k. k) h
held_address_before r x (y ∷ ys) n h =
    ⊎_elim
    (λ (d : r.start < y.start).
    let e = lt-ltb r.start y.start d in
    let k : IsHeldAddress (r ∷ y ∷ ys) x = rw e at h in
    ⊎_elim (λ (i : IsIn r x). absurd (n i)) (λ (i : IsHeldAddress (y ∷ ys) x). i) k)
    (λ (d : y.start ≤ r.start).
    let e = le-ltb r.start y.start d in
    let k : IsHeldAddress (y ∷ with_range r ys) x = rw e at h in
    ⊎_elim (λ (i : IsIn y x). inl i) (λ (i : IsHeldAddress (with_range r ys) x). inr (held_address_before r x ys n i)) k)
    (cases_lt r.start y.start)

held_address_after : (r : Range) (x : ℕ) (hs : List Range) → IsHeldAddress hs x → IsHeldAddress (with_range r hs) x
held_address_after r x [] h = absurd h
held_address_after r x (y ∷ ys) h =
    ⊎_elim
    (λ (d : r.start < y.start). let e = lt-ltb r.start y.start d in rw e (inr h))
    (λ (d : y.start ≤ r.start).
    let e = le-ltb r.start y.start d in
    rw e (⊎_elim (λ (i : IsIn y x). inl i) (λ (i : IsHeldAddress ys x). inr (held_address_after r x ys i)) h))
    (cases_lt r.start y.start)

-- The addresses beside a range are clear before it is added if and only if they are clear after.
beside_after : (state : AddressState) (r : Range) (n : ℕ) → r.start ≤ r.end → AreClearBeside state r n →
    AreClearBeside (holding r state) r n
beside_after state r n l p =
    let later : (x : ℕ) → ¬ IsIn r x → IsClear state x → IsClear (holding r state) x =
    λ x out k. (k.0, all_miss (with_range r state.held) x (λ h. none_holds state.held x k.1 (held_address_before r x state.held out h))) in
    let sooner : (x : ℕ) → IsClear (holding r state) x → IsClear state x =
    λ x k. (k.0, all_miss state.held x (λ h. none_holds (with_range r state.held) x k.1 (held_address_after r x state.held h))) in
    record {
      below = p.below;
      above = p.above;
      before = one_if _ _ p.below (λ k. (k.0, later k.0 (λ i. omega (arith, k.2, i.0)) k.1, k.2)) (λ k. (k.0, sooner k.0 k.1, k.2))
          p.before;
      after = one_if _ _ p.above (later (r.end + 1) (λ i. omega (arith, i.1))) (sooner (r.end + 1)) p.after;
      both = p.both;
    }

pub allocation_adds : (old new : AddressState) (request : Request) (r : Range) → IsAddressState old → Allocates old request (Ok r) new →
    (parts : ℕ) × AreClearBeside old r parts × (block_count new ≡ block_count old + parts)
unfolding blocks_of
allocation_adds old new request r i h =
    let lo = old.space.start in
    let hi = old.space.end in
    let g = gets request old new r h in
    let l = lies_clear old new request (Ok r) g i in
    let some = g.some in
    let range = span g.from request.size in
    let same : range ≡ r = cc (g.given) in
    let more = state_adds old (with_range range old.held) range (adds lo hi range old.held i.in_order l.0 (omega arith) l.1 l.3) in
    let given : (n : ℕ) × AreClearBeside old r n × (count lo (with_range r old.held) hi ≡ count lo old.held hi + n) =
    subst (λ (v : Range). (n : ℕ) × AreClearBeside old v n × (count lo (with_range v old.held) hi ≡ count lo old.held hi + n)) same more in
    let left : new ≡ holding r old = g.left ∙ ap (λ (v : Range). holding v old) same in
    (given.0, given.1, ap block_count left ∙ given.2)

pub freeing_removes : (old new : AddressState) (r : Range) → IsAddressState old → Frees old r (Ok tt) new →
    (gaps : ℕ) × AreClearBeside old r gaps × (block_count old ≡ block_count new + gaps)
unfolding blocks_of
freeing_removes old new r i h =
    let lo = old.space.start in
    let hi = old.space.end in
    let f = freed_held old new r h in
    let l = held_lies lo hi old.held r i.in_order f.0 in
    let rest = without_range r old.held in
    let order : AreInOrder lo rest hi = in_order_without lo hi r old.held i.in_order in
    let more : Adds lo hi rest old.held r = subst (λ (ks : List Range). Adds lo hi rest ks r) (with_without lo hi r old.held i.in_order f.0)
    (adds lo hi r rest order l.0 l.1 l.2 (misses_without lo hi r old.held i.in_order f.0)) in
    let given = state_adds (releasing r old) old.held r more in
    let back : holding r (releasing r old) ≡ old = ap (λ (ks : List Range). record old { held = ks })
    (with_without lo hi r old.held i.in_order f.0) in
    let beside : AreClearBeside old r given.0 = subst (λ (v : AddressState). AreClearBeside v r given.0) back
    (beside_after (releasing r old) r given.0 l.1 given.1) in
    (given.0, beside, given.2 ∙ ap (λ (v : AddressState). block_count v + given.0) (sym f.1))

pub blocks_are_few : (state : AddressState) → IsAddressState state → block_count state ≤ 2 * length state.held + 1
unfolding blocks_of
blocks_are_few state i =
    let tiles = between_tiles state.space.start state.space.end state.held (omega (arith, i.space.0)) i.in_order in
    few_blocks state (blocks_of state) (record { tiles = tiles; held = held_of-blocks_of state })

pub ruleset memory = (allocation_adds, freeing_removes, blocks_are_few)
