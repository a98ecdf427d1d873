-- The result of an ExactMatch request, by the block that contains its start.
use Rattle.std.proofs.Common.{◌≡◌, ℕ, ◌+◌, ◌-◌, ◌%◌, ◌<◌, ◌≤◌, List, [], ◌∷◌, ◌++◌, refl, sym, ap, ◌∙◌, arith, inl, inr, ⊎_elim, subst, Result, Err}
use Rattle.std.specs.List.{All}
use Rattle.std.proofs.lemmas.List.Elements.{All-head, All-tail}
use Rattle.std.proofs.lemmas.Bool.{cases_lt}
use Rattle.vm_ranges.specs.Cases.{IfElse, Unless}
use Rattle.vm_ranges.specs.Range.{Range, MAX, IsIn, span}
use Rattle.vm_leaf.specs.declared.block.Block.{Block}
use Rattle.vm_ranges.specs.Address.{AddressState, AreClear, IsPlace}
use Rattle.vm_ranges.specs.Request.{Request, request_for, IsStartAligned}
use Rattle.vm_ranges.specs.Answer.{IsChosen, ByStart, ByExactPolicy, ByPlace, AllocatesAt, Grants}
use Rattle.vm_leaf.specs.Blocks.{Tiles}
use Rattle.vm_leaf.specs.SpaceBlocks.{held_of, blocks_state, TilesSpace}
use Rattle.vm_ranges.specs.declared.error.Error.{Error}
use Rattle.vm_ranges.specs.declared.error.Error.TheVariants.{Overflow, ResourceNotAvailable, InvalidStateTransition}
use Rattle.vm_ranges.specs.declared.state.NodeState.{NodeState}
use Rattle.vm_ranges.specs.declared.state.NodeState.TheVariants.{Free, Allocated}
use Rattle.vm_ranges.specs.declared.constraint.AllocPolicy.{AllocPolicy}
use Rattle.vm_ranges.specs.declared.constraint.AllocPolicy.TheVariants.{ExactMatch}
use Rattle.vm_ranges.proofs.PlainWords.{IsHeld, contains_held, held_contains, held_address, all_miss, none_holds}
use Rattle.vm_leaf.proofs.Spaces.Gaps.{InFreeBlock, free_is_clear, in_free_block, state_cases, held_within, tiles_end}
use Rattle.vm_leaf.proofs.Spaces.OneList.{held_of-free, held_of-held}
use Rattle.vm_ranges.proofs.RangeCalls.{same_range}
use Rattle.vm_addresses.proofs.Placing.TakenRanges.{starts_after, in_block}

-- The request for n addresses at the start t, with alignment a.
abbrev pub named : ℕ → ℕ → ℕ → Request
named n a t = request_for n a (ExactMatch t)

pub exact_at_max : (counted : ℕ) (st : AddressState) (n a t : ℕ) → t ≡ MAX → Grants counted st (named n a t) (Err Overflow) st
unfolding Grants ByExactPolicy ByStart
exact_at_max counted st n a t e = inl (e, (refl, refl))

pub all_missed : (p : NodeState) (lo hi x : ℕ) (bs : List Block) → Tiles p lo bs hi → All (λ b. ¬ IsIn b.key x) bs → lo ≤ x → x ≤ hi → ⊥
all_missed p lo hi x [] t m l o = omega arith
all_missed p lo hi x (b ∷ bs) t m l o =
    ⊎_elim (λ (g : b.key.end < x). all_missed b.state (b.key.end + 1) hi x bs t.3 (All-tail (λ c. ¬ IsIn c.key x) b bs m) (omega arith) o)
    (λ (g : x ≤ b.key.end). All-head (λ c. ¬ IsIn c.key x) b bs m (omega (arith, t.0), g)) (cases_lt b.key.end x)

-- An address that is in no block is outside the space.
pub exact_outside : (counted : ℕ) (sp : Range) (bs : List Block) (n a t : ℕ) → t < MAX → TilesSpace sp bs → All (λ b. ¬ IsIn b.key t) bs →
    Grants counted (blocks_state sp bs) (named n a t) (Err ResourceNotAvailable) (blocks_state sp bs)
unfolding Grants ByExactPolicy ByStart TilesSpace
exact_outside counted sp bs n a t m q h = inr (λ e. omega arith, inl (λ i. all_missed Allocated sp.start sp.end t bs q h i.0 i.1, (refl, refl)))

-- The range of a held block is held.
held_block : (r : Range) (b : Block) (xs ys : List Block) → b.key ≡ r → b.state ≡ Allocated → IsHeld (held_of (xs ++ b ∷ ys)) r
held_block r b [] ys e s = subst (λ (v : List Range). IsHeld v r) (sym (held_of-held b ys s)) (inl e)
held_block r b (x ∷ xs) ys e s =
    ⊎_elim
    (λ (f : x.state ≡ Free). subst (λ (v : List Range). IsHeld v r) (sym (held_of-free x (xs ++ b ∷ ys) f)) (held_block r b xs ys e s))
    (λ (f : x.state ≡ Allocated). subst (λ (v : List Range). IsHeld v r) (sym (held_of-held x (xs ++ b ∷ ys) f))
    (inr (held_block r b xs ys e s)))
    (state_cases x.state)

-- The start lies in the block, and so in the space, and the range does not pass MAX.
pub record IsWithin (sp : Range) (bs : List Block) (b : Block) (n t : ℕ) : Type 0 where
  pub tiles : TilesSpace sp bs
  pub before : List Block
  pub after : List Block
  pub cut : bs ≡ before ++ b ∷ after
  pub start : IsIn b.key t
  pub some : 0 < n
  pub below : t < MAX

pub in_space : (p : NodeState) (lo hi x : ℕ) (b : Block) (xs ys : List Block) → Tiles p lo (xs ++ b ∷ ys) hi → IsIn b.key x →
    (lo ≤ x) × (x ≤ hi)
in_space p lo hi x b [] ys t i = (omega (arith, t.0, i.0), omega (arith, i.1, tiles_end b.state (b.key.end + 1) hi ys t.3))
in_space p lo hi x b (y ∷ xs) ys t i = let g = in_space y.state (y.key.end + 1) hi x b xs ys t.3 i in (omega (arith, g.0, t.0, t.1), g.1)

pub as_cut : (sp : Range) (bs : List Block) (b : Block) (n t : ℕ) (w : IsWithin sp bs b n t) →
    Tiles Allocated sp.start (w.before ++ b ∷ w.after) sp.end
unfolding TilesSpace
as_cut sp bs b n t w = subst (λ (v : List Block). Tiles Allocated sp.start v sp.end) w.cut w.tiles

pub exact_over : (counted : ℕ) (sp : Range) (bs : List Block) (b : Block) (n a t : ℕ) → IsWithin sp bs b n t → MAX < t + n - 1 →
    Grants counted (blocks_state sp bs) (named n a t) (Err Overflow) (blocks_state sp bs)
unfolding Grants ByExactPolicy ByStart
exact_over counted sp bs b n a t w o =
    let i = in_space Allocated sp.start sp.end t b w.before w.after (as_cut sp bs b n t w) w.start in
    inr (λ e. omega (arith, w.below), inr ((i.0, i.1), inl (o, (refl, refl))))

-- The first three errors do not apply.
past : (counted : ℕ) (sp : Range) (bs : List Block) (b : Block) (n a t : ℕ) (new : AddressState) (answer : Result Range Error) → IsWithin sp bs b n t →
    t + n - 1 ≤ MAX → ¬ IsHeld (held_of bs) (span t n) →
    Unless (AreClear n (blocks_state sp bs) t) ((answer ≡ Err ResourceNotAvailable) × (new ≡ blocks_state sp bs))
    (IfElse (t + n - 1 ≡ MAX) ((answer ≡ Err Overflow) × (new ≡ blocks_state sp bs))
    (ByPlace (named n a t) (blocks_state sp bs) (λ e. (answer ≡ Err e) × (new ≡ blocks_state sp bs))
    (λ r. AllocatesAt counted (blocks_state sp bs) r answer new))) → Grants counted (blocks_state sp bs) (named n a t) answer new
unfolding Grants ByExactPolicy ByStart
past counted sp bs b n a t new answer w o d h =
    let i = in_space Allocated sp.start sp.end t b w.before w.after (as_cut sp bs b n t w) w.start in
    inr (λ e. omega (arith, w.below), inr ((i.0, i.1), inr (λ e. omega arith, inr (λ c. d (held_contains (held_of bs) (span t n) c), h))))

pub exact_held : (counted : ℕ) (sp : Range) (bs : List Block) (b : Block) (n a t : ℕ) → IsWithin sp bs b n t → t + n - 1 ≤ MAX → b.state ≡ Allocated →
    b.key.start ≡ t → b.key.end ≡ t + n - 1 →
    Grants counted (blocks_state sp bs) (named n a t) (Err (InvalidStateTransition b.key Allocated)) (blocks_state sp bs)
unfolding Grants ByExactPolicy ByStart
exact_held counted sp bs b n a t w o s f g =
    let i = in_space Allocated sp.start sp.end t b w.before w.after (as_cut sp bs b n t w) w.start in
    let key : b.key ≡ span t n = same_range b.key (span t n) f g in
    let h : IsHeld (held_of bs) (span t n) = subst (λ (v : List Block). IsHeld (held_of v) (span t n)) (sym w.cut)
    (held_block (span t n) b w.before w.after key s) in
    inr (
      λ e. omega (arith, w.below),
      inr (
        (i.0, i.1),
        inr (
          λ e. omega arith,
          inl
              (contains_held (held_of bs) (span t n) h, (ap (λ (v : Range). Err (InvalidStateTransition v Allocated)) key, refl)),
        ),
      ),
    )

-- Two held ranges with a common address are equal.
same_block_held : (p : NodeState) (lo hi x : ℕ) (r : Range) (b : Block) (xs ys : List Block) → Tiles p lo (xs ++ b ∷ ys) hi →
    b.state ≡ Allocated → IsIn b.key x → IsHeld (held_of (xs ++ b ∷ ys)) r → IsIn r x → b.key ≡ r
same_block_held p lo hi x r b [] ys t e i h o =
    let g : IsHeld (b.key ∷ held_of ys) r = subst (λ (v : List Range). IsHeld v r) (held_of-held b ys e) h in
    ⊎_elim (λ (s : b.key ≡ r). s)
    (λ (s : IsHeld (held_of ys) r). let w = held_within b.state (b.key.end + 1) hi x ys t.3 (held_address (held_of ys) r x s o) in absurd
    (omega (arith, w.0, i.1))) g
same_block_held p lo hi x r b (y ∷ xs) ys t e i h o =
    let after = starts_after y.state (y.key.end + 1) hi b xs ys t.3 in
    ⊎_elim
    (λ (f : y.state ≡ Free). same_block_held y.state (y.key.end + 1) hi x r b xs ys t.3 e i
    (subst (λ (v : List Range). IsHeld v r) (held_of-free y (xs ++ b ∷ ys) f) h) o)
    (λ (f : y.state ≡ Allocated).
    let g : IsHeld (y.key ∷ held_of (xs ++ b ∷ ys)) r = subst (λ (v : List Range). IsHeld v r) (held_of-held y (xs ++ b ∷ ys) f) h in
    ⊎_elim (λ (s : y.key ≡ r). let k : IsIn y.key x = subst (λ (v : Range). IsIn v x) (sym s) o in absurd (omega (arith, k.1, i.0)))
    (λ (s : IsHeld (held_of (xs ++ b ∷ ys)) r). same_block_held y.state (y.key.end + 1) hi x r b xs ys t.3 e i s o) g)
    (state_cases y.state)

-- A run of clear addresses lies in the free block that contains its first address.
same_run : (p : NodeState) (lo hi s e : ℕ) (b : Block) (xs ys : List Block) → Tiles p lo (xs ++ b ∷ ys) hi → s ≤ e → IsIn b.key s →
    InFreeBlock (xs ++ b ∷ ys) s e → (b.state ≡ Free) × (e ≤ b.key.end)
same_run p lo hi s e b [] ys t l i f =
    ⊎_elim (λ (g : (b.state ≡ Free) × (b.key.start ≤ s) × (e ≤ b.key.end)). (g.0, g.2))
    (λ (g : InFreeBlock ys s e). let c = free_is_clear b.state (b.key.end + 1) hi s e s ys t.3 g (omega arith) l in absurd
    (omega (arith, c.0, i.1))) f
same_run p lo hi s e b (y ∷ xs) ys t l i f =
    let after = starts_after y.state (y.key.end + 1) hi b xs ys t.3 in
    ⊎_elim (λ (g : (y.state ≡ Free) × (y.key.start ≤ s) × (e ≤ y.key.end)). absurd (omega (arith, g.2, i.0)))
    (λ (g : InFreeBlock (xs ++ b ∷ ys) s e). same_run y.state (y.key.end + 1) hi s e b xs ys t.3 l i g) f

-- The addresses are clear if and only if the block is free and they lie in it.
pub clear_in_block : (sp : Range) (bs : List Block) (b : Block) (n t : ℕ) → IsWithin sp bs b n t → AreClear n (blocks_state sp bs) t →
    (b.state ≡ Free) × (t + n - 1 ≤ b.key.end)
unfolding TilesSpace
clear_in_block sp bs b n t w c =
    let z = w.some in
    let row : InFreeBlock bs t (t + n - 1) = in_free_block Allocated sp.start sp.end t (t + n - 1) bs w.tiles
    (c t (omega arith) (omega arith)).0.0 (omega arith)
    (λ x l o. let k = c x l (omega arith) in (k.0.1, none_holds (held_of bs) x k.1)) in
    same_run Allocated sp.start sp.end t (t + n - 1) b w.before w.after (as_cut sp bs b n t w) (omega arith) w.start
    (subst (λ (v : List Block). InFreeBlock v t (t + n - 1)) w.cut row)

block_clear : (sp : Range) (bs : List Block) (b : Block) (n t : ℕ) → IsWithin sp bs b n t → b.state ≡ Free → t + n - 1 ≤ b.key.end →
    AreClear n (blocks_state sp bs) t
unfolding TilesSpace
block_clear sp bs b n t w f o x l m =
    let row : InFreeBlock bs t (t + n - 1) = subst (λ (v : List Block). InFreeBlock v t (t + n - 1)) (sym w.cut)
    (in_block w.before w.after b t (t + n - 1) f w.start.0 o) in
    let c = free_is_clear Allocated sp.start sp.end t (t + n - 1) x bs w.tiles row l (omega arith) in
    ((c.0, c.1), all_miss (held_of bs) x c.2)

pub free_not_held : (sp : Range) (bs : List Block) (b : Block) (n t : ℕ) → IsWithin sp bs b n t → b.state ≡ Free →
    ¬ IsHeld (held_of bs) (span t n)
unfolding TilesSpace
free_not_held sp bs b n t w f h =
    let z = w.some in
    let row : InFreeBlock bs t t = subst (λ (v : List Block). InFreeBlock v t t) (sym w.cut)
    (in_block w.before w.after b t t f w.start.0 w.start.1) in
    let c = free_is_clear Allocated sp.start sp.end t t t bs w.tiles row (omega arith) (omega arith) in
    c.2 (held_address (held_of bs) (span t n) t h (omega arith, omega arith))

pub exact_other : (counted : ℕ) (sp : Range) (bs : List Block) (b : Block) (n a t : ℕ) → IsWithin sp bs b n t → t + n - 1 ≤ MAX → b.state ≡ Allocated →
    ¬ ((b.key.start ≡ t) × (b.key.end ≡ t + n - 1)) →
    Grants counted (blocks_state sp bs) (named n a t) (Err ResourceNotAvailable) (blocks_state sp bs)
exact_other counted sp bs b n a t w o s d =
    let z = w.some in
    past _ sp bs b n a t (blocks_state sp bs) (Err ResourceNotAvailable) w o
    (λ h.
    let same : b.key ≡ span t n = same_block_held Allocated sp.start sp.end t (span t n) b w.before w.after (as_cut sp bs b n t w) s w.start
    (subst (λ (v : List Block). IsHeld (held_of v) (span t n)) w.cut h) (omega arith, omega arith) in
    d (ap (λ (r : Range). r.start) same, ap (λ (r : Range). r.end) same))
    (inl (λ c. let k = clear_in_block sp bs b n t w c in let bad = sym s ∙ k.0 in cc, (refl, refl)))

pub exact_short : (counted : ℕ) (sp : Range) (bs : List Block) (b : Block) (n a t : ℕ) → IsWithin sp bs b n t → t + n - 1 ≤ MAX → b.state ≡ Free →
    b.key.end < t + n - 1 → Grants counted (blocks_state sp bs) (named n a t) (Err ResourceNotAvailable) (blocks_state sp bs)
exact_short counted sp bs b n a t w o s d =
    past _ sp bs b n a t (blocks_state sp bs) (Err ResourceNotAvailable) w o (free_not_held sp bs b n t w s)
    (inl (λ c. let k = clear_in_block sp bs b n t w c in omega (arith, k.1), (refl, refl)))

pub exact_at_end : (counted : ℕ) (sp : Range) (bs : List Block) (b : Block) (n a t : ℕ) → IsWithin sp bs b n t → b.state ≡ Free → t + n - 1 ≤ b.key.end →
    t + n - 1 ≡ MAX → Grants counted (blocks_state sp bs) (named n a t) (Err Overflow) (blocks_state sp bs)
exact_at_end counted sp bs b n a t w s l m =
    past _ sp bs b n a t (blocks_state sp bs) (Err Overflow) w (omega arith) (free_not_held sp bs b n t w s)
    (inr (block_clear sp bs b n t w s l, inl (m, (refl, refl))))

pub exact_taken : (counted : ℕ) (sp : Range) (bs : List Block) (b : Block) (n a t : ℕ) (new : AddressState) (answer : Result Range Error) →
    IsWithin sp bs b n t → b.state ≡ Free → t + n - 1 ≤ b.key.end → t + n - 1 < MAX → t % a ≡ 0 →
    AllocatesAt counted (blocks_state sp bs) (span t n) answer new → Grants counted (blocks_state sp bs) (named n a t) answer new
unfolding ByPlace IsChosen IsPlace
exact_taken counted sp bs b n a t new answer w s l m d g =
    let c = block_clear sp bs b n t w s l in
    past _ sp bs b n a t new answer w (omega arith) (free_not_held sp bs b n t w s)
    (inr (c, inr (λ e. omega arith, inr (t, (refl, (d, c)), inr (λ e. omega arith, g)))))

-- The start of the request is a multiple of its alignment.
pub aligned_if : (a t : ℕ) (p : AllocPolicy) → p ≡ ExactMatch t → IsStartAligned a p → t % a ≡ 0
unfolding IsStartAligned
aligned_if a t p e h = let g : IsStartAligned a (ExactMatch t) = subst (IsStartAligned a) e h in g
