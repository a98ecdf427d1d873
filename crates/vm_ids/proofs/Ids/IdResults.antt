-- The results of the calls of an id allocator.
use Rattle.std.proofs.Common.{◌≡◌, ℕ, ◌≤◌, refl, sym, ◌∙◌, subst, arith, inl, inr, Result, Ok, Err, MatchResult}
use Rattle.std.specs.FinSet as set
use Rattle.vm_ids.specs.Ids.{
  MAX_ID,
  IdState,
  IsLowestNotHeld,
  AreAllHeld,
  IsIdState,
  new_ids,
  holding_id,
  releasing_id,
  MakesIds,
  ByLowestNotHeld,
  AllocatesId,
  PeeksId,
  FreesId,
}
use Rattle.vm_ids.specs.Facts.{PeekingPredicts, AddsId, RemovesId}
use Rattle.vm_ranges.specs.declared.error.Error.{Error}
use Rattle.vm_ranges.specs.declared.error.Error.TheVariants.{Overflow, ResourceNotAvailable}
use Rattle.vm_ranges.proofs.TwoFacts.{if_same}
use Rattle.vm_ids.proofs.Ids.IdSets.{inserted_test, removed_test}
use Rattle.vm_ids.proofs.Ids.ExactIds.{holding_in_range}

-- ---- One result
pub one_lowest : (state : IdState) (i j : ℕ) → IsLowestNotHeld state i → IsLowestNotHeld state j → i ≡ j
unfolding IsLowestNotHeld
one_lowest state i j a b = let up = a.1 j b.0 in let down = b.1 i a.0 in omega (arith, up, down)

pub by_same_lowest : (state : IdState) (takes takes' : ℕ → Type 0) (refused refused' : Error → Type 0) (G : Type 0) →
    ByLowestNotHeld state takes refused → ByLowestNotHeld state takes' refused' → ((i : ℕ) → takes i → takes' i → G) →
    ((e : Error) → refused e → refused' e → G) → G
unfolding ByLowestNotHeld AreAllHeld IsLowestNotHeld
by_same_lowest state takes takes' refused refused' G (inl a) (inl b) f g =
    f b.0 (subst takes (one_lowest state a.0 b.0 a.1 b.1) a.2) b.2
by_same_lowest state takes takes' refused refused' G (inl a) (inr b) f g = absurd (a.1.0.1 (b.0 a.0 a.1.0.0))
by_same_lowest state takes takes' refused refused' G (inr a) (inl b) f g = absurd (b.1.0.1 (a.0 b.0 b.1.0.0))
by_same_lowest state takes takes' refused refused' G (inr a) (inr b) f g = if_same _ _ _ _ _ a.1 b.1 (g Overflow) (g ResourceNotAvailable)

pub making_is_determined : (lo hi : ℕ) (answer other : Result IdState Error) → MakesIds lo hi answer → MakesIds lo hi other → answer ≡ other
unfolding MakesIds
making_is_determined lo hi r s a b = grind arith

pub allocating_is_determined : (old new later : IdState) (answer other : Result ℕ Error) →
    AllocatesId old answer new → AllocatesId old other later → (answer ≡ other) × (new ≡ later)
unfolding AllocatesId
allocating_is_determined old new other r s a b =
    by_same_lowest old _ _ _ _ _ a b (λ i x y. (x.0 ∙ sym y.0, x.1 ∙ sym y.1)) (λ e x y. (x.0 ∙ sym y.0, x.1 ∙ sym y.1))

peeked_is_given : (old new : IdState) (peeked answer : Result ℕ Error) → PeeksId old peeked → AllocatesId old answer new → peeked ≡ answer
unfolding PeeksId AllocatesId
peeked_is_given old new peeked answer a b = by_same_lowest old _ _ _ _ _ a b (λ i x y. x ∙ sym y.0) (λ e x y. x ∙ sym y.0)

-- An id that is allocated is the lowest that was not held, and only it is held in addition. An error changes nothing.
pub lowest_is_held : (old new : IdState) (r : Result ℕ Error) → AllocatesId old r new →
    MatchResult r (λ id. IsLowestNotHeld old id × (new ≡ holding_id id old)) (λ e. new ≡ old)
unfolding AllocatesId ByLowestNotHeld
lowest_is_held old new r h = grind arith

pub peeking_predicts : PeekingPredicts
peeking_predicts = record {
  answer = peeked_is_given;
  held = λ old new id answer a b. let same = peeked_is_given old new (Ok id) answer a b in
      (sym same, (lowest_is_held old new (Ok id) (rw (← same) at b)).1);
}

-- ---- Valid states
-- The lowest id that is not held is at most the lowest id that was never allocated.
lowest_to_bound : (old : IdState) (id : ℕ) → IsIdState old → IsLowestNotHeld old id → id ≤ old.bound
unfolding IsLowestNotHeld
lowest_to_bound old id s a = grind (arith, s.held old.bound, a.1 old.bound)

pub made_ids : (lo hi : ℕ) (state : IdState) → hi ≤ MAX_ID → MakesIds lo hi (Ok state) → IsIdState state
unfolding MakesIds
made_ids lo hi state m (inl a) = absurd (cc (a.1))
made_ids lo hi state m (inr a) =
    let is : state ≡ new_ids lo hi = cc (a.1) in
    rw is (record {
      range = grind (arith, a.0);
      ids = m;
      bound = grind (arith, a.0);
      held = λ i h. grind (arith, set.contains-empty);
    })

pub allocated_ids : (old new : IdState) (r : Result ℕ Error) → IsIdState old → AllocatesId old r new → IsIdState new
unfolding IsLowestNotHeld
allocated_ids old new (Ok id) s h = let f = lowest_is_held old new (Ok id) h in rw f.1 (holding_in_range old id s f.0.0.0)
allocated_ids old new (Err e) s h = rw (lowest_is_held old new (Err e) h) s

-- A freed id is not held, and nothing else changes. An error changes nothing.
pub freed_is_removed : (old new : IdState) (id : ℕ) (r : Result ℕ Error) → FreesId old id r new →
    MatchResult r (λ i. (i ≡ id) × (new ≡ releasing_id id old)) (λ e. new ≡ old)
unfolding FreesId
freed_is_removed old new id r h = grind arith

pub freed_ids_state : (old new : IdState) (id : ℕ) (r : Result ℕ Error) → IsIdState old → FreesId old id r new → IsIdState new
freed_ids_state old new id (Ok i) s h =
    rw (freed_is_removed old new id (Ok i) h).1
    (record { range = s.range; ids = s.ids; bound = s.bound; held = λ q k. grind (arith, removed_test, s.held q) })
freed_ids_state old new id (Err e) s h = rw (freed_is_removed old new id (Err e) h) s

-- ---- The effect of one call
adds : (old : IdState) (id : ℕ) → IsIdState old → IsLowestNotHeld old id → AddsId old (holding_id id old) id
unfolding IsLowestNotHeld
adds old id s a =
    let at = lowest_to_bound old id s a in
    record {
      range = (refl, refl);
      ever_allocated = λ q. (λ h. grind (arith, at), λ h. grind (arith, at, a.0));
      held = λ q. (λ h. grind (arith, inserted_test), λ h. grind (arith, inserted_test));
    }

pub allocating_adds : (old new : IdState) (id : ℕ) → IsIdState old → AllocatesId old (Ok id) new → AddsId old new id
allocating_adds old new id s h = let f = lowest_is_held old new (Ok id) h in rw f.1 (adds old id s f.0)

pub freeing_removes : (old new : IdState) (id back : ℕ) → FreesId old id (Ok back) new → RemovesId old new id
freeing_removes old new id back h =
    rw (freed_is_removed old new id (Ok back) h).1
    (record {
      range = (refl, refl);
      ever_allocated = λ q. (λ h. h, λ h. h);
      held = λ q. (λ h. grind (arith, removed_test), λ h. grind (arith, removed_test));
    })

pub ruleset changes = (allocating_adds, freeing_removes)
