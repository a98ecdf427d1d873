-- An exact range in a space.
use Rattle.std.specs.Prelude.{Result, Ok, Err, IsOk, OnErr, IfErr}
use Rattle.std.proofs.Common.{◌≡◌, ℕ, zero, suc, ◌+◌, ◌-◌, ◌<◌, ◌≤◌, List, [], ◌∷◌, ◌++◌, length, take, drop, Bool, true, false, refl, ap, sym, subst, arith, inl, inr}
use Rattle.vm_ranges.specs.Range.{MAX, span}
use Rattle.vm_ranges.specs.declared.state.NodeState.{NodeState}
use Rattle.vm_ranges.specs.declared.state.NodeState.TheVariants.{Free, Allocated}
use Rattle.vm_leaf.specs.declared.block.Block.{Block}
use Rattle.vm_leaf.specs.Block.{free_block}
use Rattle.vm_leaf.specs.Blocks.{nth, parts}
use Rattle.vm_leaf.specs.Entries.{blocks_entry, HasEnough}
use Rattle.vm_leaf.proofs.Tiles.{tiles_part}
use Rattle.vm_tree.specs.Subtree.{Subtree}
use Rattle.vm_tree.specs.Edits.{IsRefused, IsEdited}
use Rattle.vm_tree.specs.Raised.{IsTreeAfter}
use Rattle.vm_space.specs.Leaves.{blocks_of, HaveBlocks}
use Rattle.vm_space.specs.Allocation.{IsOutOfMemory, AllocatesExact}
use Rattle.vm_space.specs.Placing.{IsStartIn}
use Rattle.vm_space.specs.Exact.{IsRefusal, RefusesExact, EditsExact, IsFullAt}
use Rattle.vm_space.specs.Shape.{blocks}
use Rattle.vm_space.specs.Spaces.{EndBelow, AreSpace}
use Rattle.vm_space.specs.declared.search.Search.{Search}
use Rattle.vm_space.specs.declared.search.Taken.{Taken}
use Rattle.vm_space.specs.declared.search.Refusal.{Refusal}
use Rattle.vm_space.specs.declared.search.Refusal.TheVariants.{PastMax, OutOfMemory}
use Rattle.std.specs.declared.alloc.AllocError.{AllocError}
use Rattle.vm_space.proofs.Taking.{lacks}
use Rattle.vm_space.proofs.Lists.{cut_at}
use Rattle.vm_space.proofs.Allocating.{IsAllocated, exact_left, exact_right, exact_allocated, run_allocated}
use Rattle.vm_space.proofs.Spaces.{blocks_cut, blocks_new, have_append, have_left, have_right, home_has, below_append, below_left, below_right, below_parts}

pub on_ok : (P : Type 0) (answer : Result Taken Refusal) → IsOk answer → OnErr answer P
on_ok P (Ok taken) h = tt
on_ok P (Err refusal) h = absurd (cc)

pub on_any : (P : Type 0) (answer : Result Taken Refusal) → P → OnErr answer P
on_any P (Ok taken) h = tt
on_any P (Err refusal) h = h

if_ok : (answer : Result Taken Refusal) → IsOk answer → IfErr answer (λ refusal. ¬ IsOutOfMemory refusal)
if_ok (Ok taken) h = tt
if_ok (Err refusal) h = absurd (cc)

if_refusal : (answer : Result Taken Refusal) → IsRefusal answer → IfErr answer (λ refusal. ¬ IsOutOfMemory refusal)
if_refusal (Ok taken) h = tt
if_refusal (Err refusal) h = h

-- Allocated blocks end below MAX after a range was allocated.
pub below_taken : (seek : Search) (old new : List Block) (taken : Taken) → EndBelow old → IsAllocated seek old new taken → EndBelow new
below_taken seek old new taken b h =
    let p = h.place in
    let e : EndBelow (p.lower ++ free_block p.key ∷ p.upper) = subst EndBelow h.cut b in
    subst EndBelow (sym h.taken_at.blocks)
    (below_append p.lower (parts p.key (span p.start seek.size) ++ p.upper) (below_left p.lower (free_block p.key ∷ p.upper) e)
    (below_append (parts p.key (span p.start seek.size)) p.upper (below_parts p.key (span p.start seek.size) h.taken_at.below)
    (below_right p.lower (free_block p.key ∷ p.upper) e).1))

-- A space after a change: its leaves were ls, and are ms.
pub record IsAfter (seek : Search) (t : ℕ) (old new : Subtree (List Block)) (answer : Result Taken Refusal) : Type 0 where
  pub allocates : AllocatesExact seek t (blocks old) (blocks new) answer
  pub unchanged : OnErr answer (new ≡ old)
  pub memory : IfErr answer (λ refusal. ¬ IsOutOfMemory refusal)
  pub space : AreSpace new.leaves
  pub low : old.height ≤ new.height
  pub high : new.height ≤ old.height + 1

module _ (seek : Search) (t : ℕ) (z : 0 < seek.size) (old new : Subtree (List Block)) (space : AreSpace old.leaves) (s : IsStartIn seek t (blocks old)) where
  -- A change of a leaf is one of the space.
  spread : (before : List (List Block)) (leaf : List Block) (after leaves : List (List Block)) (answer : Result Taken Refusal)
      → AllocatesExact seek t leaf (blocks_of leaves) answer
      → AllocatesExact seek t (blocks_of (before ++ leaf ∷ after)) (blocks_of (before ++ (leaves ++ after))) answer
  spread before leaf after leaves answer h =
      rw (blocks_cut before leaf after, blocks_new before leaves after)
      (exact_right seek t (blocks_of before) (leaf ++ blocks_of after) (blocks_of leaves ++ blocks_of after) answer
      (exact_left seek t leaf (blocks_of leaves) (blocks_of after) answer h))

  kept : (answer : Result Taken Refusal) → new ≡ old → IsRefused blocks_entry t (λ l. RefusesExact seek t l answer) old.leaves → IsAfter seek t old new answer
  kept answer e r =
      let h = r.refused (home_has t old.leaves r.before r.leaf r.after space s.from s.upto r.home) in
      let a : AllocatesExact seek t (blocks_of old.leaves) (blocks_of old.leaves) answer =
      rw r.home.was
      (rw (blocks_cut r.before r.leaf r.after) (exact_right seek t (blocks_of r.before) (r.leaf ++ blocks_of r.after) (r.leaf ++ blocks_of r.after) answer
      (exact_left seek t r.leaf r.leaf (blocks_of r.after) answer h.0))) in
      record {
        allocates = subst (λ (x : Subtree (List Block)). AllocatesExact seek t (blocks old) (blocks x) answer) (sym e) a;
        unchanged = on_any (new ≡ old) answer e;
        memory = if_refusal answer h.1;
        space = subst (λ (x : Subtree (List Block)). AreSpace x.leaves) (sym e) space;
        low = omega (arith, ap (λ (x : Subtree (List Block)). x.height) e);
        high = omega (arith, ap (λ (x : Subtree (List Block)). x.height) e);
      }

  edited_space : (answer : Result Taken Refusal) → IsOk answer → HaveBlocks new.leaves → AllocatesExact seek t (blocks old) (blocks new) answer → AreSpace new.leaves
  edited_space (Ok taken) o some h =
      let a = exact_allocated seek t (blocks old) (blocks new) taken z h in
      record { run = run_allocated seek (blocks old) (blocks new) taken space.run a; some = some; below = below_taken seek (blocks old) (blocks new) taken space.below a }
  edited_space (Err refusal) o some h = absurd (cc)

  edited : (answer : Result Taken Refusal) → old.height ≤ new.height → new.height ≤ old.height + 1
      → IsEdited blocks_entry HasEnough t (λ l ls. EditsExact seek t l answer ls) old.leaves new.leaves → IsAfter seek t old new answer
  edited answer l u h =
      let a : AllocatesExact seek t (blocks_of old.leaves) (blocks_of new.leaves) answer =
      rw (h.home.was, h.is) (spread h.before h.leaf h.after h.leaves answer h.edit.allocates) in
      let have : HaveBlocks (h.before ++ h.leaf ∷ h.after) = subst HaveBlocks h.home.was space.some in
      let some : HaveBlocks new.leaves = subst HaveBlocks (sym h.is)
      (have_append h.before (h.leaves ++ h.after) (have_left h.before (h.leaf ∷ h.after) have)
      (have_append h.leaves h.after h.edit.some (have_right h.before (h.leaf ∷ h.after) have).1)) in
      record {
        allocates = a;
        unchanged = on_ok (new ≡ old) answer h.edit.ok;
        memory = if_ok answer h.edit.ok;
        space = edited_space answer h.edit.ok some a;
        low = l;
        high = u;
      }

  pub after_edit : (answer : Result Taken Refusal) (done : Bool)
      → IsTreeAfter blocks_entry HasEnough t (λ l. RefusesExact seek t l answer) (λ l ls. EditsExact seek t l answer ls) old new done
      → IsAfter seek t old new answer
  after_edit answer true h = edited answer h.height h.higher h.edited
  after_edit answer false h = kept answer h.same h.refused

  -- There was no memory for the range, and nothing was changed.
  pub no_memory : (error : AllocError) → new ≡ old → IsRefused blocks_entry t (λ l. IsFullAt seek t l) old.leaves
      → AllocatesExact seek t (blocks old) (blocks new) (Err (OutOfMemory error))
  no_memory error e r =
      let f = r.refused in
      let h : AllocatesExact seek t r.leaf r.leaf (Err (OutOfMemory error)) = lacks seek t r.leaf z error f in
      let a : AllocatesExact seek t (blocks_of old.leaves) (blocks_of old.leaves) (Err (OutOfMemory error)) =
      rw r.home.was
      (rw (blocks_cut r.before r.leaf r.after) (exact_right seek t (blocks_of r.before) (r.leaf ++ blocks_of r.after) (r.leaf ++ blocks_of r.after) _
      (exact_left seek t r.leaf r.leaf (blocks_of r.after) _ h))) in
      subst (λ (x : Subtree (List Block)). AllocatesExact seek t (blocks old) (blocks x) (Err (OutOfMemory error))) (sym e) a

-- ---- The last address of all
-- The block with the address MAX is not allocated.
below_at : (bs : List Block) (i : ℕ) → EndBelow bs → i < length bs → (nth bs i).key.end ≡ MAX → (nth bs i).state ≡ Free
below_at bs i b l e = by_state (nth bs i).state refl
  where
    at : (bs : List Block) (i : ℕ) → EndBelow bs → i < length bs → (nth bs i).state ≡ Allocated → (nth bs i).key.end < MAX
    at [] i b l s = absurd (omega arith)
    at (x ∷ bs) zero b l s = b.0 s
    at (x ∷ bs) (suc i) b l s = at bs i b.1 (omega arith) s

    by_state : (v : NodeState) → (nth bs i).state ≡ v → (nth bs i).state ≡ Free
    by_state Free q = q
    by_state Allocated q = absurd (omega (arith, at bs i b l q, e))

-- A range at the address MAX is refused.
pub past_max : (seek : Search) (t : ℕ) (old : Subtree (List Block)) → 0 < seek.size → AreSpace old.leaves → IsStartIn seek t (blocks old) → t ≡ MAX →
    AllocatesExact seek t (blocks old) (blocks old) (Err PastMax)
past_max seek t old z space s e =
    let bs = blocks old in
    let i = length bs - 1 in
    let p = tiles_part Allocated space.run.lo space.run.hi bs i space.run.tiles (omega (arith, space.run.some)) in
    let q : (nth bs i).key.end ≡ MAX = omega (arith, p.upto, space.run.range.1, s.upto, e) in
    let f = below_at bs i space.below (omega (arith, space.run.some)) q in
    record {
      lower = take i bs;
      block = nth bs i;
      upper = drop (i + 1) bs;
      at = record { cut = cut_at bs i (omega (arith, space.run.some)); inside = (omega (arith, p.some, q), omega (arith, q)) };
      settles = rw f (inr
          (λ x. elim x [ inl l ↦ omega (arith, q, s.fits, e) | inr l ↦ omega (arith, s.high, s.fits, e) ], omega (arith, s.fits, z, e)));
    }
