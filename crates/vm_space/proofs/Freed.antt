-- A range that is freed in a space.
use Rattle.std.specs.Prelude.{Option, Some, None, MatchOption}
use Rattle.std.proofs.Common.{◌≡◌, ℕ, zero, suc, ◌+◌, ◌<◌, ◌≤◌, List, [], ◌∷◌, ◌++◌, length, refl, ap, ◌∙◌, sym, subst, arith, length-append}
use Rattle.std.proofs.lemmas.List.{append-nil}
use Rattle.vm_ranges.specs.Range.{Range, MAX}
use Rattle.vm_ranges.specs.declared.state.NodeState.{NodeState}
use Rattle.vm_ranges.specs.declared.state.NodeState.TheVariants.{Free, Allocated}
use Rattle.vm_leaf.specs.declared.block.Block.{Block}
use Rattle.vm_leaf.specs.Block.{held_block}
use Rattle.vm_leaf.specs.Blocks.{nth, start_of, end_of, freed_between, freed_on, with_free, join_if, IsRun}
use Rattle.vm_leaf.specs.Entries.{blocks_entry}
use Rattle.vm_leaf.proofs.Tiles.{tiles_part}
use Rattle.vm_tree.specs.Subtree.{Subtree}
use Rattle.vm_tree.specs.Edits.{IsRefused}
use Rattle.vm_space.specs.Leaves.{blocks_of, HaveBlocks, IsInLeaf}
use Rattle.vm_space.specs.Spaces.{EndBelow, AreSpace}
use Rattle.vm_space.specs.Frees.{FreesBlock, Holds, RefusesFree, IsFreed, FreesLeaves}
use Rattle.vm_space.proofs.Lists.{cover_right, start_append, end_left}
use Rattle.vm_space.proofs.Spaces.{blocks_cut, have_right, home_has, below_left, below_right}
use Rattle.vm_space.proofs.Frees.{cover_freed}
use Rattle.vm_space.proofs.FreesAbsent.{held_left, held_right}

-- ---- The space is one afterwards
below_join : (s : NodeState) (k : Range) (b : Block) (us : List Block) → EndBelow (b ∷ us) → EndBelow (join_if s k b us)
below_join Free k b us h = (λ e. absurd (cc), h.1)
below_join Allocated k b us h = (λ e. absurd (cc), h)

below_with : (k : Range) (us : List Block) → EndBelow us → EndBelow (with_free k us)
below_with k [] h = (λ e. absurd (cc), tt)
below_with k (b ∷ us) h = below_join b.state k b us h

below_on : (s : NodeState) (x : Block) (k : Range) (us : List Block) → EndBelow (x ∷ []) → EndBelow us → EndBelow (freed_on s x k us)
below_on Free x k us h g = below_with (record { start = x.key.start; end = k.end }) us g
below_on Allocated x k us h g = (h.0, below_with k us g)

below_freed : (m : List Block) (k : Range) (us : List Block) → EndBelow m → EndBelow us → EndBelow (freed_between m k us)
below_freed [] k us h g = below_with k us g
below_freed (x ∷ []) k us h g = below_on x.state x k us h g
below_freed (x ∷ y ∷ m) k us h g = (h.0, below_freed (y ∷ m) k us h.1 g)

pub freed_space : (k : Range) (joined : ℕ) (old new : List (List Block)) → AreSpace old → IsFreed k joined old new → AreSpace new
freed_space k joined old new s h =
    let f = h.frees in
    let b : EndBelow (f.lower ++ held_block k ∷ f.upper) = subst EndBelow f.before s.below in
    record {
      run = subst IsRun (sym f.after) (cover_freed f.lower k f.upper (subst IsRun f.before s.run));
      some = h.some;
      below = subst EndBelow (sym f.after)
          (below_freed f.lower k f.upper (below_left f.lower (held_block k ∷ f.upper) b) (below_right f.lower (held_block k ∷ f.upper) b).1);
    }

-- ---- A range that is not held
held_in_first : (m r : List Block) (k : Range) → IsRun (m ++ r) → 0 < length m → IsInLeaf k.start m → Holds k (m ++ r) → Holds k m
held_in_first m [] k run some a h = subst (Holds k) (append-nil m) h
held_in_first m (x ∷ r) k run some a h =
    held_left m (x ∷ r) k run some (omega arith) (omega (arith, a.upto, end_left m (x ∷ r) run some (omega arith))) h

held_in_middle : (l m r : List Block) (k : Range) → IsRun (l ++ (m ++ r)) → 0 < length m → IsInLeaf k.start m → Holds k (l ++ (m ++ r)) → Holds k m
held_in_middle [] m r k run some a h = held_in_first m r k run some a h
held_in_middle (y ∷ l) m r k run some a h =
    let n = length-append m r in
    held_in_first m r k (cover_right (y ∷ l) (m ++ r) run (omega arith) (omega arith)) some a
    (held_right (y ∷ l) (m ++ r) k run (omega arith) (omega arith) (omega (arith, a.from, start_append m r some)) h)

pub refused_space : (k : Range) (ls : List (List Block)) → AreSpace ls → start_of (blocks_of ls) ≤ k.start → k.start ≤ end_of (blocks_of ls)
    → IsRefused blocks_entry k.start (RefusesFree k) ls → ¬ Holds k (blocks_of ls)
refused_space k ls s a b r h =
    let i = home_has k.start ls r.before r.leaf r.after s a b r.home in
    let e : blocks_of ls ≡ blocks_of r.before ++ (r.leaf ++ blocks_of r.after) = ap blocks_of r.home.was ∙ blocks_cut r.before r.leaf r.after in
    let have : HaveBlocks (r.before ++ r.leaf ∷ r.after) = subst HaveBlocks r.home.was s.some in
    r.refused i
    (held_in_middle (blocks_of r.before) r.leaf (blocks_of r.after) k (subst IsRun e s.run) (have_right r.before (r.leaf ∷ r.after) have).0 i (subst (Holds k) e h))

-- No held block has the address MAX.
held_below : (bs : List Block) (i : ℕ) (k : Range) → EndBelow bs → i < length bs → nth bs i ≡ held_block k → k.end < MAX
held_below [] i k b l e = absurd (omega arith)
held_below (x ∷ bs) zero k b l e =
    let z = ap (λ (y : Block). y.key.end) e in
    omega (arith, b.0 (ap (λ (y : Block). y.state) e))
held_below (x ∷ bs) (suc i) k b l e = held_below bs i k b.1 (omega arith) e

pub max_not_held : (k : Range) (ls : List (List Block)) → AreSpace ls → k.start ≡ MAX → ¬ Holds k (blocks_of ls)
max_not_held k ls s e h =
    let u = held_below (blocks_of ls) h.index k s.below h.within h.found in
    let p = tiles_part Allocated s.run.lo s.run.hi (blocks_of ls) h.index s.run.tiles h.within in
    let a = ap (λ (y : Block). y.key.start) h.found in
    let z = ap (λ (y : Block). y.key.end) h.found in
    omega (arith, u, p.some, e)

-- A space after a call that frees k.
pub record IsAfterFree (k : Range) (old new : Subtree (List Block)) (answer : Option ℕ) : Type 0 where
  pub space : AreSpace new.leaves
  pub freed : MatchOption answer ((new ≡ old) × ¬ Holds k (blocks_of old.leaves))
      (λ joined. FreesBlock k (blocks_of old.leaves) (blocks_of new.leaves) × (length (blocks_of old.leaves) ≡ length (blocks_of new.leaves) + joined))

pub after_free : (k : Range) (old new : Subtree (List Block)) (answer : Option ℕ) → AreSpace old.leaves → IsInLeaf k.start (blocks_of old.leaves)
    → FreesLeaves k old.leaves new.leaves answer → (answer ≡ None → new ≡ old) → IsAfterFree k old new answer
after_free k old new None s a h u = record {
  space = subst AreSpace (sym h.0) s;
  freed = (u refl, refused_space k old.leaves s a.from a.upto h.1);
}
after_free k old new (Some joined) s a h u = record {
  space = freed_space k joined old.leaves new.leaves s h;
  freed = (h.frees, h.loss);
}
