-- Which saved trees are accepted, by the span of the root.
use Rattle.std.proofs.Common.{◌≡◌, ℕ, ◌+◌, ◌≤◌, true, false, ◌&&◌, leb, eqb, List, [], ◌∷◌, Option, Some, None, refl, sym, ◌∙◌, subst, arith, true≢false}
use Rattle.std.proofs.lemmas.Bool.{and_parts, and_from, leb-true, le-leb, eqb-true, eq-eqb}
use Rattle.vm_ranges.specs.Range.{Range, MAX}
use Rattle.vm_ranges.specs.Address.{AddressState}
use Rattle.vm_ranges.specs.Answer.{SPLIT_LIMIT_MIN_HELD}
use Rattle.vm_leaf.specs.declared.block.Block.{Block}
use Rattle.vm_leaf.specs.Blocks.{Tiles}
use Rattle.vm_leaf.specs.SpaceBlocks.{TilesSpace, AreKeysIn}
use Rattle.vm_leaf.specs.TreeHeights.{MAX_HEIGHT}
use Rattle.vm_saved_trees.specs.SavedTrees.{Saved, Absent, saved_blocks, held_keys, IsSavedTree, HasHeldKeys, HasTreeOf, HasHeldAs}
use Rattle.vm_saved_trees.specs.Spans.{StandsFor, is_accepted, is_inside, is_tree_of}
use Rattle.vm_saved_trees.specs.declared.span.Form.{Form}
use Rattle.vm_saved_trees.specs.declared.span.Form.TheVariants.{Strict, Repaired}
use Rattle.vm_saved_trees.specs.declared.span.Span.{Span}
use Rattle.vm_ranges.specs.declared.state.NodeState.TheVariants.{Allocated}
use Rattle.vm_saved_trees.proofs.SavedNodes.KeyLists.{keys_from, keys_to, last_above, tiles_cut}
use Rattle.vm_saved_trees.proofs.SavedNodes.Meanings.{MeansAll}
use Rattle.vm_saved_trees.proofs.SavedNodes.Spans.{sound}

abbrev pub state_with : Range → List Range → AddressState
state_with space held = record { space = space; held = held }

-- ---- With repairs

root_inside : (space : Range) (o : Option Span) (t : Saved) → space.end ≤ MAX → MeansAll o t → is_inside space o ≡ true →
    HasHeldKeys space t (state_with space (held_keys t))
root_inside space None t v m e =
    rw m (record { nested = omega arith; keys = tt; below = tt; few = omega arith; held = refl; is_space = refl })
root_inside space (Some s) t v m e =
    let z = m.ends in
    let p = and_parts (leb space.start s.first) _ e in
    let q = and_parts (leb s.last space.end) (leb s.held SPLIT_LIMIT_MIN_HELD) p.1 in
    let lo = leb-true space.start s.first p.0 in
    let hi = leb-true s.last space.end q.0 in
    let few = leb-true s.held SPLIT_LIMIT_MIN_HELD q.1 in
    let a = m.first_start in
    let b = m.last_end in
    let c = m.held in
    let from = keys_from 0 space.start MAX z.first z.rest (omega arith)
    (subst (λ (x : List Block). AreKeysIn 0 x MAX) z.first_is m.readable.keys) in
    let to = keys_to space.start MAX space.end z.before z.last (omega arith)
    (subst (λ (x : List Block). AreKeysIn space.start x MAX) (sym z.first_is ∙ z.last_is) from) in
    record {
      nested = m.readable.nested;
      keys = subst (λ (x : List Block). AreKeysIn space.start x space.end) (sym z.last_is) to;
      below = m.readable.below;
      few = omega arith;
      held = refl;
      is_space = refl;
    }

inside_root : (space : Range) (o : Option Span) (t : Saved) (x : AddressState) → MeansAll o t → HasHeldKeys space t x →
    is_inside space o ≡ true
inside_root space None t x m h = refl
inside_root space (Some s) t x m h =
    let z = m.ends in
    let a = m.first_start in
    let b = m.last_end in
    let c = m.held in
    let few = h.few in
    let first = (subst (λ (v : List Block). AreKeysIn space.start v space.end) z.first_is h.keys).0 in
    let last = (last_above space.start space.end z.before z.last
    (subst (λ (v : List Block). AreKeysIn space.start v space.end) z.last_is h.keys)).2 in
    and_from _ _ (le-leb space.start s.first (omega arith))
    (and_from _ _ (le-leb s.last space.end (omega arith)) (le-leb s.held SPLIT_LIMIT_MIN_HELD (omega arith)))

-- ---- Node for node

root_tree : (space : Range) (o : Option Span) (t : Saved) → MeansAll o t → is_tree_of space o ≡ true → IsSavedTree space t
unfolding TilesSpace
root_tree space None t m e = absurd (cc)
root_tree space (Some s) t m e =
    let p = and_parts (s.is_exact && leb s.nesting MAX_HEIGHT) _ e in
    let q = and_parts s.is_exact (leb s.nesting MAX_HEIGHT) p.0 in
    let w = and_parts (eqb s.first space.start) (eqb s.last space.end) p.1 in
    let n = leb-true s.nesting MAX_HEIGHT q.1 in
    let a = m.nesting in
    let x = m.exact q.0 in
    let z = m.ends in
    let first = eqb-true s.first space.start w.0 in
    let last = eqb-true s.last space.end w.1 in
    record {
      some_node = λ (f : t ≡ Absent). absurd
          (let g : [] ≡ z.first ∷ z.rest = subst (λ (y : Saved). saved_blocks y ≡ z.first ∷ z.rest) f z.first_is in cc);
      heights = x.heights;
      nested = omega arith;
      balanced = x.balanced;
      blocks = record {
        tiles = subst (λ (y : ℕ). Tiles Allocated y (saved_blocks t) space.end) first
            (subst (λ (y : ℕ). Tiles Allocated s.first (saved_blocks t) y) last x.tiles);
        below = m.readable.below;
      };
    }

tree_root : (space : Range) (o : Option Span) (t : Saved) → MeansAll o t → IsSavedTree space t → is_tree_of space o ≡ true
unfolding TilesSpace
tree_root space None t m h = absurd (h.some_node m)
tree_root space (Some s) t m h =
    let z = m.ends in
    let a = m.first_start in
    let b = m.last_end in
    let c = m.nesting in
    let n = h.nested in
    let first : z.first.key.start ≡ space.start =
    (subst (λ (v : List Block). Tiles Allocated space.start v space.end) z.first_is h.blocks.tiles).0 in
    let cut = tiles_cut Allocated space.start space.end z.before z.last []
    (subst (λ (v : List Block). Tiles Allocated space.start v space.end) z.last_is h.blocks.tiles) in
    let end : z.last.key.end + 1 ≡ space.end + 1 = cut.1 in
    let is_first : s.first ≡ space.start = omega arith in
    let is_last : s.last ≡ space.end = omega arith in
    let tiles : Tiles Allocated s.first (saved_blocks t) s.last = rw (is_first, is_last) h.blocks.tiles in
    let exact = m.all_exact (record { heights = h.heights; balanced = h.balanced; tiles = tiles }) in
    and_from _ _ (and_from _ _ exact (le-leb s.nesting MAX_HEIGHT (omega arith)))
    (and_from _ _ (eq-eqb s.first space.start is_first) (eq-eqb s.last space.end is_last))

strict_with : (space : Range) (o : Option Span) (t : Saved) → StandsFor o t → is_tree_of space o ≡ true →
    HasTreeOf space t (state_with space (held_keys t))
strict_with space o t st e = record { tree = root_tree space o t (sound t o st.ranges st.is_span) e; held = refl; is_space = refl }

-- ---- In either form
module _ (form : Form) (space : Range) (o : Option Span) (t : Saved) (st : StandsFor o t) where
  -- The state of a saved tree that is accepted has its held keys.
  pub accepted : space.end ≤ MAX → is_accepted form space o ≡ true → HasHeldAs form space t (state_with space (held_keys t))
  accepted v e = by_form form e
    where
      by_form : (form : Form) → is_accepted form space o ≡ true → HasHeldAs form space t (state_with space (held_keys t))
      by_form Strict e = strict_with space o t st e
      by_form Repaired e = root_inside space o t v (sound t o st.ranges st.is_span) e

  pub not_accepted : is_accepted form space o ≡ false → (x : AddressState) × HasHeldAs form space t x → ⊥
  not_accepted e h = true≢false (sym (by_form form h.1) ∙ e)
    where
      by_form : (form : Form) → HasHeldAs form space t h.0 → is_accepted form space o ≡ true
      by_form Strict k = tree_root space o t (sound t o st.ranges st.is_span) k.tree
      by_form Repaired k = inside_root space o t h.0 (sound t o st.ranges st.is_span) k

  -- Keys that are those of a saved tree that is accepted.
  pub keys_as : space.end ≤ MAX → is_accepted form space o ≡ true → (keys : List Range) → keys ≡ held_keys t →
      HasHeldAs form space t (state_with space keys)
  keys_as v e keys same = subst (λ (k : List Range). HasHeldAs form space t (state_with space k)) (sym same) (accepted v e)
