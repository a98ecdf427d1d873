-- A held block at an end of a leaf that is freed in steps: lists of blocks before and after each step.
use Rattle.std.proofs.Common.{◌≡◌, ◌<◌, List, [], ◌∷◌, ◌++◌, length, refl, ap, ◌∙◌, sym, arith, append_assoc}
use Rattle.vm_ranges.specs.Range.{Range}
use Rattle.vm_ranges.specs.declared.state.NodeState.{NodeState}
use Rattle.vm_ranges.specs.declared.state.NodeState.TheVariants.{Free, Allocated}
use Rattle.vm_leaf.specs.declared.block.Block.{Block}
use Rattle.vm_leaf.specs.Block.{free_block, held_block}
use Rattle.vm_leaf.specs.Blocks.{with_free, join_if, freed_on, freed_between}
use Rattle.vm_space.specs.Frees.{FreesBlock}
use Rattle.vm_space.specs.Edges.{rest_if, left_of, end_if, end_before, start_if, low_if, low_of}
use Rattle.vm_space.proofs.Frees.{freed_under, with_free_append}

-- At the edge of a leaf whose neighbour is held: the leaf is freed alone.
join_held : (g : Block) (k : Range) (us : List Block) → g.state ≡ Allocated → join_if g.state k g us ≡ free_block k ∷ g ∷ us
join_held g k us e = ap (λ (s : NodeState). join_if s k g us) e

over_held : (s : NodeState) (x g : Block) (k : Range) (r : List Block) → g.state ≡ Allocated → freed_on s x k [] ++ g ∷ r ≡ freed_on s x k (g ∷ r)
over_held Free x g k r e = sym (join_held g (record { start = x.key.start; end = k.end }) r e)
over_held Allocated x g k r e = ap (λ (b : List Block). x ∷ b) (sym (join_held g k r e))

held_after : (m : List Block) (g : Block) (r : List Block) (k : Range) → g.state ≡ Allocated → freed_between m k [] ++ g ∷ r ≡ freed_between m k (g ∷ r)
held_after [] g r k e = sym (join_held g k r e)
held_after (x ∷ []) g r k e = over_held x.state x g k r e
held_after (x ∷ y ∷ m) g r k e = ap (λ (b : List Block). x ∷ b) (held_after (y ∷ m) g r k e)

pub before_held : (k : Range) (a lower : List Block) (g : Block) (r : List Block) → 0 < length lower → g.state ≡ Allocated
    → FreesBlock k (a ++ ((lower ++ held_block k ∷ []) ++ g ∷ r)) (a ++ (freed_between lower k [] ++ g ∷ r))
before_held k a lower g r m e = record {
  lower = a ++ lower;
  upper = g ∷ r;
  before = ap (λ xs. a ++ xs) (append_assoc lower (held_block k ∷ []) (g ∷ r)) ∙ sym (append_assoc a lower (held_block k ∷ (g ∷ r)));
  after = ap (λ xs. a ++ xs) (held_after lower g r k e) ∙ sym (freed_under a lower (g ∷ r) k m);
}

held_before : (m : List Block) (g : Block) (us : List Block) (k : Range) → g.state ≡ Allocated
    → (m ++ g ∷ []) ++ with_free k us ≡ freed_between (m ++ g ∷ []) k us
held_before m g us k e =
    append_assoc m (g ∷ []) (with_free k us) ∙ ap (λ (z : List Block). m ++ z) (sym (ap (λ (s : NodeState). freed_on s g k us) e))
    ∙ sym (freed_under m (g ∷ []) us k (omega arith))

pub after_held : (k : Range) (m : List Block) (g : Block) (upper b : List Block) → 0 < length upper → g.state ≡ Allocated
    → FreesBlock k ((m ++ g ∷ []) ++ ((held_block k ∷ upper) ++ b)) ((m ++ g ∷ []) ++ (with_free k upper ++ b))
after_held k m g upper b n e = record {
  lower = m ++ g ∷ [];
  upper = upper ++ b;
  before = refl;
  after = ap (λ xs. (m ++ g ∷ []) ++ xs) (with_free_append k upper b n) ∙ held_before m g (upper ++ b) k e;
}

-- The first block of a leaf is next to a gap g at the end of the leaf before it. First g is extended over the block and over the
-- gap after it, and then both are dropped from their leaf.
end_is : (s : NodeState) (k : Range) (u : Block) (us : List Block) → join_if s k u us ≡ free_block (record { start = k.start; end = (end_if s k.end u) }) ∷ rest_if s u us
end_is Free k u us = refl
end_is Allocated k u us = refl

with_free_is : (k : Range) (us : List Block) → with_free k us ≡ free_block (record { start = k.start; end = (end_before k.end us) }) ∷ left_of us
with_free_is k [] = refl
with_free_is k (u ∷ us) = end_is u.state k u us

rest_append : (s : NodeState) (u : Block) (us b : List Block) → rest_if s u (us ++ b) ≡ rest_if s u us ++ b
rest_append Free u us b = refl
rest_append Allocated u us b = refl

pub left_edge : (k : Range) (m : List Block) (g : Block) (upper b : List Block) → 0 < length upper → g.state ≡ Free
    → FreesBlock k ((m ++ g ∷ []) ++ ((held_block k ∷ upper) ++ b))
    ((m ++ free_block (record { start = g.key.start; end = (end_before k.end upper) }) ∷ []) ++ (left_of upper ++ b))
left_edge k m g [] b n e = absurd (omega arith)
left_edge k m g (u ∷ us) b n e = record {
  lower = m ++ g ∷ [];
  upper = u ∷ us ++ b;
  before = refl;
  after =
      append_assoc m (free_block (record { start = g.key.start; end = (end_if u.state k.end u) }) ∷ []) (rest_if u.state u us ++ b)
      ∙ ap (λ xs. m ++ (free_block (record { start = g.key.start; end = (end_if u.state k.end u) }) ∷ xs)) (sym (rest_append u.state u us b))
      ∙ ap (λ xs. m ++ xs) (sym (with_free_is (record { start = g.key.start; end = k.end }) (u ∷ us ++ b)) ∙ sym (ap (λ (s : NodeState). freed_on s g k (u ∷ us ++ b)) e))
      ∙ sym (freed_under m (g ∷ []) (u ∷ us ++ b) k (omega arith));
}

-- The last block of a leaf is next to a gap g at the start of the next leaf. First g is extended down over the block and over the
-- gap before it, and then both are dropped from their leaf.
join_free : (g : Block) (k : Range) (us : List Block) → g.state ≡ Free → join_if g.state k g us ≡ free_block (record { start = k.start; end = g.key.end }) ∷ us
join_free g k us e = ap (λ (s : NodeState). join_if s k g us) e

on_gap : (s : NodeState) (a m : List Block) (x g : Block) (k : Range) (r : List Block) → g.state ≡ Free
    → (a ++ m) ++ freed_on s x k (g ∷ r) ≡ (a ++ low_if s m x) ++ free_block (record { start = (start_if s k.start x); end = g.key.end }) ∷ r
on_gap Free a m x g k r e = ap (λ xs. (a ++ m) ++ xs) (join_free g (record { start = x.key.start; end = k.end }) r e)
on_gap Allocated a m x g k r e =
    ap (λ xs. (a ++ m) ++ (x ∷ xs)) (join_free g k r e)
    ∙ sym (append_assoc (a ++ m) (x ∷ []) (free_block (record { start = k.start; end = g.key.end }) ∷ r))
    ∙ ap (λ xs. xs ++ free_block (record { start = k.start; end = g.key.end }) ∷ r) (append_assoc a m (x ∷ []))

pub right_edge : (k : Range) (a m : List Block) (x g : Block) (r : List Block) → g.state ≡ Free
    → FreesBlock k ((a ++ (m ++ x ∷ held_block k ∷ [])) ++ g ∷ r)
    ((a ++ low_of m x) ++ free_block (record { start = (start_if x.state k.start x); end = g.key.end }) ∷ r)
right_edge k a m x g r e = record {
  lower = (a ++ m) ++ x ∷ [];
  upper = g ∷ r;
  before =
      ap (λ xs. xs ++ g ∷ r) (sym (append_assoc a m (x ∷ held_block k ∷ []))) ∙ append_assoc (a ++ m) (x ∷ held_block k ∷ []) (g ∷ r)
      ∙ sym (append_assoc (a ++ m) (x ∷ []) (held_block k ∷ g ∷ r));
  after = sym (on_gap x.state a m x g k r e) ∙ sym (freed_under (a ++ m) (x ∷ []) (g ∷ r) k (omega arith));
}
