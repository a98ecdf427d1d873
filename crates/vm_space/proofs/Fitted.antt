-- A place of a search that is allocated in a leaf.
use Rattle.std.specs.Prelude.{Result, Ok, Err, OnErr}
use Rattle.std.proofs.Common.{◌≡◌, ◌<◌, List, ◌∷◌, ◌++◌, ap, sym, subst, inl, inr}
use Rattle.vm_leaf.specs.declared.block.Block.{Block}
use Rattle.vm_space.specs.Allocation.{AllocatesFit}
use Rattle.vm_tree.specs.declared.end.End.{End}
use Rattle.vm_space.specs.declared.search.Search.{Search}
use Rattle.vm_space.specs.declared.search.Taken.{Taken}
use Rattle.vm_space.specs.declared.search.Refusal.{Refusal}
use Rattle.vm_tree.specs.Subtree.{Subtree}
use Rattle.vm_space.specs.Leaves.{blocks_of, HaveBlocks}
use Rattle.vm_space.specs.Spaces.{AreSpace}
use Rattle.vm_space.specs.Fitting.{FitsAt, FitsTree}
use Rattle.vm_space.proofs.Allocating.{run_allocated}
use Rattle.vm_space.proofs.Exacts.{below_taken}
use Rattle.vm_space.proofs.Searched.{closest_allocated, fit_middle}
use Rattle.vm_space.proofs.Spaces.{blocks_cut, blocks_new, have_append, have_left, have_right}

module _ (end : End) (seek : Search) (z : 0 < seek.size) (old new : List (List Block)) (space : AreSpace old) where
  fit_at : (answer : Result Taken Refusal) → FitsAt end seek old new answer → AllocatesFit end seek (blocks_of old) (blocks_of new) answer
  fit_at answer h =
      rw (h.was, h.is)
      (rw (blocks_cut h.before h.leaf h.after, blocks_new h.before h.leaves h.after)
      (fit_middle end seek (blocks_of h.before) h.leaf (blocks_of h.leaves) (blocks_of h.after) answer h.none (h.place, h.closest, h.settles)))

  pub fit_answer : (answer : Result Taken Refusal) → FitsTree end seek old new answer → AllocatesFit end seek (blocks_of old) (blocks_of new) answer
  fit_answer answer h = elim h [ inl x ↦ inl (x.1, x.2) | inr x ↦ fit_at answer x ]

  space_at : (answer : Result Taken Refusal) → FitsAt end seek old new answer → OnErr answer (new ≡ old) → AreSpace new
  space_at (Err refusal) h e = subst AreSpace (sym e) space
  space_at (Ok taken) h e =
      let a = closest_allocated end seek (blocks_of old) (blocks_of new) taken z (fit_at (Ok taken) h) in
      let have : HaveBlocks (h.before ++ h.leaf ∷ h.after) = subst HaveBlocks h.was space.some in
      record {
        run = run_allocated seek (blocks_of old) (blocks_of new) taken space.run a;
        some = subst HaveBlocks (sym h.is)
            (have_append h.before (h.leaves ++ h.after) (have_left h.before (h.leaf ∷ h.after) have)
            (have_append h.leaves h.after h.some (have_right h.before (h.leaf ∷ h.after) have).1));
        below = below_taken seek (blocks_of old) (blocks_of new) taken space.below a;
      }

  pub fit_space : (answer : Result Taken Refusal) → FitsTree end seek old new answer → OnErr answer (new ≡ old) → AreSpace new
  fit_space answer h e = elim h [ inl x ↦ subst AreSpace (sym x.0) space | inr x ↦ space_at answer x e ]

pub leaves_same : (old new : Subtree (List Block)) (answer : Result Taken Refusal) → OnErr answer (new ≡ old) → OnErr answer (new.leaves ≡ old.leaves)
leaves_same old new (Ok taken) h = tt
leaves_same old new (Err refusal) h = ap (λ (s : Subtree (List Block)). s.leaves) h
