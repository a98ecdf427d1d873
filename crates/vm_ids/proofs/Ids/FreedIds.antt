-- Freeing a held id.
use Rattle.std.proofs.Common.{◌≡◌, ℕ, ◌<◌, ◌≤◌, false, refl, sym, ap, ◌∙◌, arith, inl, inr, Option, Ok, Err, IsTrue, subst}
use Rattle.std.specs.Ordering.{nat_cmp}
use Rattle.std.specs.BTreeSet.{BTreeSet, contains}
use Rattle.vm_list.specs.Runs.{Adds}
use Rattle.vm_ids.specs.Ids.{IdState, IsOfRange, WasEverAllocated, releasing_id, FreesId, bound_of, ids_of, AreIds}
use Rattle.vm_ranges.specs.declared.error.Error.TheVariants.{OutOfRange, AlreadyReleased, NeverAllocated, OutOfMemory}
use Rattle.vm_ids.proofs.Ids.IdSets.{tests, same_state}
use Rattle.vm_ids.proofs.Ids.IdFields.{holds, holds_not}
use Rattle.vm_ids.proofs.Ids.AllocatedIds.{takes_same, same_ids}

pub frees_outside : (old : IdState) (k : ℕ) → (IsOfRange old k → ⊥) → FreesId old k (Err (OutOfRange k)) old
unfolding FreesId
frees_outside old k n = inl (n, (refl, refl))

pub frees_never : (old : IdState) (k : ℕ) → IsOfRange old k → (WasEverAllocated old k → ⊥) → FreesId old k (Err (NeverAllocated k)) old
unfolding FreesId
frees_never old k r n = inr (r, inl (n, (refl, refl)))

module _ (old : IdState) (lo hi k : ℕ) (next : Option ℕ) (freed more : BTreeSet ℕ) (e : ids_of lo hi next freed ≡ old) where
  pub frees_again : IsOfRange old k → WasEverAllocated old k → IsTrue (contains nat_cmp freed k) → more ≡ freed →
      FreesId old k (Err (AlreadyReleased k)) (ids_of lo hi next more)
  unfolding FreesId
  frees_again r h t same =
      inr (r, inr (h, inl (holds_not old lo hi next freed e k t, (refl, takes_same lo hi next freed more same ∙ e))))

  pub frees_held : IsOfRange old k → WasEverAllocated old k → contains nat_cmp freed k ≡ false → Adds k freed more →
      FreesId old k (Ok k) (ids_of lo hi next more)
  unfolding FreesId ids_of
  frees_held r h t u =
      let one = same_state (ids_of lo hi next more) (releasing_id k (ids_of lo hi next freed)) refl refl refl
      (λ q. grind (arith, tests, u q)) in
      inr (r, inr (h, inr (holds old lo hi next freed e k h t, inl (refl, one ∙ ap (releasing_id k) e))))

  pub frees_no_memory : IsOfRange old k → WasEverAllocated old k → contains nat_cmp freed k ≡ false → more ≡ freed →
      FreesId old k (Err OutOfMemory) (ids_of lo hi next more)
  unfolding FreesId
  frees_no_memory r h t same =
      inr (r, inr (h, inr (holds old lo hi next freed e k h t, inr (refl, takes_same lo hi next freed more same ∙ e))))

  pub keeps_more : AreIds lo hi next freed → WasEverAllocated old k → Adds k freed more → AreIds lo hi next more
  unfolding ids_of
  keeps_more a h u =
      let was : (lo ≤ k) × (k < bound_of next hi) = rw (← e) at h in
      record { range = a.range; ids = a.ids; next_id = a.next_id; freed_ids = λ i t. grind (arith, u i, a.freed_ids i, was) }

pub keeps_same : (lo hi : ℕ) (next : Option ℕ) (freed more : BTreeSet ℕ) → AreIds lo hi next freed → more ≡ freed →
    AreIds lo hi next more
keeps_same lo hi next freed more a same = subst (λ (s : BTreeSet ℕ). AreIds lo hi next s) (sym same) a

pub ruleset frees = (frees_outside, frees_never, frees_again, frees_held, frees_no_memory, keeps_more, keeps_same, holds_not, same_ids)
