-- The highest run.
use Rattle.std.proofs.Common.{◌≡◌, ℕ, ◌+◌, List, [], ◌∷◌, nat_lt, arith, sym, ◌∙◌, subst, refl, Option, Some, MatchOption}
use Rattle.std.specs.List.{find}
use Rattle.std.proofs.lemmas.Bool.{cond-true, lt-ltb}
use Rattle.vm_list.specs.declared.id_set.Run.{Run}
use Rattle.vm_list.specs.Entries.{highest_below}
use Rattle.vm_list.specs.Runs.{AreRuns, last_of}

abbrev IsTop : List Run → Option Run → Type 0
IsTop rs o = MatchOption o (rs ≡ []) (λ e. (others : List Run) × (rs ≡ e ∷ others))

-- A run below all ids from `id` on is the first one.
pub top_run : (id : ℕ) (rs : List Run) (o : Option Run) → AreRuns (id + 1) rs → o ≡ highest_below last_of id rs → IsTop rs o
unfolding highest_below
top_run id [] o a e = subst (IsTop []) (sym e) refl
top_run id (r ∷ rs) o a e =
    subst (IsTop (r ∷ rs)) (sym (e ∙ cond-true (nat_lt r.last id) (Some r) (find (λ (x : Run). nat_lt x.last id) rs) (lt-ltb _ _ (omega (arith, a.1))))) (rs, refl)
