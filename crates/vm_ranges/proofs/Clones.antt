-- A clone has the state of the original.
use Rattle.std.proofs.Common.{◌≡◌, ◌≢◌, sym, ap, ◌∙◌, ⊎_elim, Result, Ok, Err}
use Rattle.std.specs.Result.{result_unwrap_or}
use Rattle.vm_ranges.specs.Cloning.{Clones}
use Rattle.vm_ranges.specs.declared.error.Error.{Error}
use Rattle.vm_ranges.specs.declared.error.Error.TheVariants.{OutOfMemory}

-- A clone that was made is equal to the original.
pub clone_is : {X : Type 0} (original clone : X) → Clones original (Ok clone) → clone ≡ original
clone_is original clone h = ⊎_elim (λ e. cc e) (λ e. absurd (cc e)) h

-- The state does not change, whether a clone was made or not.
pub cloning_keeps : {X : Type 0} (old new : X) (answer : Result X Error) → Clones old answer → new ≡ result_unwrap_or answer old → new ≡ old
cloning_keeps {X} old new answer h e =
    let left : Result X Error → X = λ a. result_unwrap_or a old in
    ⊎_elim (λ k. e ∙ ap left k) (λ k. e ∙ ap left k) h

-- Cloning has one result and one next state, if it does not return OutOfMemory.
pub clones_once : {X : Type 0} (old new later : X) (answer other : Result X Error) → answer ≢ Err OutOfMemory → other ≢ Err OutOfMemory →
    Clones old answer × (new ≡ result_unwrap_or answer old) → Clones old other × (later ≡ result_unwrap_or other old) →
    (answer ≡ other) × (new ≡ later)
clones_once old new later answer other p m h k = (
  ⊎_elim (λ e. ⊎_elim (λ f. e ∙ sym f) (λ f. absurd (m f)) k.0) (λ e. absurd (p e)) h.0,
  cloning_keeps old new answer h.0 h.1 ∙ sym (cloning_keeps old later other k.0 k.1),
)
