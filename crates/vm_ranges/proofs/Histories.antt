-- Histories of every kind of object, from facts of its calls.
use Rattle.std.proofs.Common.{◌≡◌, ◌≢◌, List, [], ◌∷◌, ◌++◌, map, refl, sym, ap, ◌∙◌, subst, Result, Err}
use Rattle.std.proofs.lemmas.List.Elements.{All-nil, All-cons, All-head, All-tail}
use Rattle.vm_ranges.specs.Histories.{CallOf, RunsOutOfMemory, IsHistory, EveryCallIsAnswered, EveryListHasHistory, CallsAreDetermined, SameCallsSameResults}
use Rattle.vm_ranges.specs.declared.error.Error.{Error}
use Rattle.vm_ranges.specs.declared.error.Error.TheVariants.{OutOfMemory}

-- ---- Histories in two parts, and facts that each call keeps
module _ {State Call : Type 0} (IsCall : State → Call → State → Type 0) where
  -- A history that starts where another one ends is appended to it.
  pub history_append : (xs ys : List Call) (first mid last : State) → IsHistory IsCall first xs mid → IsHistory IsCall mid ys last →
      IsHistory IsCall first (xs ++ ys) last
  history_append [] ys first mid last h k = subst (λ (v : State). IsHistory IsCall v ys last) h k
  history_append (x ∷ xs) ys first mid last h k = (h.0, h.1, history_append xs ys h.0 mid last h.2 k)

  -- A history of two parts has a state between them.
  pub state_between : (xs ys : List Call) (first last : State) → IsHistory IsCall first (xs ++ ys) last →
      (mid : State) × IsHistory IsCall first xs mid × IsHistory IsCall mid ys last
  state_between [] ys first last h = (first, refl, h)
  state_between (x ∷ xs) ys first last h =
      let rest = state_between xs ys h.0 last h.2 in (rest.0, (h.0, h.1, rest.1), rest.2)

  -- A fact of the first state that each call keeps is true for the last state.
  pub history_keeps : (P : State → Type 0) → ((call : Call) (old new : State) → P old → IsCall old call new → P new) →
      (calls : List Call) (first last : State) → P first → IsHistory IsCall first calls last → P last
  history_keeps P keeps [] first last p e = subst P (sym e) p
  history_keeps P keeps (call ∷ calls) first last p h =
      history_keeps P keeps calls h.0 last (keeps call first h.0 p h.1) h.2

-- ---- Results
module _ {State Asked : Type 0} {Value : Asked → Type 0} (IsCall : State → CallOf Value → State → Type 0) where
  -- If every call is answered, every list of calls has a history.
  pub every_list : EveryCallIsAnswered IsCall → EveryListHasHistory IsCall
  every_list total old [] = ([], old, refl, refl, All-nil _)
  every_list total old (asked ∷ more) =
      let a = total old asked in
      let rest = every_list total a.1 more in (
        (asked, a.0) ∷ rest.0,
        rest.1,
        (a.1, a.2, rest.2),
        ap (λ (v : List Asked). asked ∷ v) rest.3,
        All-cons (λ (call : CallOf Value). ¬ RunsOutOfMemory call) (asked, a.0) rest.0 a.3 rest.4,
      )

  -- A call from one state has one result and one next state, if memory does not run out.
  call_once : CallsAreDetermined IsCall → (c d : CallOf Value) (old new later : State) → d.0 ≡ c.0 → ¬ RunsOutOfMemory c →
      ¬ RunsOutOfMemory d → IsCall old c new → IsCall old d later → (c ≡ d) × (new ≡ later)
  call_once once c d old new later e p m h k =
      let own : (y : Result (Value c.0) Error) × (d ≡ (c.0, y)) =
      subst (λ (v : Asked). (y : Result (Value v) Error) × (d ≡ (v, y))) e (d.1, refl) in
      let plain : own.0 ≢ Err OutOfMemory = subst (λ (v : CallOf Value). ¬ RunsOutOfMemory v) own.1 m in
      let same = once old new later c.0 c.1 own.0 p plain h (subst (λ (v : CallOf Value). IsCall old v later) own.1 k) in
      (ap (λ (y : Result (Value c.0) Error). (c.0, y)) same.0 ∙ sym own.1, same.1)

  -- The same calls from the same state have the same results, if memory does not run out.
  pub same_results : CallsAreDetermined IsCall → SameCallsSameResults IsCall
  same_results once old new later [] [] h k e p m = (refl, h ∙ sym k)
  same_results once old new later [] (d ∷ others) h k e p m = absurd (cc e)
  same_results once old new later (c ∷ calls) [] h k e p m = absurd (cc e)
  same_results once old new later (c ∷ calls) (d ∷ others) h k e p m =
      let first : d.0 ≡ c.0 = cc in
      let rest : map (λ (v : CallOf Value). v.0) calls ≡ map (λ (v : CallOf Value). v.0) others = cc in
      let plain : CallOf Value → Type 0 = λ v. ¬ RunsOutOfMemory v in
      let one = call_once once c d old h.0 k.0 first (All-head plain c calls p) (All-head plain d others m) h.1 k.1 in
      let after = subst (λ (v : State). IsHistory IsCall v others later) (sym one.1) k.2 in
      let i = same_results once h.0 new later calls others h.2 after rest (All-tail plain c calls p) (All-tail plain d others m) in
      (ap (λ (v : CallOf Value). v ∷ calls) one.0 ∙ ap (λ (v : List (CallOf Value)). d ∷ v) i.0, i.1)
