use Rattle.std.proofs.Common.{ℕ, nat_le, ap, ◌∙◌, ◌≤◌, ◌++◌, ◌∷◌, [], arith, sym, subst}
use Rattle.std.specs.Option.{is_some}
use Rattle.std.proofs.lemmas.Bool.{true≢false}
use Rattle.std.proofs.lemmas.Option.{same_Some}
use Rattle.std.proofs.lemmas.List.{append-nil}
use Rattle.std.proofs.lemmas.List.Elements.{All-pop}
use Rattle.std.proofs.lemmas.Grind.{flat_map-append}
use Rattle.std.specs.List.{All, filter, flat_map}
use Rattle.std.specs.BTreeSet.{BTreeSet}
use Rattle.vm_list.specs.Runs.{RUNS_END, ids_of_run}
use Rattle.vm_list.specs.declared.id_set.Run.{Run}
use Rattle.vm_list.proofs.RunParts.{part_to, all_to, part_filled, last_is}
use Rattle.vm_list.proofs.id_set.IdSet.runs_to.Goals as goal
use Rattle.vm_list.proofs.id_set.IdSet.runs_to.Goals.{in_default-via-in-Some+then-run-last+else-last-run, in_default-via-in-Some+else-run-last, in_default-via-in_default}

pub returns-in-Some-clause-ids : goal.returns-in-Some-clause-ids
returns-in-Some-clause-ids c =
    let e = rw c.into.ensures at c.iter_between-runs.ensures.entries in
    let f = sym c.in-Some.is ∙ c.run_from.ensures in
    let cut : Run = record { first = c.in-Some.run'.first; last = c.args.last } in
    flat_map-append ids_of_run c.iter_between-runs.result (cut ∷ []) ∙ ap (λ l. flat_map ids_of_run c.iter_between-runs.result ++ l) (append-nil (ids_of_run cut))
    ∙ ap (λ l. flat_map ids_of_run l ++ ids_of_run cut) e
    ∙ part_to c.args.last RUNS_END _ c.self.invariant.0 c.in-Some.run' f c.if-run-last.true c.if-last-run.true
    ∙ ap (λ (s : BTreeSet ℕ). filter (λ i. nat_le i c.args.last) s.keys) c.self.view_is

pub returns-in-Some-clause-others : goal.returns-in-Some-clause-others
returns-in-Some-clause-others c =
    let e = rw c.into.ensures at c.iter_between-runs.ensures.entries in
    subst (λ l. All (λ (r : Run). r.first ≤ r.last) l) (sym e) (part_filled c.args.last RUNS_END _ c.self.invariant.0 0 c.args.last)

pub returns-in_default-clause-ids : goal.returns-in_default-clause-ids
returns-in_default-clause-ids c =
    let e = rw c.into.ensures at c.iter_between-runs.ensures.entries in
    ap (flat_map ids_of_run) (sym (last_is _ _ _ c.highest_run-highest.ensures) ∙ e)
    ∙ all_to c.args.last RUNS_END _ c.self.invariant.0 (λ r f l. elim c.in_default.branch [
      | in_default-via-in-Some+then-run-last+else-last-run w ↦ (
          let g = same_Some r w.in-Some.run' (f ∙ sym c.run_from.ensures ∙ w.in-Some.is) in
          subst (λ (r : Run). r.last ≤ c.args.last) (sym g) w.if-last-run.false)
      | in_default-via-in-Some+else-run-last w ↦ (
          let g = same_Some r w.in-Some.run' (f ∙ sym c.run_from.ensures ∙ w.in-Some.is) in
          let k = subst (λ (r : Run). r.first ≤ c.args.last) g l in
          absurd (omega (arith, k, w.if-run-last.false)))
      | in_default-via-in_default w ↦ absurd (true≢false (ap is_some (f ∙ sym c.run_from.ensures ∙ w.in_default.is)))
    ])
    ∙ ap (λ (s : BTreeSet ℕ). filter (λ i. nat_le i c.args.last) s.keys) c.self.view_is

pub returns-in_default-clause-others : goal.returns-in_default-clause-others
returns-in_default-clause-others c =
    let e = rw c.into.ensures at c.iter_between-runs.ensures.entries in
    (All-pop (λ (r : Run). r.first ≤ r.last) _ _ _ (sym e ∙ last_is _ _ _ c.highest_run-highest.ensures)
    (part_filled c.args.last RUNS_END _ c.self.invariant.0 0 c.args.last)).0

pub returns-in_default-clause-highest : goal.returns-in_default-clause-highest
returns-in_default-clause-highest c =
    let e = rw c.into.ensures at c.iter_between-runs.ensures.entries in
    (All-pop (λ (r : Run). r.first ≤ r.last) _ _ _ (sym e ∙ last_is _ _ _ c.highest_run-highest.ensures)
    (part_filled c.args.last RUNS_END _ c.self.invariant.0 0 c.args.last)).1
