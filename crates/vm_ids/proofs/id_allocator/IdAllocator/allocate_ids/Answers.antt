-- Each turn takes the lowest free id, so the list has the first free ids. The prover does not join lists, and lemmas by induction do.
use Rattle.std.proofs.Common.{◌≡◌, ◌≤◌, ◌<◌, ◌++◌, [], ◌∷◌, List, ℕ, length, sym, ap, ◌∙◌, arith, rules, Err}
use Rattle.std.proofs.lemmas.List.{length-append}
use Rattle.std.specs.Vec.{vec_len, vec_capacity}
use Rattle.vm_ranges.specs.declared.error.Error.TheVariants.{OutOfMemory}
use Rattle.vm_ids.specs.Ids.{holding_id}
use Rattle.vm_ids.specs.IdRequests.{free_ids, holding_ids}
use Rattle.vm_ids.proofs.Ids.ExactIds.{not_ok}
use Rattle.vm_ids.proofs.Ids.FreeIds.{more_free, taken_more, taken_all, holding_more, ids_no_memory, ids_taken}
use Rattle.vm_ids.proofs.id_allocator.IdAllocator.allocate_ids.Goals as goal

pub returns-in_err-ids-clause-answer : goal.returns-in_err-ids-clause-answer
returns-in_err-ids-clause-answer c =
    let is : c.from_residual.result ≡ Err OutOfMemory = search rules in
    let enough : c.args.count ≤ length (free_ids c.args.self.now) = omega
    (arith, c.if-free_count-count.false, c.free_count.ensures.value) in
    let apart : c.args.count ≡ 0 → ⊥ = λ e. not_ok _ _ c.in_err-ids.was (c.with_capacity.ensures.succeeds e) in
    rw is (ids_no_memory c.args.self.now c.args.count enough (omega (arith, apart)))

pub loop-init : goal.loop-init
loop-init c =
    let none : c.in_ok-ids.ids.items ≡ [] = c.in_ok-ids.ensures.items in
    record {
      parts = ap (λ (xs : List ℕ). xs ++ free_ids c.args.self.now) (sym none);
      state = ap (λ (xs : List ℕ). holding_ids xs c.args.self.now) (sym none);
      taken = ap length none;
      capacity = c.in_ok-ids.ensures.capacity;
    }

pub unreachable-requires : goal.unreachable-requires
unreachable-requires c =
    let v = c.loop.invariant in
    let few : length c.loop.ids.items < length (free_ids c.args.self.now) = omega
    (arith, c.loop-test.true, v.taken, c.if-free_count-count.false, c.free_count.ensures.value) in
    not_ok _ _ c.in_default.is (more_free c.args.self.now c.loop.self c.loop.ids.items c.allocate_id.result v.parts few
    c.allocate_id.ensures.succeeds)

pub unreachable-requires-in_default-push : goal.unreachable-requires-in_default-push
unreachable-requires-in_default-push c =
    let v = c.loop.invariant in
    let room : vec_len c.loop.ids < vec_capacity c.loop.ids = omega (arith, c.loop-test.true, v.taken, v.capacity) in
    not_ok _ _ c.in_default-push.is (c.push.ensures.succeeds room)

pub loop-preserved : goal.loop-preserved
loop-preserved c =
    let v = c.loop.invariant in
    let held : c.allocate_id.new.self ≡ holding_id c.in-Ok.id c.loop.self = c.in-Ok.ensures.held in
    let items : c.push.new.self.items ≡ c.loop.ids.items ++ c.in-Ok.id ∷ [] = c.in-Ok-push.ensures.items in
    record {
      parts = taken_more c.args.self.now c.loop.self c.allocate_id.new.self c.loop.ids.items c.in-Ok.id v.parts
          c.in-Ok.ensures.lowest held
          ∙ ap (λ (xs : List ℕ). xs ++ free_ids c.allocate_id.new.self) (sym items);
      state = held ∙ ap (holding_id c.in-Ok.id) v.state ∙ sym (holding_more c.loop.ids.items c.in-Ok.id c.args.self.now)
          ∙ ap (λ (xs : List ℕ). holding_ids xs c.args.self.now) (sym items);
      taken = let l = ap length items ∙ length-append c.loop.ids.items (c.in-Ok.id ∷ []) in omega (arith, l, v.taken);
      capacity = omega (arith, v.capacity, c.in-Ok-push.ensures.capacity);
    }

-- As many ids as asked for were taken.
count_taken : (c : goal.After-loop) → length c.loop.ids.items ≡ c.args.count
count_taken c = omega (arith, c.loop.invariant.taken, c.loop-test.false, c.loop.auto.counter-end)

pub returns-clause-ids : goal.returns-clause-ids
returns-clause-ids c = taken_all c.args.self.now c.loop.self c.loop.ids.items c.args.count c.loop.invariant.parts (count_taken c)

pub returns-clause-held : goal.returns-clause-held
returns-clause-held c = c.loop.invariant.state

pub returns-clause-answer : goal.returns-clause-answer
returns-clause-answer c =
    ids_taken c.args.self.now c.loop.self c.args.count c.loop.ids.items c.loop.invariant.parts (count_taken c) c.loop.invariant.state
