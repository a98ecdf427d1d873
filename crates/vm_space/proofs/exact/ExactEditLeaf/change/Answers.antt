use Rattle.std.proofs.Common.{rules, refl, arith}
use Rattle.vm_space.proofs.Taking.{refuses_place, is_full, edits_one}
use Rattle.vm_space.proofs.exact.ExactEditLeaf.change.Goals as goal

pub returns-in-Some-clause-refused : goal.returns-in-Some-clause-refused
returns-in-Some-clause-refused c = λ e. (
  refl,
  λ h. (refuses_place _ _ _ c.args.self.now.valid.some c.in-Ok.place c.in-Ok.ensures.place _ c.in-Some.ensures.refuses, c.in-Some.ensures.memory),
)

pub returns-then-not-has_room-clause-full : goal.returns-then-not-has_room-clause-full
returns-then-not-has_room-clause-full c = λ e. (
  refl,
  refl,
  is_full _ _ _ c.args.self.now.valid.some c.in-Ok.place c.in-Ok.ensures.place c.in_default.ensures.refuses c.len-len.ensures.leaf
      (record { from = omega arith; upto = omega arith }) c.if-not-has_room.ensures,
)

pub returns-clause-changed : goal.returns-clause-changed
returns-clause-changed c = λ e. edits_one _ _ _ c.args.self.now.valid.some c.in-Ok.place c.in-Ok.ensures.place c.in_default.ensures.refuses _ _
    c.take_place-kept.ensures.taken refl c.added.ensures

pub returns-then-kept-clause-same : goal.returns-then-kept-clause-same
returns-then-kept-clause-same c = λ e. (
  c.take_place-kept.ensures.kept (search rules),
  edits_one _ _ _ c.args.self.now.valid.some c.in-Ok.place c.in-Ok.ensures.place c.in_default.ensures.refuses _ _ c.take_place-kept.ensures.taken refl
      c.added.ensures,
)

pub returns-then-not-has_room-clause-needs : goal.returns-then-not-has_room-clause-needs
returns-then-not-has_room-clause-needs c = λ e.
    is_full _ _ _ c.args.self.now.valid.some c.in-Ok.place c.in-Ok.ensures.place c.in_default.ensures.refuses c.len-len.ensures.leaf
    (record { from = omega arith; upto = omega arith }) c.if-not-has_room.ensures
