-- The range of the device starts elsewhere, or at the same address. The prover does not distinguish these cases after the branches join.
use Rattle.std.proofs.Common.{ap, ◌∙◌}
use Rattle.std.specs.FinMap as map
use Rattle.vm_devices.proofs.Tables.{inserted_map, id_is_known, starts_kept, starts_moved}
use Rattle.vm_devices.proofs.device_manager.device_table.DeviceTable.replace.Goals.{then-before-start+in_ok-insert, else-before-start}
use Rattle.vm_devices.proofs.device_manager.device_table.DeviceTable.replace.Goals as goal

pub set-requires : goal.set-requires
set-requires c =
    let known = rw (← c.self.view_is) at c.requires.known in
    elim c.if-before-start.branch [
      | then-before-start+in_ok-insert w ↦ rw w.self-inside-is (id_is_known c.self.inside.slots c.args.slot.id c.args.before known)
      | else-before-start w ↦ rw w.self-inside-is (id_is_known c.self.inside.slots c.args.slot.id c.args.before known)
    ]

pub invariant_of-self-2 : goal.invariant_of-self-2
invariant_of-self-2 c =
    let only = rw (← c.self.view_is, ← c.start-start.ensures.value) at c.requires.only in
    let known = rw (← c.self.view_is) at c.requires.known in
    elim c.if-before-start.branch [
      | then-before-start+in_ok-insert w ↦
          rw (c.set.ensures, w.self-inside-is, w.remove.ensures.rest, w.in_ok-insert.ensures.inserted, inserted_map c.self.inside.slots c.args.slot)
          (starts_moved c.self.invariant (record { start = c.start-start.result; id = c.args.slot.id }) c.args.slot.range
          c.start-start.ensures.value only c.args.before known w.if-before-start.true)
      | else-before-start w ↦
          rw (c.set.ensures, w.self-inside-is, inserted_map c.self.inside.slots c.args.slot)
          (starts_kept c.self.invariant c.args.slot.id c.args.slot.range
          (rw (w.if-before-start.false ∙ c.start-start.ensures.value) at known))
    ]

pub returns-clause-inserted : goal.returns-clause-inserted
returns-clause-inserted c =
    elim c.if-before-start.branch [
      | then-before-start+in_ok-insert w ↦ rw (c.set.ensures, w.self-inside-is)
          (inserted_map c.self.inside.slots c.args.slot ∙ ap (λ m. map.insert m c.args.slot.id c.args.slot.range) c.self.view_is)
      | else-before-start w ↦ rw (c.set.ensures, w.self-inside-is)
          (inserted_map c.self.inside.slots c.args.slot ∙ ap (λ m. map.insert m c.args.slot.id c.args.slot.range) c.self.view_is)
    ]
