-- The text, the id and the range fit into the buffer. A lemma gives the length of the id, but the search with it gives up at its limits.
use Rattle.std.proofs.Common.{◌<◌, ◌^◌, arith, rules}
use Rattle.std.specs.Prelude.{codes}
use Rattle.vm_commands.proofs.Decimals.{id_behind}
use Rattle.vm_lines.proofs.reply.write_device.Goals as goal

pub push_pair-requires : goal.push_pair-requires
push_pair-requires c =
    let fits : c.into.result < 2 ^ 32 = search rules in
    omega (
      arith,
      c.requires,
      id_behind c.args.output.now (codes "device ") c.extend_from_slice.new.self c.push_number.new.self
          c.push.new.self c.into.result 32 fits c.extend_from_slice.ensures c.push_number.ensures.text c.push.ensures,
    )

pub returns-clause-room : goal.returns-clause-room
returns-clause-room c =
    let fits : c.into.result < 2 ^ 32 = search rules in
    omega (
      arith,
      c.push_pair.ensures.room,
      id_behind c.args.output.now (codes "device ") c.extend_from_slice.new.self
          c.push_number.new.self c.push.new.self c.into.result 32 fits c.extend_from_slice.ensures c.push_number.ensures.text c.push.ensures,
    )
