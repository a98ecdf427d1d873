use Rattle.vm_list.proofs.Betweens.{part_is}
use Rattle.vm_list.proofs.chunk.Chunk.between.Goals as goal

pub returns : goal.returns
returns g c =
    let q = rw (c.as_slice-entries.ensures.value, c.self.view_is) at c.place_from-end.ensures in
    let p = rw (c.as_slice-entries.ensures.value, c.self.view_is) at c.place.ensures in
    rw (c.as_slice-entries.ensures.value, c.self.view_is) (part_is g.E.Keyed.key_of c.args.low c.args.high c.args.self.now _ _ _ p q c.min-start.ensures)
