-- Facts for callers about allocated ranges and ids, and about allocators that were saved.
-- An allocated id was not held before, and is held after. Written ids are read as the ids that were written.
pub use Rattle.vm_ids.proofs.Callers.{id_was_free, id_is_held, ids_again}
-- A list of different held ranges or ids contains all of them if and only if its length is their number.
pub use Rattle.vm_ids.proofs.Ids.IdCounts.{ids_listed}
-- The values of allocators and of ids nest few levels, and a text is parsed to the value that was written.
pub use Rattle.vm_addresses.proofs.Reading.NestedTrees.{addresses_nest}
pub use Rattle.vm_ids.proofs.Ids.NestedIds.{ids_nest}
pub use Rattle.vm_laws.proofs.ValueProofs.NestedValues.{text_gives_again, text_has_value, allocator_through_text, ids_through_text}
pub use Rattle.vm_ranges.proofs.ReadTexts.{parsed_again}
-- The held ids are listed in ascending order, and equal states are the same.
pub use Rattle.vm_ids.proofs.Ids.HeldIds.{listed_held, in_held_ids}
pub use Rattle.vm_ids.proofs.Ids.ComparedIds.{id_state_cmp-Equal}
-- Maps with numbers as keys.
pub use Rattle.vm_ids.proofs.Ids.RisingIds.{keys_rise, entries_of_sorted, same_rising}
-- Facts about allocated ranges.
pub use Rattle.vm_addresses.proofs.Callers.{
  allocated_held,
  allocated_apart,
  allocated_same,
  freed_fits_again,
  fits_again_or_limit,
  addresses_again,
  ranges_listed,
}

pub ruleset callers = (
  allocated_held,
  allocated_apart,
  allocated_same,
  freed_fits_again,
  fits_again_or_limit,
  id_was_free,
  id_is_held,
  addresses_again,
  ids_again,
  text_gives_again,
  text_has_value,
)

-- A value survives being written as text and read back.
pub ruleset through_text = (allocator_through_text, ids_through_text)
