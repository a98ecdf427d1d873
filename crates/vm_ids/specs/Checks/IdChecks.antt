-- The checks of an id allocator's value, part by part. Only private functions cite these definitions.
use Rattle.std.specs.Prelude.{◌≡◌, ℕ, ◌+◌, nat_le, if◌then◌else◌, List, [], ◌∷◌, Option, Some, None, is_some, option_map, option_and_then, codes}
use Rattle.serde_json.specs.Data.{Data, Items, no_items, item}
use Rattle.serde_json.specs.Find.{get, as_null}
use Rattle.vm_ranges.specs.Fields.{field_count}
use Rattle.vm_ranges.specs.Numbers.{whole_number, number_in, u32_from}
use Rattle.vm_ids.specs.FreedLists.{AreFreedOf}
use Rattle.vm_ids.specs.Values.IdValues.{IdFields, HasIdFields}

-- The numbers of the items, if they are ids in strictly ascending order that are at least `lowest`.
abbrev pub ids_from : ℕ → Items → Option (List ℕ)
ids_from lowest no_items = Some []
ids_from lowest (item d ds) =
    option_and_then (λ n. if nat_le lowest n then option_map (λ ns. n ∷ ns) (ids_from (n + 1) ds) else None)
    (option_and_then u32_from (whole_number d))

-- The next id that a value encodes: `Some None` for null, and `None` if the value is not valid.
abbrev pub decoded_next : Data → Option (Option ℕ)
decoded_next d =
    if is_some (as_null d) then Some None else option_map (λ n. Some n) (option_and_then u32_from (whole_number d))

-- The value has these fields, which are those of an allocator. The items are the freed ids.
pub record AreDecoded (d : Data) (fields : IdFields) (freed : Items) : Type 0 where
  pub listed : ids_from 0 freed ≡ Some fields.freed_ids
  pub written : HasIdFields d fields
  pub valid : AreFreedOf fields.range_base fields.range_end fields.next_id fields.freed_ids

-- The value is an object with exactly these four fields.
pub record IdParts (d : Data) (base : ℕ) (next : Data) (end : ℕ) (freed : Data) : Type 0 where
  pub four_fields : field_count d ≡ Some 4
  pub base_is : number_in (codes "range_base") d ≡ Some base
  pub next_is : get (codes "next_id") d ≡ Some next
  pub end_is : number_in (codes "range_end") d ≡ Some end
  pub freed_is : get (codes "freed_ids") d ≡ Some freed
