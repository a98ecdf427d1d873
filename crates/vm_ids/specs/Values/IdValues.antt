-- The saved value of an id allocator.
use Rattle.std.specs.Prelude.{◌≡◌, ℕ, List, Option, Some, None, Ok, codes}
use Rattle.serde_json.specs.Data.{Data, null}
use Rattle.vm_ranges.specs.Fields.{field_count, FieldIs}
use Rattle.vm_ranges.specs.Lists.{EncodesListOf}
use Rattle.vm_ranges.specs.Numbers.{whole_number, number_in}
use Rattle.vm_ids.specs.Ids.{IdState}
use Rattle.vm_ids.specs.FreedLists.{MakesOfIds}

-- The fields of a saved id allocator: its range, the next id and the freed ids.
pub record IdFields : Type 0 where
  pub range_base : ℕ
  pub next_id : Option ℕ
  pub range_end : ℕ
  pub freed_ids : List ℕ

-- The value encodes the next id: null if there is none, otherwise its number.
abbrev pub EncodesNext : Data → Option ℕ → Type 0
EncodesNext d None = d ≡ null
EncodesNext d (Some n) = whole_number d ≡ Some n

-- The value is the whole number n.
abbrev pub EncodesNumber : Data → ℕ → Type 0
EncodesNumber d n = whole_number d ≡ Some n

-- The value is the list of these whole numbers.
abbrev pub EncodesNumbers : Data → List ℕ → Type 0
EncodesNumbers d ns = EncodesListOf EncodesNumber d ns

-- The value is an object with exactly these four fields.
pub record HasIdFields (d : Data) (fields : IdFields) : Type 0 where
  pub four_fields : field_count d ≡ Some 4
  pub range_base : number_in (codes "range_base") d ≡ Some fields.range_base
  pub next_id : FieldIs (codes "next_id") d (λ v. EncodesNext v fields.next_id)
  pub range_end : number_in (codes "range_end") d ≡ Some fields.range_end
  pub freed_ids : FieldIs (codes "freed_ids") d (λ v. EncodesNumbers v fields.freed_ids)

-- The value encodes an id allocator with this state: `from_ids` makes the state of its fields.
pub record EncodesIds (d : Data) (state : IdState) : Type 0 where
  pub fields : IdFields
  pub written : HasIdFields d fields
  pub made : MakesOfIds fields.range_base fields.range_end fields.next_id fields.freed_ids (Ok state)
