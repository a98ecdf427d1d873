-- The saved values of address allocators, and those that are read with repairs.
use Rattle.std.specs.Prelude.{◌≡◌, Some, codes}
use Rattle.serde_json.specs.Data.{Data}
use Rattle.vm_ranges.specs.Fields.{field_count, FieldIs}
use Rattle.vm_ranges.specs.Address.{AddressState}
use Rattle.vm_ranges.specs.RangeValues.{EncodesRange}
use Rattle.vm_ranges.specs.Range.{Range}
use Rattle.vm_saved_trees.specs.KeyValues.{EncodesKeys}
use Rattle.vm_saved_trees.specs.TreeValues.{EncodesSpaceTree}

-- The value is an object with exactly one field, a root for which `Root` is true.
pub record EncodesTree (d : Data) (Root : Data → Type 0) : Type 0 where
  pub one_field : field_count d ≡ Some 1
  pub root : FieldIs (codes "root") d Root

-- The value is an object with exactly two fields: the space of the state, and a tree whose root encodes the state in this
-- space by `Root`.
pub record EncodesAllocator (Root : Data → Range → AddressState → Type 0) (d : Data) (state : AddressState) : Type 0 where
  pub two_fields : field_count d ≡ Some 2
  pub address_space : FieldIs (codes "address_space") d (λ v. EncodesRange v state.space)
  pub interval_tree : FieldIs (codes "interval_tree") d (λ v. EncodesTree v (λ root. Root root state.space state))

-- The value encodes an address allocator with this state: its root is a tree of the state.
abbrev pub EncodesAddresses : Data → AddressState → Type 0
EncodesAddresses = EncodesAllocator EncodesSpaceTree

-- The value is read with repairs to an address allocator with this state: the keys below its root are the held ranges.
abbrev pub EncodesRepaired : Data → AddressState → Type 0
EncodesRepaired = EncodesAllocator EncodesKeys
