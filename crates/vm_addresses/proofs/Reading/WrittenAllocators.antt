-- The object of an allocator's written parts encodes the allocator.
use Rattle.std.proofs.Common.{◌≡◌, codes, Option, Some, sym, ◌∙◌, subst}
use Rattle.serde_json.specs.Data.{Data}
use Rattle.serde_json.specs.Find.{get}
use Rattle.vm_ranges.proofs.FieldSteps.{field_is}
use Rattle.vm_ranges.proofs.Steps.{and_then_some}
use Rattle.vm_ranges.specs.Fields.{field_count}
use Rattle.vm_ranges.specs.RangeValues.{EncodesRange}
use Rattle.vm_saved_trees.specs.TreeValues.{EncodesSpaceTree}
use Rattle.vm_ranges.specs.Address.{AddressState}
use Rattle.vm_addresses.specs.Values.AllocatorValues.{EncodesTree, EncodesAddresses}
use Rattle.vm_addresses.specs.Checks.AllocatorChecks.{AllocatorParts}

pub encodes_allocator : (d space root : Data) (state : AddressState) → AllocatorParts d space root → EncodesRange space state.space →
    EncodesSpaceTree root state.space state → EncodesAddresses d state
encodes_allocator d space root state p space_encoded root_encoded =
    let one = and_then_some field_count (get (codes "interval_tree") d) 1 p.one_field in
    let at = and_then_some (get (codes "root")) (get (codes "interval_tree") d) root p.root_is in
    record {
      two_fields = p.two_fields;
      address_space = field_is (codes "address_space") d space (λ v. EncodesRange v state.space) p.space_is space_encoded;
      interval_tree = field_is (codes "interval_tree") d at.0 (λ v. EncodesTree v (λ root. EncodesSpaceTree root state.space state)) at.1
          (record {
            one_field = let e : one.0 ≡ at.0 = same_value one.0 at.0 (get (codes "interval_tree") d) one.1 at.1 in subst
                (λ (v : Data). field_count v ≡ Some 1) e one.2;
            root = field_is (codes "root") at.0 root (λ v. EncodesSpaceTree v state.space state) at.2 root_encoded;
          });
    } where
      same_value : (x y : Data) (o : Option Data) → o ≡ Some x → o ≡ Some y → x ≡ y
      same_value x y o p q = let e = sym p ∙ q in cc

pub ruleset allocators = (encodes_allocator)
