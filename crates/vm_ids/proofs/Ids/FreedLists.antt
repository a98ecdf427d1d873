-- The set of the freed ids lists exactly the ids that were allocated at some time and are not held.
use Rattle.std.proofs.Common.{◌≡◌, ℕ, ◌-◌, Bool, not, sym, ap, ◌∙◌, arith, Option}
use Rattle.std.specs.Ordering.{nat_cmp}
use Rattle.std.specs.BTreeSet.{BTreeSet, IsOrdered}
use Rattle.std.specs.FinSet as set
use Rattle.vm_ids.specs.Ids.{IdState, freed_ids, bound_of, unfreed_ids, ids_of, AreIds}
use Rattle.vm_ids.proofs.Ids.IdSets.{held_test}
use Rattle.vm_ids.proofs.Ids.RisingIds.{same_rising}
use Rattle.vm_ids.proofs.Ids.IdRows.{passed_rise, row_passed}

-- The keys of the set are the freed ids.
pub keys_listed : (state : IdState) (lo hi : ℕ) (next : Option ℕ) (freed : BTreeSet ℕ) → ids_of lo hi next freed ≡ state →
    AreIds lo hi next freed → IsOrdered nat_cmp freed → freed.keys ≡ freed_ids state
unfolding ids_of
keys_listed state lo hi next freed e a o =
    let n = bound_of next hi - lo in
    let out : ℕ → Bool = λ i. not (set.contains (unfreed_ids lo (bound_of next hi) freed) i) in
    same_rising freed.keys _ o (passed_rise out lo n)
    (λ q. sym (row_passed out lo n q ∙ grind (arith, held_test, a.freed_ids q)))
    ∙ ap (λ (s : IdState). freed_ids s) e

pub ruleset lists = (keys_listed)
