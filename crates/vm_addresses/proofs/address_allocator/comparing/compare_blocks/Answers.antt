-- The walks are compared as their lists of blocks. The lemma on the order of lists takes functions, which the prover does not find.
use Rattle.std.proofs.Common.{◌≡◌, List, refl}
use Rattle.std.proofs.lemmas.Iterator.Consumers.{YieldsList-from_first}
use Rattle.std.proofs.lemmas.Iterator.Search.{cmp_from_yields_List}
use Rattle.vm_leaf.specs.BlockOrder.{block_cmp}
use Rattle.vm_leaf.specs.declared.block.Block.{Block}
use Rattle.vm_addresses.proofs.address_allocator.comparing.compare_blocks.Goals as goal

pub returns : goal.returns
returns c =
    cmp_from_yields_List (λ x y. y ≡ x) _ block_cmp _ c.cmp.ensures.ran (YieldsList-from_first (λ (b : Block). b) (λ (l : List Block). l) _ refl)
    (λ bs e. YieldsList-from_first (λ (b : Block). b) (λ (l : List Block). l) _ e) (λ x y. refl)
