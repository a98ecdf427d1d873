-- The place that is closest to an end, without its allocation.
use Rattle.std.proofs.Common.{◌≡◌, List, ◌++◌, Some, ap, ◌∙◌, sym, subst}
use Rattle.vm_leaf.specs.declared.block.Block.{Block}
use Rattle.vm_leaf.specs.declared.leaf.Fit.{Fit}
use Rattle.vm_leaf.specs.Fit.{HasNoFit}
use Rattle.vm_tree.specs.Subtree.{AllOf}
use Rattle.vm_tree.specs.Seeking.{beyond}
use Rattle.vm_tree.specs.Sought.{IsClosestLeaf}
use Rattle.vm_tree.specs.declared.end.End.{End}
use Rattle.vm_tree.specs.declared.end.End.TheVariants.{First, Last}
use Rattle.vm_space.specs.Allocation.{HasNoFitIn, HasNoPlace, FindsFit}
use Rattle.vm_space.specs.Closest.{seeking}
use Rattle.vm_space.specs.Leaves.{blocks_of}
use Rattle.vm_space.specs.Placing.{IsClosestFitIn, IsClosestLeafPlace}
use Rattle.vm_space.specs.declared.place.Place.{Place}
use Rattle.vm_space.specs.declared.search.Search.{Search}
use Rattle.vm_space.proofs.Searched.{fit_of, closest_middle}
use Rattle.vm_space.proofs.Seekings.{join_none}
use Rattle.vm_space.proofs.Spaces.{blocks_cut}

-- A leaf with a fit has a place.
pub has_place : (end : End) (s : Search) (bs : List Block) (fit : Fit) → IsClosestFitIn end s bs fit → HasNoPlace s bs → ⊥
unfolding HasNoFitIn HasNoFit
has_place end s bs fit h none = let f = fit_of s bs fit end h in none fit.index _ f.0 fit.start f.1

none_beyond : (end : End) (s : Search) (before after : List (List Block)) → AllOf (HasNoPlace s) (beyond end before after) →
    HasNoPlace s (beyond end (blocks_of before) (blocks_of after))
none_beyond First s before after h = join_none s before h
none_beyond Last s before after h = join_none s after h

pub look_found : (end : End) (s : Search) (ls : List (List Block)) (leaf : List Block) (place : Place) → IsClosestLeaf (seeking end s) ls leaf →
    IsClosestLeafPlace end s leaf place → FindsFit end s (blocks_of ls) (Some place.range)
look_found end s ls leaf place c p =
    let e : blocks_of ls ≡ blocks_of c.before ++ (leaf ++ blocks_of c.after) = ap blocks_of c.was ∙ blocks_cut c.before leaf c.after in
    subst (λ bs. FindsFit end s bs (Some place.range)) (sym e)
    (_, closest_middle end s (blocks_of c.before) leaf (blocks_of c.after) _ (none_beyond end s c.before c.after c.none) p.closest, p.fits.sized)
