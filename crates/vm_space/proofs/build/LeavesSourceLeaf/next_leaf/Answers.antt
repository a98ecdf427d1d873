use Rattle.std.proofs.Common.{◌≡◌, ◌∷◌, ◌+◌, ◌-◌, ◌<◌, ap, ◌∙◌, sym, subst, min, List, arith, length}
use Rattle.vm_leaf.specs.declared.block.Block.{Block}
use Rattle.vm_space.specs.Building.{remaining_blocks, shares}
use Rattle.vm_space.proofs.Plans.{next_fits, next_is}
use Rattle.vm_space.proofs.build.LeavesSourceLeaf.next_leaf.Goals as goal

pub fill_leaf-leaf-requires-clause-enough : goal.fill_leaf-leaf-requires-clause-enough
fill_leaf-leaf-requires-clause-enough c =
    let a = c.self.inside in
    let some : 0 < length (shares a.count a.each a.more (remaining_blocks a.cursor)) = subst (λ (ls : List (List Block)). 0 < length ls) (sym c.self.view_is) c.requires in
    omega (arith, c.min-more.ensures, next_fits a.count a.each a.more (remaining_blocks a.cursor) some c.self.invariant.enough c.self.invariant.order)

pub returns : goal.returns
returns c =
    let a = c.self.inside in
    let some : 0 < length (shares a.count a.each a.more (remaining_blocks a.cursor)) = subst (λ (ls : List (List Block)). 0 < length ls) (sym c.self.view_is) c.requires in
    let rest = remaining_blocks c.fill_leaf-leaf.new.cursor in
    let leaf = c.fill_leaf-leaf.result in
    let q : c.min-more.result ≡ min a.more 1 = c.min-more.ensures in
    sym c.self.view_is
    ∙ next_is a.count a.each a.more (remaining_blocks a.cursor) leaf rest some c.fill_leaf-leaf.ensures.cut (c.fill_leaf-leaf.ensures.count ∙ ap (λ z. a.each + z) q)
    ∙ ap (λ z. leaf ∷ shares (a.count - 1) a.each (a.more - z) rest) (sym q)
    ∙ ap (λ (z : List Block). z ∷ shares (a.count - 1) a.each (a.more - c.min-more.result) rest) (sym c.in_ok-new.ensures.ok)
