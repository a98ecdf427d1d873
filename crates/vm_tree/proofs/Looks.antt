-- The result of a search of a child that changes nothing is one of its node.
use Rattle.std.proofs.Common.{◌≡◌, ℕ, List, [], ◌++◌, take, drop, suc, Option, Some, None, refl}
use Rattle.vm_tree.specs.Entry.{Entry}
use Rattle.vm_tree.specs.Subtree.{Subtree, leaves_of, nth_tree, over, AllOf}
use Rattle.vm_tree.specs.declared.node.Kids.{Kids}
use Rattle.vm_tree.specs.declared.end.End.{End}
use Rattle.vm_tree.specs.declared.end.End.TheVariants.{First, Last}
use Rattle.vm_tree.specs.Nodes.{kids_of, AreUnder}
use Rattle.vm_tree.specs.Passing.{NoneFits, IsNext}
use Rattle.vm_tree.specs.Seeking.{Seeking, beyond}
use Rattle.vm_tree.specs.Sought.{MayEnter, IsPassing, AtNearest, IsPlaceLeaf, Looked, FindsLeaf}
use Rattle.vm_tree.proofs.Widened.{over_stands}
use Rattle.vm_tree.proofs.Nexts.{next_found, next_within, none_next}

module _ {X : Type 0} (en : X → Entry) (P : X → Type 0) (q : Seeking X) (es : List Entry) (k : Kids X) (under : AreUnder en P es k)
    (may : MayEnter en q (leaves_of (kids_of k))) (end : End) (from to c d : ℕ) (p : IsPassing end q (kids_of k) from to c d) where
  pub looked_in : (i : ℕ) → IsNext end q.fits es from to i → (f : ℕ) → end ≡ q.end → (leaf : X) → IsPlaceLeaf q d f (nth_tree (kids_of k) i) leaf
      → IsPlaceLeaf q c f (over (kids_of k)) leaf
  looked_in i n f e leaf h = record {
    before = leaves_of (take i (kids_of k)) ++ h.before;
    after = h.after ++ leaves_of (drop (suc i) (kids_of k));
    home = over_stands (AtNearest q d f (nth_tree (kids_of k) i)) (AtNearest q c f (over (kids_of k))) i (kids_of k)
        (next_within en P q es k under may es k under refl end from to c d p i n) (next_found en P q es k under may es k under refl end from to c d p i n f e)
        h.before leaf h.after h.home;
    has = h.has;
  }

  pub looked_none : NoneFits q.fits es from to → Looked q c d (over (kids_of k)) None
  looked_none n = (none_next en P q es k under may es k under refl end from to c d p n).vain

-- Nothing is beyond the only leaf.
pub none_beyond : {X : Type 0} (q : Seeking X) (end : End) → AllOf q.lacks (beyond end [] [])
none_beyond q First = tt
none_beyond q Last = tt

-- The result of a search of a whole tree.
pub finds_leaf : {X : Type 0} (q : Seeking X) (c d : ℕ) (s : Subtree X) (found : Option X) → Looked q c d s found → FindsLeaf q s.leaves found
finds_leaf q c d s None h = h.none
finds_leaf q c d s (Some leaf) h = record { before = h.before; after = h.after; was = h.home.was; none = h.home.here.none; has = h.has }
