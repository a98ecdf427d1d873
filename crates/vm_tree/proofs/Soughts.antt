-- The result of a search of a child is one of its node.
use Rattle.std.proofs.Common.{◌≡◌, ℕ, ◌+◌, ◌<◌, min, false, List, [], ◌∷◌, ◌++◌, length, take, map, set, get_or, Option, Some, None, Box, ◌∙◌, sym, refl, ap, subst, arith}
use Rattle.std.specs.declared.alloc.Global.{Global}
use Rattle.vm_tree.specs.Entry.{Entry}
use Rattle.vm_tree.specs.Subtree.{Subtree, leaf_of, leaves_of, nth_tree, AllOf}
use Rattle.vm_tree.specs.Edits.{StandsAt, IsRefusedAt, IsEditedAt, IsOne}
use Rattle.vm_tree.specs.Grew.{IsKept, Grew, GrewAt}
use Rattle.vm_tree.specs.Seeking.{Seeking, IsSeeking, beyond}
use Rattle.vm_tree.specs.Sought.{nodes, MayEnter, IsVain, IsInChild, IsUnsought, AtNearest, Sought, SoughtAt}
use Rattle.vm_tree.specs.declared.end.End.{End}
use Rattle.vm_tree.specs.declared.end.End.TheVariants.{First, Last}
use Rattle.vm_tree.specs.declared.outcome.Outcome.{Outcome}
use Rattle.vm_tree.specs.declared.outcome.Outcome.TheVariants as outcome
use Rattle.vm_tree.specs.Slots.{held, IsDense}
use Rattle.vm_tree.proofs.Below.{at, kept_at, grew_at}
use Rattle.vm_tree.proofs.Leaves.{joined-none}
use Rattle.vm_tree.proofs.Passing.{weighs_some}
use Rattle.vm_tree.proofs.Widened.{Lifts}

-- The same at a wider place.
module _ {X : Type 0} (at more : List X → X → List X → Type 0) where
  pub map_refused : (refuses : X → Type 0) (old : List X) → ((before : List X) (leaf : X) (after : List X) → StandsAt at old before leaf after → more before leaf after)
      → IsRefusedAt at refuses old → IsRefusedAt more refuses old
  map_refused refuses old f r = record {
    before = r.before;
    leaf = r.leaf;
    after = r.after;
    home = record { was = r.home.was; here = f r.before r.leaf r.after r.home };
    refused = r.refused;
  }

  map_edited : (P : X → Type 0) (edits : X → List X → Type 0) (old new : List X)
      → ((before : List X) (leaf : X) (after : List X) → StandsAt at old before leaf after → more before leaf after) → IsEditedAt P at edits old new
      → IsEditedAt P more edits old new
  map_edited P edits old new f r = record {
    before = r.before;
    leaf = r.leaf;
    after = r.after;
    leaves = r.leaves;
    home = record { was = r.home.was; here = f r.before r.leaf r.after r.home };
    is = r.is;
    edit = r.edit;
    some = r.some;
    all = r.all;
  }

  module _ {C : Type 0} (en : X → Entry) (P : X → Type 0) (refuses : X → Type 0) (edits : X → List X → Type 0) (tree : Box C Global → Subtree X) (s t : Subtree X)
      (f : (before : List X) (leaf : X) (after : List X) → StandsAt at s.leaves before leaf after → more before leaf after) where
    map_one : IsOne P at edits s t → IsOne P more edits s t
    map_one o = record { height = o.height; fan = o.fan; few = o.few; most = o.most; edited = map_edited P edits s.leaves t.leaves f o.edited }

    pub map_kept : IsKept en P at refuses edits s t → IsKept en P more refuses edits s t
    map_kept k = record { same = k.same; refused = map_refused refuses s.leaves f k.refused }

    pub map_grew : (o : Outcome C) → Grew en P at refuses edits tree s t o → Grew en P more refuses edits tree s t o
    map_grew outcome.Refused g = map_kept g
    map_grew outcome.Same g = record { one = map_one g.one; sum = g.sum }
    map_grew (outcome.Changed e) g = record { one = map_one g.one; sum = g.sum }
    map_grew (outcome.Split h) g = record {
      two = record {
        low = g.two.low;
        high = g.two.high;
        edited = map_edited P edits s.leaves (t.leaves ++ (tree h.upper).leaves) f g.two.edited;
      };
      low = g.low;
      high = g.high;
    }

module _ {X : Type 0} (at : List X → X → List X → Type 0) (i : ℕ) (ss : List (Subtree X)) where
  pub in_child : Lifts at (IsInChild at i ss) i ss
  in_child before leaf after h = record { low = before; high = after; below = refl; above = refl; here = h }

  pub in_node : (more : List X → X → List X → Type 0) (old : List X) → Lifts at more i ss → (before : List X) (leaf : X) (after : List X)
      → StandsAt (IsInChild at i ss) old before leaf after → more before leaf after
  in_node more old lift before leaf after h =
      let r = h.here in
      subst (λ xs. more xs leaf after) (sym r.below) (subst (λ xs. more (leaves_of (take i ss) ++ r.low) leaf xs) (sym r.above) (lift r.low leaf r.high r.here))

-- ---- A leaf
module _ {X : Type 0} (en : X → Entry) (q : Seeking X) (c d : ℕ) (l : X) (counted : d ≡ min (c + 1) 18446744073709551615) where
  none_beyond : (end : End) → AllOf q.lacks (beyond end [] [])
  none_beyond First = tt
  none_beyond Last = tt

  pub at_leaf : AtNearest q c d (leaf_of l) [] l []
  at_leaf = record {
    none = none_beyond q.end;
    entered = 1;
    counted = record { upto = omega (arith, counted); from = omega (arith, counted) };
    weights = λ k. omega arith;
    path = omega arith;
    most = omega arith;
  }

  pub leaf_vain : (n : X) → MayEnter en q (l ∷ []) → n ≡ l → q.lacks l → IsUnsought q c d (leaf_of l) (leaf_of n)
  leaf_vain n m e none = record {
    same = ap leaf_of e;
    vain = record {
      none = (none, tt);
      entered = 1;
      counted = record { upto = omega (arith, counted); from = omega (arith, counted) };
      weights = λ k. omega (arith, weighs_some en q m.lawful k (l ∷ []) m.runs m.fits (none, tt));
      most = omega arith;
    };
  }

-- ---- A child in its slot
module _ {X C : Type 0} (tree : Box C Global → Subtree X) (os : List (Option (Box C Global))) (i : ℕ) (o : Option (Box C Global)) (k n : Box C Global) (dense : IsDense os)
    (within : i < length (held os)) (h : get_or os i o ≡ Some k) (en : X → Entry) (P : X → Type 0) (q : Seeking X) (c d : ℕ) (refuses : X → Type 0)
    (edits : X → List X → Type 0) (s : Subtree X) (e : s ≡ tree k) where
  same_tree : nth_tree (map tree (held os)) i ≡ s
  same_tree = at tree os i o k k dense within h ∙ sym e

  pub sought_at : (r : Option (Outcome C)) → Sought en P q c d refuses edits tree s (tree n) r
      → SoughtAt en P q c d refuses edits tree i (map tree (held os)) (map tree (held (set os i (Some n)))) r
  sought_at None u = record {
    same = kept_at tree os i o k n dense within h (u.same ∙ e);
    vain = subst (λ (s : Subtree X). IsVain q s.height (nodes s) c d s.leaves) (sym same_tree) u.vain;
  }
  sought_at (Some r) g =
      subst (λ (z : Subtree X). GrewAt en P (AtNearest q c d z) refuses edits tree i (map tree (held os)) (map tree (held (set os i (Some n)))) r) (sym same_tree)
      (grew_at tree os i o k n dense within h en P (AtNearest q c d s) refuses edits r s e g)

-- Nothing was entered.
pub not_entered : {X : Type 0} (q : Seeking X) (c : ℕ) (s t : Subtree X) → t ≡ s → AllOf q.lacks s.leaves → IsUnsought q c c s t
not_entered q c s t e a = record {
  same = e;
  vain = record {
    none = a;
    entered = 0;
    counted = record { upto = omega arith; from = omega arith };
    weights = λ k. omega arith;
    most = omega arith;
  };
}

pub leaf_lacks : {X : Type 0} (en : X → Entry) (q : Seeking X) (x : X) (e : Entry) → IsSeeking en q → q.runs (x ∷ []) → e ≡ en x → false ≡ q.fits e → AllOf q.lacks (x ∷ [])
leaf_lacks en q x e law run i f = law.excluded (x ∷ []) run (ap q.fits (sym (i ∙ joined-none (en x))) ∙ sym f)
