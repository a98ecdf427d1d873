-- A leaf as a subtree, after a change that leaves it fewer items.
use Rattle.std.proofs.Common.{◌≡◌, ℕ, ◌<◌, List, [], ◌∷◌, ◌++◌, length, map, set, get_or, Option, Some, Box, ◌∙◌, sym, refl, ap, subst, arith, inl}
use Rattle.std.specs.declared.alloc.Global.{Global}
use Rattle.vm_tree.specs.Entry.{Entry}
use Rattle.vm_tree.specs.Slots.{held, IsDense}
use Rattle.vm_tree.specs.declared.cut.Shrunk.{Shrunk}
use Rattle.vm_tree.proofs.Below.{at, set_at}
use Rattle.vm_tree.specs.Rows.{joined, blank}
use Rattle.vm_tree.specs.Subtree.{Subtree, leaf_of, IsFull}
use Rattle.vm_tree.specs.Mends.{NoJoin}
use Rattle.vm_tree.specs.Shrinks.{Meet, Shrank, ShrankAt, IsCut, IsUncut, IsCutSame, IsCutFull, IsCutSmall}
use Rattle.vm_tree.proofs.Leaves.{at_key, single, joined-none}

module _ {X : Type 0} (entry : X → Entry) (enough : X → Type 0) (key : ℕ) (refuses : X → Type 0) (edits : X → List X → Type 0) where
  pub cut_one : (l n : X) → edits l (n ∷ []) → IsCut entry NoJoin key edits (leaf_of l) (leaf_of n)
  cut_one l n e = record {
    height = refl;
    fan = omega arith;
    cut = record {
      middle = n ∷ [];
      edited = record {
        before = [];
        leaf = l;
        after = [];
        leaves = n ∷ [];
        home = record { was = refl; here = at_key entry key l };
        is = refl;
        edit = e;
        some = omega arith;
        all = λ q. (tt, tt);
      };
      regrouped = inl refl;
    };
  }

  still : (l n : X) → (enough l → enough n) → IsFull enough 1 (leaf_of l) → IsFull enough 1 (leaf_of n)
  still l n p f = single enough n (p f.all.0)

  pub leaf_uncut : (l n : X) → n ≡ l → refuses l → IsUncut entry enough NoJoin key refuses edits (leaf_of l) (leaf_of n)
  leaf_uncut l n e r = record {
    same = ap leaf_of e;
    refused = record { before = []; leaf = l; after = []; home = record { was = refl; here = at_key entry key l }; refused = r };
  }

  pub leaf_same : (l n : X) → (enough l → enough n) → edits l (n ∷ []) → entry n ≡ entry l
      → IsCutSame entry enough NoJoin key refuses edits (leaf_of l) (leaf_of n)
  leaf_same l n p e s = record { one = cut_one l n e; sum = ap (λ d. joined d blank) s; full = still l n p }

  pub leaf_full : (l n : X) (e : Entry) → (enough l → enough n) → edits l (n ∷ []) → e ≡ entry n
      → IsCutFull entry enough NoJoin key refuses edits e (leaf_of l) (leaf_of n)
  leaf_full l n e p d s = record { one = cut_one l n d; sum = s ∙ joined-none (entry n); full = still l n p }

  pub leaf_small : (l n : X) (e : Entry) → edits l (n ∷ []) → e ≡ entry n → IsCutSmall entry enough NoJoin key refuses edits e (leaf_of l) (leaf_of n)
  leaf_small l n e d s = record { one = cut_one l n d; sum = s ∙ joined-none (entry n) }

-- The child i was changed in its slot.
module _ {X C : Type 0} (tree : Box C Global → Subtree X) (os : List (Option (Box C Global))) (i : ℕ) (o : Option (Box C Global)) (k n : Box C Global)
    (d : IsDense os) (l : i < length (held os)) (h : get_or os i o ≡ Some k) where
  pub shrank_at : (entry : X → Entry) (enough : X → Type 0) (joins : X → X → List X → Type 0) (key : ℕ) (refuses : X → Type 0) (edits : X → List X → Type 0)
      (r : Shrunk) (s : Subtree X) → s ≡ tree k → Shrank entry enough joins key refuses edits s (tree n) r
      → ShrankAt entry enough joins key refuses edits i (map tree (held os)) (map tree (held (set os i (Some n)))) r
  shrank_at entry enough joins key refuses edits r s e g = record {
    new = tree n;
    list = set_at tree os i o k n d l h;
    shrank = subst (λ (s : Subtree X). Shrank entry enough joins key refuses edits s (tree n) r) (e ∙ sym (at tree os i o k n d l h)) g;
  }

-- A part of leaves that meet.
module _ {X : Type 0} (meets : X → X → Type 0) where
  pub meet_left : (xs ys : List X) → Meet meets (xs ++ ys) → Meet meets xs
  meet_left [] ys m = tt
  meet_left (x ∷ []) ys m = tt
  meet_left (x ∷ y ∷ xs) ys m = (m.0, meet_left (y ∷ xs) ys m.1)

  meet_tail : (x : X) (xs : List X) → Meet meets (x ∷ xs) → Meet meets xs
  meet_tail x [] m = tt
  meet_tail x (y ∷ xs) m = m.1

  pub meet_right : (xs ys : List X) → Meet meets (xs ++ ys) → Meet meets ys
  meet_right [] ys m = m
  meet_right (x ∷ xs) ys m = meet_right xs ys (meet_tail x (xs ++ ys) m)
