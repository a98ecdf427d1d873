-- A leaf as a subtree, after a change.
use Rattle.std.proofs.Common.{◌≡◌, ℕ, max, List, [], ◌∷◌, ◌∙◌, refl, ap, sym, arith}
use Rattle.vm_tree.specs.Entry.{Entry}
use Rattle.vm_tree.specs.Rows.{joined, blank}
use Rattle.vm_tree.specs.Subtree.{leaf_of, leaves_entry, IsFull}
use Rattle.vm_tree.specs.Edits.{StandsAt, IsOne, AtKey}
use Rattle.vm_tree.specs.Grew.{IsKept, IsSame, IsChanged, IsSplit}

max-none : (n : ℕ) → n ≡ max n 0
max-none n = omega arith

abbrev entry : ℕ → ℕ → ℕ → Entry
entry a b c = record { at = a; longest = b; alignments = c }

pub joined-none : (e : Entry) → e ≡ joined e blank
joined-none e = ap (λ n. entry e.at n e.alignments) (max-none e.longest) ∙ ap (λ n. entry e.at (max e.longest 0) n) (max-none e.alignments)

-- A leaf that is alone is the place of each key.
pub at_key : {X : Type 0} (entry : X → Entry) (key : ℕ) (l : X) → AtKey entry key [] l []
at_key entry key l = record { low = λ h. absurd (omega arith); high = tt }

pub single : {X : Type 0} (enough : X → Type 0) (l : X) → enough l → IsFull enough 1 (leaf_of l)
single enough l p = record { height = refl; high = omega arith; fan = λ h. absurd (omega arith); bound = omega arith; few = omega arith; most = omega arith; some = omega arith; all = (p, tt) }

module _ {X : Type 0} (entry : X → Entry) (enough : X → Type 0) (at : List X → X → List X → Type 0) (refuses : X → Type 0) (edits : X → List X → Type 0) (l : X)
    (here : at [] l []) where
  home : StandsAt at (l ∷ []) [] l []
  home = record { was = refl; here = here }

  pub leaf_one : (n : X) → (enough l → enough n) → edits l (n ∷ []) → IsOne enough at edits (leaf_of l) (leaf_of n)
  leaf_one n p e = record {
    height = refl;
    fan = omega arith;
    few = λ p. omega arith;
    most = omega arith;
    edited = record { before = []; leaf = l; after = []; leaves = n ∷ []; home = home; is = refl; edit = e; some = omega arith; all = λ q. (p q, tt) };
  }

  pub leaf_kept : (n : X) → n ≡ l → refuses l → IsKept entry enough at refuses edits (leaf_of l) (leaf_of n)
  leaf_kept n e r = record { same = ap leaf_of e; refused = record { before = []; leaf = l; after = []; home = home; refused = r } }

  pub leaf_same : (n : X) → (enough l → enough n) → edits l (n ∷ []) → entry n ≡ entry l → IsSame entry enough at refuses edits (leaf_of l) (leaf_of n)
  leaf_same n p e s = record { one = leaf_one n p e; sum = ap (λ d. joined d blank) s }

  pub leaf_changed : (n : X) (e : Entry) → (enough l → enough n) → edits l (n ∷ []) → e ≡ entry n
      → IsChanged entry enough at refuses edits e (leaf_of l) (leaf_of n)
  leaf_changed n e p d s = record { one = leaf_one n p d; sum = s ∙ joined-none (entry n) }

  pub leaf_split : (n u : X) (e f : Entry) → enough n → enough u → edits l (n ∷ u ∷ []) → e ≡ entry n → f ≡ entry u
      → IsSplit entry enough at refuses edits e f (leaf_of l) (leaf_of n) (leaf_of u)
  leaf_split n u e f p q d s t = record {
    two = record {
      low = single enough n p;
      high = single enough u q;
      edited = record {
        before = [];
        leaf = l;
        after = [];
        leaves = n ∷ u ∷ [];
        home = home;
        is = refl;
        edit = d;
        some = omega arith;
        all = λ r. (p, (q, tt));
      };
    };
    low = s ∙ joined-none (entry n);
    high = t ∙ joined-none (entry u);
  }

-- The entry of one leaf.
pub one_entry : {X : Type 0} (en : X → Entry) (x : X) → leaves_entry en (x ∷ []) ≡ en x
one_entry en x = sym (joined-none (en x))
