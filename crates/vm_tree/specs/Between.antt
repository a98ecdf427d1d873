-- The leaves between two addresses.
use Rattle.std.specs.Prelude.{◌≡◌, ℕ, ◌≤◌, ◌<◌, List, [], ◌∷◌, ◌++◌, length, Bool, true, false, nat_le}
use Rattle.vm_tree.specs.Entry.{Entry}
use Rattle.vm_tree.specs.Subtree.{AllOf}
use Rattle.vm_tree.specs.Edits.{IsHome}

-- With x, if the test is true.
abbrev pub kept : {X : Type 0} → Bool → X → List X → List X
kept true x xs = x ∷ xs
kept false x xs = xs

module _ {X : Type 0} (entry : X → Entry) where
  -- Each address is below those after it.
  abbrev pub Rise : List X → Type 0
  Rise [] = Unit {0}
  Rise (x ∷ xs) = AllOf (λ y. (entry x).at < (entry y).at) xs × Rise xs

  -- The leaves from an address on.
  abbrev pub from_on : ℕ → List X → List X
  from_on lo [] = []
  from_on lo (x ∷ xs) = kept (nat_le lo (entry x).at) x (from_on lo xs)

  -- The leaves up to an address.
  abbrev pub up_to : ℕ → List X → List X
  up_to hi [] = []
  up_to hi (x ∷ xs) = kept (nat_le (entry x).at hi) x (up_to hi xs)

  -- The leaves between two addresses.
  abbrev pub left_of : ℕ → ℕ → List X → List X
  left_of lo hi xs = up_to hi (from_on lo xs)

  -- A leaf has this address.
  pub record Has (n : ℕ) (xs : List X) : Type 0 where
    pub before : List X
    pub leaf : X
    pub after : List X
    pub is : xs ≡ before ++ leaf ∷ after
    pub at : (entry leaf).at ≡ n

  -- The addresses are those of leaves, or there is none between them.
  pub record IsWalk (lo hi : ℕ) (xs : List X) : Type 0 where
    pub rise : Rise xs
    pub low : lo ≤ hi → Has lo xs
    pub high : lo ≤ hi → Has hi xs

  -- The first leaf that is left was taken.
  pub record IsFirstLeft (lo hi : ℕ) (xs : List X) (leaf : X) (from to : ℕ) : Type 0 where
    pub walk : IsWalk from to xs
    pub is : left_of lo hi xs ≡ leaf ∷ left_of from to xs

  -- The last leaf that is left was taken.
  pub record IsLastLeft (lo hi : ℕ) (xs : List X) (leaf : X) (from to : ℕ) : Type 0 where
    pub walk : IsWalk from to xs
    pub is : left_of lo hi xs ≡ left_of from to xs ++ leaf ∷ []

  -- All leaves are left.
  pub record IsWhole (xs : List X) (from to : ℕ) : Type 0 where
    pub walk : IsWalk from to xs
    pub is : left_of from to xs ≡ xs

  -- The leaves m are those from the leaf of the key lo to the leaf of the key hi.
  pub record AreBetween (lo hi : ℕ) (xs m : List X) : Type 0 where
    pub below : List X
    pub first : X
    pub rest : List X
    pub others : List X
    pub last : X
    pub above : List X
    pub low : IsHome entry lo xs below first rest
    pub high : IsHome entry hi xs others last above
    pub some : 0 < length m
    pub from : m ++ above ≡ first ∷ rest
    pub to : below ++ m ≡ others ++ last ∷ []

  -- The leaves that are left are those between two keys.
  pub record IsBetween (lo hi : ℕ) (xs : List X) (from to : ℕ) : Type 0 where
    pub walk : IsWalk from to xs
    pub some : lo ≤ hi → 0 < length xs → AreBetween lo hi xs (left_of from to xs)
    pub none : hi < lo → left_of from to xs ≡ []
    pub empty : length xs ≡ 0 → left_of from to xs ≡ []
