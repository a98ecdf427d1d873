-- Changes of one leaf.
use Rattle.std.specs.Prelude.{◌≡◌, ℕ, ◌≤◌, ◌<◌, List, [], ◌∷◌, ◌++◌, length, Option, Some, None}
use Rattle.std.specs.List.{All}
use Rattle.std.specs.Option.{IsSome}
use Rattle.vm_list.specs.Entries.{below, with_entry, without, entry_at, IsDescendingBy}
use Rattle.vm_list.specs.Leaves.{items_of}
use Rattle.vm_list.specs.declared.id_set.Run.{Run}
use Rattle.vm_list.specs.Runs.{TakesLowest, IsAlone, last_of, one_id}

module _ {X : Type 0} (key : X → ℕ) where
  -- The entry was put, and `old` is the one that had its key.
  pub record IsPut (entry left old : Option X) (c : List X) (cs : List (List X)) : Type 0 where
    pub item : X
    pub was : entry ≡ Some item
    pub none : left ≡ None
    pub before : old ≡ entry_at key (key item) c
    pub items : items_of cs ≡ with_entry key item c

  -- The entry has a new key, and the leaf has no room.
  pub record IsCrowded (entry : Option X) (c : List X) : Type 0 where
    pub item : X
    pub was : entry ≡ Some item
    pub new : entry_at key (key item) c ≡ None
    pub full : 64 ≤ length c

  -- Two leaves next to each other: all keys of the lower one are below those of the higher one.
  abbrev pub Meets : List X → List X → Type 0
  Meets low high = IsDescendingBy key (high ++ low)

-- Two leaves were joined.
abbrev pub Joins : {X : Type 0} → List X → List X → List (List X) → Type 0
Joins low high cs = items_of cs ≡ high ++ low

-- The lowest id was taken out.
pub record IsPopped (taken : Option ℕ) (c : List Run) (cs : List (List Run)) : Type 0 where
  pub id : ℕ
  pub is : taken ≡ Some id
  pub rest : List Run
  pub leaves : cs ≡ rest ∷ []
  pub takes : TakesLowest (Some id) c rest

-- The entry with this key was taken out.
pub record IsTaken {X : Type 0} (key : X → ℕ) (t : ℕ) (taken : Option X) (c : List X) (cs : List (List X)) : Type 0 where
  pub entry : taken ≡ entry_at key t c
  pub rest : cs ≡ without key t c ∷ []

-- The entry with the key t may be replaced by e, whose key is lower, and above the keys below t.
pub record CanLower {X : Type 0} (key : X → ℕ) (t : ℕ) (e : X) (xs : List X) : Type 0 where
  pub known : IsSome (entry_at key t xs)
  pub lower : key e ≤ t
  pub apart : All (λ x. key x < key e) (below key t xs)

-- The entry with the key t was replaced.
pub record IsLowered {X : Type 0} (key : X → ℕ) (t : ℕ) (entry : Option X) (c : List X) (cs : List (List X)) : Type 0 where
  pub item : X
  pub was : entry ≡ Some item
  pub can : CanLower key t item c
  pub rest : cs ≡ with_entry key item (without key t c) ∷ []

-- The entry with the key t cannot be replaced.
abbrev pub IsNotLowered : {X : Type 0} → (X → ℕ) → ℕ → Option X → List X → Type 0
IsNotLowered {X} key t entry c = (e : X) → entry ≡ Some e → CanLower key t e c → ⊥

-- An id that is next to no run of the leaf was added as a run.
pub record IsAddedAlone (id : ℕ) (c : List Run) (cs : List (List Run)) : Type 0 where
  pub alone : IsAlone id c
  pub put : IsPut last_of (Some (one_id id)) None None c cs

-- An id is next to no run of the leaf, which has no room.
pub record IsCrowdedAlone (id : ℕ) (c : List Run) : Type 0 where
  pub alone : IsAlone id c
  pub full : 64 ≤ length c
