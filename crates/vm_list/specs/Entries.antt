-- Lists of entries in descending order of their keys.
use Rattle.std.specs.Prelude.{◌≡◌, ℕ, ◌<◌, ◌≤◌, List, ◌∷◌, ◌++◌, length, slice_index_or, nat_lt, nat_le, nat_eq, Bool, ◌&&◌, Option, Some, None, reverse}
use Rattle.std.specs.List.{filter, find}

-- The keys descend.
abbrev pub IsDescendingBy : {X : Type 0} → (X → ℕ) → List X → Type 0
IsDescendingBy {X} key xs =
    (i j : ℕ) (d : X) → i < j → j < length xs → key (slice_index_or xs j d) < key (slice_index_or xs i d)

-- b is the key of the entry at k.
abbrev pub IsKeyOf : {X : Type 0} → (X → ℕ) → ℕ → ℕ → List X → Type 0
IsKeyOf {X} key b k xs = (d : X) → b ≡ key (slice_index_or xs k d)

-- The first n entries have keys above t, and the others have not.
pub record IsPlace {X : Type 0} (key : X → ℕ) (t n : ℕ) (xs : List X) : Type 0 where
  pub bound : n ≤ length xs
  pub above : (k : ℕ) (d : X) → k < n → t < key (slice_index_or xs k d)
  pub below : (k : ℕ) (d : X) → n ≤ k → k < length xs → key (slice_index_or xs k d) ≤ t

-- The first n entries have keys from t on, and the others have not.
pub record IsPlaceFrom {X : Type 0} (key : X → ℕ) (t n : ℕ) (xs : List X) : Type 0 where
  pub bound : n ≤ length xs
  pub from : (k : ℕ) (d : X) → k < n → t ≤ key (slice_index_or xs k d)
  pub below : (k : ℕ) (d : X) → n ≤ k → k < length xs → key (slice_index_or xs k d) < t

-- The entries with keys above t.
unfoldable pub above : {X : Type 0} → (X → ℕ) → ℕ → List X → List X
above key t xs = filter (λ x. nat_lt t (key x)) xs

-- The entries with keys below t.
unfoldable pub below : {X : Type 0} → (X → ℕ) → ℕ → List X → List X
below key t xs = filter (λ x. nat_lt (key x) t) xs

-- The entry has a key from lo to hi.
abbrev pub is_between : {X : Type 0} → (X → ℕ) → ℕ → ℕ → X → Bool
is_between key lo hi x = nat_le lo (key x) && nat_le (key x) hi

-- The entries with keys from lo to hi.
unfoldable pub between : {X : Type 0} → (X → ℕ) → ℕ → ℕ → List X → List X
between key lo hi xs = filter (is_between key lo hi) xs

-- The list with the entry e, which replaces an entry with its key.
unfoldable pub with_entry : {X : Type 0} → (X → ℕ) → X → List X → List X
with_entry key e xs = above key (key e) xs ++ e ∷ below key (key e) xs

-- The list without the entry with the key t.
unfoldable pub without : {X : Type 0} → (X → ℕ) → ℕ → List X → List X
without key t xs = above key t xs ++ below key t xs

-- The entry with the key t, if there is one.
unfoldable pub entry_at : {X : Type 0} → (X → ℕ) → ℕ → List X → Option X
entry_at key t xs = find (λ x. nat_eq (key x) t) xs

-- The entry with the lowest key from t on, if there is one.
unfoldable pub at_or_above : {X : Type 0} → (X → ℕ) → ℕ → List X → Option X
at_or_above key t xs = find (λ x. nat_le t (key x)) (reverse xs)

-- The entry with the highest key below t, if there is one.
unfoldable pub highest_below : {X : Type 0} → (X → ℕ) → ℕ → List X → Option X
highest_below key t xs = find (λ x. nat_lt (key x) t) xs

-- The list without the entry with the key in k, if k has one.
abbrev pub without_some : {X : Type 0} → (X → ℕ) → Option ℕ → List X → List X
without_some key None xs = xs
without_some key (Some t) xs = without key t xs

-- The entry at p has the key t.
pub record IsFoundAt {X : Type 0} (key : X → ℕ) (t p : ℕ) (xs : List X) : Type 0 where
  pub within : p < length xs
  pub place : IsPlace key t p xs
  pub has_key : IsKeyOf key t p xs

-- No entry has the key t, and one with it belongs at p.
pub record IsMissingAt {X : Type 0} (key : X → ℕ) (t p : ℕ) (xs : List X) : Type 0 where
  pub place : IsPlace key t p xs
  pub missing : entry_at key t xs ≡ None
