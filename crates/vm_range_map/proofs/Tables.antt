-- Tables with numbers as keys, after one key is inserted or removed, and the table of a list of entries.
use Rattle.std.proofs.Common.{◌≡◌, ◌≢◌, ◌==◌, ◌⊎◌, ℕ, Bool, true, false, cond, List, [], ◌∷◌, map as map_list, nat_eq, refl, ap, ◌∙◌, arith, Some, None, option_map}
use Rattle.std.specs.Ordering.{nat_cmp}
use Rattle.std.specs.Cmp.{nat_cmp_total, unsigned_tied}
use Rattle.std.specs.FinMap as map
use Rattle.vm_list.specs.Entries.{entry_at, with_entry, without}
use Rattle.vm_list.proofs.EntryLaws.{entries_are_by_key}

module _ {X : Type 0} where
  -- The key that is inserted has the value, and the other keys have their former values.
  pub get_with : (m : map.FinMap nat_cmp X) (k : ℕ) (v : X) (q : ℕ) → map.get (map.insert m k v) q ≡ cond (q == k) (Some v) (map.get m q)
  get_with m k v q = map.get-insert nat_cmp_total m k v q ∙ ap (λ t. cond t (Some v) (map.get m q)) (unsigned_tied q k)

  -- The key that is removed has no value, and the other keys have their former values.
  pub get_without : (m : map.FinMap nat_cmp X) (k q : ℕ) → map.get (map.remove m k) q ≡ cond (q == k) None (map.get m q)
  get_without m k q = map.get-remove nat_cmp_total m k q ∙ ap (λ t. cond t None (map.get m q)) (unsigned_tied q k)

  pub with_here : (m : map.FinMap nat_cmp X) (k : ℕ) (v : X) → map.get (map.insert m k v) k ≡ Some v
  with_here m k v = let at = get_with m k v k in grind (arith, at)

  pub with_other : (m : map.FinMap nat_cmp X) (k : ℕ) (v : X) (q : ℕ) → q ≢ k → map.get (map.insert m k v) q ≡ map.get m q
  with_other m k v q n = let at = get_with m k v q in grind (arith, at, n)

  pub without_here : (m : map.FinMap nat_cmp X) (k : ℕ) → map.get (map.remove m k) k ≡ None
  without_here m k = let at = get_without m k k in grind (arith, at)

  -- Tables with the same value at each key are equal.
  pub same_table : (m n : map.FinMap nat_cmp X) → ((q : ℕ) → map.get m q ≡ map.get n q) → m ≡ n
  same_table m n h = map.same_map nat_cmp_total map.nat_cmp-IsAntisymmetric m n h

-- ---- The table of a list of entries
module _ {E X : Type 0} (key_of : E → ℕ) (value_of : E → X) where
  -- The table has the value of each entry at its key.
  abbrev pub table_of : List E → map.FinMap nat_cmp X
  table_of es = map.from_entries (map_list (λ e. (key_of e, value_of e)) es)

  -- The value of the first entry, if it is that of the key.
  by_key : (e : E) (es : List E) (q : ℕ) (a b : Bool) → a ≡ b → map.get (table_of es) q ≡ option_map value_of (entry_at key_of q es) →
      cond a (Some (value_of e)) (map.get (table_of es) q) ≡ option_map value_of (cond b (Some e) (entry_at key_of q es))
  by_key e es q a true s h = rw s refl
  by_key e es q a false s h = rw s h

  -- The table has the value of the entry at each key.
  pub got : (q : ℕ) (es : List E) → map.get (table_of es) q ≡ option_map value_of (entry_at key_of q es)
  unfolding entry_at
  got q [] = map.get-empty nat_cmp q
  got q (e ∷ es) =
      get_with (table_of es) (key_of e) (value_of e) q
      ∙ by_key e es q (q == key_of e) (nat_eq (key_of e) q) (grind arith) (got q es)

  -- An entry that is put into the list is inserted into the table.
  pub put_table : (e : E) (es : List E) → table_of (with_entry key_of e es) ≡ map.insert (table_of es) (key_of e) (value_of e)
  put_table e es =
      same_table _ _ (λ q. grind (arith, got q (with_entry key_of e es), got q es, (entries_are_by_key key_of).put e es q, get_with (table_of es) (key_of e) (value_of e) q))

  -- A key that is taken out of the list is removed from the table.
  pub taken_table : (k : ℕ) (es : List E) → table_of (without key_of k es) ≡ map.remove (table_of es) k
  taken_table k es =
      same_table _ _ (λ q. grind (arith, got q (without key_of k es), got q es, (entries_are_by_key key_of).taken k es q, get_without (table_of es) k q))

-- A value that moves to the same start stays.
pub moved_nowhere : {X : Type 0} (m : map.FinMap nat_cmp X) (from to : ℕ) (value : X) → from ≡ to → map.get m from ≡ Some value →
    m ≡ map.insert (map.remove m from) to value
moved_nowhere m from to value e h =
    same_table _ _ (λ q. grind (arith, e, h, get_with (map.remove m from) to value q, get_without m from q))

-- A value can be inserted before another one is removed.
pub moved_later : {X : Type 0} (m : map.FinMap nat_cmp X) (from to : ℕ) (value : X) → to ≢ from →
    map.insert (map.remove m from) to value ≡ map.remove (map.insert m to value) from
moved_later m from to value n =
    same_table _ _ (λ q. grind (arith, n, get_with (map.remove m from) to value q, get_without m from q, get_without (map.insert m to value) from q, get_with m to value q))

-- A value that is removed before another one is inserted at its key.
pub replaced_value : {X : Type 0} (m : map.FinMap nat_cmp X) (k : ℕ) (value : X) → map.insert (map.remove m k) k value ≡ map.insert m k value
replaced_value m k value =
    same_table _ _ (λ q. grind (arith, get_with (map.remove m k) k value q, get_without m k q, get_with m k value q))

-- A value that is inserted where it is changes nothing, also after another one is removed.
pub kept_value : {X : Type 0} (m : map.FinMap nat_cmp X) (a b : ℕ) (value : X) → map.get m a ≡ Some value → a ≢ b →
    map.insert (map.remove m b) a value ≡ map.remove m b
kept_value m a b value here n = same_table _ _ (λ q. grind (arith, here, n, get_with (map.remove m b) a value q, get_without m b q))

-- A value that was removed together with another one, and is put again at another or at its own index.
pub put_again : {X : Type 0} (m : map.FinMap nat_cmp X) (a b : ℕ) (value : X) →
    map.insert (map.remove (map.remove m a) b) a value ≡ map.insert (map.remove m b) a value
put_again m a b value =
    same_table _ _ (λ q. grind (arith, get_with (map.remove (map.remove m a) b) a value q, get_without (map.remove m a) b q, get_without m a q, get_with (map.remove m b) a value q, get_without m b q))

-- A key is this one, or another one.
pub same_or_not : (a b : ℕ) → (a ≡ b) ⊎ (a ≢ b)
same_or_not a b = grind arith
