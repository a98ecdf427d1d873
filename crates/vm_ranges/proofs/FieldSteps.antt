-- The fields of a saved value.
use Rattle.std.proofs.Common.{◌≡◌, ℕ, true, List, length, Option, Some, None, option_map, MatchOption, refl, ap, ◌∙◌}
use Rattle.std.proofs.lemmas.Bool.{eqb-true, eq-eqb}
use Rattle.serde_json.specs.Data.{Data}
use Rattle.serde_json.specs.Find.{get, as_object}
use Rattle.serde_json.specs.Events.{members_len}
use Rattle.serde_json.specs.View.{members_view}
use Rattle.serde_json.proofs.Views.{Entry, members_len-members_view}
use Rattle.vm_ranges.specs.Fields.{field_count, is_count, FieldIs}

-- The number of fields of an object is the number of its entries.
pub field_count_of : (d : Data) (es : List Entry) → as_object d ≡ Some (members_view es) → field_count d ≡ Some (length es)
field_count_of d es e = ap (option_map members_len) e ∙ ap Some (members_len-members_view es)

pub ruleset counts = (field_count_of)

-- The test for n fields is true only if there are n fields.
pub count-true : (n : ℕ) (o : Option ℕ) → is_count n o ≡ true → o ≡ Some n
count-true n None e = absurd (cc)
count-true n (Some c) e = ap Some (eqb-true c n e)

-- The test for n fields is true if there are n fields.
pub true-count : (n : ℕ) (o : Option ℕ) → o ≡ Some n → is_count n o ≡ true
true-count n o e = rw e (eq-eqb n n refl)

-- The value of a field for which a fact is true.
pub in_field : (k : List ℕ) (d : Data) (P : Data → Type 0) → FieldIs k d P → (v : Data) × (get k d ≡ Some v) × P v
in_field k d P = found (get k d) P where
  found : (o : Option Data) (P : Data → Type 0) → MatchOption o ⊥ P → (v : Data) × (o ≡ Some v) × P v
  found None P h = absurd h
  found (Some v) P h = (v, refl, h)

-- A fact of the value of a field is a fact of the field.
pub field_is : (k : List ℕ) (d v : Data) (P : Data → Type 0) → get k d ≡ Some v → P v → FieldIs k d P
field_is k d v P e p = rw e p

-- A fact of a field that follows from another fact of it.
pub field_map : (k : List ℕ) (d : Data) (P Q : Data → Type 0) → ((v : Data) → P v → Q v) → FieldIs k d P → FieldIs k d Q
field_map k d P Q f h = let at = in_field k d P h in field_is k d at.0 Q at.1 (f at.0 at.2)
