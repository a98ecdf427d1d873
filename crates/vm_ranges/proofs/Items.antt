-- The items of a list, one by one, and numbers in order.
use Rattle.std.proofs.Common.{◌≡◌, ℕ, ◌+◌, ◌<◌, List, ◌∷◌, length, get_or, drop, sym, ap, ◌∙◌, subst, nat_cmp, Ordering, Less}
use Rattle.std.proofs.lemmas.List.{drop_more}
use Rattle.std.specs.Cmp.{nat_cmp_is, ranks}
use Rattle.std.specs.Ordering.{MatchOrdering}
use Rattle.serde_json.specs.Data.{item}
use Rattle.serde_json.specs.View.{view, items_view}
use Rattle.serde_json.specs.declared.value.Value.{Value}

-- The items starting at an index are the item there and the items after it.
pub items_from : (vs : List Value) (i : ℕ) (v : Value) → i < length vs → v ≡ get_or vs i v →
    items_view (drop i vs) ≡ item (view v) (items_view (drop (i + 1) vs))
items_from vs i v h e = ap items_view (drop_more vs i v h ∙ ap (λ (x : Value). x ∷ drop (i + 1) vs) (sym e))

-- Numbers are compared as Less if and only if the first one is less.
pub less : (n m : ℕ) → n < m → nat_cmp n m ≡ Less
less n m p = sym (nat_cmp_is n m Less p)

pub less_is : (n m : ℕ) → nat_cmp n m ≡ Less → n < m
less_is n m e = subst (λ (o : Ordering). MatchOrdering o (n < m) (n ≡ m) (m < n)) e (ranks n m)
