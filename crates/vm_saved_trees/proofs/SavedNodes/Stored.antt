-- The keys and spans that a reader stores for the nodes that it has read.
use Rattle.std.proofs.Common.{
  ◌≡◌,
  ℕ,
  zero,
  suc,
  ◌+◌,
  ◌≤◌,
  ◌<◌,
  ◌⊎◌,
  inl,
  inr,
  false,
  true,
  List,
  [],
  ◌∷◌,
  ◌++◌,
  length,
  get_or,
  set,
  is_some,
  Option,
  Some,
  None,
  Result,
  Ok,
  Err,
  refl,
  sym,
  ap,
  ◌∙◌,
  subst,
  arith,
}
use Rattle.std.proofs.lemmas.List.{append_assoc, append-nil}
use Rattle.vm_ranges.specs.Range.{Range, IsRange}
use Rattle.vm_ranges.specs.declared.saved.SavedError.{SavedError}
use Rattle.vm_ranges.specs.declared.saved.SavedError.TheVariants.{Violated, OutOfMemory}
use Rattle.vm_ranges.specs.declared.saved.Condition.TheVariants.{Nesting, Keys, Tree}
use Rattle.vm_leaf.specs.declared.block.Block.{Block}
use Rattle.vm_leaf.specs.SpaceBlocks.{range_if_held}
use Rattle.vm_saved_trees.specs.KeyValues.{MAX_NESTING_REPAIRED}
use Rattle.vm_saved_trees.specs.SavedTrees.{Saved, Absent, saved_blocks, held_keys, IsReadable}
use Rattle.vm_saved_trees.specs.NodesRead.{
  BeginsNode,
  EndsNode,
  HasRead,
  IsReader,
  stored_unless,
  ReadChildren,
  NodesRead,
  childless,
  nothing_read,
  begun,
  child,
  with_child,
  node_of,
  CanEnd,
  ended,
  StandForBoth,
  StandForAll,
  keys_of,
  all_keys,
  Stored,
  IsStoredFor,
  EndFails,
  EndsStored,
  child_span,
  with_span,
  innermost,
  around,
  stored_in,
}
use Rattle.vm_saved_trees.specs.Spans.{StandsFor, span_of, span_over, held_in}
use Rattle.vm_saved_trees.specs.declared.nodes.Children.{Children}
use Rattle.vm_saved_trees.specs.declared.nodes.Side.{Side}
use Rattle.vm_saved_trees.specs.declared.nodes.Side.TheVariants.{Left, Right}
use Rattle.vm_saved_trees.specs.declared.span.Span.{Span}
use Rattle.vm_saved_trees.proofs.SavedNodes.KeyLists.{held_node}
use Rattle.vm_saved_trees.proofs.SavedNodes.Spans.{sound, complete, held_is}

-- ---- Lists of children

-- The last of the spans stands for the last children.
record Last (before : List Children) (last : Children) (cs : List ReadChildren) : Type 0 where
  pub outer : List ReadChildren
  pub parent : ReadChildren
  pub is_last : cs ≡ outer ++ parent ∷ []
  pub spans : StandForAll before outer
  pub span : StandForBoth last parent

last_stands : (spans : List Children) (s : Children) (cs : List ReadChildren) → StandForAll (spans ++ s ∷ []) cs → Last spans s cs
last_stands [] s [] h = absurd h
last_stands [] s (c ∷ []) h = record { outer = []; parent = c; is_last = refl; spans = tt; span = h.0 }
last_stands [] s (c ∷ d ∷ cs) h = absurd h.1
last_stands (x ∷ xs) s [] h = absurd h
last_stands (x ∷ xs) s (c ∷ cs) h =
    let l = last_stands xs s cs h.1 in
    record {
      outer = c ∷ l.outer;
      parent = l.parent;
      is_last = ap (λ (v : List ReadChildren). c ∷ v) l.is_last;
      spans = (h.0, l.spans);
      span = l.span;
    }

one_more : (spans : List Children) (s : Children) (cs : List ReadChildren) (c : ReadChildren) → StandForAll spans cs → StandForBoth s c →
    StandForAll (spans ++ s ∷ []) (cs ++ c ∷ [])
one_more [] s [] c h own = (own, tt)
one_more [] s (d ∷ cs) c h own = absurd h
one_more (x ∷ xs) s [] c h own = absurd h
one_more (x ∷ xs) s (d ∷ cs) c h own = (h.0, one_more xs s cs c h.1 own)

as_many : (spans : List Children) (cs : List ReadChildren) → StandForAll spans cs → length spans ≡ length cs
as_many [] [] h = refl
as_many [] (c ∷ cs) h = absurd h
as_many (s ∷ ss) [] h = absurd h
as_many (s ∷ ss) (c ∷ cs) h = let e = as_many ss cs h.1 in omega arith

keys_join : (cs : List ReadChildren) (c : ReadChildren) → all_keys (cs ++ c ∷ []) ≡ all_keys cs ++ keys_of c
keys_join [] c = append-nil (keys_of c)
keys_join (d ∷ cs) c = ap (λ (v : List Range). keys_of d ++ v) (keys_join cs c) ∙ sym (append_assoc (keys_of d) (all_keys cs) (keys_of c))

-- ---- The innermost node

pub innermost_push : (root c : Children) (nested : List Children) → innermost root (nested ++ c ∷ []) ≡ c
innermost_push root c [] = refl
innermost_push root c (x ∷ nested) = innermost_push x c nested

pub around_push : (root c : Children) (nested : List Children) → around root (nested ++ c ∷ []) ≡ root ∷ nested
around_push root c [] = refl
around_push root c (x ∷ nested) = ap (λ (v : List Children). root ∷ v) (around_push x c nested)

pub levels : (root : Children) (nested : List Children) → around root nested ++ innermost root nested ∷ [] ≡ root ∷ nested
levels root [] = refl
levels root (c ∷ nested) = ap (λ (v : List Children). root ∷ v) (levels c nested)

pub depth : (root : Children) (nested : List Children) → length (around root nested) ≡ length nested
depth root [] = refl
depth root (c ∷ nested) = let e = depth c nested in omega arith

-- The values after a node began.
abbrev childless_spans : Children
childless_spans = record { left = None; right = None }

opened : (held : List Range) (root : Children) (nested more : List Children) → more ≡ nested ++ childless_spans ∷ [] →
    record { held = held; children = childless_spans; outer = around root nested ++ innermost root nested ∷ [] } ≡ stored_in held root more
opened held root nested more e = rw (e, levels root nested, innermost_push root childless_spans nested, around_push root childless_spans nested) refl

-- The last node has the last index.
pub last_is : (root c : Children) (nested : List Children) (i : ℕ) → i + 1 ≡ length nested → innermost root nested ≡ get_or nested i c
last_is root c [] i e = absurd (omega arith)
last_is root c (x ∷ []) zero e = refl
last_is root c (x ∷ []) (suc i) e = absurd (omega arith)
last_is root c (x ∷ y ∷ nested) zero e = absurd (omega arith)
last_is root c (x ∷ y ∷ nested) (suc i) e = last_is x c (y ∷ nested) i (omega arith)

-- The last node is replaced.
pub set_last : (root c : Children) (nested : List Children) (i : ℕ) → i + 1 ≡ length nested → innermost root (set nested i c) ≡ c
set_last root c [] i e = absurd (omega arith)
set_last root c (x ∷ []) zero e = refl
set_last root c (x ∷ []) (suc i) e = absurd (omega arith)
set_last root c (x ∷ y ∷ nested) zero e = absurd (omega arith)
set_last root c (x ∷ y ∷ nested) (suc i) e = set_last x c (y ∷ nested) i (omega arith)

pub set_others : (root c : Children) (nested : List Children) (i : ℕ) → i + 1 ≡ length nested →
    around root (set nested i c) ≡ around root nested
set_others root c [] i e = absurd (omega arith)
set_others root c (x ∷ []) zero e = refl
set_others root c (x ∷ []) (suc i) e = absurd (omega arith)
set_others root c (x ∷ y ∷ nested) zero e = absurd (omega arith)
set_others root c (x ∷ y ∷ nested) (suc i) e = ap (λ (v : List Children). root ∷ v) (set_others x c (y ∷ nested) i (omega arith))

-- ---- A child that did not end

is_absent : (o : Option Span) (t : Saved) → StandsFor o t → is_some o ≡ false → t ≡ Absent
is_absent None t s e = sound t None s.ranges s.is_span
is_absent (Some v) t s e = absurd (cc e)

has_span : (o : Option Span) (t : Saved) → StandsFor o t → is_some o ≡ true → t ≡ Absent → ⊥
has_span None t s e absent = absurd (cc e)
has_span (Some v) t s e absent = let f : span_of Absent
    ≡ Some (Some v) = subst (λ (x : Saved). span_of x ≡ Some (Some v)) absent s.is_span in absurd (cc f)

child_stands : (side : Side) (s : Children) (c : ReadChildren) → StandForBoth s c → StandsFor (child_span side s) (child side c)
child_stands Left s c h = h.left
child_stands Right s c h = h.right

stands_with : (side : Side) (s : Children) (c : ReadChildren) (span : Span) (t : Saved) → StandForBoth s c → StandsFor (Some span) t →
    StandForBoth (with_span side span s) (with_child side t c)
stands_with Left s c span t h own = record { left = own; right = h.right }
stands_with Right s c span t h own = record { left = h.left; right = own }

-- ---- Beginning

childless_stands : StandForBoth (record { left = None; right = None }) childless
childless_stands = record { left = record { is_span = refl; ranges = tt }; right = record { is_span = refl; ranges = tt } }

pub starts : (held : List Range) (nested : List Children) → held ≡ [] → nested ≡ [] →
    IsStoredFor (stored_in held (record { left = None; right = None }) nested) nothing_read
starts held nested e f = rw f (record { children = childless_stands; outer = tt; keys = e })

begins : (held : List Range) (children : Children) (outer : List Children) (nodes : NodesRead) →
    IsStoredFor (record { held = held; children = children; outer = outer }) nodes →
    IsStoredFor (record { held = held; children = record { left = None; right = None }; outer = outer ++ children ∷ [] }) (begun nodes)
begins held children outer nodes h = record {
  children = childless_stands;
  outer = one_more outer children nodes.outer nodes.children h.outer h.children;
  keys = h.keys ∙ sym (keys_join nodes.outer nodes.children) ∙ sym (append-nil (all_keys (nodes.outer ++ nodes.children ∷ [])));
}

-- The fields of a reader after a node began.
begun_fields : (held : List Range) (root : Children) (nested more : List Children) (nodes : NodesRead) →
    more ≡ nested ++ childless_spans ∷ [] → IsStoredFor (stored_in held root nested) nodes → IsStoredFor (stored_in held root more) (begun nodes)
begun_fields held root nested more nodes e h = subst (λ (v : Stored). IsStoredFor v (begun nodes)) (opened held root nested more e)
    (begins held (innermost root nested) (around root nested) nodes h)

open_nodes : (held : List Range) (root : Children) (nested : List Children) (nodes : NodesRead) →
    IsStoredFor (stored_in held root nested) nodes → length nested ≡ length nodes.outer
open_nodes held root nested nodes h = sym (depth root nested) ∙ as_many (around root nested) nodes.outer h.outer

-- The value of a reader without an error.
is_ok : (old : Result Stored SavedError) (failed : Option SavedError) (stored : Stored) → stored_unless failed stored ≡ old →
    failed ≡ None → Ok stored ≡ old
is_ok old failed stored e none = ap (λ (f : Option SavedError). stored_unless f stored) (sym none) ∙ e

-- The error of `begin`.
abbrev Refuses : ℕ → SavedError → Type 0
Refuses depth e = ((e ≡ Violated Nesting) × (MAX_NESTING_REPAIRED ≤ depth)) ⊎ ((e ≡ OutOfMemory) × (depth < MAX_NESTING_REPAIRED))

module _ (old : Result Stored SavedError) (failed : Option SavedError) (held : List Range) (root : Children) (nested : List Children)
    (is : stored_unless failed (stored_in held root nested) ≡ old) (none : failed ≡ None) where
  pub begin_fails : (e : SavedError) → Refuses (length nested) e → BeginsNode old (Err e) (Err e)
  begin_fails e r = subst (λ (v : Result Stored SavedError). BeginsNode v (Err e) (Err e)) (is_ok old failed _ is none)
      (λ nodes stored. (refl, subst (λ (n : ℕ). Refuses n e) (open_nodes held root nested nodes stored) r))

  pub begin_ends : (more : List Children) → (length nested < MAX_NESTING_REPAIRED) × (more ≡ nested ++ childless_spans ∷ []) →
      BeginsNode old (Ok tt) (stored_unless failed (stored_in held root more))
  begin_ends more n =
      subst (λ (v : Result Stored SavedError). BeginsNode v (Ok tt) (stored_unless failed (stored_in held root more)))
      (is_ok old failed _ is none)
      (λ nodes stored. (
        subst (λ (k : ℕ). k < MAX_NESTING_REPAIRED) (open_nodes held root nested nodes stored) n.0,
        rw none (begun_fields held root nested more nodes n.1 stored),
      ))

pub reader_begins : (failed : Option SavedError) (held : List Range) (root : Children) (nested more : List Children) →
    IsReader (stored_unless failed (stored_in held root nested)) → failed ≡ None →
    (length nested < MAX_NESTING_REPAIRED) × (more ≡ nested ++ childless_spans ∷ []) →
    IsReader (stored_unless failed (stored_in held root more))
reader_begins failed held root nested more reader none n =
    let read = subst (λ (f : Option SavedError). IsReader (stored_unless f (stored_in held root nested))) none reader in
    rw none (begun read.0, begun_fields held root nested more read.0 n.1 read.1)

-- ---- Ending

same_last : (xs ys : List ReadChildren) (x y : ReadChildren) → xs ++ x ∷ [] ≡ ys ++ y ∷ [] → x ≡ y
same_last [] [] x y e = cc e
same_last [] (c ∷ []) x y e = absurd (cc e)
same_last [] (c ∷ d ∷ ys) x y e = absurd (cc e)
same_last (c ∷ []) [] x y e = absurd (cc e)
same_last (c ∷ d ∷ xs) [] x y e = absurd (cc e)
same_last (c ∷ xs) (d ∷ ys) x y e = same_last xs ys x y (cc e)

-- The keys of a new child are in their place.
placed_left : (before lefts rights lasts : List Range) → lefts ≡ [] → (before ++ lefts) ++ (lasts ++ rights) ≡ before ++ (lasts ++ rights)
placed_left before lefts rights lasts e = ap (λ (v : List Range). (before ++ v) ++ (lasts ++ rights)) e
    ∙ ap (λ (v : List Range). v ++ (lasts ++ rights)) (append-nil before)

placed_right : (before lefts rights lasts : List Range) → rights ≡ [] → (before ++ lefts) ++ (lasts ++ rights) ≡ before ++ (lefts ++ lasts)
placed_right before lefts rights lasts e =
    ap (λ (v : List Range). (before ++ lefts) ++ (lasts ++ v)) e ∙ ap (λ (v : List Range). (before ++ lefts) ++ v) (append-nil lasts)
    ∙ append_assoc before lefts lasts

placed : (side : Side) (before : List Range) (c : ReadChildren) (t : Saved) → child side c ≡ Absent →
    (before ++ held_keys c.left) ++ (held_keys t ++ held_keys c.right) ≡ before ++ keys_of (with_child side t c)
placed Left before c t e = placed_left before (held_keys c.left) (held_keys c.right) (held_keys t) (ap held_keys e)
placed Right before c t e = placed_right before (held_keys c.left) (held_keys c.right) (held_keys t) (ap held_keys e)

-- The keys after the key of a node was inserted.
abbrev pub InsertsKey : List Range → ℕ → Block → List Range → Type 0
InsertsKey old after b new = (lefts rights : List Range) → old ≡ lefts ++ rights → length rights ≡ after →
    new ≡ lefts ++ (range_if_held b.state b.key ++ rights)

-- The keys after the last `count` ones were moved before the `right` ones before them.
abbrev pub OrdersKeys : List Range → ℕ → ℕ → List Range → Type 0
OrdersKeys old right count new =
    (before rights lasts : List Range) → old ≡ before ++ (rights ++ lasts) → length rights ≡ right → length lasts ≡ count →
    new ≡ before ++ (lasts ++ rights)

-- A node ends: the innermost one of a reader, whose children are `children`.
module _ (side : Side) (b : Block) (h : ℕ) (held : List Range) (root children : Children) (nested outer : List Children)
    (is_last : nested ≡ outer ++ children ∷ []) where
  abbrev parent : Children
  parent = innermost root outer

  abbrev Reads : NodesRead → Type 0
  Reads nodes = IsStoredFor (stored_in held root nested) nodes

  abbrev Fails : SavedError → Type 0
  Fails e = (nodes : NodesRead) → Reads nodes → EndFails side (node_of nodes b h) nodes e

  own : (nodes : NodesRead) → Reads nodes → IsStoredFor (record { held = held; children = children; outer = root ∷ outer }) nodes
  own nodes reads = subst (λ (v : Stored). IsStoredFor v nodes)
      (rw (is_last, innermost_push root children outer, around_push root children outer) refl) reads

  last : (nodes : NodesRead) → Reads nodes → Last (around root outer) parent nodes.outer
  last nodes reads = last_stands (around root outer) parent nodes.outer
      (subst (λ (v : List Children). StandForAll v nodes.outer) (sym (levels root outer)) (own nodes reads).outer)

  -- There is a child on this side.
  pub child_is_there : is_some (child_span side parent) ≡ true → Fails (Violated Tree)
  child_is_there e = λ nodes reads.
      let l = last nodes reads in
      inl (
        refl,
        λ (other : CanEnd side nodes).
            let same = same_last other.outer l.outer other.parent l.parent (sym other.is_last ∙ l.is_last) in
            has_span _ _ (child_stands side parent l.parent l.span) e
            (subst (λ (v : ReadChildren). child side v ≡ Absent) same other.is_new),
      )

  module _ (free : is_some (child_span side parent) ≡ false) (range : IsRange b.key.start b.key.end) where
    can : (nodes : NodesRead) → Reads nodes → CanEnd side nodes
    can nodes reads =
        let l = last nodes reads in
        record {
          parent = l.parent;
          outer = l.outer;
          is_last = l.is_last;
          is_new = is_absent _ _ (child_stands side parent l.parent l.span) free;
        }

    -- The subtree is not readable.
    pub not_readable : span_over children.left b children.right h ≡ None → Fails (Violated Keys)
    not_readable e = λ nodes reads.
        let stored = own nodes reads in
        let none : span_of (node_of nodes b h) ≡ None = rw (stored.children.left.is_span, stored.children.right.is_span, e) refl in
        inr (
          can nodes reads,
          inl (
            refl,
            λ (r : IsReadable (node_of nodes b h)).
                let some = complete (node_of nodes b h) (stored.children.left.ranges, stored.children.right.ranges, range) r in
                let is = some.1 in
                absurd (cc (none, is)),
          ),
        )

    module _ (s : Span) (is : span_over children.left b children.right h ≡ Some s) where
      stands : (nodes : NodesRead) → Reads nodes → StandsFor (Some s) (node_of nodes b h)
      stands nodes reads =
          let stored = own nodes reads in
          record {
            is_span = rw (stored.children.left.is_span, stored.children.right.is_span, is) refl;
            ranges = (stored.children.left.ranges, stored.children.right.ranges, range);
          }

      -- Memory for the key ran out.
      pub no_memory : Fails OutOfMemory
      no_memory = λ nodes reads.
          let st = stands nodes reads in
          let means = sound (node_of nodes b h) (Some s) st.ranges st.is_span in
          inr (can nodes reads, inr (refl, means.readable))

      -- The node ends.
      pub node_ends : (mid new : List Range) (top : Children) (others : List Children) →
          InsertsKey held (held_in children.right) b mid → OrdersKeys mid (held_in parent.right) (held_in (Some s)) new →
          innermost top others ≡ with_span side s parent → around top others ≡ around root outer →
          EndsStored side b h (stored_in held root nested) (Ok tt) (stored_in new top others)
      unfolding can last
      node_ends mid new top others inserted ordered e f = λ nodes reads.
          let l = last nodes reads in
          let stored = own nodes reads in
          let st = stands nodes reads in
          let t = node_of nodes b h in
          let lefts = held_keys nodes.children.left in
          let rights = held_keys nodes.children.right in
          let own_keys = range_if_held b.state b.key in
          let before = all_keys l.outer in
          let all = all_keys nodes.outer in
          let right_count = held_is children.right nodes.children.right
          (sound _ _ stored.children.right.ranges stored.children.right.is_span) in
          let count = held_is (Some s) t (sound t (Some s) st.ranges st.is_span) in
          let parent_count = held_is parent.right l.parent.right (sound _ _ l.span.right.ranges l.span.right.is_span) in
          let made : mid ≡ (all ++ lefts) ++ (own_keys ++ rights) = inserted (all ++ lefts) rights
          (stored.keys ∙ sym (append_assoc all lefts rights)) right_count in
          let keys : mid ≡ all ++ held_keys t = made ∙ append_assoc all lefts (own_keys ++ rights)
          ∙ ap (λ (v : List Range). all ++ v) (sym (held_node (saved_blocks nodes.children.left) b (saved_blocks nodes.children.right))) in
          let cut : all ≡ before ++ keys_of l.parent = ap all_keys l.is_last ∙ keys_join l.outer l.parent in
          let split : mid ≡ (before ++ held_keys l.parent.left) ++ (held_keys l.parent.right ++ held_keys t) =
          keys ∙ ap (λ (v : List Range). v ++ held_keys t)
          (cut ∙ sym (append_assoc before (held_keys l.parent.left) (held_keys l.parent.right)))
          ∙ append_assoc (before ++ held_keys l.parent.left) (held_keys l.parent.right) (held_keys t) in
          let moved = ordered (before ++ held_keys l.parent.left) (held_keys l.parent.right) (held_keys t) split parent_count count in (
            can nodes reads,
            record {
              children = subst (λ (v : Children). StandForBoth v (with_child side t l.parent)) (sym e)
                  (stands_with side parent l.parent s t l.span st);
              outer = subst (λ (v : List Children). StandForAll v l.outer) (sym f) l.spans;
              keys = moved ∙ placed side before l.parent t (can nodes reads).is_new;
            },
          )

-- ---- The calls of a reader

pub end_ends : (side : Side) (b : Block) (h : ℕ) (old : Result Stored SavedError) (failed : Option SavedError) (stored new : Stored) →
    stored_unless failed stored ≡ old → failed ≡ None → EndsStored side b h stored (Ok tt) new →
    EndsNode side b h old (Ok tt) (stored_unless failed new)
end_ends side b h old failed stored new is none ends =
    subst (λ (v : Result Stored SavedError). EndsNode side b h v (Ok tt) (stored_unless failed new)) (is_ok old failed stored is none)
    (λ nodes s.
    let x = ends nodes s in
    (x.0, subst (λ (f : Option SavedError). HasRead (stored_unless f new) (ended side (node_of nodes b h) nodes x.0)) (sym none) x.1))
