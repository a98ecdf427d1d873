-- The nodes of a value are read as those of its saved tree.
use Rattle.std.proofs.Common.{
  ◌≡◌,
  ℕ,
  ◌+◌,
  ◌≤◌,
  false,
  List,
  [],
  ◌++◌,
  Result,
  Ok,
  Err,
  OnOk,
  Some,
  None,
  Option,
  is_some,
  ◌<◌,
  refl,
  sym,
  ap,
  ◌∙◌,
  subst,
  arith,
}
use Rattle.std.proofs.lemmas.List.{append_assoc, append-nil}
use Rattle.std.proofs.lemmas.Option.{same_Some}
use Rattle.serde_json.specs.Data.{Data, null}
use Rattle.serde_json.specs.Find.{as_null}
use Rattle.vm_ranges.proofs.Steps.{and_then_some}
use Rattle.vm_ranges.specs.Range.{Range, IsRange}
use Rattle.vm_leaf.specs.declared.block.Block.{Block}
use Rattle.vm_leaf.specs.SpaceBlocks.{range_if_held}
use Rattle.vm_saved_trees.specs.KeyValues.{MAX_NESTING_REPAIRED}
use Rattle.vm_saved_trees.specs.SavedTrees.{Saved, Absent, Node, saved_blocks, held_keys}
use Rattle.vm_saved_trees.specs.NodeChecks.{NodeData, decoded_node}
use Rattle.vm_saved_trees.specs.Spans.{StandsFor, span_of, span_over}
use Rattle.vm_saved_trees.specs.ValueNodes.{EncodesSaved, IsSavedIn, ReadsValue}
use Rattle.vm_saved_trees.specs.declared.span.Span.{Span}
use Rattle.vm_saved_trees.proofs.Reading.ReadNodes.{data_of, node_is, no_data, over_sides}
use Rattle.vm_saved_trees.proofs.SavedNodes.KeyLists.{held_node}
use Rattle.vm_saved_trees.proofs.SavedNodes.ValueTrees.{one_saved}

-- The saved tree of a value that is read at some depth, with its span.
abbrev Has : ℕ → Data → Type 0
Has depth d = (span : Option Span) × (t : Saved) × IsSavedIn depth d span t

-- ---- No node

-- ---- A node that cannot be read

no_null : (d : Data) → is_some (as_null d) ≡ false → d ≡ null → ⊥
no_null d z e = let f : is_some (as_null null) ≡ false = subst (λ (v : Data). is_some (as_null v) ≡ false) e z in cc

too_deep : (d : Data) (depth : ℕ) (span : Option Span) (t : Saved) → MAX_NESTING_REPAIRED ≤ depth → is_some (as_null d) ≡ false →
    IsSavedIn depth d span t → ⊥
too_deep d depth span Absent m z is = no_null d z is.nodes
too_deep d depth span (Node l b r h) m z is = let n = is.nested in omega (arith, m, n)

pub read_too_deep : (depth : ℕ) (d : Data) → MAX_NESTING_REPAIRED ≤ depth → is_some (as_null d) ≡ false → ReadsValue depth d None
read_too_deep depth d m z = λ (x : Has depth d). too_deep d depth x.0 x.1 m z x.2

-- The children of a node that was decoded.
record Parts (depth : ℕ) (n : NodeData) (d : Data) (span : Option Span) (t : Saved) : Type 0 where
  pub left : Has (depth + 1) n.left
  pub right : Has (depth + 1) n.right
  pub own : Span
  pub is_own : span ≡ Some own
  pub keys : held_keys t ≡ held_keys left.1 ++ (range_if_held n.block.state n.block.key ++ held_keys right.1)

node_parts : (d : Data) (n : NodeData) (depth : ℕ) (span : Option Span) (l r : Saved) (b : Block) (h : ℕ) → decoded_node d ≡ Some n →
    IsSavedIn depth d span (Node l b r h) → Parts depth n d span (Node l b r h)
node_parts d n depth span l r b h e is =
    let m = node_is d b (λ v. EncodesSaved v l) (λ v. EncodesSaved v r) h is.nodes in
    let same : data_of b h m.0 m.1 ≡ n = same_Some _ _ (sym m.2 ∙ e) in
    let left = and_then_some _ (span_of l) span is.stands.is_span in
    let right = and_then_some _ (span_of r) span left.2 in
    let own = and_then_some _ (span_over left.0 b right.0 h) span right.2 in
    let ranges = is.stands.ranges in
    let nested = is.nested in record {
      left = (
        left.0,
        l,
        record {
          nodes = subst (λ (v : NodeData). EncodesSaved v.left l) same m.3;
          stands = record
              { is_span = left.1; ranges = ranges.0 };
          nested = omega (arith, nested);
        },
      );
      right = (
        right.0,
        r,
        record {
          nodes = subst (λ (v : NodeData). EncodesSaved v.right r) same m.4;
          stands = record
              { is_span = right.1; ranges = ranges.1 };
          nested = omega (arith, nested);
        },
      );
      own = own.0;
      is_own = sym (same_Some _ _ own.2);
      keys = subst (λ (v : NodeData). held_keys (Node l b r h) ≡ held_keys l ++ (range_if_held v.block.state v.block.key ++ held_keys r))
          same (held_node (saved_blocks l) b (saved_blocks r));
    }

parts : (d : Data) (n : NodeData) (depth : ℕ) (span : Option Span) (t : Saved) → decoded_node d ≡ Some n → IsSavedIn depth d span t →
    Parts depth n d span t
parts d n depth span Absent e is = absurd (no_data d n is.nodes e)
parts d n depth span (Node l b r h) e is = node_parts d n depth span l r b h e is

undecoded : (d : Data) (depth : ℕ) (span : Option Span) (t : Saved) → decoded_node d ≡ None → IsSavedIn depth d span t → t ≡ Absent
undecoded d depth span Absent e is = refl
undecoded d depth span (Node l b r h) e is =
    let m = node_is d b (λ v. EncodesSaved v l) (λ v. EncodesSaved v r) h is.nodes in
    let f = m.2 in
    absurd (cc (e, f))

pub read_undecoded : (depth : ℕ) (d : Data) → is_some (as_null d) ≡ false → decoded_node d ≡ None → ReadsValue depth d None
read_undecoded depth d z e = λ (x : Has depth d).
    let absent : IsSavedIn depth d x.0 Absent = subst (λ (t : Saved). IsSavedIn depth d x.0 t) (undecoded d depth x.0 x.1 e x.2) x.2 in
    no_null d z absent.nodes

module _ (depth : ℕ) (d : Data) (n : NodeData) (decoded : decoded_node d ≡ Some n) where
  pub read_no_left : ReadsValue (depth + 1) n.left None → ReadsValue depth d None
  read_no_left none = λ (x : Has depth d). none (parts d n depth x.0 x.1 decoded x.2).left

  pub read_no_right : ReadsValue (depth + 1) n.right None → ReadsValue depth d None
  read_no_right none = λ (x : Has depth d). none (parts d n depth x.0 x.1 decoded x.2).right

  module _ (left right : Option Span) (l : ReadsValue (depth + 1) n.left (Some left))
      (r : ReadsValue (depth + 1) n.right (Some right)) where
    abbrev tree : Saved
    tree = Node l.0 n.block r.0 n.height

    nodes : EncodesSaved d tree
    nodes = over_sides d n (λ v. EncodesSaved v l.0) (λ v. EncodesSaved v r.0) n.height decoded refl l.1.nodes r.1.nodes

    pub read_no_span : span_over left n.block right n.height ≡ None → ReadsValue depth d None
    read_no_span e = λ (x : Has depth d).
        let same : x.1 ≡ tree = one_saved x.1 tree d x.2.nodes nodes in
        let p = parts d n depth x.0 x.1 decoded x.2 in
        let stands : StandsFor (Some p.own) tree = subst (λ (o : Option Span). StandsFor o tree) p.is_own
        (subst (StandsFor x.0) same x.2.stands) in
        let none : span_of tree ≡ None = rw (l.1.stands.is_span, r.1.stands.is_span, e) refl in
        let some = stands.is_span in
        absurd (cc (none, some))

    pub read_one : (span : Span) → depth < MAX_NESTING_REPAIRED → IsRange n.block.key.start n.block.key.end →
        span_over left n.block right n.height ≡ Some span → ReadsValue depth d (Some (Some span))
    read_one span deep range e =
        let a = l.1.nested in
        let b = r.1.nested in (
          tree,
          record {
            nodes = nodes;
            stands = record {
              is_span = rw (l.1.stands.is_span, r.1.stands.is_span, e) refl;
              ranges =
                  (l.1.stands.ranges, r.1.stands.ranges, range);
            };
            nested = omega (arith, a, b, deep);
          },
        )

-- ---- The keys of a value

abbrev pub AppendsKeys : ℕ → Data → List Range → List Range → Type 0
AppendsKeys depth d old new = (span : Option Span) (t : Saved) → IsSavedIn depth d span t → new ≡ old ++ held_keys t

pub no_keys : (depth : ℕ) (d : Data) (old : List Range) → decoded_node d ≡ None → AppendsKeys depth d old old
no_keys depth d old e = λ span t is. let absent = undecoded d depth span t e is in rw absent (sym (append-nil old))

pub no_nodes : (depth : ℕ) (d : Data) (n : NodeData) (old : List Range) → MAX_NESTING_REPAIRED ≤ depth → decoded_node d ≡ Some n →
    AppendsKeys depth d old old
no_nodes depth d n old m e = λ span t is.
    let p = parts d n depth span t e is in
    let deep = p.left.2.nested in
    absurd (omega (arith, m, deep))

keys_joined : (depth : ℕ) (d : Data) (n : NodeData) (old first second new : List Range) → decoded_node d ≡ Some n →
    AppendsKeys (depth + 1) n.left old first →
    second ≡ first ++ range_if_held n.block.state n.block.key → AppendsKeys (depth + 1) n.right second new → AppendsKeys depth d old new
keys_joined depth d n old first second new e left own right = λ span t is.
    let p = parts d n depth span t e is in
    let l = held_keys p.left.1 in
    let r = held_keys p.right.1 in
    let k = range_if_held n.block.state n.block.key in
    right p.right.0 p.right.1 p.right.2
    ∙ ap (λ (v : List Range). v ++ r) (own ∙ ap (λ (v : List Range). v ++ k) (left p.left.0 p.left.1 p.left.2))
    ∙ append_assoc (old ++ l) k r ∙ append_assoc old l (k ++ r) ∙ ap (λ (v : List Range). old ++ v) (sym p.keys)

pub keys_appended : {E : Type 0} (depth : ℕ) (d : Data) (n : NodeData) (old first second new : List Range) (answer : Result (Unit {0}) E) →
    decoded_node d ≡ Some n → AppendsKeys (depth + 1) n.left old first →
    second ≡ first ++ range_if_held n.block.state n.block.key → OnOk answer (AppendsKeys (depth + 1) n.right second new) →
    OnOk answer (AppendsKeys depth d old new)
keys_appended depth d n old first second new (Ok x) e left own right = keys_joined depth d n old first second new e left own right
keys_appended depth d n old first second new (Err x) e left own right = tt

pub keys_listed : (d : Data) (first new : List Range) → first ≡ [] → AppendsKeys 0 d first new → (span : Option Span) (t : Saved) →
    IsSavedIn 0 d span t → new ≡ held_keys t
keys_listed d first new e keys = λ span t is. keys span t is ∙ ap (λ (v : List Range). v ++ held_keys t) e
