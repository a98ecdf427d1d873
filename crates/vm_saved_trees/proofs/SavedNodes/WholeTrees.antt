-- Allocators of the nodes that a reader has read.
use Rattle.std.proofs.Common.{◌≡◌, List, [], ◌∷◌, ◌++◌, Option, Some, None, Result, Ok, Err, refl, sym, ap, ◌∙◌, subst}
use Rattle.std.proofs.lemmas.List.{append-nil}
use Rattle.vm_ranges.specs.Range.{Range}
use Rattle.vm_ranges.specs.Saving.{ReadsParts}
use Rattle.vm_ranges.specs.declared.saved.Condition.{Condition}
use Rattle.vm_ranges.specs.declared.saved.SavedError.{SavedError}
use Rattle.vm_ranges.specs.declared.saved.SavedError.TheVariants as saved
use Rattle.vm_ranges.specs.Address.{AddressState}
use Rattle.vm_saved_trees.specs.Spans.{StandsFor}
use Rattle.vm_saved_trees.specs.NodesRead.{
  ReadChildren,
  NodesRead,
  whole,
  StandForAll,
  keys_of,
  all_keys,
  Stored,
  IsStoredFor,
  stored_in,
  stored_unless,
  around,
  innermost,
  IsReader,
  IsWholeTree,
  MakesOfNodes,
}
use Rattle.vm_saved_trees.specs.SavedTrees.{Saved, Absent, held_keys}
use Rattle.vm_saved_trees.specs.declared.nodes.Children.{Children}
use Rattle.vm_saved_trees.specs.declared.span.Span.{Span}
use Rattle.vm_saved_trees.proofs.SavedNodes.Spans.{sound}

-- ---- One whole tree
no_outer : (cs : List ReadChildren) → StandForAll [] cs → cs ≡ []
no_outer [] h = refl
no_outer (c ∷ cs) h = absurd h

no_spans : (spans : List Children) → StandForAll spans [] → spans ≡ []
no_spans [] h = refl
no_spans (s ∷ ss) h = absurd h

absent_none : (o : Option Span) → StandsFor o Absent → o ≡ None
absent_none None h = refl
absent_none (Some s) h = let e = h.is_span in absurd (cc e)

module _ (stored : Stored) (nodes : NodesRead) (s : IsStoredFor stored nodes) where
  not_whole : ¬ ((stored.outer ≡ []) × (stored.children.right ≡ None)) → (t : Saved) → nodes ≡ whole t → ⊥
  not_whole none t e =
      let outer = no_spans stored.outer (subst (λ (v : NodesRead). StandForAll stored.outer v.outer) e s.outer) in
      let right = absent_none stored.children.right
      (subst (λ (v : NodesRead). StandsFor stored.children.right v.children.right) e s.children.right) in
      none (outer, right)

  abbrev with_right : Saved → NodesRead
  with_right v = record { children = record { left = nodes.children.left; right = v }; outer = [] }

  abbrev with_outer : List ReadChildren → NodesRead
  with_outer v = record { children = nodes.children; outer = v }

  module _ (outer : stored.outer ≡ []) (right : stored.children.right ≡ None) where
    none_outer : nodes.outer ≡ []
    none_outer = no_outer nodes.outer (subst (λ (v : List Children). StandForAll v nodes.outer) outer s.outer)

    none_right : nodes.children.right ≡ Absent
    none_right = sound nodes.children.right None s.children.right.ranges (s.children.right.is_span ∙ ap (λ (o : Option Span). Some o) right)

    is_whole : nodes ≡ whole nodes.children.left
    is_whole =
        let empty : nodes ≡ with_outer [] = ap with_outer none_outer in
        empty ∙ ap with_right none_right

    whole_keys : stored.held ≡ held_keys nodes.children.left
    whole_keys =
        let left = held_keys nodes.children.left in
        s.keys ∙ ap (λ (v : List ReadChildren). all_keys v ++ keys_of nodes.children) none_outer
        ∙ ap (λ (v : Saved). left ++ held_keys v) none_right ∙ append-nil left

-- The result for one whole tree is that of the nodes.
whole_read : (States : Saved → AddressState → Type 0) (condition : Condition) (nodes : NodesRead) (t : Saved)
    (answer : Result AddressState SavedError) → nodes ≡ whole t → ReadsParts (States t) condition answer →
    ReadsParts (IsWholeTree States nodes) condition answer
whole_read States condition nodes t (Ok state) e h = (t, e, h)
whole_read States condition nodes t (Err (saved.Violated c)) e h = (
  h.0,
  λ (x : (state : AddressState) × IsWholeTree States nodes state).
      let same : x.1.0 ≡ t = ap (λ (v : NodesRead). v.children.left) (sym x.1.1 ∙ e) in
      h.1 (x.0, subst (λ (v : Saved). States v x.0) same x.1.2),
)
whole_read States condition nodes t (Err saved.OutOfMemory) e h = (h.0, (t, e, h.1))

-- ---- The result of a reader
-- The nodes of a reader are one whole tree, with the keys that are stored.
whole_of : (failed : Option SavedError) (stored : Stored) (outer : List Children) → IsReader (stored_unless failed stored) →
    failed ≡ None → outer ≡ stored.outer → (outer ≡ []) × (stored.children.right ≡ None) →
    (t : Saved) × StandsFor stored.children.left t × (stored.held ≡ held_keys t)
whole_of failed stored outer reader none e w =
    let read = subst (λ (f : Option SavedError). IsReader (stored_unless f stored)) none reader in
    (read.0.children.left, read.1.children.left, whole_keys stored read.0 read.1 (sym e ∙ w.0) w.1)

module _ (States : Saved → AddressState → Type 0) (condition : Condition) (value : Result Stored SavedError) (failed : Option SavedError)
    (stored : Stored) (is : stored_unless failed stored ≡ value) (none : failed ≡ None) where
  makes : (answer : Result AddressState SavedError) →
      ((nodes : NodesRead) → IsStoredFor stored nodes → ReadsParts (IsWholeTree States nodes) condition answer) →
      MakesOfNodes States condition value answer
  makes answer reads =
      let ok : Ok stored ≡ value = ap (λ (f : Option SavedError). stored_unless f stored) (sym none) ∙ is in
      subst (λ (v : Result Stored SavedError). MakesOfNodes States condition v answer) ok reads

  no_whole : (outer : List Children) → outer ≡ stored.outer → ¬ ((outer ≡ []) × (stored.children.right ≡ None)) →
      MakesOfNodes States condition value (Err (saved.Violated condition))
  no_whole outer e absent = makes (Err (saved.Violated condition)) (λ nodes s. (
    refl,
    λ (x : (state : AddressState) × IsWholeTree States nodes state). not_whole stored nodes s (λ w. absent (e ∙ w.0, w.1)) x.1.0 x.1.1,
  ))

  one_whole : (outer : List Children) (answer : Result AddressState SavedError) → outer ≡ stored.outer →
      (outer ≡ []) × (stored.children.right ≡ None) →
      ((t : Saved) → StandsFor stored.children.left t → stored.held ≡ held_keys t → ReadsParts (States t) condition answer) →
      MakesOfNodes States condition value answer
  one_whole outer answer e w reads = makes answer (λ nodes s.
      let is_outer = sym e ∙ w.0 in
      whole_read States condition nodes nodes.children.left answer (is_whole stored nodes s is_outer w.1)
      (reads nodes.children.left s.children.left (whole_keys stored nodes s is_outer w.1)))

-- The same, for the fields of a reader.
none_around : (root : Children) (nested : List Children) → around root nested ≡ [] → nested ≡ []
none_around root [] e = refl
none_around root (c ∷ nested) e = absurd (cc e)

pub whole_in : (failed : Option SavedError) (held : List Range) (root : Children) (nested seen : List Children) →
    IsReader (stored_unless failed (stored_in held root nested)) → failed ≡ None → seen ≡ nested → (seen ≡ []) × (root.right ≡ None) →
    (t : Saved) × StandsFor root.left t × (held ≡ held_keys t)
whole_in failed held root nested seen reader none e w =
    whole_of failed (stored_in held root []) []
    (subst (λ (v : List Children). IsReader (stored_unless failed (stored_in held root v))) (sym e ∙ w.0) reader) none refl (refl, w.1)

module _ (States : Saved → AddressState → Type 0) (condition : Condition) (value : Result Stored SavedError) (failed : Option SavedError)
    (held : List Range) (root : Children) (nested : List Children) (is : stored_unless failed (stored_in held root nested) ≡ value)
    (none : failed ≡ None) (seen : List Children)
    (e : seen ≡ nested) where
  pub makes_none : ¬ ((seen ≡ []) × (root.right ≡ None)) → MakesOfNodes States condition value (Err (saved.Violated condition))
  makes_none absent =
      no_whole States condition value failed (stored_in held root nested) is none (around root nested) refl
      (λ w.
      let empty = none_around root nested w.0 in
      absent (e ∙ empty, subst (λ (v : List Children). (innermost root v).right ≡ None) empty w.1))

  pub makes_whole : (answer : Result AddressState SavedError) → (seen ≡ []) × (root.right ≡ None) →
      ((t : Saved) → StandsFor root.left t → held ≡ held_keys t → ReadsParts (States t) condition answer) →
      MakesOfNodes States condition value answer
  makes_whole answer w reads =
      let empty = sym e ∙ w.0 in
      one_whole States condition value failed (stored_in held root [])
      (subst (λ (v : List Children). stored_unless failed (stored_in held root v) ≡ value) empty is) none [] answer refl (refl, w.1) reads

-- Memory can run out while an allocator of nodes that were read is made.
pub makes_no_memory : (States : Saved → AddressState → Type 0) (condition : Condition) (value : Result Stored SavedError) (state : AddressState) →
    MakesOfNodes States condition value (Ok state) → MakesOfNodes States condition value (Err saved.OutOfMemory)
makes_no_memory States condition (Ok stored) state h = λ nodes s. (state, h nodes s)
makes_no_memory States condition (Err e) state h = absurd (cc h)
