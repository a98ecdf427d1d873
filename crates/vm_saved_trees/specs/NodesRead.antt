-- The nodes of a saved tree that were read so far.
use Rattle.std.specs.Prelude.{◌≡◌, ◌<◌, ◌≤◌, ◌⊎◌, ℕ, List, [], ◌∷◌, ◌++◌, length, Option, None, Some, Result, Ok, Err, MatchResult}
use Rattle.vm_ranges.specs.Range.{Range}
use Rattle.vm_ranges.specs.Saving.{ReadsParts}
use Rattle.vm_leaf.specs.declared.block.Block.{Block}
use Rattle.vm_ranges.specs.Address.{AddressState}
use Rattle.vm_saved_trees.specs.Spans.{StandsFor}
use Rattle.vm_saved_trees.specs.KeyValues.{MAX_NESTING_REPAIRED}
use Rattle.vm_saved_trees.specs.SavedTrees.{Saved, Absent, Node, held_keys, IsReadable}
use Rattle.vm_saved_trees.specs.declared.span.Span.{Span}
use Rattle.vm_saved_trees.specs.declared.nodes.Children.{Children}
use Rattle.vm_saved_trees.specs.declared.nodes.Side.{Side}
use Rattle.vm_saved_trees.specs.declared.nodes.Side.TheVariants.{Left, Right}
use Rattle.vm_ranges.specs.declared.saved.SavedError.{SavedError}
use Rattle.vm_ranges.specs.declared.saved.SavedError.TheVariants.{Violated, OutOfMemory}
use Rattle.vm_ranges.specs.declared.saved.Condition.{Condition}
use Rattle.vm_ranges.specs.declared.saved.Condition.TheVariants.{Inside, Nesting, Keys, Tree}
use Rattle.vm_saved_trees.specs.declared.span.Form.{Form}
use Rattle.vm_saved_trees.specs.declared.span.Form.TheVariants.{Strict, Repaired}

-- The children of a node that have ended. On a side without one, the child is Absent.
pub record ReadChildren : Type 0 where
  pub left : Saved
  pub right : Saved

-- The nodes that were read: the children of the node that began last and did not end, and those of the nodes that it is nested
-- in, the outermost first. The outermost children are of no node: the left one is the root.
pub record NodesRead : Type 0 where
  pub children : ReadChildren
  pub outer : List ReadChildren

-- No child ended.
abbrev pub childless : ReadChildren
childless = record { left = Absent; right = Absent }

-- Nothing was read.
abbrev pub nothing_read : NodesRead
nothing_read = record { children = childless; outer = [] }

-- A whole saved tree was read, as a left child, and nothing else.
abbrev pub whole : Saved → NodesRead
whole t = record { children = record { left = t; right = Absent }; outer = [] }

-- The nodes after one began.
abbrev pub begun : NodesRead → NodesRead
begun nodes = record { children = childless; outer = nodes.outer ++ nodes.children ∷ [] }

-- The child on this side.
abbrev pub child : Side → ReadChildren → Saved
child Left c = c.left
child Right c = c.right

-- The children with t as the child on this side.
abbrev pub with_child : Side → Saved → ReadChildren → ReadChildren
with_child Left t c = record c { left = t }
with_child Right t c = record c { right = t }

-- The subtree of the node that began last, if it has this block and this height.
abbrev pub node_of : NodesRead → Block → ℕ → Saved
node_of nodes b h = Node nodes.children.left b nodes.children.right h

-- A node began and did not end, and the node that it is nested in has no child on this side.
pub record CanEnd (side : Side) (nodes : NodesRead) : Type 0 where
  pub parent : ReadChildren
  pub outer : List ReadChildren
  pub is_last : nodes.outer ≡ outer ++ parent ∷ []
  pub is_new : child side parent ≡ Absent

-- The nodes after the one that began last ended with the subtree t, as the child on this side.
abbrev pub ended : (side : Side) → Saved → (nodes : NodesRead) → CanEnd side nodes → NodesRead
ended side t nodes can = record { children = with_child side t can.parent; outer = can.outer }

-- The spans stand for the children.
pub record StandForBoth (spans : Children) (c : ReadChildren) : Type 0 where
  pub left : StandsFor spans.left c.left
  pub right : StandsFor spans.right c.right

-- The spans stand for the children of each node.
abbrev pub StandForAll : List Children → List ReadChildren → Type 0
StandForAll [] [] = Unit {0}
StandForAll [] (c ∷ cs) = ⊥
StandForAll (s ∷ ss) [] = ⊥
StandForAll (s ∷ ss) (c ∷ cs) = StandForBoth s c × StandForAll ss cs

-- The held keys of both children.
abbrev pub keys_of : ReadChildren → List Range
keys_of c = held_keys c.left ++ held_keys c.right

-- The held keys of the children of each node.
abbrev pub all_keys : List ReadChildren → List Range
all_keys [] = []
all_keys (c ∷ cs) = keys_of c ++ all_keys cs

-- The values that a reader stores: the held keys of the nodes that ended, and a span for each of their subtrees that has no parent
-- yet.
pub record Stored : Type 0 where
  pub held : List Range
  pub children : Children
  pub outer : List Children

-- The last of `root` and these.
abbrev pub innermost : Children → List Children → Children
innermost root [] = root
innermost root (c ∷ nested) = innermost c nested

-- All of `root` and these but the last.
abbrev pub around : Children → List Children → List Children
around root [] = []
around root (c ∷ nested) = root ∷ around c nested

-- What a reader stores: `root` has the nodes that ended in no other one, and `nested` the children of each node that did not end.
abbrev pub stored_in : List Range → Children → List Children → Stored
stored_in held root nested = record { held = held; children = innermost root nested; outer = around root nested }

-- A reader that has read these nodes stores these values.
pub record IsStoredFor (stored : Stored) (nodes : NodesRead) : Type 0 where
  pub children : StandForBoth stored.children nodes.children
  pub outer : StandForAll stored.outer nodes.outer
  pub keys : stored.held ≡ all_keys nodes.outer ++ keys_of nodes.children

-- The value of a reader: what it stores, or its error.
abbrev pub stored_unless : Option SavedError → Stored → Result Stored SavedError
stored_unless None stored = Ok stored
stored_unless (Some e) stored = Err e

-- The reader has read these nodes, without an error.
abbrev pub HasRead : Result Stored SavedError → NodesRead → Type 0
HasRead (Ok stored) nodes = IsStoredFor stored nodes
HasRead (Err e) nodes = ⊥

-- Each reader without an error has read some nodes.
abbrev pub IsReader : Result Stored SavedError → Type 0
IsReader (Ok stored) = (nodes : NodesRead) × IsStoredFor stored nodes
IsReader (Err e) = Unit {0}

-- The result of `begin`: one more node, or Violated Nesting if it is nested in MAX_NESTING_REPAIRED nodes. After an error each
-- call returns this error.
abbrev pub BeginsNode : Result Stored SavedError → Result (Unit {0}) SavedError → Result Stored SavedError → Type 0
BeginsNode (Ok stored) answer new =
    (nodes : NodesRead) → IsStoredFor stored nodes →
    MatchResult answer
    (λ _. (length nodes.outer < MAX_NESTING_REPAIRED) × HasRead new (begun nodes))
    (λ e. (new ≡ Err e)
    × (((e ≡ Violated Nesting) × (MAX_NESTING_REPAIRED ≤ length nodes.outer))
    ⊎ ((e ≡ OutOfMemory) × (length nodes.outer < MAX_NESTING_REPAIRED))))
BeginsNode (Err e) answer new = (answer ≡ Err e) × (new ≡ Err e)

-- The error of a node that cannot end with the subtree t as the child on this side.
-- - Violated Tree if no node began, or there is a child on this side.
-- - Violated Keys if the subtree is not readable.
abbrev pub EndFails : Side → Saved → NodesRead → SavedError → Type 0
EndFails side t nodes e =
    ((e ≡ Violated Tree) × ¬ CanEnd side nodes)
    ⊎ (CanEnd side nodes × (((e ≡ Violated Keys) × ¬ IsReadable t) ⊎ ((e ≡ OutOfMemory) × IsReadable t)))

-- The result of `end`: the node that began last ends as the child on this side, with its children, this block and this height.
-- After an error each call returns this error.
abbrev pub EndsNode : Side → Block → ℕ → Result Stored SavedError → Result (Unit {0}) SavedError → Result Stored SavedError → Type 0
EndsNode side b h (Ok stored) answer new =
    (nodes : NodesRead) → IsStoredFor stored nodes →
    MatchResult answer
    (λ _. (can : CanEnd side nodes) × HasRead new (ended side (node_of nodes b h) nodes can))
    (λ e. (new ≡ Err e) × EndFails side (node_of nodes b h) nodes e)
EndsNode side b h (Err e) answer new = (answer ≡ Err e) × (new ≡ Err e)

-- The same result for the stored values. After an error they can be any.
abbrev pub EndsStored : Side → Block → ℕ → Stored → Result (Unit {0}) SavedError → Stored → Type 0
EndsStored side b h old answer new =
    (nodes : NodesRead) → IsStoredFor old nodes →
    MatchResult answer
    (λ _. (can : CanEnd side nodes) × IsStoredFor new (ended side (node_of nodes b h) nodes can))
    (λ e. EndFails side (node_of nodes b h) nodes e)

-- The span of the child on this side.
abbrev pub child_span : Side → Children → Option Span
child_span Left c = c.left
child_span Right c = c.right

-- The spans of the children with this one on this side.
abbrev pub with_span : Side → Span → Children → Children
with_span Left s c = record c { left = Some s }
with_span Right s c = record c { right = Some s }

-- The nodes are one whole tree, and `States` is true for it and the state.
abbrev pub IsWholeTree : (Saved → AddressState → Type 0) → NodesRead → AddressState → Type 0
IsWholeTree States nodes state = (t : Saved) × (nodes ≡ whole t) × States t state

-- The result of making an allocator of the nodes that a reader has read: the state that `States` is true for, if they are one whole
-- tree. An error of the reader is returned. Other nodes can be stored as the same values: the result is correct for all of them.
abbrev pub MakesOfNodes : (Saved → AddressState → Type 0) → Condition → Result Stored SavedError → Result AddressState SavedError → Type 0
MakesOfNodes States condition (Ok stored) answer =
    (nodes : NodesRead) → IsStoredFor stored nodes → ReadsParts (IsWholeTree States nodes) condition answer
MakesOfNodes States condition (Err e) answer = answer ≡ Err e

-- The condition that a saved tree violates if it is not accepted in this form.
abbrev pub condition_of : Form → Condition
condition_of Strict = Tree
condition_of Repaired = Inside

-- The state of the space with the keys that were read, or the error of reading them.
abbrev pub keys_state : {K E : Type 0} → (K → List Range) → Range → Result K E → Result AddressState E
keys_state keys space (Ok k) = Ok (record { space = space; held = keys k })
keys_state keys space (Err e) = Err e
