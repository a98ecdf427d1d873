-- A child whose entry is as before.
use Rattle.std.proofs.Common.{◌≡◌, ℕ, List, ◌∙◌, sym, refl, ap, subst}
use Rattle.vm_tree.specs.Entry.{Entry}
use Rattle.vm_tree.specs.Rows.{beginning_at}
use Rattle.vm_tree.specs.Subtree.{Subtree, nth_tree, entry_of}
use Rattle.vm_tree.specs.Shrinks.{Shrank, ShrankAt, ShrankNode, IsQuiet, IsShrunkOf}
use Rattle.vm_tree.specs.declared.cut.Shrunk.{Shrunk}
use Rattle.vm_tree.specs.declared.cut.Shrunk.TheVariants as shrunk
use Rattle.vm_tree.specs.declared.cut.ShrunkNode.{ShrunkNode}
use Rattle.vm_tree.specs.declared.cut.ShrunkNode.TheVariants as shrunk_node

module _ {X : Type 0} (entry : X → Entry) (enough : X → Type 0) (joins : X → X → List X → Type 0) (key : ℕ) (refuses : X → Type 0) (edits : X → List X → Type 0) where
  quieted : (was : Entry) (s t : Subtree X) (o r : Shrunk) → was ≡ entry_of entry s → IsQuiet was o r → Shrank entry enough joins key refuses edits s t o
      → Shrank entry enough joins key refuses edits s t r
  quieted was s t shrunk.Refused shrunk.Refused w q g = g
  quieted was s t shrunk.Refused shrunk.Same w q g = absurd q
  quieted was s t shrunk.Refused (shrunk.Begins a) w q g = absurd q
  quieted was s t shrunk.Refused (shrunk.Changed d) w q g = absurd q
  quieted was s t shrunk.Refused (shrunk.Small d) w q g = absurd q
  quieted was s t shrunk.Same shrunk.Refused w q g = absurd q
  quieted was s t shrunk.Same shrunk.Same w q g = g
  quieted was s t shrunk.Same (shrunk.Begins a) w q g = absurd q
  quieted was s t shrunk.Same (shrunk.Changed d) w q g = absurd q
  quieted was s t shrunk.Same (shrunk.Small d) w q g = absurd q
  quieted was s t (shrunk.Begins b) shrunk.Refused w q g = absurd q
  quieted was s t (shrunk.Begins b) shrunk.Same w q g = absurd q
  quieted was s t (shrunk.Begins b) (shrunk.Begins a) w q g = record {
    one = g.one;
    sum = ap (λ z. beginning_at z (entry_of entry s)) q ∙ g.sum;
    full = g.full;
  }
  quieted was s t (shrunk.Begins b) (shrunk.Changed d) w q g = absurd q
  quieted was s t (shrunk.Begins b) (shrunk.Small d) w q g = absurd q
  quieted was s t (shrunk.Changed e) shrunk.Refused w q g = absurd q
  quieted was s t (shrunk.Changed e) shrunk.Same w q g = record { one = g.one; sum = sym g.sum ∙ q ∙ w; full = g.full }
  quieted was s t (shrunk.Changed e) (shrunk.Begins a) w q g = record {
    one = g.one;
    sum = ap (beginning_at a) (sym w) ∙ sym q ∙ g.sum;
    full = g.full;
  }
  quieted was s t (shrunk.Changed e) (shrunk.Changed d) w q g = record { one = g.one; sum = q ∙ g.sum; full = g.full }
  quieted was s t (shrunk.Changed e) (shrunk.Small d) w q g = absurd q
  quieted was s t (shrunk.Small e) shrunk.Refused w q g = absurd q
  quieted was s t (shrunk.Small e) shrunk.Same w q g = absurd q
  quieted was s t (shrunk.Small e) (shrunk.Begins a) w q g = absurd q
  quieted was s t (shrunk.Small e) (shrunk.Changed d) w q g = absurd q
  quieted was s t (shrunk.Small e) (shrunk.Small d) w q g = record { one = g.one; sum = q ∙ g.sum }

  pub quiet_at : (was : Entry) (i : ℕ) (ss ts : List (Subtree X)) (o r : Shrunk) → was ≡ entry_of entry (nth_tree ss i) → IsQuiet was o r
      → ShrankAt entry enough joins key refuses edits i ss ts o → ShrankAt entry enough joins key refuses edits i ss ts r
  quiet_at was i ss ts o r w q s = record { new = s.new; list = s.list; shrank = quieted was (nth_tree ss i) s.new o r w q s.shrank }

pub still_small : (was : Entry) (P : Type 0) (o r : Shrunk) → IsQuiet was o r → ((e : Entry) → o ≡ shrunk.Small e → P) → (d : Entry) → r ≡ shrunk.Small d → P
still_small was P (shrunk.Small e) r q f d h = f e refl
still_small was P shrunk.Refused r q f d h = absurd (subst (IsQuiet was shrunk.Refused) h q)
still_small was P shrunk.Same r q f d h = absurd (subst (IsQuiet was shrunk.Same) h q)
still_small was P (shrunk.Begins a) r q f d h = absurd (subst (IsQuiet was (shrunk.Begins a)) h q)
still_small was P (shrunk.Changed e) r q f d h = absurd (subst (IsQuiet was (shrunk.Changed e)) h q)

-- A change of a node, and of the child that it is.
module _ {X : Type 0} (entry : X → Entry) (enough : X → Type 0) (joins : X → X → List X → Type 0) (key : ℕ) (refuses : X → Type 0) (edits : X → List X → Type 0) where
  pub shrunk_node_of : (was : Entry) (s t : Subtree X) (o : ShrunkNode) (r : Shrunk) → was ≡ entry_of entry s → IsShrunkOf (entry_of entry t) was o r
      → ShrankNode entry enough joins key refuses edits s t o → Shrank entry enough joins key refuses edits s t r
  shrunk_node_of was s t shrunk_node.Refused r w q g = subst (Shrank entry enough joins key refuses edits s t) (sym q) g
  shrunk_node_of was s t shrunk_node.Same r w q g = subst (Shrank entry enough joins key refuses edits s t) (sym q) g
  shrunk_node_of was s t (shrunk_node.Begins a) r w q g = subst (Shrank entry enough joins key refuses edits s t) (sym q) g
  shrunk_node_of was s t shrunk_node.Changed r w q g =
      quieted entry enough joins key refuses edits was s t (shrunk.Changed (entry_of entry t)) r w q (record { one = g.one; sum = refl; full = g.full })
  shrunk_node_of was s t (shrunk_node.Small e) r w q g = subst (Shrank entry enough joins key refuses edits s t) (sym q) g
