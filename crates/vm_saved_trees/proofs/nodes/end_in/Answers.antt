-- The node joins its parent, and its key is inserted in order. The prover does not rewrite along the equations of the lists.
use Rattle.std.proofs.Common.{◌≡◌, [], ◌∷◌, ◌++◌, List, length, take, drop, Some, Err, true, false, is_some, sym, ◌∙◌, ap, rules, arith}
use Rattle.std.proofs.lemmas.List.{take_at}
use Rattle.vm_ranges.specs.declared.saved.SavedError.TheVariants.{OutOfMemory}
use Rattle.vm_leaf.specs.declared.block.Block.{Block}
use Rattle.vm_saved_trees.specs.Spans.{held_in}
use Rattle.vm_saved_trees.specs.NodesRead.{around, child_span, innermost, with_span}
use Rattle.vm_saved_trees.specs.declared.nodes.Children.{Children}
use Rattle.vm_saved_trees.proofs.SavedNodes.Stored.{InsertsKey, OrdersKeys, child_is_there, depth, not_readable, no_memory, node_ends}
use Rattle.vm_saved_trees.proofs.nodes.end_in.Goals as goal

pub returns-then-has_child : goal.returns-then-has_child
returns-then-has_child c =
    let there : is_some (child_span c.args.side (innermost c.args.root.now c.in-Some.outer.now)) ≡ true = ap
    (λ (v : Children). is_some (child_span c.args.side v)) (sym c.innermost-parent.ensures) ∙ sym c.has_child.ensures ∙ c.if-has_child.true in
    child_is_there c.args.side (record { key = c.args.key; state = c.args.state }) c.args.height _ c.args.root.now c.in-Some.children.now _
    c.in-Some.outer.now (sym c.deref.ensures.value ∙ c.in-Some.ensures.cases.0) there

pub returns-in_default-span_over : goal.returns-in_default-span_over
returns-in_default-span_over c =
    let none : is_some (child_span c.args.side (innermost c.args.root.now c.in-Some.outer.now)) ≡ false = ap
    (λ (v : Children). is_some (child_span c.args.side v)) (sym c.innermost-parent.ensures) ∙ sym c.has_child.ensures ∙ c.if-has_child.false in
    not_readable c.args.side (record { key = c.args.key; state = c.args.state }) c.args.height _ c.args.root.now c.in-Some.children.now _
    c.in-Some.outer.now (sym c.deref.ensures.value ∙ c.in-Some.ensures.cases.0) none c.span_over.ensures.range
    (sym c.span_over.ensures.span ∙ c.in_default-span_over.is)

pub returns-in_err-insert_key : goal.returns-in_err-insert_key
returns-in_err-insert_key c =
    let is : c.from_residual.result ≡ Err OutOfMemory = search rules in
    let none : is_some (child_span c.args.side (innermost c.args.root.now c.in-Some.outer.now)) ≡ false = ap
    (λ (v : Children). is_some (child_span c.args.side v)) (sym c.innermost-parent.ensures) ∙ sym c.has_child.ensures ∙ c.if-has_child.false in
    rw is (no_memory c.args.side (record { key = c.args.key; state = c.args.state }) c.args.height _ c.args.root.now c.in-Some.children.now _
    c.in-Some.outer.now (sym c.deref.ensures.value ∙ c.in-Some.ensures.cases.0) none c.span_over.ensures.range c.in-Some-span_over.span
    (sym c.span_over.ensures.span ∙ c.in-Some-span_over.is))

pub returns : goal.returns
returns c =
    let b : Block = record { key = c.args.key; state = c.args.state } in
    let root = c.args.root.now in
    let outer = c.in-Some.outer.now in
    let parent : Children = innermost root outer in
    let cut : c.args.nested.now.items ≡ outer ++ c.in-Some.children.now ∷ [] = sym c.deref.ensures.value ∙ c.in-Some.ensures.cases.0 in
    let none : is_some (child_span c.args.side parent) ≡ false = ap (λ (v : Children). is_some (child_span c.args.side v))
    (sym c.innermost-parent.ensures) ∙ sym c.has_child.ensures ∙ c.if-has_child.false in
    let inserted : InsertsKey c.args.held.now.items (held_in c.in-Some.children.now.right) b c.insert_key.new.held.items = rw
    (sym c.held_in.ensures) c.in_ok-insert_key.ensures in
    let ordered : OrdersKeys c.insert_key.new.held.items (held_in parent.right) (held_in (Some c.in-Some-span_over.span))
    c.order_keys.new.held.items = rw (sym c.innermost-parent.ensures, sym c.held_in-2.ensures, sym c.held_in-3.ensures)
    c.order_keys.ensures in
    let shorter = c.in-Some.ensures.cases.1 in
    let long = c.deref.ensures.len in
    let left : c.deref_mut.result.now ≡ outer = c.deref_mut.ensures.value ∙ c.pop.ensures.rest ∙ ap (take _) cut
    ∙ take_at outer (c.in-Some.children.now ∷ []) _ (omega arith) in
    let top : Children = c.set_innermost.new.root in
    let last : innermost top c.set_innermost.new.nested ≡ with_span c.args.side c.in-Some-span_over.span parent =
    c.set_innermost.ensures.last ∙ ap (λ (v : List Children). with_span c.args.side c.in-Some-span_over.span (innermost root v)) left in
    let others : around top c.set_innermost.new.nested ≡ around root outer =
    c.set_innermost.ensures.others ∙ ap (around root) left in
    let long-new = depth top c.set_innermost.new.nested in
    let long-left = depth root outer in
    let same-long = ap length others in
    let written = take_at c.set_innermost.new.nested (drop (length c.set_innermost.new.nested) c.pop.new.self.items) c.pop.new.self.len
    (omega (arith, ap length left, c.deref_mut.ensures.len)) in
    node_ends c.args.side b c.args.height _ root c.in-Some.children.now _ outer cut none c.span_over.ensures.range
    c.in-Some-span_over.span (sym c.span_over.ensures.span ∙ c.in-Some-span_over.is) _ _ top _ inserted ordered
    (ap (innermost top) written ∙ last) (ap (around top) written ∙ others)
