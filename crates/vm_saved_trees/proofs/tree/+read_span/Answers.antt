-- If there is no result, no saved tree has these nodes. The prover does not split an arbitrary saved tree at its root.
use Rattle.std.proofs.Common.{◌≡◌, None, sym, rules, arith}
use Rattle.serde_json.specs.View.{view}
use Rattle.vm_saved_trees.proofs.Reading.ReadValues.{read_too_deep, read_undecoded, read_no_left, read_no_right, read_no_span, read_one}
use Rattle.vm_saved_trees.proofs.tree.+read_span.Goals as goal

pub returns-then-depth-ge-MAX_NESTING : goal.returns-then-depth-ge-MAX_NESTING
returns-then-depth-ge-MAX_NESTING t c = read_too_deep c.args.depth (view c.args.value.now) c.if-depth-ge-MAX_NESTING.true
    (sym c.if-is_null.ensures)

pub returns-in_default : goal.returns-in_default
returns-in_default t c = read_undecoded c.args.depth (view c.args.value.now) (sym c.if-is_null.ensures) (sym c.in_default.ensures)

pub returns-in_err-left : goal.returns-in_err-left
returns-in_err-left t c =
    let none : c.from_residual.result ≡ None = search rules in
    rw none (read_no_left c.args.depth (view c.args.value.now) _ (sym c.in-Some.ensures) c.in_err-left.ensures)

pub returns-in_err-right : goal.returns-in_err-right
returns-in_err-right t c =
    let none : c.from_residual-in_err-right.result ≡ None = search rules in
    rw none (read_no_right c.args.depth (view c.args.value.now) _ (sym c.in-Some.ensures) c.in_err-right.ensures)

pub returns-in_err-span : goal.returns-in_err-span
returns-in_err-span t c =
    let none : c.from_residual-in_err-span.result ≡ None = search rules in
    rw none (read_no_span c.args.depth (view c.args.value.now) _ (sym c.in-Some.ensures) c.in_ok-left.left c.in_ok-right.right
    c.in_ok-left.ensures c.in_ok-right.ensures (sym c.in_err-span.ensures.span))

pub returns : goal.returns
returns t c =
    read_one c.args.depth (view c.args.value.now) _ (sym c.in-Some.ensures) c.in_ok-left.left c.in_ok-right.right c.in_ok-left.ensures
    c.in_ok-right.ensures c.in_ok-span.span (omega (arith, c.if-depth-ge-MAX_NESTING.false)) c.in_ok-span.ensures.range
    (sym c.in_ok-span.ensures.span)
