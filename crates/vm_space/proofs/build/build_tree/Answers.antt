-- A quotient and a remainder give the number of blocks of each leaf. The prover does not find lemmas with divisions as arguments.
use Rattle.std.proofs.Common.{◌≡◌, ◌-◌, ◌+◌, ◌/◌, ◌%◌, ◌<◌, ◌≤◌, refl, arith, length, subst, sym, ap, ◌∙◌}
use Rattle.std.proofs.lemmas.Result.{IfOk-weaker}
use Rattle.vm_leaf.specs.Entries.{HasEnough}
use Rattle.vm_tree.specs.Subtree.{leaf_of}
use Rattle.vm_tree.specs.Building.{IsBuiltTree as IsBuiltOf}
use Rattle.vm_space.specs.Building.{remaining_blocks, shares, IsBuiltTree}
use Rattle.vm_leaf.specs.SpaceBlocks.{blocks_between}
use Rattle.vm_space.proofs.Plans.{some_between, fits, fits_more, full, needed, count_is, rest_few, many, there, all_enough, one_leaf, many_leaves}
use Rattle.vm_space.proofs.build.build_tree.Goals as goal
use Rattle.vm_leaf.specs.declared.leaf.TheConstants.{CAPACITY}

pub overflow_sub-leaves : goal.overflow_sub-leaves
overflow_sub-leaves c = omega (arith, c.requires.count, some_between c.args.space.now.start c.args.space.now.end c.args.held.now c.start.ensures.range.0)

pub fill_leaf-leaf-requires-clause-some : goal.fill_leaf-leaf-requires-clause-some
fill_leaf-leaf-requires-clause-some c = omega (arith, c.requires.count, some_between c.args.space.now.start c.args.space.now.end c.args.held.now c.start.ensures.range.0)

pub returns-then-leaves-eq1 : goal.returns-then-leaves-eq1
returns-then-leaves-eq1 c =
    let space = c.args.space.now in
    let bs = blocks_between space.start c.args.held.now space.end in
    let same : blocks_between c.into.result c.args.held.now c.end.result ≡ bs = rw (c.into.ensures, c.start.ensures.value, c.end.ensures.value) refl in
    let few : c.args.count ≤ CAPACITY = omega (arith, c.if-leaves-eq1.true) in
    let r = c.start.ensures.range in
    subst (IsBuiltTree bs) (sym (c.single.ensures ∙ ap leaf_of c.in_ok-new.ensures.ok))
    (one_leaf space.start space.end c.args.count c.args.held.now c.fill_leaf-leaf.result (remaining_blocks c.fill_leaf-leaf.new.cursor)
    r.0 r.1 r.2 c.requires.in_order c.requires.count (sym same ∙ c.fill_leaf-leaf.ensures.cut) c.fill_leaf-leaf.ensures.count few)

pub build-requires-clause-there : goal.build-requires-clause-there
build-requires-clause-there c =
    let n = c.args.count in
    let l = (n - 1) / CAPACITY + 1 in
    there l (n / l) (n % l) (blocks_between c.into.result c.args.held.now c.end.result)

pub build-requires-clause-all : goal.build-requires-clause-all
build-requires-clause-all c =
    let n = c.args.count in
    let l = (n - 1) / CAPACITY + 1 in
    let space = c.args.space.now in
    let some = some_between space.start space.end c.args.held.now c.start.ensures.range.0 in
    let z : 0 < n = omega (arith, c.requires.count) in
    let same : blocks_between c.into.result c.args.held.now c.end.result ≡ blocks_between space.start c.args.held.now space.end =
    rw (c.into.ensures, c.start.ensures.value, c.end.ensures.value) refl in
    all_enough l (n / l) (n % l) n (blocks_between c.into.result c.args.held.now c.end.result) (count_is n l (n / l) (n % l) z c.requires.few refl refl refl)
    (c.requires.count ∙ ap length (sym same)) (rest_few n l (n / l) (n % l) z c.requires.few refl refl refl)
    (full n l (n / l) (n % l) z c.requires.few refl refl refl (many n c.if-leaves-eq1.false)) (fits n l (n / l) (n % l) z c.requires.few refl refl refl)
    (fits_more n l (n / l) (n % l) z c.requires.few refl refl refl)

pub returns : goal.returns
returns c =
    let n = c.args.count in
    let l = (n - 1) / CAPACITY + 1 in
    let space = c.args.space.now in
    let bs = blocks_between space.start c.args.held.now space.end in
    let some = some_between space.start space.end c.args.held.now c.start.ensures.range.0 in
    let z : 0 < n = omega (arith, c.requires.count) in
    let same : blocks_between c.into.result c.args.held.now c.end.result ≡ bs = rw (c.into.ensures, c.start.ensures.value, c.end.ensures.value) refl in
    let r = c.start.ensures.range in
    IfOk-weaker c.build.result (λ tree. IsBuiltOf HasEnough l (shares l (n / l) (n % l) (blocks_between c.into.result c.args.held.now c.end.result)) c.build.new.source tree) _
    (λ tree b. many_leaves space.start space.end n l (n / l) (n % l) c.args.held.now c.build.new.source tree r.0 r.1 r.2 c.requires.in_order c.requires.count
    (count_is n l (n / l) (n % l) z c.requires.few refl refl refl) (rest_few n l (n / l) (n % l) z c.requires.few refl refl refl)
    (full n l (n / l) (n % l) z c.requires.few refl refl refl (many n c.if-leaves-eq1.false)) (fits n l (n / l) (n % l) z c.requires.few refl refl refl)
    (fits_more n l (n / l) (n % l) z c.requires.few refl refl refl) (needed n l (n / l) (n % l) z c.requires.few refl refl refl)
    (subst (λ bs. IsBuiltOf HasEnough l (shares l (n / l) (n % l) bs) c.build.new.source tree) same b))
    c.build.ensures
