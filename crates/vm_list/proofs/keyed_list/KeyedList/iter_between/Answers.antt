use Rattle.std.proofs.Common.{◌∙◌, ◌∷◌, ap, reverse}
use Rattle.vm_list.specs.Entries.{between}
use Rattle.vm_list.proofs.Rising.{rising}
use Rattle.vm_list.proofs.Betweens.{in_no_leaf, in_one_leaf, in_leaves, in_leaves_filled}
use Rattle.vm_list.proofs.keyed_list.KeyedList.iter_between.Goals as goal

pub leaves_between-leaves-requires : goal.leaves_between-leaves-requires
leaves_between-leaves-requires g c = record { rise = rising g.E.Keyed.key_of _ (record { order = c.self.invariant; filled = c.facts.ensures.enough }) }

pub returns-in_default-clause-entries : goal.returns-in_default-clause-entries
returns-in_default-clause-entries g c =
    let w = c.leaves_between-leaves.ensures in
    let e = rw c.in_default.ensures.none.1 at c.of_leaves.ensures in
    e ∙ in_no_leaf g.E.Keyed.key_of c.args.low c.args.high _ _ (record { order = c.self.invariant; filled = c.facts.ensures.enough })
    w.some w.none w.empty c.in_default.ensures.none.0
    ∙ ap (λ l. between g.E.Keyed.key_of c.args.low c.args.high (reverse l)) c.self.view_is

pub within-requires : goal.within-requires
within-requires g c =
    let w = c.leaves_between-leaves.ensures in
    in_leaves_filled g.E.Keyed.key_of c.args.low c.args.high _ _ (record { order = c.self.invariant; filled = c.facts.ensures.enough })
    w.some w.none w.empty _ _ _ _ c.in-Some.ensures.some c.in-Some-last_leaf.ensures.some

pub returns-in-Some-last_leaf-clause-entries : goal.returns-in-Some-last_leaf-clause-entries
returns-in-Some-last_leaf-clause-entries g c =
    let w = c.leaves_between-leaves.ensures in
    let e = rw (c.between-lowest.ensures, c.between.ensures) at c.within.ensures in
    e ∙ in_leaves g.E.Keyed.key_of c.args.low c.args.high _ _ (record { order = c.self.invariant; filled = c.facts.ensures.enough })
    w.some w.none w.empty _ _ _ _ c.in-Some.ensures.some c.in-Some-last_leaf.ensures.some
    ∙ ap (λ l. between g.E.Keyed.key_of c.args.low c.args.high (reverse l)) c.self.view_is

pub returns-in-None-clause-entries : goal.returns-in-None-clause-entries
returns-in-None-clause-entries g c =
    let w = c.leaves_between-leaves.ensures in
    let e = rw (c.between-lowest.ensures, c.in-None.ensures.none.1) at c.within-in-None.ensures in
    e ∙ in_one_leaf g.E.Keyed.key_of c.args.low c.args.high _ _ (record { order = c.self.invariant; filled = c.facts.ensures.enough })
    w.some w.none w.empty _ (c.in-Some.ensures.some ∙ ap (λ l. c.in-Some.first.now ∷ l) c.in-None.ensures.none.0)
    ∙ ap (λ l. between g.E.Keyed.key_of c.args.low c.args.high (reverse l)) c.self.view_is
