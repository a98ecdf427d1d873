use Rattle.std.proofs.Common.{◌≡◌, ◌-◌, ◌<◌, arith, ap, get_or}
use Rattle.std.proofs.lemmas.List.{get_or_default}
use Rattle.vm_list.specs.declared.id_set.Run.{Run}
use Rattle.vm_list.specs.Runs.{last_of}
use Rattle.vm_list.proofs.Alones.{alone_at}
use Rattle.vm_list.proofs.chunk.runs.Chunk+Run.alone_at.Goals.{else-at-runs-via-then-at-runs+else-from-2, else-at-runs-via-else-at-runs}
use Rattle.vm_list.proofs.chunk.runs.Chunk+Run.alone_at.Goals as goal

pub returns : goal.returns
returns c =
    let xs = c.args.self.now in
    let p = c.in-Err.at in
    let blank : Run = record { first = 0; last = 0 } in
    let m = rw (c.as_slice-runs.ensures.value, c.self.view_is, c.into.ensures) at c.in-Err.ensures.missing in
    let some : 0 < p = omega (arith, c.if-at-eq0.false) in
    let first : c.from.result ≡ (get_or xs (p - 1) blank).first = rw (c.as_slice-runs.ensures.value, c.self.view_is) at c.from.ensures in
    let above = c.if-from.false in
    let n = c.from-else-at-eq0.ensures in
    let q = m.place.bound in (
      alone_at c.args.id p xs m (rw c.self.view_is at c.self.invariant) some (get_or xs (p - 1) blank)
          (λ d. get_or_default xs (p - 1) blank d (omega (arith, some, q))) (omega (arith, above, first, n))
          (λ d l. elim c.else-at-runs.branch [
            | else-at-runs-via-then-at-runs+else-from-2 w ↦
                (let last : w.from-then-at-runs.result ≡ (get_or xs p blank).last = rw (c.as_slice-runs.ensures.value, c.self.view_is) at w.from-then-at-runs.ensures in
                omega (arith, w.if-from-2.false, last, w.from-then-at-runs-2.ensures, ap last_of (get_or_default xs p blank d l)))
            | else-at-runs-via-else-at-runs w ↦ absurd (omega (arith, l, rw (c.as_slice-runs.ensures.value, c.self.view_is) at w.if-at-runs.false))
          ]),
      m,
    )
