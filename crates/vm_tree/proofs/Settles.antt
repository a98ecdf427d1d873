-- A node after a change of one child.
use Rattle.std.proofs.Common.{◌≡◌, ℕ, zero, suc, ◌+◌, ◌*◌, ◌^◌, ◌≤◌, ◌<◌, List, [], ◌∷◌, ◌++◌, length, take, drop, set, map, get_or, Option, Box, ◌∙◌, sym, ap, subst, arith}
use Rattle.std.proofs.lemmas.List.{length-set, map-set, map-append}
use Rattle.std.specs.declared.alloc.Global.{Global}
use Rattle.std.specs.List.{insert}
use Rattle.std.proofs.lemmas.List.{length-map}
use Rattle.std.proofs.lemmas.List.Edits.{length-insert}
use Rattle.std.proofs.Math.Seq.{take-append_seam, drop-append_seam}
use Rattle.vm_tree.specs.Entry.{Entry}
use Rattle.vm_tree.specs.Rows.{sum_of, nth, blank}
use Rattle.vm_tree.specs.Slots.{held, IsDense}
use Rattle.vm_tree.specs.Subtree.{Subtree, leaves_of, front, over, nth_tree, no_tree, entry_of, IsFull, AreFull}
use Rattle.vm_tree.specs.Over.{IsOver}
use Rattle.vm_tree.specs.Edits.{IsEditedAt, IsOne, IsTwo}
use Rattle.vm_tree.specs.Outcomes.{IsAdded, IsHalved, IsSettled}
use Rattle.vm_tree.specs.Grew.{IsChanged, IsSplit, Grew, GrewAt, GrewOver, HasSpares, CanFinish, IsFinished}
use Rattle.vm_tree.specs.declared.outcome.Halves.{Halves}
use Rattle.vm_tree.specs.declared.outcome.Upper.{Upper}
use Rattle.vm_tree.specs.declared.outcome.Outcome.{Outcome}
use Rattle.vm_tree.specs.declared.outcome.Settled.{Settled}
use Rattle.vm_tree.specs.declared.outcome.Outcome.TheVariants as outcome
use Rattle.vm_tree.specs.declared.outcome.Settled.TheVariants as settled
use Rattle.vm_tree.proofs.Dense.{map-insert}
use Rattle.vm_tree.proofs.Flats.{flat-append, flat_insert, full_at, full_set, full_insert, full_left, full_right, front_is, full_front, full_over, sum-entries, length-entries, nth-entries, over_few, over_most}
use Rattle.vm_tree.proofs.Widened.{Lifts, full_one, over_refused, over_edited, over_one}

pub left_same : {A : Type 0} (xs ys ps qs : List A) → xs ++ ys ≡ ps ++ qs → length xs ≡ length ps → xs ≡ ps
left_same xs ys ps qs e n =
    sym (take-append_seam xs ys) ∙ ap (take (length xs)) e ∙ ap (λ k. take k (ps ++ qs)) n ∙ take-append_seam ps qs

pub right_same : {A : Type 0} (xs ys ps qs : List A) → xs ++ ys ≡ ps ++ qs → length xs ≡ length ps → ys ≡ qs
right_same xs ys ps qs e n =
    sym (drop-append_seam xs ys) ∙ ap (drop (length xs)) e ∙ ap (λ k. drop k (ps ++ qs)) n ∙ drop-append_seam ps qs

set-same : {A : Type 0} (d : A) (xs : List A) (i : ℕ) (x : A) → x ≡ get_or xs i d → i < length xs → set xs i x ≡ xs
set-same d [] i x e l = absurd (omega arith)
set-same d (y ∷ xs) zero x e l = ap (λ z. z ∷ xs) e
set-same d (y ∷ xs) (suc i) x e l = ap (λ zs. y ∷ zs) (set-same d xs i x e (omega arith))

-- The children of a node are well formed, and have their entries.
pub record AreKids {X : Type 0} (en : X → Entry) (P : X → Type 0) (ss ts : List (Subtree X)) (fs : List Entry) : Type 0 where
  pub some : 0 < length ts
  pub same : front ts ≡ front ss
  pub even : AreFull P (front ts) ts
  pub entries : fs ≡ map (entry_of en) ts

module _ {X C : Type 0} (en : X → Entry) (P : X → Type 0) (at more : List X → X → List X → Type 0) (refuses : X → Type 0) (edits : X → List X → Type 0)
    (tree : Box C Global → Subtree X) (i : ℕ) (ss : List (Subtree X)) (even : AreFull P (front ss) ss) (l : i < length ss) (lift : Lifts at more i ss) where
  kids_set : (t : Subtree X) (ts : List (Subtree X)) (fs : List Entry) → IsFull P (front ss) t → ts ≡ set ss i t → fs ≡ map (entry_of en) ts
      → AreKids en P ss ts fs
  kids_set t ts fs f e n =
      let a = subst (AreFull P (front ss)) (sym e) (full_set P (front ss) ss i t even f) in
      let some : 0 < length ts = omega (arith, ap length e, length-set ss i t, l) in
      record { some = some; same = front_is P (front ss) ts a some; even = full_front P (front ss) ts a; entries = n }

  entries_set : (es : List Entry) (t : Subtree X) → es ≡ map (entry_of en) ss → set es i (entry_of en t) ≡ map (entry_of en) (set ss i t)
  entries_set es t n = ap (λ zs. set zs i (entry_of en t)) n ∙ sym (map-set (entry_of en) ss i t)

  entries_insert : (es : List Entry) (t u : Subtree X) → es ≡ map (entry_of en) ss
      → insert (set es i (entry_of en t)) (i + 1) (entry_of en u) ≡ map (entry_of en) (insert (set ss i t) (i + 1) u)
  entries_insert es t u n =
      ap (λ zs. insert zs (i + 1) (entry_of en u)) (entries_set es t n) ∙ sym (map-insert (entry_of en) (set ss i t) (i + 1) u)

  full_child : IsFull P (front ss) (nth_tree ss i)
  full_child = full_at P (front ss) ss i even l

  at_height : (nth_tree ss i).height ≡ front ss
  at_height = full_child.height

  -- The child was split.
  module _ (bs : List (Box C Global)) (new : Subtree X) (list : map tree bs ≡ set ss i new) (h : Halves C)
      (split : IsSplit en P at refuses edits h.low h.high (nth_tree ss i) new (tree h.upper)) (es : List Entry) (n : es ≡ map (entry_of en) ss) where
    abbrev two : List (Subtree X)
    two = insert (set ss i new) (i + 1) (tree h.upper)

    two_full : AreFull P (front ss) two
    two_full =
        full_insert P (front ss) (set ss i new) (i + 1) (tree h.upper)
        (full_set P (front ss) ss i new even (subst (λ k. IsFull P k new) at_height split.two.low))
        (subst (λ k. IsFull P k (tree h.upper)) at_height split.two.high)

    two_length : length two ≡ length ss + 1
    two_length =
        let k = length-set ss i new in
        omega (arith, k, length-insert (set ss i new) (i + 1) (tree h.upper) (omega (arith, k, l)))

    two_trees : map tree (insert bs (i + 1) h.upper) ≡ two
    two_trees = map-insert tree bs (i + 1) h.upper ∙ ap (λ zs. insert zs (i + 1) (tree h.upper)) list

    two_entries : insert (set es i h.low) (i + 1) h.high ≡ map (entry_of en) two
    two_entries =
        ap (λ e. insert (set es i e) (i + 1) h.high) split.low ∙ ap (λ e. insert (set es i (entry_of en new)) (i + 1) e) split.high
        ∙ entries_insert es new (tree h.upper) n

    two_edited : (all : List X) → all ≡ leaves_of two → IsEditedAt P more edits (leaves_of ss) all
    two_edited all e =
        over_edited at more i ss l lift P edits (new.leaves ++ (tree h.upper).leaves) all split.two.edited
        (e ∙ flat_insert ss i new (tree h.upper) l)

    module _ (fs : List Entry) (cs : List (Box C Global)) where
      pub added : length cs ≤ 16 → (d : Entry) → IsAdded (set es i h.low) bs (i + 1) h.high h.upper fs cs d
          → AreKids en P ss (map tree cs) fs × IsChanged en P more refuses edits d (over ss) (over (map tree cs))
      added fits d a =
          let ts = ap (map tree) a.kids ∙ two_trees in
          let full = subst (AreFull P (front ss)) (sym ts) two_full in
          let some : 0 < length (map tree cs) = omega (arith, ap length ts, two_length) in
          let kids : AreKids en P ss (map tree cs) fs = record {
            some = some;
            same = front_is P (front ss) (map tree cs) full some;
            even = full_front P (front ss) (map tree cs) full;
            entries = a.entries ∙ two_entries ∙ ap (map (entry_of en)) (sym ts);
          } in (
            kids,
            record {
              one = record {
                height = ap (λ k. k + 1) kids.same;
                fan = omega (arith, ap length ts, two_length);
                few = λ p. over_few P (front ss) (map tree cs) full (omega (arith, ap length ts, two_length, p (omega (arith, full_child.high))));
                most = subst (λ k. 15 * (length (over (map tree cs)).sizes + length (over (map tree cs)).leaves) + 1 ≤ 16 ^ (k + 1)) (sym kids.same)
                    (over_most P (front ss) (map tree cs) full (omega (arith, length-map cs tree, fits)));
                edited = two_edited (leaves_of (map tree cs)) (ap leaves_of ts);
              };
              sum = a.sum ∙ ap sum_of kids.entries ∙ sum-entries en P (front ss) (map tree cs) full;
            },
          )

      pub halved : length cs ≤ 16 → (u : Upper C) → IsHalved (set es i h.low) bs (i + 1) h.high h.upper fs cs u
          → AreKids en P ss (map tree cs) fs × (AreKids en P ss (map tree (held u.slots)) u.entries
          × IsSplit en P more refuses edits u.low u.high (over ss) (over (map tree cs)) (over (map tree (held u.slots))))
      halved fits u a =
          let both : map tree cs ++ map tree (held u.slots) ≡ two = sym (map-append tree cs (held u.slots)) ∙ ap (map tree) a.kids ∙ two_trees in
          let full : AreFull P (front ss) (map tree cs ++ map tree (held u.slots)) = subst (AreFull P (front ss)) (sym both) two_full in
          let low = full_left P (front ss) (map tree cs) (map tree (held u.slots)) full in
          let high = full_right P (front ss) (map tree cs) (map tree (held u.slots)) full in
          let m : length (map tree cs) ≡ length cs = length-map cs tree in
          let k : length (map tree (held u.slots)) ≡ length (held u.slots) = length-map (held u.slots) tree in
          let some : 0 < length (map tree cs) = omega (arith, m, a.low) in
          let more : 0 < length (map tree (held u.slots)) = omega (arith, k, a.high) in
          let all : fs ++ u.entries ≡ map (entry_of en) (map tree cs) ++ map (entry_of en) (map tree (held u.slots)) =
          a.entries ∙ two_entries ∙ ap (map (entry_of en)) (sym both) ∙ map-append (entry_of en) (map tree cs) (map tree (held u.slots)) in
          let size : length fs ≡ length (map (entry_of en) (map tree cs)) = omega (arith, a.same, m, length-entries en (map tree cs)) in
          let mine : AreKids en P ss (map tree cs) fs = record {
            some = some;
            same = front_is P (front ss) (map tree cs) low some;
            even = full_front P (front ss) (map tree cs) low;
            entries = left_same fs u.entries _ _ all size;
          } in
          let yours : AreKids en P ss (map tree (held u.slots)) u.entries = record {
            some = more;
            same = front_is P (front ss) (map tree (held u.slots)) high more;
            even = full_front P (front ss) (map tree (held u.slots)) high;
            entries = right_same fs u.entries _ _ all size;
          } in (
            mine,
            (
              yours,
              record {
                two = record {
                  low = full_over P (front ss) (map tree cs) low (omega (arith, m, a.low)) (omega (arith, m, fits));
                  high = full_over P (front ss) (map tree (held u.slots)) high (omega (arith, k, a.high)) (omega (arith, k, a.dense.fits));
                  edited =
                      two_edited (leaves_of (map tree cs) ++ leaves_of (map tree (held u.slots)))
                      (sym (flat-append (map tree cs) (map tree (held u.slots))) ∙ ap leaves_of both);
                };
                low = a.sum ∙ ap sum_of mine.entries ∙ sum-entries en P (front ss) (map tree cs) low;
                high = a.upper ∙ ap sum_of yours.entries ∙ sum-entries en P (front ss) (map tree (held u.slots)) high;
              },
            ),
          )

  module _ (es : List Entry) (n : es ≡ map (entry_of en) ss) where
    unchanged : (new : Subtree X) (ts : List (Subtree X)) → ts ≡ set ss i new → new ≡ nth_tree ss i → ts ≡ ss
    unchanged new ts e s = e ∙ set-same no_tree ss i new s l

  -- The halves of the children, if there are two.
  abbrev pub Halves-are : List Entry → Settled C → Type 0
  Halves-are es settled.Refused = Unit {0}
  Halves-are es settled.Same = Unit {0}
  Halves-are es (settled.Changed e) = Unit {0}
  Halves-are es (settled.Split u) = AreKids en P ss (map tree (held u.slots)) u.entries × (IsDense u.slots × (16 ≤ length es))

  pub record IsDone (es fs : List Entry) (cs : List (Box C Global)) (r : Settled C) : Type 0 where
    pub kids : AreKids en P ss (map tree cs) fs
    pub grew : GrewOver en P more refuses edits tree ss (map tree cs) r
    pub halves : Halves-are es r

  finish_of : (o : Outcome C) (r : Settled C) (es : List Entry) (bs : List (Box C Global)) (fs : List Entry) (cs : List (Box C Global)) (least : ℕ) → least ≤ front ss
      → Halves-are es r → IsSettled i es bs fs cs o r → (full m : ℕ) → HasSpares full m o → (16 ≤ length es → 1 ≤ full) → CanFinish en P least tree m r
  finish_of o settled.Refused es bs fs cs least d q s full m h k = tt
  finish_of o settled.Same es bs fs cs least d q s full m h k = tt
  finish_of o (settled.Changed e) es bs fs cs least d q s full m h k = tt
  finish_of outcome.Refused (settled.Split u) es bs fs cs least d q s full m h k = absurd s
  finish_of outcome.Same (settled.Split u) es bs fs cs least d q s full m h k = absurd s
  finish_of (outcome.Changed e) (settled.Split u) es bs fs cs least d q s full m h k = absurd s
  finish_of (outcome.Split e) (settled.Split u) es bs fs cs least d q s full m h k = (
    record { dense = q.1.0; deep = subst (λ h. least ≤ h) (sym q.0.same) d; even = q.0.even; entries = q.0.entries },
    omega (arith, h, k q.1.1),
  )

  grew_of : {D : Type 0} (node : Box D Global → Subtree X) (n m : ℕ) (ts : List (Subtree X)) (r : Settled C) (p : Outcome D) → IsFinished tree node n m r p
      → GrewOver en P more refuses edits tree ss ts r → Grew en P more refuses edits node (over ss) (over ts) p
  grew_of node n m ts settled.Refused outcome.Refused t g = g
  grew_of node n m ts settled.Refused outcome.Same t g = absurd t
  grew_of node n m ts settled.Refused (outcome.Changed e) t g = absurd t
  grew_of node n m ts settled.Refused (outcome.Split h) t g = absurd t
  grew_of node n m ts settled.Same outcome.Refused t g = absurd t
  grew_of node n m ts settled.Same outcome.Same t g = g
  grew_of node n m ts settled.Same (outcome.Changed e) t g = absurd t
  grew_of node n m ts settled.Same (outcome.Split h) t g = absurd t
  grew_of node n m ts (settled.Changed d) outcome.Refused t g = absurd t
  grew_of node n m ts (settled.Changed d) outcome.Same t g = absurd t
  grew_of node n m ts (settled.Changed d) (outcome.Changed e) t g = record { one = g.one; sum = t ∙ g.sum }
  grew_of node n m ts (settled.Changed d) (outcome.Split h) t g = absurd t
  grew_of node n m ts (settled.Split u) outcome.Refused t g = absurd t
  grew_of node n m ts (settled.Split u) outcome.Same t g = absurd t
  grew_of node n m ts (settled.Split u) (outcome.Changed e) t g = absurd t
  grew_of node n m ts (settled.Split u) (outcome.Split h) t g = record {
    two = subst (λ z. IsTwo P more edits (over ss) (over ts) z) (sym t.upper) g.two;
    low = t.low ∙ g.low;
    high = t.high ∙ g.high ∙ ap (entry_of en) (sym t.upper);
  }

  module _ (es : List Entry) (n : es ≡ map (entry_of en) ss) (bs : List (Box C Global)) where
    one_done : (new : Subtree X) → IsOne P at edits (nth_tree ss i) new → (fs : List Entry) (cs : List (Box C Global)) → length cs ≤ 16
        → map tree cs ≡ set ss i new → fs ≡ map (entry_of en) (set ss i new)
        → AreKids en P ss (map tree cs) fs × IsOne P more edits (over ss) (over (map tree cs))
    one_done new o fs cs fits e d = (
      kids_set new (map tree cs) fs (full_one P at edits (front ss) (nth_tree ss i) new o full_child) e (d ∙ ap (map (entry_of en)) (sym e)),
      subst (λ zs. IsOne P more edits (over ss) (over zs)) (sym e)
          (over_one at more i ss l lift P edits new even (full_one P at edits (front ss) (nth_tree ss i) new o full_child)
          (omega (arith, ap length e, length-map cs tree, length-set ss i new, fits)) o),
    )

    same_done : (fs : List Entry) (cs : List (Box C Global)) → length cs ≤ 16 → (new : Subtree X) → map tree bs ≡ set ss i new → IsOne P at edits (nth_tree ss i) new
        → entry_of en new ≡ entry_of en (nth_tree ss i) → fs ≡ es → cs ≡ bs → IsDone es fs cs settled.Same
    same_done fs cs fits new list one sum f c =
        let e = ap (map tree) c ∙ list in
        let same : es ≡ map (entry_of en) (set ss i new) =
        n ∙ sym (set-same blank (map (entry_of en) ss) i (entry_of en new) (sum ∙ sym (nth-entries en ss i l)) (omega (arith, length-entries en ss, l))) ∙ sym (map-set (entry_of en) ss i new) in
        let q = one_done new one fs cs fits e (f ∙ same) in
        record {
          kids = q.0;
          grew = record { one = q.1; sum = sym (sum-entries en P _ (map tree cs) q.0.even) ∙ ap sum_of (sym q.0.entries ∙ f ∙ n) ∙ sum-entries en P _ ss even };
          halves = tt;
        }

    pub done : (o : Outcome C) (r : Settled C) (fs : List Entry) (cs : List (Box C Global)) → length cs ≤ 16
        → GrewAt en P at refuses edits tree i ss (map tree bs) o → IsSettled i es bs fs cs o r → IsDone es fs cs r
    done outcome.Refused settled.Refused fs cs fits g s =
        let e = ap (map tree) s.kids ∙ unchanged es n g.new (map tree bs) g.list g.grew.same in
        let some : 0 < length (map tree cs) = omega (arith, ap length e, l) in
        record {
          kids = record {
            some = some;
            same = ap front e;
            even = subst (λ zs. AreFull P (front zs) zs) (sym e) even;
            entries = s.entries ∙ n ∙ ap (map (entry_of en)) (sym e);
          };
          grew = record { same = ap over e; refused = over_refused at more i ss l lift refuses g.grew.refused };
          halves = tt;
        }
    done outcome.Refused settled.Same fs cs fits g s = absurd s
    done outcome.Refused (settled.Changed d) fs cs fits g s = absurd s
    done outcome.Refused (settled.Split h) fs cs fits g s = absurd s
    done outcome.Same settled.Refused fs cs fits g s = absurd s
    done outcome.Same settled.Same fs cs fits g s = same_done fs cs fits g.new g.list g.grew.one g.grew.sum s.entries s.kids
    done outcome.Same (settled.Changed d) fs cs fits g s = absurd s
    done outcome.Same (settled.Split h) fs cs fits g s = absurd s
    done (outcome.Changed x) settled.Refused fs cs fits g s = absurd s
    done (outcome.Changed x) settled.Same fs cs fits g s =
        same_done fs cs fits g.new g.list g.grew.one (sym g.grew.sum ∙ sym s.entry ∙ ap (λ zs. nth zs i) n ∙ nth-entries en ss i l) s.entries s.kids
    done (outcome.Changed x) (settled.Changed d) fs cs fits g s =
        let e = ap (map tree) s.kids ∙ g.list in
        let q = one_done g.new g.grew.one fs cs fits e (s.entries ∙ ap (λ z. set es i z) g.grew.sum ∙ entries_set es g.new n) in
        record {
          kids = q.0;
          grew = record { one = q.1; sum = s.sum ∙ ap sum_of q.0.entries ∙ sum-entries en P _ (map tree cs) q.0.even };
          halves = tt;
        }
    done (outcome.Changed x) (settled.Split h) fs cs fits g s = absurd s
    done (outcome.Split h) settled.Refused fs cs fits g s = absurd s
    done (outcome.Split h) settled.Same fs cs fits g s = absurd s
    done (outcome.Split h) (settled.Changed d) fs cs fits g s =
        let q = added bs g.new g.list h g.grew es n fs cs fits d s in
        record { kids = q.0; grew = q.1; halves = tt }
    done (outcome.Split h) (settled.Split v) fs cs fits g s =
        let q = halved bs g.new g.list h g.grew es n fs cs fits v s in
        record { kids = q.0; grew = q.1.1; halves = (q.1.0, (s.dense, omega (arith, s.full, length-set es i h.low))) }

    -- The preconditions of the functions after it, and their results.
    module _ (o : Outcome C) (r : Settled C) (fs : List Entry) (os : List (Option (Box C Global))) (g : GrewAt en P at refuses edits tree i ss (map tree bs) o)
        (s : IsSettled i es bs fs (held os) o r) (d : IsDense os) (least : ℕ) (deep : least ≤ front ss) where
      pub over_done : IsOver en P least tree fs os
      over_done =
          let q = (done o r fs (held os) d.fits g s).kids in
          record { dense = d; deep = subst (λ h. least ≤ h) (sym q.same) deep; even = q.even; entries = q.entries }

      halves_are : Halves-are es r
      halves_are = (done o r fs (held os) d.fits g s).halves

      pub can_finish : (full m : ℕ) → HasSpares full m o → (16 ≤ length es → 1 ≤ full) → CanFinish en P least tree m r
      can_finish full m h k = finish_of o r es bs fs (held os) least deep halves_are s full m h k

      module _ {D : Type 0} (node : Box D Global → Subtree X) (was now : ℕ) (p : Outcome D) (t : IsFinished tree node was now r p) where
        pub grew_done : Grew en P more refuses edits node (over ss) (over (map tree (held os))) p
        grew_done = grew_of node was now (map tree (held os)) r p t (done o r fs (held os) d.fits g s).grew
