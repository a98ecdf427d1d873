-- Slots, of which the first ones are filled.
use Rattle.std.proofs.Common.{◌≡◌, ℕ, zero, suc, ◌+◌, ◌-◌, ◌≤◌, ◌<◌, List, [], ◌∷◌, ◌++◌, map, length, take, drop, set, get_or, replicate, Option, Some, None, ◌∙◌, sym, refl, ap, subst, arith}
use Rattle.std.proofs.lemmas.List.{drop-take, take-take, drop-drop, drop-replicate, take-set-le, drop-set-lt, take_more_set, length-drop}
use Rattle.std.proofs.Math.Seq.{take-append_seam, drop-append_seam}
use Rattle.std.proofs.lemmas.List.{drop-append-le, length-append, length-replicate, length-set}
use Rattle.std.proofs.lemmas.List.Edits.{length-insert}
use Rattle.std.proofs.Common.{append_assoc, length-take-le}
use borrow.Rule.Slice.PartMut.{put_mid}
use Rattle.std.specs.List.{insert}
use Rattle.vm_tree.specs.Slots.{held, IsDense}

module _ {T : Type 0} where
  pub held-none : (n : ℕ) → held (replicate {A = Option T} n None) ≡ []
  held-none zero = refl
  held-none (suc n) = held-none n

  pub none_held : held (replicate {A = Option T} 16 None) ≡ []
  none_held = held-none 16

  pub none_dense : IsDense (replicate {A = Option T} 16 None)
  none_dense = record { shape = refl; fits = omega (arith, ap length none_held) }

  -- Filled slots, and empty ones behind them.
  held-filled : (xs : List T) (n : ℕ) → held (map Some xs ++ replicate n None) ≡ xs
  held-filled [] n = held-none n
  held-filled (x ∷ xs) n = ap (λ ys. x ∷ ys) (held-filled xs n)

  pub filled_held : (os : List (Option T)) (xs : List T) (n : ℕ) → os ≡ map Some xs ++ replicate n None → held os ≡ xs
  filled_held os xs n e = ap held e ∙ held-filled xs n

  pub map-insert : {Y : Type 0} (f : T → Y) (xs : List T) (i : ℕ) (x : T) → map f (insert xs i x) ≡ insert (map f xs) i (f x)
  map-insert f [] zero x = refl
  map-insert f [] (suc i) x = refl
  map-insert f (y ∷ xs) zero x = refl
  map-insert f (y ∷ xs) (suc i) x = ap (λ ys. f y ∷ ys) (map-insert f xs i x)

  length-filled : (xs : List T) → length (map {B = Option T} Some xs) ≡ length xs
  length-filled [] = refl
  length-filled (x ∷ xs) = omega (arith, length-filled xs)

-- The last of the first len + 1 items is moved down to i.
middle : {X : Type 0} (os : List X) (len i : ℕ) (y : X) → len < length os → i ≤ len
    → take (len + 1 - i) (drop i (set os len y)) ≡ drop i (take len os) ++ y ∷ []
middle os len i y l h =
    sym (drop-take i (len + 1 - i) (set os len y)) ∙ ap (λ n. drop i (take n (set os len y))) (omega arith)
    ∙ ap (drop i) (take_more_set os len y l) ∙ drop-append-le i (take len os) (y ∷ []) (omega (arith, length-take-le len os (omega arith)))

turned : {X : Type 0} (xs : List X) (n : ℕ) (y : X) → n ≡ length xs → drop n (xs ++ y ∷ []) ++ take n (xs ++ y ∷ []) ≡ y ∷ xs
turned xs n y e = rw (e, drop-append_seam xs (y ∷ []), take-append_seam xs (y ∷ [])) refl

rotated : {X : Type 0} (os rot : List X) (len i : ℕ) (y : X) → len < length os → i ≤ len
    → rot ≡ drop (len + 1 - i - 1) (take (len + 1 - i) (drop i (set os len y))) ++ take (len + 1 - i - 1) (take (len + 1 - i) (drop i (set os len y)))
    → put_mid i (len + 1 - i) (set os len y) rot ≡ insert (take len os) i y ++ drop (len + 1) os
rotated os rot len i y l h e =
    let n : len + 1 - i - 1 ≡ length (drop i (take len os)) =
    omega (arith, length-drop i (take len os), length-take-le len os (omega arith)) in
    let r : rot ≡ y ∷ drop i (take len os) =
    e ∙ ap (λ m. drop (len + 1 - i - 1) m ++ take (len + 1 - i - 1) m) (middle os len i y l h) ∙ turned (drop i (take len os)) _ y n in
    let a : take i (set os len y) ≡ take i (take len os) = take-set-le i os len y h ∙ sym (take-take i len os h) in
    let b : drop (len + 1 - i) (drop i (set os len y)) ≡ drop (len + 1) os =
    drop-drop (len + 1 - i) i (set os len y) ∙ ap (λ m. drop m (set os len y)) (omega arith) ∙ drop-set-lt (len + 1) os len y (omega arith) in
    rw (r, a, b) (sym (append_assoc (take i (take len os)) (y ∷ drop i (take len os)) (drop (len + 1) os)))

module _ {T : Type 0} where
  -- The first len slots are filled, and no other.
  pub filled_part : (os : List (Option T)) → IsDense os → take (length (held os)) os ≡ map Some (held os)
  filled_part os e =
      ap (take (length (held os))) e.shape ∙ ap (λ n. take n (map Some (held os) ++ replicate (length os - length (held os)) None)) (sym (length-filled (held os)))
      ∙ take-append_seam (map Some (held os)) (replicate (length os - length (held os)) None)

  pub empty_part : (os : List (Option T)) (n : ℕ) → IsDense os → length (held os) ≤ n → drop n os ≡ replicate (length os - n) None
  empty_part os n e l =
      ap (drop n) e.shape ∙ ap (λ m. drop m (map Some (held os) ++ replicate (length os - length (held os)) None)) (omega (arith, length-filled (held os)))
      ∙ sym (drop-drop (n - length (held os)) (length (map {B = Option T} Some (held os))) _)
      ∙ ap (drop (n - length (held os))) (drop-append_seam (map Some (held os)) _) ∙ drop-replicate (n - length (held os)) (length os - length (held os)) None
      ∙ ap (λ m. replicate m None) (omega arith)

  new_slots : (os rot : List (Option T)) (len i : ℕ) (x : T) → IsDense os → len ≡ length (held os) → i ≤ len → len < length os
      → rot ≡ drop (len + 1 - i - 1) (take (len + 1 - i) (drop i (set os len (Some x)))) ++ take (len + 1 - i - 1) (take (len + 1 - i) (drop i (set os len (Some x))))
      → put_mid i (len + 1 - i) (set os len (Some x)) rot ≡ map Some (insert (held os) i x) ++ replicate (length os - (len + 1)) None
  new_slots os rot len i x d n h l e =
      rotated os rot len i (Some x) l h e ∙ ap (λ m. insert (take m os) i (Some x) ++ drop (len + 1) os) n
      ∙ rw (filled_part os d, empty_part os (len + 1) d (omega (arith, n)), map-insert {Y = Option T} Some (held os) i x) refl

  pub inserted : (os rot : List (Option T)) (len i : ℕ) (x : T) → IsDense os → len ≡ length (held os) → i ≤ len → len < length os
      → rot ≡ drop (len + 1 - i - 1) (take (len + 1 - i) (drop i (set os len (Some x)))) ++ take (len + 1 - i - 1) (take (len + 1 - i) (drop i (set os len (Some x))))
      → held (put_mid i (len + 1 - i) (set os len (Some x)) rot) ≡ insert (held os) i x
  inserted os rot len i x d n h l e = filled_held _ _ _ (new_slots os rot len i x d n h l e)

  pub dense_of : (os : List (Option T)) (xs : List T) (n : ℕ) → os ≡ map Some xs ++ replicate n None → length xs ≤ 16 → IsDense os
  dense_of os xs n e f =
      let h : held os ≡ xs = filled_held os xs n e in
      let l : length os ≡ length xs + n =
      ap length e ∙ length-append (map Some xs) (replicate n None) ∙ ap (λ m. m + length (replicate {A = Option T} n None)) (length-filled xs)
      ∙ ap (λ m. length xs + m) (length-replicate n None) in
      record {
        shape = e ∙ ap (λ ys. map Some ys ++ replicate n None) (sym h)
            ∙ ap (λ m. map Some (held os) ++ replicate m None) (omega (arith, l, ap length h));
        fits = omega (arith, ap length h, f);
      }

  pub inserted_dense : (os rot : List (Option T)) (len i : ℕ) (x : T) → IsDense os → len ≡ length (held os) → i ≤ len → len < length os → len < 16
      → rot ≡ drop (len + 1 - i - 1) (take (len + 1 - i) (drop i (set os len (Some x)))) ++ take (len + 1 - i - 1) (take (len + 1 - i) (drop i (set os len (Some x))))
      → IsDense (put_mid i (len + 1 - i) (set os len (Some x)) rot)
  inserted_dense os rot len i x d n h l f e =
      dense_of _ _ _ (new_slots os rot len i x d n h l e) (omega (arith, length-insert (held os) i x (omega (arith, n, h)), n, f))

  get_or-filled : (xs : List T) (ys : List (Option T)) (i : ℕ) (d : T) (o : Option T) → i < length xs → get_or (map Some xs ++ ys) i o ≡ Some (get_or xs i d)
  get_or-filled [] ys i d o l = absurd (omega arith)
  get_or-filled (x ∷ xs) ys zero d o l = refl
  get_or-filled (x ∷ xs) ys (suc i) d o l = get_or-filled xs ys i d o (omega arith)

  pub slot_at : (os : List (Option T)) (i : ℕ) (d : T) (o : Option T) → IsDense os → i < length (held os) → get_or os i o ≡ Some (get_or (held os) i d)
  slot_at os i d o e l = ap (λ zs. get_or zs i o) e.shape ∙ get_or-filled (held os) _ i d o l

  set-filled : (xs : List T) (ys : List (Option T)) (i : ℕ) (x : T) → i < length xs → set (map Some xs ++ ys) i (Some x) ≡ map Some (set xs i x) ++ ys
  set-filled [] ys i x l = absurd (omega arith)
  set-filled (y ∷ xs) ys zero x l = refl
  set-filled (y ∷ xs) ys (suc i) x l = ap (λ zs. Some y ∷ zs) (set-filled xs ys i x (omega arith))

  slots_set : (os : List (Option T)) (i : ℕ) (x : T) → IsDense os → i < length (held os)
      → set os i (Some x) ≡ map Some (set (held os) i x) ++ replicate (length os - length (held os)) None
  slots_set os i x e l = ap (λ zs. set zs i (Some x)) e.shape ∙ set-filled (held os) _ i x l

  pub rewritten : (os : List (Option T)) (i : ℕ) (x : T) → IsDense os → i < length (held os) → held (set os i (Some x)) ≡ set (held os) i x
  rewritten os i x e l = filled_held _ _ _ (slots_set os i x e l)

  pub rewritten_dense : (os : List (Option T)) (i : ℕ) (x : T) → IsDense os → i < length (held os) → IsDense (set os i (Some x))
  rewritten_dense os i x e l = dense_of _ _ _ (slots_set os i x e l) (omega (arith, length-set (held os) i x, e.fits))

  abbrev IsEmpty : Option T → Type 0
  IsEmpty None = Unit {0}
  IsEmpty (Some x) = ⊥

  empty_absurd : (x : T) → Some x ≡ None → ⊥
  empty_absurd x e = subst IsEmpty (sym e) tt

  element : (xs : List T) (i : ℕ) → i < length xs → T
  element [] i l = absurd (omega arith)
  element (x ∷ xs) i l = x

  pub not_empty : (os : List (Option T)) (i : ℕ) (o : Option T) → IsDense os → i < length (held os) → get_or os i o ≡ None → ⊥
  not_empty os i o e l h = let d : T = element (held os) i l in empty_absurd (get_or (held os) i d) (sym (slot_at os i d o e l) ∙ h)

  abbrev value_of : T → Option T → T
  value_of d None = d
  value_of d (Some x) = x

  pub kid_at : (os : List (Option T)) (i : ℕ) (o : Option T) (x : T) → IsDense os → i < length (held os) → get_or os i o ≡ Some x
      → get_or (held os) i x ≡ x
  kid_at os i o x e l h = ap (value_of x) (sym (slot_at os i x o e l) ∙ h)
