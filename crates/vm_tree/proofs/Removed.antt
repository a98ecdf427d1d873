-- Slots from which a child was taken, or to which others were appended.
use Rattle.std.proofs.Common.{◌≡◌, ℕ, zero, suc, ◌+◌, ◌-◌, ◌≤◌, ◌<◌, List, [], ◌∷◌, ◌++◌, map, length, take, drop, set, replicate, Option, Some, None, ◌∙◌, sym, refl, ap, subst, arith, append_assoc}
use Rattle.std.proofs.lemmas.List.{length-append, take-set-le, take-take, take-replicate, drop-drop, drop-take, replicate-append-replicate}
use Rattle.std.specs.List.{remove}
use borrow.Rule.Slice.PartMut.{put_mid, post_of}
use Rattle.vm_tree.specs.Slots.{held, IsDense}
use Rattle.vm_tree.proofs.Dense.{filled_held, dense_of, filled_part, empty_part}

drop-set : {X : Type 0} (os : List X) (i : ℕ) (y : X) → i < length os → drop i (set os i y) ≡ y ∷ drop (suc i) os
drop-set [] i y l = absurd (omega arith)
drop-set (x ∷ os) zero y l = refl
drop-set (x ∷ os) (suc i) y l = drop-set os i y (omega arith)

regroup : {X : Type 0} (xs ys zs : List X) (y : X) → xs ++ ((ys ++ (y ∷ [])) ++ zs) ≡ (xs ++ ys) ++ (y ∷ zs)
regroup xs ys zs y = ap (λ us. xs ++ us) (append_assoc ys (y ∷ []) zs) ∙ sym (append_assoc xs ys (y ∷ zs))

-- The part after i is moved down over the item i, and y is behind it.
cut-out : {X : Type 0} (os : List X) (len i : ℕ) (y : X) → i < len → len ≤ length os
    → put_mid i (len - i) (set os i y) (drop 1 (take (len - i) (drop i (set os i y))) ++ take 1 (take (len - i) (drop i (set os i y))))
    ≡ remove (take len os) i ++ (y ∷ drop len os)
cut-out os len i y h l =
    let m : ℕ = len - suc i in
    let e : len - i ≡ suc m = omega arith in
    let front : take i (set os i y) ≡ take i (take len os) = take-set-le i os i y (omega arith) ∙ sym (take-take i len os (omega arith)) in
    let part : drop i (set os i y) ≡ y ∷ drop (suc i) os = drop-set os i y (omega arith) in
    let mid : take m (drop (suc i) os) ≡ drop (suc i) (take len os) = sym (drop-take (suc i) m os) ∙ ap (λ j. drop (suc i) (take j os)) (omega arith) in
    let rest : drop m (drop (suc i) os) ≡ drop len os = drop-drop m (suc i) os ∙ ap (λ j. drop j os) (omega arith) in
    rw (e, front, part, mid, rest) (regroup (take i (take len os)) (drop (suc i) (take len os)) (drop len os) y)

module _ {T : Type 0} where
  map-remove : (xs : List T) (i : ℕ) → remove (map {B = Option T} Some xs) i ≡ map Some (remove xs i)
  map-remove [] zero = refl
  map-remove [] (suc i) = refl
  map-remove (x ∷ xs) zero = refl
  map-remove (x ∷ xs) (suc i) = ap (λ zs. Some x ∷ zs) (map-remove xs i)

  map-both : (xs ys : List T) → map {B = Option T} Some (xs ++ ys) ≡ map Some xs ++ map Some ys
  map-both [] ys = refl
  map-both (x ∷ xs) ys = ap (λ zs. Some x ∷ zs) (map-both xs ys)

  remove-fewer : (xs : List T) (i : ℕ) → length (remove xs i) ≤ length xs
  remove-fewer [] zero = omega arith
  remove-fewer [] (suc i) = omega arith
  remove-fewer (x ∷ xs) zero = omega arith
  remove-fewer (x ∷ xs) (suc i) = omega (arith, remove-fewer xs i)

  without : (os : List (Option T)) (len i : ℕ) → IsDense os → len ≡ length (held os) → i < len → len ≤ length os
      → put_mid i (len - i) (set os i None) (drop 1 (take (len - i) (drop i (set os i None))) ++ take 1 (take (len - i) (drop i (set os i None))))
      ≡ map Some (remove (held os) i) ++ replicate (length os - len + 1) None
  without os len i d n h l =
      let count : suc (length os - length (held os)) ≡ length os - len + 1 = omega (arith, n) in
      cut-out os len i None h l ∙ ap (λ m. remove (take m os) i ++ (None ∷ drop m os)) n
      ∙ rw (filled_part os d, empty_part os (length (held os)) d (omega arith))
      (ap (λ (zs : List (Option T)). zs ++ replicate (suc (length os - length (held os))) None) (map-remove (held os) i)
      ∙ ap (λ (m : ℕ). map Some (remove (held os) i) ++ replicate {A = Option T} m None) count)

  pub removed : (os rot : List (Option T)) (len i : ℕ) → IsDense os → len ≡ length (held os) → i < len → len ≤ length os
      → rot ≡ drop 1 (take (len - i) (drop i (set os i None))) ++ take 1 (take (len - i) (drop i (set os i None)))
      → held (put_mid i (len - i) (set os i None) rot) ≡ remove (held os) i
  removed os rot len i d n h l e =
      ap (λ (r : List (Option T)). held (put_mid i (len - i) (set os i None) r)) e ∙ filled_held _ _ _ (without os len i d n h l)

  pub removed_dense : (os rot : List (Option T)) (len i : ℕ) → IsDense os → len ≡ length (held os) → i < len → len ≤ length os
      → rot ≡ drop 1 (take (len - i) (drop i (set os i None))) ++ take 1 (take (len - i) (drop i (set os i None)))
      → IsDense (put_mid i (len - i) (set os i None) rot)
  removed_dense os rot len i d n h l e =
      subst (λ (r : List (Option T)). IsDense (put_mid i (len - i) (set os i None) r)) (sym e)
      (dense_of _ _ _ (without os len i d n h l) (omega (arith, d.fits, remove-fewer (held os) i)))

  appended-list : (os us part : List (Option T)) (n m k j : ℕ) → IsDense os → IsDense us → n ≡ length (held os) → m ≡ length (held us) → n + m ≤ length os
      → k ≡ m → j ≡ m → part ≡ take j us → put_mid n k os part ≡ map Some (held os ++ held us) ++ replicate (length os - (n + m)) None
  appended-list os us part n m k j d e p q l z y f =
      let one : take n os ≡ map Some (held os) = ap (λ j. take j os) p ∙ filled_part os d in
      let two : part ≡ map Some (held us) = f ∙ ap (λ i. take i us) (y ∙ q) ∙ filled_part us e in
      let rest : drop k (drop n os) ≡ replicate (length os - (n + m)) None =
      drop-drop k n os ∙ ap (λ j. drop j os) (omega (arith, z)) ∙ empty_part os (n + m) d (omega (arith, p)) in
      rw (one, two, rest) (sym (append_assoc (map {B = Option T} Some (held os)) (map Some (held us)) (replicate (length os - (n + m)) None))
      ∙ ap (λ (zs : List (Option T)). zs ++ replicate (length os - (n + m)) None) (sym (map-both (held os) (held us))))

  pub appended : (os us part : List (Option T)) (n m k j : ℕ) → IsDense os → IsDense us → n ≡ length (held os) → m ≡ length (held us) → n + m ≤ length os
      → k ≡ m → j ≡ m → part ≡ take j us → held (put_mid n k os part) ≡ held os ++ held us
  appended os us part n m k j d e p q l z y f = filled_held _ _ _ (appended-list os us part n m k j d e p q l z y f)

  pub appended_dense : (os us part : List (Option T)) (n m k j : ℕ) → IsDense os → IsDense us → n ≡ length (held os) → m ≡ length (held us)
      → n + m ≤ length os → n + m ≤ 16 → k ≡ m → j ≡ m → part ≡ take j us → IsDense (put_mid n k os part)
  appended_dense os us part n m k j d e p q l v z y f =
      dense_of _ _ _ (appended-list os us part n m k j d e p q l z y f) (omega (arith, length-append (held os) (held us), p, q, v))

  held-fits : (os : List (Option T)) → length (held os) ≤ length os
  held-fits [] = omega arith
  held-fits (None ∷ os) = omega (arith, held-fits os)
  held-fits (Some x ∷ os) = omega (arith, held-fits os)

  emptied-list : (os us part : List (Option T)) (n m : ℕ) → IsDense os → IsDense us → n ≡ length (held os) → m ≡ length (held us) → n + m ≤ length os
      → part ≡ take m (drop n os) → part ++ drop m us ≡ map Some [] ++ replicate (length us) None
  emptied-list os us part n m d e p q l f =
      let one : part ≡ replicate m None =
      f ∙ ap (take m) (empty_part os n d (omega (arith, p))) ∙ take-replicate m (length os - n) None (omega arith) in
      let two : drop m us ≡ replicate (length us - m) None = empty_part us m e (omega (arith, q)) in
      let bound : m ≤ length us = omega (arith, q, held-fits us) in
      let whole : m + (length us - m) ≡ length us = omega arith in
      rw (one, two) (replicate-append-replicate m (length us - m) None ∙ ap (λ (j : ℕ). replicate {A = Option T} j None) whole)

  pub emptied : (os us part : List (Option T)) (n m k j : ℕ) → IsDense os → IsDense us → n ≡ length (held os) → m ≡ length (held us) → n + m ≤ length os
      → k ≡ m → j ≡ m → part ≡ take j (drop n os) → held (part ++ post_of 0 k us) ≡ []
  emptied os us part n m k j d e p q l z y f = ap (λ j. held (part ++ drop j us)) z ∙ filled_held (part ++ drop m us) [] (length us) (emptied-list os us part n m d e p q l (f ∙ ap (λ i. take i (drop n os)) y))

  pub emptied_dense : (os us part : List (Option T)) (n m k j : ℕ) → IsDense os → IsDense us → n ≡ length (held os) → m ≡ length (held us)
      → n + m ≤ length os → k ≡ m → j ≡ m → part ≡ take j (drop n os) → IsDense (part ++ post_of 0 k us)
  emptied_dense os us part n m k j d e p q l z y f =
      subst (λ j. IsDense (part ++ drop j us)) (sym z) (dense_of (part ++ drop m us) [] (length us) (emptied-list os us part n m d e p q l (f ∙ ap (λ i. take i (drop n os)) y)) (omega arith))
