-- Arrays of which a part was moved to another.
use Rattle.std.proofs.Common.{◌≡◌, ℕ, zero, suc, ◌-◌, ◌≤◌, List, [], ◌∷◌, ◌++◌, length, take, drop, map, replicate, Option, Some, None, ◌∙◌, sym, refl, ap, subst, arith, length-take-le}
use Rattle.std.proofs.lemmas.List.{drop-drop, drop-take, drop-replicate, take-replicate, length-append, length-replicate, replicate-append-replicate, length-drop, take-take}
use Rattle.std.proofs.Math.Seq.{take-append_seam, drop-append_seam}
use borrow.Rule.Slice.PartMut.{put_mid, post_of}
use Rattle.vm_tree.specs.Padded.{IsPadded}
use Rattle.vm_tree.specs.Slots.{held, IsDense}
use Rattle.vm_tree.proofs.Dense.{filled_held, dense_of, filled_part, empty_part}

module _ {X : Type 0} where
  -- The part that was moved.
  pub moved_part : (xs : List X) (n at : ℕ) → at ≤ n → take (n - at) (drop at xs) ≡ drop at (take n xs)
  moved_part xs n at h = sym (drop-take at (n - at) xs) ∙ ap (λ j. drop at (take j xs)) (omega arith)

  -- The items from `at` on are pads now.
  pub below : (xs pads : List X) (n at : ℕ) (p : X) → at ≤ n → n ≤ length xs → pads ≡ replicate (n - at) p → IsPadded xs n p
      → put_mid at (n - at) xs pads ≡ take at xs ++ replicate (length xs - at) p
  below xs pads n at p h l e f =
      let rest : drop (n - at) (drop at xs) ≡ replicate (length xs - n) p = drop-drop (n - at) at xs ∙ ap (λ j. drop j xs) (omega arith) ∙ f in
      ap (λ (zs : List X). take at xs ++ (zs ++ drop (n - at) (drop at xs))) e
      ∙ ap (λ (zs : List X). take at xs ++ (replicate (n - at) p ++ zs)) rest
      ∙ ap (λ (zs : List X). take at xs ++ zs) (replicate-append-replicate (n - at) (length xs - n) p ∙ ap (λ j. replicate j p) (omega arith))

module _ {T : Type 0} where
  pub map-take : (xs : List T) (n : ℕ) → take n (map {B = Option T} Some xs) ≡ map Some (take n xs)
  map-take [] zero = refl
  map-take [] (suc n) = refl
  map-take (x ∷ xs) zero = refl
  map-take (x ∷ xs) (suc n) = ap (λ zs. Some x ∷ zs) (map-take xs n)

  pub map-drop : (xs : List T) (n : ℕ) → drop n (map {B = Option T} Some xs) ≡ map Some (drop n xs)
  map-drop [] zero = refl
  map-drop [] (suc n) = refl
  map-drop (x ∷ xs) zero = refl
  map-drop (x ∷ xs) (suc n) = map-drop xs n

  above_list : (os us part : List (Option T)) (n at : ℕ) → IsDense os → n ≡ length (held os) → at ≤ n → held us ≡ [] → IsDense us
      → part ≡ take (n - at) (drop at os) → part ++ drop (n - at) us ≡ map Some (drop at (held os)) ++ replicate (length us - (n - at)) None
  above_list os us part n at d e h u v p =
      let low : part ≡ map Some (drop at (held os)) =
      p ∙ moved_part os n at h ∙ ap (λ j. drop at (take j os)) e ∙ ap (drop at) (filled_part os d) ∙ map-drop (held os) at in
      ap (λ (zs : List (Option T)). zs ++ drop (n - at) us) low
      ∙ ap (λ (zs : List (Option T)). map Some (drop at (held os)) ++ zs) (empty_part us (n - at) v (omega (arith, ap length u)))

  pub upper_held : (os us part : List (Option T)) (n at m : ℕ) → m ≡ n - at → IsDense os → n ≡ length (held os) → at ≤ n → held us ≡ [] → IsDense us
      → part ≡ take (n - at) (drop at os) → held (part ++ post_of 0 m us) ≡ drop at (held os)
  upper_held os us part n at m k d e h u v p =
      ap (λ j. held (part ++ drop j us)) k ∙ filled_held _ _ _ (above_list os us part n at d e h u v p)

  pub upper_dense : (os us part : List (Option T)) (n at m : ℕ) → m ≡ n - at → IsDense os → n ≡ length (held os) → at ≤ n → held us ≡ [] → IsDense us
      → part ≡ take (n - at) (drop at os) → IsDense (part ++ post_of 0 m us)
  upper_dense os us part n at m k d e h u v p =
      subst (λ j. IsDense (part ++ drop j us)) (sym k)
      (dense_of _ _ _ (above_list os us part n at d e h u v p) (omega (arith, length-drop at (held os), d.fits)))

  below_list : (os us pads : List (Option T)) (n at : ℕ) → IsDense os → n ≡ length (held os) → at ≤ n → n ≤ length os → n - at ≤ length us
      → held us ≡ [] → IsDense us → pads ≡ take (n - at) us
      → put_mid at (n - at) os pads ≡ map Some (take at (held os)) ++ replicate (length os - at) None
  below_list os us pads n at d e h l m u v p =
      let none : pads ≡ replicate (n - at) None =
      p ∙ ap (take (n - at)) (empty_part us 0 v (omega (arith, ap length u))) ∙ take-replicate (n - at) (length us - 0) None (omega arith) in
      let front : take at os ≡ map Some (take at (held os)) =
      sym (take-take at n os h) ∙ ap (λ j. take at (take j os)) e ∙ ap (take at) (filled_part os d) ∙ map-take (held os) at in
      below os pads n at None h l none (empty_part os n d (omega (arith, e))) ∙ ap (λ (zs : List (Option T)). zs ++ replicate (length os - at) None) front

  pub lower_held : (os us pads : List (Option T)) (n at : ℕ) → IsDense os → n ≡ length (held os) → at ≤ n → n ≤ length os → n - at ≤ length us
      → held us ≡ [] → IsDense us → pads ≡ take (n - at) us → held (put_mid at (n - at) os pads) ≡ take at (held os)
  lower_held os us pads n at d e h l m u v p = filled_held _ _ _ (below_list os us pads n at d e h l m u v p)

  pub lower_dense : (os us pads : List (Option T)) (n at : ℕ) → IsDense os → n ≡ length (held os) → at ≤ n → n ≤ length os → n - at ≤ length us
      → held us ≡ [] → IsDense us → pads ≡ take (n - at) us → IsDense (put_mid at (n - at) os pads)
  lower_dense os us pads n at d e h l m u v p =
      dense_of _ _ _ (below_list os us pads n at d e h l m u v p) (omega (arith, length-take-le at (held os) (omega (arith, h, e)), d.fits))

-- Columns.
module _ {X : Type 0} where
  pub column_upper : (xs us part : List X) (n at k : ℕ) → k ≡ n - at → at ≤ n → n ≤ length xs → part ≡ take (n - at) (drop at xs)
      → take (n - at) (part ++ post_of 0 k us) ≡ drop at (take n xs)
  column_upper xs us part n at k z h l p =
      let e : part ≡ drop at (take n xs) = p ∙ moved_part xs n at h in
      let m : n - at ≡ length part = omega (arith, ap length e, length-drop at (take n xs), length-take-le n xs l) in
      ap (λ j. take j (part ++ drop k us)) m ∙ take-append_seam part (drop k us) ∙ e

  pub column_upper_pads : (xs us part : List X) (n at k : ℕ) (p : X) → k ≡ n - at → at ≤ n → n ≤ length xs → length us ≡ length xs → IsPadded us 0 p
      → part ≡ take (n - at) (drop at xs) → IsPadded (part ++ post_of 0 k us) (n - at) p
  column_upper_pads xs us part n at k p z h l w u q =
      let e : part ≡ drop at (take n xs) = q ∙ moved_part xs n at h in
      let m : n - at ≡ length part = omega (arith, ap length e, length-drop at (take n xs), length-take-le n xs l) in
      let t : length (part ++ drop k us) ≡ length us =
      omega (arith, length-append part (drop k us), length-drop k us, m, k) in
      ap (λ j. drop j (part ++ drop k us)) m ∙ drop-append_seam part (drop k us) ∙ ap (drop k) u
      ∙ drop-replicate k (length us - 0) p ∙ ap (λ j. replicate j p) (omega (arith, t, z))

  pub column_lower_pads : (xs us pads : List X) (n at : ℕ) (p : X) → at ≤ n → n ≤ length xs → length us ≡ length xs → IsPadded us 0 p
      → IsPadded xs n p → pads ≡ take (n - at) us → IsPadded (put_mid at (n - at) xs pads) at p
  column_lower_pads xs us pads n at p h l k u v q =
      let none : pads ≡ replicate (n - at) p = q ∙ ap (take (n - at)) u ∙ take-replicate (n - at) (length us - 0) p (omega (arith, k)) in
      let new : put_mid at (n - at) xs pads ≡ take at xs ++ replicate (length xs - at) p = below xs pads n at p h l none v in
      let a : at ≡ length (take at xs) = omega (arith, length-take-le at xs (omega arith)) in
      let t : length (put_mid at (n - at) xs pads) ≡ length xs =
      ap length new ∙ length-append (take at xs) (replicate (length xs - at) p)
      ∙ omega (arith, a, length-replicate (length xs - at) p) in
      ap (drop at) new ∙ ap (λ j. drop j (take at xs ++ replicate (length xs - at) p)) a ∙ drop-append_seam (take at xs) (replicate (length xs - at) p)
      ∙ ap (λ j. replicate j p) (omega (arith, t))
