-- The leaves of subtrees next to each other, and their entries.
use Rattle.std.proofs.Common.{◌≡◌, ℕ, zero, suc, ◌+◌, ◌-◌, ◌*◌, ◌^◌, ◌≤◌, ◌<◌, max, List, [], ◌∷◌, ◌++◌, length, take, drop, set, map, ◌∙◌, sym, refl, ap, subst, arith, append_assoc, add-one, lit≤}
use Rattle.std.proofs.Math.Nat.{mul-le-mul, pow-suc}
use Rattle.std.proofs.lemmas.List.{length-append}
use Rattle.std.specs.List.{insert}
use Rattle.vm_tree.specs.Entry.{Entry}
use Rattle.vm_tree.specs.Rows.{joined, sum_of, nth}
use Rattle.vm_tree.specs.Subtree.{Subtree, leaves_of, sizes_of, front, over, nth_tree, AllOf, leaves_entry, entry_of, AreFrom, Ascend, IsFull, AreFull}
use Rattle.vm_tree.specs.Edits.{IsBefore}
use Rattle.vm_tree.proofs.Leaves.{joined-none}

abbrev entry : ℕ → ℕ → ℕ → Entry
entry a b c = record { at = a; longest = b; alignments = c }

max-max : (a b c : ℕ) → max a (max b c) ≡ max (max a b) c
max-max a b c = omega arith

joined-assoc : (a b c : Entry) → joined a (joined b c) ≡ joined (joined a b) c
joined-assoc a b c =
    ap (λ n. entry a.at n (max a.alignments (max b.alignments c.alignments))) (max-max a.longest b.longest c.longest)
    ∙ ap (λ n. entry a.at (max (max a.longest b.longest) c.longest) n) (max-max a.alignments b.alignments c.alignments)

module _ {X : Type 0} where
  pub flat-append : (ss ts : List (Subtree X)) → leaves_of (ss ++ ts) ≡ leaves_of ss ++ leaves_of ts
  flat-append [] ts = refl
  flat-append (s ∷ ss) ts = ap (λ xs. s.leaves ++ xs) (flat-append ss ts) ∙ sym (append_assoc s.leaves (leaves_of ss) (leaves_of ts))

  -- A child stands between others.
  pub flat_cut : (ss : List (Subtree X)) (i : ℕ) → i < length ss
      → leaves_of ss ≡ leaves_of (take i ss) ++ ((nth_tree ss i).leaves ++ leaves_of (drop (suc i) ss))
  flat_cut [] i l = absurd (omega arith)
  flat_cut (s ∷ ss) zero l = refl
  flat_cut (s ∷ ss) (suc i) l = ap (λ xs. s.leaves ++ xs) (flat_cut ss i (omega arith)) ∙ sym (append_assoc s.leaves (leaves_of (take i ss)) _)

  pub flat_set : (ss : List (Subtree X)) (i : ℕ) (t : Subtree X) → i < length ss
      → leaves_of (set ss i t) ≡ leaves_of (take i ss) ++ (t.leaves ++ leaves_of (drop (suc i) ss))
  flat_set [] i t l = absurd (omega arith)
  flat_set (s ∷ ss) zero t l = refl
  flat_set (s ∷ ss) (suc i) t l = ap (λ xs. s.leaves ++ xs) (flat_set ss i t (omega arith)) ∙ sym (append_assoc s.leaves (leaves_of (take i ss)) _)

  flat_insert_suc : (ss : List (Subtree X)) (i : ℕ) (t u : Subtree X) → i < length ss
      → leaves_of (insert (set ss i t) (suc i) u) ≡ leaves_of (take i ss) ++ ((t.leaves ++ u.leaves) ++ leaves_of (drop (suc i) ss))
  flat_insert_suc [] i t u l = absurd (omega arith)
  flat_insert_suc (s ∷ ss) zero t u l = sym (append_assoc t.leaves u.leaves (leaves_of ss))
  flat_insert_suc (s ∷ ss) (suc i) t u l =
      ap (λ xs. s.leaves ++ xs) (flat_insert_suc ss i t u (omega arith)) ∙ sym (append_assoc s.leaves (leaves_of (take i ss)) _)

  pub flat_insert : (ss : List (Subtree X)) (i : ℕ) (t u : Subtree X) → i < length ss
      → leaves_of (insert (set ss i t) (i + 1) u) ≡ leaves_of (take i ss) ++ ((t.leaves ++ u.leaves) ++ leaves_of (drop (suc i) ss))
  flat_insert ss i t u l = rw add-one (flat_insert_suc ss i t u l)

  pub front_set : (ss : List (Subtree X)) (i : ℕ) (t : Subtree X) → t.height ≡ (nth_tree ss i).height → front (set ss i t) ≡ front ss
  front_set [] i t e = refl
  front_set (s ∷ ss) zero t e = e
  front_set (s ∷ ss) (suc i) t e = refl

module _ {X : Type 0} (P : X → Type 0) where
  pub all_append : (xs ys : List X) → AllOf P xs → AllOf P ys → AllOf P (xs ++ ys)
  all_append [] ys a b = b
  all_append (x ∷ xs) ys a b = (a.0, all_append xs ys a.1 b)

  pub all_left : (xs ys : List X) → AllOf P (xs ++ ys) → AllOf P xs
  all_left [] ys a = tt
  all_left (x ∷ xs) ys a = (a.0, all_left xs ys a.1)

  pub all_right : (xs ys : List X) → AllOf P (xs ++ ys) → AllOf P ys
  all_right [] ys a = a
  all_right (x ∷ xs) ys a = all_right xs ys a.1

  pub full_at : (h : ℕ) (ss : List (Subtree X)) (i : ℕ) → AreFull P h ss → i < length ss → IsFull P h (nth_tree ss i)
  full_at h [] i a l = absurd (omega arith)
  full_at h (s ∷ ss) zero a l = a.0
  full_at h (s ∷ ss) (suc i) a l = full_at h ss i a.1 (omega arith)

  pub full_set : (h : ℕ) (ss : List (Subtree X)) (i : ℕ) (t : Subtree X) → AreFull P h ss → IsFull P h t → AreFull P h (set ss i t)
  full_set h [] i t a f = a
  full_set h (s ∷ ss) zero t a f = (f, a.1)
  full_set h (s ∷ ss) (suc i) t a f = (a.0, full_set h ss i t a.1 f)

  pub full_insert : (h : ℕ) (ss : List (Subtree X)) (i : ℕ) (t : Subtree X) → AreFull P h ss → IsFull P h t → AreFull P h (insert ss i t)
  full_insert h [] zero t a f = (f, tt)
  full_insert h [] (suc i) t a f = (f, tt)
  full_insert h (s ∷ ss) zero t a f = (f, a)
  full_insert h (s ∷ ss) (suc i) t a f = (a.0, full_insert h ss i t a.1 f)

  pub full_left : (h : ℕ) (ss ts : List (Subtree X)) → AreFull P h (ss ++ ts) → AreFull P h ss
  full_left h [] ts a = tt
  full_left h (s ∷ ss) ts a = (a.0, full_left h ss ts a.1)

  pub full_right : (h : ℕ) (ss ts : List (Subtree X)) → AreFull P h (ss ++ ts) → AreFull P h ts
  full_right h [] ts a = a
  full_right h (s ∷ ss) ts a = full_right h ss ts a.1

  pub full_both : (h : ℕ) (ss ts : List (Subtree X)) → AreFull P h ss → AreFull P h ts → AreFull P h (ss ++ ts)
  full_both h [] ts a b = b
  full_both h (s ∷ ss) ts a b = (a.0, full_both h ss ts a.1 b)

  pub front_is : (h : ℕ) (ss : List (Subtree X)) → AreFull P h ss → 0 < length ss → front ss ≡ h
  front_is h [] a l = absurd (omega arith)
  front_is h (s ∷ ss) a l = a.0.height

  pub full_front : (h : ℕ) (ss : List (Subtree X)) → AreFull P h ss → AreFull P (front ss) ss
  full_front h [] a = tt
  full_front h (s ∷ ss) a = subst (λ n. AreFull P n (s ∷ ss)) (sym a.0.height) a

  pub flat_all : (h : ℕ) (ss : List (Subtree X)) → AreFull P h ss → AllOf P (leaves_of ss)
  flat_all h [] a = tt
  flat_all h (s ∷ ss) a = all_append s.leaves (leaves_of ss) a.0.all (flat_all h ss a.1)

  pub flat_some : (h : ℕ) (ss : List (Subtree X)) → AreFull P h ss → 0 < length ss → 0 < length (leaves_of ss)
  flat_some h [] a l = absurd (omega arith)
  flat_some h (s ∷ ss) a l = omega (arith, a.0.some, length-append s.leaves (leaves_of ss))

  mul-next : (a b : ℕ) → (a + 1) * b ≡ a * b + b
  mul-next a b = omega arith

  -- A node has as many leaves as its height wants.
  pub flat_bound : (h : ℕ) (ss : List (Subtree X)) → AreFull P h ss → length ss * 5 ^ h ≤ 5 * length (leaves_of ss)
  flat_bound h [] a = omega arith
  flat_bound h (s ∷ ss) a =
      let e : (length ss + 1) * 5 ^ h ≡ length ss * 5 ^ h + 5 ^ h = mul-next (length ss) (5 ^ h) in
      omega (arith, a.0.bound, e, flat_bound h ss a.1, length-append s.leaves (leaves_of ss))

  mul-mono : (a b c : ℕ) → a ≤ b → a * c ≤ b * c
  mul-mono a b zero l = omega arith
  mul-mono a b (suc c) l = omega (arith, mul-mono a b c l)

  power-next : (h : ℕ) → 5 ^ (h + 1) ≡ 5 * 5 ^ h
  power-next h = rw add-one (omega arith)

  -- The inner nodes, and all nodes.
  pub flat_few : (h : ℕ) (ss : List (Subtree X)) → AreFull P h ss → 4 * length (sizes_of ss) + length ss ≤ length (leaves_of ss)
  flat_few h [] a = omega arith
  flat_few h (s ∷ ss) a = omega (arith, a.0.few, flat_few h ss a.1, length-append s.leaves (leaves_of ss), length-append s.sizes (sizes_of ss))

  flat_most : (h : ℕ) (ss : List (Subtree X)) → AreFull P h ss → 15 * (length (sizes_of ss) + length (leaves_of ss)) + length ss ≤ length ss * 16 ^ h
  flat_most h [] a = omega arith
  flat_most h (s ∷ ss) a =
      let e : (length ss + 1) * 16 ^ h ≡ length ss * 16 ^ h + 16 ^ h = mul-next (length ss) (16 ^ h) in
      omega (arith, a.0.most, e, flat_most h ss a.1, length-append s.leaves (leaves_of ss), length-append s.sizes (sizes_of ss))

  pub over_few : (h : ℕ) (ss : List (Subtree X)) → AreFull P h ss → 5 ≤ length ss → 4 * length (over ss).sizes + 1 ≤ length (over ss).leaves
  over_few h ss a l = omega (arith, flat_few h ss a, l)

  -- 16 children have as many nodes as fit below a node.
  pub over_most : (h : ℕ) (ss : List (Subtree X)) → AreFull P h ss → length ss ≤ 16 → 15 * (length (over ss).sizes + length (over ss).leaves) + 1 ≤ 16 ^ (h + 1)
  over_most h ss a l =
      let r = flat_most h ss a in
      let m : length ss * 16 ^ h + (16 - length ss) * 16 ^ h ≡ 16 * 16 ^ h = merge (length ss) (16 - length ss) (16 ^ h) ∙ ap (λ k. k * 16 ^ h) (omega (arith, l)) in
      let o : (16 - length ss) * 1 ≤ (16 - length ss) * 16 ^ h = mul-le-mul (omega arith) (pow_some h) in
      let p : 16 ^ (h + 1) ≡ 16 * 16 ^ h = rw add-one (omega (arith, pow-suc 16 h)) in
      omega (arith, r, m, o, p, l)
    where
      merge : (a b x : ℕ) → a * x + b * x ≡ (a + b) * x
      merge a b x = omega arith

      pow_some : (h : ℕ) → 1 ≤ 16 ^ h
      pow_some zero = lit≤ tt
      pow_some (suc h) = omega (arith, pow_some h, pow-suc 16 h)

  pub full_over : (h : ℕ) (ss : List (Subtree X)) → AreFull P h ss → 5 ≤ length ss → length ss ≤ 16 → IsFull P (h + 1) (over ss)
  full_over h ss a l m = record {
    height = ap (λ n. n + 1) (front_is h ss a (omega arith));
    high = omega arith;
    fan = λ k. l;
    bound = omega (arith, power-next h, mul-mono 5 (length ss) (5 ^ h) l, flat_bound h ss a);
    few = over_few h ss a l;
    most = over_most h ss a m;
    some = flat_some h ss a (omega arith);
    all = flat_all h ss a;
  }

module _ {X : Type 0} (en : X → Entry) where
  pub entry-append : (xs ys : List X) → 0 < length xs → leaves_entry en (xs ++ ys) ≡ joined (leaves_entry en xs) (leaves_entry en ys)
  entry-append [] ys l = absurd (omega arith)
  entry-append (x ∷ []) ys l = ap (λ e. joined e (leaves_entry en ys)) (joined-none (en x))
  entry-append (x ∷ y ∷ xs) ys l =
      ap (joined (en x)) (entry-append (y ∷ xs) ys (omega arith)) ∙ joined-assoc (en x) (leaves_entry en (y ∷ xs)) (leaves_entry en ys)

  pub sum-entries : (P : X → Type 0) (h : ℕ) (ss : List (Subtree X)) → AreFull P h ss → sum_of (map (entry_of en) ss) ≡ leaves_entry en (leaves_of ss)
  sum-entries P h [] a = refl
  sum-entries P h (s ∷ ss) a = ap (joined (entry_of en s)) (sum-entries P h ss a.1) ∙ sym (entry-append s.leaves (leaves_of ss) a.0.some)

  pub length-entries : (ss : List (Subtree X)) → length (map (entry_of en) ss) ≡ length ss
  length-entries [] = refl
  length-entries (s ∷ ss) = omega (arith, length-entries ss)

  pub at-entries : (ss : List (Subtree X)) (i : ℕ) → i < length ss → (nth (map (entry_of en) ss) i).at ≡ (entry_of en (nth_tree ss i)).at
  at-entries [] i l = absurd (omega arith)
  at-entries (s ∷ ss) zero l = refl
  at-entries (s ∷ ss) (suc i) l = at-entries ss i (omega arith)

  pub nth-entries : (ss : List (Subtree X)) (i : ℕ) → i < length ss → nth (map (entry_of en) ss) i ≡ entry_of en (nth_tree ss i)
  nth-entries [] i l = absurd (omega arith)
  nth-entries (s ∷ ss) zero l = refl
  nth-entries (s ∷ ss) (suc i) l = nth-entries ss i (omega arith)

  -- The addresses of subtrees do not descend.
  from_right : (z : ℕ) (xs ys : List X) → AreFrom en z (xs ++ ys) → AreFrom en z ys
  from_right z [] ys b = b
  from_right z (x ∷ xs) ys b = from_right z xs ys b.1

  from_head : (z : ℕ) (xs ys : List X) → 0 < length xs → AreFrom en z (xs ++ ys) → z ≤ (leaves_entry en xs).at
  from_head z [] ys l b = absurd (omega arith)
  from_head z (x ∷ xs) ys l b = b.0

  from_left : (z : ℕ) (xs ys : List X) → AreFrom en z (xs ++ ys) → AreFrom en z xs
  from_left z [] ys b = tt
  from_left z (x ∷ xs) ys b = (b.0, from_left z xs ys b.1)

  pub ascend_right : (xs ys : List X) → Ascend en (xs ++ ys) → Ascend en ys
  ascend_right [] ys r = r
  ascend_right (x ∷ xs) ys r = ascend_right xs ys r.1

  pub ascend_left : (xs ys : List X) → Ascend en (xs ++ ys) → Ascend en xs
  ascend_left [] ys r = tt
  ascend_left (x ∷ xs) ys r = (from_left (en x).at xs ys r.0, ascend_left xs ys r.1)

  from_flat : (P : X → Type 0) (z h : ℕ) (ss : List (Subtree X)) (j : ℕ) → AreFull P h ss → AreFrom en z (leaves_of ss) → j < length ss
      → z ≤ (entry_of en (nth_tree ss j)).at
  from_flat P z h [] j a b l = absurd (omega arith)
  from_flat P z h (s ∷ ss) zero a b l = from_head z s.leaves (leaves_of ss) a.0.some b
  from_flat P z h (s ∷ ss) (suc j) a b l = from_flat P z h ss j a.1 (from_right z s.leaves (leaves_of ss) b) (omega arith)

  first_from : (xs ys : List X) → 0 < length xs → Ascend en (xs ++ ys) → AreFrom en (leaves_entry en xs).at ys
  first_from [] ys l r = absurd (omega arith)
  first_from (x ∷ xs) ys l r = from_right (en x).at xs ys r.0

  pub firsts : (P : X → Type 0) (h : ℕ) (ss : List (Subtree X)) (i j : ℕ) → AreFull P h ss → Ascend en (leaves_of ss) → i ≤ j → j < length ss
      → (entry_of en (nth_tree ss i)).at ≤ (entry_of en (nth_tree ss j)).at
  firsts P h [] i j a r l m = absurd (omega arith)
  firsts P h (s ∷ ss) zero zero a r l m = omega arith
  firsts P h (s ∷ ss) zero (suc j) a r l m =
      from_flat P (entry_of en s).at h ss j a.1 (first_from s.leaves (leaves_of ss) a.0.some r) (omega arith)
  firsts P h (s ∷ ss) (suc i) zero a r l m = absurd (omega arith)
  firsts P h (s ∷ ss) (suc i) (suc j) a r l m = firsts P h ss i j a.1 (ascend_right s.leaves (leaves_of ss) r) (omega arith) (omega arith)

  pub ascends : (P : X → Type 0) (es : List Entry) (ss : List (Subtree X)) (h i j : ℕ) → es ≡ map (entry_of en) ss → AreFull P h ss
      → Ascend en (leaves_of ss) → 0 < i → i ≤ j → j < length es → (nth es i).at ≤ (nth es j).at
  ascends P es ss h i j e a r p q l =
      let n : length es ≡ length ss = ap length e ∙ length-entries ss in
      let x : (nth es i).at ≡ (entry_of en (nth_tree ss i)).at = ap (λ zs. (nth zs i).at) e ∙ at-entries ss i (omega (arith, n)) in
      let y : (nth es j).at ≡ (entry_of en (nth_tree ss j)).at = ap (λ zs. (nth zs j).at) e ∙ at-entries ss j (omega (arith, n)) in
      omega (arith, x, y, firsts P h ss i j a r q (omega (arith, n)))

  pub child_ascends : (i : ℕ) (ss : List (Subtree X)) → Ascend en (leaves_of ss) → Ascend en (nth_tree ss i).leaves
  child_ascends i [] r = tt
  child_ascends zero (s ∷ ss) r = ascend_left s.leaves (leaves_of ss) r
  child_ascends (suc i) (s ∷ ss) r = child_ascends i ss (ascend_right s.leaves (leaves_of ss) r)

  before_append : (key : ℕ) (xs ys : List X) → 0 < length xs → key < (leaves_entry en xs).at → IsBefore en key (xs ++ ys)
  before_append key [] ys l k = absurd (omega arith)
  before_append key (x ∷ xs) ys l k = k

  pub before_flat : (P : X → Type 0) (h key : ℕ) (ss : List (Subtree X)) (j : ℕ) → AreFull P h ss
      → (j < length ss → key < (entry_of en (nth_tree ss j)).at) → IsBefore en key (leaves_of (drop j ss))
  before_flat P h key [] zero a k = tt
  before_flat P h key [] (suc j) a k = tt
  before_flat P h key (s ∷ ss) zero a k = before_append key s.leaves (leaves_of ss) a.0.some (k (omega arith))
  before_flat P h key (s ∷ ss) (suc j) a k = before_flat P h key ss j a.1 (λ l. k (omega arith))
