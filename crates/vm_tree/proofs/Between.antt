-- The leaves between two addresses.
use Rattle.std.proofs.Common.{◌≡◌, ℕ, ◌-◌, ◌≤◌, ◌<◌, List, [], ◌∷◌, ◌++◌, length, Bool, true, false, nat_le, Option, Some, None, ◌∙◌, sym, refl, ap, subst, arith, inl, inr, append_assoc, length-append}
use Rattle.std.proofs.lemmas.Bool.{cases_lt, le-leb, lt-leb}
use Rattle.std.proofs.lemmas.List.{append-nil, append_cancel_left}
use Rattle.vm_tree.specs.Entry.{Entry}
use Rattle.vm_tree.specs.Subtree.{AllOf, AreFrom, Ascend}
use Rattle.vm_tree.specs.Edits.{IsBefore}
use Rattle.vm_tree.specs.Walks.{IsFrom, start_or}
use Rattle.vm_tree.specs.Between.{kept, Rise, from_on, up_to, left_of, Has, IsWalk, IsFirstLeft, IsLastLeft, IsWhole, AreBetween, IsBetween}

module _ {X : Type 0} where
  all_left : (P : X → Type 0) (xs ys : List X) → AllOf P (xs ++ ys) → AllOf P xs
  all_left P [] ys a = tt
  all_left P (x ∷ xs) ys a = (a.0, all_left P xs ys a.1)

  all_right : (P : X → Type 0) (xs ys : List X) → AllOf P (xs ++ ys) → AllOf P ys
  all_right P [] ys a = a
  all_right P (x ∷ xs) ys a = all_right P xs ys a.1

  all_both : (P : X → Type 0) (xs ys : List X) → AllOf P xs → AllOf P ys → AllOf P (xs ++ ys)
  all_both P [] ys a b = b
  all_both P (x ∷ xs) ys a b = (a.0, all_both P xs ys a.1 b)

  weaker : (P Q : X → Type 0) → ((x : X) → P x → Q x) → (xs : List X) → AllOf P xs → AllOf Q xs
  weaker P Q f [] a = tt
  weaker P Q f (x ∷ xs) a = (f x a.0, weaker P Q f xs a.1)

  kept-append : (b : Bool) (x : X) (xs ys : List X) → kept b x xs ++ ys ≡ kept b x (xs ++ ys)
  kept-append true x xs ys = refl
  kept-append false x xs ys = refl

  all_kept : (P : X → Type 0) (b : Bool) (x : X) (xs : List X) → P x → AllOf P xs → AllOf P (kept b x xs)
  all_kept P true x xs p a = (p, a)
  all_kept P false x xs p a = a

abbrev value : Option ℕ → ℕ
value None = 0
value (Some n) = n

abbrev size : Option ℕ → ℕ
size None = 0
size (Some n) = 1

no_some : (n : ℕ) → Some n ≡ None → ⊥
no_some n e = absurd (omega (arith, ap size e))

module _ {X : Type 0} (en : X → Entry) where
  at : X → ℕ
  at x = (en x).at

  rise_right : (xs ys : List X) → Rise en (xs ++ ys) → Rise en ys
  rise_right [] ys r = r
  rise_right (x ∷ xs) ys r = rise_right xs ys r.1

  -- All before a leaf are below it.
  below : (bs : List X) (x : X) (zs : List X) → Rise en (bs ++ x ∷ zs) → AllOf (λ y. (en y).at < (en x).at) bs
  below [] x zs r = tt
  below (b ∷ bs) x zs r = ((all_right (λ y. (en b).at < (en y).at) bs (x ∷ zs) r.0).0, below bs x zs r.1)

  pub rise_ascend : (xs : List X) → Rise en xs → Ascend en xs
  rise_ascend [] r = tt
  rise_ascend (x ∷ xs) r = (from (en x).at xs r.0, rise_ascend xs r.1)
    where
      from : (z : ℕ) (ys : List X) → AllOf (λ y. z < (en y).at) ys → AreFrom en z ys
      from z [] a = tt
      from z (y ∷ ys) a = (omega (arith, a.0), from z ys a.1)

  over : (key : ℕ) (zs : List X) → Rise en zs → IsBefore en key zs → AllOf (λ y. key < (en y).at) zs
  over key [] r b = tt
  over key (a ∷ zs) r b = (b, weaker (λ y. (en a).at < (en y).at) (λ y. key < (en y).at) (λ y l. omega (arith, l, b)) zs r.0)

  from_append : (lo : ℕ) (xs ys : List X) → from_on en lo (xs ++ ys) ≡ from_on en lo xs ++ from_on en lo ys
  from_append lo [] ys = refl
  from_append lo (x ∷ xs) ys =
      ap (kept (nat_le lo (en x).at) x) (from_append lo xs ys) ∙ sym (kept-append (nat_le lo (en x).at) x (from_on en lo xs) (from_on en lo ys))

  from_all : (lo : ℕ) (xs : List X) → AllOf (λ y. lo ≤ (en y).at) xs → from_on en lo xs ≡ xs
  from_all lo [] a = refl
  from_all lo (x ∷ xs) a = ap (λ b. kept b x (from_on en lo xs)) (le-leb lo (en x).at a.0) ∙ ap (λ l. x ∷ l) (from_all lo xs a.1)

  from_none : (lo : ℕ) (xs : List X) → AllOf (λ y. (en y).at < lo) xs → from_on en lo xs ≡ []
  from_none lo [] a = refl
  from_none lo (x ∷ xs) a = ap (λ b. kept b x (from_on en lo xs)) (lt-leb lo (en x).at a.0) ∙ from_none lo xs a.1

  from_keeps : (P : X → Type 0) (lo : ℕ) (xs : List X) → AllOf P xs → AllOf P (from_on en lo xs)
  from_keeps P lo [] a = tt
  from_keeps P lo (x ∷ xs) a = all_kept P (nat_le lo (en x).at) x (from_on en lo xs) a.0 (from_keeps P lo xs a.1)

  from_least : (lo : ℕ) (xs : List X) → AllOf (λ y. lo ≤ (en y).at) (from_on en lo xs)
  from_least lo [] = tt
  from_least lo (x ∷ xs) = elim (cases_lt (en x).at lo) [
    | inl p ↦ subst (λ b. AllOf (λ y. lo ≤ (en y).at) (kept b x (from_on en lo xs))) (sym (lt-leb lo (en x).at p)) (from_least lo xs)
    | inr p ↦ subst (λ b. AllOf (λ y. lo ≤ (en y).at) (kept b x (from_on en lo xs))) (sym (le-leb lo (en x).at p)) (p, from_least lo xs)
  ]

  up_append : (hi : ℕ) (xs ys : List X) → up_to en hi (xs ++ ys) ≡ up_to en hi xs ++ up_to en hi ys
  up_append hi [] ys = refl
  up_append hi (x ∷ xs) ys =
      ap (kept (nat_le (en x).at hi) x) (up_append hi xs ys) ∙ sym (kept-append (nat_le (en x).at hi) x (up_to en hi xs) (up_to en hi ys))

  up_all : (hi : ℕ) (xs : List X) → AllOf (λ y. (en y).at ≤ hi) xs → up_to en hi xs ≡ xs
  up_all hi [] a = refl
  up_all hi (x ∷ xs) a = ap (λ b. kept b x (up_to en hi xs)) (le-leb (en x).at hi a.0) ∙ ap (λ l. x ∷ l) (up_all hi xs a.1)

  up_none : (hi : ℕ) (xs : List X) → AllOf (λ y. hi < (en y).at) xs → up_to en hi xs ≡ []
  up_none hi [] a = refl
  up_none hi (x ∷ xs) a = ap (λ b. kept b x (up_to en hi xs)) (lt-leb (en x).at hi a.0) ∙ up_none hi xs a.1

  -- Nothing is left between addresses that crossed.
  pub crossed : (lo hi : ℕ) (xs : List X) → hi < lo → left_of en lo hi xs ≡ []
  crossed lo hi xs l = up_none hi (from_on en lo xs) (weaker (λ y. lo ≤ (en y).at) (λ y. hi < (en y).at) (λ y p. omega (arith, p, l)) (from_on en lo xs) (from_least lo xs))

  -- A fact of all leaves is one of the leaf with this address.
  has : (P : X → Type 0) (n : ℕ) (xs : List X) (h : Has en n xs) → AllOf P xs → P h.leaf
  has P n xs h a = (all_right P h.before (h.leaf ∷ h.after) (subst (AllOf P) h.is a)).0

  pub not_empty : (n : ℕ) (xs : List X) → Has en n xs → xs ≡ [] → ⊥
  not_empty n xs h e = none h.before h.leaf h.after (sym h.is ∙ e)
    where
      none : (bs : List X) (x : X) (zs : List X) → bs ++ x ∷ zs ≡ [] → ⊥
      none [] x zs e = absurd (omega (arith, ap length e))
      none (b ∷ bs) x zs e = absurd (omega (arith, ap length e))

  pub done : (xs : List X) → Rise en xs → IsWalk en 1 0 xs
  done xs r = record { rise = r; low = λ l. absurd (omega (arith, l)); high = λ l. absurd (omega (arith, l)) }

  -- A leaf to which a key belongs.
  module _ (key : ℕ) (xs : List X) (r : Rise en xs) (leaf : X) (next : Option ℕ) (s : IsFrom en key None xs leaf next) where
    rise : Rise en (s.before ++ leaf ∷ s.after)
    rise = subst (Rise en) s.home.was r

    lower : AllOf (λ y. (en y).at < (en leaf).at) s.before
    lower = below s.before leaf s.after rise

    rest : Rise en (leaf ∷ s.after)
    rest = rise_right s.before (leaf ∷ s.after) rise

    higher : AllOf (λ y. key < (en y).at) s.after
    higher = over key s.after rest.1 s.home.here.high

    some_low : (bs : List X) → AllOf (λ y. (en y).at < (en leaf).at) bs → (0 < length bs → (en leaf).at ≤ key) → AllOf (λ y. (en y).at < key) bs
    some_low [] a l = tt
    some_low (b ∷ bs) a l = weaker (λ y. (en y).at < (en leaf).at) (λ y. (en y).at < key) (λ y p. omega (arith, p, l (omega arith))) (b ∷ bs) a

    -- If a leaf has the key zs its address, then it is this one.
    pub exact : Has en key xs → (en leaf).at ≡ key
    exact h = has (λ y. (en y).at ≡ key → (en leaf).at ≡ key) key xs h
        (subst (AllOf (λ y. (en y).at ≡ key → (en leaf).at ≡ key)) (sym s.home.was)
        (all_both (λ y. (en y).at ≡ key → (en leaf).at ≡ key) s.before (leaf ∷ s.after)
        (weaker (λ y. (en y).at < key) (λ y. (en y).at ≡ key → (en leaf).at ≡ key) (λ y p e. absurd (omega (arith, p, e))) s.before
        (some_low s.before lower s.home.here.low))
        (λ e. e, weaker (λ y. key < (en y).at) (λ y. (en y).at ≡ key → (en leaf).at ≡ key) (λ y p e. absurd (omega (arith, p, e))) s.after higher)))
        h.at

    pub here : Has en (en leaf).at xs
    here = record { before = s.before; leaf = leaf; after = s.after; is = s.home.was; at = refl }

    -- The leaves from this one on, and those up to it.
    from_own : from_on en (en leaf).at xs ≡ leaf ∷ s.after
    from_own =
        let n = (en leaf).at in
        ap (from_on en n) s.home.was ∙ from_append n s.before (leaf ∷ s.after)
        ∙ ap (λ l. l ++ from_on en n (leaf ∷ s.after)) (from_none n s.before lower)
        ∙ from_all n (leaf ∷ s.after) (omega arith, weaker (λ y. n < (en y).at) (λ y. n ≤ (en y).at) (λ y p. omega (arith, p)) s.after rest.0)

    up_own : up_to en (en leaf).at xs ≡ s.before ++ leaf ∷ []
    up_own =
        let n = (en leaf).at in
        ap (up_to en n) s.home.was ∙ up_append n s.before (leaf ∷ s.after)
        ∙ ap (λ l. l ++ up_to en n (leaf ∷ s.after)) (up_all n s.before (weaker (λ y. (en y).at < n) (λ y. (en y).at ≤ n) (λ y p. omega (arith, p)) s.before lower))
        ∙ ap (λ b. s.before ++ kept b leaf (up_to en n s.after)) (le-leb n n (omega arith))
        ∙ ap (λ l. s.before ++ leaf ∷ l) (up_none n s.after rest.0)

    pub from_here : Has en key xs → from_on en key xs ≡ leaf ∷ s.after
    from_here h = ap (λ k. from_on en k xs) (sym (exact h)) ∙ from_own

    first_rest : (hi : ℕ) → key ≤ hi → Has en key xs → left_of en key hi xs ≡ leaf ∷ up_to en hi s.after
    first_rest hi l h =
        ap (up_to en hi) (from_here h) ∙ ap (λ b. kept b leaf (up_to en hi s.after)) (le-leb (en leaf).at hi (omega (arith, exact h, l)))

    -- The first leaf was taken, and there is none after it.
    pub first_last : (hi : ℕ) → key ≤ hi → Has en key xs → next ≡ None → IsFirstLeft en key hi xs leaf 1 0
    first_last hi l h n = record {
      walk = done xs r;
      is = first_rest hi l h ∙ ap (λ l. leaf ∷ l) (go s.after (sym s.is ∙ n) ∙ sym (crossed 1 0 xs (omega arith)));
    }
      where
        go : (zs : List X) → start_or en zs None ≡ None → up_to en hi zs ≡ []
        go [] e = refl
        go (a ∷ zs) e = absurd (no_some (en a).at e)

    -- The first leaf was taken, and the next one has the address m.
    pub first_next : (hi m : ℕ) → key ≤ hi → Has en key xs → (key ≤ hi → Has en hi xs) → next ≡ Some m → IsFirstLeft en key hi xs leaf m hi
    first_next hi m l h k n = go s.after refl
      where
        some : (a b : ℕ) → Some a ≡ Some b → a ≡ b
        some a b e = ap value e

        go : (zs : List X) → s.after ≡ zs → IsFirstLeft en key hi xs leaf m hi
        go [] e = absurd (no_some m (sym (sym (ap (λ l. start_or en l None) e) ∙ sym s.is ∙ n)))
        go (a ∷ zs) e =
            let w : xs ≡ s.before ++ leaf ∷ a ∷ zs = s.home.was ∙ ap (λ l. s.before ++ leaf ∷ l) e in
            let v : (en a).at ≡ m = some (en a).at m (sym (ap (λ l. start_or en l None) e) ∙ sym s.is ∙ n) in
            let q : Rise en (leaf ∷ a ∷ zs) = subst (λ l. Rise en (leaf ∷ l)) e rest in
            let x = exact h in
            let t : xs ≡ (s.before ++ leaf ∷ []) ++ a ∷ zs = w ∙ sym (append_assoc s.before (leaf ∷ []) (a ∷ zs)) in
            let u : from_on en m xs ≡ a ∷ zs =
            ap (from_on en m) t ∙ from_append m (s.before ++ leaf ∷ []) (a ∷ zs)
            ∙ ap (λ l. l ++ from_on en m (a ∷ zs)) (from_none m (s.before ++ leaf ∷ [])
            (all_both (λ y. (en y).at < m) s.before (leaf ∷ []) (weaker (λ y. (en y).at < (en leaf).at) (λ y. (en y).at < m) (λ y p. omega (arith, p, q.0.0, v)) s.before lower)
            (omega (arith, q.0.0, v), tt)))
            ∙ from_all m (a ∷ zs) (omega (arith, v), weaker (λ y. (en a).at < (en y).at) (λ y. m ≤ (en y).at) (λ y p. omega (arith, p, v)) zs q.1.0) in
            record {
              walk = record {
                rise = r;
                low = λ _. record { before = s.before ++ leaf ∷ []; leaf = a; after = zs; is = t; at = v };
                high = λ _. k l;
              };
              is = first_rest hi l h ∙ ap (λ l. leaf ∷ up_to en hi l) (e ∙ sym u);
            }

    -- The leaves before this one are left.
    last_rest : (lo : ℕ) → lo ≤ key → Has en key xs → left_of en lo key xs ≡ from_on en lo s.before ++ leaf ∷ []
    last_rest lo l h =
        let e = exact h in
        ap (left_of en lo key) s.home.was ∙ ap (up_to en key) (from_append lo s.before (leaf ∷ s.after))
        ∙ up_append key (from_on en lo s.before) (from_on en lo (leaf ∷ s.after))
        ∙ ap (λ l. l ++ up_to en key (from_on en lo (leaf ∷ s.after))) (up_all key (from_on en lo s.before)
        (from_keeps (λ y. (en y).at ≤ key) lo s.before (weaker (λ y. (en y).at < (en leaf).at) (λ y. (en y).at ≤ key) (λ y p. omega (arith, p, e)) s.before lower)))
        ∙ ap (λ l. from_on en lo s.before ++ up_to en key l) (from_all lo (leaf ∷ s.after)
        (omega (arith, e, l), weaker (λ y. key < (en y).at) (λ y. lo ≤ (en y).at) (λ y p. omega (arith, p, l)) s.after higher))
        ∙ ap (λ b. from_on en lo s.before ++ kept b leaf (up_to en key s.after)) (le-leb (en leaf).at key (omega (arith, e)))
        ∙ ap (λ l. from_on en lo s.before ++ leaf ∷ l) (up_none key s.after higher)

    -- The last leaf was taken, and it was the only one.
    pub last_alone : (lo : ℕ) → lo ≡ key → Has en key xs → IsLastLeft en lo key xs leaf 1 0
    last_alone lo e h = record {
      walk = done xs r;
      is = last_rest lo (omega (arith, e)) h
          ∙ ap (λ l. l ++ leaf ∷ []) (from_none lo s.before (weaker (λ y. (en y).at < (en leaf).at) (λ y. (en y).at < lo) (λ y p. omega (arith, p, exact h, e)) s.before lower)
          ∙ sym (crossed 1 0 xs (omega arith)));
    }

    -- Each leaf with an address up to the key has at most the address of this leaf.
    nearest : AllOf (λ y. (en y).at ≤ key → (en y).at ≤ (en leaf).at) xs
    nearest = subst (AllOf (λ y. (en y).at ≤ key → (en y).at ≤ (en leaf).at)) (sym s.home.was)
        (all_both (λ y. (en y).at ≤ key → (en y).at ≤ (en leaf).at) s.before (leaf ∷ s.after)
        (weaker (λ y. (en y).at < (en leaf).at) (λ y. (en y).at ≤ key → (en y).at ≤ (en leaf).at) (λ y p q. omega (arith, p)) s.before lower)
        (λ q. omega arith, weaker (λ y. key < (en y).at) (λ y. (en y).at ≤ key → (en y).at ≤ (en leaf).at) (λ y p q. absurd (omega (arith, p, q))) s.after higher))

    -- This leaf has at most the key zs its address, if a leaf has.
    reaches : (n : ℕ) → Has en n xs → n ≤ key → (en leaf).at ≤ key
    reaches n h l = go s.before refl
      where
        go : (bs : List X) → s.before ≡ bs → (en leaf).at ≤ key
        go (b ∷ bs) e = s.home.here.low (omega (arith, ap length e))
        go [] e =
            let w : xs ≡ leaf ∷ s.after = s.home.was ∙ ap (λ l. l ++ leaf ∷ s.after) e in
            let k = has (λ y. (en leaf).at ≤ (en y).at) n xs h (subst (AllOf (λ y. (en leaf).at ≤ (en y).at)) (sym w)
            (omega arith, weaker (λ y. (en leaf).at < (en y).at) (λ y. (en leaf).at ≤ (en y).at) (λ y p. omega (arith, p)) s.after rest.0)) in
            omega (arith, k, h.at, l)

  -- The last leaf was taken, and `low` is the one before it.
  pub last_next : (lo hi : ℕ) (xs : List X) (w : IsWalk en lo hi xs) (leaf low : X) (n m : Option ℕ) (l : lo < hi) → IsFrom en hi None xs leaf n
      → IsFrom en (hi - 1) None xs low m → (p : ℕ) → p ≡ (en low).at → IsLastLeft en lo hi xs leaf lo p
  last_next lo hi xs w leaf low n m l s t p e =
      let a = reaches (hi - 1) xs w.rise low m t lo (w.low (omega (arith, l))) (omega (arith, l)) in
      let h = w.high (omega (arith, l)) in
      let x = exact hi xs w.rise leaf n s h in
      let f : AllOf (λ y. (en y).at ≤ p) s.before =
      both s.before (all_left (λ y. (en y).at ≤ hi - 1 → (en y).at ≤ (en low).at) s.before (leaf ∷ s.after)
      (subst (AllOf (λ y. (en y).at ≤ hi - 1 → (en y).at ≤ (en low).at)) s.home.was (nearest (hi - 1) xs w.rise low m t)))
      (weaker (λ y. (en y).at < (en leaf).at) (λ y. (en y).at ≤ hi - 1) (λ y q. omega (arith, q, x)) s.before (lower hi xs w.rise leaf n s)) in
      let g : left_of en lo p xs ≡ from_on en lo s.before =
      ap (left_of en lo p) s.home.was ∙ ap (up_to en p) (from_append lo s.before (leaf ∷ s.after))
      ∙ up_append p (from_on en lo s.before) (from_on en lo (leaf ∷ s.after))
      ∙ ap (λ k. k ++ up_to en p (from_on en lo (leaf ∷ s.after))) (up_all p (from_on en lo s.before) (from_keeps (λ y. (en y).at ≤ p) lo s.before f))
      ∙ ap (λ k. from_on en lo s.before ++ k) (up_none p (from_on en lo (leaf ∷ s.after)) (from_keeps (λ y. p < (en y).at) lo (leaf ∷ s.after)
      (omega (arith, a, x, e, l), weaker (λ y. hi < (en y).at) (λ y. p < (en y).at) (λ y q. omega (arith, q, a, e, l)) s.after (higher hi xs w.rise leaf n s))))
      ∙ append-nil (from_on en lo s.before) in
      record {
        walk = record {
          rise = w.rise;
          low = λ _. w.low (omega (arith, l));
          high = λ _. subst (λ k. Has en k xs) (sym e) (here (hi - 1) xs w.rise low m t);
        };
        is = last_rest hi xs w.rise leaf n s lo (omega (arith, l)) h ∙ ap (λ k. k ++ leaf ∷ []) (sym g);
      }
    where
      both : (bs : List X) → AllOf (λ y. (en y).at ≤ hi - 1 → (en y).at ≤ (en low).at) bs → AllOf (λ y. (en y).at ≤ hi - 1) bs → AllOf (λ y. (en y).at ≤ p) bs
      both [] f g = tt
      both (b ∷ bs) f g = (omega (arith, f.0 g.0, e), both bs f.1 g.1)

  -- All leaves are left.
  pub whole_some : (top : ℕ) (xs : List X) (r : Rise en xs) (low high : X) (n m : Option ℕ) → IsFrom en 0 None xs low n → IsFrom en top None xs high m → m ≡ None
      → (lo hi : ℕ) → lo ≡ (en low).at → hi ≡ (en high).at → IsWhole en xs lo hi
  whole_some top xs r low high n m s t e lo hi p q = record {
    walk = record {
      rise = r;
      low = λ _. subst (λ k. Has en k xs) (sym p) (here 0 xs r low n s);
      high = λ _. subst (λ k. Has en k xs) (sym q) (here top xs r high m t);
    };
    is = ap (up_to en hi) (from_all lo xs least) ∙ up_all hi xs most;
  }
    where
      none_before : (bs : List X) → AllOf (λ y. (en y).at < (en low).at) bs → (0 < length bs → (en low).at ≤ 0) → bs ≡ []
      none_before [] a l = refl
      none_before (b ∷ bs) a l = absurd (omega (arith, a.0, l (omega arith)))

      first : s.before ≡ []
      first = none_before s.before (lower 0 xs r low n s) s.home.here.low

      least : AllOf (λ y. lo ≤ (en y).at) xs
      least = subst (AllOf (λ y. lo ≤ (en y).at)) (sym (s.home.was ∙ ap (λ l. l ++ low ∷ s.after) first))
          (omega (arith, p), weaker (λ y. (en low).at < (en y).at) (λ y. lo ≤ (en y).at) (λ y k. omega (arith, k, p)) s.after (rest 0 xs r low n s).0)

      none_after : (zs : List X) → start_or en zs None ≡ None → zs ≡ []
      none_after [] e = refl
      none_after (a ∷ zs) e = absurd (no_some (en a).at e)

      most : AllOf (λ y. (en y).at ≤ hi) xs
      most = subst (AllOf (λ y. (en y).at ≤ hi)) (sym (t.home.was ∙ ap (λ l. t.before ++ high ∷ l) (none_after t.after (sym t.is ∙ e))))
          (all_both (λ y. (en y).at ≤ hi) t.before (high ∷ [])
          (weaker (λ y. (en y).at < (en high).at) (λ y. (en y).at ≤ hi) (λ y k. omega (arith, k, q)) t.before (lower top xs r high m t)) (omega (arith, q), tt))

  -- The leaves between those of two keys are left.
  module _ (lo hi : ℕ) (xs : List X) (r : Rise en xs) (l : lo ≤ hi) (first last : X) (n m : Option ℕ)
      (s : IsFrom en lo None xs first n) (t : IsFrom en hi None xs last m) where
    order : (en first).at ≤ (en last).at
    unfolding here
    order = go s.before refl
      where
        go : (bs : List X) → s.before ≡ bs → (en first).at ≤ (en last).at
        go (b ∷ bs) e =
            has (λ y. (en y).at ≤ hi → (en y).at ≤ (en last).at) (en first).at xs (here lo xs r first n s) (nearest hi xs r last m t)
            (let k = s.home.here.low (omega (arith, ap length e)) in omega (arith, k, l))
        go [] e =
            let w : xs ≡ first ∷ s.after = s.home.was ∙ ap (λ l. l ++ first ∷ s.after) e in
            has (λ y. (en first).at ≤ (en y).at) (en last).at xs (here hi xs r last m t) (subst (AllOf (λ y. (en first).at ≤ (en y).at)) (sym w)
            (omega arith, weaker (λ y. (en first).at < (en y).at) (λ y. (en first).at ≤ (en y).at) (λ y p. omega (arith, p)) s.after (rest lo xs r first n s).0))

    abbrev these : List X
    these = left_of en (en first).at (en last).at xs

    up_parted : up_to en (en last).at xs ≡ s.before ++ these
    up_parted =
        let k = (en last).at in
        ap (up_to en k) (s.home.was ∙ ap (λ l. s.before ++ l) (sym (from_own lo xs r first n s)))
        ∙ up_append k s.before (from_on en (en first).at xs)
        ∙ ap (λ l. l ++ these) (up_all k s.before
        (weaker (λ y. (en y).at < (en first).at) (λ y. (en y).at ≤ k) (λ y p. omega (arith, p, order)) s.before (lower lo xs r first n s)))

    to_last : s.before ++ these ≡ t.before ++ last ∷ []
    to_last = sym up_parted ∙ up_own hi xs r last m t

    are_between : AreBetween en lo hi xs these
    are_between = record {
      below = s.before;
      first = first;
      rest = s.after;
      others = t.before;
      last = last;
      above = t.after;
      low = s.home;
      high = t.home;
      some = omega (
        arith,
        ap length (ap (up_to en (en last).at) (from_own lo xs r first n s)
            ∙ ap (λ b. kept b first (up_to en (en last).at s.after)) (le-leb (en first).at (en last).at order)),
      );
      from = append_cancel_left s.before (these ++ t.after) (first ∷ s.after)
          (sym (append_assoc s.before these t.after) ∙ ap (λ l. l ++ t.after) to_last ∙ append_assoc t.before (last ∷ []) t.after
          ∙ sym t.home.was ∙ s.home.was);
      to = to_last;
    }

    pub between : (from to : ℕ) → from ≡ (en first).at → to ≡ (en last).at → IsBetween en lo hi xs from to
    between from to e f = record {
      walk = record {
        rise = r;
        low = λ _. subst (λ k. Has en k xs) (sym e) (here lo xs r first n s);
        high = λ _. subst (λ k. Has en k xs) (sym f) (here hi xs r last m t);
      };
      some = λ _ _. rw (e, f) are_between;
      none = λ h. absurd (omega (arith, h, l));
      empty = λ z. absurd (omega (arith, z, ap length s.home.was, length-append s.before (first ∷ s.after)));
    }

  -- No leaf is left.
  pub none_between : (lo hi : ℕ) (xs : List X) → Rise en xs → (lo ≤ hi → length xs ≡ 0) → IsBetween en lo hi xs 1 0
  none_between lo hi xs r z =
      let c = crossed 1 0 xs (omega arith) in
      record { walk = done xs r; some = λ l s. absurd (omega (arith, z l, s)); none = λ _. c; empty = λ _. c }
