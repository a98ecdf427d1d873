-- A search that passes over the children of a node.
use Rattle.std.proofs.Common.{◌≡◌, ℕ, zero, suc, ◌+◌, ◌*◌, ◌≤◌, ◌<◌, true, false, List, [], ◌∷◌, ◌++◌, length, take, drop, map, ◌∙◌, sym, refl, ap, subst, arith, ◌⊎◌, inl, inr, take-append-drop, add-one, Bool}
use Rattle.std.proofs.Math.Nat.{mul-le-mul}
use Rattle.std.proofs.lemmas.Bool.{cases_lt}
use Rattle.std.proofs.lemmas.List.{length-append}
use Rattle.vm_tree.specs.Entry.{Entry}
use Rattle.vm_tree.specs.Rows.{nth}
use Rattle.vm_tree.specs.Subtree.{Subtree, leaves_of, sizes_of, front, entry_of, leaves_entry, nth_tree, over, AllOf, AreFull}
use Rattle.vm_tree.specs.Seeking.{Seeking, IsSeeking, total, extra}
use Rattle.vm_tree.specs.Passing.{NoneFits, IsNext, nodes_of, passed}
use Rattle.vm_tree.specs.Sought.{nodes, IsCounted, IsNearest, IsVain, IsPassing}
use Rattle.vm_tree.specs.declared.end.End.{End}
use Rattle.vm_tree.specs.declared.end.End.TheVariants.{First, Last}
use Rattle.vm_tree.proofs.Flats.{flat-append, flat_cut, all_append, full_at, length-entries, nth-entries}
use Rattle.vm_tree.proofs.Widened.{Lifts}

pub total-append : {A : Type 0} (f : A → ℕ) (xs ys : List A) → total f (xs ++ ys) ≡ total f xs + total f ys
total-append f [] ys = omega arith
total-append f (x ∷ xs) ys = omega (arith, total-append f xs ys)

-- ---- Measures of lists of subtrees that are additive
module _ {X : Type 0} where
  sizes-append : (xs ys : List (Subtree X)) → length (sizes_of (xs ++ ys)) ≡ length (sizes_of xs) + length (sizes_of ys)
  sizes-append [] ys = omega arith
  sizes-append (s ∷ xs) ys =
      omega (arith, sizes-append xs ys, length-append s.sizes (sizes_of (xs ++ ys)), length-append s.sizes (sizes_of xs))

  nodes-append : (xs ys : List (Subtree X)) → nodes_of (xs ++ ys) ≡ nodes_of xs + nodes_of ys
  nodes-append xs ys = omega (arith, sizes-append xs ys, ap length (flat-append xs ys), length-append (leaves_of xs) (leaves_of ys))

  record IsAdditive (f : List (Subtree X) → ℕ) : Type 0 where
    both : (xs ys : List (Subtree X)) → f (xs ++ ys) ≡ f xs + f ys

  nodes_additive : IsAdditive (λ ss. nodes_of ss)
  nodes_additive = record { both = nodes-append }

  weight_additive : (w : X → ℕ) → IsAdditive (λ ss. total w (leaves_of ss))
  weight_additive w = record { both = λ xs ys. ap (total w) (flat-append xs ys) ∙ total-append w (leaves_of xs) (leaves_of ys) }

  module _ (f : List (Subtree X) → ℕ) (additive : IsAdditive f) (ss : List (Subtree X)) where
    cut_whole : (i : ℕ) → f ss ≡ f (take i ss) + f (drop i ss)
    cut_whole i = ap f (sym (take-append-drop i ss)) ∙ additive.both (take i ss) (drop i ss)

    next_down : (i : ℕ) → i < length ss → f (drop i ss) ≡ f (nth_tree ss i ∷ []) + f (drop (suc i) ss)
    next_down i l = ap f (tail ss i l) ∙ additive.both (nth_tree ss i ∷ []) (drop (suc i) ss)
      where
        tail : (ss : List (Subtree X)) (i : ℕ) → i < length ss → drop i ss ≡ (nth_tree ss i ∷ []) ++ drop (suc i) ss
        tail [] i l = absurd (omega arith)
        tail (s ∷ ss) zero l = refl
        tail (s ∷ ss) (suc i) l = tail ss i (omega arith)

    next_up : (i : ℕ) → i < length ss → f (take (suc i) ss) ≡ f (take i ss) + f (nth_tree ss i ∷ [])
    next_up i l = omega (arith, cut_whole i, cut_whole (suc i), next_down i l)

    -- `take` and `drop` have more of a longer part.
    more_up : (i j : ℕ) → i ≤ j → j ≤ length ss → f (take i ss) ≤ f (take j ss)
    more_up i zero p l = let e : i ≡ 0 = omega arith in omega (arith, ap (λ m. f (take m ss)) e)
    more_up i (suc j) p l =
        elim (cases_lt i (suc j)) [
          | inl d ↦ omega (arith, more_up i j (omega arith) (omega arith), next_up j (omega arith))
          | inr d ↦ (let e : i ≡ suc j = omega arith in omega (arith, ap (λ m. f (take m ss)) e))
        ]

    more_down : (i j : ℕ) → i ≤ j → j ≤ length ss → f (drop j ss) ≤ f (drop i ss)
    more_down i j p l = omega (arith, cut_whole i, cut_whole j, more_up i j p l)

    -- The children passed over are not more than all.
    part_of : (end : End) (from to : ℕ) → f (passed end from to ss) ≤ f ss
    part_of First from to = omega (arith, cut_whole from)
    part_of Last from to = omega (arith, cut_whole to)

    distribute : (m a b : ℕ) → m * (a + b) ≡ m * a + m * b
    distribute m a b = omega arith

    -- The bound on what was passed over, after one more child.
    step_up : (m from i c d e : ℕ) → from ≤ i → i < length ss → c ≤ 1 + m * (f (take from ss) + 0) → d ≤ m * (f (nth_tree ss i ∷ []) + e) →
        c + d ≤ 1 + m * (f (take (suc i) ss) + e)
    step_up m from i c d o p l x y =
        let z : m * f (take from ss) ≤ m * f (take i ss) = mul-le-mul (omega arith) (more_up from i p (omega arith)) in
        let e : m * f (take (suc i) ss) ≡ m * f (take i ss) + m * f (nth_tree ss i ∷ []) =
        ap (λ n. m * n) (next_up i l) ∙ distribute m (f (take i ss)) (f (nth_tree ss i ∷ [])) in
        omega (arith, x, y, distribute m (f (take from ss)) 0, distribute m (f (nth_tree ss i ∷ [])) o, distribute m (f (take (suc i) ss)) o)

    step_down : (m to i c d e : ℕ) → i < to → to ≤ length ss → c ≤ 1 + m * (f (drop to ss) + 0) → d ≤ m * (f (nth_tree ss i ∷ []) + e) →
        c + d ≤ 1 + m * (f (drop i ss) + e)
    step_down m to i c d o p l x y =
        let z : m * f (drop to ss) ≤ m * f (drop (suc i) ss) = mul-le-mul (omega arith) (more_down (suc i) to (omega arith) l) in
        let e : m * f (drop i ss) ≡ m * f (nth_tree ss i ∷ []) + m * f (drop (suc i) ss) =
        ap (λ n. m * n) (next_down i (omega arith)) ∙ distribute m (f (nth_tree ss i ∷ [])) (f (drop (suc i) ss)) in
        omega (arith, x, y, distribute m (f (drop to ss)) 0, distribute m (f (nth_tree ss i ∷ [])) o, distribute m (f (drop i ss)) o)

    -- The children passed over before the child i, and the child.
    room_up : (from i : ℕ) → from ≤ i → i < length ss → f (take from ss) + f (nth_tree ss i ∷ []) ≤ f ss
    room_up from i p l = omega (arith, more_up from i p (omega arith), cut_whole i, next_down i l)

    room_down : (to i : ℕ) → i < to → to ≤ length ss → f (drop to ss) + f (nth_tree ss i ∷ []) ≤ f ss
    room_down to i p l = omega (arith, more_down (suc i) to (omega arith) l, cut_whole i, next_down i (omega arith))

    room : (end : End) (from to i : ℕ) → from ≤ i → i < to → to ≤ length ss → f (passed end from to ss) + f (nth_tree ss i ∷ []) ≤ f ss
    room First from to i p q l = room_up from i p (omega arith)
    room Last from to i p q l = room_down to i q l

  one_node : (ss : List (Subtree X)) (i : ℕ) → nodes_of (nth_tree ss i ∷ []) ≡ nodes (nth_tree ss i)
  one_node ss i = omega (arith, length-append (nth_tree ss i).sizes [], length-append (nth_tree ss i).leaves [])

  one_weight : (w : X → ℕ) (ss : List (Subtree X)) (i : ℕ) → total w (leaves_of (nth_tree ss i ∷ [])) ≡ total w (nth_tree ss i).leaves
  one_weight w ss i = omega (arith, total-append w (nth_tree ss i).leaves [])

  -- ---- All children of a part
  module _ (Q : X → Type 0) where
    pub all_upto : (ss : List (Subtree X)) (m : ℕ) → ((i : ℕ) → i < m → i < length ss → AllOf Q (nth_tree ss i).leaves) → AllOf Q (leaves_of (take m ss))
    all_upto [] zero h = tt
    all_upto [] (suc m) h = tt
    all_upto (t ∷ ss) zero h = tt
    all_upto (t ∷ ss) (suc m) h =
        all_append Q t.leaves (leaves_of (take m ss)) (h 0 (omega arith) (omega arith)) (all_upto ss m (λ i p l. h (suc i) (omega arith) (omega arith)))

    pub all_from : (ss : List (Subtree X)) (m : ℕ) → ((i : ℕ) → m ≤ i → i < length ss → AllOf Q (nth_tree ss i).leaves) → AllOf Q (leaves_of (drop m ss))
    all_from [] zero h = tt
    all_from [] (suc m) h = tt
    all_from (t ∷ ss) zero h =
        all_append Q t.leaves (leaves_of ss) (h 0 (omega arith) (omega arith)) (all_from ss 0 (λ i p l. h (suc i) (omega arith) (omega arith)))
    all_from (t ∷ ss) (suc m) h = all_from ss m (λ i p l. h (suc i) (omega arith) (omega arith))

    pub all_whole : (ss : List (Subtree X)) → ((i : ℕ) → i < length ss → AllOf Q (nth_tree ss i).leaves) → AllOf Q (leaves_of ss)
    all_whole ss h = subst (λ zs. AllOf Q (leaves_of zs)) (whole ss) (all_from ss 0 (λ i p l. h i l))
      where
        whole : (ss : List (Subtree X)) → drop 0 ss ≡ ss
        whole [] = refl
        whole (t ∷ ss) = refl

-- ---- The counts
-- The count of a place whose leaves weigh w beyond those of the child.
found_count : (h u x c d : ℕ) → c ≤ 1 + h * u → d ≤ h * (x + 1) → c + d ≤ (h + 1) * (u + x + 1)
found_count h u x c d p q =
    let y : h * (u + x + 1) ≡ h * u + h * (x + 1) = spread h u x in
    let z : (h + 1) * (u + x + 1) ≡ h * (u + x + 1) + (u + x + 1) = next h (u + x + 1) in
    omega arith
  where
    spread : (h u x : ℕ) → h * (u + x + 1) ≡ h * u + h * (x + 1)
    spread h u x = omega arith

    next : (h n : ℕ) → (h + 1) * n ≡ h * n + n
    next h n = omega arith

vain_count : (h u w c : ℕ) → c ≤ 1 + h * u → u ≤ w → 1 ≤ w → c ≤ (h + 1) * w
vain_count h u w c p q r =
    let x : h * u ≤ h * w = mul-le-mul (omega arith) q in
    let z : (h + 1) * w ≡ h * w + w = next h w in
    omega arith
  where
    next : (h n : ℕ) → (h + 1) * n ≡ h * n + n
    next h n = omega arith

unit : (a b : ℕ) → a ≤ 1 + 1 * (b + 0) → a ≤ 1 + b
unit a b h = omega arith

none_besides : (m u b c : ℕ) → b ≡ 0 → c ≤ 1 + m * (u + b) → c ≤ 1 + m * u
none_besides m u b c z h = subst (λ v. c ≤ 1 + m * v) (nothing u b z) h
  where
    nothing : (u b : ℕ) → b ≡ 0 → u + b ≡ u
    nothing u b z = omega arith

cases : (b : Bool) → (b ≡ true) ⊎ (b ≡ false)
cases true = inl refl
cases false = inr refl

-- The counter after two parts of a search.
counts : (c d f a b : ℕ) → IsCounted c d a → IsCounted d f b → IsCounted c f (a + b)
counts c d f a b p q = record { upto = omega (arith, p.upto, q.upto); from = omega (arith, p.from, q.from) }

-- Leaves that are searched in vain weigh something, or the window does not reach into them.
pub weighs_some : {X : Type 0} (en : X → Entry) (q : Seeking X) → IsSeeking en q → (k : Bool) (xs : List X) → q.runs xs
    → q.fits (leaves_entry en xs) ≡ true → AllOf q.lacks xs → 1 ≤ total (q.weight k) xs + extra (q.reaches xs)
weighs_some en q law k xs run f none =
    elim (cases (q.reaches xs)) [
      | inl e ↦ omega (arith, law.weighs k xs run e f none)
      | inr e ↦ omega (arith, ap extra e)
    ]

module _ {X : Type 0} (en : X → Entry) (P : X → Type 0) (q : Seeking X) (law : IsSeeking en q) (es : List Entry) (ss : List (Subtree X))
    (even : AreFull P (front ss) ss) (e : es ≡ map (entry_of en) ss) (run : q.runs (leaves_of ss)) where
  pub same_count : length es ≡ length ss
  same_count = ap length e ∙ length-entries en ss

  pub entry_at : (i : ℕ) → i < length ss → nth es i ≡ entry_of en (nth_tree ss i)
  entry_at i l = ap (λ zs. nth zs i) e ∙ nth-entries en ss i l

  pub kid_runs : (i : ℕ) → i < length ss → q.runs (nth_tree ss i).leaves
  kid_runs i l =
      law.part (leaves_of (take i ss)) (nth_tree ss i).leaves (leaves_of (drop (suc i) ss)) (full_at P (front ss) ss i even l).some
      (subst q.runs (flat_cut ss i l) run)

  pub kid_none : (i : ℕ) → i < length ss → q.fits (nth es i) ≡ false → AllOf q.lacks (nth_tree ss i).leaves
  kid_none i l n = law.excluded (nth_tree ss i).leaves (kid_runs i l) (ap q.fits (sym (entry_at i l)) ∙ n)

  -- ---- One more child without a place
  module _ (from to i c d f : ℕ) where
    -- The children before i and from i on have no place.
    low_next : (end : End) → IsPassing end q ss from to c d → IsNext First q.fits es from to i → AllOf q.lacks (nth_tree ss i).leaves →
        (j : ℕ) → j < suc i → j < length ss → AllOf q.lacks (nth_tree ss j).leaves
    low_next end p n h j z l =
        elim (cases_lt j from) [
          | inl x ↦ p.low j x l
          | inr x ↦ elim (cases_lt j i) [
            | inl y ↦ kid_none j l (n.closer j x y)
            | inr y ↦ (let z : i ≡ j = omega arith in subst (λ m. AllOf q.lacks (nth_tree ss m).leaves) z h)
          ]
        ]

    high_next : (end : End) → IsPassing end q ss from to c d → IsNext Last q.fits es from to i → AllOf q.lacks (nth_tree ss i).leaves →
        (j : ℕ) → i ≤ j → j < length ss → AllOf q.lacks (nth_tree ss j).leaves
    high_next end p n h j z l =
        elim (cases_lt j to) [
          | inr x ↦ p.high j x l
          | inl x ↦ elim (cases_lt i j) [
            | inl y ↦ kid_none j l (n.closer j (omega arith) x)
            | inr y ↦ (let z : i ≡ j = omega arith in subst (λ m. AllOf q.lacks (nth_tree ss m).leaves) z h)
          ]
        ]

    -- The one more that the child adds to its weight.
    module _ (end : End) (p : IsPassing end q ss from to c d) (after : from ≤ i) (before : i < to) where
      own_extra : extra (q.reaches (nth_tree ss i).leaves) ≤ extra (q.reaches (leaves_of ss))
      own_extra = elim (cases (q.reaches (leaves_of ss))) [
        | inl e ↦ omega (arith, ap extra (p.reach e i after before), ap extra e)
        | inr e ↦ omega (arith, at_most (q.reaches (nth_tree ss i).leaves), ap extra e)
      ]
        where
          at_most : (b : Bool) → extra b ≤ 1
          at_most true = omega arith
          at_most false = omega arith

      more_left : suc from < to → extra (q.reaches (nth_tree ss i).leaves) ≡ 0
      more_left m = elim (cases (q.reaches (leaves_of ss))) [
        | inl e ↦ ap extra (p.reach e i after before)
        | inr e ↦ absurd (omega (arith, p.lone e, m))
      ]

    pub passes_up : IsPassing First q ss from to c d → IsNext First q.fits es from to i → IsVain q (front ss) (nodes (nth_tree ss i)) d f (nth_tree ss i).leaves
        → IsPassing First q ss (i + 1) to c f
    passes_up p n h =
        let l : i < length ss = omega (arith, p.within, n.before) in
        let z : p.besides ≡ 0 = p.least (omega (arith, n.after, n.before)) in
        rw add-one
        (record {
          within = p.within;
          low = low_next First p n h.none;
          high = p.high;
          reach = λ g j x y. p.reach g j (omega (arith, n.after)) y;
          lone = λ g. omega (arith, p.lone g, n.after);
          besides = extra (q.reaches (nth_tree ss i).leaves);
          least = λ g. more_left First p n.after n.before (omega (arith, g, n.after));
          greatest = own_extra First p n.after n.before;
          entered = p.entered + h.entered;
          counted = counts c d f p.entered h.entered p.counted h.counted;
          some = omega (arith, p.some);
          weights = λ k. step_up (λ zs. total (q.weight k) (leaves_of zs)) (weight_additive (q.weight k)) ss (front ss) from i p.entered h.entered
              (extra (q.reaches (nth_tree ss i).leaves)) n.after l (subst (λ b. p.entered ≤ 1 + front ss * (total (q.weight k) (leaves_of (take from ss)) + b)) z (p.weights k))
              (subst (λ b. h.entered ≤ front ss * (b + extra (q.reaches (nth_tree ss i).leaves))) (sym (one_weight (q.weight k) ss i)) (h.weights k));
          nodes = unit (p.entered + h.entered) _ (step_up (λ zs. nodes_of zs) nodes_additive ss 1 from i p.entered h.entered 0 n.after l (omega (arith, p.nodes))
              (omega (arith, h.most, one_node ss i)));
        })

    pub passes_down : IsPassing Last q ss from to c d → IsNext Last q.fits es from to i → IsVain q (front ss) (nodes (nth_tree ss i)) d f (nth_tree ss i).leaves
        → IsPassing Last q ss from i c f
    passes_down p n h =
        let l : i < length ss = omega (arith, p.within, n.before) in
        let z : p.besides ≡ 0 = p.least (omega (arith, n.after, n.before)) in
        record {
          within = omega arith;
          low = p.low;
          high = high_next Last p n h.none;
          reach = λ g j x y. p.reach g j x (omega (arith, n.before));
          lone = λ g. omega (arith, p.lone g, n.before);
          besides = extra (q.reaches (nth_tree ss i).leaves);
          least = λ g. more_left Last p n.after n.before (omega (arith, g, n.before));
          greatest = own_extra Last p n.after n.before;
          entered = p.entered + h.entered;
          counted = counts c d f p.entered h.entered p.counted h.counted;
          some = omega (arith, p.some);
          weights = λ k. step_down (λ zs. total (q.weight k) (leaves_of zs)) (weight_additive (q.weight k)) ss (front ss) to i p.entered h.entered
              (extra (q.reaches (nth_tree ss i).leaves)) n.before p.within
              (subst (λ b. p.entered ≤ 1 + front ss * (total (q.weight k) (leaves_of (drop to ss)) + b)) z (p.weights k))
              (subst (λ b. h.entered ≤ front ss * (b + extra (q.reaches (nth_tree ss i).leaves))) (sym (one_weight (q.weight k) ss i)) (h.weights k));
          nodes = unit (p.entered + h.entered) _ (step_down (λ zs. nodes_of zs) nodes_additive ss 1 to i p.entered h.entered 0 n.before p.within (omega (arith, p.nodes))
              (omega (arith, h.most, one_node ss i)));
        }

    -- ---- The child i has the place
    room_for : (end : End) (p : IsPassing end q ss from to c d) → IsNext end q.fits es from to i → (b : ℕ) → b ≤ nodes (nth_tree ss i)
        → p.entered + b ≤ nodes (over ss)
    room_for end p n b m =
        omega (arith, p.nodes, m, one_node ss i, room (λ zs. nodes_of zs) nodes_additive ss end from to i n.after n.before p.within)

    pub found : (end : End) → IsPassing end q ss from to c d → IsNext end q.fits es from to i
        → Lifts (IsNearest end q (front ss) (nodes (nth_tree ss i)) d f) (IsNearest end q (front ss + 1) (nodes (over ss)) c f) i ss
    found First p n before leaf after s =
        let h = s.here in
        let zero : (k : Bool) → p.entered ≤ 1 + front ss * total (q.weight k) (leaves_of (take from ss)) = λ k.
        none_besides (front ss) (total (q.weight k) (leaves_of (take from ss))) p.besides p.entered (p.least (omega (arith, n.after, n.before))) (p.weights k) in
        let l : i < length ss = omega (arith, p.within, n.before) in
        let none : AllOf q.lacks (leaves_of (take i ss)) = all_upto q.lacks ss i
        (λ j x y. elim (cases_lt j from) [ inl z ↦ p.low j z y | inr z ↦ kid_none j y (n.closer j z x) ]) in
        record {
          none = all_append q.lacks (leaves_of (take i ss)) before none h.none;
          entered = p.entered + h.entered;
          counted = counts c d f p.entered h.entered p.counted h.counted;
          weights = λ k.
              let more = more_up (λ zs. total (q.weight k) (leaves_of zs)) (weight_additive (q.weight k)) ss from i n.after (omega arith) in
              let u : front ss * total (q.weight k) (leaves_of (take from ss)) ≤ front ss * total (q.weight k) (leaves_of (take i ss)) = mul-le-mul (omega arith) more in
              subst (λ z. p.entered + h.entered ≤ (front ss + 1) * (z + 1)) (sym (total-append (q.weight k) (leaves_of (take i ss)) before))
              (found_count (front ss) (total (q.weight k) (leaves_of (take i ss))) (total (q.weight k) before) p.entered h.entered (omega (arith, zero k, u)) (h.weights k));
          path = omega (arith, p.some, h.path);
          most = room_for First p n h.entered h.most;
        }
    found Last p n before leaf after s =
        let h = s.here in
        let zero : (k : Bool) → p.entered ≤ 1 + front ss * total (q.weight k) (leaves_of (drop to ss)) = λ k.
        none_besides (front ss) (total (q.weight k) (leaves_of (drop to ss))) p.besides p.entered (p.least (omega (arith, n.after, n.before))) (p.weights k) in
        let l : i < length ss = omega (arith, p.within, n.before) in
        let none : AllOf q.lacks (leaves_of (drop (suc i) ss)) = all_from q.lacks ss (suc i)
        (λ j x y. elim (cases_lt j to) [ inl z ↦ kid_none j y (n.closer j (omega arith) z) | inr z ↦ p.high j z y ]) in
        record {
          none = all_append q.lacks after (leaves_of (drop (suc i) ss)) h.none none;
          entered = p.entered + h.entered;
          counted = counts c d f p.entered h.entered p.counted h.counted;
          weights = λ k.
              let more = more_down (λ zs. total (q.weight k) (leaves_of zs)) (weight_additive (q.weight k)) ss (suc i) to (omega (arith, n.before)) p.within in
              let u : front ss * total (q.weight k) (leaves_of (drop to ss)) ≤ front ss * total (q.weight k) (leaves_of (drop (suc i) ss)) = mul-le-mul (omega arith) more in
              subst (λ z. p.entered + h.entered ≤ (front ss + 1) * (z + 1))
              (turn (total (q.weight k) (leaves_of (drop (suc i) ss))) (total (q.weight k) after) ∙ sym (total-append (q.weight k) after (leaves_of (drop (suc i) ss))))
              (found_count (front ss) (total (q.weight k) (leaves_of (drop (suc i) ss))) (total (q.weight k) after) p.entered h.entered (omega (arith, zero k, u)) (h.weights k));
          path = omega (arith, p.some, h.path);
          most = room_for Last p n h.entered h.most;
        }
      where
        turn : (a b : ℕ) → a + b ≡ b + a
        turn a b = omega arith

  -- ---- No child has a place
  module _ (end : End) (from to c d : ℕ) (p : IsPassing end q ss from to c d) (n : NoneFits q.fits es from to) where
    pub none_left : AllOf q.lacks (leaves_of ss)
    none_left = all_whole q.lacks ss
        (λ j l. elim (cases_lt j from) [
          | inl y ↦ p.low j y l
          | inr y ↦ elim (cases_lt j to) [ inl z ↦ kid_none j l (n j y z) | inr z ↦ p.high j z l ]
        ])

    pub vain : q.fits (leaves_entry en (leaves_of ss)) ≡ true → IsVain q (front ss + 1) (nodes (over ss)) c d (leaves_of ss)
    vain m = record {
      none = none_left;
      entered = p.entered;
      counted = p.counted;
      weights = λ k. vain_count (front ss) _ (total (q.weight k) (leaves_of ss) + extra (q.reaches (leaves_of ss))) p.entered (p.weights k)
          (omega (arith, p.greatest, part_of (λ zs. total (q.weight k) (leaves_of zs)) (weight_additive (q.weight k)) ss end from to))
          (weighs_some en q law k (leaves_of ss) run m none_left);
      most = omega (arith, p.nodes, part_of (λ zs. nodes_of zs) nodes_additive ss end from to);
    }
