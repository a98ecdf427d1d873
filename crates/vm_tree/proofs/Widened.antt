-- A leaf that has changed, seen from a node above it.
use Rattle.std.proofs.Common.{◌≡◌, ℕ, zero, ◌^◌, ◌*◌, suc, ◌+◌, ◌≤◌, ◌<◌, List, [], ◌∷◌, ◌++◌, length, take, drop, set, map, ◌∙◌, sym, ap, subst, arith, append_assoc}
use Rattle.std.proofs.lemmas.List.{length-append, length-set}
use Rattle.vm_tree.specs.Entry.{Entry}
use Rattle.vm_tree.specs.Rows.{nth}
use Rattle.vm_tree.specs.Subtree.{Subtree, leaves_of, over, nth_tree, AllOf, leaves_entry, entry_of, IsFull, AreFull, front}
use Rattle.vm_tree.specs.Edits.{StandsAt, IsRefusedAt, IsEditedAt, IsOne, IsBefore, AtKey}
use Rattle.vm_tree.proofs.Flats.{flat_cut, flat_set, front_set, before_flat, all_append, all_left, all_right, length-entries, at-entries, full_set, over_few, over_most}

module _ {X : Type 0} where
  pub wide : (a before after b : List X) (leaf : X) → a ++ ((before ++ leaf ∷ after) ++ b) ≡ (a ++ before) ++ leaf ∷ (after ++ b)
  wide a before after b leaf = ap (λ xs. a ++ xs) (append_assoc before (leaf ∷ after) b) ∙ sym (append_assoc a before (leaf ∷ (after ++ b)))

  pub middle : (a before leaves after b : List X) → a ++ ((before ++ (leaves ++ after)) ++ b) ≡ (a ++ before) ++ (leaves ++ (after ++ b))
  middle a before leaves after b =
      ap (λ xs. a ++ xs) (append_assoc before (leaves ++ after) b ∙ ap (λ xs. before ++ xs) (append_assoc leaves after b))
      ∙ sym (append_assoc a before (leaves ++ (after ++ b)))

  -- A place among some leaves is this place between leaves around them.
  abbrev pub Widens : (List X → X → List X → Type 0) → (List X → X → List X → Type 0) → List X → List X → List X → Type 0
  Widens at more a old b = (before : List X) (leaf : X) (after : List X) → StandsAt at old before leaf after → more (a ++ before) leaf (after ++ b)

  -- A place in the child i is this place below the node.
  abbrev pub Lifts : (List X → X → List X → Type 0) → (List X → X → List X → Type 0) → ℕ → List (Subtree X) → Type 0
  Lifts at more i ss = Widens at more (leaves_of (take i ss)) (nth_tree ss i).leaves (leaves_of (drop (suc i) ss))

  -- Between other leaves.
  module _ (at more : List X → X → List X → Type 0) (a old b : List X) (lift : Widens at more a old b) where
    pub wide_stands : (before : List X) (leaf : X) (after : List X) → StandsAt at old before leaf after
        → StandsAt more (a ++ (old ++ b)) (a ++ before) leaf (after ++ b)
    wide_stands before leaf after h = record { was = ap (λ xs. a ++ (xs ++ b)) h.was ∙ wide a before after b leaf; here = lift before leaf after h }

    wide_refused : (refuses : X → Type 0) → IsRefusedAt at refuses old → IsRefusedAt more refuses (a ++ (old ++ b))
    wide_refused refuses r = record {
      before = a ++ r.before;
      leaf = r.leaf;
      after = r.after ++ b;
      home = wide_stands r.before r.leaf r.after r.home;
      refused = r.refused;
    }

    wide_edited : (P : X → Type 0) (edits : X → List X → Type 0) (new : List X) → IsEditedAt P at edits old new
        → IsEditedAt P more edits (a ++ (old ++ b)) (a ++ (new ++ b))
    wide_edited P edits new r = record {
      before = a ++ r.before;
      leaf = r.leaf;
      after = r.after ++ b;
      leaves = r.leaves;
      home = wide_stands r.before r.leaf r.after r.home;
      is = ap (λ xs. a ++ (xs ++ b)) r.is ∙ middle a r.before r.leaves r.after b;
      edit = r.edit;
      some = r.some;
      all = r.all;
    }

  module _ (P : X → Type 0) (at : List X → X → List X → Type 0) (edits : X → List X → Type 0) where
    -- No fewer leaves, and each is full enough.
    pub longer : (old new : List X) → IsEditedAt P at edits old new → length old ≤ length new
    longer old new r =
        let w = ap length r.home.was in
        let n = ap length r.is in
        let a = length-append r.before (r.leaf ∷ r.after) in
        let b = length-append r.before (r.leaves ++ r.after) in
        let d = length-append r.leaves r.after in
        omega (arith, w, n, a, b, d, r.some)

    pub all_edited : (old new : List X) → IsEditedAt P at edits old new → AllOf P old → AllOf P new
    all_edited old new r q =
        let w = subst (AllOf P) r.home.was q in
        let c = all_right P r.before (r.leaf ∷ r.after) w in
        subst (AllOf P) (sym r.is)
        (all_append P r.before (r.leaves ++ r.after) (all_left P r.before (r.leaf ∷ r.after) w)
        (all_append P r.leaves r.after (r.all c.0) c.1))

    pub full_one : (h : ℕ) (s t : Subtree X) → IsOne P at edits s t → IsFull P h s → IsFull P h t
    full_one h s t o f = record {
      height = o.height ∙ f.height;
      high = f.high;
      fan = λ k. omega (arith, f.fan k, o.fan);
      bound = omega (arith, f.bound, longer _ _ o.edited);
      few = o.few (λ p. f.fan (omega (arith, p, f.height)));
      most = subst (λ k. 15 * (length t.sizes + length t.leaves) + 1 ≤ 16 ^ k) (o.height ∙ f.height) o.most;
      some = omega (arith, f.some, longer _ _ o.edited);
      all = all_edited _ _ o.edited f.all;
    }

  -- The child i.
  module _ (at more : List X → X → List X → Type 0) (i : ℕ) (ss : List (Subtree X)) (l : i < length ss) (lift : Lifts at more i ss) where
    pub over_stands : (before : List X) (leaf : X) (after : List X) → StandsAt at (nth_tree ss i).leaves before leaf after
        → StandsAt more (leaves_of ss) (leaves_of (take i ss) ++ before) leaf (after ++ leaves_of (drop (suc i) ss))
    over_stands before leaf after r =
        subst (λ xs. StandsAt more xs (leaves_of (take i ss) ++ before) leaf (after ++ leaves_of (drop (suc i) ss))) (sym (flat_cut ss i l))
        (wide_stands at more _ _ _ lift before leaf after r)

    pub over_refused : (refuses : X → Type 0) → IsRefusedAt at refuses (nth_tree ss i).leaves → IsRefusedAt more refuses (leaves_of ss)
    over_refused refuses r = subst (IsRefusedAt more refuses) (sym (flat_cut ss i l)) (wide_refused at more _ _ _ lift refuses r)

    pub over_edited : (P : X → Type 0) (edits : X → List X → Type 0) (new all : List X) → IsEditedAt P at edits (nth_tree ss i).leaves new
        → all ≡ leaves_of (take i ss) ++ (new ++ leaves_of (drop (suc i) ss)) → IsEditedAt P more edits (leaves_of ss) all
    over_edited P edits new all r e =
        subst (λ xs. IsEditedAt P more edits xs all) (sym (flat_cut ss i l))
        (subst (λ xs. IsEditedAt P more edits (leaves_of (take i ss) ++ ((nth_tree ss i).leaves ++ leaves_of (drop (suc i) ss))) xs) (sym e)
        (wide_edited at more _ _ _ lift P edits _ r))

    front_some : (P : X → Type 0) (ss : List (Subtree X)) (i : ℕ) → i < length ss → AreFull P (front ss) ss → 0 < front ss
    front_some P [] i l a = absurd (omega (arith, l))
    front_some P (s ∷ ss) i l a = a.0.high

    pub over_one : (P : X → Type 0) (edits : X → List X → Type 0) (t : Subtree X) → AreFull P (front ss) ss → IsFull P (front ss) t → length ss ≤ 16
        → IsOne P at edits (nth_tree ss i) t → IsOne P more edits (over ss) (over (set ss i t))
    over_one P edits t a f fits o = record {
      height = ap (λ n. n + 1) (front_set ss i t o.height);
      fan = omega (arith, length-set ss i t);
      few = λ p. over_few P (front ss) (set ss i t) (full_set P (front ss) ss i t a f)
          (omega (arith, length-set ss i t, p (omega (arith, front_some P ss i l a))));
      most = subst (λ k. 15 * (length (over (set ss i t)).sizes + length (over (set ss i t)).leaves) + 1 ≤ 16 ^ (k + 1)) (sym (front_set ss i t o.height))
          (over_most P (front ss) (set ss i t) (full_set P (front ss) ss i t a f) (omega (arith, length-set ss i t, fits)));
      edited = over_edited P edits t.leaves _ o.edited (flat_set ss i t l);
    }

-- The place of a key.
module _ {X : Type 0} (en : X → Entry) (key : ℕ) where
  at_low : (a old before : List X) (leaf : X) (after : List X) → (0 < length a → (leaves_entry en old).at ≤ key)
      → StandsAt (AtKey en key) old before leaf after → 0 < length (a ++ before) → (en leaf).at ≤ key
  at_low a old [] leaf after l h k =
      subst (λ xs. (leaves_entry en xs).at ≤ key) h.was (l (omega (arith, k, length-append a [])))
  at_low a old (b ∷ bs) leaf after l h k = h.here.low (omega arith)

  at_high : (after b : List X) → IsBefore en key after → IsBefore en key b → IsBefore en key (after ++ b)
  at_high [] b h k = k
  at_high (x ∷ xs) b h k = h

  -- Between other leaves.
  pub wide_key : (a old b : List X) → (0 < length a → (leaves_entry en old).at ≤ key) → IsBefore en key b
      → Widens (AtKey en key) (AtKey en key) a old b
  wide_key a old b l k before leaf after h = record { low = at_low a old before leaf after l h; high = at_high after b h.here.high k }

  -- In the child whose entry the search for the key found.
  module _ (P : X → Type 0) (ss : List (Subtree X)) (h : ℕ) (a : AreFull P h ss) (es : List Entry) (n : es ≡ map (entry_of en) ss) (i : ℕ) (l : i < length es)
      (from : 0 < i → (nth es i).at ≤ key) (upto : i + 1 < length es → key < (nth es (i + 1)).at) where
    some_before : (n : ℕ) (rs : List (Subtree X)) → 0 < length (leaves_of (take n rs)) → 0 < n
    some_before zero rs k = absurd (omega arith)
    some_before (suc n) rs k = omega arith

    count : length es ≡ length ss
    count = ap length n ∙ length-entries en ss

    low_at : 0 < length (leaves_of (take i ss)) → (leaves_entry en (nth_tree ss i).leaves).at ≤ key
    low_at k = omega (arith, from (some_before i ss k), ap (λ zs. (nth zs i).at) n ∙ at-entries en ss i (omega (arith, l, count)))

    one-more : suc i ≡ i + 1
    one-more = omega arith

    next_at : i + 1 < length ss → key < (entry_of en (nth_tree ss (i + 1))).at
    next_at k = omega (arith, upto (omega (arith, k, count)), ap (λ zs. (nth zs (i + 1)).at) n ∙ at-entries en ss (i + 1) k)

    high_at : IsBefore en key (leaves_of (drop (suc i) ss))
    high_at =
        before_flat en P h key ss (suc i) a
        (λ k. subst (λ n. key < (entry_of en (nth_tree ss n)).at) (sym one-more) (next_at (omega (arith, k))))

    pub key_lifts : Lifts (AtKey en key) (AtKey en key) i ss
    key_lifts = wide_key _ _ _ low_at high_at
