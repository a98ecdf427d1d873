-- The arrays of a node as a list of entries.
use Rattle.std.proofs.Common.{◌≡◌, ℕ, zero, suc, ◌+◌, ◌-◌, ◌≤◌, ◌<◌, max, List, [], ◌∷◌, ◌++◌, length, take, drop, set, get_or, replicate, ◌∙◌, sym, refl, ap, arith, length-take-le}
use Rattle.std.proofs.lemmas.List.{get_or-take, get_or-drop, drop-drop, drop-replicate, take-append-drop, drop-set-lt, length-set, set-get_or, take-take}
use Rattle.std.proofs.Math.Seq.{take-set-lt}
use Rattle.std.proofs.lemmas.List.{get_or-replicate}
use Rattle.std.proofs.lemmas.Bool.{cases_lt}
use Rattle.std.specs.List.{insert, remove}
use Rattle.vm_tree.specs.Entry.{Entry}
use Rattle.vm_tree.specs.Padded.{IsPadded, greatest}
use Rattle.vm_tree.specs.Rows.{rows, nth, blank, beginning_at, Ascends, longest_of, alignments_of, sum_of}

pub length-rows : (xs bs cs : List ℕ) → length bs ≡ length xs → length cs ≡ length xs → length (rows xs bs cs) ≡ length xs
length-rows [] bs cs p q = refl
length-rows (a ∷ xs) [] cs p q = absurd (omega (arith, p))
length-rows (a ∷ xs) (b ∷ bs) [] p q = absurd (omega (arith, q))
length-rows (a ∷ xs) (b ∷ bs) (c ∷ cs) p q = omega (arith, length-rows xs bs cs (omega (arith, p)) (omega (arith, q)))

pub get_or-rows : (xs bs cs : List ℕ) (k : ℕ) (d : Entry) → length bs ≡ length xs → length cs ≡ length xs → k < length xs
    → get_or (rows xs bs cs) k d ≡ record { at = get_or xs k 0; longest = get_or bs k 0; alignments = get_or cs k 0 }
get_or-rows [] bs cs k d p q h = absurd (omega arith)
get_or-rows (a ∷ xs) [] cs k d p q h = absurd (omega (arith, p))
get_or-rows (a ∷ xs) (b ∷ bs) [] k d p q h = absurd (omega (arith, q))
get_or-rows (a ∷ xs) (b ∷ bs) (c ∷ cs) zero d p q h = refl
get_or-rows (a ∷ xs) (b ∷ bs) (c ∷ cs) (suc k) d p q h = get_or-rows xs bs cs k d (omega (arith, p)) (omega (arith, q)) (omega arith)

-- The number of entries.
pub length_of : (xs bs cs : List ℕ) (n : ℕ) → length bs ≡ length xs → length cs ≡ length xs → n ≤ length xs
    → length (rows (take n xs) (take n bs) (take n cs)) ≡ n
length_of xs bs cs n p q h =
    length-rows (take n xs) (take n bs) (take n cs) (omega (arith, length-take-le n xs h, length-take-le n bs (omega (arith, p)), p))
    (omega (arith, length-take-le n xs h, length-take-le n cs (omega (arith, q)), q)) ∙ length-take-le n xs h

-- The entry at an index.
pub read : (xs bs cs : List ℕ) (n k : ℕ) (d : Entry) → length bs ≡ length xs → length cs ≡ length xs → n ≤ length xs → k < n
    → get_or (rows (take n xs) (take n bs) (take n cs)) k d ≡ record { at = get_or xs k 0; longest = get_or bs k 0; alignments = get_or cs k 0 }
read xs bs cs n k d p q h l =
    get_or-rows (take n xs) (take n bs) (take n cs) k d (omega (arith, length-take-le n xs h, length-take-le n bs (omega (arith, p)), p))
    (omega (arith, length-take-le n xs h, length-take-le n cs (omega (arith, q)), q)) (omega (arith, length-take-le n xs h))
    ∙ rw (get_or-take n xs k 0 l, get_or-take n bs k 0 l, get_or-take n cs k 0 l) refl

-- The items behind the used ones are still pads.
pub pad_kept : {X : Type 0} (xs ys : List X) (n m : ℕ) (p : X) → length ys ≡ length xs → IsPadded xs n p → n ≤ m → drop m ys ≡ drop m xs
    → IsPadded ys m p
pad_kept xs ys n m p e h l d =
    d ∙ ap (λ j. drop j xs) (omega arith) ∙ sym (drop-drop (m - n) n xs) ∙ ap (drop (m - n)) h ∙ drop-replicate (m - n) (length xs - n) p
    ∙ ap (λ j. replicate j p) (omega (arith, e))

-- A list of entries after a change of each array.
pub rows-insert : (xs bs cs : List ℕ) (i : ℕ) (e : Entry) → length bs ≡ length xs → length cs ≡ length xs → i ≤ length xs
    → rows (insert xs i e.at) (insert bs i e.longest) (insert cs i e.alignments) ≡ insert (rows xs bs cs) i e
rows-insert [] [] [] zero e p q h = refl
rows-insert [] [] [] (suc i) e p q h = absurd (omega arith)
rows-insert [] (b ∷ bs) cs i e p q h = absurd (omega (arith, p))
rows-insert [] [] (c ∷ cs) i e p q h = absurd (omega (arith, q))
rows-insert (x ∷ xs) [] cs i e p q h = absurd (omega (arith, p))
rows-insert (x ∷ xs) (b ∷ bs) [] i e p q h = absurd (omega (arith, q))
rows-insert (x ∷ xs) (b ∷ bs) (c ∷ cs) zero e p q h = refl
rows-insert (x ∷ xs) (b ∷ bs) (c ∷ cs) (suc i) e p q h =
    ap (λ z. record { at = x; longest = b; alignments = c } ∷ z)
    (rows-insert xs bs cs i e (omega (arith, p)) (omega (arith, q)) (omega arith))

pub rows-append : (xs bs cs ys ds es : List ℕ) → length bs ≡ length xs → length cs ≡ length xs
    → rows (xs ++ ys) (bs ++ ds) (cs ++ es) ≡ rows xs bs cs ++ rows ys ds es
rows-append [] [] [] ys ds es p q = refl
rows-append [] (b ∷ bs) cs ys ds es p q = absurd (omega (arith, p))
rows-append [] [] (c ∷ cs) ys ds es p q = absurd (omega (arith, q))
rows-append (x ∷ xs) [] cs ys ds es p q = absurd (omega (arith, p))
rows-append (x ∷ xs) (b ∷ bs) [] ys ds es p q = absurd (omega (arith, q))
rows-append (x ∷ xs) (b ∷ bs) (c ∷ cs) ys ds es p q =
    ap (λ z. record { at = x; longest = b; alignments = c } ∷ z) (rows-append xs bs cs ys ds es (omega (arith, p)) (omega (arith, q)))

pub inserted : (xs bs cs xt bt ct : List ℕ) (n i : ℕ) (e : Entry) → length bs ≡ length xs → length cs ≡ length xs → n ≤ length xs → i ≤ n
    → take (n + 1) xt ≡ insert (take n xs) i e.at → take (n + 1) bt ≡ insert (take n bs) i e.longest
    → take (n + 1) ct ≡ insert (take n cs) i e.alignments
    → rows (take (n + 1) xt) (take (n + 1) bt) (take (n + 1) ct) ≡ insert (rows (take n xs) (take n bs) (take n cs)) i e
inserted xs bs cs xt bt ct n i e p q h l f g k =
    let x : length (take n xs) ≡ n = length-take-le n xs h in
    let b : length (take n bs) ≡ n = length-take-le n bs (omega (arith, p)) in
    let c : length (take n cs) ≡ n = length-take-le n cs (omega (arith, q)) in
    rw (f, g, k) (rows-insert (take n xs) (take n bs) (take n cs) i e (omega (arith, x, b)) (omega (arith, x, c)) (omega (arith, x)))

pub appended : (xs bs cs ys ds es xt bt ct : List ℕ) (n m : ℕ) → length bs ≡ length xs → length cs ≡ length xs → n ≤ length xs
    → take (n + m) xt ≡ take n xs ++ take m ys → take (n + m) bt ≡ take n bs ++ take m ds → take (n + m) ct ≡ take n cs ++ take m es
    → rows (take (n + m) xt) (take (n + m) bt) (take (n + m) ct)
    ≡ rows (take n xs) (take n bs) (take n cs) ++ rows (take m ys) (take m ds) (take m es)
appended xs bs cs ys ds es xt bt ct n m p q h f g k =
    let x : length (take n xs) ≡ n = length-take-le n xs h in
    let b : length (take n bs) ≡ n = length-take-le n bs (omega (arith, p)) in
    let c : length (take n cs) ≡ n = length-take-le n cs (omega (arith, q)) in
    rw (f, g, k) (rows-append (take n xs) (take n bs) (take n cs) (take m ys) (take m ds) (take m es) (omega (arith, x, b)) (omega (arith, x, c)))

-- A pad.
pub pad_at : (xs : List ℕ) (n j p : ℕ) → IsPadded xs n p → n ≤ j → j < length xs → get_or xs j 0 ≡ p
pad_at xs n j p h l k =
    ap (λ i. get_or xs i 0) (omega arith) ∙ sym (get_or-drop n xs (j - n) 0) ∙ ap (λ ys. get_or ys (j - n) 0) h
    ∙ get_or-replicate (length xs - n) (j - n) p 0 (omega arith)

-- The separators of the entries and the pads are in order.
pub cut : (xs bs cs : List ℕ) (n a i j : ℕ) → length bs ≡ length xs → length cs ≡ length xs → n ≤ length xs
    → Ascends (rows (take n xs) (take n bs) (take n cs)) → IsPadded xs n 18446744073709551615 → a < 18446744073709551615
    → 0 < i → i ≤ j → j < length xs → get_or xs j 0 ≤ a → get_or xs i 0 ≤ a
cut xs bs cs n a i j p q h o pads l u v w f =
    let low : j < n → get_or xs i 0 ≤ get_or xs j 0 = λ k.
    let s = o i j u v (omega (arith, k, length_of xs bs cs n p q h)) in
    let x = read xs bs cs n i blank p q h (omega (arith, k)) in
    let y = read xs bs cs n j blank p q h k in
    omega (arith, s, ap (λ (e : Entry). e.at) x, ap (λ (e : Entry). e.at) y) in
    let high : n ≤ j → get_or xs j 0 ≡ 18446744073709551615 = λ k. pad_at xs n j _ pads k w in
    grind (arith, low, high, cases_lt j n)

-- A list of entries after one was written.
pub rows-set : (xs bs cs : List ℕ) (i : ℕ) (e : Entry) → length bs ≡ length xs → length cs ≡ length xs
    → rows (set xs i e.at) (set bs i e.longest) (set cs i e.alignments) ≡ set (rows xs bs cs) i e
rows-set [] [] [] i e p q = refl
rows-set [] (b ∷ bs) cs i e p q = absurd (omega (arith, p))
rows-set [] [] (c ∷ cs) i e p q = absurd (omega (arith, q))
rows-set (x ∷ xs) [] cs i e p q = absurd (omega (arith, p))
rows-set (x ∷ xs) (b ∷ bs) [] i e p q = absurd (omega (arith, q))
rows-set (x ∷ xs) (b ∷ bs) (c ∷ cs) zero e p q = refl
rows-set (x ∷ xs) (b ∷ bs) (c ∷ cs) (suc i) e p q =
    ap (λ z. record { at = x; longest = b; alignments = c } ∷ z) (rows-set xs bs cs i e (omega (arith, p)) (omega (arith, q)))

pub written : (xs bs cs : List ℕ) (n i : ℕ) (e : Entry) → length bs ≡ length xs → length cs ≡ length xs → n ≤ length xs → i < n
    → rows (take n (set xs i e.at)) (take n (set bs i e.longest)) (take n (set cs i e.alignments))
    ≡ set (rows (take n xs) (take n bs) (take n cs)) i e
written xs bs cs n i e p q h l =
    let x : length (take n xs) ≡ n = length-take-le n xs h in
    let b : length (take n bs) ≡ n = length-take-le n bs (omega (arith, p)) in
    let c : length (take n cs) ≡ n = length-take-le n cs (omega (arith, q)) in
    rw (take-set-lt n xs i e.at l, take-set-lt n bs i e.longest l, take-set-lt n cs i e.alignments l)
    (rows-set (take n xs) (take n bs) (take n cs) i e (omega (arith, x, b)) (omega (arith, x, c)))

-- A list of entries after a first address was written.
pub begun : (xs bs cs : List ℕ) (n i a : ℕ) → length bs ≡ length xs → length cs ≡ length xs → n ≤ length xs → i < n
    → rows (take n (set xs i a)) (take n bs) (take n cs)
    ≡ set (rows (take n xs) (take n bs) (take n cs)) i (beginning_at a (nth (rows (take n xs) (take n bs) (take n cs)) i))
begun xs bs cs n i a p q h l =
    ap (λ z. rows (take n (set xs i a)) (take n z) (take n cs)) (sym (set-get_or bs i 0))
    ∙ ap (λ z. rows (take n (set xs i a)) (take n (set bs i (get_or bs i 0))) (take n z)) (sym (set-get_or cs i 0))
    ∙ written xs bs cs n i (record { at = a; longest = get_or bs i 0; alignments = get_or cs i 0 }) p q h l
    ∙ ap (λ e. set (rows (take n xs) (take n bs) (take n cs)) i (beginning_at a e)) (sym (read xs bs cs n i blank p q h l))

-- A list of entries without one.
pub rows-remove : (xs bs cs : List ℕ) (i : ℕ) → length bs ≡ length xs → length cs ≡ length xs
    → rows (remove xs i) (remove bs i) (remove cs i) ≡ remove (rows xs bs cs) i
rows-remove [] [] [] zero p q = refl
rows-remove [] [] [] (suc i) p q = refl
rows-remove [] (b ∷ bs) cs i p q = absurd (omega (arith, p))
rows-remove [] [] (c ∷ cs) i p q = absurd (omega (arith, q))
rows-remove (x ∷ xs) [] cs i p q = absurd (omega (arith, p))
rows-remove (x ∷ xs) (b ∷ bs) [] i p q = absurd (omega (arith, q))
rows-remove (x ∷ xs) (b ∷ bs) (c ∷ cs) zero p q = refl
rows-remove (x ∷ xs) (b ∷ bs) (c ∷ cs) (suc i) p q =
    ap (λ z. record { at = x; longest = b; alignments = c } ∷ z) (rows-remove xs bs cs i (omega (arith, p)) (omega (arith, q)))

pub taken_out : (xs bs cs xt bt ct : List ℕ) (n i : ℕ) → length bs ≡ length xs → length cs ≡ length xs → n ≤ length xs
    → take (n - 1) xt ≡ remove (take n xs) i → take (n - 1) bt ≡ remove (take n bs) i → take (n - 1) ct ≡ remove (take n cs) i
    → rows (take (n - 1) xt) (take (n - 1) bt) (take (n - 1) ct) ≡ remove (rows (take n xs) (take n bs) (take n cs)) i
taken_out xs bs cs xt bt ct n i p q h f g k =
    let x : length (take n xs) ≡ n = length-take-le n xs h in
    let b : length (take n bs) ≡ n = length-take-le n bs (omega (arith, p)) in
    let c : length (take n cs) ≡ n = length-take-le n cs (omega (arith, q)) in
    rw (f, g, k) (rows-remove (take n xs) (take n bs) (take n cs) i (omega (arith, x, b)) (omega (arith, x, c)))

-- The greatest of an array is that of its entries.
greatest-pads : (n : ℕ) → greatest (replicate n 0) ≡ 0
greatest-pads zero = refl
greatest-pads (suc n) = omega (arith, greatest-pads n)

longest-rows : (xs bs cs : List ℕ) → length bs ≡ length xs → length cs ≡ length xs → longest_of (rows xs bs cs) ≡ greatest bs
longest-rows [] [] cs p q = refl
longest-rows [] (b ∷ bs) cs p q = absurd (omega (arith, p))
longest-rows (x ∷ xs) [] cs p q = absurd (omega (arith, p))
longest-rows (x ∷ xs) (b ∷ bs) [] p q = absurd (omega (arith, q))
longest-rows (x ∷ xs) (b ∷ bs) (c ∷ cs) p q = ap (max b) (longest-rows xs bs cs (omega (arith, p)) (omega (arith, q)))

greatest-append : (xs ys : List ℕ) → greatest (xs ++ ys) ≡ max (greatest xs) (greatest ys)
greatest-append [] ys = omega arith
greatest-append (x ∷ xs) ys = omega (arith, greatest-append xs ys)

pub longest_all : (xs bs cs : List ℕ) (n : ℕ) → length bs ≡ length xs → length cs ≡ length xs → n ≤ length xs → IsPadded bs n 0
    → greatest bs ≡ longest_of (rows (take n xs) (take n bs) (take n cs))
longest_all xs bs cs n p q h pads =
    let x : length (take n xs) ≡ n = length-take-le n xs h in
    let b : length (take n bs) ≡ n = length-take-le n bs (omega (arith, p)) in
    let c : length (take n cs) ≡ n = length-take-le n cs (omega (arith, q)) in
    let e : greatest (take n bs ++ drop n bs) ≡ greatest bs = ap greatest (take-append-drop n bs) in
    let z : greatest (drop n bs) ≡ 0 = ap greatest pads ∙ greatest-pads (length bs - n) in
    let r = longest-rows (take n xs) (take n bs) (take n cs) (omega (arith, x, b)) (omega (arith, x, c)) in
    omega (arith, e, z, r, greatest-append (take n bs) (drop n bs))

alignments-rows : (xs bs cs : List ℕ) → length bs ≡ length xs → length cs ≡ length xs → alignments_of (rows xs bs cs) ≡ greatest cs
alignments-rows [] [] [] p q = refl
alignments-rows [] (b ∷ bs) cs p q = absurd (omega (arith, p))
alignments-rows [] [] (c ∷ cs) p q = absurd (omega (arith, q))
alignments-rows (x ∷ xs) [] cs p q = absurd (omega (arith, p))
alignments-rows (x ∷ xs) (b ∷ bs) [] p q = absurd (omega (arith, q))
alignments-rows (x ∷ xs) (b ∷ bs) (c ∷ cs) p q = ap (max c) (alignments-rows xs bs cs (omega (arith, p)) (omega (arith, q)))

pub alignments_all : (xs bs cs : List ℕ) (n : ℕ) → length bs ≡ length xs → length cs ≡ length xs → n ≤ length xs → IsPadded cs n 0
    → greatest cs ≡ alignments_of (rows (take n xs) (take n bs) (take n cs))
alignments_all xs bs cs n p q h pads =
    let x : length (take n xs) ≡ n = length-take-le n xs h in
    let b : length (take n bs) ≡ n = length-take-le n bs (omega (arith, p)) in
    let c : length (take n cs) ≡ n = length-take-le n cs (omega (arith, q)) in
    let e : greatest (take n cs ++ drop n cs) ≡ greatest cs = ap greatest (take-append-drop n cs) in
    let z : greatest (drop n cs) ≡ 0 = ap greatest pads ∙ greatest-pads (length cs - n) in
    let r = alignments-rows (take n xs) (take n bs) (take n cs) (omega (arith, x, b)) (omega (arith, x, c)) in
    omega (arith, e, z, r, greatest-append (take n cs) (drop n cs))

-- The parts of a sum.
sum-longest : (es : List Entry) → (sum_of es).longest ≡ longest_of es
sum-longest [] = refl
sum-longest (e ∷ es) = ap (max e.longest) (sum-longest es)

sum-alignments : (es : List Entry) → (sum_of es).alignments ≡ alignments_of es
sum-alignments [] = refl
sum-alignments (e ∷ es) = ap (max e.alignments) (sum-alignments es)

sum-at : (es : List Entry) → (sum_of es).at ≡ (nth es 0).at
sum-at [] = refl
sum-at (e ∷ es) = refl

abbrev entry : ℕ → ℕ → ℕ → Entry
entry a b c = record { at = a; longest = b; alignments = c }

pub sum_is : (es : List Entry) (a b c : ℕ) → a ≡ (nth es 0).at → b ≡ longest_of es → c ≡ alignments_of es → entry a b c ≡ sum_of es
sum_is es a b c p q r = rw (p ∙ sym (sum-at es), q ∙ sym (sum-longest es), r ∙ sym (sum-alignments es)) refl

-- The sum of entries of which one begins at another address.
begun_longest : (es : List Entry) (i a : ℕ) → longest_of (set es i (beginning_at a (nth es i))) ≡ longest_of es
begun_longest [] i a = refl
begun_longest (e ∷ es) zero a = refl
begun_longest (e ∷ es) (suc i) a = ap (max e.longest) (begun_longest es i a)

begun_alignments : (es : List Entry) (i a : ℕ) → alignments_of (set es i (beginning_at a (nth es i))) ≡ alignments_of es
begun_alignments [] i a = refl
begun_alignments (e ∷ es) zero a = refl
begun_alignments (e ∷ es) (suc i) a = ap (max e.alignments) (begun_alignments es i a)

pub first_begun : (es : List Entry) (a : ℕ) → 0 < length es → sum_of (set es 0 (beginning_at a (nth es 0))) ≡ beginning_at a (sum_of es)
first_begun [] a l = absurd (omega arith)
first_begun (e ∷ es) a l = refl

pub later_begun : (es : List Entry) (i a : ℕ) → 0 < i → sum_of (set es i (beginning_at a (nth es i))) ≡ sum_of es
later_begun [] i a l = refl
later_begun (e ∷ es) zero a l = absurd (omega arith)
later_begun (e ∷ es) (suc i) a l =
    let fs : List Entry = set es i (beginning_at a (nth es i)) in
    let b : (sum_of fs).longest ≡ (sum_of es).longest = sum-longest fs ∙ begun_longest es i a ∙ sym (sum-longest es) in
    let c : (sum_of fs).alignments ≡ (sum_of es).alignments = sum-alignments fs ∙ begun_alignments es i a ∙ sym (sum-alignments es) in
    ap (λ z. entry e.at (max e.longest z) (max e.alignments (sum_of fs).alignments)) b
    ∙ ap (λ z. entry e.at (max e.longest (sum_of es).longest) (max e.alignments z)) c

pub pad_set : (xs : List ℕ) (n i p x : ℕ) → IsPadded xs n p → i < n → IsPadded (set xs i x) n p
pad_set xs n i p x h l = drop-set-lt n xs i x l ∙ h ∙ ap (λ j. replicate (j - n) p) (sym (length-set xs i x))

-- The entry that a search found.
pub found_within : (xs : List ℕ) (n a r : ℕ) → IsPadded xs n 18446744073709551615 → a < 18446744073709551615 → 0 < n → r < length xs
    → (0 < r → get_or xs r 0 ≤ a) → r < n
found_within xs n a r pads l s w f =
    let high : n ≤ r → get_or xs r 0 ≡ 18446744073709551615 = λ k. pad_at xs n r _ pads k w in
    grind (arith, high, f, cases_lt r n)

pub found_from : (xs bs cs : List ℕ) (n a r : ℕ) → length bs ≡ length xs → length cs ≡ length xs → n ≤ length xs → r < n
    → (0 < r → get_or xs r 0 ≤ a) → 0 < r → (nth (rows (take n xs) (take n bs) (take n cs)) r).at ≤ a
found_from xs bs cs n a r p q h l f s = omega (arith, f s, ap (λ (e : Entry). e.at) (read xs bs cs n r blank p q h l))

-- The lists of entries after a split.
rows-take : (xs bs cs : List ℕ) (k : ℕ) → rows (take k xs) (take k bs) (take k cs) ≡ take k (rows xs bs cs)
rows-take [] bs cs zero = refl
rows-take [] bs cs (suc k) = refl
rows-take (x ∷ xs) bs cs zero = refl
rows-take (x ∷ xs) [] cs (suc k) = refl
rows-take (x ∷ xs) (b ∷ bs) [] (suc k) = refl
rows-take (x ∷ xs) (b ∷ bs) (c ∷ cs) (suc k) = ap (λ z. record { at = x; longest = b; alignments = c } ∷ z) (rows-take xs bs cs k)

rows-none : (xs : List ℕ) → rows xs [] [] ≡ []
rows-none [] = refl
rows-none (x ∷ xs) = refl

rows-drop : (xs bs cs : List ℕ) (k : ℕ) → length bs ≡ length xs → length cs ≡ length xs
    → rows (drop k xs) (drop k bs) (drop k cs) ≡ drop k (rows xs bs cs)
rows-drop [] [] [] zero p q = refl
rows-drop [] [] [] (suc k) p q = refl
rows-drop [] (b ∷ bs) cs k p q = absurd (omega (arith, p))
rows-drop [] [] (c ∷ cs) k p q = absurd (omega (arith, q))
rows-drop (x ∷ xs) [] cs k p q = absurd (omega (arith, p))
rows-drop (x ∷ xs) (b ∷ bs) [] k p q = absurd (omega (arith, q))
rows-drop (x ∷ xs) (b ∷ bs) (c ∷ cs) zero p q = refl
rows-drop (x ∷ xs) (b ∷ bs) (c ∷ cs) (suc k) p q = rows-drop xs bs cs k (omega (arith, p)) (omega (arith, q))

pub lower_rows : (xs bs cs xt bt ct : List ℕ) (n k : ℕ) → k ≤ n → take k xt ≡ take k xs → take k bt ≡ take k bs → take k ct ≡ take k cs
    → rows (take k xt) (take k bt) (take k ct) ≡ take k (rows (take n xs) (take n bs) (take n cs))
lower_rows xs bs cs xt bt ct n k h f g i =
    rw (f, g, i, sym (take-take k n xs h), sym (take-take k n bs h), sym (take-take k n cs h)) (rows-take (take n xs) (take n bs) (take n cs) k)

pub upper_rows : (xs bs cs xt bt ct : List ℕ) (n k : ℕ) → length bs ≡ length xs → length cs ≡ length xs → n ≤ length xs
    → take (n - k) xt ≡ drop k (take n xs) → take (n - k) bt ≡ drop k (take n bs) → take (n - k) ct ≡ drop k (take n cs)
    → rows (take (n - k) xt) (take (n - k) bt) (take (n - k) ct) ≡ drop k (rows (take n xs) (take n bs) (take n cs))
upper_rows xs bs cs xt bt ct n k p q h f g i =
    let x : length (take n xs) ≡ n = length-take-le n xs h in
    let b : length (take n bs) ≡ n = length-take-le n bs (omega (arith, p)) in
    let c : length (take n cs) ≡ n = length-take-le n cs (omega (arith, q)) in
    rw (f, g, i) (rows-drop (take n xs) (take n bs) (take n cs) k (omega (arith, x, b)) (omega (arith, x, c)))

-- A list of no entries uses no item.
pub none_used : (xs bs cs : List ℕ) (n : ℕ) → length bs ≡ length xs → length cs ≡ length xs → n ≤ length xs
    → rows (take n xs) (take n bs) (take n cs) ≡ [] → n ≡ 0
none_used xs bs cs n p q h e = omega (arith, ap length e, length_of xs bs cs n p q h)
