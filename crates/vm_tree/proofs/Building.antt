-- A tree that is built of leaves.
use Rattle.std.proofs.Common.{◌≡◌, ℕ, zero, suc, ◌+◌, ◌-◌, ◌*◌, ◌/◌, ◌%◌, ◌^◌, ◌≤◌, ◌<◌, List, [], ◌∷◌, ◌++◌, map, length, Option, Box, ◌∙◌, sym, refl, ap, subst, arith, inl, inr, append_assoc, length-append}
use Rattle.std.proofs.Math.Nat.{mul-le-mul, pow-suc}
use Rattle.std.proofs.lemmas.Bool.{cases_lt}
use Rattle.std.specs.declared.alloc.Global.{Global}
use Rattle.std.specs.List.{insert}
use Rattle.vm_tree.specs.Entry.{Entry}
use Rattle.vm_tree.specs.Rows.{sum_of}
use Rattle.vm_tree.specs.Slots.{held, IsDense}
use Rattle.vm_tree.specs.Subtree.{Subtree, leaf_of, leaves_of, entry_of, front, over, kids, IsFull, AreFull, AllOf}
use Rattle.vm_tree.specs.Building.{IsRow, IsShare, IsBuilt, IsBuiltTree}
use Rattle.vm_tree.specs.declared.node.Kids.{Kids}
use Rattle.vm_tree.specs.declared.node.Kids.TheVariants.{Leaves, Nodes}
use Rattle.vm_tree.specs.Nodes.{kids_of, AreUnder}
use Rattle.vm_tree.proofs.Flats.{flat-append, front_is, full_over, sum-entries, all_right}

-- ---- What is stored beside a node
module _ {X : Type 0} (entry : X → Entry) (enough : X → Type 0) where
  under_sum : (es : List Entry) (k : Kids X) → AreUnder entry enough es k → sum_of es ≡ entry_of entry (over (kids_of k))
  under_sum es (Leaves os) u = ap sum_of u.entries ∙ sum-entries entry enough _ _ u.even
  under_sum es (Nodes os) u = ap sum_of u.entries ∙ sum-entries entry enough _ _ u.even

  pub node_entry : (es : List Entry) (k : Kids X) (s : Subtree X) → AreUnder entry enough es k → over (kids_of k) ≡ s →
      sum_of es ≡ entry_of entry s
  node_entry es k s u e = under_sum es k u ∙ ap (entry_of entry) e

-- ---- Children, one after the other
module _ {X C : Type 0} (entry : X → Entry) (enough : X → Type 0) (tree : Box C Global → Subtree X) (h : ℕ) where
  at_end : {Y : Type 0} (xs : List Y) (i : ℕ) (x : Y) → length xs ≡ i → insert xs i x ≡ xs ++ (x ∷ [])
  at_end [] zero x n = refl
  at_end [] (suc i) x n = absurd (omega arith)
  at_end (y ∷ xs) zero x n = absurd (omega arith)
  at_end (y ∷ xs) (suc i) x n = ap (λ ys. y ∷ ys) (at_end xs i x (omega arith))

  map_end : {Y Z : Type 0} (f : Y → Z) (xs : List Y) (x : Y) → map f (xs ++ (x ∷ [])) ≡ map f xs ++ (f x ∷ [])
  map_end f [] x = refl
  map_end f (y ∷ xs) x = ap (λ ys. f y ∷ ys) (map_end f xs x)

  full_end : (ss : List (Subtree X)) (s : Subtree X) → AreFull enough h ss → IsFull enough h s → AreFull enough h (ss ++ (s ∷ []))
  full_end [] s a f = (f, tt)
  full_end (t ∷ ss) s a f = (a.0, full_end ss s a.1 f)

  length_map : {Y Z : Type 0} (f : Y → Z) (xs : List Y) → length (map f xs) ≡ length xs
  length_map f [] = refl
  length_map f (x ∷ xs) = omega (arith, length_map f xs)

  nil_right : (xs : List X) → xs ++ [] ≡ xs
  nil_right [] = refl
  nil_right (x ∷ xs) = ap (λ ys. x ∷ ys) (nil_right xs)

  pub row_first : (es : List Entry) (os : List (Option (Box C Global))) (old : List X) → es ≡ [] → IsDense os → held os ≡ [] → AllOf enough old →
      IsRow entry enough tree h 0 es os old old 0
  row_first es os old e d z a = record {
    dense = d;
    count = ap length z;
    entries = e ∙ sym (ap (λ bs. map (entry_of entry) (map tree bs)) z);
    even = subst (λ bs. AreFull enough h (map tree bs)) (sym z) tt;
    cut = sym (ap (λ bs. leaves_of (map tree bs) ++ old) z);
    total = ap (λ bs. length (leaves_of (map tree bs))) z;
    all = a;
  }

  pub row_entries : (i m : ℕ) (es : List Entry) (os : List (Option (Box C Global))) (old now : List X) →
      IsRow entry enough tree h i es os old now m → length es ≡ i
  row_entries i m es os old now r = ap length r.entries ∙ length_map (entry_of entry) (map tree (held os)) ∙ length_map tree (held os) ∙ r.count

  pub row_next : (i m k : ℕ) (es fs : List Entry) (e : Entry) (os ps : List (Option (Box C Global))) (x : Box C Global) (old now new : List X) →
      IsRow entry enough tree h i es os old now m → IsFull enough h (tree x) → now ≡ (tree x).leaves ++ new → e ≡ entry_of entry (tree x)
      → fs ≡ insert es i e → IsDense ps → held ps ≡ insert (held os) i x → k ≡ m + length (tree x).leaves → IsRow entry enough tree h (i + 1) fs ps old new k
  row_next i m k es fs e os ps x old now new r f c q g d z y =
      let is : held ps ≡ held os ++ (x ∷ []) = z ∙ at_end (held os) i x r.count in
      let trees : map tree (held ps) ≡ map tree (held os) ++ (tree x ∷ []) = ap (map tree) is ∙ map_end tree (held os) x in
      let leaves : leaves_of (map tree (held ps)) ≡ leaves_of (map tree (held os)) ++ (tree x).leaves =
      ap leaves_of trees ∙ flat-append (map tree (held os)) (tree x ∷ []) ∙ ap (λ ys. leaves_of (map tree (held os)) ++ ys) (nil_right (tree x).leaves) in
      record {
        dense = d;
        count = omega (arith, ap length is, length-append (held os) (x ∷ []), r.count);
        entries = g ∙ at_end es i e (row_entries i m es os old now r) ∙ ap (λ zs. zs ++ (e ∷ [])) r.entries
            ∙ ap (λ v. map (entry_of entry) (map tree (held os)) ++ (v ∷ [])) q ∙ sym (map_end (entry_of entry) (map tree (held os)) (tree x))
            ∙ ap (map (entry_of entry)) (sym trees);
        even = subst (AreFull enough h) (sym trees) (full_end (map tree (held os)) (tree x) r.even f);
        cut = r.cut ∙ ap (λ ys. leaves_of (map tree (held os)) ++ ys) c
            ∙ sym (append_assoc (leaves_of (map tree (held os))) (tree x).leaves new) ∙ ap (λ ys. ys ++ new) (sym leaves);
        total = omega (arith, ap length leaves, length-append (leaves_of (map tree (held os))) (tree x).leaves, r.total);
        all = all_right enough (tree x).leaves new (subst (AllOf enough) c r.all);
      }

  pub row_built : (levels below n i : ℕ) (es : List Entry) (os : List (Option (Box C Global))) (old now : List X) →
      IsRow entry enough tree h i es os old now n → 0 < i → n ≤ below * i → h ≡ levels + 1 →
      IsBuilt enough levels below n old now (over (map tree (held os)))
  row_built levels below n i es os old now r p b q =
      let k : length (map tree (held os)) ≡ i = length_map tree (held os) ∙ r.count in
      let f : front (map tree (held os)) ≡ h = front_is enough h (map tree (held os)) r.even (omega arith) in
      record {
        height = omega arith;
        cut = r.cut;
        count = r.total;
        fan = omega (arith, b, ap (λ m. below * m) k);
        full = λ s. (let e : h + 1 ≡ levels + 2 = omega arith in
            subst (λ m. IsFull enough m (over (map tree (held os)))) e (full_over enough h (map tree (held os)) r.even s (omega (arith, length_map tree (held os), r.dense.fits))));
        all = r.all;
      }

-- A leaf as a child.
pub leaf_full : {X : Type 0} (enough : X → Type 0) (x : X) → enough x → IsFull enough 1 (leaf_of x)
leaf_full enough x e = record {
  height = refl;
  high = omega arith;
  fan = λ p. absurd (omega arith);
  bound = omega (arith, five);
  few = omega arith;
  most = omega arith;
  some = omega arith;
  all = (e, tt);
}
  where
    five : 5 ^ 1 ≡ 5
    five = refl

pub first_enough : {X : Type 0} (enough : X → Type 0) (xs : List X) (x : X) (ys : List X) → AllOf enough xs → xs ≡ x ∷ ys → enough x
first_enough enough xs x ys a e = (subst (AllOf enough) e a).0

-- ---- The shares
-- One of r shares is the quotient, and the others are left.
pub share_first : (r lo hi rest : ℕ) → 0 < r → IsShare r lo hi rest → (lo ≤ rest / r) × (rest / r ≤ hi)
share_first r lo hi rest p s =
    let q = rest / r in
    let e : r * (rest / r) + rest % r ≡ rest = omega arith in
    let m : rest % r < r = omega arith in (
      elim (cases_lt (rest / r) lo) [
        | inr k ↦ k
        | inl k ↦ (
            let x : r * (rest / r + 1) ≤ r * lo = mul-le-mul (omega arith) (omega arith) in
            let y : r * (rest / r + 1) ≡ r * (rest / r) + r = next r (rest / r) in
            absurd (omega (arith, s.some))
            )
      ],
      elim (cases_lt hi (rest / r)) [
        | inr k ↦ k
        | inl k ↦ (
            let x : r * (hi + 1) ≤ r * (rest / r) = mul-le-mul (omega arith) (omega arith) in
            let y : r * (hi + 1) ≡ r * hi + r = next r hi in
            absurd (omega (arith, s.most))
            )
      ],
    )
  where
    next : (a b : ℕ) → a * (b + 1) ≡ a * b + a
    next a b = omega arith

pub share_rest : (r lo hi rest : ℕ) → IsShare (suc r) lo hi rest → IsShare r lo hi (rest - rest / suc r)
share_rest r lo hi rest s =
    let q = share_first (suc r) lo hi rest (omega arith) s in
    let e : suc r * (rest / suc r) + rest % suc r ≡ rest = omega arith in
    let m : rest % suc r < suc r = omega arith in
    let y : suc r * (rest / suc r) ≡ r * (rest / suc r) + rest / suc r = next r (rest / suc r) in
    let low : r * lo ≤ r * (rest / suc r) = mul-le-mul (omega arith) q.0 in
    let high : r * (rest / suc r) ≤ r * hi = mul-le-mul (omega arith) q.1 in
    record {
      some = omega arith;
      most = elim (cases_lt (rest / suc r) hi) [
        | inl k ↦ (
            let x : r * (rest / suc r + 1) ≤ r * hi = mul-le-mul (omega arith) (omega arith) in
            let z : r * (rest / suc r + 1) ≡ r * (rest / suc r) + r = more r (rest / suc r) in
            omega arith
            )
        | inr k ↦ (
            let same : rest / suc r ≡ hi = omega arith in
            let z : suc r * hi ≡ r * hi + hi = next r hi in
            omega (arith, s.most, ap (λ v. r * v) same)
            )
      ];
    }
  where
    next : (a b : ℕ) → suc a * b ≡ a * b + b
    next a b = omega arith

    more : (a b : ℕ) → a * (b + 1) ≡ a * b + a
    more a b = omega arith

-- The number of children, and the shares of them.
pub share_count : (n b : ℕ) → 0 < b → 16 * b < n → n ≤ 16 * (16 * b)
    → (2 ≤ (n - 1) / (16 * b) + 1) × ((n - 1) / (16 * b) + 1 ≤ 16) × IsShare ((n - 1) / (16 * b) + 1) (8 * b) (16 * b) n
share_count n b p m f =
    let q = (n - 1) / (16 * b) in
    let e : 16 * b * ((n - 1) / (16 * b)) + (n - 1) % (16 * b) ≡ n - 1 = omega arith in
    let l : (n - 1) % (16 * b) < 16 * b = omega arith in
    let two : 1 ≤ (n - 1) / (16 * b) = elim (cases_lt 0 ((n - 1) / (16 * b))) [
      | inl k ↦ k
      | inr k ↦ (let z : (n - 1) / (16 * b) ≡ 0 = omega arith in absurd (omega (arith, ap (λ v. 16 * b * v) z)))
    ] in
    let most : (n - 1) / (16 * b) ≤ 15 = elim (cases_lt 15 ((n - 1) / (16 * b))) [
      | inr k ↦ k
      | inl k ↦ (let x : 16 * b * 16 ≤ 16 * b * ((n - 1) / (16 * b)) = mul-le-mul (omega arith) k in absurd (omega arith))
    ] in
    let y : ((n - 1) / (16 * b) + 1) * (16 * b) ≡ 16 * b * ((n - 1) / (16 * b)) + 16 * b = turn ((n - 1) / (16 * b)) (16 * b) in
    let z : ((n - 1) / (16 * b) + 1) * (8 * b) ≡ 8 * (b * ((n - 1) / (16 * b))) + 8 * b = half ((n - 1) / (16 * b)) b in
    let w : 16 * b * ((n - 1) / (16 * b)) ≡ 16 * (b * ((n - 1) / (16 * b))) = group b ((n - 1) / (16 * b)) in
    let v : b * 1 ≤ b * ((n - 1) / (16 * b)) = mul-le-mul (omega arith) two in
    (omega arith, omega arith, record { some = omega arith; most = omega arith })
  where
    turn : (q b : ℕ) → (q + 1) * b ≡ b * q + b
    turn q b = omega arith

    half : (q b : ℕ) → (q + 1) * (8 * b) ≡ 8 * (b * q) + 8 * b
    half q b = omega arith

    group : (b q : ℕ) → 16 * b * q ≡ 16 * (b * q)
    group b q = omega arith

-- The part of a child.
pub record IsPart (b rest r part : ℕ) : Type 0 where
  pub many : b < part
  pub few : part ≤ 16 * b
  pub low : 8 * b ≤ part
  pub upto : part ≤ rest
  pub next : IsShare (r - 1) (8 * b) (16 * b) (rest - part)

pub part_of : (b rest r : ℕ) → 0 < b → 0 < r → IsShare r (8 * b) (16 * b) rest → IsPart b rest r (rest / r)
part_of b rest zero p q s = absurd (omega arith)
part_of b rest (suc r) p q s =
    let f = share_first (suc r) (8 * b) (16 * b) rest (omega arith) s in
    let e : suc r * (rest / suc r) + rest % suc r ≡ rest = omega arith in
    let d : suc r * (rest / suc r) ≡ r * (rest / suc r) + rest / suc r = next r (rest / suc r) in
    let one : suc r - 1 ≡ r = omega arith in
    record {
      many = omega (arith, f.0);
      few = f.1;
      low = f.0;
      upto = omega arith;
      next = subst (λ m. IsShare m (8 * b) (16 * b) (rest - rest / suc r)) (sym one) (share_rest r (8 * b) (16 * b) rest s);
    }
  where
    next : (a b : ℕ) → suc a * b ≡ a * b + b
    next a b = omega arith

-- The power of one level less.
pub record IsBelow (levels below b : ℕ) : Type 0 where
  pub power : b ≡ 16 ^ (levels - 1)
  pub whole : below ≡ 16 * b
  pub some : 0 < b

pub level_below : (levels below : ℕ) → 0 < levels → below ≡ 16 ^ levels → IsBelow levels below (below / 16)
level_below zero below p e = absurd (omega arith)
level_below (suc k) below p e =
    let one : suc k - 1 ≡ k = omega arith in
    let q = pow-suc 16 k in
    let d : below / 16 ≡ 16 ^ k = omega arith in
    record { power = d ∙ ap (λ m. 16 ^ m) (sym one); whole = omega arith; some = omega (arith, pow_some k) }
  where
    pow_some : (k : ℕ) → 1 ≤ 16 ^ k
    pow_some zero = omega (arith, zeroth)
      where
        zeroth : 16 ^ 0 ≡ 1
        zeroth = refl
    pow_some (suc k) = omega (arith, pow_some k, pow-suc 16 k)

-- The number of children is enough.
pub count_most : (n b : ℕ) → 0 < b → n ≤ b * ((n - 1) / b + 1)
count_most n b p =
    let e : b * ((n - 1) / b) + (n - 1) % b ≡ n - 1 = omega arith in
    let m : (n - 1) % b < b = omega arith in
    let d : b * ((n - 1) / b + 1) ≡ b * ((n - 1) / b) + b = next b ((n - 1) / b) in
    omega arith
  where
    next : (b q : ℕ) → b * (q + 1) ≡ b * q + b
    next b q = omega arith

-- A node of 8 * b leaves whose children have up to b has at least 8.
pub eight_kids : (n b k : ℕ) → 0 < b → n ≤ b * k → 8 * b ≤ n → 8 ≤ k
eight_kids n b k p m l =
    elim (cases_lt k 8) [
      | inr q ↦ q
      | inl q ↦ (let x : b * (k + 1) ≤ b * 8 = mul-le-mul (omega arith) (omega arith) in let y : b * (k + 1) ≡ b * k + b = next b k in absurd (omega arith))
    ]
  where
    next : (b q : ℕ) → b * (q + 1) ≡ b * q + b
    next b q = omega arith

-- There are as many leaves left as are to be shared.
pub row_left : {X C : Type 0} (entry : X → Entry) (enough : X → Type 0) (tree : Box C Global → Subtree X) (h i n rest : ℕ) (es : List Entry)
    (os : List (Option (Box C Global))) (old now : List X) → IsRow entry enough tree h i es os old now (n - rest) → rest ≤ n → n ≤ length old
    → rest ≤ length now
row_left entry enough tree h i n rest es os old now r p q =
    omega (arith, ap length r.cut, length-append (leaves_of (map tree (held os))) now, r.total)

-- ---- A whole tree
pub one_leaf : {X : Type 0} (enough : X → Type 0) (old new : List X) (x : X) → old ≡ x ∷ new → IsBuiltTree enough 1 old new (leaf_of x)
one_leaf enough old new x e = record {
  cut = e;
  count = refl;
  root = λ p. absurd (omega arith);
  lowest = λ p. absurd (omega arith);
  fits = omega (arith, one);
}
  where
    one : 16 ^ (1 - 1) ≡ 1
    one = refl

pub one_node : {X : Type 0} (enough : X → Type 0) (levels below n : ℕ) (old new : List X) (s : Subtree X) → IsBuilt enough levels below n old new s
    → below ≡ 16 ^ levels → below < n → n ≤ 16 * below → (2 ≤ kids s) × IsBuiltTree enough n old new s
one_node enough levels below n old new s b p m f =
    let h : s.height - 2 ≡ levels = omega (arith, b.height) in
    let k : s.height - 1 ≡ suc levels = omega (arith, b.height) in
    let two : 2 ≤ kids s = elim (cases_lt (kids s) 2) [
      | inr q ↦ q
      | inl q ↦ (let x : below * kids s ≤ below * 1 = mul-le-mul (omega arith) (omega arith) in absurd (omega (arith, b.fan)))
    ] in (
      two,
      record {
        cut = b.cut;
        count = b.count;
        root = λ _. two;
        lowest = λ _. rw h (omega arith);
        fits = rw k (omega (arith, pow-suc 16 levels));
      },
    )
