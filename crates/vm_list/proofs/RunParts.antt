-- The runs of the ids from an id on, and of those up to an id.
use Rattle.std.proofs.Common.{◌≡◌, ℕ, zero, ◌&&◌, append_assoc, suc, ◌+◌, ◌-◌, ◌<◌, ◌≤◌, Bool, true, false, nat_le, List, [], ◌∷◌, ◌++◌, length, reverse, max, sym, ap, ◌∙◌, subst, arith, inl, inr, Option, Some, None, option_to_list}
use Rattle.std.proofs.lemmas.Bool.{le-leb, lt-leb, cases_lt}
use Rattle.std.proofs.lemmas.List.{append-nil, reverse-append}
use Rattle.std.proofs.lemmas.List.Elements.{filter-append, All-filter}
use Rattle.std.specs.Iterator.{YieldsLast}
use Rattle.std.specs.List.{All, filter, flat_map, range_with_len}
use Rattle.vm_tree.specs.Subtree.{AllOf}
use Rattle.vm_list.specs.declared.id_set.Run.{Run}
use Rattle.vm_list.specs.Entries.{at_or_above, is_between, between}
use Rattle.vm_list.specs.Runs.{ids_of_run, ids_of_runs, AreRuns, lowest_of, last_of}
use Rattle.vm_list.proofs.Falls.{all_both, all_weaker}
use Rattle.vm_list.proofs.Mids.{keeps, omits}
use Rattle.vm_list.proofs.Betweens.{between_reverse}
use Rattle.vm_list.proofs.Runs.{Near, near, lowest_below, found_near, near_reaches}
use Rattle.vm_list.proofs.RunsAgain.{ids_in_turn, all_filled}

-- ---- The ids of rows and runs
all_row : (a n : ℕ) → AllOf (λ i. (a ≤ i) × (i < a + n)) (range_with_len a n)
all_row a zero = tt
all_row a (suc n) = (
  (omega arith, omega arith),
  all_weaker (λ i. (a + 1 ≤ i) × (i < a + 1 + n)) (λ i. (a ≤ i) × (i < a + suc n)) (λ i p. (omega (arith, p.0), omega (arith, p.1)))
      (range_with_len (a + 1) n) (all_row (a + 1) n),
)

row_parted : (a m n : ℕ) → range_with_len a (m + n) ≡ range_with_len a m ++ range_with_len (a + m) n
row_parted a zero n =
    let all : 0 + n ≡ n = omega arith in
    let first : a ≡ a + 0 = omega arith in
    ap (range_with_len a) all ∙ ap (λ (i : ℕ). range_with_len i n) first
row_parted a (suc m) n =
    let more : suc m + n ≡ suc (m + n) = omega arith in
    let next : a + 1 + m ≡ a + suc m = omega arith in
    ap (range_with_len a) more
    ∙ ap (λ (is : List ℕ). a ∷ is) (row_parted (a + 1) m n ∙ ap (λ (i : ℕ). range_with_len (a + 1) m ++ range_with_len i n) next)

all_in_run : (r : Run) → AllOf (λ i. (r.first ≤ i) × (i ≤ r.last)) (ids_of_run r)
all_in_run r = all_weaker (λ i. (r.first ≤ i) × (i < r.first + (r.last + 1 - r.first))) (λ i. (r.first ≤ i) × (i ≤ r.last))
    (λ i p. (p.0, omega (arith, p.0, p.1))) (ids_of_run r) (all_row r.first (r.last + 1 - r.first))

ids_over : (end id : ℕ) (rs : List Run) → AreRuns end rs → id < lowest_of end rs → AllOf (λ i. id < i) (ids_of_runs rs)
ids_over end id [] a l = tt
ids_over end id (r ∷ rs) a l =
    let b = lowest_below r.first rs a.2 in
    all_both (λ i. id < i) (ids_of_runs rs) (ids_of_run r) (ids_over r.first id rs a.2 l)
    (all_weaker (λ i. (r.first ≤ i) × (i ≤ r.last)) (λ i. id < i) (λ i p. omega (arith, p.0, l, b)) (ids_of_run r) (all_in_run r))

ids_under : (end id : ℕ) (rs : List Run) → AreRuns end rs → end ≤ id + 1 → AllOf (λ i. i < id) (ids_of_runs rs)
ids_under end id [] a l = tt
ids_under end id (r ∷ rs) a l =
    all_both (λ i. i < id) (ids_of_runs rs) (ids_of_run r) (ids_under r.first id rs a.2 (omega (arith, a.0, a.1, l)))
    (all_weaker (λ i. (r.first ≤ i) × (i ≤ r.last)) (λ i. i < id) (λ i p. omega (arith, p.1, a.1, l)) (ids_of_run r) (all_in_run r))

-- ---- The last ids of runs
tops_over : (end id hi : ℕ) (rs : List Run) → AreRuns end rs → id < lowest_of end rs → end ≤ hi → AllOf (λ r. (id < r.last) × (r.last ≤ hi)) rs
tops_over end id hi [] a l h = tt
tops_over end id hi (r ∷ rs) a l h =
    let b = lowest_below r.first rs a.2 in
    ((omega (arith, a.0, b, l), omega (arith, a.1, h)), tops_over r.first id hi rs a.2 l (omega (arith, a.0, a.1, h)))

tops_under : (end id : ℕ) (rs : List Run) → AreRuns end rs → end ≤ id + 1 → AllOf (λ r. r.last < id) rs
tops_under end id [] a l = tt
tops_under end id (r ∷ rs) a l = (omega (arith, a.1, l), tops_under r.first id rs a.2 (omega (arith, a.0, a.1, l)))

ids_parted : (us : List Run) (r : Run) (ls : List Run) → ids_of_runs (us ++ r ∷ ls) ≡ (ids_of_runs ls ++ ids_of_run r) ++ ids_of_runs us
ids_parted [] r ls = sym (append-nil (ids_of_runs ls ++ ids_of_run r))
ids_parted (u ∷ us) r ls = ap (λ l. l ++ ids_of_run u) (ids_parted us r ls) ∙ append_assoc (ids_of_runs ls ++ ids_of_run r) (ids_of_runs us) (ids_of_run u)

module _ (id hi : ℕ) where
  run_passes : (r : Run) → id ≤ r.last → r.last ≤ hi → is_between last_of id hi r ≡ true
  run_passes r a b = ap (λ t. t && nat_le r.last hi) (le-leb _ _ a) ∙ ap (λ t. true && t) (le-leb _ _ b)

  run_fails : (r : Run) → r.last < id → is_between last_of id hi r ≡ false
  run_fails r a = ap (λ t. t && nat_le r.last hi) (lt-leb _ _ a)

-- ---- The ids from an id on
module _ (id hi end : ℕ) (rs : List Run) (a : AreRuns end rs) (h : end ≤ hi) where
  abbrev from : ℕ → Bool
  from i = nat_le id i

  -- The run without the ids below the id.
  abbrev cut_low : Run → Run
  cut_low r = record { first = max r.first id; last = r.last }

  cut_is : (r : Run) → id ≤ r.last → filter from (ids_of_run r) ≡ ids_of_run (cut_low r)
  cut_is r l = elim (cases_lt r.first id) [
    | inl p ↦ (
        let m : ℕ = id - r.first in
        let n : ℕ = r.last + 1 - id in
        let sum : r.last + 1 - r.first ≡ m + n = omega (arith, p, l) in
        let seam : r.first + m ≡ id = omega (arith, p) in
        let top : max r.first id ≡ id = omega (arith, p) in
        ap (λ k. filter from (range_with_len r.first k)) sum ∙ ap (filter from) (row_parted r.first m n)
        ∙ filter-append from (range_with_len r.first m) (range_with_len (r.first + m) n)
        ∙ ap (λ l. l ++ filter from (range_with_len (r.first + m) n)) (omits from (range_with_len r.first m)
        (all_weaker (λ i. (r.first ≤ i) × (i < r.first + m)) (λ i. from i ≡ false) (λ i q. lt-leb _ _ (omega (arith, q.1, seam))) (range_with_len r.first m) (all_row r.first m)))
        ∙ keeps from (range_with_len (r.first + m) n)
        (all_weaker (λ i. (r.first + m ≤ i) × (i < r.first + m + n)) (λ i. from i ≡ true) (λ i q. le-leb _ _ (omega (arith, q.0, seam))) (range_with_len (r.first + m) n) (all_row (r.first + m) n))
        ∙ ap (λ k. range_with_len k n) (seam ∙ sym top) ∙ ap (λ k. range_with_len (max r.first id) (r.last + 1 - k)) (sym top))
    | inr p ↦ (
        let top : max r.first id ≡ r.first = omega (arith, p) in
        keeps from (ids_of_run r)
        (all_weaker (λ i. (r.first ≤ i) × (i ≤ r.last)) (λ i. from i ≡ true) (λ i q. le-leb _ _ (omega (arith, q.0, p))) (ids_of_run r) (all_in_run r))
        ∙ ap (λ k. range_with_len k (r.last + 1 - k)) (sym top))
  ]

  none_ids : AreRuns (id + 1) rs → filter from (ids_of_runs rs) ≡ []
  none_ids p = omits from (ids_of_runs rs)
      (all_weaker (λ i. i < id) (λ i. from i ≡ false) (λ i q. lt-leb _ _ q) (ids_of_runs rs) (ids_under (id + 1) id rs p (omega arith)))

  none_runs : AreRuns (id + 1) rs → between last_of id hi rs ≡ []
  unfolding between
  none_runs p = omits (is_between last_of id hi) rs
      (all_weaker (λ r. r.last < id) (λ r. is_between last_of id hi r ≡ false) (run_fails id hi) rs (tops_under (id + 1) id rs p (omega arith)))

  module _ (n : Near end id rs) where
    some_ids : filter from (ids_of_runs rs) ≡ ids_of_run (cut_low n.at) ++ ids_of_runs n.upper
    some_ids =
        ap (λ l. filter from (ids_of_runs l)) n.parts ∙ ap (filter from) (ids_parted n.upper n.at n.lower)
        ∙ filter-append from (ids_of_runs n.lower ++ ids_of_run n.at) (ids_of_runs n.upper)
        ∙ ap (λ l. l ++ filter from (ids_of_runs n.upper)) (filter-append from (ids_of_runs n.lower) (ids_of_run n.at)
        ∙ ap (λ l. l ++ filter from (ids_of_run n.at)) (omits from (ids_of_runs n.lower)
        (all_weaker (λ i. i < id) (λ i. from i ≡ false) (λ i q. lt-leb _ _ q) (ids_of_runs n.lower) (ids_under (id + 1) id n.lower n.passed (omega arith))))
        ∙ cut_is n.at n.reaches)
        ∙ ap (λ l. ids_of_run (cut_low n.at) ++ l) (keeps from (ids_of_runs n.upper)
        (all_weaker (λ i. id < i) (λ i. from i ≡ true) (λ i q. le-leb _ _ (omega (arith, q))) (ids_of_runs n.upper)
        (ids_over end id n.upper n.above (omega (arith, n.apart, n.reaches)))))

    some_runs : between last_of id hi rs ≡ n.upper ++ n.at ∷ []
    unfolding between
    some_runs =
        let T = is_between last_of id hi in
        let k = lowest_below end n.upper n.above in
        ap (filter T) n.parts ∙ filter-append T n.upper (n.at ∷ n.lower)
        ∙ ap (λ l. l ++ filter T (n.at ∷ n.lower)) (keeps T n.upper
        (all_weaker (λ r. (id < r.last) × (r.last ≤ hi)) (λ r. T r ≡ true) (λ r q. run_passes id hi r (omega (arith, q.0)) q.1) n.upper
        (tops_over end id hi n.upper n.above (omega (arith, n.apart, n.reaches)) h)))
        ∙ ap (λ l. n.upper ++ l) (filter-append T (n.at ∷ []) n.lower
        ∙ ap (λ l. l ++ filter T n.lower) (keeps T (n.at ∷ []) (run_passes id hi n.at n.reaches (omega (arith, n.apart, k, h)), tt))
        ∙ ap (λ l. n.at ∷ l) (omits T n.lower
        (all_weaker (λ r. r.last < id) (λ r. T r ≡ false) (run_fails id hi) n.lower (tops_under (id + 1) id n.lower n.passed (omega arith)))))

    in_turn : between last_of id hi (reverse rs) ≡ n.at ∷ reverse n.upper
    in_turn = between_reverse last_of id hi rs ∙ ap reverse some_runs ∙ reverse-append n.upper (n.at ∷ [])

  none_in_turn : AreRuns (id + 1) rs → between last_of id hi (reverse rs) ≡ []
  none_in_turn p = between_reverse last_of id hi rs ∙ ap reverse (none_runs p)

  pub none_from : between last_of id hi (reverse rs) ≡ [] → [] ≡ filter from (ids_of_runs rs)
  none_from e = elim (near end id rs a) [
    | inl p ↦ sym (none_ids p)
    | inr n ↦ absurd (omega (arith, ap length (sym (in_turn n) ∙ e)))
  ]

  module _ (r : Run) (rest : List Run) (e : between last_of id hi (reverse rs) ≡ r ∷ rest) where
    found : (n : Near end id rs) × (n.at ≡ r) × (reverse n.upper ≡ rest)
    found = elim (near end id rs a) [
      | inl p ↦ absurd (omega (arith, ap length (sym (none_in_turn p) ∙ e)))
      | inr n ↦ (let f = sym (in_turn n) ∙ e in (n, cc, cc))
    ]

    pub some_from : ids_of_run (cut_low r) ++ flat_map ids_of_run rest ≡ filter from (ids_of_runs rs)
    some_from =
        let f = found in
        ap (λ r. ids_of_run (cut_low r) ++ flat_map ids_of_run rest) (sym f.1)
        ∙ ap (λ l. ids_of_run (cut_low f.0.at) ++ flat_map ids_of_run l) (sym f.2)
        ∙ ap (λ l. ids_of_run (cut_low f.0.at) ++ l) (ids_in_turn f.0.upper) ∙ sym (some_ids f.0)

    pub cut_filled : max r.first id ≤ r.last
    cut_filled = let f = found in subst (λ r. max r.first id ≤ r.last) f.1 (omega (arith, f.0.filled, f.0.reaches))

    pub rest_filled : All (λ r. r.first ≤ r.last) rest
    rest_filled = let f = found in subst (λ l. All (λ r. r.first ≤ r.last) l) f.2 (all_filled end f.0.upper f.0.above)

-- ---- The ids up to an id
module _ (id end : ℕ) (rs : List Run) (a : AreRuns end rs) where
  abbrev to : ℕ → Bool
  to i = nat_le i id

  -- The run without the ids above the id.
  abbrev cut_high : Run → Run
  cut_high r = record { first = r.first; last = id }

  abbrev ends_by : Run → Bool
  ends_by = is_between last_of 0 id

  ends : (r : Run) → r.last ≤ id → is_between last_of 0 id r ≡ true
  ends r l = run_passes 0 id r (omega arith) l

  ends_not : (r : Run) → id < r.last → is_between last_of 0 id r ≡ false
  ends_not r l = ap (λ t. t && nat_le r.last id) (le-leb 0 r.last (omega arith)) ∙ ap (λ t. true && t) (lt-leb _ _ l)

  cut_high_is : (r : Run) → r.first ≤ id → id < r.last → filter to (ids_of_run r) ≡ ids_of_run (cut_high r)
  cut_high_is r p l =
      let m : ℕ = id + 1 - r.first in
      let n : ℕ = r.last - id in
      let sum : r.last + 1 - r.first ≡ m + n = omega (arith, p, l) in
      let seam : r.first + m ≡ id + 1 = omega (arith, p) in
      ap (λ k. filter to (range_with_len r.first k)) sum ∙ ap (filter to) (row_parted r.first m n)
      ∙ filter-append to (range_with_len r.first m) (range_with_len (r.first + m) n)
      ∙ ap (λ l. l ++ filter to (range_with_len (r.first + m) n)) (keeps to (range_with_len r.first m)
      (all_weaker (λ i. (r.first ≤ i) × (i < r.first + m)) (λ i. to i ≡ true) (λ i q. le-leb _ _ (omega (arith, q.1, seam))) (range_with_len r.first m) (all_row r.first m)))
      ∙ ap (λ l. range_with_len r.first m ++ l) (omits to (range_with_len (r.first + m) n)
      (all_weaker (λ i. (r.first + m ≤ i) × (i < r.first + m + n)) (λ i. to i ≡ false) (λ i q. lt-leb _ _ (omega (arith, q.0, seam))) (range_with_len (r.first + m) n) (all_row (r.first + m) n)))
      ∙ append-nil (range_with_len r.first m)

  all_ids_to : (ls : List Run) → AreRuns (id + 1) ls → filter to (ids_of_runs ls) ≡ ids_of_runs ls
  all_ids_to ls p = keeps to (ids_of_runs ls)
      (all_weaker (λ i. i < id) (λ i. to i ≡ true) (λ i q. le-leb _ _ (omega (arith, q))) (ids_of_runs ls) (ids_under (id + 1) id ls p (omega arith)))

  all_runs_to : (ls : List Run) → AreRuns (id + 1) ls → filter ends_by ls ≡ ls
  all_runs_to ls p = keeps ends_by ls
      (all_weaker (λ r. r.last < id) (λ r. ends_by r ≡ true) (λ r q. ends r (omega (arith, q))) ls (tops_under (id + 1) id ls p (omega arith)))

  module _ (n : Near end id rs) where
    parted_ids : filter to (ids_of_runs rs) ≡ ids_of_runs n.lower ++ filter to (ids_of_run n.at)
    parted_ids =
        ap (λ l. filter to (ids_of_runs l)) n.parts ∙ ap (filter to) (ids_parted n.upper n.at n.lower)
        ∙ filter-append to (ids_of_runs n.lower ++ ids_of_run n.at) (ids_of_runs n.upper)
        ∙ ap (λ l. filter to (ids_of_runs n.lower ++ ids_of_run n.at) ++ l) (omits to (ids_of_runs n.upper)
        (all_weaker (λ i. id < i) (λ i. to i ≡ false) (λ i q. lt-leb _ _ q) (ids_of_runs n.upper)
        (ids_over end id n.upper n.above (omega (arith, n.apart, n.reaches)))))
        ∙ append-nil (filter to (ids_of_runs n.lower ++ ids_of_run n.at))
        ∙ filter-append to (ids_of_runs n.lower) (ids_of_run n.at)
        ∙ ap (λ l. l ++ filter to (ids_of_run n.at)) (all_ids_to n.lower n.passed)

    parted_runs : filter ends_by rs ≡ filter ends_by (n.at ∷ []) ++ n.lower
    parted_runs =
        ap (filter ends_by) n.parts ∙ filter-append ends_by n.upper (n.at ∷ n.lower)
        ∙ ap (λ l. l ++ filter ends_by (n.at ∷ n.lower)) (omits ends_by n.upper
        (all_weaker (λ r. (id < r.last) × (r.last ≤ end)) (λ r. ends_by r ≡ false) (λ r q. ends_not r q.0) n.upper
        (tops_over end id end n.upper n.above (omega (arith, n.apart, n.reaches)) (omega arith))))
        ∙ filter-append ends_by (n.at ∷ []) n.lower
        ∙ ap (λ l. filter ends_by (n.at ∷ []) ++ l) (all_runs_to n.lower n.passed)

  -- No run goes on past the id.
  pub all_to : ((r : Run) → Some r ≡ at_or_above last_of id rs → r.first ≤ id → r.last ≤ id) →
      flat_map ids_of_run (between last_of 0 id (reverse rs)) ≡ filter to (ids_of_runs rs)
  unfolding between
  all_to f =
      ap (flat_map ids_of_run) (between_reverse last_of 0 id rs) ∙ ids_in_turn (filter ends_by rs)
      ∙ elim (near end id rs a) [
        | inl p ↦ ap ids_of_runs (all_runs_to rs p) ∙ sym (all_ids_to rs p)
        | inr n ↦ elim (cases_lt id n.at.last) [
          | inl l ↦ ap ids_of_runs (parted_runs n ∙ ap (λ l. l ++ n.lower) (omits ends_by (n.at ∷ []) (ends_not n.at l, tt)))
              ∙ sym (parted_ids n ∙ ap (λ l. ids_of_runs n.lower ++ l) (omits to (ids_of_run n.at)
              (all_weaker (λ i. (n.at.first ≤ i) × (i ≤ n.at.last)) (λ i. to i ≡ false) (λ i q. lt-leb _ _
              (elim (cases_lt id n.at.first) [
                | inl k ↦ omega (arith, k, q.0)
                | inr k ↦ absurd (let g = f n.at (sym (near_reaches end id rs n)) k in omega (arith, g, l))
              ])) (ids_of_run n.at) (all_in_run n.at)))
              ∙ append-nil (ids_of_runs n.lower))
          | inr l ↦ ap ids_of_runs (parted_runs n ∙ ap (λ l. l ++ n.lower) (keeps ends_by (n.at ∷ []) (ends n.at l, tt)))
              ∙ sym (parted_ids n ∙ ap (λ l. ids_of_runs n.lower ++ l) (keeps to (ids_of_run n.at)
              (all_weaker (λ i. (n.at.first ≤ i) × (i ≤ n.at.last)) (λ i. to i ≡ true) (λ i q. le-leb _ _ (omega (arith, q.1, l))) (ids_of_run n.at) (all_in_run n.at))))
        ]
      ]

  -- This run goes on past the id.
  pub part_to : (r : Run) → Some r ≡ at_or_above last_of id rs → r.first ≤ id → id < r.last →
      flat_map ids_of_run (between last_of 0 id (reverse rs)) ++ ids_of_run (cut_high r) ≡ filter to (ids_of_runs rs)
  unfolding between
  part_to r e p l =
      let g = found_near id rs end a r e in
      let n = g.0 in
      let k : n.at.first ≤ id = subst (λ r. r.first ≤ id) (sym g.1) p in
      let m : id < n.at.last = subst (λ r. id < r.last) (sym g.1) l in
      ap (λ l. flat_map ids_of_run l ++ ids_of_run (cut_high r)) (between_reverse last_of 0 id rs)
      ∙ ap (λ l. l ++ ids_of_run (cut_high r)) (ids_in_turn (filter ends_by rs)
      ∙ ap ids_of_runs (parted_runs n ∙ ap (λ l. l ++ n.lower) (omits ends_by (n.at ∷ []) (ends_not n.at m, tt))))
      ∙ ap (λ r. ids_of_runs n.lower ++ ids_of_run (cut_high r)) (sym g.1)
      ∙ ap (λ l. ids_of_runs n.lower ++ l) (sym (cut_high_is n.at k m)) ∙ sym (parted_ids n)

  -- No run of a part is empty.
  pub part_filled : (lo hi : ℕ) → All (λ r. r.first ≤ r.last) (between last_of lo hi (reverse rs))
  unfolding between
  part_filled lo hi = All-filter (is_between last_of lo hi) (λ r. r.first ≤ r.last) (reverse rs) (all_filled end rs a)

pub last_is : (old left : List Run) (o : Option Run) → YieldsLast (λ (rs : List Run). rs) old o left → old ≡ left ++ option_to_list o
last_is old left None s = s.0 ∙ sym (ap (λ l. l ++ []) s.1)
last_is old left (Some r) s = s
