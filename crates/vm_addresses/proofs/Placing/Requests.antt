-- Derives the result of a request from that of its search.
use Rattle.std.proofs.Common.{◌≡◌, ◌≢◌, ℕ, ◌+◌, ◌-◌, ◌*◌, ◌<◌, ◌≤◌, false, Bool, List, [], ◌∷◌, ◌++◌, length, refl, sym, ap, ◌∙◌, subst, arith, inl, inr, ⊎_elim, Result, Ok, Err, OnErr, IfErr, IfOk, IsOk, Option, Some, None}
use Rattle.std.specs.Prelude.{min}
use Rattle.std.specs.List.{list_any}
use Rattle.std.proofs.lemmas.Bool.{cases_lt}
use Rattle.vm_ranges.specs.Cases.{IsTestOf}
use Rattle.vm_ranges.specs.Range.{Range, MAX, IsIn, span}
use Rattle.vm_ranges.specs.Request.{Request, IsRequest}
use Rattle.vm_ranges.specs.declared.error.Error.{Error}
use Rattle.vm_ranges.specs.declared.error.Error.TheVariants.{Overflow, ResourceNotAvailable, OutOfMemory}
use Rattle.vm_ranges.specs.declared.constraint.AllocPolicy.TheVariants.{ExactMatch}
use Rattle.vm_ranges.specs.declared.state.NodeState.TheVariants.{Free, Allocated}
use Rattle.vm_ranges.specs.declared.state.NodeState.{NodeState}
use Rattle.vm_leaf.specs.declared.block.Block.{Block}
use Rattle.vm_leaf.specs.Block.{free_block}
use Rattle.vm_ranges.specs.Windows.{common, part_in, window_in}
use Rattle.vm_space.specs.Allocation.{ListPlace, window_of, IsPlaceIn, SettlesAt, SettlesIn, HasNoPlace, IsOutOfMemory, IsSearch, AllocatesExact, AllocatesFit, IsClosestPlace}
use Rattle.vm_space.specs.NodeCounts.{has_fit_in, IsSearchCount}
use Rattle.vm_space.specs.Trees.{held_blocks, one_if_held, IsBlockTree}
use Rattle.vm_space.specs.Spares.{HasSpare}
use Rattle.vm_space.specs.Placing.{IsStartIn}
use Rattle.vm_space.specs.Shape.{Shape, blocks, height_of, node_count}
use Rattle.vm_tree.specs.declared.end.End.{End}
use Rattle.vm_tree.specs.declared.end.End.TheVariants.{First, Last}
use Rattle.vm_space.specs.declared.search.Search.{Search}
use Rattle.vm_space.specs.declared.search.Taken.{Taken}
use Rattle.vm_space.specs.declared.search.Refusal.{Refusal}
use Rattle.vm_space.specs.declared.search.Refusal.TheVariants.{NoPlace, Held, PastMax, OutOfMemory as NoMemory, CannotSplit}
use Rattle.vm_space.proofs.SearchedBlocks.{none_found}
use Rattle.vm_ranges.proofs.Power.{alignment_pos}
use Rattle.vm_ranges.specs.Address.{AddressState}
use Rattle.vm_ranges.specs.Answer.{SPLIT_LIMIT_MIN_HELD, ByStart, ByExactPolicy, Grants}
use Rattle.vm_addresses.specs.Counts.GapSearch.{SearchesGaps}
use Rattle.vm_addresses.specs.Counts.Steps.{max_entered, IsGrantCount}
use Rattle.vm_addresses.specs.Tree.Allocation.{with_error, taken_range, IsSearchOf, Takes, IsAllocation}
use Rattle.vm_leaf.specs.SpaceBlocks.{range_if_held, held_of, blocks_state, TilesSpace}
use Rattle.vm_leaf.proofs.Spaces.OneList.{same_block}
use Rattle.vm_addresses.proofs.Counts.GapSearches.{searches, exact_searches}
use Rattle.vm_addresses.proofs.Placing.Places.{fit_grants, place_chosen}
use Rattle.vm_addresses.specs.Tree.Allocation.{policy_of}
use Rattle.vm_addresses.proofs.Placing.ExactPlaces.{exact_grants}
use Rattle.vm_addresses.proofs.Results.Requests.{request_in, with_policy}
use Rattle.vm_addresses.proofs.Trees.Ends.{ends}

-- ---- The number of held blocks
one_of : (s : NodeState) (k : Range) (n : ℕ) (rs : List Range) → n ≡ length rs → one_if_held s + n ≡ length (range_if_held s k ++ rs)
one_of Free k n rs e = omega (arith, e)
one_of Allocated k n rs e = omega (arith, e)

pub held_blocks_are : (bs : List Block) → held_blocks bs ≡ length (held_of bs)
held_blocks_are [] = refl
held_blocks_are (b ∷ bs) = one_of b.state b.key (held_blocks bs) (held_of bs) (held_blocks_are bs)

-- ---- The meaning of a refusal and of a range
-- The place is in a gap of the list, and the range of the search lies in this gap.
record IsPlaceOf (search : Search) (old : List Block) (place : ListPlace) : Type 0 where
  cut : IsPlaceIn old place
  in_gap : (place.key.start ≤ place.start) × (place.start + search.size ≤ place.key.end + 1)

settled_takes : (search : Search) (n : ℕ) (old new : List Block) (range : Range) (place : ListPlace) (found : Result Taken Refusal) →
    search.size ≡ n → IsPlaceOf search old place → SettlesAt search place new found →
    IfOk (with_error range found) (λ taken. Takes search.can_split n old new taken)
settled_takes search n old new range place (Ok taken) e s h = record
    { search = search; size = e; split = refl; range = record { place = place; cut = s.cut; in_gap = s.in_gap; at = h } }
settled_takes search n old new range place (Err e) is s h = tt

-- ---- A search without a place
-- The answer NoPlace is returned only if there is no place.
none_closest : (end : End) (search : Search) (old new : List Block) → AllocatesFit end search old new (Err NoPlace) → HasNoPlace search old
none_closest end search old new h = elim h [ inl x ↦ x.0 | inr x ↦ absurd x.2 ]

none_missed : (search : Search) → IsSearch search → (bs : List Block) → HasNoPlace search bs
    → list_any (has_fit_in (window_of search) search.size search.alignment) bs ≡ false
none_missed search valid bs h = none_found (window_of search) search.size search.alignment bs (alignment_pos search.alignment valid.aligned) h

-- ---- The parts that do not depend on the policy
unchanged_if : (range : Range) (old new : Shape) (found : Result Taken Refusal) → OnErr found (new ≡ old) →
    OnErr (with_error range found) (new ≡ old)
unchanged_if range old new (Ok taken) u = u
unchanged_if range old new (Err e) u = u

blocks_unchanged : (old new : Shape) (found : Result Taken Refusal) → OnErr found (new ≡ old) → OnErr found (blocks new ≡ blocks old)
blocks_unchanged old new (Ok taken) u = u
blocks_unchanged old new (Err e) u = ap blocks u

no_place_if : (range : Range) (found : Result Taken Refusal) → taken_range (with_error range found) ≡ Err ResourceNotAvailable →
    found ≡ Err NoPlace
no_place_if range (Ok taken) e = absurd (cc e)
no_place_if range (Err NoPlace) e = refl
no_place_if range (Err Held) e = absurd (cc e)
no_place_if range (Err PastMax) e = absurd (cc e)
no_place_if range (Err (NoMemory x)) e = absurd (cc e)
no_place_if range (Err CannotSplit) e = absurd (cc e)

was_ok : (range : Range) (found : Result Taken Refusal) → IsOk (taken_range (with_error range found)) → IsOk found
was_ok range (Ok taken) o = refl
was_ok range (Err e) o = absurd (cc o)

-- A search that did not lack memory.
no_lack : (range : Range) (found : Result Taken Refusal) → IfErr found (λ refusal. ¬ IsOutOfMemory refusal) → with_error range found ≢ Err OutOfMemory
no_lack range (Ok taken) h e = absurd (cc e)
no_lack range (Err NoPlace) h e = absurd (cc e)
no_lack range (Err Held) h e = absurd (cc e)
no_lack range (Err PastMax) h e = absurd (cc e)
no_lack range (Err (NoMemory x)) h e = h tt
no_lack range (Err CannotSplit) h e = absurd (cc e)

pub with_spare : (s : Shape) (spare : Option ℕ) (range : Range) (found : Result Taken Refusal)
    → (HasSpare (held_blocks (blocks s)) spare → IfErr found (λ refusal. ¬ IsOutOfMemory refusal))
    → HasSpare (length (held_of (blocks s))) spare → with_error range found ≢ Err OutOfMemory
with_spare s spare range found f h = no_lack range found (f (subst (λ (k : ℕ). HasSpare k spare) (sym (held_blocks_are (blocks s))) h))

success_path : (h count : ℕ) (range : Range) (found : Result Taken Refusal) → (found ≢ Err NoPlace → h ≤ 2 * count) →
    IsOk (taken_range (with_error range found)) → h ≤ 2 * count
success_path h count range (Ok taken) p o = p (λ e. absurd (cc e))
success_path h count range (Err e) p o = absurd (cc o)

steps_of : (request : Request) (state : AddressState) (s : Shape) (answer : Result Range Error) (count : ℕ) → 1 ≤ height_of s →
    count ≤ max_entered request.policy (height_of s) (length state.held) → (IsOk answer → height_of s ≤ 2 * count) →
    IsGrantCount (height_of s) state request answer count
steps_of request state s answer count l m p = record { most = m; success = λ o. omega (arith, p o, l); path = p }

-- ---- The place that is closest to an end
upto_end : (end : End) (h n count : ℕ) → count ≤ 2 * n + 1 → count ≤ max_entered (policy_of end) h n
upto_end First h n count p = p
upto_end Last h n count p = p

module _ (sp : Range) (old new : Shape) (tiles : TilesSpace sp (blocks old)) (range : sp.start ≤ sp.end) (tree : IsBlockTree old)
    (request : Request) (search : Search) (valid : IsRequest request) (is : IsSearchOf request sp search)
    (searched : IsSearch search) (r : Range) (found : Result Taken Refusal) (u : OnErr found (new ≡ old)) (count : ℕ) where
  abbrev bounds : Type 0
  bounds = IsSearchCount (window_of search) search.size search.alignment (height_of old) (node_count old) (blocks old) count

  same_bounds : bounds →
      IsSearchCount (window_in request.window sp) request.size request.align (height_of old) (node_count old) (blocks old) count
  same_bounds b = rw (← is.window, ← is.size, ← is.align) b

  same_none : list_any (has_fit_in (window_of search) search.size search.alignment) (blocks old) ≡ false →
      list_any (has_fit_in (window_in request.window sp) request.size request.align) (blocks old) ≡ false
  same_none e = rw (← is.window, ← is.size, ← is.align) e

  upto_held : bounds → count ≤ 2 * length (held_of (blocks old)) + 1
  upto_held b = omega (arith, b.all, tree.low.few, held_blocks_are (blocks old))

  takes_none : found ≡ Err NoPlace →
      IfOk (with_error r found) (λ taken. Takes search.can_split request.size (blocks old) (blocks new) taken)
  takes_none e = rw e tt

  all_of : ((counted : ℕ) → IsTestOf search.can_split (counted < SPLIT_LIMIT_MIN_HELD) →
      Grants counted (blocks_state sp (blocks old)) request (taken_range (with_error r found)) (blocks_state sp (blocks new))) →
      IfOk (with_error r found) (λ taken. Takes search.can_split request.size (blocks old) (blocks new) taken)
      → IsGrantCount (height_of old) (blocks_state sp (blocks old)) request (taken_range (with_error r found)) count
      → SearchesGaps (height_of old) (blocks_state sp (blocks old)) request (taken_range (with_error r found)) count →
      IsAllocation request sp search.can_split old new (with_error r found) count
  all_of g t s a = record {
    granted = g;
    taken = t;
    unchanged = unchanged_if r old new found u;
    steps = s;
    search = a;
  }

  module _ (end : End) (policy : request.policy ≡ policy_of end) (h : AllocatesFit end search (blocks old) (blocks new) found)
      (b : bounds) (path : found ≢ Err NoPlace → min (height_of old) MAX ≤ count) where
    fit_most : count ≤ max_entered request.policy (height_of old) (length (held_of (blocks old)))
    fit_most = rw policy (upto_end end (height_of old) (length (held_of (blocks old))) count (upto_held b))

    pub fit_allocation : IsAllocation request sp search.can_split old new (with_error r found) count
    fit_allocation =
        all_of
        (λ counted few. fit_grants sp (blocks old) tiles request search valid is counted few end r (blocks new) found policy
        (blocks_unchanged old new found u) h)
        (⊎_elim (λ n. takes_none n.1) (λ s. settled_takes search request.size (blocks old) (blocks new) r s.0 found is.size
        (place_of s.0 s.1) s.2) h)
        (steps_of request (blocks_state sp (blocks old)) old (taken_range (with_error r found)) count tree.high fit_most
        (success_path (height_of old) count r found (λ n. omega (arith, path n, tree.height))))
        (searches request sp old (taken_range (with_error r found)) count tiles range (same_bounds b)
        (λ e. same_none (none_missed search searched (blocks old)
        (none_closest end search (blocks old) (blocks new)
        (subst (AllocatesFit end search (blocks old) (blocks new)) (no_place_if r found e) h)))))
      where
        place_of : (place : ListPlace) → IsClosestPlace end search (blocks old) place → IsPlaceOf search (blocks old) place
        place_of place s = let k = place_chosen sp (blocks old) tiles request search valid is end policy place s in record
            { cut = s.cut; in_gap = k.0 }

-- ---- The named place
-- The addresses of the window in the space.
seen_space : (w : Option Range) (sp : Range) (t : ℕ) → IsIn (part_in w sp) t → IsIn (common (window_in w sp) sp) t
seen_space None sp t i = (omega (arith, i.0), omega (arith, i.1))
seen_space (Some w) sp t i = i

space_seen : (w : Option Range) (sp : Range) (t : ℕ) → IsIn (common (window_in w sp) sp) t → IsIn (part_in w sp) t
space_seen None sp t i = (omega (arith, i.0), omega (arith, i.1))
space_seen (Some w) sp t i = i

module _ (sp : Range) (old : Shape) (request : Request) (search : Search) (t : ℕ) (valid : IsRequest request)
    (is : IsSearchOf request sp search) (policy : request.policy ≡ ExactMatch t) where
  abbrev seen : Range
  seen = common (window_of search) sp

  as_seen : IsIn seen t → IsIn (part_in request.window sp) t
  as_seen i = space_seen request.window sp t (subst (λ (w : Range). IsIn (common w sp) t) is.window i)

  not_seen : (IsIn seen t → ⊥) → IsIn (part_in request.window sp) t → ⊥
  not_seen out i = out (subst (λ (w : Range). IsIn (common w sp) t) (sym is.window) (seen_space request.window sp t i))

  -- An error before the search.
  refused : (can_split : Bool) (e : Error) → ((counted : ℕ) → Grants counted (blocks_state sp (blocks old)) request (Err e) (blocks_state sp (blocks old))) →
      IsAllocation request sp can_split old old (Err e) 0
  refused can_split e g = record {
    granted = λ counted few. g counted;
    taken = tt;
    unchanged = refl;
    steps = record { most = omega arith; success = λ o. absurd (cc o); path = λ o. absurd (cc o) };
    search = exact_searches request t (height_of old) (blocks_state sp (blocks old)) (Err e) 0 policy;
  }

  by_start : (counted : ℕ) (e : Error) →
      Grants counted (blocks_state sp (blocks old)) (request_in request.window request.size request.align (ExactMatch t)) (Err e)
      (blocks_state sp (blocks old)) → Grants counted (blocks_state sp (blocks old)) request (Err e) (blocks_state sp (blocks old))
  by_start counted e g = subst (λ (v : Request). Grants counted (blocks_state sp (blocks old)) v (Err e) (blocks_state sp (blocks old)))
      (with_policy request (ExactMatch t) policy) g

  at_max_grants : (counted : ℕ) → t ≡ MAX →
      Grants counted (blocks_state sp (blocks old)) (request_in request.window request.size request.align (ExactMatch t)) (Err Overflow)
      (blocks_state sp (blocks old))
  unfolding Grants ByExactPolicy ByStart
  at_max_grants counted e = inl (e, (refl, refl))

  outside_grants : (counted : ℕ) → t < MAX → (IsIn (part_in request.window sp) t → ⊥) →
      Grants counted (blocks_state sp (blocks old)) (request_in request.window request.size request.align (ExactMatch t)) (Err ResourceNotAvailable)
      (blocks_state sp (blocks old))
  unfolding Grants ByExactPolicy ByStart
  outside_grants counted m out = inr (λ e. omega arith, inl (out, (refl, refl)))

  over_grants : (counted : ℕ) → t < MAX → IsIn (part_in request.window sp) t → MAX < t + request.size - 1 →
      Grants counted (blocks_state sp (blocks old)) (request_in request.window request.size request.align (ExactMatch t)) (Err Overflow)
      (blocks_state sp (blocks old))
  unfolding Grants ByExactPolicy ByStart
  over_grants counted m i o = inr (λ e. omega arith, inr (i, inl (o, (refl, refl))))

  pub exact_at_max : (can_split : Bool) → t ≡ MAX → IsAllocation request sp can_split old old (Err Overflow) 0
  exact_at_max can_split e = refused can_split Overflow (λ counted. by_start counted Overflow (at_max_grants counted e))

  pub exact_outside : (can_split : Bool) → t < MAX → (IsIn seen t → ⊥) →
      IsAllocation request sp can_split old old (Err ResourceNotAvailable) 0
  exact_outside can_split m out = refused can_split ResourceNotAvailable (λ counted. by_start counted ResourceNotAvailable (outside_grants counted m (not_seen out)))

  pub exact_over : (can_split : Bool) → t < MAX → IsIn seen t → MAX < t + (search.size - 1) →
      IsAllocation request sp can_split old old (Err Overflow) 0
  exact_over can_split m i o = refused can_split Overflow
      (λ counted. by_start counted Overflow (over_grants counted m (as_seen i) (omega (arith, o, is.size, valid.some))))

module _ (sp : Range) (old new : Shape) (tiles : TilesSpace sp (blocks old)) (request : Request) (search : Search) (t : ℕ)
    (valid : IsRequest request) (is : IsSearchOf request sp search) (policy : request.policy ≡ ExactMatch t)
    (found : Result Taken Refusal) (u : OnErr found (new ≡ old)) (count : ℕ) (h : AllocatesExact search t (blocks old) (blocks new) found)
    (m : t < MAX) (i : IsIn (common (window_of search) sp) t) (upto : t + search.size ≤ MAX + 1) where
  abbrev range : Range
  range = span t search.size

  free_is : h.block.state ≡ Free → h.block ≡ free_block h.block.key
  free_is e = same_block h.block (free_block h.block.key) refl e

  place_at : h.block.state ≡ Free → range.end ≤ h.block.key.end →
      IsPlaceOf search (blocks old) (record { lower = h.lower; key = h.block.key; upper = h.upper; start = t })
  place_at e l = record {
    cut = h.at.cut ∙ ap (λ (v : Block). h.lower ++ v ∷ h.upper) (free_is e);
    in_gap = (h.at.inside.0, omega (arith, l, valid.some, is.size));
  }

  abbrev TakesIfOk : Type 0
  TakesIfOk = IfOk (with_error range found) (λ taken. Takes search.can_split request.size (blocks old) (blocks new) taken)

  other_error : (e : Refusal) → found ≡ Err e → TakesIfOk
  other_error e is_e = rw is_e tt

  taken_by : (s : NodeState) → s ≡ h.block.state → SettlesIn search t h.lower s h.block.key h.upper (blocks new) found → TakesIfOk
  taken_by Allocated e k = ⊎_elim (λ l. other_error Held l.1) (λ l. other_error NoPlace l.1) k
  taken_by Free e k =
      ⊎_elim
      (λ l. other_error NoPlace l.1)
      (λ l.
      let fits : range.end ≤ h.block.key.end = ⊎_elim (λ (x : h.block.key.end < range.end). absurd (l.0 (inl x)))
      (λ (x : range.end ≤ h.block.key.end). x) (cases_lt h.block.key.end range.end) in
      settled_takes search request.size (blocks old) (blocks new) range
      (record { lower = h.lower; key = h.block.key; upper = h.upper; start = t }) found is.size (place_at (sym e) fits) l.1)
      k

  pub exact_allocation : IsBlockTree old → count ≤ height_of old → (IsOk found → min (height_of old) MAX ≤ count) →
      IsAllocation request sp search.can_split old new (with_error range found) count
  exact_allocation tree most path = record {
    granted = λ counted few. exact_grants sp (blocks old) tiles request search valid is counted few t policy m (omega arith)
        (omega (arith, i.0), omega (arith, i.1)) (blocks new) found (blocks_unchanged old new found u) h;
    taken = taken_by h.block.state refl h.settles;
    unchanged = unchanged_if range old new found u;
    steps = steps_of request (blocks_state sp (blocks old)) old (taken_range (with_error range found)) count tree.high (rw policy most)
        (λ o. omega (arith, path (was_ok range found o), tree.height));
    search = exact_searches request t (height_of old) (blocks_state sp (blocks old)) (taken_range (with_error range found)) count policy;
  }

-- A start in the space is in the blocks.
pub start_in : (sp : Range) (bs : List Block) (search : Search) (t : ℕ) → TilesSpace sp bs → sp.start ≤ sp.end → sp.start ≤ t → t ≤ sp.end →
    search.low ≤ t → t ≤ search.high → t + search.size ≤ MAX + 1 → IsStartIn search t bs
start_in sp bs search t tiles r from upto low high fits = let e = ends sp bs tiles r in record
    { from = omega (arith, e.start); upto = omega (arith, e.end); low = low; high = high; fits = fits }

pub ruleset allocating_exact = (exact_at_max, exact_outside, exact_over, exact_allocation, start_in)
