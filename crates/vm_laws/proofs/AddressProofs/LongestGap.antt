-- A request at alignment 1 has a place if and only if it is at most as long as the longest gap. In a window, the longest part of
-- a gap counts.
use Rattle.std.proofs.Common.{ℕ, ◌<◌, ◌≤◌, sym, arith, subst, ⊎_elim}
use Rattle.std.proofs.lemmas.Bool.{cases_lt}
use Rattle.vm_ranges.specs.Address.{IsPlace}
use Rattle.vm_ranges.specs.Windows.{within}
use Rattle.vm_addresses.specs.Queries.{gaps_of, longest_in}
use Rattle.vm_laws.specs.GapLaws.{LongestDecides, LongGapSuffices}
use Rattle.vm_addresses.proofs.Results.HeldAndGaps.{longest_fits}
use Rattle.vm_laws.proofs.AddressProofs.HistoryResults.{answered}
use Rattle.vm_laws.proofs.AddressProofs.Capacity.{long_gap_fits}
use Rattle.vm_ranges.proofs.Power.{alignment_pos}

pub longest_decides : LongestDecides
longest_decides old new request answer state sense one policy h =
    let by_places = (answered request old new answer state h).valid sense in
    let fits = longest_fits old request.window request.size state sense.some in
    let longest = longest_in request.window (gaps_of old) in (
      λ e.
          ⊎_elim
          (λ (l : longest < request.size). l)
          (λ (l : request.size ≤ longest).
          let place = fits.1 l in
          absurd (by_places.only_there policy place.0
          (subst (λ (a : ℕ). IsPlace request.size a (within request.window old) place.0) (sym one) place.1) e))
          (cases_lt longest request.size),
      λ l.
          by_places.no_place policy (λ s place.
          omega (arith, l, fits.0 (s, subst (λ (a : ℕ). IsPlace request.size a (within request.window old) s) one place))),
    )

pub long_gap_suffices : LongGapSuffices
long_gap_suffices old new request answer state sense policy long h e =
    let place = long_gap_fits old request.window request.size request.align state sense.some (alignment_pos request.align sense.aligned)
    long in
    let by_places = (answered request old new answer state h).valid sense in
    by_places.only_there policy place.0 place.1 e
