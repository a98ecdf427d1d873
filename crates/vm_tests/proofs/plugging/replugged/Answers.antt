use Rattle.std.proofs.Common.{sym}
use Rattle.vm_devices.proofs.Callers.{released_fits_again, fits_again_is_reserved}
use Rattle.vm_tests.proofs.plugging.replugged.Goals as goal

pub returns : goal.returns
returns c =
    let fits = released_fits_again _ _ _ _ _ _ c.slot.ensures.state c.in_ok-first.ensures.answer c.in_ok-release.ensures.answer in
    sym (fits_again_is_reserved _ _ _ _ _ _ fits c.in_ok-again.ensures.answer)
