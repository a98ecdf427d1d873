-- The values that are null.
use Rattle.std.proofs.Common.{◌≡◌, true, is_some, refl}
use Rattle.serde_json.specs.Data.{Data, null, boolean, number, string, array, object}
use Rattle.serde_json.specs.Find.{as_null}

-- Only null is read as null.
pub null_of : (d : Data) → is_some (as_null d) ≡ true → d ≡ null
null_of null e = refl
null_of (boolean b) e = absurd (cc)
null_of (number n) e = absurd (cc)
null_of (string s) e = absurd (cc)
null_of (array ds) e = absurd (cc)
null_of (object ms) e = absurd (cc)
