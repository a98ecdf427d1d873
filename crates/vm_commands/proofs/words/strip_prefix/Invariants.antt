use Rattle.std.proofs.Common.{ℕ, ◌≡◌, ◌<◌, get_or}
use Rattle.vm_commands.proofs.words.strip_prefix.Given as goal

-- The bytes so far are equal.
abbrev pub invariant-loop-i : goal.invariant-loop-i
invariant-loop-i g l = (k : ℕ) → k < l.i → get_or l.text k 0 ≡ get_or l.prefix k 0
