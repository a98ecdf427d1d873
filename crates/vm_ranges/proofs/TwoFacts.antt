-- Two facts by the same condition.
use Rattle.std.proofs.Common.{inl, inr}
use Rattle.vm_ranges.specs.Cases.{IfElse, Unless}

-- Two conditionals with one condition take the same case.
pub if_same : (C P Q S T : Type 0) {G : Type 0} → IfElse C P Q → IfElse C S T → (P → S → G) → (Q → T → G) → G
if_same C P Q S T (inl a) (inl b) f g = f a.1 b.1
if_same C P Q S T (inl a) (inr b) f g = absurd (b.0 a.0)
if_same C P Q S T (inr a) (inl b) f g = absurd (a.0 b.0)
if_same C P Q S T (inr a) (inr b) f g = g a.1 b.1

-- Two exceptions with one condition take the same case.
pub unless_same : (C P Q S T : Type 0) {G : Type 0} → Unless C P Q → Unless C S T → (P → S → G) → (Q → T → G) → G
unless_same C P Q S T (inl a) (inl b) f g = f a.1 b.1
unless_same C P Q S T (inl a) (inr b) f g = absurd (a.0 b.0)
unless_same C P Q S T (inr a) (inl b) f g = absurd (b.0 a.0)
unless_same C P Q S T (inr a) (inr b) f g = g a.1 b.1
