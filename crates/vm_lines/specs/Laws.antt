-- Laws that follow only from the definitions.
use Rattle.std.specs.Prelude.{◌≡◌, ◌≢◌, ℕ, List, [], ◌∷◌, ◌++◌}
use Rattle.vm_ranges.specs.declared.error.Error.TheVariants.{OutOfMemory}
use Rattle.vm_commands.specs.Commands.{command_of}
use Rattle.vm_commands.specs.Lines.{newline}
use Rattle.vm_lines.specs.Machines.{Machine, start, Does}
use Rattle.vm_lines.specs.Replies.{text_of}
use Rattle.vm_lines.specs.Runs.{MayAnswer}
use Rattle.vm_lines.specs.declared.reply.Reply.{Reply}
use Rattle.vm_lines.specs.declared.reply.Reply.TheVariants.{Failed}

-- Like `AreAnswered`, and no reply is that memory ran out.
abbrev pub AreAnsweredInMemory : Machine → List (List ℕ) → List ℕ → Machine → Type 0
AreAnsweredInMemory old [] text new = (text ≡ []) × (new ≡ old)
AreAnsweredInMemory old (line ∷ lines) text new =
    (reply : Reply) × (mid : Machine) × (rest : List ℕ)
    × Does old (command_of line) reply mid
    × (reply ≢ Failed OutOfMemory)
    × AreAnsweredInMemory mid lines rest new
    × (text ≡ text_of reply ++ newline ∷ rest)

-- Lines have at most one output in which no line runs out of memory, and they leave one machine.
unfoldable pub OneText : Type 0
OneText =
    (lines : List (List ℕ)) (text other : List ℕ) (new end : Machine) →
    AreAnsweredInMemory start lines text new → AreAnsweredInMemory start lines other end → (text ≡ other) × (new ≡ end)

-- For each machine, each line has a reply other than that memory ran out.
unfoldable pub HasReply : Type 0
HasReply =
    (old : Machine) (line : List ℕ) →
    (reply : Reply) × (new : Machine) × Does old (command_of line) reply new × (reply ≢ Failed OutOfMemory)

-- The lines of each input have an output in which no line runs out of memory.
unfoldable pub HasText : Type 0
HasText =
    (lines : List (List ℕ)) →
    (text : List ℕ) × MayAnswer lines text × ((end : Machine) × AreAnsweredInMemory start lines text end)
