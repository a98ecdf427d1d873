-- If the text after the first word has not three numbers, it has no four words of these kinds.
-- The prover does not get from the option of this text that there is such a text.
use Rattle.std.proofs.Common.{◌∙◌, sym, ap, Some}
use Rattle.std.specs.Option.{option_copied}
use Rattle.vm_commands.specs.Words.{words_of, words_after}
use Rattle.vm_commands.proofs.IdNumbers.{four_less}
use Rattle.vm_commands.proofs.words.ids_and_numbers.Goals as goal

pub returns-in_err-second : goal.returns-in_err-second
returns-in_err-second c =
    let first = c.in_ok-first.ensures ∙ ap (λ rest. Some (c.in_ok-first.first, words_after (option_copied rest))) c.in_ok-rest.was in
    c.from_residual-in_err-second.ensures ∙ sym
    (four_less (words_of c.args.text.now) (words_of c.in_ok-rest.field-0.now) c.in_ok-first.first first (sym c.in_err-second.ensures))
