-- The command of a line.
use Rattle.std.specs.Prelude.{ℕ, if◌then◌else◌, nat_le, List, [], ◌∷◌, length, codes, Option, Some, None}
use Rattle.std.specs.Option.{option_map}
use Rattle.std.specs.Str.{bytes_eq}
use Rattle.vm_commands.specs.Numbers.{number_of, id_of}
use Rattle.vm_commands.specs.Words.{words_of, alone, one_in, two_in, three_in, four_in}
use Rattle.vm_commands.specs.declared.command.Command.{Command}
use Rattle.vm_commands.specs.declared.command.Command.TheVariants.{Space, First, Last, Exact, Free, Ids, Id, Unid, Has, Manager, Device, Undevice, Malformed}

-- The command of the words for the devices, if they are in the language.
abbrev pub devices_command : List (List ℕ) → Option Command
devices_command [] = None
devices_command (name ∷ words) =
    if bytes_eq name (codes "manager") then option_map (λ p. Manager p.0.0 p.0.1 p.1.0 p.1.1) (four_in id_of number_of words)
    else if bytes_eq name (codes "device") then option_map (λ p. Device p.0 p.1) (two_in number_of words)
    else if bytes_eq name (codes "undevice") then option_map (λ i. Undevice i) (one_in id_of words)
    else None

-- The command of the words for the ids or for the devices, if they are in the language.
abbrev pub ids_command : List (List ℕ) → Option Command
ids_command [] = None
ids_command (name ∷ words) =
    if bytes_eq name (codes "ids") then option_map (λ p. Ids p.0 p.1) (two_in id_of words)
    else if bytes_eq name (codes "id") then alone Id words
    else if bytes_eq name (codes "unid") then option_map (λ i. Unid i) (one_in id_of words)
    else if bytes_eq name (codes "has") then option_map (λ i. Has i) (one_in id_of words)
    else devices_command (name ∷ words)

-- The command of the words for the space, for the ids or for the devices, if they are in the language.
abbrev pub asked : List (List ℕ) → Option Command
asked [] = None
asked (name ∷ words) =
    if bytes_eq name (codes "space") then option_map (λ p. Space p.0 p.1) (two_in number_of words)
    else if bytes_eq name (codes "first") then option_map (λ p. First p.0 p.1) (two_in number_of words)
    else if bytes_eq name (codes "last") then option_map (λ p. Last p.0 p.1) (two_in number_of words)
    else if bytes_eq name (codes "exact") then option_map (λ p. Exact p.0 p.1 p.2) (three_in number_of words)
    else if bytes_eq name (codes "free") then option_map (λ p. Free p.0 p.1) (two_in number_of words)
    else ids_command (name ∷ words)

-- The maximum length of a line.
abbrev pub max_line_len : ℕ
max_line_len = 120

-- The command, or Malformed if there is none.
abbrev pub command_or_malformed : Option Command → Command
command_or_malformed None = Malformed
command_or_malformed (Some command) = command

-- The command of a line.
abbrev pub command_of : List ℕ → Command
command_of line = if nat_le (length line) max_line_len then command_or_malformed (asked (words_of line)) else Malformed
