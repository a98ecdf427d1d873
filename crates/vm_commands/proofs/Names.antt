-- The command of a line that does not begin with some names.
use Rattle.std.proofs.Common.{◌≡◌, ◌≢◌, ℕ, Bool, true, false, List, [], ◌∷◌, ◌++◌, Option, None, refl, sym, ap, ◌∙◌, append_assoc}
use Rattle.std.specs.Prelude.{codes, if◌then◌else◌}
use Rattle.std.specs.Str.{bytes_eq}
use Rattle.std.specs.List.{join_with_byte}
use Rattle.std.proofs.lemmas.List.Splits.{join_with_byte-slice_split}
use Rattle.std.proofs.lemmas.Slice.Eq.{bytes_eq-Decides}
use Rattle.vm_commands.specs.Commands.{asked, ids_command, devices_command}
use Rattle.vm_commands.specs.Words.{blank_byte, words_of, alone}
use Rattle.vm_commands.specs.declared.command.Command.{Command}
use Rattle.vm_commands.specs.declared.command.Command.TheVariants.{Id}
use Rattle.vm_commands.proofs.Splitting.{begins_with}

-- The text does not begin with the prefix.
abbrev pub BeginsNot : List ℕ → List ℕ → Type 0
BeginsNot prefix text = (rest : List ℕ) → text ≢ prefix ++ rest

-- If the first word is this name, it is the only word.
alone_so : (name text word : List ℕ) (words : List (List ℕ)) → words_of text ≡ word ∷ words
    → BeginsNot (name ++ blank_byte ∷ []) text → word ≡ name → words ≡ []
alone_so name text word [] e h same = refl
alone_so name text word (next ∷ more) e h same =
    let begins = begins_with text word next more e in
    absurd (h begins.0 (begins.1 ∙ ap (λ w. w ++ blank_byte ∷ begins.0) same ∙ sym (append_assoc name (blank_byte ∷ []) begins.0)))

-- The test for a name is skipped if its command is the command of the rest.
other_name : (word name : List ℕ) (found other : Option Command) → (word ≡ name → found ≡ other)
    → (if bytes_eq word name then found else other) ≡ other
other_name word name found other same = step (bytes_eq word name) refl
  where
    step : (b : Bool) → bytes_eq word name ≡ b → (if b then found else other) ≡ other
    step true e = same ((bytes_eq-Decides word name).0 e)
    step false e = refl

-- The test for a name is skipped if the name without words has the command of the rest.
skip : (word name : List ℕ) (words : List (List ℕ)) (found other : Option Command) → (word ≡ name → words ≡ [])
    → (word ≡ name → words ≡ [] → found ≡ other) → (if bytes_eq word name then found else other) ≡ other
skip word name words found other alone none = other_name word name found other (λ same. none same (alone same))

-- A line that begins with none of these names has the command of the ids or of the devices.
pub none_of_space : (line : List ℕ) → BeginsNot (codes "space ") line → BeginsNot (codes "first ") line
    → BeginsNot (codes "last ") line → BeginsNot (codes "exact ") line → BeginsNot (codes "free ") line
    → asked (words_of line) ≡ ids_command (words_of line)
none_of_space line space first last exact free = step (words_of line) refl
  where
    step : (parts : List (List ℕ)) → words_of line ≡ parts → asked parts ≡ ids_command parts
    step [] e = refl
    step (word ∷ words) e =
        skip word (codes "space") words _ _ (alone_so (codes "space") line word words e space) (λ w n. rw (w, n) refl)
        ∙ skip word (codes "first") words _ _ (alone_so (codes "first") line word words e first) (λ w n. rw (w, n) refl)
        ∙ skip word (codes "last") words _ _ (alone_so (codes "last") line word words e last) (λ w n. rw (w, n) refl)
        ∙ skip word (codes "exact") words _ _ (alone_so (codes "exact") line word words e exact) (λ w n. rw (w, n) refl)
        ∙ skip word (codes "free") words _ _ (alone_so (codes "free") line word words e free) (λ w n. rw (w, n) refl)

-- A line of one word is this word.
alone_is : (line word : List ℕ) → words_of line ≡ word ∷ [] → line ≡ word
alone_is line word e = sym (join_with_byte-slice_split blank_byte line) ∙ ap (join_with_byte blank_byte) e

-- A line that begins with none of these names and is not `id` has the command of the devices.
pub none_of_ids : (line : List ℕ) → BeginsNot (codes "ids ") line → BeginsNot (codes "unid ") line
    → BeginsNot (codes "has ") line → line ≢ codes "id" → ids_command (words_of line) ≡ devices_command (words_of line)
none_of_ids line ids unid has id = step (words_of line) refl
  where
    id_none : (word : List ℕ) (words : List (List ℕ)) → words_of line ≡ word ∷ words → word ≡ codes "id" → alone Id words ≡ None
    id_none word [] e same = absurd (id (alone_is line word e ∙ same))
    id_none word (next ∷ more) e same = refl

    step : (parts : List (List ℕ)) → words_of line ≡ parts → ids_command parts ≡ devices_command parts
    step [] e = refl
    step (word ∷ words) e =
        skip word (codes "ids") words _ _ (alone_so (codes "ids") line word words e ids) (λ w n. rw (w, n) refl)
        ∙ other_name word (codes "id") _ _ (λ w. id_none word words e w ∙ rw w refl)
        ∙ skip word (codes "unid") words _ _ (alone_so (codes "unid") line word words e unid) (λ w n. rw (w, n) refl)
        ∙ skip word (codes "has") words _ _ (alone_so (codes "has") line word words e has) (λ w n. rw (w, n) refl)

-- A line that begins with none of these names has no command of the devices.
pub none_of_devices : (line : List ℕ) → BeginsNot (codes "manager ") line → BeginsNot (codes "device ") line
    → BeginsNot (codes "undevice ") line → devices_command (words_of line) ≡ None
none_of_devices line manager device undevice = step (words_of line) refl
  where
    step : (parts : List (List ℕ)) → words_of line ≡ parts → devices_command parts ≡ None
    step [] e = refl
    step (word ∷ words) e =
        skip word (codes "manager") words _ _ (alone_so (codes "manager") line word words e manager) (λ w n. rw (w, n) refl)
        ∙ skip word (codes "device") words _ _ (alone_so (codes "device") line word words e device) (λ w n. rw (w, n) refl)
        ∙ skip word (codes "undevice") words _ _ (alone_so (codes "undevice") line word words e undevice) (λ w n. rw n refl)
