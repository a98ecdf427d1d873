-- An entry, and its code.
use Rattle.std.specs.Prelude.{ℕ, List, refl}
use Rattle.std.specs.Coded.{Coded, code_by, coded×, coded_ℕ, coded_list}
pub use Rattle.vm_tree.specs.declared.entries.Entry.{Entry}

-- Proof: encodes an entry as its fields.
abbrev pub entry_code : Coded Entry
entry_code = code_by (ℕ × (ℕ × ℕ)) (coded× coded_ℕ (coded× coded_ℕ coded_ℕ)) (λ e. (e.at, (e.longest, e.alignments)))
    (λ p. record { at = p.0; longest = p.1.0; alignments = p.1.1 }) (λ _. refl)

-- Proof: encodes a list of entries.
abbrev pub entries_code : Coded (List Entry)
entries_code = coded_list entry_code
