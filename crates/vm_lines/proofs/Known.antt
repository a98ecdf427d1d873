-- Text that goes through the buffer, and the whole input and output. Each fact is also true if the bytes are not known.
use Rattle.std.proofs.Common.{◌≡◌, ℕ, List, [], ◌++◌, Option, Some, None, refl, sym, ap, ◌∙◌, subst, append-nil, append_assoc, take, length, ◌<◌}
use Rattle.std.specs.Io.KnownBytes.{Appends, Consumes, IsAtEnd}
use Rattle.std.proofs.KnownBytes.{Appends-nil, Appends-trans}
use Rattle.vm_commands.specs.Lines.{lines_of, ended_lines_of}
use Rattle.vm_lines.specs.Moving.{MovesText}
use Rattle.vm_lines.specs.Runs.{MayAnswer, AppendsAnswers, AnswersInput, AnswersEndedLines}

-- No text is moved.
pub moves_none : (a : Option (List ℕ)) (p : List ℕ) → MovesText a p [] a p
moves_none a p = ([], Appends-nil a, sym (append-nil p))

-- One text is moved after another.
pub moves_both : (a b c : Option (List ℕ)) (p q r t u : List ℕ) → MovesText a p t b q → MovesText b q u c r → MovesText a p (t ++ u) c r
moves_both a b c p q r t u h k =
    let all = append_assoc h.0 k.0 r ∙ ap (λ x. h.0 ++ x) k.2 ∙ sym (append_assoc h.0 q u) ∙ ap (λ x. x ++ u) h.2 ∙ append_assoc p t u in
    (h.0 ++ k.0, Appends-trans a b c h.0 k.0 h.1 k.1, all)

-- A text is appended to the buffer.
pub moves_text : (a b : Option (List ℕ)) (p q r t u : List ℕ) → MovesText a p t b q → r ≡ q ++ u → MovesText a p (t ++ u) b r
moves_text a b p q r t u h e = moves_both a b b p q r t u h ([], Appends-nil b, e)

-- The buffer is written.
pub moves_drain : (a b c : Option (List ℕ)) (p q t : List ℕ) → MovesText a p t b q → Appends b c q → Appends a c (p ++ t)
moves_drain a b c p q t h k = subst (Appends a c) h.2 (Appends-trans a b c h.0 q h.1 k)

-- The last text and the buffer are written.
pub moves_end : (a b c : Option (List ℕ)) (q t u : List ℕ) → MovesText a [] t b q → Appends b c (q ++ u) → Appends a c (t ++ u)
moves_end a b c q t u h k =
    subst (Appends a c) (sym (append_assoc h.0 q u) ∙ ap (λ x. x ++ u) h.2) (Appends-trans a b c h.0 (q ++ u) h.1 k)

-- A read of no bytes is at the end of the input.
pub read_end : (a b : Option (List ℕ)) (n : ℕ) (buf : List ℕ) → Consumes a b (take n buf)
    → (n ≡ 0 → 0 < length buf → IsAtEnd b) → n ≡ 0 → 0 < length buf → Consumes a b [] × IsAtEnd b
read_end a b n buf h k e l = (subst (λ m. Consumes a b (take m buf)) e h, k e l)

-- The output is appended to the bytes of the writer.
gains : (c d : Option (List ℕ)) (lines : List (List ℕ)) (text : List ℕ) → MayAnswer lines text → Appends c d text → AppendsAnswers lines c d
gains None d lines text m h = tt
gains (Some before) None lines text m h = absurd h
gains (Some before) (Some after) lines text m h = (text, m, ap Some h)

-- The bytes that were read up to the end are the input.
pub answers_input : (a b c d : Option (List ℕ)) (read text : List ℕ) → Consumes a b read → IsAtEnd b
    → MayAnswer (lines_of read) text → Appends c d text → AnswersInput a b c d
answers_input None b c d read text h e m k = tt
answers_input (Some input) None c d read text h e m k = absurd h
answers_input (Some input) (Some rest) c d read text h e m k =
    let all : input ≡ read = h ∙ ap (λ l. read ++ l) e ∙ append-nil read in
    (ap Some e, subst (λ bytes. AppendsAnswers (lines_of bytes) c d) (sym all) (gains c d (lines_of read) text m k))

-- The bytes that were read before an error are a prefix of the input.
pub answers_ended : (a b c d : Option (List ℕ)) (read text : List ℕ) → Consumes a b read
    → MayAnswer (ended_lines_of read) text → Appends c d text → AnswersEndedLines a b c d
answers_ended None b c d read text h m k = tt
answers_ended (Some input) None c d read text h m k = absurd h
answers_ended (Some input) (Some rest) c d read text h m k = (read, rest, h, refl, gains c d (ended_lines_of read) text m k)
