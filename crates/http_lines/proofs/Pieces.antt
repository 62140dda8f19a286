-- A piece that is a head reads as that head with no bytes left.
use Rattle.std.proofs.Common.{◌≡◌, ℕ, List, length, [], append-nil, ◌∙◌, ap, sym}
use Rattle.httparse.specs.Grammar.{RequestHead, print_request, ReadsRequest}
use Rattle.httparse.specs.Spans.{IsRequestOf}
use Rattle.httparse.specs.declared.spans.HeaderSpan.{HeaderSpan}
use Rattle.httparse.specs.declared.spans.RequestSpans.{RequestSpans}
use Rattle.httparse.proofs.GrammarLemmas.{request_unique}
use Rattle.http_lines.specs.Heads.{Spells}

pub reads_spelled : (piece : List ℕ) (h : RequestHead) → Spells piece h → ReadsRequest piece h []
reads_spelled piece h spells = (spells.0, spells.1 ∙ sym (append-nil (print_request h)))

-- a head that reads from the piece is as long as the one that the piece spells
pub length_of_spelled : (piece : List ℕ) (h k : RequestHead) (rest : List ℕ) → Spells piece h → ReadsRequest piece k rest → length (print_request k) ≡ length piece
length_of_spelled piece h k rest spells reads =
    let same = request_unique piece h k [] rest (reads_spelled piece h spells) reads in
    ap (λ (g : RequestHead). length (print_request g)) (sym same.0) ∙ sym (ap length spells.1)

-- a piece that goes on behind a head spells none
pub longer_spells_none : (piece : List ℕ) (headers : List HeaderSpan) (r : RequestSpans) → IsRequestOf piece headers r → (r.len ≡ length piece → ⊥) → (h : RequestHead) → ¬ (Spells piece h)
longer_spells_none piece headers r found longer h spells =
    longer (found.1.len ∙ length_of_spelled piece h found.0 _ spells found.1.reads)
