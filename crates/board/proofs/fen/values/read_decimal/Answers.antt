use Rattle.std.proofs.Common.{◌≡◌, ℕ, ◌≤◌, List, Some, Result, Ok, sym, ◌∙◌, ap, subst, arith}
use Rattle.std.specs.Prelude.{IsUtf8}
use Rattle.std.specs.Fmt.{decimal}
use Rattle.std.specs.Cmp.Lexicographic.{same_text, other_text}
use Rattle.std.specs.Str.Parse.{ParsesUnsigned}
use Rattle.std.proofs.lemmas.Fmt.{parse-decimal}
use Rattle.board.proofs.Decimals.{decimal_utf8}
use Rattle.board.proofs.RankTexts.{some_one, none_some}
use Rattle.board.proofs.fen.values.read_decimal.Goals as goal

ok_one : {E : Type 0} (m n : ℕ) → ◌≡◌ {A = Result ℕ E} (Ok m) (Ok n) → m ≡ n
ok_one m n h = cc

-- a decimal is parsed as its number
parsed : {E : Type 0} (n : ℕ) (text field : List ℕ) (r : Result ℕ E) → ParsesUnsigned 16 10 text r → text ≡ field → (decimal n ≡ field) × (n ≤ 65535) → r ≡ Ok n
parsed n text field r h same t = parse-decimal 16 n text r (omega arith) (omega arith) (same ∙ sym t.0) h

pub returns-in_default : goal.returns-in_default
returns-in_default c = λ n. (
  λ e. absurd (none_some e),
  λ t. absurd ((c.in_default.ensures.cases).0 (subst (λ (l : List ℕ). IsUtf8 l) t.0 (decimal_utf8 n (omega arith)))),
)

pub returns-in_default-parse : goal.returns-in_default-parse
returns-in_default-parse c = λ n. (
  λ e. absurd (none_some e),
  λ t. absurd (c.in_default-parse.not-Ok n (parsed n c.in-Ok.text.now c.args.field.now c.parse.result c.parse.ensures.value.0 (c.in-Ok.ensures.cases).0 t)),
)

pub returns-then-eq : goal.returns-then-eq
returns-then-eq c = λ n.
    let written : decimal c.in-Ok-parse.n ≡ c.args.field.now = sym c.write_decimal.ensures ∙ sym c.as_str.ensures.value ∙ same_text _ _ c.if-eq.ensures ∙ (c.in-Ok.ensures.cases).0 in (
      λ e. let same : c.in-Ok-parse.n ≡ n = some_one e in (ap decimal (sym same) ∙ written, omega (arith, c.in-Ok-parse.ensures.value.0.0, c.in-Ok-parse.ensures.value.0.1, same)),
      λ t. ap Some (ok_one _ _ (sym c.in-Ok-parse.is ∙ parsed n c.in-Ok.text.now c.args.field.now c.parse.result c.parse.ensures.value.0 (c.in-Ok.ensures.cases).0 t)),
    )

pub returns-else-eq : goal.returns-else-eq
returns-else-eq c = λ n. (
  λ e. absurd (none_some e),
  λ t.
      let same : c.in-Ok-parse.n ≡ n = ok_one _ _ (sym c.in-Ok-parse.is ∙ parsed n c.in-Ok.text.now c.args.field.now c.parse.result c.parse.ensures.value.0 (c.in-Ok.ensures.cases).0 t) in
      absurd (other_text _ _ c.if-eq.ensures (c.as_str.ensures.value ∙ c.write_decimal.ensures ∙ ap decimal same ∙ t.0 ∙ sym (c.in-Ok.ensures.cases).0)),
)
