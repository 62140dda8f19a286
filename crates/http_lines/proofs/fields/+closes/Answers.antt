use Rattle.std.proofs.Common.{◌||◌, Bool, map, sym, ap, ◌∙◌}
use Rattle.httparse.specs.Spans.{header_bytes}
use Rattle.http_lines.specs.Fields.{has_close, closes_by}
use Rattle.http_lines.proofs.Naming.{closes_by_none, closes_by_first}
use Rattle.http_lines.proofs.fields.+closes.Goals as goal

pub returns-then-has_close : goal.returns-then-has_close
returns-then-has_close t c =
    let pairs = header_bytes c.args.piece.now in
    let rest = map pairs c.in-Some.rest.now in
    let by_first = closes_by_first (map pairs c.args.fields.now) rest (pairs c.in-Some.field) c.in-Some.ensures.first in
    let said = sym (ap has_close c.of.ensures) ∙ sym c.has_close.ensures ∙ c.if-has_close.true in
    c.if-has_close.true ∙ sym (by_first ∙ ap (λ (b : Bool). b || closes_by rest) said)

pub returns-else-has_close : goal.returns-else-has_close
returns-else-has_close t c =
    let pairs = header_bytes c.args.piece.now in
    let rest = map pairs c.in-Some.rest.now in
    let by_first = closes_by_first (map pairs c.args.fields.now) rest (pairs c.in-Some.field) c.in-Some.ensures.first in
    let said = sym (ap has_close c.of.ensures) ∙ sym c.has_close.ensures ∙ c.if-has_close.false in
    c.closes.ensures ∙ sym (by_first ∙ ap (λ (b : Bool). b || closes_by rest) said)

pub returns-in-None : goal.returns-in-None
returns-in-None t c =
    sym (closes_by_none (map (header_bytes c.args.piece.now) c.args.fields.now) c.in-None.ensures.first)
