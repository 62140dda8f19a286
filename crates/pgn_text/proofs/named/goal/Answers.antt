use Rattle.std.proofs.Common.{◌≡◌, ◌≢◌, ℕ, ◌+◌, List, codes, true, false, Option, Some, None, ap, sym, ◌∙◌}
use Rattle.std.proofs.lemmas.Bool.{both_ways}
use Rattle.std.proofs.lemmas.Slice.Eq.{bytes_eq-Decides}
use Rattle.std.specs.Str.{bytes_eq}
use Rattle.board.specs.declared.piece.Kind.{Kind}
use Rattle.board.specs.Moves.{MoveWord}
use Rattle.board.specs.Position.{home}
use Rattle.pgn_text.proofs.Shapes.{castling_move}
use Rattle.pgn_text.proofs.Targets.{text_is, castles_there, ends_there, target_found}
use Rattle.pgn_text.proofs.named.goal.Goals as goal

-- a castling's target, with no promotion
castling_goal : (to t : ℕ) (k : Option Kind) → to ≡ t → k ≡ None → ◌≡◌ {A = Option (ℕ × Option Kind)} (Some (t, None)) (Some (to, k))
castling_goal to t k e f = λ i. Some (sym e i, sym f i)

some_goal : (to t : ℕ) (k j : Option Kind) → ◌≡◌ {A = Option ℕ} (Some t) (Some to) → j ≡ k → ◌≡◌ {A = Option (ℕ × Option Kind)} (Some (t, j)) (Some (to, k))
some_goal to t k j e f = let g : t ≡ to = cc in λ i. Some (g i, f i)

pub returns-then-eq-clause-is : goal.returns-then-eq-clause-is
returns-then-eq-clause-is c m n =
    let text = text_is c.args.p.now m c.args.bytes.now c.unsigned-text.result.now n c.unsigned-text.ensures.signed c.unsigned-text.ensures.plain in
    let word = (bytes_eq-Decides c.unsigned-text.result.now c.as_slice.result.now).0 (sym c.if-eq.ensures) ∙ c.as_slice.ensures in
    let at : m ≡ castling_move c.args.p.now true = castles_there c.args.p.now m c.args.bytes.now c.unsigned-text.result.now true n text word in
    let to : m.to ≡ home c.args.p.now.turn + 6 = ap (λ (w : MoveWord). w.to) at in
    castling_goal m.to c.of.result m.promo (cc) (ap (λ (w : MoveWord). w.promo) at)

pub returns-then-eq-2-clause-is : goal.returns-then-eq-2-clause-is
returns-then-eq-2-clause-is c m n =
    let text = text_is c.args.p.now m c.args.bytes.now c.unsigned-text.result.now n c.unsigned-text.ensures.signed c.unsigned-text.ensures.plain in
    let word = (bytes_eq-Decides c.unsigned-text.result.now c.as_slice-2.result.now).0 (sym c.if-eq-2.ensures) ∙ c.as_slice-2.ensures in
    let at : m ≡ castling_move c.args.p.now false = castles_there c.args.p.now m c.args.bytes.now c.unsigned-text.result.now false n text word in
    let to : m.to ≡ home c.args.p.now.turn + 2 = ap (λ (w : MoveWord). w.to) at in
    castling_goal m.to c.of-then-eq-2.result m.promo (cc) (ap (λ (w : MoveWord). w.promo) at)

unlike : (xs ys zs : List ℕ) → false ≡ bytes_eq xs ys → ys ≡ zs → xs ≢ zs
unlike xs ys zs e f g = both_ways (bytes_eq xs ys) (sym e) ((bytes_eq-Decides xs ys).1 (g ∙ sym f))

pub returns-in_err-target-clause-is : goal.returns-in_err-target-clause-is
returns-in_err-target-clause-is c m n =
    let text = text_is c.args.p.now m c.args.bytes.now c.unsigned-text.result.now n c.unsigned-text.ensures.signed c.unsigned-text.ensures.plain in
    let ends = ends_there c.args.p.now m c.args.bytes.now c.unsigned-text.result.now n text (unlike c.unsigned-text.result.now c.as_slice.result.now (codes "O-O") c.if-eq.ensures c.as_slice.ensures) (unlike c.unsigned-text.result.now c.as_slice-2.result.now (codes "O-O-O") c.if-eq-2.ensures c.as_slice-2.ensures) in
    let found = target_found m c.unsigned-text.result.now c.promoted-promo.result.0.now c.promoted-promo.result.1 c.target.result n.move ends c.promoted-promo.ensures.some c.promoted-promo.ensures.none c.target.ensures in
    let clash : ◌≡◌ {A = Option ℕ} None (Some m.to) = sym c.in_err-target.was ∙ found.0 in
    absurd cc

pub returns-clause-is : goal.returns-clause-is
returns-clause-is c m n =
    let text = text_is c.args.p.now m c.args.bytes.now c.unsigned-text.result.now n c.unsigned-text.ensures.signed c.unsigned-text.ensures.plain in
    let ends = ends_there c.args.p.now m c.args.bytes.now c.unsigned-text.result.now n text (unlike c.unsigned-text.result.now c.as_slice.result.now (codes "O-O") c.if-eq.ensures c.as_slice.ensures) (unlike c.unsigned-text.result.now c.as_slice-2.result.now (codes "O-O-O") c.if-eq-2.ensures c.as_slice-2.ensures) in
    let found = target_found m c.unsigned-text.result.now c.promoted-promo.result.0.now c.promoted-promo.result.1 c.target.result n.move ends c.promoted-promo.ensures.some c.promoted-promo.ensures.none c.target.ensures in
    some_goal m.to c.in_ok-target.field-0 m.promo c.promoted-promo.result.1 (sym c.in_ok-target.was ∙ found.0) found.1
