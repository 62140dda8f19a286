use Rattle.std.proofs.Common.{◌≡◌, ℕ, List, Option, Some, None, ap, sym, ◌∙◌, subst}
use Rattle.board.specs.declared.piece.Kind.{Kind}
use Rattle.board.specs.declared.parts.Parts.{Parts}
use Rattle.board.specs.Moves.{MoveWord}
use Rattle.move_rules.specs.Lists.{move_of}
use Rattle.pgn_text.specs.Reading.{Names, origin_in}
use Rattle.pgn_text.proofs.Naming.{search_finds, search_fails, origin_below, origin_named, no_origin}
use Rattle.pgn_text.proofs.named.read_san.Goals as goal

pub of-requires : goal.of-requires
of-requires c = origin_below c.args.p.now c.args.bytes.now c.in_ok-to.to c.in_ok-from.from c.in_ok-to.promo (sym c.in_ok-from.ensures)

pub returns-clause-named : goal.returns-clause-named
returns-clause-named c =
    subst (λ (a : ℕ). Names c.args.p.now c.args.bytes.now (move_of a c.in_ok-to.to c.in_ok-to.promo)) (sym c.of.ensures) (origin_named c.args.p.now c.args.bytes.now c.in_ok-to.to c.in_ok-from.from c.in_ok-to.promo c.keeps.ensures.to c.keeps.ensures.promo (sym c.in_ok-from.ensures))

pub returns-clause-is : goal.returns-clause-is
returns-clause-is c = sym (search_finds c.args.p.now c.args.bytes.now (move_of c.of.result c.in_ok-to.to c.in_ok-to.promo)
    (subst (λ (a : ℕ). Names c.args.p.now c.args.bytes.now (move_of a c.in_ok-to.to c.in_ok-to.promo)) (sym c.of.ensures) (origin_named c.args.p.now c.args.bytes.now c.in_ok-to.to c.in_ok-from.from c.in_ok-to.promo c.keeps.ensures.to c.keeps.ensures.promo (sym c.in_ok-from.ensures))))

pub returns-in_err-to-clause-is : goal.returns-in_err-to-clause-is
returns-in_err-to-clause-is c = c.from_residual.ensures ∙ sym (search_fails c.args.p.now c.args.bytes.now (λ m n. let clash = c.in_err-to.ensures.is m n in cc))

-- another target or another promotion than was looked for
elsewhere : (p : Parts) (bytes : List ℕ) (to : ℕ) (promo : Option Kind) → origin_in p bytes to promo ≡ None → ((m : MoveWord) → Names p bytes m → ◌≡◌ {A = Option (ℕ × Option Kind)} (Some (to, promo)) (Some (m.to, m.promo))) → (m : MoveWord) → Names p bytes m → ⊥
elsewhere p bytes to promo e goals m n =
    let g = goals m n in
    let pair : ◌≡◌ {A = ℕ × Option Kind} (to, promo) (m.to, m.promo) = cc in
    let t : m.to ≡ to = sym (ap (λ (x : ℕ × Option Kind). x.0) pair) in
    let k : m.promo ≡ promo = sym (ap (λ (x : ℕ × Option Kind). x.1) pair) in
    no_origin p bytes to promo e m n t k

pub returns-in_err-from-clause-none : goal.returns-in_err-from-clause-none
returns-in_err-from-clause-none c =
    rw c.from_residual-in_err-from.ensures (elsewhere c.args.p.now c.args.bytes.now c.in_ok-to.to c.in_ok-to.promo (sym c.in_err-from.ensures) c.in_ok-to.ensures.is)

pub returns-in_err-from-clause-is : goal.returns-in_err-from-clause-is
returns-in_err-from-clause-is c =
    c.from_residual-in_err-from.ensures ∙ sym (search_fails c.args.p.now c.args.bytes.now (elsewhere c.args.p.now c.args.bytes.now c.in_ok-to.to c.in_ok-to.promo (sym c.in_err-from.ensures) c.in_ok-to.ensures.is))
