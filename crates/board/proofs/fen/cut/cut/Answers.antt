use Rattle.std.proofs.Common.{ℕ, ◌==◌, ◌+◌, ◌-◌, length, drop, refl, sym, arith, length-drop}
use Rattle.std.proofs.lemmas.List.{take_all}
use Rattle.board.proofs.Cuts.{position_found, position_missing, before_none, after_none}
use Rattle.board.proofs.fen.cut.cut.Goals as goal

pub returns-in-Some-clause-before : goal.returns-in-Some-clause-before
returns-in-Some-clause-before c =
    let t = position_found (λ (b : ℕ). b == c.args.separator) c.args.text.now c.in-Some.i (sym c.in-Some.ensures) in
    rw (t.0) refl

pub returns-in-Some-clause-after : goal.returns-in-Some-clause-after
returns-in-Some-clause-after c =
    let t = position_found (λ (b : ℕ). b == c.args.separator) c.args.text.now c.in-Some.i (sym c.in-Some.ensures) in
    rw (t.0)
    (take_all (length c.args.text.now - (c.in-Some.i + 1)) (drop (c.in-Some.i + 1) c.args.text.now)
    (omega (arith, length-drop (c.in-Some.i + 1) c.args.text.now)))

pub returns-in-None-clause-before : goal.returns-in-None-clause-before
returns-in-None-clause-before c =
    sym (before_none _ _ (position_missing (λ (b : ℕ). b == c.args.separator) c.args.text.now (sym c.in-None.ensures)))

pub returns-in-None-clause-after : goal.returns-in-None-clause-after
returns-in-None-clause-after c =
    sym (after_none _ _ (position_missing (λ (b : ℕ). b == c.args.separator) c.args.text.now (sym c.in-None.ensures)))
