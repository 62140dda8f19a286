-- A bit is set or cleared, and no other changes.
use Rattle.std.proofs.Common.{ℕ, ◌<◌, ap, sym, ◌∙◌, ◌==◌, w64, eq-eqb, subst}
use Rattle.std.proofs.lemmas.Nat.Bits.{bit_at_set_same, bit_at_set_other, bit_at_clear_same, bit_at_clear_other}
use Rattle.board.proofs.placement.with.Goals as goal

pub returns-then-wanted-clause-at : goal.returns-then-wanted-clause-at
returns-then-wanted-clause-at c = rw (c.index.ensures.is) (eq-eqb _ _ (bit_at_set_same w64 c.args.set c.args.s (subst (λ (n : ℕ). n < 64) c.index.ensures.is c.index.ensures.on_board)) ∙ sym c.if-wanted.true)

pub returns-then-wanted-clause-others : goal.returns-then-wanted-clause-others
returns-then-wanted-clause-others c = λ t on ne. rw (c.index.ensures.is) (ap (λ b. b == 1) (bit_at_set_other w64 c.args.set c.args.s (subst (λ (n : ℕ). n < 64) c.index.ensures.is c.index.ensures.on_board) t ne))

pub returns-else-wanted-clause-at : goal.returns-else-wanted-clause-at
returns-else-wanted-clause-at c = rw (c.index.ensures.is) (ap (λ b. b == 1) (bit_at_clear_same w64 c.args.set c.args.s (subst (λ (n : ℕ). n < 64) c.index.ensures.is c.index.ensures.on_board)) ∙ sym c.if-wanted.false)

pub returns-else-wanted-clause-others : goal.returns-else-wanted-clause-others
returns-else-wanted-clause-others c = λ t on ne. rw (c.index.ensures.is) (ap (λ b. b == 1) (bit_at_clear_other w64 c.args.set c.args.s (subst (λ (n : ℕ). n < 64) c.index.ensures.is c.index.ensures.on_board) t on ne))
