use Rattle.wave.specs.Answers.{HoldsAnswers}
use Rattle.wave.proofs.solving.in_turn.Given as goal

abbrev pub invariant-loop-done : goal.invariant-loop-done
invariant-loop-done g l = HoldsAnswers l.rows l.f l.first l.done l.made.items
