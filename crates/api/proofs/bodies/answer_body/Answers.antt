use Rattle.std.proofs.Common.{ap, ◌∙◌}
use Rattle.serde_json.specs.Written.{has_float}
use Rattle.api.specs.Bodies.{number_asked}
use Rattle.api.proofs.Floats.{answer-none}
use Rattle.api.proofs.bodies.answer_body.Goals as goal

pub text_of-requires : goal.text_of-requires
text_of-requires c = ap has_float c.in_ok-value.ensures ∙ answer-none c.args.setup.now _ c.args.answer.now
