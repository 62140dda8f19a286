use Rattle.std.proofs.Common.{ap, ◌∙◌}
use Rattle.serde_json.specs.Written.{has_float}
use Rattle.api.proofs.Floats.{reply-none}
use Rattle.api.proofs.bodies.reply_body.Goals as goal

pub text_of-requires : goal.text_of-requires
text_of-requires c = ap has_float c.in_ok-value.ensures ∙ reply-none c.args.setup.now c.args.reply.now
