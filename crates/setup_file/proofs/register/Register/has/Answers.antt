use Rattle.std.proofs.Common.{◌∙◌, ap}
use Rattle.setup_file.specs.Members.{is_taken}
use Rattle.setup_file.proofs.Texts.{taken_items}
use Rattle.setup_file.proofs.register.Register.has.Goals as goal

pub returns : goal.returns
returns c = c.contains.ensures ∙ taken_items (λ v. v.items) c.self.inside.texts.keys c.args.text.now ∙ ap (λ texts. is_taken texts c.args.text.now) c.self.view_is
