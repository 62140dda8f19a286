use Rattle.std.proofs.Common.{◌∙◌, ap}
use Rattle.setup_file.specs.Members.{is_taken, place_of}
use Rattle.setup_file.proofs.Texts.{place_items, taken_items}
use Rattle.setup_file.proofs.register.Register.find.Goals as goal

pub returns-in-None-clause-place : goal.returns-in-None-clause-place
returns-in-None-clause-place c = c.in-None.ensures.index ∙ place_items (λ v. v.items) c.self.inside.texts.keys c.args.text.now ∙ ap (λ texts. place_of texts c.args.text.now) c.self.view_is

pub returns-in-None-clause-found : goal.returns-in-None-clause-found
returns-in-None-clause-found c = c.in-None.ensures.found ∙ taken_items (λ v. v.items) c.self.inside.texts.keys c.args.text.now ∙ ap (λ texts. is_taken texts c.args.text.now) c.self.view_is

pub returns-in-Some-clause-place : goal.returns-in-Some-clause-place
returns-in-Some-clause-place c = c.in-Some.ensures.index ∙ place_items (λ v. v.items) c.self.inside.texts.keys c.args.text.now ∙ ap (λ texts. place_of texts c.args.text.now) c.self.view_is

pub returns-in-Some-clause-found : goal.returns-in-Some-clause-found
returns-in-Some-clause-found c = c.in-Some.ensures.found ∙ taken_items (λ v. v.items) c.self.inside.texts.keys c.args.text.now ∙ ap (λ texts. is_taken texts c.args.text.now) c.self.view_is
