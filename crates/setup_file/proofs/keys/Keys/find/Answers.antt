use Rattle.std.proofs.Common.{◌≡◌, Some, IfSome, IfNone, Contains, slice_get, subst, List, ℕ}
use Rattle.setup_file.proofs.Texts.{text_at, not_among}
use Rattle.setup_file.proofs.keys.Keys.find.Goals as goal

pub returns-clause-some : goal.returns-clause-some
returns-clause-some c = subst (λ (texts : List (List ℕ)). IfSome c.find.result (λ i. slice_get texts i ≡ Some c.args.key.now)) c.self.view_is (text_at c.find.result c.self.inside.register c.args.key.now c.find.ensures.place)

pub returns-clause-none : goal.returns-clause-none
returns-clause-none c = subst (λ (texts : List (List ℕ)). IfNone c.find.result (¬ Contains texts c.args.key.now)) c.self.view_is (not_among c.find.result c.self.inside.register c.args.key.now c.find.ensures.found)
