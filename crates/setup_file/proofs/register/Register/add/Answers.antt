use Rattle.std.proofs.Common.{◌≡◌, ◌∙◌, ◌++◌, ◌∷◌, [], false, ap, map}
use Rattle.setup_file.specs.Members.{is_taken}
use Rattle.setup_file.proofs.Texts.{items_added}
use Rattle.setup_file.proofs.register.Register.add.Goals as goal

pub returns-clause-added : goal.returns-clause-added
returns-clause-added c =
    let v = c.in_ok-text.text in
    let old = c.self.inside.texts.keys in
    let is = c.in_ok-text.ensures.items in
    let fresh : is_taken (map (λ w. w.items) old) v.items ≡ false = ap (λ texts. is_taken texts v.items) c.self.view_is ∙ ap (is_taken c.args.self.now) is ∙ c.requires.fresh in
    ap (map (λ w. w.items)) c.in_ok-insert_full.ensures.keys ∙ items_added (λ w. w.items) old v fresh
    ∙ ap (λ texts. texts ++ v.items ∷ []) c.self.view_is ∙ ap (λ t. c.args.self.now ++ t ∷ []) is
