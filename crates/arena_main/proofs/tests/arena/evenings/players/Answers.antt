use Rattle.std.proofs.Common.{◌≡◌, ◌+◌, ◌∷◌, [], ◌++◌, List, sym, subst, rules}
use Rattle.std.specs.Prelude.{All}
use Rattle.std.proofs.lemmas.List.Elements.{All-push}
use Rattle.entries.specs.Ranges.{IsPlayer}
use Rattle.entries.specs.declared.setup.Player.{Player}
use Rattle.arena_main.proofs.Letters.{letters, names, one_name_more}
use Rattle.arena_main.proofs.tests.arena.evenings.players.Goals as goal

pub making-preserved : goal.making-preserved
making-preserved c =
    let grown : c.push.new.self.items ≡ c.making.made.items ++ c.in_ok-contestant.field-0 ∷ [] = c.in_ok-push.ensures.items in
    record {
      many = search rules;
      good = subst (λ (xs : List Player). All (IsPlayer 2) xs) (sym grown) (All-push (IsPlayer 2) c.making.made.items c.in_ok-contestant.field-0 c.making.invariant.good c.in_ok-contestant.ensures.good);
      called = subst (λ (xs : List Player). names xs ≡ letters (c.making.p + 1)) (sym grown) (one_name_more c.making.made.items c.in_ok-contestant.field-0 c.making.p c.making.invariant.called c.in_ok-contestant.ensures.name);
    }
