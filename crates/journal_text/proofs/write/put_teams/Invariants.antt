use Rattle.std.proofs.Common.{◌≡◌, ◌++◌, take}
use Rattle.std.specs.List.{flat_map}
use Rattle.journal_text.specs.Lines.{line}
use Rattle.journal_text.specs.Text.{team_words}
use Rattle.journal_text.proofs.write.put_teams.Given as goal

abbrev pub invariant-loop-team : goal.invariant-loop-team
invariant-loop-team l = l.text.items ≡ l.initial.text.items ++ flat_map (λ name. line (team_words name)) (take l.team-index l.teams)
