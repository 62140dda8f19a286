use Rattle.std.proofs.Common.{◌≡◌, ◌++◌, take}
use Rattle.std.specs.List.{flat_map}
use Rattle.pgn_text.specs.Pgn.{tag_line}
use Rattle.pgn_text.proofs.write_game.put_tags.Given as goal

abbrev pub invariant-loop-tag : goal.invariant-loop-tag
invariant-loop-tag l = l.text.items ≡ l.initial.text.items ++ flat_map tag_line (take l.tag-index l.tags)
