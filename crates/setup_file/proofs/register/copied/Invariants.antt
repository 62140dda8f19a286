use Rattle.std.proofs.Common.{◌≡◌, map, take}
use Rattle.setup_file.proofs.register.copied.Given as goal

abbrev pub invariant-loop-text : goal.invariant-loop-text
invariant-loop-text l = l.copied.items ≡ map (λ t. t.items) (take l.text-index l.texts)
