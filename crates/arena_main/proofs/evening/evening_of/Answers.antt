use Rattle.std.proofs.Common.{refl}
use Rattle.arena_main.proofs.OneForm.{form_of_evening}
use Rattle.arena_main.proofs.evening.evening_of.Goals as goal

pub returns-in_default-clause-none : goal.returns-in_default-clause-none
returns-in_default-clause-none c none setup port workers journal ask =
    c.in_default.ensures.none refl port workers
    (form_of_evening c.args.words.now c.form.result c.form.ensures.has c.form.ensures.none setup port workers journal ask)
