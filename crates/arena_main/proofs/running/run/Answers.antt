use Rattle.arena_main.specs.declared.forms.Form.TheVariants.{Gen}
use Rattle.arena_main.proofs.OneForm.{asks_nothing, form_is, other_form}
use Rattle.arena_main.proofs.running.run.Goals as goal

pub returns-clause-bad_words : goal.returns-clause-bad_words
returns-clause-bad_words g c = λ bad.
    asks_nothing c.args.words.now c.form.result c.form.ensures.has c.form.ensures.none (c.run_form.ensures.bad_words bad)

pub returns-clause-usage : goal.returns-clause-usage
returns-clause-usage g c = λ nothing.
    c.run_form.ensures.usage (other_form c.args.words.now c.form.result c.form.ensures.has nothing)

pub returns-clause-generates : goal.returns-clause-generates
returns-clause-generates g c = λ seed players has.
    c.run_form.ensures.generates seed players (form_is c.args.words.now c.form.result c.form.ensures.has c.form.ensures.none (Gen seed players) has)
