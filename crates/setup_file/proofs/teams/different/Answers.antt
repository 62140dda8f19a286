use Rattle.std.proofs.Common.{◌≡◌, ◌+◌, ◌∙◌, ◌++◌, ◌∷◌, [], ap, sym, true, false, drop, length-append}
use Rattle.serde_json.specs.View.{view}
use Rattle.setup_file.specs.Members.{is_taken, text_of}
use Rattle.setup_file.specs.Reading.{different_in}
use Rattle.setup_file.proofs.Steps.{texts_of, name_repeats, name_goes_on, names_read}
use Rattle.setup_file.proofs.teams.different.Goals as goal

pub returns-then-has : goal.returns-then-has
returns-then-has c =
    let taken : is_taken c.loop-value.names (text_of (view c.value-item.result)) ≡ true = ap (is_taken c.loop-value.names) (sym c.text_of-name.ensures) ∙ sym c.has.ensures ∙ c.if-has.true in
    rw (c.into.ensures, c.fault_of.ensures, c.len.ensures) (name_repeats c.args.values.now c.loop-value.names c.loop-value.value-index c.value-item.result _ c.loop-value.invariant.goes_on c.loop-value-test.true c.value-item.is taken)

pub loop-value-preserved : goal.loop-value-preserved
loop-value-preserved c =
    let fresh : is_taken c.loop-value.names (text_of (view c.value-item.result)) ≡ false = ap (is_taken c.loop-value.names) (sym c.text_of-name.ensures) ∙ sym c.has.ensures ∙ c.if-has.false in
    let more : c.add.new.self ≡ c.loop-value.names ++ text_of (view c.value-item.result) ∷ [] = c.in_ok-add.ensures.added ∙ ap (λ t. c.loop-value.names ++ t ∷ []) c.text_of-name.ensures in
    record {
      goes_on = ap (λ names. different_in names (texts_of (drop (c.loop-value.value-index + 1) c.args.values.now))) more ∙ name_goes_on c.args.values.now c.loop-value.names c.loop-value.value-index c.value-item.result _ c.loop-value.invariant.goes_on c.loop-value-test.true c.value-item.is fresh;
      few = rw more (length-append c.loop-value.names _ ∙ ap (λ n. n + 1) c.loop-value.invariant.few);
    }

pub returns : goal.returns
returns c = names_read c.args.values.now c.loop-value.names c.loop-value.value-index _ c.loop-value.invariant.goes_on c.loop-value-test.false
