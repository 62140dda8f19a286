use Rattle.std.proofs.Common.{◌∙◌, ap, not}
use Rattle.entries.specs.Names.{is_name}
use Rattle.serde_json.specs.View.{view}
use Rattle.setup_file.specs.declared.fault.Member.TheVariants.{Teams}
use Rattle.setup_file.specs.declared.fault.SetupCause.TheVariants.{Range}
use Rattle.setup_file.specs.Members.{text_of}
use Rattle.setup_file.specs.Reading.{none_at}
use Rattle.setup_file.proofs.Lists.{position_map}
use Rattle.setup_file.proofs.teams.names.Goals as goal

pub returns : goal.returns
returns c = c.none_at.ensures ∙ ap (none_at Teams Range) (c.first_no_name.ensures ∙ position_map view (λ v. not (is_name (text_of v))) c.args.values.now)
