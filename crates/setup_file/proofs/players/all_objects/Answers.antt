use Rattle.std.proofs.Common.{◌∙◌, ap, not}
use Rattle.serde_json.specs.View.{view}
use Rattle.setup_file.specs.declared.fault.Member.TheVariants.{Players}
use Rattle.setup_file.specs.declared.fault.SetupCause.TheVariants.{Kind}
use Rattle.setup_file.specs.Members.{is_object}
use Rattle.setup_file.specs.Reading.{none_at}
use Rattle.setup_file.proofs.Lists.{position_map}
use Rattle.setup_file.proofs.players.all_objects.Goals as goal

pub returns : goal.returns
returns c = c.none_at.ensures ∙ ap (none_at Players Kind) (c.first_no_object.ensures ∙ position_map view (λ v. not (is_object v)) c.args.values.now)
