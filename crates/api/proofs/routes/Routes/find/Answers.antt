use Rattle.std.proofs.Common.{sym}
use Rattle.api.proofs.Texts.{path_is_text}
use Rattle.api.proofs.routes.Routes.find.Goals as goal

pub unreachable-requires : goal.unreachable-requires
unreachable-requires c = c.in-Err.ensures.cases.0 (path_is_text c.args.path.now (sym c.if-not-are_visible.ensures))
