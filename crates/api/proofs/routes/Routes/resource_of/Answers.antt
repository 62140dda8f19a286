use Rattle.std.proofs.Common.{◌≡◌, ◌∙◌, ap, sym, List, ℕ}
use Rattle.matchit.specs.Rows.{RowsOf}
use Rattle.matchit.specs.Router.{RouteOf, map_key}
use Rattle.matchit.specs.Seek.{first}
use Rattle.api.specs.declared.resource.Resource.{Resource}
use Rattle.api.proofs.Routing.{router_finds}
use Rattle.api.proofs.routes.Routes.resource_of.Goals as goal

pub returns-in-Ok : goal.returns-in-Ok
returns-in-Ok c =
    sym (ap (map_key (λ (e : RouteOf Resource). e.value)) c.in-Ok.ensures.found)
    ∙ ap (λ (rows : RowsOf (RouteOf Resource)). map_key (λ (e : RouteOf Resource). e.value) (first rows c.args.path.now)) c.self.invariant
    ∙ router_finds c.args.path.now c.requires

pub returns-in-Err : goal.returns-in-Err
returns-in-Err c =
    sym (ap (map_key (λ (e : RouteOf Resource). e.value)) c.in-Err.ensures.missing)
    ∙ ap (λ (rows : RowsOf (RouteOf Resource)). map_key (λ (e : RouteOf Resource). e.value) (first rows c.args.path.now)) c.self.invariant
    ∙ router_finds c.args.path.now c.requires
