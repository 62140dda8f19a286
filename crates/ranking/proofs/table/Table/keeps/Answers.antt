use Rattle.std.proofs.Common.{subst, sym, length}
use Rattle.ranking.specs.Rows.{Listed, IsListed, listed}
use Rattle.ranking.proofs.Players.{kept_is_listed}
use Rattle.ranking.proofs.table.Table.keeps.Goals as goal

pub returns : goal.returns
returns c =
    let is : IsListed (listed (length c.self.inside.numbers.items) c.self.inside.lines.items) = kept_is_listed c.self.inside.lines.items c.self.inside.numbers.items c.self.inside.order.items c.self.inside.places.items c.self.invariant.0 in
    subst (λ (t : Listed). IsListed t) c.self.view_is (subst (λ n. IsListed (listed n c.self.inside.lines.items)) (sym c.self.inside.numbers.ok.0) is)
