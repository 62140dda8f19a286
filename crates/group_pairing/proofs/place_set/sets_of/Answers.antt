use Rattle.std.proofs.Common.{◌≤◌, ◌^◌, arith, lit<, pow_mono}
use lib.Pow.{shl_exact}
use Rattle.group_pairing.proofs.place_set.sets_of.Goals as goal

pub returns-clause-most : goal.returns-clause-most
returns-clause-most c =
    let exact = shl_exact {a = 1} 1 c.args.places 64 (lit< tt) (omega arith) in
    let most : 2 ^ c.args.places ≤ 2 ^ 14 = pow_mono c.requires in
    omega (arith, exact, most)
