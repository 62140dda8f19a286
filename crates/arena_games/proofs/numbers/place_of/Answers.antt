use Rattle.std.proofs.Common.{ltb, rules}
use Rattle.std.proofs.lemmas.List.Sorted.{IsPartitionPoint-from_clause}
use Rattle.arena_games.proofs.Parts.{is_partitioned, place_is}
use Rattle.arena_games.proofs.numbers.place_of.Goals as goal

pub returns-clause-place : goal.returns-clause-place
returns-clause-place c parted =
    place_is c.args.numbers.now c.args.number c.partition_point.result parted c.partition_point.ensures.bound
    (IsPartitionPoint-from_clause (λ m. ltb m c.args.number) c.args.numbers.now c.partition_point.result c.partition_point.ensures.partitioned (is_partitioned c.args.numbers.now c.args.number parted) (search rules))
