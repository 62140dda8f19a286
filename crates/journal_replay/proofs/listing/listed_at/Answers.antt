use Rattle.std.proofs.Common.{◌-◌, drop, leb, length, ltb, rules, take}
use Rattle.std.proofs.lemmas.List.Sorted.{IsPartitionPoint-from_clause}
use Rattle.entries.specs.declared.journal.Start.{Start}
use Rattle.journal_replay.proofs.Listed.{between, parted_above, parted_below}
use Rattle.journal_replay.proofs.listing.listed_at.Goals as goal

pub returns : goal.returns
returns c =
    let n = c.args.number in
    let xs = c.args.starts.now in
    let first = c.partition_point-first.result in
    let count = c.partition_point-count.result in
    let low = IsPartitionPoint-from_clause (λ (y : Start). ltb y.entry n) xs first c.partition_point-first.ensures.partitioned (parted_below n xs c.requires) (search rules) in
    let high = IsPartitionPoint-from_clause (λ (y : Start). leb y.entry n) (take (length xs - first) (drop first xs)) count c.partition_point-count.ensures.partitioned (parted_above n xs first c.requires) (search rules) in
    between n xs first count low c.partition_point-first.ensures.bound high c.partition_point-count.ensures.bound
