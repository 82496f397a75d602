use Rattle.std.proofs.Common.{leb, rules}
use Rattle.std.proofs.lemmas.List.Sorted.{IsPartitionPoint-from_clause, IsPartitionedBy-leb}
use Rattle.steps.proofs.Searched.{ends_in_order, point_holds}
use Rattle.steps.proofs.steps.search.place_of.Goals as goal

pub returns : goal.returns
returns c =
    let xs = c.args.runs.now in
    let k = c.args.column in
    let parted = IsPartitionedBy-leb (λ x. x.end) xs k (ends_in_order xs k c.requires) in
    point_holds xs k c.requires _ (IsPartitionPoint-from_clause (λ x. leb x.end k) _ _ c.partition_point.ensures.partitioned parted (λ a r q h. search rules))
    c.partition_point.ensures.bound
