use Rattle.std.proofs.Common.{◌≡◌, ap, sym, map, length, drop, true, false, leb, ltb, rules}
use Rattle.std.proofs.lemmas.List.Sorted.{IsPartitionPoint-from_clause, IsPartitionedBy-leb, IsPartitionedBy-ltb, IsNonDecreasingBy-drop}
use Rattle.std.specs.{Prelude.{slice_range}, List.Sorted.{IsPartitionedBy, IsPartitionPoint}}
use Rattle.spki_service.{specs.AccessLists.{row_number}, proofs.SortedRows.{rank, rises, found, lower_is, upper_is, to_end}}
use Rattle.spki_service.proofs.index.EntryIndex.rows_at.Goals as goal

pub returns : goal.returns
returns c = λ ordered.
    let principals = c.args.self.now.principals in
    let octets = c.args.octets.now in
    let rows = c.args.rows.now in
    let start = c.partition_point-before.result in
    let n = rank principals octets in
    let up = rises principals octets rows ordered in
    let low = IsPartitionPoint-from_clause (λ row. ltb (n row) 1) rows start c.partition_point-before.ensures.partitioned
    (IsPartitionedBy-ltb n rows 1 up) (λ a r q k. search (rules, lower_is)) in
    let rest = slice_range rows start (length rows) in
    let parted : IsPartitionedBy (λ row. leb (n row) 1) rest =
    rw (to_end rows start) (IsPartitionedBy-leb n (drop start rows) 1 (IsNonDecreasingBy-drop n start rows up)) in
    let high : IsPartitionPoint (λ row. leb (n row) 1 ≡ true) (λ row. leb (n row) 1 ≡ false) rest c.partition_point-count.result =
    IsPartitionPoint-from_clause (λ row. leb (n row) 1) rest c.partition_point-count.result c.partition_point-count.ensures.partitioned parted
    (λ a r q k. search (rules, upper_is)) in
    let behind = rw (to_end rows start) at high in
    let same = found principals octets rows start c.partition_point-count.result ordered low behind in
    rw (to_end rows start) (ap (map row_number) (sym same))
