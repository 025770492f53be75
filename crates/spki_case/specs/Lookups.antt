-- What is found by a digest: the element of a map, and rows of an accepted list in the order of the search.
use Rattle.std.specs.{Prelude.{ℕ, List, Vec, Option, ◌≡◌, map, Bool}, BTreeMap.{BTreeMap, get_by}, Cmp.Lexicographic.{slice_cmp}}
use Rattle.std.specs.{Ordering.{nat_cmp, ordering_then}, declared.{alloc.Global.{Global}, cmp.Ordering.{Ordering}}}
use Rattle.std.specs.{List.{list_any, Sorted.{IsSorted}}, Borrow.{Bor}}
use Rattle.spki_case.specs.Case.{Row}
use Rattle.spki_case.specs.declared.table.Row as code_row

-- ---- maps by digests

-- the element at a digest
abbrev pub at_digest : {X : Type 0} → BTreeMap (Vec ℕ Global) X → List ℕ → Option X
at_digest m digest = get_by (λ d. slice_cmp nat_cmp digest d.items) m

-- ---- the rows of an accepted list in the order in which they are found

-- a row's digest, value and key
abbrev pub SortedRow : Type 0
SortedRow = Bor (List ℕ) × Bor (List ℕ) × Bor (List ℕ)

-- their order
abbrev pub compared : SortedRow → SortedRow → Ordering
compared x y =
    ordering_then (ordering_then (slice_cmp nat_cmp x.0.now y.0.now) (slice_cmp nat_cmp x.1.now y.1.now)) (slice_cmp nat_cmp x.2.now y.2.now)

-- the model's row
abbrev pub sorted_row : SortedRow → Row
sorted_row x = record { key = x.2.now; digest = x.0.now; value = x.1.now }

abbrev pub row_of : code_row.Row → Row
row_of row = record { key = row.key; digest = row.digest; value = row.value }

-- The sorted rows are the rows, in order: a test is true of some sorted row exactly if it is true of some row.
pub record AreSorted (rows : List code_row.Row) (sorted : List SortedRow) : Type 0 where
  pub same : (test : Row → Bool) → list_any test (map row_of rows) ≡ list_any test (map sorted_row sorted)
  pub ordered : IsSorted compared sorted
