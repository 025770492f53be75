use Rattle.std.proofs.{Common.{◌≡◌, ◌∙◌, ap, map, rules}, lemmas.Fn.{always_returns_same}}
use Rattle.std.specs.{Ordering.{is_lt}, List.Sorted.{IsSortedByKey, IsStableBy}}
use Rattle.spki_service.specs.AccessLists.{row_key, key_order, octets_of, rows_from}
use Rattle.spki_service.proofs.SortedRows.{before, ranked, sorted_order, sorted_numbers, all_octets-owners}
use Rattle.spki_service.proofs.index.sorted_rows.Goals as goal

pub returns-clause-ordered : goal.returns-clause-ordered
returns-clause-ordered c = λ es is.
    let principals = c.args.principals.now in
    let ys = c.sort_by.new.self.items in
    let up : IsSortedByKey (row_key principals) key_order ys =
    c.in_ok-sort_by.ensures.sorted (before principals) (ranked principals)
    (always_returns_same _ (λ a r. is_lt r ≡ before principals a.0.now a.1.0.now) _ (λ a r q k. search rules)) in
    let stable : IsStableBy (before principals) c.in_ok-rows.rows.items ys =
    c.sort_by.ensures.stable (before principals) (ranked principals)
    (always_returns_same _ (λ a r. is_lt r ≡ before principals a.0.now a.1.0.now) _ (λ a r q k. search rules)) in
    sorted_order principals c.args.alg es (c.requires ∙ ap (map octets_of) is ∙ all_octets-owners es) c.in_ok-rows.rows.items ys (c.in_ok-rows.ensures ∙ ap (rows_from 1 c.args.alg) is) c.sort_by.ensures.permutation stable up

pub returns-clause-numbers : goal.returns-clause-numbers
returns-clause-numbers c = λ es is.
    let principals = c.args.principals.now in
    let ys = c.sort_by.new.self.items in
    let stable : IsStableBy (before principals) c.in_ok-rows.rows.items ys =
    c.sort_by.ensures.stable (before principals) (ranked principals)
    (always_returns_same _ (λ a r. is_lt r ≡ before principals a.0.now a.1.0.now) _ (λ a r q k. search rules)) in
    sorted_numbers principals c.args.alg es (c.requires ∙ ap (map octets_of) is ∙ all_octets-owners es) c.in_ok-rows.rows.items ys (c.in_ok-rows.ensures ∙ ap (rows_from 1 c.args.alg) is) c.sort_by.ensures.permutation stable
