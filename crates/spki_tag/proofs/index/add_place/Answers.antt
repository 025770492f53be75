use Rattle.std.proofs.Common.{rules, ◌≡◌, ◌++◌, ◌∷◌, [], ap, ◌∙◌}
use Rattle.spki_tag.{specs.Places.{found_at}, proofs.Places.{places-begun, places-put}}
use Rattle.spki_tag.proofs.index.add_place.Goals as goal

pub returns : goal.returns
returns c =
    let begun : c.or_default.result.now.items ≡ found_at c.args.map.now c.args.string.now =
    places-begun c.args.map.now.entries c.args.string.now _ c.or_default.result.now c.in_ok-map.ensures.value (search (rules, c.or_default.ensures.value)) in
    let update = c.in_ok-map.ensures.update.0 c.push.new.self in
    places-put c.args.map.now.entries _ _ c.args.string c.push.new.self c.args.place update.3 update.1 (search rules)
    (c.in_ok-push.ensures.items ∙ ap (λ ns. ns ++ c.args.place ∷ []) begun)
