use Rattle.std.proofs.Common.{◌≡◌, ◌≤◌, ◌++◌, ◌∷◌, [], length, map, None, Some, arith, refl, rules}
use Rattle.std.proofs.lemmas.List.{map_push}
use Rattle.pungi_parse.specs.item.UnitReader.{item_at}
use Rattle.pungi_parse.proofs.Parsed.{loop_ends, loop_stops, nothing_placed}
use Rattle.pungi_parse.proofs.item.UnitLoop.{UnitTo, unit_begins, unit_turns}
use Rattle.pungi_parse.proofs.stmt.Vars.{placed_length}
use Rattle.pungi_tree.specs.Placed.{placed, first_place}
use Rattle.pungi_tree.specs.UnitView.{item_view}
use Rattle.pungi_parse.proofs.unit.items.Goals as goal

pub each-init : goal.each-init
each-init c = rw c.new-found.ensures.items (unit_begins c.args.types.now (placed c.args.tokens.now))

pub each-preserved : goal.each-preserved
each-preserved c =
    let pushed : c.push.new.self.items ≡ c.each.found.items ++ c.in-Ok.item ∷ [] = search rules in
    let items : map item_view c.push.new.self.items ≡ map item_view c.each.found.items ++ item_view c.in-Ok.item
    ∷ [] = rw pushed (map_push item_view c.each.found.items c.in-Ok.item) in
    let fits : length (placed c.args.tokens.now) ≤ (length c.args.tokens.now) = omega
    (arith, placed_length c.args.tokens.now) in
    rw items (unit_turns c.args.types.now (placed c.args.tokens.now) (length c.args.tokens.now)
    (map item_view c.each.found.items) (item_view c.in-Ok.item) (placed c.each.rest.now)
    (placed c.in-Ok.after.now) fits c.each.invariant c.in-Ok.ensures.tree)

pub returns-in-Err-NothingRead : goal.returns-in-Err-NothingRead
returns-in-Err-NothingRead c =
    let split : c.each.rest.now ≡ c.in-Some.first.now ∷ c.in-Some.field-0-1.now = search rules in
    let place : first_place (placed c.each.rest.now) ≡ Some c.in-Some.first.now.pos = rw split refl in
    let fits : length (placed c.args.tokens.now) ≤ (length c.args.tokens.now) = omega
    (arith, placed_length c.args.tokens.now) in
    let none : item_at c.args.types.now (length c.args.tokens.now) (placed c.each.rest.now)
    ≡ None = rw c.in-Err-NothingRead.field-0-is at c.in-Err-NothingRead.ensures.tree in
    loop_stops (placed c.args.tokens.now) c.args.types.now (length c.args.tokens.now)
    (map item_view c.each.found.items) (placed c.each.rest.now) c.in-Some.first.now.pos c.requires fits
    c.each.invariant none place

pub returns : goal.returns
returns c =
    loop_ends (placed c.args.tokens.now) c.args.types.now (map item_view c.each.found.items)
    (placed c.each.rest.now) c.requires c.each.invariant (nothing_placed c.each.rest.now
    c.in_default.ensures.cases)
