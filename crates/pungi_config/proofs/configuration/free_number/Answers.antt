use Rattle.std.proofs.Common.{true, false, rules}
use Rattle.pungi_config.proofs.Numbers.{number_of_text, free_text}
use Rattle.pungi_config.proofs.configuration.free_number.Goals as goal

pub returns-then-is_free_number-clause-free : goal.returns-then-is_free_number-clause-free
returns-then-is_free_number-clause-free c =
    let e = c.in_ok-number.ensures in
    free_text c.args.names.now c.number.new.self c.args.name.now c.as_bytes-2.result.now c.in_ok-number.number.0
    (search rules) e.ok
    e.names e.number c.args.table.now true (search rules) (search rules)

pub returns-then-is_free_number-clause-number : goal.returns-then-is_free_number-clause-number
returns-then-is_free_number-clause-number c =
    let e = c.in_ok-number.ensures in
    number_of_text c.args.names.now c.number.new.self c.args.name.now c.as_bytes-2.result.now
    c.in_ok-number.number.0 (search rules)
    e.ok e.names e.number

pub returns-else-is_free_number-clause-free : goal.returns-else-is_free_number-clause-free
returns-else-is_free_number-clause-free c =
    let e = c.in_ok-number.ensures in
    free_text c.args.names.now c.number.new.self c.args.name.now c.as_bytes-2.result.now c.in_ok-number.number.0
    (search rules) e.ok
    e.names e.number c.args.table.now false (search rules) (search rules)
