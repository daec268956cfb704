use Rattle.std.proofs.Common.{◌≡◌, Some, arith, rules, ap, length, map, sym, ◌∙◌, string_bytes, String, Global}
use Rattle.toml.specs.View.{view}
use Rattle.toml.specs.declared.value.Value.{Value}
use Rattle.pungi_base.specs.Names.{with_text}
use Rattle.pungi_api.specs.Rows.{named_row}
use Rattle.pungi_config.specs.Configuration.{number_of, read_function}
use Rattle.pungi_config.specs.Wrong.{named_read}
use Rattle.pungi_config.proofs.Numbers.{extends_on}
use Rattle.pungi_config.proofs.Parts.{of_ok}
use Rattle.pungi_config.proofs.ReadAfter.{row_pushed, read_on, named_on, sorted_on, before_next, none_yet, new_next}
use Rattle.pungi_config.proofs.configuration.read_rows.Goals as goal

pub loop-name-preserved : goal.loop-name-preserved
loop-name-preserved c =
    let inv = c.loop-name.invariant in
    let e = c.in_ok-row.ensures in
    let table = c.args.table.now in
    let names = c.loop-name.names in
    let new = c.read_function.new.names in
    let value = c.in-Some.value.now in
    let entry : String Global × Value = (c.in-Some.name.now, value) in
    let it = c.loop-name.name-iterator in
    let rest = c.next.new.self in
    let n = c.in-Ok.row.0.0 in
    let row = c.in-Ok.row.1 in
    let before = map named_row c.loop-name.rows.items in
    let more = map named_row c.push.new.self.items in
    let steps = c.in-Some.ensures.steps in
    let pushed = row_pushed c.loop-name.rows.items c.push.new.self.items c.in-Ok.row
    c.in_ok-push-in-Ok.ensures.items in
    let text : c.as_str.result.now ≡ string_bytes c.in-Some.name.now = search rules in
    let is = of_ok _ _ _ c.in-Ok.is e.names ∙ ap (with_text names) text in
    let at = of_ok _ _ _ c.in-Ok.is e.text ∙ ap (λ t. Some t) text in
    let number = of_ok _ _ _ c.in-Ok.is e.number ∙ ap (number_of names) text in
    let none = of_ok _ _ _ c.in-Ok.is e.new in
    let read = sym (ap named_read c.in-Ok.is) ∙ e.row ∙ ap (λ t. read_function table names t (view value)) text in
    let before_this = none_yet names new entry it rest n row before more steps pushed e.grows at inv.before in
    record {
      can_next = tt;
      ends = tt;
      rows = read_on names new entry it rest n row before more steps pushed (read_function table) _ read number is
          inv.rows;
      named = named_on names new entry it rest n row before more steps pushed _ is inv.named;
      grown = extends_on _ _ _ inv.grown e.grows;
      few = omega (arith, e.room, inv.few, ap length steps);
      sorted = (sorted_on names new entry it rest n row before more steps pushed inv.sorted).1;
      before = before_next names new entry it rest n row before more steps pushed e.grows at inv.sorted inv.before;
      new = new_next table before more n row pushed before_this none inv.new;
    }
