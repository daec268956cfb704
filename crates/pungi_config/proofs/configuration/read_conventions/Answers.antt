use Rattle.std.proofs.Common.{◌≡◌, Some, arith, rules, ap, length, refl, sym, ◌∙◌, ◌++◌, ◌∷◌, [], String}
use Rattle.std.proofs.Common.{Global, string_bytes}
use Rattle.toml.specs.View.{view, table_view}
use Rattle.toml.specs.declared.value.Value.{Value}
use Rattle.pungi_base.specs.Names.{with_text}
use Rattle.pungi_config.specs.Configuration.{number_of, read_convention, functions_in}
use Rattle.pungi_config.specs.Wrong.{named_read}
use Rattle.pungi_config.proofs.Numbers.{extends_on}
use Rattle.pungi_config.proofs.Parts.{of_ok}
use Rattle.pungi_config.proofs.NewRows.{is_none_from}
use Rattle.pungi_config.proofs.ReadAfter.{read_on, named_on, sorted_on, before_next, none_yet}
use Rattle.pungi_config.proofs.configuration.read_conventions.Goals as goal

pub declare-requires : goal.declare-requires
declare-requires c =
    let inv = c.loop-name.invariant in
    let e = c.in_ok-number.ensures in
    let entry : String Global × Value = (c.in-Some.name.now, c.in-Some.value.now) in
    let before = c.loop-name.terms.conventions in
    let n = c.in-Ok.number.0 in
    let text : c.as_str.result.now ≡ string_bytes c.in-Some.name.now = search rules in
    let at = of_ok _ _ _ c.in-Ok.is e.text ∙ ap (λ t. Some t) text in
    is_none_from _ (none_yet c.loop-name.names c.read_convention.new.names entry c.loop-name.name-iterator
    c.next.new.self n c.in-Ok.convention before (before ++ (n, c.in-Ok.convention) ∷ []) c.in-Some.ensures.steps refl
    e.grows at inv.before)

pub loop-name-preserved : goal.loop-name-preserved
loop-name-preserved c =
    let inv = c.loop-name.invariant in
    let e = c.in_ok-number.ensures in
    let table = c.args.table.now in
    let functions = functions_in (table_view c.args.members.now) in
    let names = c.loop-name.names in
    let new = c.read_convention.new.names in
    let value = c.in-Some.value.now in
    let entry : String Global × Value = (c.in-Some.name.now, value) in
    let it = c.loop-name.name-iterator in
    let rest = c.next.new.self in
    let n = c.in-Ok.number.0 in
    let convention = c.in-Ok.convention in
    let before = c.loop-name.terms.conventions in
    let more = c.declare.new.self.conventions in
    let steps = c.in-Some.ensures.steps in
    let declared : c.declare.new.self ≡ record c.loop-name.terms {
      conventions = before ++ (n, convention) ∷ [];
    } = c.in_ok-declare-in-Ok.ensures in
    let pushed : more ≡ before ++ (n, convention) ∷ [] = ap (λ t. t.conventions) declared in
    let text : c.as_str.result.now ≡ string_bytes c.in-Some.name.now = search rules in
    let is = of_ok _ _ _ c.in-Ok.is e.names ∙ ap (with_text names) text in
    let at = of_ok _ _ _ c.in-Ok.is e.text ∙ ap (λ t. Some t) text in
    let number = of_ok _ _ _ c.in-Ok.is e.number ∙ ap (number_of names) text in
    let read = sym (ap named_read c.in-Ok.is) ∙ e.convention
    ∙ ap (λ t. read_convention table functions names t (view value)) text in
    record {
      can_next = tt;
      ends = tt;
      read = read_on names new entry it rest n convention before more steps pushed (read_convention table functions) _
          read number is inv.read;
      profile = ap (λ t. t.profile) declared ∙ inv.profile;
      named = named_on names new entry it rest n convention before more steps pushed _ is inv.named;
      grown = extends_on _ _ _ inv.grown e.grows;
      few = omega (arith, e.room, inv.few, ap length steps);
      sorted = (sorted_on names new entry it rest n convention before more steps pushed inv.sorted).1;
      before = before_next names new entry it rest n convention before more steps pushed e.grows at inv.sorted inv.before;
    }
