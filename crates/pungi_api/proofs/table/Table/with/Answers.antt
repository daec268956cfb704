use Rattle.std.proofs.Common.{ℕ, List, map, sym, subst, ap, ◌∙◌, ◌++◌, IsTrue}
use Rattle.pungi_api.specs.declared.row.Row.{Row}
use Rattle.pungi_api.specs.Rows.{are_rows, named_row}
use Rattle.pungi_api.proofs.RowLemmas.{rows-with}
use Rattle.pungi_api.proofs.table.Table.with.Goals as goal

pub invariant_of-result : goal.invariant_of-result
invariant_of-result c =
    let Fits : List (ℕ × Row) → Type 0 = λ rows. IsTrue (are_rows rows) in
    let held : Fits c.args.self = subst Fits c.self.view_is c.self.invariant in
    subst Fits (sym (c.in_ok-add_all.ensures ∙ ap (λ rows. rows ++ map named_row c.args.rows.items) c.self.view_is))
    (rows-with c.args.self (map named_row c.args.rows.items) held c.requires.rows)
