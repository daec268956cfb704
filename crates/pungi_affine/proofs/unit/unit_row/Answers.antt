use Rattle.std.proofs.Common.{◌≡◌, ◌∙◌, ◌∷◌, [], pos, ℤ, List, ap, refl, arith, rules}
use Rattle.pungi_affine.specs.Rows.{entry_at}
use Rattle.pungi_affine.specs.declared.row.Row.{Row}
use Rattle.pungi_affine.proofs.Rows.{entry_is, width_is}
use Rattle.pungi_affine.proofs.Units.{unit_entry}
use Rattle.pungi_affine.proofs.unit.unit_row.Goals as goal

pub returns : goal.returns
returns c =
    let row : Row = record {
      pivot = c.args.c;
      width = c.args.width;
      start = c.args.c;
      entries = c.in_ok-entries.entries;
    } in
    let one : c.in_ok-entries.entries.items ≡ pos 1 ∷ [] = search rules in
    let w = width_is row in
    record {
      pivot = refl;
      lengths = w;
      each = λ i lt. entry_is row i (omega (arith, w, lt)) ∙ ap (λ (xs : List ℤ). entry_at c.args.c xs i) one
          ∙ unit_entry c.args.c i;
    }
