use Rattle.std.proofs.Common.{◌≡◌, ◌<◌, ◌∙◌, Some, ap, arith, get_or, length, subst, sym}
use Rattle.std.proofs.lemmas.Option.{slice_get-get_or}
use Rattle.std.specs.Prelude.{slice_get}
use Rattle.pungi_domain.specs.Vectors.{IsEquation}
use Rattle.pungi_graph_tests.proofs.constants.is_zero_at_exit.Goals as goal

pub holds-requires : goal.holds-requires
holds-requires c =
    let exit = c.index-as_slice-class.result in
    let k = c.args.class in
    let widths = c.in_ok-found.ensures.widths in
    let lt : k < length c.in_ok-found.found.exits = omega (arith, widths.classes) in
    let at : slice_get c.in_ok-found.found.exits k ≡ Some exit =
    slice_get-get_or c.in_ok-found.found.exits k exit lt
    ∙ ap (λ xs. Some (get_or xs k exit)) (sym c.as_slice-2.ensures) ∙ ap Some (sym c.index-as_slice-class.is) in
    subst (λ n. IsEquation n c.in_ok-equation.equation.coefficients) (sym (widths.exit_widths k exit at))
    (subst (λ xs. IsEquation (get_or xs k 0) c.in_ok-equation.equation.coefficients) c.as_slice.ensures
    c.in_ok-equation.ensures)
