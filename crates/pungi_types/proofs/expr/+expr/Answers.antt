use Rattle.std.proofs.Common.{◌∙◌, sym, ap, None}
use Rattle.pungi_tree.specs.ExprView.{expr_view}
use Rattle.pungi_types.specs.Calls.{first_met}
use Rattle.pungi_types.specs.WantsView.{wants_view}
use Rattle.pungi_types.proofs.PassedLemmas.{passed_met}
use Rattle.pungi_types.proofs.expr.+expr.Goals as goal

pub arg-returns-then-passed_address-clause-met : goal.arg-returns-then-passed_address-clause-met
arg-returns-then-passed_address-clause-met g t c =
    c.first_met.ensures
    ∙ ap (λ f. first_met (wants_view c.args.wants) f None) c.argument_form-form.ensures
    ∙ passed_met (g.N.Lookup.env c.args.names.now) (wants_view c.args.wants) (expr_view c.args.e.now)
    (sym c.passed_address.ensures ∙ c.if-passed_address.true)
