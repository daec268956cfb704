use Rattle.std.proofs.Common.{◌≡◌, ◌+◌, ◌≤◌, ◌&&◌, drop, map, cond}
use Rattle.pungi_tree.specs.ExprView.{expr_view, exprs_of}
use Rattle.pungi_types.specs.Exprs.{are_met, met_before, args_findings}
use Rattle.pungi_types.specs.Findings.{least_from}
use Rattle.pungi_types.specs.WantsView.{wants_view}
use Rattle.pungi_types.proofs.expr.+expr.Given as goal

abbrev pub invariant-args-loop-e : goal.invariant-args-loop-e
invariant-args-loop-e g l = record {
  all :
      (l.all && are_met (g.N.Lookup.env l.names) (wants_view l.rest) (exprs_of
      (map expr_view (drop l.e-index l.list.items))))
      ≡ are_met (g.N.Lookup.env l.names) (wants_view l.wants) (exprs_of (map expr_view l.list.items));
  front :
      l.front + cond l.all (met_before (g.N.Lookup.env l.names) (wants_view l.rest) (exprs_of
      (map expr_view (drop l.e-index l.list.items)))) 0
      ≡ met_before (g.N.Lookup.env l.names) (wants_view l.wants) (exprs_of (map expr_view l.list.items));
  within : l.front ≤ l.e-index;
  found :
      least_from l.first (args_findings (g.N.Lookup.env l.names) (wants_view l.rest) (exprs_of
      (map expr_view (drop l.e-index l.list.items))))
      ≡ least_from l.fn.first (args_findings (g.N.Lookup.env l.names) (wants_view l.wants) (exprs_of
      (map expr_view l.list.items)));
}
