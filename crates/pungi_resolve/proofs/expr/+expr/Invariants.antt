use Rattle.std.proofs.Common.{◌≡◌, ◌&&◌, true, ◌++◌, drop, map}
use Rattle.pungi_tree.specs.ExprView.{expr_view, exprs_of}
use Rattle.pungi_types.specs.Exprs.{are_met}
use Rattle.pungi_types.specs.WantsView.{wants_view}
use Rattle.pungi_resolve.specs.Exprs.{resolve_all, given_params}
use Rattle.pungi_resolve.specs.Outputs.{outputs_of}
use Rattle.pungi_resolve.specs.Sound.{are_sound}
use Rattle.pungi_resolved.specs.ValueView.{value_view}
use Rattle.pungi_resolve.proofs.ListLemmas.{values_before}
use Rattle.pungi_resolve.proofs.expr.+expr.Given as goal

abbrev pub invariant-resolve_args-loop-e : goal.invariant-resolve_args-loop-e
invariant-resolve_args-loop-e g l = record {
  values :
      values_before (map value_view l.args.values.items) (resolve_all (g.N.Lookup.env l.names) (wants_view l.rest)
      (exprs_of (map expr_view (drop l.e-index l.list.items))))
      ≡ resolve_all (g.N.Lookup.env l.names) (wants_view l.wants) (exprs_of (map expr_view l.list.items));
  met :
      (l.args.met && are_met (g.N.Lookup.env l.names) (wants_view l.rest) (exprs_of
      (map expr_view (drop l.e-index l.list.items))))
      ≡ are_met (g.N.Lookup.env l.names) (wants_view l.wants) (exprs_of (map expr_view l.list.items));
  given :
      l.args.given ++ given_params (g.N.Lookup.env l.names) (exprs_of (map expr_view (drop l.e-index l.list.items)))
      ≡ given_params (g.N.Lookup.env l.names) (exprs_of (map expr_view l.list.items));
  outs :
      l.args.outs ++ outputs_of (g.N.Lookup.env l.names) (wants_view l.rest) (exprs_of
      (map expr_view (drop l.e-index l.list.items)))
      ≡ outputs_of (g.N.Lookup.env l.names) (wants_view l.wants) (exprs_of (map expr_view l.list.items));
  sound : are_sound (resolve_all (g.N.Lookup.env l.names) (wants_view l.rest) (exprs_of
      (map expr_view (drop l.e-index l.list.items)))) ≡ true;
}
