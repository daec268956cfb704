use Rattle.std.proofs.Common.{◌∙◌, length, refl}
use Rattle.std.proofs.lemmas.Option.{slice_get_past, slice_get_read}
use Rattle.pungi_tree.specs.ExprView.{param_decl_view}
use Rattle.pungi_scope.proofs.ParamPlaces.{object_at, none_at}
use Rattle.pungi_scope.proofs.conventions.has_object.Goals as goal

pub returns-in-Some : goal.returns-in-Some
returns-in-Some g c =
    let xs = c.args.list.now in
    let at = c.in-Some.ensures.lookup in
    c.is_object_param.ensures
    ∙ object_at param_decl_view (g.N.Lookup.env c.args.names.now).file.items xs c.args.place c.in-Some.param.now
    (slice_get_read xs (length xs) c.args.place c.in-Some.param.now refl at.3.0 at.1)

pub returns-in-None : goal.returns-in-None
returns-in-None g c =
    none_at param_decl_view (g.N.Lookup.env c.args.names.now).file.items c.args.list.now c.args.place
    (slice_get_past c.args.list.now c.args.place c.in-None.ensures.lookup.3)
