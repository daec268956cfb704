-- Arguments of a call.
--   argument_in env ws e     an argument where these are wanted
--   argument_values env ws e    the same in a list; none where the call writes it
use Rattle.std.specs.Prelude.{List, [], ◌∷◌, ◌&&◌, if◌then◌else◌}
use Rattle.pungi_tree.specs.Syntax.{Expr}
use Rattle.pungi_types.specs.Names.{Env}
use Rattle.pungi_types.specs.Calls.{is_module_address, is_place, wants_module, wants_place, wants_output}
use Rattle.pungi_types.specs.Exprs.{kind_of}
use Rattle.pungi_types.specs.Formats.{expr_pos}
use Rattle.pungi_resolve.specs.Exprs.{convert, module_address, or_int, place_of, resolve, want_kind}
use Rattle.pungi_resolved.specs.Values.{Value, emptied}
use Rattle.pungi_types.specs.declared.wants.Want.{Want}

abbrev pub argument_in : Env → List Want → Expr → Value
argument_in env ws e =
    (if wants_module ws && is_module_address env e then module_address e else
    (if wants_place ws && is_place env e then emptied (expr_pos e) (or_int (kind_of env e)) (place_of env e) else
    convert (expr_pos e) (want_kind ws) (kind_of env e) (resolve env e)))

abbrev pub argument_values : Env → List Want → Expr → List Value
argument_values env ws e = if wants_output ws then [] else argument_in env ws e ∷ []
