-- What calls take and give.
--   function_signature file d, signature_view s    the name of a function, what a call of it takes, and the kind of its
--                                                  result
use Rattle.std.specs.Prelude.{ℕ, List, Option}
use Rattle.pungi_tree.specs.Syntax.{Item}
use Rattle.pungi_types.specs.Calls.{params_wants}
use Rattle.pungi_types.specs.Files.{Definition}
use Rattle.pungi_types.specs.Kinds.{type_kind, spec_base}
use Rattle.pungi_types.specs.declared.kind.ValueKind.{ValueKind}
use Rattle.pungi_types.specs.declared.wants.Want.{Want}
use Rattle.pungi_names.specs.declared.signature.Signature.{Signature}

abbrev pub function_signature : List Item → Definition → ℕ × (List Want × Option ValueKind)
function_signature file d = (d.name.0, (params_wants file d.params, type_kind file (spec_base d.result) d.stars))

abbrev pub signature_view : Signature → ℕ × (List Want × Option ValueKind)
signature_view s = (s.name.0, (s.wants.items, s.result_kind))
