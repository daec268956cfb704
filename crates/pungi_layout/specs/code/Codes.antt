-- The codes of functions.
--   code_for o       the code of a function that may be refused
use Rattle.std.specs.Prelude.{Option, Some, None}
use Rattle.pungi_resolved.specs.Functions.{ResolvedFunction}
use Rattle.pungi_code.specs.declared.code.Code.{Code}
use Rattle.pungi_layout.specs.code.FunctionCode.{code_of}

abbrev pub code_for : Option ResolvedFunction → Option Code
code_for None = None
code_for (Some f) = Some (code_of f)
