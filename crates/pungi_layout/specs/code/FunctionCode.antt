-- The code of a function.
--   code_of f            its instructions, what its variables hold, the kind of its result, its heads, and its
--                        terms
--   function_kinds f, callees_of fs n    what a call of a function takes and gives; of one of a file, by its number
--   HasLocals f          its locals are its parameters and what it declares
--   HasParams f          each parameter is of a kind that a slot may have
use Rattle.std.specs.Prelude.{◌≡◌, ℕ, ◌+◌, true, List, length, map, Option, option_map}
use Rattle.std.specs.List.{list_all}
use Rattle.pungi_api.specs.declared.param.Param.{Param}
use Rattle.pungi_resolved.specs.Functions.{ResolvedFunction}
use Rattle.pungi_meaning.specs.Frames.{numbered}
use Rattle.pungi_code.specs.declared.code.Code.{Code}
use Rattle.pungi_code.specs.WellFormed.{CallKinds, is_slot_kind}
use Rattle.pungi_layout.specs.code.CallKinds.{held_kind, returned_kind}
use Rattle.pungi_layout.specs.code.Heads.{heads_of}
use Rattle.pungi_layout.specs.code.StmtCode.{body_code}
use Rattle.pungi_layout.specs.code.VarKinds.{stmt_declared, var_kinds}

abbrev pub code_of : ResolvedFunction → Code
code_of f =
    record {
      instrs = body_code f;
      vars = var_kinds f;
      params = length f.params;
      locals = f.locals;
      result = returned_kind f.result;
      heads = heads_of f;
      terms = f.terms;
    }

abbrev pub function_kinds : ResolvedFunction → List Param × Option Param
function_kinds f = (map held_kind f.params, returned_kind f.result)

abbrev pub callees_of : List (Option ResolvedFunction) → ℕ → CallKinds
callees_of fs n = option_map function_kinds (numbered fs n)

abbrev pub HasLocals : ResolvedFunction → Type 0
HasLocals f = length f.params + length (stmt_declared f.body) ≡ f.locals

abbrev pub HasParams : ResolvedFunction → Type 0
HasParams f = list_all is_slot_kind (map held_kind f.params) ≡ true
