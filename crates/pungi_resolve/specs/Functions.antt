-- How a function in which no rule holds is resolved.
--   param_kinds, params_kinds    the kinds of parameters
--   first_site env d    where the first parameter stands
--   resolved_in env d, resolved file refused d    a function
use Rattle.std.specs.Prelude.{ℕ, ◌+◌, List, [], ◌∷◌, Option}
use Rattle.pungi_api.specs.Terms.{terms_of}
use Rattle.pungi_tree.specs.Syntax.{Item, Params, params, ParamDecls, no_params, param_and, param_decl}
use Rattle.pungi_types.specs.Files.{SourceFile, Definition}
use Rattle.pungi_types.specs.Names.{Env}
use Rattle.pungi_types.specs.Calls.{param_kind}
use Rattle.pungi_resolved.specs.Functions.{ResolvedFunction}
use Rattle.pungi_resolve.specs.Stmts.{Site, params_site, body_action}
use Rattle.pungi_types.specs.Functions.{file_env, result_kind, params_count, body_locals}
use Rattle.pungi_types.specs.declared.kind.ValueKind.{ValueKind}

abbrev pub param_kinds : List Item → ParamDecls → List (Option ValueKind)
param_kinds file no_params = []
param_kinds file (param_and (param_decl qs s d) ds) = param_kind file s d ∷ param_kinds file ds

abbrev pub params_kinds : List Item → Params → List (Option ValueKind)
params_kinds file (params ds v dots) = param_kinds file ds

abbrev pub first_site : Env → Definition → Site
first_site env d = record { env = env; next = 0; result = result_kind env d }

abbrev pub resolved_in : Env → Definition → ResolvedFunction
resolved_in env d = record {
  name = d.name;
  pos = d.pos;
  params = params_kinds env.file.items d.params;
  locals = params_count d.params + body_locals d.body;
  result = result_kind env d;
  terms = terms_of env.file.terms d.name.0;
  body = body_action d.pos (params_site (first_site env d) d.params) d.body;
}

abbrev pub resolved : SourceFile → List ℕ → Definition → ResolvedFunction
resolved file refused d = resolved_in (file_env file refused d.name.0) d
