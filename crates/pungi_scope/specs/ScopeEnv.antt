-- The names in force at a place of a function.
--   inner_env env locals     an environment with these locals before its own
use Rattle.std.specs.Prelude.{List, ◌++◌}
use Rattle.pungi_types.specs.Names.{Env}
use Rattle.pungi_types.specs.declared.local.Local.{Local}

abbrev pub inner_env : Env → List Local → Env
inner_env env locals = record env { locals = locals ++ env.locals }
