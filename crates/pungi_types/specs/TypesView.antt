-- What the program's types stand for.
--   core_view core           a type without its stars
--   typedef_view t           a typedef
--   definition_view f        a function
use Rattle.std.specs.Prelude.{length}
use Rattle.pungi_tree.specs.ExprView.{spec_view, params_view}
use Rattle.pungi_tree.specs.StmtView.{stmt_view}
use Rattle.pungi_tree.specs.declared.item.FunctionDef.{FunctionDef}
use Rattle.pungi_types.specs.Kinds as plain
use Rattle.pungi_types.specs.Files as files
use Rattle.pungi_types.specs.declared.types.Core.{Core}
use Rattle.pungi_types.specs.declared.types.Core.TheVariants as cores
use Rattle.pungi_types.specs.declared.types.Typedef.{Typedef}

abbrev pub core_view : Core → plain.Core
core_view (cores.Words ks) = plain.base_words ks.now
core_view (cores.Listed n) = plain.builtin n
core_view (cores.Struct n) = plain.struct_of n
core_view cores.Other = plain.no_core

abbrev pub typedef_view : Typedef → files.Typedef
typedef_view t = record { name = t.name; pos = t.pos; spec = spec_view t.spec.now; stars = t.stars }

abbrev pub definition_view : FunctionDef → files.Definition
definition_view f = record {
  name = f.name;
  pos = f.pos;
  result = spec_view f.result;
  stars = length f.stars.items;
  params = params_view f.params;
  body = stmt_view f.body;
}
