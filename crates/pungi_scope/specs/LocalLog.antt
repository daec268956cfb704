-- Locals that are kept with what they hide.
--   locals_of log        the locals, the latest first
--   IsLog log            each local is kept with the one of the same name that came before
--   Finds latest locals  a map finds the latest local of each name
use Rattle.std.specs.Prelude.{◌≡◌, ℕ, List, [], ◌∷◌, map, nat_eq}
use Rattle.std.specs.declared.hash.FoldHasher.{FoldHasher}
use Rattle.std.specs.declared.hash.BuildHasherDefault.{BuildHasherDefault}
use Rattle.indexmap.specs.IndexMap.{get, IndexMap}
use Rattle.pungi_types.specs.Names.{local_in}
use Rattle.pungi_types.specs.declared.local.Local.{Local}
use Rattle.pungi_scope.specs.declared.local_names.Declared.{Declared}

abbrev pub locals_of : List Declared → List Local
locals_of log = map (λ d. d.local) log

abbrev pub IsLog : List Declared → Type 0
IsLog [] = Unit {0}
IsLog (d ∷ log) = (d.hidden ≡ local_in (locals_of log) d.local.name.0) × IsLog log

abbrev pub Finds : IndexMap ℕ Local (BuildHasherDefault FoldHasher) → List Local → Type 0
Finds latest locals = (word : ℕ) → get nat_eq latest word ≡ local_in locals word
