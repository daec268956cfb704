-- What is found by a word.
--   reached_view r         where a typedef leads
--   FindsTypedefs f file   the first typedef of each word
--   FindsTags f file       whether a word is the tag of a struct with fields
--   IsStep step w s        what the word is at once, or the word that it leads to
use Rattle.std.specs.Prelude.{◌≡◌, ℕ, Bool, List, Option, option_map, is_some}
use Rattle.pungi_tree.specs.Syntax.{Item}
use Rattle.pungi_types.specs.Files.{typedefs}
use Rattle.pungi_types.specs.Kinds.{typedef_in, tagged_in, Followed}
use Rattle.pungi_types.specs.Tags.{tags}
use Rattle.pungi_types.specs.TypesView.{core_view, typedef_view}
use Rattle.pungi_types.specs.declared.types.Typedef.{Typedef}
use Rattle.pungi_names.specs.Depth as depth
use Rattle.pungi_names.specs.declared.step.TypedefTarget.{TypedefTarget}
use Rattle.pungi_names.specs.declared.step.Step.{Step}
use Rattle.pungi_names.specs.declared.step.Step.TheVariants as steps

abbrev pub reached_view : TypedefTarget → depth.TypedefTarget
reached_view r = record { depth = r.depth; at = record { core = core_view r.core; stars = r.stars } }

abbrev pub FindsTypedefs : (ℕ → Option Typedef) → List Item → Type 0
FindsTypedefs find file = (w : ℕ) → option_map typedef_view (find w) ≡ typedef_in (typedefs file) w

abbrev pub FindsTags : (ℕ → Bool) → List Item → Type 0
FindsTags find file = (w : ℕ) → find w ≡ is_some (tagged_in (tags file) w)

abbrev pub IsStep : (ℕ → ℕ → Followed) → ℕ → Step → Type 0
IsStep step w (steps.Ends r) = depth.Reaches step w (reached_view r)
IsStep step w (steps.Leads k v) = depth.Leads step w k v
