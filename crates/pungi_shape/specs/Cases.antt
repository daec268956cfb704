-- The cases of one part of an instruction.
--   Onward                  where a case leads: on within the instruction, with this outcome; to an instruction; out of
--                           the function
--   Case                    the equations that a vector meets for which the case comes: each form is 0; what is held
--                           after it; and the variable that gets any number after it, if one does
--   passes_on k s, leads pc s, frees x pc s    a case without equations that leads on within the instruction, to an
--                           instruction, and there with any number in a variable
--   leads_where f pc s      one that comes where a form is 0
--   holds_something h       neither unset nor dead
--   is_set s x, are_set s xs    a variable holds something; so do all of these
use Rattle.std.specs.Prelude.{ℕ, Bool, true, false, List, [], ◌∷◌, Some, None}
use Rattle.std.specs.List.{list_all}
use Rattle.pungi_shape.specs.declared.holding.Holding.{Holding}
use Rattle.pungi_shape.specs.declared.holding.Holding.TheVariants.{Dead, Unset}
use Rattle.pungi_shape.specs.Forms.{Form}
pub use Rattle.pungi_shape.specs.declared.case.Case.{Case}
pub use Rattle.pungi_shape.specs.declared.case.Onward.{Onward}
pub use Rattle.pungi_shape.specs.declared.case.Onward.TheVariants.{Within as within, LeadsTo as leads_to}
pub use Rattle.pungi_shape.specs.declared.case.Onward.TheVariants.{Leaves as leaves}
use Rattle.pungi_shape.specs.Scenes.{Scene, holding_at}

abbrev pub passes_on : ℕ → Scene → Case
passes_on k s = record { guard = []; scene = s; freed = None; onward = within k }

abbrev pub leads : ℕ → Scene → Case
leads pc s = record { guard = []; scene = s; freed = None; onward = leads_to pc }

abbrev pub frees : ℕ → ℕ → Scene → Case
frees x pc s = record { guard = []; scene = s; freed = Some x; onward = leads_to pc }

abbrev pub leads_where : Form → ℕ → Scene → Case
leads_where f pc s = record { guard = f ∷ []; scene = s; freed = None; onward = leads_to pc }

abbrev pub holds_something : Holding → Bool
holds_something Dead = false
holds_something Unset = false
holds_something h = true

abbrev pub is_set : Scene → ℕ → Bool
is_set s x = holds_something (holding_at s x)

abbrev pub are_set : Scene → List ℕ → Bool
are_set s xs = list_all (is_set s) xs
