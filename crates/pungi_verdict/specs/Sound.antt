-- What a verdict says of a function: that its meaning is clean, or faulty. Nothing here is about how that is found.
-- A run goes through the functions of the file that the function calls.
--   HasMeaning n f              each word and operator of a function has a meaning, and there is an entry to it, where
--                               there are n static objects
--   IsClean fs n f              each run that returns, from each entry and with each list of choices, returns balanced
--                               under the terms of the function
--   ReportsLowest terms w v fault    where a run of a fault returns this value in this world, the fault names the
--                               lowest object that is counted and isn't level, with its change and escapes
--   IsReturnOf fs f fault       the run of a fault returns, and is not balanced
--   IsFaultOf fs n f fault      so does it, from an entry of the function
--   statics_of c                the static objects of a file
--   IsTrueOf fs n f v           what a verdict says of a function: clean and faulty speak of a function with a meaning,
--                               and are true of it
--   IsSound c d line            a line has the name of a function, and what its verdict says of the function is true
use Rattle.std.specs.Prelude.{◌≡◌, ◌≢◌, ℕ, ◌<◌, true, List, length, Option}
use Rattle.pungi_base.specs.declared.choice.Choice.{Choice}
use Rattle.pungi_base.specs.declared.entry.Entry.{Entry}
use Rattle.pungi_base.specs.declared.fault.Fault.{Fault}
use Rattle.pungi_base.specs.declared.names.Name.{Name}
use Rattle.pungi_base.specs.declared.pos.Pos.{Pos}
use Rattle.pungi_base.specs.declared.value.Value.{Value}
use Rattle.pungi_base.specs.declared.verdict.Verdict.{Verdict}
use Rattle.pungi_base.specs.declared.verdict.Verdict.TheVariants as verdict
use Rattle.pungi_api.specs.declared.terms.Terms.{Terms}
use Rattle.pungi_types.specs.Files.{Definition}
use Rattle.pungi_types.specs.Names.{statics_in}
use Rattle.pungi_types.specs.Refused.{CheckedFile}
use Rattle.pungi_resolve.specs.Functions.{resolved}
use Rattle.pungi_resolve.specs.Resolutions.{file_functions}
use Rattle.pungi_resolve.specs.Sound.{is_sound_action}
use Rattle.pungi_resolved.specs.Functions.{ResolvedFunction}
use Rattle.pungi_world.specs.declared.world.World.{World}
use Rattle.pungi_world.specs.World.{account_of}
use Rattle.pungi_world.specs.Escapes.{escaped_of, IsCounted, IsLevel, IsBalanced}
use Rattle.pungi_meaning.specs.Entries.{entry_fits}
use Rattle.pungi_meaning.specs.Run.{run_of, Returned}

-- without it no run could return, and each function would be clean
pub record HasMeaning (n : ℕ) (f : ResolvedFunction) : Type 0 where
  pub words : is_sound_action f.body ≡ true
  pub entry : Entry
  pub fits : entry_fits f.params n entry ≡ true

abbrev pub IsClean : List (Option ResolvedFunction) → ℕ → ResolvedFunction → Type 0
IsClean fs n f =
    (entry : Entry) → entry_fits f.params n entry ≡ true
    → (choices : List Choice) (steps : ℕ) (world : World) (value : Option Value) (p : Pos) (used : List Pos)
    → (run_of fs f entry choices steps).end ≡ Returned world value p used → IsBalanced f.terms entry world value

pub record ReportsLowest (terms : Terms) (world : World) (value : Option Value) (fault : Fault) : Type 0 where
  pub object : fault.object < length world.accounts
  pub counted : IsCounted terms fault.object
  pub change : fault.change ≡ (account_of world fault.object).change
  pub escaped : fault.escaped ≡ escaped_of terms fault.witness.input world fault.object value
  pub differ : fault.change ≢ fault.escaped
  pub lowest : (k : ℕ) → IsCounted terms k → k < fault.object → IsLevel terms fault.witness.input world value k

-- It returns where the fault says, after each choice was used where the fault says, and the fault names the lowest
-- object that is counted and isn't level.
pub record IsReturnOf (fs : List (Option ResolvedFunction)) (f : ResolvedFunction) (fault : Fault) : Type 0 where
  pub steps : ℕ
  pub world : World
  pub value : Option Value
  pub run : (run_of fs f fault.witness.input fault.witness.choices steps).end
      ≡ Returned world value fault.pos fault.used
  pub all_used : length fault.used ≡ length fault.witness.choices
  pub told : ReportsLowest f.terms world value fault

pub record IsFaultOf (fs : List (Option ResolvedFunction)) (n : ℕ) (f : ResolvedFunction) (fault : Fault) : Type 0 where
  pub entry : entry_fits f.params n fault.witness.input ≡ true
  pub returns : IsReturnOf fs f fault

abbrev pub statics_of : CheckedFile → ℕ
statics_of c = statics_in c.file.items

-- unknown and refused say nothing of what the function does
abbrev pub IsTrueOf : List (Option ResolvedFunction) → ℕ → ResolvedFunction → Verdict → Type 0
IsTrueOf fs n f verdict.Clean = HasMeaning n f × IsClean fs n f
IsTrueOf fs n f (verdict.Faulty fault) = HasMeaning n f × IsFaultOf fs n f fault
IsTrueOf fs n f (verdict.Unknown because) = Unit {0}
IsTrueOf fs n f (verdict.Refused at rule) = Unit {0}

abbrev pub IsSound : CheckedFile → Definition → Name × Verdict → Type 0
IsSound c d line = (line.0 ≡ d.name) × IsTrueOf (file_functions c) (statics_of c) (resolved c.file c.refused d) line.1
