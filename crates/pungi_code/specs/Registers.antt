-- What a run of a code holds, and the small words that describe an instruction.
--   Regs                        the world, the places of the choices that were used, and what the variables hold
--   Next                        what comes next, from a place of the code on
--   put x c m                   a variable holds something else
--   content_of a vars           what an atom stands for
--   with_value c p go           a value is read at a place of the text; to read what is unset stops
--   both_values, all_values as vars    the values of atoms, where none is unset
--   with_values                 so are many values read
--   choices_left choices m      the choices that are left
--   after_effect p r m go       what the world does at a place: with its effect and what is held after it the run goes
--                               on
--   put_answer x o m            a variable gets the answer, where there is one
use Rattle.std.specs.Prelude.{ℕ, List, [], ◌∷◌, ◌++◌, length, drop, replicate, slice_set, Option, Some, None, Result}
use Rattle.std.specs.Prelude.{Ok, Err}
use Rattle.pungi_base.specs.declared.choice.Choice.{Choice}
use Rattle.pungi_base.specs.declared.pos.Pos.{Pos}
use Rattle.pungi_base.specs.declared.value.Value.{Value}
use Rattle.pungi_base.specs.declared.value.Value.TheVariants as value
use Rattle.pungi_world.specs.declared.content.Content.{Content}
use Rattle.pungi_world.specs.declared.content.Content.TheVariants.{Unset, Holds}
use Rattle.pungi_world.specs.declared.effect.Effect.{Effect}
use Rattle.pungi_world.specs.declared.halt.Halt.{Halt}
use Rattle.pungi_world.specs.declared.halt.Halt.TheVariants as halt
use Rattle.pungi_world.specs.declared.world.World.{World}
use Rattle.pungi_meaning.specs.Run.{Run, end_at_once, Stopped, NeedsChoice}
use Rattle.pungi_meaning.specs.Work.{content_at}
use Rattle.pungi_code.specs.declared.atom.Atom.{Atom}
use Rattle.pungi_code.specs.declared.atom.Atom.TheVariants as atom
use Rattle.pungi_code.specs.declared.atom.Var.{Var}

pub record Regs : Type 0 where
  pub world : World
  pub used : List Pos
  pub vars : List Content

abbrev pub Next : Type 0
Next = ℕ → Regs → Run

abbrev pub put : Var → Content → Regs → Regs
put x c m = record m { vars = slice_set m.vars x.0 c }

-- ---- atoms

abbrev pub content_of : Atom → List Content → Content
content_of (atom.Var x) vars = content_at vars x.0
content_of (atom.Int n) vars = Holds (value.Int n)
content_of atom.Null vars = Holds value.Null
content_of atom.Text vars = Holds value.Text
content_of (atom.Static k) vars = Holds (value.Object k)

abbrev pub with_value : Content → Pos → (Value → Run) → Run
with_value Unset p go = end_at_once (Stopped p)
with_value (Holds v) p go = go v

abbrev pub both_values : Content → Option (List Value) → Option (List Value)
both_values Unset o = None
both_values (Holds v) None = None
both_values (Holds v) (Some vs) = Some (v ∷ vs)

abbrev pub all_values : List Atom → List Content → Option (List Value)
all_values [] vars = Some []
all_values (a ∷ as') vars = both_values (content_of a vars) (all_values as' vars)

abbrev pub with_values : Option (List Value) → Pos → (List Value → Run) → Run
with_values None p go = end_at_once (Stopped p)
with_values (Some vs) p go = go vs

-- ---- the world

abbrev pub choices_left : List Choice → Regs → List Choice
choices_left choices m = drop (length m.used) choices

abbrev pub after_effect : Pos → Result (Effect × World) Halt → Regs → (Effect → Regs → Run) → Run
after_effect p (Ok r) m go = go r.0 (record m { world = r.1; used = m.used ++ replicate r.0.used p })
after_effect p (Err halt.Stopped) m go = end_at_once (Stopped p)
after_effect p (Err halt.NeedsChoice) m go = end_at_once NeedsChoice
after_effect p (Err halt.Memory) m go = end_at_once NeedsChoice

abbrev pub put_answer : Option Var → Option Value → Regs → Regs
put_answer None o m = m
put_answer (Some x) None m = m
put_answer (Some x) (Some v) m = put x (Holds v) m
