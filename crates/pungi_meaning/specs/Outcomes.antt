-- The outcomes of the executor as the ends of the meaning.
--   end_of o      what an outcome stands for
--   end_at e m    how a run ends that stands so and ends for this reason; a call ends none
--   end_after o m   how a run ends for this reason, if there is one; else it is out of fuel
--   GoesOn r halt frames m    whatever the rest of a run r may be, it ends for this reason, or goes on from this
--                             machine where these functions wait
--   IsCounted o   the world that a run returns can be counted
use Rattle.std.specs.Prelude.{◌≡◌, List, Option, Some, None}
use Rattle.pungi_world.specs.Escapes.{IsCountable}
use Rattle.pungi_meaning.specs.declared.machine.Machine.{Machine}
use Rattle.pungi_meaning.specs.declared.machine.Waiting.{Waiting}
use Rattle.pungi_meaning.specs.declared.machine.Ending.{Ending}
use Rattle.pungi_meaning.specs.declared.machine.Ending.TheVariants as endings
use Rattle.pungi_meaning.specs.declared.outcome.Outcome.{Outcome}
use Rattle.pungi_meaning.specs.declared.outcome.Outcome.TheVariants as outcomes
use Rattle.pungi_meaning.specs.Machine.{frames_of, state_of, todos}
use Rattle.pungi_meaning.specs.Run.{End, Returned, Stopped, NeedsChoice, OutOfFuel, Rest, Run}

abbrev pub end_of : Outcome → End
end_of (outcomes.Returned w v p used) = Returned w v p used.items
end_of (outcomes.Stopped p) = Stopped p
end_of outcomes.NeedsChoice = NeedsChoice
end_of outcomes.OutOfFuel = OutOfFuel

abbrev pub end_at : Ending → Machine → End
end_at (endings.Call p f b n) m = OutOfFuel
end_at (endings.Leave p v) m = Returned m.world v p m.used.items
end_at (endings.Stop p) m = Stopped p
end_at endings.Want m = NeedsChoice

abbrev pub end_after : Option Ending → Machine → End
end_after (Some e) m = end_at e m
end_after None m = OutOfFuel

abbrev pub GoesOn : (Rest → Run) → Option Ending → List Waiting → Machine → Type 0
GoesOn r (Some e) frames m = (rest : Rest) → end_at e m ≡ (r rest).end
GoesOn r None frames m = (rest : Rest) → (rest (frames_of frames) (todos m.tasks.items) (state_of m)).end ≡ (r rest).end

abbrev pub IsCounted : Outcome → Type 0
IsCounted (outcomes.Returned w v p used) = IsCountable w
IsCounted o = Unit {0}
