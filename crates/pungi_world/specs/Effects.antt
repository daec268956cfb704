-- What calls, loads and stores return.
--   >>=                    one step after another, as `?` joins them
--   effect value used      a step returns this, after so many choices
--   Gives result w meant   the answer, and the world after it, are those that are meant; want of memory may always come
use Rattle.std.specs.Prelude.{◌≡◌, ℕ, Option, Result, Ok, Err}
use Rattle.pungi_base.specs.declared.value.Value.{Value}
use Rattle.pungi_world.specs.declared.effect.Effect.{Effect}
use Rattle.pungi_world.specs.declared.halt.Halt.{Halt}
use Rattle.pungi_world.specs.declared.halt.Halt.TheVariants.{Stopped, NeedsChoice, Memory}
use Rattle.pungi_world.specs.declared.world.World.{World}

infixl 10 ◌>>=◌
abbrev pub ◌>>=◌ : {A B : Type 0} → Result A Halt → (A → Result B Halt) → Result B Halt
(Ok x) >>= f = f x
(Err h) >>= f = Err h

abbrev pub effect : Option Value → ℕ → Effect
effect value used = record { value = value; used = used }

abbrev pub Gives : Result Effect Halt → World → Result (Effect × World) Halt → Type 0
Gives (Ok e) w meant = meant ≡ Ok (e, w)
Gives (Err Stopped) w meant = meant ≡ Err Stopped
Gives (Err NeedsChoice) w meant = meant ≡ Err NeedsChoice
Gives (Err Memory) w meant = Unit {0}
