-- A call of a function of the file, seen from its caller.
--   entered m vs            where the called code's run begins: with these arguments, in the world of the call
--   AreCalled claim m g vs code ks called    a code is that of the called function g, which names the static objects
--                           ks, and what is claimed of it began with the call
--   resumed_by x result m n what the caller holds afterwards, if it goes on: its own variables, with the result
use Rattle.std.specs.Prelude.{◌≡◌, ℕ, List, length, take, Option, Some, None}
use Rattle.pungi_base.specs.declared.value.Value.{Value}
use Rattle.pungi_domain.specs.Vectors.{Vector}
use Rattle.pungi_world.specs.declared.content.Content.TheVariants.{Holds}
use Rattle.pungi_code.specs.declared.atom.Var.{Var}
use Rattle.pungi_code.specs.declared.code.Code.{Code}
use Rattle.pungi_code.specs.Registers.{Regs, put}
use Rattle.pungi_shape.specs.declared.shape.Shape.{Shape}
use Rattle.pungi_shape.specs.Described.{debt}
use Rattle.pungi_shape.proofs.sound.Views.{Origin}
use Rattle.pungi_shape.proofs.sound.Flow.{Claim}

abbrev pub entered : Regs → List Value → Origin
entered m vs = record { entry = record { objects = length m.world.accounts; args = vs }; debts = debt m.world }

pub record AreCalled (claim : Claim) (m : Regs) (g : ℕ) (vs : List Value) (code : Code) (ks : List ℕ) (called : Claim)
    : Type 0 where
  pub origin : called.origin ≡ entered m vs
  pub count : length vs ≡ code.params
  pub kinds : claim.callees g ≡ Some (take code.params code.vars, code.result)
  pub file : (c : Code) → claim.file c → called.file c
  pub leaves : (x : Shape) (u : Vector) → called.leaves x u → claim.others g x u

abbrev pub resumed_by : Option Var → Option Value → Regs → Regs → Option Regs
resumed_by None result m n = Some (record n { vars = m.vars })
resumed_by (Some x) None m n = None
resumed_by (Some x) (Some v) m n = Some (put x (Holds v) (record n { vars = m.vars }))
