-- A run of a code alone that returns is balanced, where each instruction's run goes on and each return leaves so.
--   Later                   a run of so much fuel from anywhere in the code that returns is balanced
use Rattle.std.proofs.Common.{◌≡◌, ℕ, zero, suc, List, refl, sym, subst, pos}
use Rattle.std.specs.Prelude.{slice_get, Option, Some, None}
use Rattle.pungi_base.specs.declared.choice.Choice.{Choice}
use Rattle.pungi_base.specs.declared.entry.Entry.{Entry}
use Rattle.pungi_base.specs.declared.pos.Pos.{Pos}
use Rattle.pungi_base.specs.declared.value.Value.{Value}
use Rattle.pungi_api.specs.declared.terms.Terms.{Terms}
use Rattle.pungi_world.specs.declared.world.World.{World}
use Rattle.pungi_world.specs.Escapes.{IsBalanced}
use Rattle.pungi_meaning.specs.Run.{Returned, Stopped, OutOfFuel, nowhere, end_at_once}
use Rattle.pungi_code.specs.declared.atom.Atom.{Atom}
use Rattle.pungi_code.specs.declared.code.Code.{Code}
use Rattle.pungi_code.specs.declared.code.Line.{Line}
use Rattle.pungi_code.specs.declared.instr.Instr.{Instr}
use Rattle.pungi_code.specs.declared.instr.Instr.TheVariants.{Call, Return}
use Rattle.pungi_code.specs.Registers.{Regs, Next, content_of}
use Rattle.pungi_code.specs.Perform.{perform}
use Rattle.pungi_code.specs.Run.{fetch, exec}
use Rattle.pungi_shape.proofs.sound.Flow.{Claim, Flow, IsCode, MeetsExits}
use Rattle.pungi_shape.proofs.sound.Stands.{Runs}
use Rattle.pungi_shape.proofs.sound.AllSteps.{all_step}
use Rattle.pungi_shape.proofs.sound.ExitDuties.{leaves_balanced}
use Rattle.pungi_shape.proofs.sound.Returns.{IsResult, returns}
use Rattle.pungi_shape.proofs.sound.Simple.{value_read}

pub out_of_fuel : (w : World) (v : Option Value) (q : Pos) (used : List Pos) → OutOfFuel ≡ Returned w v q used → ⊥
out_of_fuel w v q used e = absurd (cc)

pub stopped : (p : Pos) (w : World) (v : Option Value) (q : Pos) (used : List Pos) → Stopped p ≡ Returned w v q used → ⊥
stopped p w v q used e = absurd (cc)

pub ended : (x w : World) (y v : Option Value) (p q : Pos) (us vs : List Pos) → Returned x y p us ≡ Returned w v q vs
    → (x ≡ w) × (y ≡ v)
ended x w y v p q us vs e = (cc, cc)

pub balanced_so : (terms : Terms) (entry : Entry) (x w : World) (v : Option Value) → x ≡ w → IsBalanced terms entry x v
    → IsBalanced terms entry w v
balanced_so terms entry x w v e is = subst (λ z. IsBalanced terms entry z v) e is

module _ (choices : List Choice) (w : World) (v : Option Value) (q : Pos) (used : List Pos) where
  -- a return ends the run
  returned : (a : Option Atom) (p : Pos) (next : Next) (pc : ℕ) (m : Regs)
      → (perform choices (Return a) p next pc m).end ≡ Returned w v q used → IsResult a m v × (m.world ≡ w)
  returned None p next pc m e = let both = ended m.world w None v p q m.used used e in (sym both.1, both.0)
  returned (Some a) p next pc m e =
      let read = value_read (content_of a m.vars) p (λ u. end_at_once (Returned m.world (Some u) p m.used)) w v q used e
      in
      let both = ended m.world w (Some read.0) v p q m.used used read.2 in
      ((read.0, (sym both.1, read.1)), both.0)

  abbrev pub Later : Code → List ℕ → Claim → ℕ → Type 0
  Later code ks claim fuel =
      (pc : ℕ) (m : Regs) → Runs code ks claim pc m
      → (exec choices code.instrs fuel pc m).end ≡ Returned w v q used
      → IsBalanced code.terms claim.origin.entry w v

  pub runs_balanced : (code : Code) (ks : List ℕ) (claim : Claim) → IsCode code ks claim → Flow code ks claim
      → MeetsExits code claim → ((k : ℕ) → claim.origin.debts k ≡ pos 0) → (fuel : ℕ) → Later code ks claim fuel
  runs_balanced code ks claim is flow meets none zero pc m runs e = absurd (out_of_fuel w v q used e)
  runs_balanced code ks claim is flow meets none (suc fuel) pc m runs e =
      fetched (slice_get code.instrs pc) refl e (runs_balanced code ks claim is flow meets none fuel)
    where
      performed : (line : Line) → slice_get code.instrs pc ≡ Some line → (i : Instr) → line.instr ≡ i
          → (perform choices i line.pos (exec choices code.instrs fuel) pc m).end ≡ Returned w v q used
          → Later code ks claim fuel → IsBalanced code.terms claim.origin.entry w v
      performed line there (Call x g as') same ends later = absurd (stopped line.pos w v q used ends)
      performed line there (Return a) same ends later =
          let so = returned a line.pos (exec choices code.instrs fuel) pc m ends in
          balanced_so code.terms claim.origin.entry m.world w v so.1 (leaves_balanced code ks claim m v meets none
          (returns code ks claim is flow a pc line m v there same runs so.0))
      performed line there i same ends later =
          let on = all_step code ks claim is flow i refl choices line.pos (exec choices code.instrs fuel) pc line m w v
          q used there same runs ends in
          later on.pc on.regs on.runs on.ends

      fetched : (o : Option Line) → slice_get code.instrs pc ≡ o
          → (fetch choices o (exec choices code.instrs fuel) pc m).end ≡ Returned w v q used
          → Later code ks claim fuel → IsBalanced code.terms claim.origin.entry w v
      fetched None there ends later = absurd (stopped nowhere w v q used ends)
      fetched (Some line) there ends later = performed line there line.instr refl ends later
