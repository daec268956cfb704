-- Runs of codes that go on for some instructions: what the run from there returns, the whole run returns.
--   IsReturned e     a run has returned
use Rattle.std.proofs.Common.{◌≡◌, ℕ, zero, suc, ◌+◌, ◌≤◌, List, Option, refl, sym, ap, ◌∙◌, subst, arith}
use Rattle.pungi_base.specs.declared.choice.Choice.{Choice}
use Rattle.pungi_base.specs.declared.pos.Pos.{Pos}
use Rattle.pungi_base.specs.declared.value.Value.{Value}
use Rattle.pungi_world.specs.declared.world.World.{World}
use Rattle.pungi_meaning.specs.Run.{Run, End, Returned, Stopped, NeedsChoice, OutOfFuel}
use Rattle.pungi_code.specs.declared.code.Code.{Code}
use Rattle.pungi_code.specs.Alike.{IsOver}
use Rattle.pungi_code.proofs.Longer.{longer}
use Rattle.pungi_inline.specs.Laws.{Returns}
use Rattle.pungi_inline.proofs.Steps.{Config, run, Steps, here, more, EndsWith, NeverReturns}

abbrev pub IsReturned : End → Type 0
IsReturned (Returned w v p used) = Unit {0}
IsReturned (Stopped p) = ⊥
IsReturned NeedsChoice = ⊥
IsReturned OutOfFuel = ⊥

module _ (cs : List (Option Code)) (choices : List Choice) where
  -- a run that returns has that much fuel, and the rest of it returns the same
  pub peel : (k n : ℕ) (s t : Config) (w : World) (v : Option Value) (p : Pos) (used : List Pos)
      → Steps cs choices k s t → Returns (run cs choices n s) w v p used
      → (i : ℕ) × (n ≡ k + i) × Returns (run cs choices i t) w v p used
  peel k n s t w v p used (here u) r = (n, omega arith, r)
  peel k zero s t w v p used (more j s' t' u one rest) r = absurd (subst IsReturned (sym r) tt)
  peel k (suc n) s t w v p used (more j s' t' u one rest) r =
      let i = peel j n t' u w v p used rest (sym (one n) ∙ r) in (i.0, omega (arith, i.1), i.2)

  -- some more fuel does for the whole run
  pub climb : (k n : ℕ) (s t : Config) → Steps cs choices k s t
      → (m : ℕ) × ((run cs choices m s).end ≡ (run cs choices n t).end)
  climb k n s t (here u) = (n, refl)
  climb k n s t (more j s' t' u one rest) =
      let i = climb j n t' u rest in (suc i.0, one i.0 ∙ i.1)

  -- where the run from there never returns, the whole run never returns
  pub never_before : (k : ℕ) (s t : Config) → Steps cs choices k s t → NeverReturns cs choices t
      → NeverReturns cs choices s
  never_before k s t steps never n w v p used r =
      let i = peel k n s t w v p used steps r in never i.0 w v p used i.2

  -- a run that ends otherwise never returns
  pub never_by : (s : Config) (e : End) → EndsWith cs choices s e → (IsReturned e → ⊥) → NeverReturns cs choices s
  never_by s e ends not zero w v p used r = absurd (subst IsReturned (sym r) tt)
  never_by s e ends not (suc n) w v p used r = not (subst IsReturned (sym r ∙ ends n) tt)

  -- more fuel changes nothing
  pub longer_run : (m n : ℕ) (s : Config) (w : World) (v : Option Value) (p : Pos) (used : List Pos) → m ≤ n
      → Returns (run cs choices m s) w v p used → Returns (run cs choices n s) w v p used
  longer_run m n s w v p used le r =
      ap (λ (o : Run). o.end) (longer cs choices m n le s.frames s.instrs s.place s.regs (run cs choices m s)
      (subst IsOver (sym r) tt) refl) ∙ r
