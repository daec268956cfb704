-- The run of a checked function does what the run of its code does.
use Rattle.std.proofs.Common.{◌≡◌, ℕ, Some, refl, sym, ap, ◌∙◌, subst}
use Rattle.pungi_meaning.specs.Run.{Run, End, Returned, Stopped, NeedsChoice, OutOfFuel}
use Rattle.pungi_code.specs.declared.code.Codes.{Codes}
use Rattle.pungi_code.specs.Alike.{Alike, IsOver}
use Rattle.pungi_code.specs.Frames.{flatten}
use Rattle.pungi_code.specs.Run.{code_at, run_of_code}
use Rattle.pungi_code.specs.WellFormed.{AreWellFormed}
use Rattle.pungi_kinds.specs.Laws.{RunHolds, TreesHold, most_objects}
use Rattle.pungi_kinds.proofs.WholeRuns.{runs_hold}

-- a run of the first is one of the second
also : (source target : ℕ → Run) (most : ℕ) → Alike source target most → (n : ℕ) → (m : ℕ) × (target m ≡ source n)
also source target most alike n = by (source n).end refl
  where
    by : (e : End) → (source n).end ≡ e → (m : ℕ) × (target m ≡ source n)
    by (Returned w v p used) e = alike.ends n (subst IsOver (sym e) tt)
    by (Stopped p) e = alike.ends n (subst IsOver (sym e) tt)
    by NeedsChoice e = alike.ends n (subst IsOver (sym e) tt)
    by OutOfFuel e = let g = alike.goes_on n e in (g.0, g.2)

pub trees_hold : (codes : Codes) → AreWellFormed codes → TreesHold codes
trees_hold codes w c i d code entry choices steps lowered at there h =
    let l = lowered.0 i d code at there in
    let code_there : code_at codes i ≡ Some code = ap flatten there in
    let alike = l.alike.alike entry choices (l.within codes.statics entry h) in
    let same = also _ _ _ alike steps in
    let held = runs_hold codes w i code entry choices same.0 code_there (l.fits codes.statics entry ∙ h) in
    let run = subst (λ o. RunHolds codes code.result (most_objects entry choices)
    (run_of_code codes.codes o entry choices same.0)) code_there held in
    subst (λ (r : Run). RunHolds codes code.result (most_objects entry choices) r) same.1 run
