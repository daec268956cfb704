use Rattle.std.proofs.Common.{◌≡◌, ℕ, ◌<◌, true, slice_get, Some}
use Rattle.pungi_base.specs.declared.names.Name.{Name}
use Rattle.pungi_base.specs.declared.verdict.Verdict.{Verdict}
use Rattle.pungi_verdict.specs.Across.{CallsNoFunction, is_unknown}
use Rattle.pungi_verdict.proofs.judge_across.has_open_caller.Given as goal

-- none of the functions so far is one
abbrev pub invariant-loop-f : goal.invariant-loop-f
invariant-loop-f l =
    (f : ℕ) (line : Name × Verdict) → f < l.f → slice_get l.lines f ≡ Some line → is_unknown line.1 ≡ true
    → CallsNoFunction l.codes f
