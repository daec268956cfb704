use Rattle.std.proofs.Common.{List, ◌++◌, drop}
use Rattle.std.specs.List.{AllZip}
use Rattle.pungi_base.specs.declared.names.Name.{Name}
use Rattle.pungi_base.specs.declared.verdict.Verdict.{Verdict}
use Rattle.pungi_types.specs.Files.{definitions}
use Rattle.pungi_check.specs.Found.{checked_view}
use Rattle.pungi_verdict.specs.Verdicts.{IsJudgedByCopies}
use Rattle.pungi_verdict.proofs.judge.verdicts.Given as goal

-- lines for the functions that are left complete the lines so far
abbrev pub invariant-loop-i : goal.invariant-loop-i
invariant-loop-i l =
    (more : List (Name × Verdict)) → AllZip (IsJudgedByCopies (checked_view l.checked))
    (drop l.i (definitions (checked_view l.checked).file.items)) more
    → AllZip (IsJudgedByCopies (checked_view l.checked)) (definitions (checked_view l.checked).file.items)
    (l.lines.items ++ more)
