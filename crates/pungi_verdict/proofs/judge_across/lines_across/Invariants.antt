use Rattle.pungi_verdict.proofs.Mixed.{AreJudgedBelow}
use Rattle.pungi_types.specs.Files.{definitions}
use Rattle.pungi_check.specs.Found.{checked_view}
use Rattle.pungi_verdict.proofs.judge_across.lines_across.Given as goal

-- the lines so far are judged, and the others by copies
abbrev pub invariant-loop-f : goal.invariant-loop-f
invariant-loop-f l =
    AreJudgedBelow (checked_view l.checked) (definitions (checked_view l.checked).file.items) l.lines.items l.f
