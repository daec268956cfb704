use Rattle.std.proofs.Common.{◌≡◌, ◌++◌, drop}
use Rattle.pungi_report.specs.Text.{report_text}
use Rattle.pungi_report.proofs.text.report.Given as goal

-- the blocks so far and those that are left are the report
abbrev pub invariant-loop-line : goal.invariant-loop-line
invariant-loop-line l = l.text.items ++ report_text l.names (drop l.line-index l.lines) ≡ report_text l.names l.lines
