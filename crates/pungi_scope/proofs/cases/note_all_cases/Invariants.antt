use Rattle.std.proofs.Common.{◌≡◌, drop, map}
use Rattle.pungi_types.specs.Findings.{least_from}
use Rattle.pungi_types.specs.Labels.{cases_findings}
use Rattle.pungi_scope.specs.CasesView.{cases_of}
use Rattle.pungi_tree.specs.StmtView.{stmt_view, stmts_of}
use Rattle.pungi_scope.proofs.cases.note_all_cases.Given as goal

abbrev pub invariant-loop-s : goal.invariant-loop-s
invariant-loop-s l =
    least_from l.first (cases_findings (cases_of l.seen) (stmts_of (map stmt_view (drop l.s-index l.list.items))))
    ≡ least_from l.fn.first (cases_findings (cases_of l.fn.seen) (stmts_of (map stmt_view l.list.items)))
