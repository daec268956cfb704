use Rattle.std.proofs.Common.{◌≡◌, ◌+◌, ◌*◌, ◌≤◌, ◌++◌, length, drop, map}
use Rattle.pungi_resolved.specs.ActionView.{action_view}
use Rattle.pungi_code.specs.Limits.{most_instructions}
use Rattle.pungi_emit.specs.stmt.Cases.{cases_at}
use Rattle.pungi_layout.specs.code.StmtCode.{case_code}
use Rattle.pungi_emit.proofs.stmt.switch.emit_cases.Given as goal

abbrev pub invariant-loop-i : goal.invariant-loop-i
invariant-loop-i l = record {
  code :
      l.code ++ case_code l.pos l.value l.outcome (length l.code) (cases_at (map action_view (drop l.i l.list))
      (drop l.i l.starts))
      ≡ l.initial.code ++ case_code l.pos l.value l.outcome (length l.initial.code)
      (cases_at (map action_view l.list) l.starts);
  long : length l.code + 2 * length (cases_at (map action_view (drop l.i l.list)) (drop l.i l.starts))
      ≤ most_instructions;
}
