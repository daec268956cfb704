use Rattle.std.proofs.Common.{◌+◌, ◌-◌, ◌*◌, ◌≤◌, length, reverse}
use Rattle.pungi_lex.specs.Limits.{token_limit}
use Rattle.pungi_lex.proofs.FrameLemmas.{Expansion}
use Rattle.pungi_lex.proofs.frames.expand_word.Given as goal

abbrev pub invariant-work : goal.invariant-work
invariant-work l = record {
  expansion : Expansion l.fn.table.items l.table.items (reverse l.stack.items) l.token l.fn.out.items l.out.items
      l.used l.count;
  within : l.count ≤ token_limit;
}

abbrev pub decreases-work : goal.decreases-work
decreases-work l = 2 * (token_limit - l.count) + length l.stack.items
