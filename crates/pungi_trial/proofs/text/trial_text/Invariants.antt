use Rattle.std.proofs.Common.{◌≡◌, ◌++◌, string_bytes}
use Rattle.std.specs.List.{flat_map, range_with_len}
use Rattle.pungi_trial.specs.Lines.{trial_line}
use Rattle.pungi_trial.specs.Text.{include_line}
use Rattle.pungi_trial.proofs.text.trial_text.Given as goal

-- the lines so far
abbrev pub invariant-loop-k : goal.invariant-loop-k
invariant-loop-k l = string_bytes l.text ≡ include_line ++ flat_map trial_line (range_with_len 1 l.k)
