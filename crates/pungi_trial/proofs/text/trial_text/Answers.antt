use Rattle.std.proofs.Common.{◌≡◌, ℕ, List, ◌++◌, ◌+◌, sym, ap, ◌∙◌, append_assoc, arith}
use Rattle.std.specs.List.{flat_map, range_with_len}
use Rattle.pungi_trial.specs.Lines.{trial_line}
use Rattle.pungi_trial.specs.Text.{include_line}
use Rattle.pungi_trial.proofs.Counted.{one_more}
use Rattle.pungi_trial.proofs.text.trial_text.Goals as goal

pub loop-k-preserved : goal.loop-k-preserved
loop-k-preserved c =
    let k = c.loop-k.k in
    let next : 1 + k ≡ k + 1 = omega arith in
    c.in_ok-push_line.ensures
    ∙ ap (λ (l : List ℕ). l ++ trial_line (k + 1)) c.loop-k.invariant
    ∙ append_assoc include_line (flat_map trial_line (range_with_len 1 k)) (trial_line (k + 1))
    ∙ ap (λ (l : List ℕ). include_line ++ l) (sym (one_more trial_line 1 k (k + 1) next))
