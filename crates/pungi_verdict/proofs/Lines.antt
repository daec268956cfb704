-- What is said of the lines of a file, each by itself.
use Rattle.std.proofs.Common.{List, [], ◌∷◌}
use Rattle.std.specs.List.{AllZip}
use Rattle.pungi_base.specs.declared.names.Name.{Name}
use Rattle.pungi_base.specs.declared.verdict.Verdict.{Verdict}
use Rattle.pungi_types.specs.Files.{Definition}
use Rattle.pungi_types.specs.Refused.{CheckedFile}
use Rattle.pungi_verdict.specs.Causes.{IsCaused}
use Rattle.pungi_verdict.specs.Refusals.{IsRefused}
use Rattle.pungi_verdict.specs.Sound.{IsSound}
use Rattle.pungi_verdict.specs.Verdicts.{IsJudged}

weaker : (P Q : Definition → Name × Verdict → Type 0)
    → ((d : Definition) (line : Name × Verdict) → P d line → Q d line)
    → (ds : List Definition) (lines : List (Name × Verdict)) → AllZip P ds lines → AllZip Q ds lines
weaker P Q so [] [] all = tt
weaker P Q so [] (line ∷ lines) all = absurd all
weaker P Q so (d ∷ ds) [] all = absurd all
weaker P Q so (d ∷ ds) (line ∷ lines) all = (so d line all.0, weaker P Q so ds lines all.1)

pub all-sound : (c : CheckedFile) (ds : List Definition) (lines : List (Name × Verdict))
    → AllZip (IsJudged c) ds lines → AllZip (IsSound c) ds lines
all-sound c = weaker (IsJudged c) (IsSound c) (λ d line judged. judged.sound)

pub all-refused : (c : CheckedFile) (ds : List Definition) (lines : List (Name × Verdict))
    → AllZip (IsJudged c) ds lines → AllZip (IsRefused c) ds lines
all-refused c = weaker (IsJudged c) (IsRefused c) (λ d line judged. judged.refused)

pub all-caused : (c : CheckedFile) (ds : List Definition) (lines : List (Name × Verdict))
    → AllZip (IsJudged c) ds lines → AllZip (IsCaused c) ds lines
all-caused c = weaker (IsJudged c) (IsCaused c) (λ d line judged. judged.caused)
