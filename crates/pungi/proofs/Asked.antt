-- What the words of a call ask for, and what was opened and answered for it.
use Rattle.std.proofs.Common.{◌≡◌, ◌⊎◌, ⊎_elim, ℕ, ◌≤◌, List, length, refl, Option, Some, None, sym, subst, ap, ◌∙◌}
use Rattle.std.proofs.Common.{String, Global, string_bytes, arith}
use Rattle.pungi_config.specs.Command.{Asked, ask, trial}
use Rattle.pungi_config.specs.declared.asked.Settings.{Settings}
use Rattle.pungi_config.specs.declared.asked.Settings.TheVariants.{File, Trial}
use Rattle.pungi_trial.specs.Text.{trial_text}
use Rattle.pungi_verdict.specs.Verdicts.{IsJudged}
use Rattle.pungi.specs.Answer.{Answers, IsOpened, IsTextRefusal, asked_file, files}
use Rattle.pungi.specs.Api.{builtin_api}
use Rattle.pungi.specs.Examine.{IsTrialOf}
use Rattle.pungi.specs.Limits.{file_limit}
use Rattle.pungi.specs.Shelves.{Stand}
use Rattle.pungi.specs.Status.{some_open, file_refused}
use Rattle.pungi.proofs.Statuses.{opened_none}

-- a file without a configuration is asked for
pub plainly_asked : (asked : Option Asked) (found : Settings) (f : String Global) (config : Option (String Global))
    (name : List ℕ) → asked ≡ Some (ask found) → found ≡ File f config → config ≡ None → name ≡ string_bytes f
    → asked ≡ asked_file name None
plainly_asked asked found f config name is made none named =
    is ∙ ap (λ (s : Settings). Some (ask s)) made
    ∙ ap (λ (c : Option (String Global)). Some (ask (File f c))) none
    ∙ ap (λ (n : List ℕ). asked_file n None) (sym named)

-- a trial is asked for
pub trial_asked : (asked : Option Asked) (found : Settings) (n : ℕ) → asked ≡ Some (ask found) → found ≡ Trial n
    → asked ≡ Some (trial n)
trial_asked asked found n is made = is ∙ ap (λ (s : Settings). Some (ask s)) made

pub answers_as : (first last : Stand) (asked other : Option Asked) (status : ℕ) (answer : List ℕ)
    → asked ≡ other → Answers first last other status answer → Answers first last asked status answer
answers_as first last asked other status answer same is =
    subst (λ (a : Option Asked). Answers first last a status answer) (sym same) is

abbrev pub IsTrialAnswer : ℕ → ℕ → List ℕ → Type 0
IsTrialAnswer n status answer =
    ((status ≤ some_open) × (length (trial_text n) ≤ file_limit) × IsTrialOf IsJudged n status answer)
    ⊎ ((status ≡ file_refused) × IsTextRefusal builtin_api (trial_text n) answer)

-- a trial opens nothing
pub trial_opened : (asked : Option Asked) (n status : ℕ) (answer : List ℕ) (before : List (List ℕ))
    → asked ≡ Some (trial n) → IsTrialAnswer n status answer → IsOpened asked status before before
trial_opened asked n status answer before same is =
    ⊎_elim (λ (r : (status ≤ some_open) × (length (trial_text n) ≤ file_limit) × IsTrialOf IsJudged n status answer).
    let low = r.0 in
    opened_none asked status before before refl (λ h. omega (arith, low, h)) (λ h. omega (arith, low, h))
    (λ k. ap files same))
    (λ (r : (status ≡ file_refused) × IsTextRefusal builtin_api (trial_text n) answer).
    let low = r.0 in
    opened_none asked status before before refl (λ h. omega (arith, low, h)) (λ h. omega (arith, low, h))
    (λ k. ap files same)) is
