-- The causes of statuses, as they are seen from outside a call: the words, and the texts. Where a shelf doesn't show
-- its texts, these are what its reads gave of the texts that were opened in the call.
--   IsConfigText asked texts opened text   this is the text of the configuration that is asked for, which is opened
--                                          first
--   IsFileText asked texts opened text     this is the text of the file that is asked for, which is opened last, or
--                                          that of the trial
--   IsApiText asked texts opened api       this is the API that is known for it
--   IsRefusedConfig text                   a configuration with this text is refused
--   IsRefusedText api text                 a file with this text is refused
use Rattle.std.specs.Prelude.{◌≡◌, ◌⊎◌, ℕ, ◌≤◌, ◌<◌, List, [], ◌∷◌, length, Option, None, Some}
use Rattle.pungi_config.specs.Command.{Asked, file, trial}
use Rattle.pungi_config.specs.Limits.{config_limit}
use Rattle.pungi_io.specs.OpenedText.{Opened}
use Rattle.pungi_trial.specs.Text.{trial_text}
use Rattle.pungi.specs.Api.{Api, builtin_api, IsConfigured, IsNoConfiguration}
use Rattle.pungi.specs.Front.{IsNoFile}
use Rattle.pungi.specs.Limits.{file_limit}

abbrev pub IsConfigText : Option Asked → Option (List ℕ → Option (List ℕ)) → List Opened → List ℕ → Type 0
IsConfigText (Some (file name (Some config))) (Some texts) opened text = texts config ≡ Some text
IsConfigText (Some (file name (Some config))) None opened text =
    (c : Opened) × (later : List Opened) × (opened ≡ c ∷ later) × (text ≡ c.bytes)
IsConfigText (Some (file name None)) texts opened text = ⊥
IsConfigText (Some (trial n)) texts opened text = ⊥
IsConfigText None texts opened text = ⊥

abbrev pub IsFileText : Option Asked → Option (List ℕ → Option (List ℕ)) → List Opened → List ℕ → Type 0
IsFileText (Some (file name config)) (Some texts) opened text = texts name ≡ Some text
IsFileText (Some (file name (Some config))) None opened text =
    (c t : Opened) × (opened ≡ c ∷ t ∷ []) × (text ≡ t.bytes)
IsFileText (Some (file name None)) None opened text = (t : Opened) × (opened ≡ t ∷ []) × (text ≡ t.bytes)
IsFileText (Some (trial n)) texts opened text = text ≡ trial_text n
IsFileText None texts opened text = ⊥

abbrev pub IsApiText : Option Asked → Option (List ℕ → Option (List ℕ)) → List Opened → Api → Type 0
IsApiText (Some (file name (Some config))) texts opened api =
    (text : List ℕ) × IsConfigText (Some (file name (Some config))) texts opened text × (length text ≤ config_limit)
    × IsConfigured text api
IsApiText (Some (file name None)) texts opened api = api ≡ builtin_api
IsApiText (Some (trial n)) texts opened api = api ≡ builtin_api
IsApiText None texts opened api = ⊥

abbrev pub IsRefusedConfig : List ℕ → Type 0
IsRefusedConfig text =
    (config_limit < length text) ⊎ ((length text ≤ config_limit) × IsNoConfiguration text)

abbrev pub IsRefusedText : Api → List ℕ → Type 0
IsRefusedText api text = (file_limit < length text) ⊎ ((length text ≤ file_limit) × IsNoFile api text)
