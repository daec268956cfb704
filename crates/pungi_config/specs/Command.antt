-- What the words of a call ask for. The first word is the program's own name.
--   config_rule, trial_rule    an option of this name, with one value
--   file_rule              one value without a name, which may be left out
--   command                the command that these three make
--   decimal digits         the number that decimal digits write
--   is_trial, trial_of     one to four decimal digits, the first not 0, of a number up to the limit; the number
--   Asked                  a file, with a configuration or without one; or a trial
--   asked                  what is asked for where these are given, if that is one of the two
--   is_accepted            the command accepts the words
--   asked_of words         what the words of a call ask for, if the command accepts them and they ask for one of the
--                          two
--   ask s                  what these settings ask for
--   IsFaultOf kind fault   the fault of a refusal of `clap`, by its kind
--   AnswersAsked, Answers  the settings where something is asked for, and refused words where nothing is
use Rattle.std.specs.Prelude.{◌≡◌, ℕ, ◌+◌, ◌*◌, ◌-◌, ◌==◌, ◌&&◌, Bool, true, false, not, List, [], length, Option, Some}
use Rattle.std.specs.Prelude.{None, option_map, if◌then◌else◌, nat_lt, nat_le, codes, fold, slice_index, string_bytes}
use Rattle.std.specs.Prelude.{Result, Ok, Err}
use Rattle.std.specs.List.{list_all}
use Rattle.clap.specs.Words.{App, Rule, Row, Text, Kinds, new_app, new_rule, with_rule, matches_of, fault_of, first_of}
use Rattle.clap.specs.declared.error.kind.ErrorKind.{ErrorKind}
use Rattle.clap.specs.declared.error.kind.ErrorKind.TheVariants.{OutOfMemory}
use Rattle.pungi_base.specs.CWords.{is_digit}
use Rattle.pungi_config.specs.Limits.{trial_digits, trial_limit}
use Rattle.pungi_config.specs.declared.asked.Settings.{Settings}
use Rattle.pungi_config.specs.declared.asked.Settings.TheVariants.{File, Trial}
use Rattle.pungi_config.specs.declared.words_fault.WordsFault.{WordsFault}
use Rattle.pungi_config.specs.declared.words_fault.WordsFault.TheVariants.{Words, Memory}

abbrev pub config_rule : Rule
config_rule = record (new_rule (codes "config")) { long = Some (codes "config") }

abbrev pub trial_rule : Rule
trial_rule = record (new_rule (codes "trial")) { long = Some (codes "trial") }

abbrev pub file_rule : Rule
file_rule = new_rule (codes "file")

abbrev pub command : App
command = with_rule (with_rule (with_rule (new_app (codes "pungi")) config_rule) trial_rule) file_rule

abbrev pub more_decimal : ℕ → ℕ → ℕ
more_decimal n digit = 10 * n + (digit - 48)

abbrev pub decimal : Text → ℕ
decimal digits = fold more_decimal 0 digits

abbrev pub is_trial : Text → Bool
is_trial t =
    (nat_lt 0 (length t) && nat_le (length t) trial_digits)
    && (list_all is_digit t && (not (slice_index t 0 == 48) && nat_le (decimal t) trial_limit))

abbrev pub trial_of : Text → Option ℕ
trial_of t = if is_trial t then Some (decimal t) else None

pub data Asked : Type 0 where
  file : Text → Option Text → Asked
  trial : ℕ → Asked

-- a file, a trial, a configuration
abbrev pub asked : Option Text → Option Text → Option Text → Option Asked
asked (Some f) None config = Some (file f config)
asked None (Some t) None = option_map trial (trial_of t)
asked _ _ _ = None

abbrev pub asked_by : List Row → Option Asked
asked_by rows = asked (first_of (codes "file") rows) (first_of (codes "trial") rows) (first_of (codes "config") rows)

abbrev pub is_accepted : Kinds → Bool
is_accepted [] = true
is_accepted _ = false

abbrev pub asked_of : List Text → Option Asked
asked_of words = if is_accepted (fault_of command words) then asked_by (matches_of command words) else None

abbrev pub ask : Settings → Asked
ask (File f c) = file (string_bytes f) (option_map (λ s. string_bytes s) c)
ask (Trial n) = trial n

-- where memory runs out nothing is stated
abbrev pub AnswersAsked : Option Asked → Result Settings WordsFault → Type 0
AnswersAsked a (Ok s) = a ≡ Some (ask s)
AnswersAsked a (Err Words) = a ≡ None
AnswersAsked a (Err Memory) = Unit {0}

abbrev pub Answers : List Text → Result Settings WordsFault → Type 0
Answers words r = AnswersAsked (asked_of words) r

abbrev pub IsFaultOf : ErrorKind → WordsFault → Type 0
IsFaultOf k Memory = k ≡ OutOfMemory
IsFaultOf k Words = k ≡ OutOfMemory → ⊥
