-- How large a configuration and a trial may be.
--   config_limit        the most bytes of a configuration
--   row_limit           the most rows of one
--   convention_limit    the most conventions of one
--   name_limit          the most names that one brings in, by a row or a convention each
--   param_limit         the most parameters of a row
--   taken_limit         the largest number of a parameter that a convention takes over
--   trial_digits        the most digits of a trial's number
--   trial_limit         the largest trial
use Rattle.std.specs.Prelude.{ℕ}

abbrev pub config_limit : ℕ
config_limit = 65536

abbrev pub row_limit : ℕ
row_limit = 512

abbrev pub convention_limit : ℕ
convention_limit = 512

abbrev pub name_limit : ℕ
name_limit = 1024

abbrev pub param_limit : ℕ
param_limit = 8

abbrev pub taken_limit : ℕ
taken_limit = 32

abbrev pub trial_digits : ℕ
trial_digits = 4

abbrev pub trial_limit : ℕ
trial_limit = 2000
