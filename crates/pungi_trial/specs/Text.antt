-- The text of a trial.
--   include_line    its first line
--   trial_text n    this line, and those of the numbers from 1 to n
use Rattle.std.specs.Prelude.{ℕ, List, ◌++◌, codes}
use Rattle.std.specs.List.{flat_map, range_with_len}
use Rattle.pungi_base.specs.Witness.{line_end}
use Rattle.pungi_trial.specs.Lines.{trial_line}

abbrev pub include_line : List ℕ
include_line = codes "#include <Python.h>" ++ line_end

abbrev pub trial_text : ℕ → List ℕ
trial_text n = include_line ++ flat_map trial_line (range_with_len 1 n)
