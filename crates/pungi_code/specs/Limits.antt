-- How large a code may be.
--   most_instructions       the most instructions of a code
--   most_variables          the most variables of a code: its locals and temporaries
--   most_arguments          the most arguments of a call
--   steps_an_instruction    so many steps of a function's run are enough for one instruction of its code
use Rattle.std.specs.Prelude.{ℕ, ◌^◌}

abbrev pub most_instructions : ℕ
most_instructions = 2 ^ 14

abbrev pub most_variables : ℕ
most_variables = 2 ^ 16

abbrev pub most_arguments : ℕ
most_arguments = 2 ^ 14

abbrev pub steps_an_instruction : ℕ
steps_an_instruction = 65536
