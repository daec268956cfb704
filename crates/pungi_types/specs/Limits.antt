-- How large a file and a function may be.
--   most_functions       the most functions that a file may define
--   most_locals          the most locals of a function, its parameters counted
--   most_nodes           the most nodes of a function (see Nodes)
--   most_statics         the most static objects: Python's, and 2^30 type objects
use Rattle.std.specs.Prelude.{ℕ, ◌+◌, ◌^◌}
use Rattle.pungi_base.specs.Numbers.{static_count}

abbrev pub most_functions : ℕ
most_functions = 4096

abbrev pub most_locals : ℕ
most_locals = 32

abbrev pub most_nodes : ℕ
most_nodes = 4096

abbrev pub most_statics : ℕ
most_statics = 2 ^ 30 + static_count
