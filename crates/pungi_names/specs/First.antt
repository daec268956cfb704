-- The first of several values.
--   or_first o p        what is there first
use Rattle.std.specs.Prelude.{Option, Some, None}

abbrev pub or_first : {A : Type 0} → Option A → Option A → Option A
or_first (Some x) o = Some x
or_first None o = o
