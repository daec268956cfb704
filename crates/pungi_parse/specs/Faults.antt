-- What a fault says of tokens in which nowhere too many brackets are open.
--   HasFault ts fault    memory ran out, or the tokens stop to be a file there
use Rattle.pungi_parse.specs.Units.{StopsAt}
use Rattle.pungi_parse.specs.declared.fault.ParseFault.{ParseFault}
use Rattle.pungi_parse.specs.declared.fault.ParseFault.TheVariants as faults
use Rattle.std.specs.Prelude.{List}
use Rattle.pungi_tree.specs.Placed.{Placed}

abbrev pub HasFault : List Placed → ParseFault → Type 0
HasFault ts faults.Memory = Unit {0}
HasFault ts (faults.Deep p) = ⊥
HasFault ts (faults.NotAUnit p) = StopsAt ts p
