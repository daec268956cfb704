-- What variables hold.
--   with_unset n xs            n variables, of which the first hold this and the others nothing that may be read
use Rattle.std.specs.Prelude.{ℕ, ◌-◌, List, ◌++◌, length, replicate}
use Rattle.pungi_symbol.specs.declared.states.term.Term.{Term}
use Rattle.pungi_symbol.specs.declared.states.term.Term.TheVariants.{Unset}

abbrev pub with_unset : ℕ → List Term → List Term
with_unset n xs = xs ++ replicate (n - length xs) Unset
