-- What the clauses of a domain say.
--   RangeIs least Large result   from a domain of least values the fault Range comes exactly where the call is large,
--                                and with such a row; from another one it never comes. Memory may run out at any time.
use Rattle.std.specs.Prelude.{ℤ, Bool, true, false, List, Result, Ok, Err}
use Rattle.pungi_domain.specs.declared.domain_fault.DomainFault.{DomainFault}
use Rattle.pungi_domain.specs.declared.domain_fault.DomainFault.TheVariants.{Range, Memory}

abbrev pub RangeIs : {A : Type 0} → Bool → (List ℤ → Type 0) → Result A DomainFault → Type 0
RangeIs true Large (Ok a) = (r : List ℤ) → Large r → ⊥
RangeIs true Large (Err (Range r)) = Large r
RangeIs true Large (Err Memory) = Unit {0}
RangeIs false Large (Ok a) = Unit {0}
RangeIs false Large (Err (Range r)) = ⊥
RangeIs false Large (Err Memory) = Unit {0}
