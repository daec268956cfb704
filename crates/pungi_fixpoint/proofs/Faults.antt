-- The fault Range comes only where a call is large.
--   range_only      what a domain says of a fault, without the converse
--   range_weaker    the same of a set of rows that has more
--   range_result, only_weaker    the same of results
use Rattle.std.proofs.Common.{List, ℤ, Bool, true, false, Result, Ok, Err}
use Rattle.pungi_domain.specs.Domain.{RangeIs}
use Rattle.pungi_domain.specs.declared.domain_fault.DomainFault.{DomainFault}
use Rattle.pungi_domain.specs.declared.domain_fault.DomainFault.TheVariants.{Range, Memory}
use Rattle.pungi_fixpoint.specs.Turns.{RangeOnly}

pub range_weaker : (A B : Type 0) (Large More : List ℤ → Type 0) (f : DomainFault)
    → ((r : List ℤ) → Large r → More r) → RangeOnly {A = A} Large (Err f) → RangeOnly {A = B} More (Err f)
range_weaker A B Large More (Range r) g h = g r h
range_weaker A B Large More Memory g h = tt

pub range_only : (A B : Type 0) (least : Bool) (Large More : List ℤ → Type 0) (f : DomainFault)
    → ((r : List ℤ) → Large r → More r) → RangeIs {A = A} least Large (Err f) → RangeOnly {A = B} More (Err f)
range_only A B true Large More (Range r) g h = g r h
range_only A B true Large More Memory g h = tt
range_only A B false Large More (Range r) g h = absurd h
range_only A B false Large More Memory g h = tt

pub range_result : {A : Type 0} (least : Bool) (Large More : List ℤ → Type 0) (x : Result A DomainFault)
    → ((r : List ℤ) → Large r → More r) → RangeIs least Large x → RangeOnly More x
range_result least Large More (Ok a) g h = tt
range_result {A} least Large More (Err f) g h = range_only A A least Large More f g h

pub only_weaker : {A : Type 0} (Large More : List ℤ → Type 0) (x : Result A DomainFault)
    → ((r : List ℤ) → Large r → More r) → RangeOnly Large x → RangeOnly More x
only_weaker Large More (Ok a) g h = tt
only_weaker {A} Large More (Err f) g h = range_weaker A A Large More f g h
