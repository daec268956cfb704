-- The cause of Range, for another statement of it.
use Rattle.std.proofs.Common.{ℤ, true, List, Result, Ok, Err}
use Rattle.std.specs.Prelude.{IfOk}
use Rattle.pungi_domain.specs.Domain.{RangeIs}
use Rattle.pungi_domain.specs.declared.domain_fault.DomainFault.{DomainFault}
use Rattle.pungi_domain.specs.declared.domain_fault.DomainFault.TheVariants.{Range, Memory}

pub range_fault : (A B : Type 0) (P Q : List ℤ → Type 0) → ((r : List ℤ) → P r → Q r) → (f : DomainFault)
    → RangeIs {A = A} true P (Err f) → RangeIs {A = B} true Q (Err f)
range_fault A B P Q to (Range r) h = to r h
range_fault A B P Q to Memory h = tt

pub range_same : (A : Type 0) (P Q : List ℤ → Type 0) → ((r : List ℤ) → P r → Q r) → ((r : List ℤ) → Q r → P r)
    → (x : Result A DomainFault) → RangeIs true P x → RangeIs true Q x
range_same A P Q to back (Ok a) h = λ r q. h r (back r q)
range_same A P Q to back (Err f) h = range_fault A A P Q to f h

pub if_ok_to : {A : Type 0} (r : Result A DomainFault) (P Q : A → Type 0) → ((a : A) → P a → Q a) → IfOk r P → IfOk r Q
if_ok_to (Ok a) P Q to h = to a h
if_ok_to (Err f) P Q to h = h
