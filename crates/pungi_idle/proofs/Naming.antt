-- What an instruction of a code names, the code names.
use Rattle.std.proofs.Common.{◌≡◌, ℕ, zero, suc, ◌+◌, Bool, true, false, ◌||◌, List, [], ◌∷◌, Some, refl}
use Rattle.std.proofs.Common.{subst, sym, ap₂, ◌∙◌, arith}
use Rattle.std.specs.Prelude.{◌==◌, count_by, slice_get, if◌then◌else◌}
use Rattle.std.specs.List.{list_any}
use Rattle.std.proofs.lemmas.Bool.Decides.{nat_tests}
use Rattle.std.proofs.lemmas.List.Sums.{sum_by-cons}
use Rattle.pungi_code.specs.declared.code.Line.{Line}
use Rattle.pungi_idle.specs.Named.{names, is_named}

pub or_left : (a b : Bool) → a ≡ true → (a || b) ≡ true
or_left true b e = refl
or_left false b e = absurd (cc)

pub or_right : (a b : Bool) → b ≡ true → (a || b) ≡ true
or_right true b e = refl
or_right false b e = e

pub same_number : (n : ℕ) → (n == n) ≡ true
same_number n = grind (arith, nat_tests)

pub named_there : (ls : List Line) (pc : ℕ) (l : Line) → slice_get ls pc ≡ Some l → (x : ℕ) → names x l.instr ≡ true
    → is_named ls x ≡ true
named_there [] pc l at x e = absurd (cc)
named_there (k ∷ ls) zero l at x e =
    let same : k ≡ l = cc in
    or_left (names x k.instr) (is_named ls x) (subst (λ (z : Line). names x z.instr ≡ true) (sym same) e)
named_there (k ∷ ls) (suc pc) l at x e =
    or_right (names x k.instr) (is_named ls x) (named_there ls pc l at x e)

-- tests that agree on all of a list's numbers pass as many of them
pub same_count : (f g : ℕ → Bool) (ps : List ℕ) → ((p : ℕ) → list_any (λ q. q == p) ps ≡ true → f p ≡ g p)
    → count_by f ps ≡ count_by g ps
same_count f g [] agree = refl
same_count f g (p ∷ ps) agree =
    let here = agree p (or_left (p == p) (list_any (λ q. q == p) ps) (same_number p)) in
    let rest = same_count f g ps (λ x e. agree x (or_right (p == x) (list_any (λ q. q == x) ps) e)) in
    sum_by-cons (λ x. if f x then 1 else 0) p ps
    ∙ ap₂ (λ (b : Bool) (n : ℕ). (if b then 1 else 0) + n) here rest
    ∙ sym (sum_by-cons (λ x. if g x then 1 else 0) p ps)

-- ---- places in a list

pub from_none : (x : ℕ) → x ≡ 0 + x
from_none x = omega arith

pub no_further : (x : ℕ) → x + 0 ≡ x
no_further x = omega arith

pub shifted : (x y : ℕ) → x + suc y ≡ (x + 1) + y
shifted x y = omega arith

pub next_place : (x : ℕ) → suc x ≡ x + 1
next_place x = omega arith
