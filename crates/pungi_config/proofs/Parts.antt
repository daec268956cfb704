-- Parts of a conjunction, and of `Some` and `Ok`.
use Rattle.std.proofs.Common.{◌≡◌, Bool, true, false, ◌&&◌, Some, Ok, Err, Result, IfOk, refl, ap, subst}
use Rattle.std.specs.Prelude.{unwrap_or}
use mathlib.Core.Path.{Path}

pub both : (a b : Bool) → a ≡ true → b ≡ true → (a && b) ≡ true
both true b p q = q
both false b p q = absurd cc

pub left_of : (a b : Bool) → (a && b) ≡ true → a ≡ true
left_of true b h = refl
left_of false b h = absurd cc

pub right_of : (a b : Bool) → (a && b) ≡ true → b ≡ true
right_of true b h = h
right_of false b h = absurd cc

pub some_same : {A : Type 0} (x y : A) → Some x ≡ Some y → x ≡ y
some_same x y e = ap (λ o. unwrap_or o x) e

abbrev ok_or_this : {A B : Type 0} → A → Result A B → A
ok_or_this x (Ok y) = y
ok_or_this x (Err e) = x

pub ok_same : {A B : Type 0} (x y : A) → Path (Result A B) (Ok x) (Ok y) → x ≡ y
ok_same x y e = ap (λ r. ok_or_this x r) e

-- what holds of a good result
pub of_ok : {A B : Type 0} (P : A → Type 0) (r : Result A B) (x : A) → r ≡ Ok x → IfOk r P → P x
of_ok P r x e h = subst (λ q. IfOk q P) e h
