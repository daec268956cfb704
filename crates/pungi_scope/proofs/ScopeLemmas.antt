-- A look-up of a local where locals come before others.
use Rattle.std.proofs.Common.{◌≡◌, ℕ, List, [], ◌∷◌, ◌++◌, refl, sym, ◌∙◌, ap, Option, None, Some, Bool, true, false}
use Rattle.std.proofs.Common.{cond, ◌==◌}
use Rattle.pungi_types.specs.Names.{local_in}
use Rattle.pungi_types.specs.declared.local.Local.{Local}

-- the first of two look-ups that finds something
abbrev pub first_of : Option Local → Option Local → Option Local
first_of (Some l) o = Some l
first_of None o = o

choose : (b : Bool) (l : Local) (x o : Option Local) → cond b (Some l) (first_of x o) ≡ first_of (cond b (Some l) x) o
choose true l x o = refl
choose false l x o = refl

local_in-append : (ls ms : List Local) (w : ℕ) → local_in (ls ++ ms) w ≡ first_of (local_in ls w) (local_in ms w)
local_in-append [] ms w = refl
local_in-append (l ∷ ls) ms w =
    ap (λ x. cond (l.name.0 == w) (Some l) x) (local_in-append ls ms w)
    ∙ choose (l.name.0 == w) l (local_in ls w) (local_in ms w)

-- what follows from a look-up, where it finds something among the first locals, and where it doesn't
pub found : {A : Type 0} (f : Option Local → A) (ls ms : List Local) (w : ℕ) (l : Local) → Some l ≡ local_in ls w
    → f (Some l) ≡ f (local_in (ls ++ ms) w)
found f ls ms w l e = ap f (sym (local_in-append ls ms w ∙ ap (λ x. first_of x (local_in ms w)) (sym e)))

pub absent : {A : Type 0} (f : Option Local → A) (ls ms : List Local) (w : ℕ) → None ≡ local_in ls w
    → f (local_in ms w) ≡ f (local_in (ls ++ ms) w)
absent f ls ms w e = ap f (sym (local_in-append ls ms w ∙ ap (λ x. first_of x (local_in ms w)) (sym e)))
