-- Parameters by their places.
use Rattle.std.proofs.Common.{◌≡◌, ℕ, zero, suc, false, List, [], ◌∷◌, map, refl, ap, Some, None}
use Rattle.std.specs.Prelude.{slice_get}
use Rattle.pungi_tree.specs.ExprView.{param_decls_of}
use Rattle.pungi_tree.specs.Syntax.{Item, ParamDecl}
use Rattle.pungi_types.specs.Functions.{is_object_decl, is_object_param}

-- there is one
pub object_at : {A : Type 0} (f : A → ParamDecl) (file : List Item) (xs : List A) (i : ℕ) (x : A)
    → slice_get xs i ≡ Some x → is_object_decl file (f x) ≡ is_object_param file (param_decls_of (map f xs)) i
object_at f file [] i x h = absurd (cc)
object_at f file (y ∷ ys) zero x h =
    let e : x ≡ y = cc in
    ap (λ z. is_object_decl file (f z)) e
object_at f file (y ∷ ys) (suc i) x h = object_at f file ys i x h

-- there is none
pub none_at : {A : Type 0} (f : A → ParamDecl) (file : List Item) (xs : List A) (i : ℕ) → slice_get xs i ≡ None
    → false ≡ is_object_param file (param_decls_of (map f xs)) i
none_at f file [] i h = refl
none_at f file (y ∷ ys) zero h = absurd (cc)
none_at f file (y ∷ ys) (suc i) h = none_at f file ys i h
