-- Arguments by their places, and lists that grow by one.
use Rattle.std.proofs.Common.{◌≡◌, ℕ, zero, suc, ◌+◌, ◌-◌, ◌<◌, ◌++◌, List, [], ◌∷◌, length, map}
use Rattle.std.proofs.Common.{replicate, refl, sym, ap, ◌∙◌, append_assoc, arith, Bor, Option, Some, None}
use Rattle.std.specs.Prelude.{slice_get, option_map}
use Rattle.std.specs.Option.{option_copied}
use Rattle.std.specs.Slice.{IsItemAt}
use Rattle.std.proofs.lemmas.Option.{slice_get_past, slice_get_read}
use Rattle.pungi_tree.specs.Syntax as plain
use Rattle.pungi_tree.specs.ExprView.{exprs_of}
use Rattle.pungi_types.specs.Formats.{arg_at}

-- one of so many that are to come
pub replicate_step : {A : Type 0} (xs : List A) (x : A) (i n : ℕ) → i < n
    → (xs ++ x ∷ []) ++ replicate (n - (i + 1)) x ≡ xs ++ replicate (n - i) x
replicate_step xs x i n h =
    let e : suc (n - (i + 1)) ≡ n - i = omega arith in
    append_assoc xs (x ∷ []) (replicate (n - (i + 1)) x) ∙ ap (λ m. xs ++ replicate m x) e

-- what is seen behind what is lent
pub seen_copied : {A B : Type 0} (f : A → B) (o : Option (Bor A))
    → option_map (λ x. f x.now) o ≡ option_map f (option_copied o)
seen_copied f None = refl
seen_copied f (Some x) = refl

pub lent_item : {A : Type 0} (xs : List A) (i : ℕ) (o : Option (Bor A)) → IsItemAt xs i o
    → option_copied o ≡ slice_get xs i
lent_item xs i None h = sym (slice_get_past xs i h.3)
lent_item xs i (Some x) h = sym (slice_get_read xs (length xs) i x.now refl h.3.0 h.1)

pub arg_at-exprs : {A : Type 0} (f : A → plain.Expr) (i : ℕ) (xs : List A)
    → option_map f (slice_get xs i) ≡ arg_at i (exprs_of (map f xs))
arg_at-exprs f i [] = refl
arg_at-exprs f zero (x ∷ xs) = refl
arg_at-exprs f (suc i) (x ∷ xs) = arg_at-exprs f i xs
