-- Lists of nodes and back, and lists that grow.
use Rattle.std.proofs.Common.{◌≡◌, ℕ, suc, ◌+◌, ◌-◌, ◌<◌, List, [], ◌∷◌, ◌++◌, replicate, map, slice_get, option_map}
use Rattle.std.proofs.Common.{refl, ap, ◌∙◌, append_assoc, arith}
use Rattle.std.proofs.lemmas.Option.{slice_get-map}
use Rattle.pungi_resolved.specs.Values as expr
use Rattle.pungi_resolved.specs.Actions as stmt
use Rattle.pungi_resolved.specs.ValueView.{values_of}
use Rattle.pungi_resolved.specs.ActionView.{actions_of}
use Rattle.pungi_meaning.specs.Todo.{listed, listed_values}

pub values_listed : (vs : List expr.Value) → listed_values (values_of vs) ≡ vs
values_listed [] = refl
values_listed (v ∷ vs) = ap (λ rest. v ∷ rest) (values_listed vs)

pub actions_listed : (list : List stmt.Action) → listed (actions_of list) ≡ list
actions_listed [] = refl
actions_listed (a ∷ list) = ap (λ rest. a ∷ rest) (actions_listed list)

-- one of so many that are to come
pub replicate_step : {A : Type 0} (xs : List A) (x : A) (i n : ℕ) → i < n
    → (xs ++ x ∷ []) ++ replicate (n - (i + 1)) x ≡ xs ++ replicate (n - i) x
replicate_step xs x i n h =
    let e : suc (n - (i + 1)) ≡ n - i = omega arith in
    append_assoc xs (x ∷ []) (replicate (n - (i + 1)) x) ∙ ap (λ m. xs ++ replicate m x) e

pub mapped_get : {A B : Type 0} (f : A → B) (xs : List A) (i : ℕ)
    → slice_get (map f xs) i ≡ option_map f (slice_get xs i)
mapped_get f xs i = slice_get-map f xs i
