-- The states after the answers of a list, one answer after another; and after numbered answers.
use Rattle.std.proofs.Common.{◌≡◌, ℕ, ◌+◌, ◌<◌, List, [], ◌∷◌, ◌++◌, length, get_or, sym, ap, ◌∙◌}
use Rattle.std.proofs.Common.{arith}
use Rattle.std.specs.Prelude.{drop}
use Rattle.std.specs.List.{flat_map}
use Rattle.std.proofs.lemmas.List.{append-nil, append_assoc}
use Rattle.std.proofs.lemmas.List.Concat.{flat_map-cons}
use Rattle.std.proofs.Math.Seq.{drop-length}
use Rattle.std.proofs.lemmas.List.FromFn.{map-range_with_len_more}
use Rattle.pungi_symbol.specs.declared.answers.decision.Decision.{Decision}
use Rattle.pungi_symbol.specs.declared.answers.decision.Decision.TheVariants.{Outcome}
use Rattle.pungi_symbol.specs.answers.SymbolicState.{numbered}
use Rattle.pungi_symbol.proofs.questions.Arguments.{drop_here}

module _ {X Y : Type 0} (f : X → List Y) (xs : List X) where
  pub next_step : (so_far : List Y) (i : ℕ) (d : X) → i < length xs
      → (so_far ++ f (get_or xs i d)) ++ flat_map f (drop (i + 1) xs) ≡ so_far ++ flat_map f (drop i xs)
  next_step so_far i d h =
      append_assoc so_far (f (get_or xs i d)) (flat_map f (drop (i + 1) xs))
      ∙ ap (λ l. so_far ++ l) (sym (flat_map-cons f (get_or xs i d) (drop (i + 1) xs))
      ∙ sym (ap (flat_map f) (drop_here xs i d h)))

  pub next_end : (so_far : List Y) → so_far ++ flat_map f (drop (length xs) xs) ≡ so_far
  next_end so_far = ap (λ l. so_far ++ flat_map f l) (drop-length xs) ∙ append-nil so_far

flat_more : {X Y : Type 0} (f : X → List Y) (xs : List X) (x : X) → flat_map f (xs ++ x ∷ []) ≡ flat_map f xs ++ f x
flat_more f [] x = append-nil (f x)
flat_more f (y ∷ xs) x = ap (λ l. f y ++ l) (flat_more f xs x) ∙ sym (append_assoc (f y) (flat_map f xs) (f x))

numbered_more : (k : ℕ) → numbered (k + 1) ≡ numbered k ++ Outcome k ∷ []
numbered_more k = let last : 0 + k ≡ k = omega arith in map-range_with_len_more Outcome 0 k k last

module _ {Y : Type 0} (f : Decision → List Y) where
  pub numbered_step : (so_far : List Y) (k : ℕ)
      → (so_far ++ flat_map f (numbered k)) ++ f (Outcome k) ≡ so_far ++ flat_map f (numbered (k + 1))
  numbered_step so_far k =
      append_assoc so_far (flat_map f (numbered k)) (f (Outcome k))
      ∙ ap (λ l. so_far ++ l) (sym (ap (flat_map f) (numbered_more k) ∙ flat_more f (numbered k) (Outcome k)))

  pub numbered_start : (so_far : List Y) → so_far ++ flat_map f (numbered 0) ≡ so_far
  numbered_start so_far = append-nil so_far
