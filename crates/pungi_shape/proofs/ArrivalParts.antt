-- What a scene arrives at, item by item.
use Rattle.std.proofs.Common.{◌≡◌, ◌∙◌, ℕ, zero, suc, ◌+◌, ◌<◌, Bool, true, false, Option, List, [], ◌∷◌}
use Rattle.std.proofs.Common.{◌++◌, length, take, drop, get_or, refl, ap, arith, append_assoc, append-nil}
use Rattle.std.specs.List.{flat_map, zip}
use Rattle.std.proofs.Common.{reverse}
use Rattle.std.proofs.Math.ListN.{set}
use Rattle.std.proofs.lemmas.List.{reverse-append, take_more}
use Rattle.std.specs.Ordering.{nat_cmp}
use Rattle.std.specs.declared.cmp.Ordering.TheVariants.{Equal}
use Rattle.std.specs.Cmp.Lexicographic.{slice_cmp}
use Rattle.pungi_shape.specs.declared.numbering.Numbering.{Numbering}
use Rattle.pungi_shape.specs.declared.tracked.Tracked.{Tracked}
use Rattle.pungi_shape.proofs.NumberedLemmas.{number_tokens-append, tokens_in-append}
use Rattle.pungi_shape.specs.declared.holding.Holding.{Holding}
use Rattle.pungi_shape.specs.Arrivals.{numbers_kept}
use Rattle.pungi_shape.specs.Forms.{Form}
use Rattle.pungi_shape.specs.Numbered.{dropped, key_by, number_tokens, put_spot}
use Rattle.pungi_shape.specs.Shapes.{is_number, token_in, tokens_in}

pub numbers_kept_more : (h : Holding) (hs : List Holding) (f : Form) (fs : List Form)
    → numbers_kept (h ∷ hs) (f ∷ fs) ≡ numbers_kept (h ∷ []) (f ∷ []) ++ numbers_kept hs fs
numbers_kept_more h hs f fs = go (is_number h) refl
  where
    go : (b : Bool) → is_number h ≡ b
        → numbers_kept (h ∷ hs) (f ∷ fs) ≡ numbers_kept (h ∷ []) (f ∷ []) ++ numbers_kept hs fs
    go true e = rw e refl
    go false e = rw e refl

pub numbers_kept_none : (hs : List Holding) → numbers_kept hs [] ≡ []
numbers_kept_none [] = refl
numbers_kept_none (h ∷ hs) = refl

pub drops_more : (n : Option ℕ) (ns : List (Option ℕ)) (b : Option Form) (bs : List (Option Form))
    → flat_map (λ (e : Option ℕ × Option Form). dropped e.0 e.1) (zip (n ∷ ns) (b ∷ bs))
    ≡ dropped n b ++ flat_map (λ (e : Option ℕ × Option Form). dropped e.0 e.1) (zip ns bs)
drops_more n ns b bs = refl

-- ---- slots in order

pub set_split : {X : Type 0} (xs : List X) (j : ℕ) (r : X) → j < length xs
    → set xs j r ≡ take j xs ++ r ∷ drop (j + 1) xs
set_split [] j r lt = absurd (omega arith)
set_split (x ∷ xs) zero r lt = refl
set_split (x ∷ xs) (suc j) r lt =
    let e : suc j + 1 ≡ suc (j + 1) = omega arith in
    rw e (ap (λ ys. x ∷ ys) (set_split xs j r (omega (arith, lt))))

reverse_front : {X : Type 0} (x : X) (xs ys : List X) → reverse (ys ++ x ∷ xs) ≡ reverse xs ++ x ∷ reverse ys
reverse_front x xs ys =
    reverse-append ys (x ∷ xs) ∙ ap (λ zs. zs ++ reverse ys) (reverse-append (x ∷ []) xs)
    ∙ append_assoc (reverse xs) (x ∷ []) (reverse ys)

pub put_equal : (m : Numbering) (r q : Tracked) (xs : List Tracked) (i : ℕ) → i < length xs → q ≡ get_or xs i q
    → Equal ≡ slice_cmp nat_cmp (key_by m r.spot) (key_by m q.spot)
    → put_spot m r (reverse xs) ≡ reverse (drop (i + 1) xs) ++ put_spot m r (reverse (take (i + 1) xs))
    → reverse (set xs i r) ≡ put_spot m r (reverse xs)
put_equal m r q xs i lt is e inv =
    let t : take (i + 1) xs ≡ take i xs ++ q ∷ [] = rw (← is) at (take_more xs i q lt) in
    let v : reverse (take (i + 1) xs) ≡ q ∷ reverse (take i xs) = rw t (reverse-append (take i xs) (q ∷ [])) in
    rw (set_split xs i r lt, inv, v, ← e) (reverse_front r (drop (i + 1) xs) (take i xs))

-- ---- numbers of all holders

pub number_tokens_shape : (e v s : List Holding) (r : Holding) (m : Numbering)
    → number_tokens (tokens_in (e ++ (v ++ (s ++ r ∷ [])))) m
    ≡ number_tokens (token_in r) (number_tokens (tokens_in s) (number_tokens (tokens_in v) (number_tokens (tokens_in
    e) m)))
number_tokens_shape e v s r m =
    rw (
      tokens_in-append e (v ++ (s ++ r ∷ [])),
      tokens_in-append v (s ++ r ∷ []),
      tokens_in-append s (r ∷ []),
      number_tokens-append (tokens_in e),
      number_tokens-append (tokens_in v),
      number_tokens-append (tokens_in s),
      append-nil (token_in r),
    ) refl
