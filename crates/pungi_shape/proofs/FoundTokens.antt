-- Tokens, each once, as they are found one by one.
use Rattle.std.proofs.Common.{◌≡◌, ◌≢◌, ◌∙◌, inl, inr, refl, sym, ap, arith, ℕ, zero, suc, ◌+◌, ◌<◌, ◌==◌, Bool, true}
use Rattle.std.proofs.Common.{false}
use Rattle.std.proofs.Common.{cond, not, ◌||◌, List, [], ◌∷◌, ◌++◌, length, map, get_or, take, append_assoc, append-nil}
use Rattle.std.proofs.Common.{map-id}
use Rattle.std.specs.List.{filter}
use Rattle.std.proofs.lemmas.Bool.Decides.{eqb_tells}
use Rattle.pungi_shape.specs.declared.holding.Holding.{Holding}
use Rattle.pungi_shape.specs.declared.shape.Shape.{Shape}
use Rattle.pungi_shape.specs.Liveness.{is_among}
use Rattle.pungi_shape.specs.Shapes.{before_slots, distinct, holding_of_slot, holding_of_static, token_in, tokens_in}
use Rattle.pungi_shape.specs.Shapes.{tokens_of}
use Rattle.pungi_shape.proofs.KeyParts.{filter-append, tokens-append}

not_same : (x t : ℕ) → x ≢ t → (t == x) ≡ false
not_same x t apart = elim (eqb_tells t x) [
  | inl h ↦ absurd (apart (sym h.1))
  | inr h ↦ h.0
]

same_one : (x t : ℕ) → x ≡ t → (t == x) ≡ true
same_one x t same = elim (eqb_tells t x) [
  | inl h ↦ h.0
  | inr h ↦ absurd (h.1 (sym same))
]

among_filter : (x t : ℕ) (l : List ℕ) → x ≢ t → is_among (filter (λ u. not (u == x)) l) t ≡ is_among l t
among_filter x t [] apart = refl
among_filter x t (u ∷ l) apart = elim (eqb_tells u x) [
  | inl h ↦
      ap (λ b. is_among (cond (not b) (u ∷ filter (λ w. not (w == x)) l) (filter (λ w. not (w == x)) l)) t) h.0
      ∙ among_filter x t l apart
      ∙ sym (ap (λ b. b || is_among l t) (not_same t u (λ e. apart (sym h.1 ∙ sym e))))
  | inr h ↦
      ap (λ b. is_among (cond (not b) (u ∷ filter (λ w. not (w == x)) l) (filter (λ w. not (w == x)) l)) t) h.0
      ∙ ap (λ z. (u == t) || z) (among_filter x t l apart)
]

-- a number that is found once more, or for the first time
pub distinct-push : (xs : List ℕ) (t : ℕ)
    → distinct (xs ++ t ∷ []) ≡ cond (is_among (distinct xs) t) (distinct xs) (distinct xs ++ t ∷ [])
distinct-push [] t = refl
distinct-push (x ∷ xs) t = elim (eqb_tells x t) [
  | inl h ↦
      ap (λ l. x ∷ filter (λ u. not (u == x)) l) (distinct-push xs t)
      ∙ ap (λ l. x ∷ l) (dropped h.1 (is_among (distinct xs) t))
      ∙ sym (ap (λ b. cond (b || is_among (filter (λ u. not (u == x)) (distinct xs)) t)
      (x ∷ filter (λ u. not (u == x)) (distinct xs))
      ((x ∷ filter (λ u. not (u == x)) (distinct xs)) ++ t ∷ [])) h.0)
  | inr h ↦
      ap (λ l. x ∷ filter (λ u. not (u == x)) l) (distinct-push xs t)
      ∙ kept h.1 (is_among (distinct xs) t)
      ∙ sym (ap (λ b. cond b (x ∷ filter (λ u. not (u == x)) (distinct xs))
      ((x ∷ filter (λ u. not (u == x)) (distinct xs)) ++ t ∷ []))
      (ap (λ b. b || is_among (filter (λ u. not (u == x)) (distinct xs)) t) h.0
      ∙ among_filter x t (distinct xs) h.1))
]
  where
    dropped : x ≡ t → (b : Bool)
        → filter (λ u. not (u == x)) (cond b (distinct xs) (distinct xs ++ t ∷ []))
        ≡ filter (λ u. not (u == x)) (distinct xs)
    dropped same true = refl
    dropped same false =
        filter-append (λ u. not (u == x)) (distinct xs) (t ∷ [])
        ∙ ap (λ b. filter (λ u. not (u == x)) (distinct xs) ++ cond (not b) (t ∷ []) []) (same_one x t same)
        ∙ append-nil (filter (λ u. not (u == x)) (distinct xs))

    kept : x ≢ t → (b : Bool)
        → x ∷ filter (λ u. not (u == x)) (cond b (distinct xs) (distinct xs ++ t ∷ []))
        ≡ cond b (x ∷ filter (λ u. not (u == x)) (distinct xs))
        ((x ∷ filter (λ u. not (u == x)) (distinct xs)) ++ t ∷ [])
    kept apart true = refl
    kept apart false =
        ap (λ l. x ∷ l) (filter-append (λ u. not (u == x)) (distinct xs) (t ∷ [])
        ∙ ap (λ b. filter (λ u. not (u == x)) (distinct xs) ++ cond (not b) (t ∷ []) []) (not_same x t apart))

pub seen-again : (seen ts : List ℕ) (t : ℕ) → ts ≡ distinct seen → is_among ts t ≡ true
    → ts ≡ distinct (seen ++ t ∷ [])
seen-again seen ts t is among =
    is ∙ sym (distinct-push seen t
    ∙ ap (λ b. cond b (distinct seen) (distinct seen ++ t ∷ [])) (ap (λ l. is_among l t) (sym is) ∙ among))

pub seen-first : (seen ts : List ℕ) (t : ℕ) → ts ≡ distinct seen → is_among ts t ≡ false
    → ts ++ t ∷ [] ≡ distinct (seen ++ t ∷ [])
seen-first seen ts t is among =
    ap (λ l. l ++ t ∷ []) is ∙ sym (distinct-push seen t
    ∙ ap (λ b. cond b (distinct seen) (distinct seen ++ t ∷ [])) (ap (λ l. is_among l t) (sym is) ∙ among))

-- one more holder
pub one-holder : {X : Type 0} (f : X → Holding) (seen : List ℕ) (xs : List X) (i : ℕ) (d : X) → i < length xs
    → (seen ++ tokens_in (map f (take i xs))) ++ token_in (f (get_or xs i d))
    ≡ seen ++ tokens_in (map f (take (i + 1) xs))
one-holder f seen xs i d lt =
    append_assoc seen (tokens_in (map f (take i xs))) (token_in (f (get_or xs i d)))
    ∙ ap (λ l. seen ++ l) (more xs i lt)
  where
    more : (ys : List _) (j : ℕ) → j < length ys
        → tokens_in (map f (take j ys)) ++ token_in (f (get_or ys j d)) ≡ tokens_in (map f (take (j + 1) ys))
    more [] j lu = absurd (omega (arith, lu))
    more (y ∷ ys) zero lu = sym (append-nil (token_in (f y)))
    more (y ∷ ys) (suc j) lu =
        let e : suc j + 1 ≡ suc (j + 1) = omega arith in
        rw e
        (append_assoc (token_in (f y)) (tokens_in (map f (take j ys))) (token_in (f (get_or ys j d)))
        ∙ ap (λ l. token_in (f y) ++ l) (more ys j (omega (arith, lu))))

-- the tokens of an exit class
pub exit-tokens : (x : Shape) → x.vars ≡ [] → x.slots ≡ []
    → distinct ((tokens_in x.entry ++ tokens_in (map holding_of_static x.statics)) ++ token_in x.returned) ≡ tokens_of x
exit-tokens x vars slots =
    ap distinct
    (append_assoc (tokens_in x.entry) (tokens_in (map holding_of_static x.statics)) (token_in x.returned)
    ∙ ap (λ l. tokens_in x.entry ++ l)
    (ap (λ l. tokens_in (map holding_of_static x.statics) ++ l) (sym (append-nil (token_in x.returned)))
    ∙ sym (tokens-append (map holding_of_static x.statics) (x.returned ∷ [])))
    ∙ sym (tokens-append x.entry (map holding_of_static x.statics ++ x.returned ∷ []))
    ∙ ap (λ vs. tokens_in (x.entry ++ (vs ++ (map holding_of_static x.statics ++ x.returned ∷ [])))) (sym vars)
    ∙ ap tokens_in (sym (append-nil (before_slots x)))
    ∙ ap (λ rs. tokens_in (before_slots x ++ map holding_of_slot rs)) (sym slots))

pub one-holding : (seen : List ℕ) (hs : List Holding) (i : ℕ) (d : Holding) → i < length hs
    → (seen ++ tokens_in (take i hs)) ++ token_in (get_or hs i d) ≡ seen ++ tokens_in (take (i + 1) hs)
one-holding seen hs i d lt =
    ap (λ l. (seen ++ tokens_in l) ++ token_in (get_or hs i d)) (sym (map-id (take i hs)))
    ∙ one-holder (λ h. h) seen hs i d lt
    ∙ ap (λ l. seen ++ tokens_in l) (map-id (take (i + 1) hs))
