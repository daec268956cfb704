-- Tokens of one of several holders.
use Rattle.std.proofs.Common.{ℕ, zero, suc, ◌<◌, List, [], ◌∷◌, length, map, get_or, arith}
use Rattle.std.specs.List.{All}
use Rattle.std.proofs.lemmas.List.Elements.{All-append, All-head, All-nil, All-tail}
use Rattle.pungi_shape.specs.declared.holding.Holding.{Holding}
use Rattle.pungi_shape.specs.declared.shape.Shape.{Shape}
use Rattle.pungi_shape.specs.Bounds.{AreTokens, IsBelow}
use Rattle.pungi_shape.specs.Shapes.{holding_of_slot, holding_of_static, token_in, tokens_in}
use Rattle.pungi_shape.proofs.TokenLemmas.{IsTrackedBelow, all-left, all-right, token-below, tokens-apart}
use Rattle.pungi_shape.proofs.TokenLemmas.{tokens-below}

pub tokens-at : (P : ℕ → Type 0) (hs : List Holding) (i : ℕ) (d : Holding) → i < length hs
    → All P (tokens_in hs) → All P (token_in (get_or hs i d))
tokens-at P [] i d lt all = absurd (omega arith)
tokens-at P (h ∷ hs) zero d lt all = all-left P (token_in h) (tokens_in hs) all
tokens-at P (h ∷ hs) (suc i) d lt all =
    tokens-at P hs i d (omega (arith, lt)) (all-right P (token_in h) (tokens_in hs) all)

-- holders that stand in other things
pub tokens-in : {X : Type 0} (P : ℕ → Type 0) (f : X → Holding) (xs : List X) (i : ℕ) (d : X) → i < length xs
    → All P (tokens_in (map f xs)) → All P (token_in (f (get_or xs i d)))
tokens-in P f [] i d lt all = absurd (omega arith)
tokens-in P f (x ∷ xs) zero d lt all = all-left P (token_in (f x)) (tokens_in (map f xs)) all
tokens-in P f (x ∷ xs) (suc i) d lt all =
    tokens-in P f xs i d (omega (arith, lt)) (all-right P (token_in (f x)) (tokens_in (map f xs)) all)

-- ---- the holders of a shape

tokens-of : {X : Type 0} (n : ℕ) (f : X → Holding) (Q : X → Type 0) → ((x : X) → Q x → IsBelow n (f x)) → (xs : List X)
    → All Q xs → All (λ t. t < n) (tokens_in (map f xs))
tokens-of n f Q below [] all = All-nil (λ t. t < n)
tokens-of n f Q below (x ∷ xs) all =
    All-append (λ t. t < n) (token_in (f x)) (tokens_in (map f xs))
    (token-below n (f x) (below x (All-head Q x xs all)))
    (tokens-of n f Q below xs (All-tail Q x xs all))

pub entry-tokens : (n : ℕ) (s : Shape) → AreTokens n s → All (λ t. t < n) (tokens_in s.entry)
entry-tokens n s h = tokens-below n s.entry (tokens-apart n s h).entry

pub vars-tokens : (n : ℕ) (s : Shape) → AreTokens n s → All (λ t. t < n) (tokens_in s.vars)
vars-tokens n s h = tokens-below n s.vars (tokens-apart n s h).vars

pub static-tokens : (n : ℕ) (s : Shape) → AreTokens n s
    → All (λ t. t < n) (tokens_in (map holding_of_static s.statics))
static-tokens n s h =
    tokens-of n holding_of_static (λ k. IsBelow n k.1) (λ k below. below) s.statics (tokens-apart n s h).statics

pub returned-tokens : (n : ℕ) (s : Shape) → AreTokens n s → All (λ t. t < n) (token_in s.returned)
returned-tokens n s h = token-below n s.returned (tokens-apart n s h).returned

pub slot-tokens : (n : ℕ) (s : Shape) → AreTokens n s → All (λ t. t < n) (tokens_in (map (λ r. r.held) s.slots))
slot-tokens n s h =
    tokens-of n holding_of_slot (IsTrackedBelow n) (λ r below. below.held) s.slots (tokens-apart n s h).slots
