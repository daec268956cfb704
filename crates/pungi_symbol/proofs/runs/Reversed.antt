-- Constraints in the other order.
use Rattle.std.proofs.Common.{◌≡◌, ℕ, ◌+◌, ◌-◌, ◌<◌, ℤ, List, [], ◌∷◌, ◌++◌, length, get_or, take, sym, ap, ◌∙◌, subst}
use Rattle.std.proofs.Common.{arith}
use Rattle.std.specs.Prelude.{reverse}
use Rattle.std.proofs.Math.Seq.{take-length}
use Rattle.std.proofs.lemmas.List.{get_or-reverse, length-reverse, take_more}
use Rattle.pungi_diff.specs.declared.constraint.Constraint.{Constraint}
use Rattle.pungi_diff.specs.Constraint.{Meets, Solves}
use Rattle.pungi_diff.specs.Round.{HasNoSolution, GoesRound}
use Rattle.pungi_symbol.proofs.runs.Models.{round_forbids}

pub reversed_step : (ks : List Constraint) (i : ℕ) (d : Constraint) → i < length ks
    → take i (reverse ks) ++ get_or ks (length ks - 1 - i) d ∷ [] ≡ take (i + 1) (reverse ks)
reversed_step ks i d lt =
    let long = length-reverse ks in
    ap (λ k. take i (reverse ks) ++ k ∷ []) (sym (get_or-reverse ks i d lt))
    ∙ sym (take_more (reverse ks) i d (omega (arith, lt, long)))

pub reversed_all : (ks : List Constraint) → take (length ks) (reverse ks) ≡ reverse ks
reversed_all ks = ap (λ n. take n (reverse ks)) (sym (length-reverse ks)) ∙ take-length (reverse ks)

pub solves_there : (v : ℕ → ℤ) (ks : List Constraint) → Solves v ks → Solves v (reverse ks)
solves_there v ks h k d lt =
    let long = length-reverse ks in
    subst (Meets v) (sym (get_or-reverse ks k d (omega (arith, lt, long))))
    (h (length ks - 1 - k) d (omega (arith, lt, long)))

pub solves_back : (v : ℕ → ℤ) (ks : List Constraint) → Solves v (reverse ks) → Solves v ks
solves_back v ks h i d lt =
    let long = length-reverse ks in
    let m = length ks - 1 - i in
    let same : length ks - 1 - m ≡ i = omega (arith, lt) in
    subst (Meets v) (get_or-reverse ks m d (omega (arith, lt)) ∙ ap (λ j. get_or ks j d) same)
    (h m d (omega (arith, lt, long)))

-- a round among the last ones
pub reversed_round : (ks : List Constraint) (i : ℕ) (d : Constraint) (cycle : List Constraint) → i < length ks
    → GoesRound (take i (reverse ks)) (get_or ks (length ks - 1 - i) d) cycle → HasNoSolution ks
reversed_round ks i d cycle lt round v h =
    let long = length-reverse ks in
    round_forbids (reverse ks) i d (get_or ks (length ks - 1 - i) d) cycle (omega (arith, lt, long))
    (sym (get_or-reverse ks i d lt)) round v (solves_there v ks h)
