use Rattle.std.proofs.Common.{◌≡◌, ◌∙◌, ◌+◌, ◌≤◌, ◌++◌, ◌∷◌, [], ℕ, zero, suc, List, drop, length, map, refl, sym, ap}
use Rattle.std.proofs.Common.{subst, arith, append_assoc}
use Rattle.std.specs.Prelude.{OnOk}
use Rattle.std.specs.List.{enumerate_from}
use Rattle.pungi_shape.specs.Calls.{Outcome, does}
use Rattle.pungi_shape.specs.Cases.{Case, passes_on}
use Rattle.pungi_shape.proofs.calls.add_outcomes.Goals as goal

append_none : (l : List Case) → l ++ [] ≡ l
append_none [] = refl
append_none (c ∷ l) = ap (λ (m : List Case). c ∷ m) (append_none l)

drop_all : (k : ℕ) (xs : List Outcome) → length xs ≤ k → drop k xs ≡ []
drop_all zero [] h = refl
drop_all zero (x ∷ xs) h = absurd (omega (arith, h))
drop_all (suc k) [] h = refl
drop_all (suc k) (x ∷ xs) h = drop_all k xs (omega (arith, h))

enumerate_last : (f : ℕ × Outcome → Case) (n m : ℕ) (xs : List Outcome) (x : Outcome) → m ≡ n + length xs
    → map f (enumerate_from n (xs ++ x ∷ [])) ≡ map f (enumerate_from n xs) ++ f (m, x) ∷ []
enumerate_last f n m [] x e = (let h : m ≡ n = omega (arith, e) in rw h refl)
enumerate_last f n m (y ∷ xs) x e =
    ap (λ (l : List Case). f (n, y) ∷ l) (enumerate_last f (n + 1) m xs x (omega (arith, e)))

-- those before the last are there, and the last comes
cases_last : (f : ℕ × Outcome → Case) (start list : List Case) (k : ℕ) (xs ys : List Outcome) (x : Outcome)
    → length xs ≤ k → list ++ map f (enumerate_from k (drop k xs)) ≡ start ++ map f (enumerate_from 0 xs)
    → ys ≡ xs ++ x ∷ [] → list ++ f (length xs, x) ∷ [] ≡ start ++ map f (enumerate_from 0 ys)
cases_last f start list k xs ys x le e s =
    let d : drop k xs ≡ [] = drop_all k xs le in
    let h : list ++ [] ≡ start ++ map f (enumerate_from 0 xs) = rw d at e in
    let last : map f (enumerate_from 0 ys) ≡ map f (enumerate_from 0 xs) ++ f (length xs, x) ∷ [] =
    rw s (enumerate_last f 0 (length xs) xs x (omega arith)) in
    ap (λ (l : List Case). l ++ f (length xs, x) ∷ []) (sym (append_none list) ∙ h)
    ∙ append_assoc start (map f (enumerate_from 0 xs)) (f (length xs, x) ∷ [])
    ∙ ap (λ (l : List Case). start ++ l) (sym last)

pub returns : goal.returns
returns c =
    let f = λ (e : ℕ × Outcome). passes_on e.0 (does c.args.g.now.own c.args.g.now c.args.holdings.now e.1 c.args.scene)
    in
    subst (λ (l : List Case). OnOk c.add_outcome.result (c.add_outcome.new.out ≡ l))
    (cases_last f c.args.out.now c.loop-k.out c.loop-k.k c.in-Some.others.now c.args.outcomes.now c.in-Some.last.now
    c.loop-k-test.false c.loop-k.invariant c.in-Some.ensures.cases.0) c.add_outcome.ensures
