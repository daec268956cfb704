-- What is reached through one more typedef, and that a circle leads nowhere.
use Rattle.std.proofs.Common.{◌≡◌, ℕ, zero, suc, ◌+◌, ◌==◌, Bool, true, false, ◌||◌, List, [], ◌∷◌, refl, sym, ap}
use Rattle.std.proofs.Common.{subst, ◌∙◌, cond, arith, IsTrue}
use Rattle.std.specs.Prelude.{nat_le}
use Rattle.std.proofs.lemmas.Bool.Decides.{nat_tests}
use Rattle.pungi_types.specs.Kinds.{Core, base_words, builtin, struct_of, no_core, Followed, more_stars}
use Rattle.pungi_names.specs.Depth.{TypedefTarget, nowhere, with_stars, known, after_typedef, Reaches, Leads}
use Rattle.pungi_names.specs.Walk.{on_path, IsPath}

within_one_more : (d n : ℕ) → nat_le (d + 1) (suc n) ≡ nat_le d n
within_one_more d n = grind (arith, nat_tests)

not_within : (d : ℕ) → nat_le (d + 1) zero ≡ false
not_within d = grind (arith, nat_tests)

-- stars are added before or after those of no type are left out
behind-known-at : (c : Core) (m k : ℕ) → with_stars c (m + k) ≡ after_typedef k (with_stars c m)
behind-known-at (base_words ks) m k = refl
behind-known-at (builtin w) m k = refl
behind-known-at (struct_of w) m k = refl
behind-known-at no_core m k = refl

pub behind-known : (k : ℕ) (f : Followed) → known (more_stars k f) ≡ after_typedef k (known f)
behind-known k f = behind-known-at f.core f.stars k

behind-choice : (b : Bool) (k : ℕ) (f : Followed)
    → after_typedef k (cond b (known f) nowhere) ≡ cond b (known (more_stars k f)) nowhere
behind-choice true k f = sym (behind-known k f)
behind-choice false k f = refl

pub one_more : (step : ℕ → ℕ → Followed) (w k v : ℕ) (r : TypedefTarget) → Leads step w k v → Reaches step v r
    → Reaches step w (record { depth = r.depth + 1; at = more_stars k r.at })
one_more step w k v r l h zero =
    l.first ∙ sym (ap (λ b. cond b (known (more_stars k r.at)) nowhere) (not_within r.depth))
one_more step w k v r l h (suc n) =
    l.later n ∙ ap (after_typedef k) (h n) ∙ behind-choice (nat_le r.depth n) k r.at
    ∙ sym (ap (λ b. cond b (known (more_stars k r.at)) nowhere) (within_one_more r.depth n))

-- where every word leads to one of the same, none leads anywhere
circle : (step : ℕ → ℕ → Followed) (In : ℕ → Type 0) → ((w : ℕ) → In w → (k : ℕ) × (v : ℕ) × (Leads step w k v × In v))
    → (n w : ℕ) → In w → step n w ≡ nowhere
circle step In next zero w i = (next w i).2.0.first
circle step In next (suc n) w i =
    let there = next w i in
    there.2.0.later n ∙ ap (after_typedef there.0) (circle step In next n there.1 there.2.1)

pub same_word : (a b : ℕ) → (a == b) ≡ true → a ≡ b
same_word a b h = grind (arith, nat_tests)

or-cases : (a b : Bool) → (a || b) ≡ true → (P : Type 0) → (a ≡ true → P) → (b ≡ true → P) → P
or-cases true b h P f g = f refl
or-cases false b h P f g = g h

or-right : (a b : Bool) → b ≡ true → (a || b) ≡ true
or-right true b h = refl
or-right false b h = h

or-left : (a b : Bool) → a ≡ true → (a || b) ≡ true
or-left true b h = refl
or-left false b h = absurd cc

-- each word of a path leads to one of it, where its end does
next_on_path : (step : ℕ → ℕ → Followed) (s : ℕ) (whole ps : List (ℕ × ℕ)) (v : ℕ) → IsPath step s ps v
    → IsTrue (on_path whole v)
    → ((w : ℕ) → on_path ps w ≡ true → on_path whole w ≡ true)
    → (w : ℕ) → on_path ps w ≡ true → (k : ℕ) × (u : ℕ) × (Leads step w k u × IsTrue (on_path whole u))
next_on_path step s whole [] v path back inside w on = absurd cc
next_on_path step s whole (p ∷ ps) v path back inside w on =
    or-cases (p.0 == w) (on_path ps w) on _
    (λ e. (p.1, v, (subst (λ x. Leads step x p.1 v) (same_word p.0 w e) path.0, back)))
    (λ r. next_on_path step s whole ps p.0 path.1
    (inside p.0 (or-left (p.0 == p.0) (on_path ps p.0) (grind (arith, nat_tests))))
    (λ u h. inside u (or-right (p.0 == u) (on_path ps u) h)) w r)

-- a path that leads back to one of its words leads nowhere
pub circular : (step : ℕ → ℕ → Followed) (s : ℕ) (ps : List (ℕ × ℕ)) (v : ℕ) → IsPath step s ps v
    → IsTrue (on_path ps v)
    → (w : ℕ) → IsTrue (on_path ps w) → (d : ℕ) → Reaches step w (record { depth = d; at = nowhere })
circular step s ps v path back w on d n =
    circle step (λ u. IsTrue (on_path ps u)) (next_on_path step s ps ps v path back (λ u h. h)) n w on
    ∙ sym (either (nat_le d n))
  where
    either : (b : Bool) → cond b nowhere nowhere ≡ nowhere
    either true = refl
    either false = refl

-- the first word of a path is on it, or is where it leads
pub start_on_path : (step : ℕ → ℕ → Followed) (s : ℕ) (ps : List (ℕ × ℕ)) (v : ℕ) → IsPath step s ps v
    → IsTrue (on_path ps v) → IsTrue (on_path ps s)
start_on_path step s [] v path back = absurd cc
start_on_path step s (p ∷ ps) v path back = start-at p ps path.1
  where
    start-at : (p : ℕ × ℕ) (ps : List (ℕ × ℕ)) → IsPath step s ps p.0 → on_path (p ∷ ps) s ≡ true
    start-at p [] path = or-left (p.0 == s) false (let P : ℕ
        → Type 0 = λ x. (x == s) ≡ true in subst P path (grind (arith, nat_tests)))
    start-at p (q ∷ qs) path = or-right (p.0 == s) (on_path (q ∷ qs) s) (start-at q qs path.1)
