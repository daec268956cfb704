-- The greatest values that meet the constraints, at most 0, don't lie deep.
use Rattle.std.proofs.Common.{◌≡◌, ℕ, zero, suc, ◌+◌, ◌*◌, ◌<◌, ◌≤◌, ◌⊎◌, inl, inr, ℤ, pos, neg_ℤ, ◌+ℤ◌, ◌-ℤ◌, ◌≤ℤ◌}
use Rattle.std.proofs.Common.{◌<ℤ◌, List, [], ◌∷◌, length, refl, arith, slice_index_or, Bool, true, false}
use Rattle.std.specs.Prelude.{if◌then◌else◌}
use Rattle.std.specs.Int.Signed.{lt_z}
use Rattle.std.specs.List.{All}
use Rattle.std.proofs.lemmas.Int.{ints}
use Rattle.pungi_diff.specs.declared.constraint.Constraint.{Constraint}
use Rattle.pungi_diff.specs.Constraint.{at, Solves, InRange}

-- how many lie above a
abbrev above : ℤ → List ℤ → ℕ
above a [] = 0
above a (x ∷ xs) = (if lt_z a x then 1 else 0) + above a xs

above_length : (a : ℤ) (xs : List ℤ) → above a xs ≤ length xs
above_length a [] = omega arith
above_length a (x ∷ xs) = go (lt_z a x) refl (above_length a xs)
  where
    go : (t : Bool) → lt_z a x ≡ t → above a xs ≤ length xs → above a (x ∷ xs) ≤ length (x ∷ xs)
    go true e h = rw e (omega (arith, h))
    go false e h = rw e (omega (arith, h))

test_lt : (a b : ℤ) → a <ℤ b → lt_z a b ≡ true
test_lt a b h = grind (arith, ints)

test_le : (a b : ℤ) → b ≤ℤ a → lt_z a b ≡ false
test_le a b h = grind (arith, ints)

is_lt : (a b : ℤ) → lt_z a b ≡ true → a <ℤ b
is_lt a b h = grind (arith, ints)

is_le : (a b : ℤ) → lt_z a b ≡ false → b ≤ℤ a
is_le a b h = grind (arith, ints)

above_falls : (a b : ℤ) (xs : List ℤ) → a <ℤ b → above b xs ≤ above a xs
above_falls a b [] h = omega arith
above_falls a b (x ∷ xs) h = go (lt_z b x) refl (above_falls a b xs h)
  where
    go : (t : Bool) → lt_z b x ≡ t → above b xs ≤ above a xs → above b (x ∷ xs) ≤ above a (x ∷ xs)
    go true e g = let f : lt_z a x ≡ true = test_lt a x (let k = is_lt b x e in omega (arith, ints, k)) in rw (e, f)
        (omega (arith, g))
    go false e g = rw e (omega (arith, g))

above_strict : (a : ℤ) (xs : List ℤ) (v : ℕ) → v < length xs → a <ℤ at xs v → above (at xs v) xs < above a xs
above_strict a [] v lt h = absurd (omega arith)
above_strict a (x ∷ xs) zero lt h =
    let e : lt_z a x ≡ true = test_lt a x h in
    let f : lt_z x x ≡ false = test_le x x (omega (arith, ints)) in
    let g = above_falls a x xs h in
    rw (e, f) (omega (arith, g))
above_strict a (x ∷ xs) (suc v) lt h = go (lt_z (at xs v) x) refl (above_strict a xs v (omega arith) h)
  where
    go : (t : Bool) → lt_z (at xs v) x ≡ t → above (at xs v) xs < above a xs
        → above (at xs v) (x ∷ xs) < above a (x ∷ xs)
    go true e g = let f : lt_z a x ≡ true = test_lt a x (let k = is_lt (at xs v) x e in omega (arith, ints, k)) in
        rw (e, f) (omega (arith, g))
    go false e g = rw e (omega (arith, g))

-- a value above a by at most b, or none
near : (a : ℤ) (b : ℕ) (xs : List ℤ)
    → ((v : ℕ) × (v < length xs) × (a <ℤ at xs v) × (at xs v ≤ℤ (a +ℤ pos b)))
    ⊎ ((v : ℕ) → v < length xs → (at xs v ≤ℤ a) ⊎ ((a +ℤ pos b) <ℤ at xs v))
near a b [] = inr (λ v lt. absurd (omega arith))
near a b (x ∷ xs) = here (lt_z a x) refl (lt_z (a +ℤ pos b) x) refl (near a b xs)
  where
    far : (x ≤ℤ a) ⊎ ((a +ℤ pos b) <ℤ x)
        → ((v : ℕ) → v < length xs → (at xs v ≤ℤ a) ⊎ ((a +ℤ pos b) <ℤ at xs v)) → (v : ℕ) → v < length (x ∷ xs)
        → (at (x ∷ xs) v ≤ℤ a) ⊎ ((a +ℤ pos b) <ℤ at (x ∷ xs) v)
    far h g zero lt = h
    far h g (suc v) lt = g v (omega arith)

    later : (x ≤ℤ a) ⊎ ((a +ℤ pos b) <ℤ x)
        → ((v : ℕ) × (v < length xs) × (a <ℤ at xs v) × (at xs v ≤ℤ (a +ℤ pos b)))
        ⊎ ((v : ℕ) → v < length xs → (at xs v ≤ℤ a) ⊎ ((a +ℤ pos b) <ℤ at xs v))
        → ((v : ℕ) × (v < length (x ∷ xs)) × (a <ℤ at (x ∷ xs) v) × (at (x ∷ xs) v ≤ℤ (a +ℤ pos b)))
        ⊎ ((v : ℕ) → v < length (x ∷ xs) → (at (x ∷ xs) v ≤ℤ a) ⊎ ((a +ℤ pos b) <ℤ at (x ∷ xs) v))
    later h (inl g) = inl (suc (g.0), (let k = g.1 in omega (arith, k)), g.2, g.3)
    later h (inr g) = inr (far h g)

    here : (s : Bool) → lt_z a x ≡ s → (t : Bool) → lt_z (a +ℤ pos b) x ≡ t
        → ((v : ℕ) × (v < length xs) × (a <ℤ at xs v) × (at xs v ≤ℤ (a +ℤ pos b)))
        ⊎ ((v : ℕ) → v < length xs → (at xs v ≤ℤ a) ⊎ ((a +ℤ pos b) <ℤ at xs v))
        → ((v : ℕ) × (v < length (x ∷ xs)) × (a <ℤ at (x ∷ xs) v) × (at (x ∷ xs) v ≤ℤ (a +ℤ pos b)))
        ⊎ ((v : ℕ) → v < length (x ∷ xs) → (at (x ∷ xs) v ≤ℤ a) ⊎ ((a +ℤ pos b) <ℤ at (x ∷ xs) v))
    here true e true f g = later (inr (is_lt (a +ℤ pos b) x f)) g
    here true e false f g = inl (zero, omega arith, is_lt a x e, is_le (a +ℤ pos b) x f)
    here false e t f g = later (inl (is_le a x e)) g

-- the values up to a, raised by 1
abbrev raised : ℤ → (ℕ → ℤ) → ℕ → ℤ
raised a v w = if lt_z a (v w) then v w else v w +ℤ pos 1

module _ (b : ℕ) (held : List Constraint) (value : List ℤ) (range : InRange (length value) held)
    (solved : Solves (at value) held)
    (steps : All (λ k. (k.c ≤ℤ pos b) × (neg_ℤ (pos b) ≤ℤ k.c)) held) (top : (u : ℕ) → u < length value
    → at value u ≤ℤ pos 0)
    (greatest : (s : ℕ → ℤ) → Solves s held → ((u : ℕ) → u < length value → s u ≤ℤ pos 0) → (u : ℕ)
    → u < length value → s u ≤ℤ at value u) where
  raised_solves : (a : ℤ) → ((v : ℕ) → v < length value → (at value v ≤ℤ a) ⊎ ((a +ℤ pos b) <ℤ at value v))
      → Solves (raised a (at value)) held
  raised_solves a gap k d lt =
      let con : Constraint = slice_index_or held k d in
      let h = solved k d lt in
      let s = (steps k d lt).1 in
      elim (gap con.x (range k d lt).0) [
        | inr x_far ↦
            let e : lt_z a (at value con.x) ≡ true = test_lt a (at value con.x) (omega (arith, ints, x_far)) in
            elim (gap con.y (range k d lt).1) [
              | inr y_far ↦ (let f : lt_z a (at value con.y) ≡ true = test_lt a (at value con.y)
                  (omega (arith, ints, y_far)) in rw (e, f) h)
              | inl y_low ↦ (let f : lt_z a (at value con.y) ≡ false = test_le a (at value con.y) y_low in rw (e, f)
                  (omega (arith, ints, h)))
            ]
        | inl x_low ↦
            let e : lt_z a (at value con.x) ≡ false = test_le a (at value con.x) x_low in
            elim (gap con.y (range k d lt).1) [
              | inr y_far ↦ (let f : lt_z a (at value con.y) ≡ true = test_lt a (at value con.y)
                  (omega (arith, ints, y_far)) in rw (e, f) (omega (arith, ints, x_low, y_far, s)))
              | inl y_low ↦ (let f : lt_z a (at value con.y) ≡ false = test_le a (at value con.y) y_low in rw (e, f)
                  (omega (arith, ints, h)))
            ]
      ]

  raised_top : (a : ℤ) → a <ℤ pos 0 → (u : ℕ) → u < length value → raised a (at value) u ≤ℤ pos 0
  raised_top a low u lt = go (lt_z a (at value u)) refl (top u lt)
    where
      go : (t : Bool) → lt_z a (at value u) ≡ t → at value u ≤ℤ pos 0 → raised a (at value) u ≤ℤ pos 0
      go true e h = rw e h
      go false e h = rw e (let k = is_le a (at value u) e in omega (arith, ints, k))

  no_gap : (u : ℕ) → u < length value → at value u <ℤ pos 0
      → ((v : ℕ) → v < length value → (at value v ≤ℤ at value u) ⊎ ((at value u +ℤ pos b) <ℤ at value v)) → ⊥
  no_gap u lt low gap =
      let e : lt_z (at value u) (at value u) ≡ false = test_le (at value u) (at value u) (omega (arith, ints)) in
      let h = greatest (raised (at value u) (at value)) (raised_solves (at value u) gap)
      (raised_top (at value u) low) u lt in
      let g : (at value u +ℤ pos 1) ≤ℤ at value u = rw e at h in
      absurd (omega (arith, ints, g))

  low_by : (m u : ℕ) → u < length value → ((v : ℕ) → v < length value
      → above (at value v) value < above (at value u) value → neg_ℤ (pos (m * b)) ≤ℤ (at value v -ℤ pos b))
      → neg_ℤ (pos (m * b)) ≤ℤ at value u
  low_by m u lt rec = go (lt_z (at value u) (pos 0)) refl
    where
      go : (t : Bool) → lt_z (at value u) (pos 0) ≡ t → neg_ℤ (pos (m * b)) ≤ℤ at value u
      go false e = let k = is_le (at value u) (pos 0) e in omega (arith, ints, k)
      go true e = elim (near (at value u) b value) [
        | inl f ↦ (let k = rec f.0 f.1 (above_strict (at value u) value f.0 f.1 f.2) in let g = f.3 in omega
            (arith, ints, k, g))
        | inr gap ↦ absurd (no_gap u lt (is_lt (at value u) (pos 0) e) gap)
      ]

  pub deep : (m u : ℕ) → u < length value → above (at value u) value ≤ m → neg_ℤ (pos (m * b)) ≤ℤ at value u
  deep zero u lt le = low_by 0 u lt (λ v l a. absurd (omega (arith, a, le)))
  deep (suc m) u lt le = low_by (suc m) u lt (λ v l a. let h = deep m v l (omega (arith, a, le)) in omega
      (arith, ints, h))

  -- no value lies below the number of nodes times the bound of a constraint
  pub not_deep : (u : ℕ) → u < length value → neg_ℤ (pos (length value * b)) ≤ℤ at value u
  not_deep u lt = deep (length value) u lt (above_length (at value u) value)
