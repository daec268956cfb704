-- The sum of balances, over the tokens that are held alone.
--   sum_of names v o bs ts    the balances of these tokens, where they stand for an object
use Rattle.std.proofs.Common.{◌≡◌, ◌≢◌, ℕ, zero, suc, ◌+◌, ◌<◌, ◌≤◌, ℤ, pos, ◌+ℤ◌, List, [], ◌∷◌}
use Rattle.std.proofs.Common.{length, map, get_or, Bool, true, false, refl, sym, ap, ◌∙◌, subst, arith, inl, inr, cond}
use Rattle.std.specs.Prelude.{slice_set, ◌==◌, ◌||◌, Option, Some, None}
use Rattle.std.specs.List.{All, flat_map, enumerate_from, range_with_len}
use Rattle.std.proofs.lemmas.Int.{ints}
use Rattle.std.proofs.lemmas.Bool.{cases_eq}
use Rattle.std.proofs.lemmas.List.{get_or-set_same, get_or-set_other, length-set}
use Rattle.std.proofs.lemmas.List.Elements.{All-head, All-tail}
use Rattle.pungi_domain.specs.Vectors.{Vector, dot}
use Rattle.pungi_shape.specs.Forms.{Form, unit}
use Rattle.pungi_shape.specs.Liveness.{is_among}
use Rattle.pungi_shape.specs.Scenes.{form_or}
use Rattle.pungi_shape.specs.Arrivals.{drop_of}
use Rattle.pungi_shape.specs.Described.{Naming}
use Rattle.pungi_shape.proofs.sound.Shows.{IsLive, share, total_from, total}
use Rattle.pungi_shape.proofs.sound.Flow.{AreZero}
use Rattle.pungi_shape.proofs.sound.FormValues.{dot_unit}
use Rattle.pungi_shape.proofs.sound.Totals.{total_set}
use Rattle.pungi_shape.proofs.sound.Tests.{or_false}
use Rattle.pungi_shape.proofs.sound.Distinct.{Once}
use Rattle.pungi_shape.proofs.sound.ArrivedScene.{All_left, All_right}
use Rattle.pungi_shape.proofs.sound.Tests.{eqb_not}
use Rattle.std.proofs.Common.{eq-eqb}

abbrev pub sum_of : Naming → Vector → ℕ → List (Option Form) → List ℕ → ℤ
sum_of names v o bs [] = pos 0
sum_of names v o bs (t ∷ ts) = share names v o t (get_or bs t None) +ℤ sum_of names v o bs ts

abbrev ShareZero : Naming → Vector → ℕ → List (Option Form) → ℕ → Type 0
ShareZero names v o bs t = share names v o t (get_or bs t None) ≡ pos 0

total_zero : (j : ℕ) (names : Naming) (v : Vector) (o : ℕ) (bs : List (Option Form))
    → ((i m : ℕ) → j + i ≡ m → share names v o m (get_or bs i None) ≡ pos 0) → total_from j names bs v o ≡ pos 0
total_zero j names v o [] zeros = refl
total_zero j names v o (b ∷ bs) zeros =
    let p = zeros 0 j (omega arith) in
    let q = total_zero (suc j) names v o bs (λ i m e. zeros (suc i) m (omega (arith, e))) in
    omega (arith, ints, p, q)

true_not_false : true ≡ false → ⊥
true_not_false e = absurd (grind (arith, e))

sum_set : (names : Naming) (v : Vector) (o : ℕ) (bs : List (Option Form)) (x : ℕ) (b : Option Form) (ts : List ℕ)
    → is_among ts x ≡ false → sum_of names v o (slice_set bs x b) ts ≡ sum_of names v o bs ts
sum_set names v o bs x b [] e = refl
sum_set names v o bs x b (t ∷ ts) e =
    let ne : t ≢ x = λ same. true_not_false (sym (eq-eqb t x same) ∙ (or_false (t == x) (is_among ts x) e).0) in
    ap (λ c. share names v o t c +ℤ sum_of names v o (slice_set bs x b) ts) (get_or-set_other bs x t b None ne)
    ∙ ap (λ z. share names v o t (get_or bs t None) +ℤ z)
    (sum_set names v o bs x b ts (or_false (t == x) (is_among ts x) e).1)

-- all other balances are 0
pub gathered : (names : Naming) (v : Vector) (o : ℕ) (bs : List (Option Form)) (ts : List ℕ) → Once ts
    → All (λ t. t < length bs) ts → ((t : ℕ) → is_among ts t ≡ false → ShareZero names v o bs t)
    → total names bs v o ≡ sum_of names v o bs ts
gathered names v o bs [] once in_range zeros =
    total_zero 0 names v o bs (λ i m e. subst (λ z. share names v o z (get_or bs i None) ≡ pos 0)
    (let z : i ≡ m = omega (arith, e) in z) (zeros i refl))
gathered names v o bs (x ∷ ts) once in_range zeros =
    let in_bs = All-head (λ t. t < length bs) x ts in_range in
    let rest = All-tail (λ t. t < length bs) x ts in_range in
    let bs' = slice_set bs x None in
    let p = total_set names bs v o x None in_bs in
    let q = gathered names v o bs' ts once.1 (λ k d lt. let a = rest k d lt in let n = length-set bs x None in omega
    (arith, a, n)) (λ t e. elim (cases_eq t x) [
      | inl same ↦ ap (share names v o t) (ap (λ z. get_or bs' z None) same ∙ get_or-set_same bs x None None in_bs)
      | inr ne ↦ ap (share names v o t) (get_or-set_other bs x t None None ne)
          ∙ zeros t (ap (λ b. b || is_among ts t) (eqb_not x t (λ same. ne (sym same))) ∙ e)
    ]) in
    let r = sum_set names v o bs x None ts once.0 in
    omega (arith, ints, p, q, r)

-- ---- dropped balances

share_zero : (names : Naming) (v : Vector) (o t : ℕ) (f : Form) → dot f v ≡ pos 0
    → share names v o t (Some f) ≡ pos 0
share_zero names v o t f e = at (names t == o)
  where
    at : (b : Bool) → cond b (dot f v) (pos 0) ≡ pos 0
    at true = e
    at false = refl

dropped_one : (names : Naming) (v : Vector) (o t : ℕ) (ts : List ℕ) (b : Option Form) → AreZero (drop_of ts t b) v
    → is_among ts t ≡ false → share names v o t b ≡ pos 0
dropped_one names v o t ts None zeros e = refl
dropped_one names v o t ts (Some f) zeros e = share_zero names v o t f (All-head (λ g. dot g v ≡ pos 0) f []
    (subst (λ c. All (λ g. dot g v ≡ pos 0) (cond c [] (f ∷ []))) e zeros))

pub dropped : (names : Naming) (v : Vector) (o n : ℕ) (ts : List ℕ) (bs : List (Option Form)) (i m : ℕ) → n + i ≡ m
    → AreZero (flat_map (λ e. drop_of ts e.0 e.1) (enumerate_from n bs)) v → is_among ts m ≡ false
    → share names v o m (get_or bs i None) ≡ pos 0
dropped names v o n ts [] i m e zeros out = refl
dropped names v o n ts (b ∷ bs) zero m e zeros out =
    let same : m ≡ n = omega (arith, e) in
    subst (λ z. share names v o z b ≡ pos 0) (sym same) (dropped_one names v o n ts b (All_left (λ g. dot g v ≡ pos 0)
    (drop_of ts n b) (flat_map (λ x. drop_of ts x.0 x.1) (enumerate_from (n + 1) bs)) zeros)
    (ap (is_among ts) (sym same) ∙ out))
dropped names v o n ts (b ∷ bs) (suc i) m e zeros out =
    dropped names v o (n + 1) ts bs i m (omega (arith, e)) (All_right (λ g. dot g v ≡ pos 0) (drop_of ts n b)
    (flat_map (λ x. drop_of ts x.0 x.1) (enumerate_from (n + 1) bs)) zeros) out

-- ---- tokens that are numbered anew

pub record NumberedAnew (names other : Naming) (v u : Vector) (bs : List (Option Form)) (w j c : ℕ) (ts : List ℕ)
    : Type 0 where
  pub objects : (i : ℕ) → i < length ts → other (j + i) ≡ names (get_or ts i 0)
  pub coordinates : (i : ℕ) → i < length ts → u (c + i) ≡ dot (form_or w (get_or bs (get_or ts i 0) None)) v
  pub live : All (IsLive bs) ts

share_live : (names other : Naming) (v u : Vector) (o w t j c m : ℕ) (b : Option Form) (f : Form) → b ≡ Some f
    → other j ≡ names t → u c ≡ dot (form_or w b) v → c < m
    → share other u o j (Some (unit m c)) ≡ share names v o t b
share_live names other v u o w t j c m b f is same at lt =
    ap (λ z. cond (other j == o) z (pos 0)) (dot_unit m c u lt ∙ at ∙ ap (λ z. dot (form_or w z) v) is)
    ∙ ap (λ z. cond (z == o) (dot f v) (pos 0)) same
    ∙ ap (share names v o t) (sym is)

pub numbered : (names other : Naming) (v u : Vector) (bs : List (Option Form)) (w o m j c : ℕ) (ts : List ℕ)
    → c + length ts ≤ m → NumberedAnew names other v u bs w j c ts
    → total_from j other (map (λ i. Some (unit m i)) (range_with_len c (length ts))) u o ≡ sum_of names v o bs ts
numbered names other v u bs w o m j c [] le new = refl
numbered names other v u bs w o m j c (t ∷ ts) le new =
    let live = All-head (IsLive bs) t ts new.live in
    let object : other j ≡ names t = ap other (omega arith) ∙ new.objects 0 (omega arith) in
    let coordinate : u c ≡ dot (form_or w (get_or bs t None)) v = ap u (omega arith)
    ∙ new.coordinates 0 (omega arith) in
    let p = share_live names other v u o w t j c m (get_or bs t None) live.0 live.1 object coordinate
    (omega (arith, le)) in
    let rest : NumberedAnew names other v u bs w (suc j) (c + 1) ts = record {
      objects = λ i lt. ap other (let z : suc j + i ≡ j + suc i = omega arith in z)
          ∙ new.objects (suc i) (omega (arith, lt));
      coordinates = λ i lt. ap u (let z : c + 1 + i ≡ c + suc i = omega arith in z)
          ∙ new.coordinates (suc i) (omega (arith, lt));
      live = All-tail (IsLive bs) t ts new.live;
    } in
    let q = numbered names other v u bs w o m (suc j) (c + 1) ts (omega (arith, le)) rest in
    omega (arith, ints, p, q)
