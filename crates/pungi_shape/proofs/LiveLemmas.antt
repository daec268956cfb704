-- No path needs to go through an instruction twice: what is read first on some path is read first on one that is no
-- longer than the code.
use Rattle.std.proofs.Common.{◌≡◌, ◌∙◌, ℕ, zero, suc, ◌+◌, ◌-◌, ◌<◌, ◌≤◌, ◌⊎◌, inl, inr, Bool, true, false, not, ◌&&◌}
use Rattle.std.proofs.Common.{◌==◌, List, [], ◌∷◌, length, get_or, refl, sym, ap, subst, arith, nat_lt, if◌then◌else◌}
use Rattle.std.proofs.Common.{◌||◌, None, slice_get}
use Rattle.std.proofs.lemmas.Option.{slice_get_past}
use Rattle.std.specs.List.{list_any}
use Rattle.pungi_code.specs.declared.code.Code.{Code}
use Rattle.pungi_code.specs.declared.instr.Instr.{Instr}
use Rattle.pungi_code.specs.declared.instr.Instr.TheVariants.{Fall}
use Rattle.pungi_shape.specs.declared.liveness.Liveness.{Liveness}
use Rattle.pungi_shape.specs.declared.point.Point.{Point}
use Rattle.pungi_shape.specs.Forms.{one_if}
use Rattle.pungi_shape.specs.Live.{HasRows, IsLive, IsLiveness, follows, in_rows}
use Rattle.pungi_shape.specs.Liveness.{instr_at, is_among, is_holder, passes, reads_first}
use Rattle.pungi_shape.specs.Parts.{following, reads, writes}

-- ---- tests

or_true : (a b : Bool) → (a || b) ≡ true → (a ≡ true) ⊎ (b ≡ true)
or_true true b h = inl refl
or_true false b h = inr h

and_true : (a b : Bool) → (a && b) ≡ true → (a ≡ true) × (b ≡ true)
and_true true b h = (refl, h)
and_true false b h = cc

or_left : (a b : Bool) → a ≡ true → (a || b) ≡ true
or_left a b h = rw h refl

or_right : (a b : Bool) → b ≡ true → (a || b) ≡ true
or_right true b h = refl
or_right false b h = h

both_true : (a b : Bool) → a ≡ true → b ≡ true → (a && b) ≡ true
both_true a b h g = rw (h, g) refl

pub any_here : (f : ℕ → Bool) (qs : List ℕ) → list_any f qs ≡ true
    → (q : ℕ) × (f q ≡ true) × (list_any (λ y. y == q) qs ≡ true)
any_here f [] h = cc
any_here f (q ∷ qs) h =
    elim (or_true (f q) (list_any f qs) h) [
      | inl a ↦ (q, a, or_left (q == q) (list_any (λ y. y == q) qs) (grind arith))
      | inr b ↦ let r = any_here f qs b in (r.0, r.1, or_right (q == r.0) (list_any (λ y. y == r.0) qs) r.2)
    ]

any_there : (f : ℕ → Bool) (qs : List ℕ) (p : ℕ) → f p ≡ true → list_any (λ y. y == p) qs ≡ true → list_any f qs ≡ true
any_there f [] p t h = cc
any_there f (q ∷ qs) p t h =
    elim (or_true (q == p) (list_any (λ y. y == p) qs) h) [
      | inl a ↦ or_left (f q) (list_any f qs) (let e : q ≡ p = grind (arith, a) in rw e t)
      | inr b ↦ or_right (f q) (list_any f qs) (any_there f qs p t b)
    ]

-- ---- what passes

-- it is read, or passed on
pub passes_cases : (f : ℕ → Bool) (x pc : ℕ) (i : Instr) (n : ℕ) → passes f x pc i n ≡ true
    → (is_among (reads i n) x ≡ true)
    ⊎ ((not (is_among (writes i n) x) ≡ true) × (list_any f (following pc i) ≡ true))
passes_cases f x pc i n h =
    elim (or_true (is_among (reads i n) x) (not (is_among (writes i n) x) && list_any f (following pc i)) h) [
      | inl a ↦ inl a
      | inr b ↦ inr (and_true (not (is_among (writes i n) x)) (list_any f (following pc i)) b)
    ]

pub passes_read : (f : ℕ → Bool) (x pc : ℕ) (i : Instr) (n : ℕ) → is_among (reads i n) x ≡ true
    → passes f x pc i n ≡ true
passes_read f x pc i n h =
    or_left (is_among (reads i n) x) (not (is_among (writes i n) x) && list_any f (following pc i)) h

pub passes_on : (f : ℕ → Bool) (x pc : ℕ) (i : Instr) (n q : ℕ) → not (is_among (writes i n) x) ≡ true → f q ≡ true
    → list_any (λ y. y == q) (following pc i) ≡ true → passes f x pc i n ≡ true
passes_on f x pc i n q w t h =
    or_right (is_among (reads i n) x) (not (is_among (writes i n) x) && list_any f (following pc i))
    (both_true (not (is_among (writes i n) x)) (list_any f (following pc i)) w (any_there f (following pc i) q t h))

pub passes_more : (f g : ℕ → Bool) (x pc : ℕ) (i : Instr) (n : ℕ) → ((q : ℕ) → f q ≡ true → g q ≡ true)
    → passes f x pc i n ≡ true → passes g x pc i n ≡ true
passes_more f g x pc i n m h =
    elim (passes_cases f x pc i n h) [
      | inl a ↦ passes_read g x pc i n a
      | inr b ↦ let r = any_here f (following pc i) b.1 in passes_on g x pc i n r.0 b.0 (m r.0 r.1) r.2
    ]

-- ---- longer paths

reads_more : (code : Code) (n x pc : ℕ) → reads_first code n x pc ≡ true → reads_first code (suc n) x pc ≡ true
reads_more code zero x pc h = cc
reads_more code (suc n) x pc h =
    passes_more (reads_first code n x) (reads_first code (suc n) x) x pc (instr_at code pc) 0
    (λ q t. reads_more code n x q t) h

reads_longer : (code : Code) (k n x pc : ℕ) → reads_first code n x pc ≡ true → reads_first code (k + n) x pc ≡ true
reads_longer code zero n x pc h = (let e : 0 + n ≡ n = omega arith in rw e h)
reads_longer code (suc k) n x pc h =
    let e : suc k + n ≡ suc (k + n) = omega arith in
    let t : reads_first code (suc (k + n)) x pc ≡ true = reads_more code (k + n) x pc (reads_longer code k n x pc h) in
    subst (λ m. reads_first code m x pc ≡ true) (sym e) t

instr_past : (code : Code) (pc : ℕ) → length code.instrs ≤ pc → instr_at code pc ≡ Fall
instr_past code pc h = (let e : slice_get code.instrs pc ≡ None = slice_get_past code.instrs pc h in rw e refl)

-- nothing is read past the end
pub reads_past : (code : Code) (n x pc : ℕ) → length code.instrs ≤ pc → reads_first code n x pc ≡ false
reads_past code zero x pc h = refl
reads_past code (suc n) x pc h = rw (instr_past code pc h) refl

-- ---- no path is longer than the code

abbrev IsStable : Code → ℕ → ℕ → Type 0
IsStable code x n = (q : ℕ) → reads_first code (suc n) x q ≡ true → reads_first code n x q ≡ true

stable_all : (code : Code) (x n : ℕ) → IsStable code x n → (m q : ℕ) → reads_first code m x q ≡ true
    → reads_first code n x q ≡ true
stable_all code x n s zero q h = cc
stable_all code x n s (suc m) q h =
    s q (passes_more (reads_first code m x) (reads_first code n x) x q (instr_at code q) 0
    (λ p t. stable_all code x n s m p t) h)

pub lt_or_is : (q n : ℕ) → q < suc n → (q < n) ⊎ (q ≡ n)
lt_or_is zero zero lt = inr refl
lt_or_is zero (suc n) lt = inl (omega arith)
lt_or_is (suc q) zero lt = absurd (omega (arith, lt))
lt_or_is (suc q) (suc n) lt =
    elim (lt_or_is q n (omega (arith, lt))) [ inl l ↦ inl (omega (arith, l)) | inr i ↦ inr (omega (arith, i)) ]

search_below : (f g : ℕ → Bool) (n : ℕ)
    → ((q : ℕ) → q < n → f q ≡ true → g q ≡ true) ⊎ ((q : ℕ) × (q < n) × (f q ≡ true) × (g q ≡ false))
search_below f g zero = inl (λ q lt. absurd (omega (arith, lt)))
search_below f g (suc n) =
    elim (search_below f g n) [
      | inl all ↦ go (f n) refl (g n) refl all
      | inr r ↦ inr (r.0, omega (arith, r.1), r.2, r.3)
    ]
  where
    go : (a : Bool) → f n ≡ a → (b : Bool) → g n ≡ b → ((q : ℕ) → q < n → f q ≡ true → g q ≡ true)
        → ((q : ℕ) → q < suc n → f q ≡ true → g q ≡ true) ⊎ ((q : ℕ) × (q < suc n) × (f q ≡ true) × (g q ≡ false))
    go true e false k all = inr (n, omega arith, e, k)
    go true e true k all =
        inl (λ q lt t. elim (lt_or_is q n lt) [ inl l ↦ all q l t | inr i ↦ rw i k ])
    go false e b k all =
        inl (λ q lt t. elim (lt_or_is q n lt) [ inl l ↦ all q l t | inr i ↦ let u : f n ≡ true = rw (← i) t in cc ])

abbrev count_below : (ℕ → Bool) → ℕ → ℕ
count_below f zero = 0
count_below f (suc n) = count_below f n + one_if (f n)

one_more : (f g : ℕ → Bool) (n : ℕ) → ((q : ℕ) → g q ≡ true → f q ≡ true) → (b : Bool) → g n ≡ b
    → one_if (g n) ≤ one_if (f n)
one_more f g n m true e = rw (e, m n e) (omega arith)
one_more f g n m false e = rw e (omega arith)

count_more : (f g : ℕ → Bool) (n : ℕ) → ((q : ℕ) → g q ≡ true → f q ≡ true) → count_below g n ≤ count_below f n
count_more f g zero m = omega arith
count_more f g (suc n) m =
    (let h = count_more f g n m in let b = one_more f g n m (g n) refl in omega (arith, h, b))

count_strict : (f g : ℕ → Bool) (n q : ℕ) → ((q : ℕ) → g q ≡ true → f q ≡ true) → q < n → f q ≡ true → g q ≡ false
    → count_below g n < count_below f n
count_strict f g zero q m lt t e = absurd (omega (arith, lt))
count_strict f g (suc n) q m lt t e = go (q == n) refl (λ l. count_strict f g n q m l t e)
  where
    go : (b : Bool) → (q == n) ≡ b → (q < n → count_below g n < count_below f n)
        → count_below g (suc n) < count_below f (suc n)
    go true i more =
        let s : n ≡ q = grind (arith, i) in
        let h = count_more f g n m in
        let a : one_if (f n) ≡ 1 = rw (s, t) refl in
        let b : one_if (g n) ≡ 0 = rw (s, e) refl in
        omega (arith, h, a, b)
    go false i more =
        let l : q < n = grind (arith, i, lt) in
        let h = more l in
        let b = one_more f g n m (g n) refl in
        omega (arith, h, b)

count_within : (f : ℕ → Bool) (n : ℕ) → count_below f n ≤ n
count_within f zero = omega arith
count_within f (suc n) = (let h = count_within f n in let b = one_within (f n) in omega (arith, h, b))
  where
    one_within : (b : Bool) → one_if b ≤ 1
    one_within true = omega arith
    one_within false = omega arith

pub within_or_past : (m n : ℕ) → (m < n) ⊎ (n ≤ m)
within_or_past m zero = inr (omega arith)
within_or_past zero (suc n) = inl (omega arith)
within_or_past (suc m) (suc n) =
    elim (within_or_past m n) [ inl h ↦ inl (omega (arith, h)) | inr h ↦ inr (omega (arith, h)) ]

decide_stable : (code : Code) (x n : ℕ)
    → IsStable code x n ⊎ ((q : ℕ) × (q < length code.instrs) × (reads_first code (suc n) x q ≡ true)
    × (reads_first code n x q ≡ false))
decide_stable code x n =
    elim (search_below (reads_first code (suc n) x) (reads_first code n x) (length code.instrs)) [
      | inl all ↦ inl (λ q t. elim (within_or_past q (length code.instrs)) [
        | inl lt ↦ all q lt t
        | inr ge ↦ let f = reads_past code (suc n) x q ge in absurd (let g : true ≡ false = sym t ∙ f in cc)
      ])
      | inr r ↦ inr r
    ]

rank : (code : Code) (x n : ℕ)
    → ((k : ℕ) × (k < n) × IsStable code x k) ⊎ (n ≤ count_below (reads_first code n x) (length code.instrs))
rank code x zero = inr (omega arith)
rank code x (suc n) =
    elim (rank code x n) [
      | inl r ↦ inl (r.0, omega (arith, r.1), r.2)
      | inr h ↦ elim (decide_stable code x n) [
        | inl s ↦ inl (n, omega arith, s)
        | inr r ↦
            let c = count_strict (reads_first code (suc n) x) (reads_first code n x) (length code.instrs) r.0
            (λ q t. reads_more code n x q t) r.1 r.2 r.3 in
            inr (omega (arith, h, c))
      ]
    ]

pub no_longer : (code : Code) (n x pc : ℕ) → reads_first code n x pc ≡ true
    → reads_first code (length code.instrs) x pc ≡ true
no_longer code n x pc h =
    elim (rank code x (suc (length code.instrs))) [
      | inl r ↦
          let t = stable_all code x r.0 r.2 n pc h in
          let e : (length code.instrs - r.0) + r.0 ≡ length code.instrs = omega (arith, r.1) in
          rw e at (reads_longer code (length code.instrs - r.0) r.0 x pc t)
      | inr c ↦
          let w = count_within (reads_first code (suc (length code.instrs)) x) (length code.instrs) in
          absurd (omega (arith, c, w))
    ]

-- ---- what is stored

pub passes_live : (code : Code) (f : ℕ → Bool) (j pc : ℕ) → ((q : ℕ) → f q ≡ true → IsLive code q j)
    → passes f (code.locals + j) pc (instr_at code pc) 0 ≡ true → IsLive code pc j
passes_live code f j pc live h =
    elim (passes_cases f (code.locals + j) pc (instr_at code pc) 0 h) [
      | inl a ↦ (1, passes_read (reads_first code 0 (code.locals + j)) (code.locals + j) pc (instr_at code pc) 0 a)
      | inr b ↦
          let r = any_here f (following pc (instr_at code pc)) b.1 in
          let l = live r.0 r.1 in (
            suc l.0,
            passes_on (reads_first code l.0 (code.locals + j)) (code.locals + j) pc (instr_at code pc) 0 r.0
                b.0 l.1 r.2,
          )
    ]

-- so many steps are looked at
abbrev pub IsFound : Code → List (List Bool) → ℕ → Type 0
IsFound code rows n =
    (pc j : ℕ) → pc < length code.instrs → code.locals + j < length code.vars
    → reads_first code n (code.locals + j) pc ≡ true → in_rows rows pc j ≡ true

abbrev pub AreLive : Code → List (List Bool) → Type 0
AreLive code rows = (q j : ℕ) → in_rows rows q j ≡ true → IsLive code q j

pub found_none : (code : Code) (rows : List (List Bool)) → IsFound code rows 0
found_none code rows pc j lt v h = cc

pub found_more : (code : Code) (old new : List (List Bool)) (n : ℕ) → IsFound code old n
    → ((pc j : ℕ) → pc < length code.instrs → code.locals + j < length code.vars → follows code old pc j ≡ true
    → in_rows new pc j ≡ true) → IsFound code new (suc n)
found_more code old new n f found pc j lt v h =
    found pc j lt v (passes_more (reads_first code n (code.locals + j)) (λ q. in_rows old q j) (code.locals + j) pc
    (instr_at code pc) 0 (λ q t. elim (within_or_past q (length code.instrs)) [
      | inl l ↦ f q j l v t
      | inr ge ↦ let e = reads_past code n (code.locals + j) q ge in absurd (let g : true ≡ false = sym t ∙ e in cc)
    ]) h)

-- nothing more is found
pub found_all : (code : Code) (rows : List (List Bool))
    → ((pc j : ℕ) → pc < length code.instrs → code.locals + j < length code.vars → follows code rows pc j ≡ true
    → in_rows rows pc j ≡ true) → (n : ℕ) → IsFound code rows n
found_all code rows found zero = found_none code rows
found_all code rows found (suc n) = found_more code rows rows n (found_all code rows found n) found

same_test : (a b : Bool) → (a ≡ true → b ≡ true) → (b ≡ true → a ≡ true) → a ≡ b
same_test true b f g = sym (f refl)
same_test false true f g = g refl
same_test false false f g = refl

pub liveness_of : (code : Code) (live : Liveness) → HasRows code live.rows → AreLive code live.rows
    → IsFound code live.rows (length code.instrs) → IsLiveness code live
liveness_of code live h l f = record {
  has = h;
  lives = λ pc j lt v. same_test (in_rows live.rows pc j)
      (reads_first code (length code.instrs) (code.locals + j) pc)
      (λ t. let r = l pc j t in no_longer code r.0 (code.locals + j) pc r.1)
      (λ t. f pc j lt v t);
}

-- ---- holders

any_same : (f g : ℕ → Bool) (qs : List ℕ) → ((q : ℕ) → f q ≡ g q) → list_any f qs ≡ list_any g qs
any_same f g [] h = refl
any_same f g (q ∷ qs) h = rw (h q, any_same f g qs h) refl

passes_same : (f g : ℕ → Bool) (x pc : ℕ) (i : Instr) (n : ℕ) → ((q : ℕ) → f q ≡ g q)
    → passes f x pc i n ≡ passes g x pc i n
passes_same f g x pc i n h =
    ap (λ b. is_among (reads i n) x || (not (is_among (writes i n) x) && b)) (any_same f g (following pc i) h)

get_or_past : {X : Type 0} (xs : List X) (i : ℕ) (d : X) → length xs ≤ i → get_or xs i d ≡ d
get_or_past [] i d h = refl
get_or_past (x ∷ xs) zero d h = absurd (omega (arith, h))
get_or_past (x ∷ xs) (suc i) d h = get_or_past xs i d (omega (arith, h))

row_same : (code : Code) (live : Liveness) (x q : ℕ) → IsLiveness code live → code.locals ≤ x → x < length code.vars
    → in_rows live.rows q (x - code.locals) ≡ reads_first code (length code.instrs) x q
row_same code live x q h le lt =
    elim (within_or_past q (length code.instrs)) [
      | inl l ↦
          let e : code.locals + (x - code.locals) ≡ x = omega (arith, le) in
          rw e at (h.lives q (x - code.locals) l (omega (arith, e, lt)))
      | inr ge ↦
          let n : length live.rows ≤ q = omega (arith, h.has.count, ge) in
          let r : get_or live.rows q [] ≡ [] = get_or_past live.rows q [] n in
          rw (r, reads_past code (length code.instrs) x q ge) refl
    ]

pub holder_there : (code : Code) (live : Liveness) (p : Point) (x : ℕ) → IsLiveness code live → code.locals ≤ x
    → x < length code.vars
    → passes (λ q. in_rows live.rows q (x - code.locals)) x p.instr (instr_at code p.instr) p.done ≡ is_holder code p x
holder_there code live p x h le lt =
    let n : nat_lt x code.locals ≡ false = grind (arith, le) in
    rw n (passes_same (λ q. in_rows live.rows q (x - code.locals)) (reads_first code (length code.instrs) x) x p.instr
    (instr_at code p.instr) p.done (λ q. row_same code live x q h le lt))

-- the row of an instruction says what is live before its first part
reads_longest : (code : Code) (x pc : ℕ)
    → reads_first code (length code.instrs) x pc ≡ reads_first code (suc (length code.instrs)) x pc
reads_longest code x pc =
    same_test (reads_first code (length code.instrs) x pc) (reads_first code (suc (length code.instrs)) x pc)
    (reads_more code (length code.instrs) x pc) (no_longer code (suc (length code.instrs)) x pc)

pub holder_before : (code : Code) (live : Liveness) (p : Point) (x : ℕ) → IsLiveness code live → code.locals ≤ x
    → x < length code.vars → p.done ≡ 0 → in_rows live.rows p.instr (x - code.locals) ≡ is_holder code p x
holder_before code live p x h le lt z =
    let n : nat_lt x code.locals ≡ false = grind (arith, le) in
    rw (n, z) (row_same code live x p.instr h le lt ∙ reads_longest code x p.instr)

pub holder_past : (code : Code) (p : Point) (x : ℕ) → code.locals ≤ x → length code.instrs ≤ p.instr
    → false ≡ is_holder code p x
holder_past code p x le ge =
    let n : nat_lt x code.locals ≡ false = grind (arith, le) in
    rw (n, instr_past code p.instr ge) (go p.done)
  where
    none : (b : Bool) → false ≡ (b && false)
    none true = refl
    none false = refl

    go : (n : ℕ) → false ≡ passes (reads_first code (length code.instrs) x) x p.instr Fall n
    go zero = none (not (is_among (writes Fall 0) x))
    go (suc n) = pick (nat_lt (suc n) 1)
      where
        pick : (b : Bool)
            → false ≡ (is_among (if b then [] else []) x || (not (is_among (writes Fall (suc n)) x) && false))
        pick true = none (not (is_among (writes Fall (suc n)) x))
        pick false = none (not (is_among (writes Fall (suc n)) x))
