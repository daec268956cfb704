-- Sweeps of the rows of what is read first: what one row keeps and finds, and all of them.
use Rattle.std.proofs.Common.{◌≡◌, ◌∙◌, ℕ, zero, suc, ◌+◌, ◌-◌, ◌<◌, ◌≤◌, ◌⊎◌, inl, inr, Bool, true, false, List, []}
use Rattle.std.proofs.Common.{◌∷◌, length, get_or, refl, sym, ap, arith}
use Rattle.std.proofs.Math.ListN.{set}
use Rattle.pungi_code.specs.declared.code.Code.{Code}
use Rattle.pungi_shape.specs.Live.{HasRows, IsSweptAt, follows, in_rows}
use Rattle.pungi_shape.specs.Liveness.{instr_at, passes}
use Rattle.pungi_shape.proofs.LiveLemmas.{AreLive, lt_or_is, passes_live, passes_more}

-- ---- one row

pub record IsSweeping (code : Code) (pc : ℕ) (old rows : List (List Bool)) (j : ℕ) (grows : Bool) : Type 0 where
  pub has : HasRows code rows
  pub kept : (q k : ℕ) → in_rows old q k ≡ true → in_rows rows q k ≡ true
  pub live : AreLive code old → AreLive code rows
  pub found : (k : ℕ) → k < j → code.locals + k < length code.vars → follows code old pc k ≡ true
      → in_rows rows pc k ≡ true
  pub same : grows ≡ false → rows ≡ old

pub sweeping_start : (code : Code) (pc : ℕ) (rows : List (List Bool)) → HasRows code rows
    → IsSweeping code pc rows rows 0 false
sweeping_start code pc rows h = record {
  has = h;
  kept = λ q k t. t;
  live = λ l. l;
  found = λ k lt. absurd (omega (arith, lt));
  same = λ e. refl;
}

one_more_found : (code : Code) (pc : ℕ) (old rows : List (List Bool)) (j : ℕ)
    → ((k : ℕ) → k < j → code.locals + k < length code.vars → follows code old pc k ≡ true → in_rows rows pc k ≡ true)
    → (follows code old pc j ≡ true → in_rows rows pc j ≡ true)
    → (k : ℕ) → k < j + 1 → code.locals + k < length code.vars → follows code old pc k ≡ true → in_rows rows pc k ≡ true
one_more_found code pc old rows j f here k lt v t =
    elim (lt_or_is k j (omega (arith, lt))) [
      | inl l ↦ f k l v t
      | inr e ↦ rw e (here (rw e at t))
    ]

-- it is there already, or doesn't follow
pub sweeping_none : (code : Code) (pc : ℕ) (old rows : List (List Bool)) (j : ℕ) (grows : Bool)
    → IsSweeping code pc old rows j grows → (in_rows rows pc j ≡ true) ⊎ (follows code rows pc j ≡ false)
    → IsSweeping code pc old rows (j + 1) grows
sweeping_none code pc old rows j grows s none = record {
  has = s.has;
  kept = s.kept;
  live = s.live;
  found = one_more_found code pc old rows j s.found (λ t. elim none [
    | inl here ↦ here
    | inr not_so ↦
        let u = passes_more (λ q. in_rows old q j) (λ q. in_rows rows q j) (code.locals + j) pc (instr_at code pc) 0
        (λ q v. s.kept q j v) t in
        absurd (let g : true ≡ false = sym u ∙ not_so in cc)
  ]);
  same = s.same;
}

get_or_set : {X : Type 0} (xs : List X) (i q : ℕ) (x d : X)
    → (get_or (set xs i x) q d ≡ get_or xs q d) ⊎ ((q ≡ i) × (i < length xs))
get_or_set [] i q x d = inl refl
get_or_set (y ∷ xs) zero zero x d = inr (refl, omega arith)
get_or_set (y ∷ xs) zero (suc q) x d = inl refl
get_or_set (y ∷ xs) (suc i) zero x d = inl refl
get_or_set (y ∷ xs) (suc i) (suc q) x d =
    elim (get_or_set xs i q x d) [ inl e ↦ inl e | inr e ↦ inr (omega (arith, e.0), omega (arith, e.1)) ]

get_or_there : {X : Type 0} (xs : List X) (i : ℕ) (x d : X) → i < length xs → get_or (set xs i x) i d ≡ x
get_or_there [] i x d lt = absurd (omega arith)
get_or_there (y ∷ xs) zero x d lt = refl
get_or_there (y ∷ xs) (suc i) x d lt = get_or_there xs i x d (omega (arith, lt))

length_set : {X : Type 0} (xs : List X) (i : ℕ) (x : X) → length (set xs i x) ≡ length xs
length_set [] i x = refl
length_set (y ∷ xs) zero x = refl
length_set (y ∷ xs) (suc i) x = (let h = length_set xs i x in omega (arith, h))

set_row : (rows : List (List Bool)) (pc j q k : ℕ)
    → (in_rows (set rows pc (set (get_or rows pc []) j true)) q k ≡ in_rows rows q k)
    ⊎ ((q ≡ pc) × (k ≡ j))
set_row rows pc j q k =
    elim (get_or_set rows pc q (set (get_or rows pc []) j true) []) [
      | inl e ↦ inl (ap (λ row. get_or row k false) e)
      | inr e ↦ elim (get_or_set (get_or rows pc []) j k true false) [
        | inl f ↦ inl (rw (e.0, get_or_there rows pc (set (get_or rows pc []) j true) [] e.1) f)
        | inr f ↦ inr (e.0, f.0)
      ]
    ]

set_here : (rows : List (List Bool)) (pc j : ℕ) → pc < length rows → j < length (get_or rows pc [])
    → in_rows (set rows pc (set (get_or rows pc []) j true)) pc j ≡ true
set_here rows pc j lt l =
    ap (λ row. get_or row j false) (get_or_there rows pc (set (get_or rows pc []) j true) [] lt)
    ∙ get_or_there (get_or rows pc []) j true false l

set_has : (code : Code) (rows : List (List Bool)) (pc j : ℕ) → HasRows code rows
    → HasRows code (set rows pc (set (get_or rows pc []) j true))
set_has code rows pc j h = record {
  count = length_set rows pc (set (get_or rows pc []) j true) ∙ h.count;
  columns = λ q lt. elim (get_or_set rows pc q (set (get_or rows pc []) j true) []) [
    | inl e ↦ ap length e ∙ h.columns q lt
    | inr e ↦
        let there = get_or_there rows pc (set (get_or rows pc []) j true) [] e.1 in
        let n = length_set (get_or rows pc []) j true in
        let l : pc < length code.instrs = rw e.0 at lt in
        rw (e.0, there, n) (h.columns pc l)
  ];
}

pub sweeping_found : (code : Code) (pc : ℕ) (old rows : List (List Bool)) (j : ℕ) (grows : Bool)
    → IsSweeping code pc old rows j grows → pc < length rows → j < length (get_or rows pc [])
    → follows code rows pc j ≡ true
    → IsSweeping code pc old (set rows pc (set (get_or rows pc []) j true)) (j + 1) true
sweeping_found code pc old rows j grows s lt l f =
    let here = set_here rows pc j lt l in
    let stays : (q k : ℕ) → in_rows rows q k ≡ true
    → in_rows (set rows pc (set (get_or rows pc []) j true)) q k ≡ true = λ q k t. elim (set_row rows pc j q k) [
      | inl e ↦ e ∙ t
      | inr e ↦ rw (e.0, e.1) here
    ] in
    record {
      has = set_has code rows pc j s.has;
      kept = λ q k t. stays q k (s.kept q k t);
      live = λ a q k t. elim (set_row rows pc j q k) [
        | inl e ↦ s.live a q k (sym e ∙ t)
        | inr e ↦ rw (e.0, e.1) (passes_live code (λ p. in_rows rows p j) j pc (λ p u. s.live a p j u) f)
      ];
      found = one_more_found code pc old _ j (λ k m v t. stays pc k (s.found k m v t)) (λ t. here);
      same = λ e. absurd (let g : true ≡ false = e in cc);
    }

pub row_is : (rows : List (List Bool)) (pc : ℕ) (row : List Bool) → pc < length rows → row ≡ get_or rows pc row
    → row ≡ get_or rows pc []
row_is [] pc row lt e = absurd (omega (arith, lt))
row_is (r ∷ rows) zero row lt e = e
row_is (r ∷ rows) (suc pc) row lt e = row_is rows pc row (omega (arith, lt)) e

pub follows_is : (code : Code) (rows : List (List Bool)) (pc j : ℕ) (b : Bool)
    → b ≡ passes (λ q. in_rows rows q ((code.locals + j) - code.locals)) (code.locals + j) pc (instr_at code pc) 0
    → follows code rows pc j ≡ b
follows_is code rows pc j b e =
    let s : (code.locals + j) - code.locals ≡ j = omega arith in sym (rw s at e)

-- ---- all instructions, from the last to the first

pub record AreSwept (code : Code) (old rows : List (List Bool)) (pc : ℕ) (grows : Bool) : Type 0 where
  pub has : HasRows code rows
  pub kept : (q j : ℕ) → in_rows old q j ≡ true → in_rows rows q j ≡ true
  pub live : AreLive code old → AreLive code rows
  pub found : (q j : ℕ) → pc ≤ q → q < length code.instrs → code.locals + j < length code.vars
      → follows code old q j ≡ true → in_rows rows q j ≡ true
  pub same : grows ≡ false → rows ≡ old

pub swept_start : (code : Code) (rows : List (List Bool)) (pc : ℕ) → HasRows code rows → length code.instrs ≤ pc
    → AreSwept code rows rows pc false
swept_start code rows pc h le = record {
  has = h;
  kept = λ q j t. t;
  live = λ l. l;
  found = λ q j ge lt. absurd (omega (arith, ge, lt, le));
  same = λ e. refl;
}

start_or_later : (pc q : ℕ) → pc ≤ q → (pc ≡ q) ⊎ (pc + 1 ≤ q)
start_or_later zero zero le = inl refl
start_or_later zero (suc q) le = inr (omega arith)
start_or_later (suc pc) zero le = absurd (omega (arith, le))
start_or_later (suc pc) (suc q) le =
    elim (start_or_later pc q (omega (arith, le))) [ inl e ↦ inl (omega (arith, e)) | inr h ↦ inr (omega (arith, h)) ]

pub swept_more : (code : Code) (old rows after : List (List Bool)) (pc : ℕ) (grows more all : Bool)
    → AreSwept code old rows (pc + 1) grows → HasRows code after → IsSweptAt code pc rows after more
    → (all ≡ false → (grows ≡ false) × (more ≡ false)) → AreSwept code old after pc all
swept_more code old rows after pc grows more all s h a none = record {
  has = h;
  kept = λ q j t. a.kept q j (s.kept q j t);
  live = λ l. a.live (s.live l);
  found = λ q j ge lt v t. elim (start_or_later pc q ge) [
    | inl e ↦
        let u : follows code old pc j ≡ true = rw e t in
        let w = passes_more (λ p. in_rows old p j) (λ p. in_rows rows p j) (code.locals + j) pc (instr_at code pc) 0
        (λ p x. s.kept p j x) u in
        rw (← e) (a.found j v w)
    | inr later ↦ a.kept q j (s.found q j later lt v t)
  ];
  same = λ e. (let n = none e in a.same n.1 ∙ s.same n.0);
}
