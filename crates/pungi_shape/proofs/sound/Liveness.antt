-- A variable that is no holder before a part and isn't written by it is none after it; and what a part reads is set.
--   IsRead o x              a variable holds a value
--   Implies n p q           below n, what passes the first test passes the second
--   hits p n                how many numbers below n pass a test
--   Settles code n x        one more instruction reaches no more reads; or n + 1 instructions have a read before them
use Rattle.std.proofs.Common.{◌≡◌, ◌⊎◌, inl, inr, ℕ, zero, suc, ◌+◌, ◌<◌, ◌≤◌, Bool, true, false, cond, ◌&&◌, ◌||◌, not}
use Rattle.std.proofs.Common.{List, [], ◌∷◌, ◌++◌, length, get_or, refl, sym, ap, ◌∙◌, subst, arith, add-one, ltb}
use Rattle.std.specs.Prelude.{◌==◌, nat_lt}
use Rattle.std.specs.List.{IsAmong, list_any, list_all}
use Rattle.std.proofs.lemmas.Bool.{lt-ltb, eq-eqb, false≢true}
use Rattle.std.proofs.lemmas.Bool.Decides.{leb_tells, eqb_tells}
use Rattle.std.proofs.lemmas.Option.{slice_get_past}
use Rattle.pungi_base.specs.declared.value.Value.{Value}
use Rattle.pungi_domain.specs.Vectors.{Vector}
use Rattle.pungi_api.specs.declared.call_answer.CallAnswer.{CallAnswer}
use Rattle.pungi_api.specs.declared.call_answer.CallAnswer.TheVariants.{Of, Argument}
use Rattle.pungi_world.specs.declared.content.Content.{Content}
use Rattle.pungi_world.specs.declared.content.Content.TheVariants.{Holds}
use Rattle.pungi_meaning.specs.Work.{content_at}
use Rattle.pungi_code.specs.declared.atom.Atom.{Atom}
use Rattle.pungi_code.specs.declared.atom.Atom.TheVariants as atom
use Rattle.pungi_code.specs.declared.code.Code.{Code}
use Rattle.pungi_code.specs.declared.instr.Instr.{Instr}
use Rattle.pungi_code.specs.declared.instr.Instr.TheVariants.{Load, Store, Api, Call, Fall}
use Rattle.pungi_shape.specs.declared.holding.Holding.{Holding}
use Rattle.pungi_shape.specs.declared.holding.Holding.TheVariants.{Dead, Unset, Null, Text, Known, Number, Token}
use Rattle.pungi_shape.specs.declared.point.Point.{Point}
use Rattle.pungi_shape.specs.declared.shape.Shape.{Shape}
use Rattle.pungi_shape.specs.Forms.{one_if}
use Rattle.pungi_shape.specs.Parts.{maps, vars_in, vars_in_all, all_reads, kept_argument, reads_later, reads, written}
use Rattle.pungi_shape.specs.Parts.{writes, following}
use Rattle.pungi_shape.specs.Liveness.{is_among, instr_of, instr_at, passes, reads_first, is_live, is_holder}
use Rattle.pungi_shape.specs.Scenes.{scene_of, holding_at}
use Rattle.pungi_shape.specs.Cases.{holds_something, is_set, are_set}
use Rattle.pungi_shape.specs.Edges.{point_of, part_done}
use Rattle.pungi_shape.specs.Described.{Naming, HoldsSo}
use Rattle.pungi_shape.proofs.sound.Views.{View}
use Rattle.pungi_shape.proofs.sound.Flow.{Claim}
use Rattle.pungi_shape.proofs.sound.Stands.{StandsAs, done_writes}
use Rattle.pungi_shape.proofs.sound.Tests.{or_false}

-- ---- tests

or_both : (a b : Bool) → a ≡ false → b ≡ false → (a || b) ≡ false
or_both true b e f = absurd (cc)
or_both false b e f = f

any_true : (a b : Bool) → b ≡ true → (a || b) ≡ true
any_true true b e = refl
any_true false b e = e

or_mono : (a b c d : Bool) → (a ≡ true → c ≡ true) → (b ≡ true → d ≡ true) → (a || b) ≡ true → (c || d) ≡ true
or_mono true b true d f g e = refl
or_mono true b false d f g e = absurd (let h = f refl in cc)
or_mono false b true d f g e = refl
or_mono false b false d f g e = g e

and_mono : (w a b : Bool) → (a ≡ true → b ≡ true) → (w && a) ≡ true → (w && b) ≡ true
and_mono true a b f e = f e
and_mono false a b f e = e

list_any_mono : {X : Type 0} (f g : X → Bool) (xs : List X) → ((x : X) → f x ≡ true → g x ≡ true)
    → list_any f xs ≡ true → list_any g xs ≡ true
list_any_mono f g [] h e = e
list_any_mono f g (x ∷ xs) h e =
    or_mono (f x) (list_any f xs) (g x) (list_any g xs) (h x) (list_any_mono f g xs h) e

passes_mono : (f g : ℕ → Bool) (x pc : ℕ) (i : Instr) (n : ℕ) → ((k : ℕ) → f k ≡ true → g k ≡ true)
    → passes f x pc i n ≡ true → passes g x pc i n ≡ true
passes_mono f g x pc i n h e =
    let a = is_among (reads i n) x in
    let w = not (is_among (writes i n) x) in
    let l = list_any f (following pc i) in
    let m = list_any g (following pc i) in
    or_mono a (w && l) a (w && m) (λ t. t)
    (λ t. and_mono w l m (list_any_mono f g (following pc i) h) t) e

-- ---- counts of numbers that pass a test

abbrev Implies : ℕ → (ℕ → Bool) → (ℕ → Bool) → Type 0
Implies n p q = (k : ℕ) → k < n → p k ≡ true → q k ≡ true

abbrev hits : (ℕ → Bool) → ℕ → ℕ
hits p zero = 0
hits p (suc n) = one_if (p n) + hits p n

one_bound : (b : Bool) → one_if b ≤ 1
one_bound true = omega arith
one_bound false = omega arith

one_grows : (a b : Bool) → (a ≡ true → b ≡ true) → one_if a ≤ one_if b
one_grows true true f = omega arith
one_grows true false f = absurd (let h = f refl in cc)
one_grows false true f = omega arith
one_grows false false f = omega arith

one_back : (a b : Bool) → one_if b ≤ one_if a → b ≡ true → a ≡ true
one_back true b le e = refl
one_back false true le e = absurd (omega (arith, le))
one_back false false le e = absurd (cc)

hits_bound : (p : ℕ → Bool) (n : ℕ) → hits p n ≤ n
hits_bound p zero = omega arith
hits_bound p (suc n) = omega (arith, one_bound (p n), hits_bound p n)

hits_grow : (p q : ℕ → Bool) (n : ℕ) → Implies n p q → hits p n ≤ hits q n
hits_grow p q zero h = omega arith
hits_grow p q (suc n) h =
    omega (arith, one_grows (p n) (q n) (h n (omega arith)), hits_grow p q n (λ k lt. h k (omega (arith, lt))))

hits_back : (p q : ℕ → Bool) (n : ℕ) → Implies n p q → hits q n ≤ hits p n → Implies n q p
hits_back p q zero h le k lt = absurd (omega (arith, lt))
hits_back p q (suc n) h le k lt =
    let here = one_grows (p n) (q n) (h n (omega arith)) in
    let rest = hits_grow p q n (λ j s. h j (omega (arith, s))) in
    elim (eqb_tells k n) [
      | inl e ↦ λ t. subst (λ j. p j ≡ true) (sym e.1)
          (one_back (p n) (q n) (omega (arith, le, here, rest)) (subst (λ j. q j ≡ true) e.1 t))
      | inr e ↦ hits_back p q n (λ j s. h j (omega (arith, s))) (omega (arith, le, here, rest)) k
          (let ne = e.1 in omega (arith, lt, ne))
    ]

-- ---- fuel

no_instr : (code : Code) (pc : ℕ) → length code.instrs ≤ pc → instr_at code pc ≡ Fall
no_instr code pc le = ap instr_of (slice_get_past code.instrs pc le)

within_code : (code : Code) (n x pc : ℕ) → reads_first code n x pc ≡ true → pc < length code.instrs
within_code code zero x pc e = absurd (cc)
within_code code (suc n) x pc e =
    elim (leb_tells (length code.instrs) pc) [
      | inl past ↦ absurd (false≢true (subst (λ i. passes (reads_first code n x) x pc i 0 ≡ true)
          (no_instr code pc past.1) e))
      | inr there ↦ there.1
    ]

grows : (code : Code) (x n pc : ℕ) → reads_first code n x pc ≡ true → reads_first code (suc n) x pc ≡ true
grows code x zero pc e = absurd (cc)
grows code x (suc n) pc e =
    passes_mono (reads_first code n x) (reads_first code (suc n) x) x pc (instr_at code pc) 0 (grows code x n) e

abbrev Settles : Code → ℕ → ℕ → Type 0
Settles code n x =
    ((pc : ℕ) → reads_first code (suc n) x pc ≡ true → reads_first code n x pc ≡ true)
    ⊎ (suc n ≤ hits (reads_first code (suc n) x) (length code.instrs))

settle_by : (code : Code) (n x : ℕ) → n ≤ hits (reads_first code n x) (length code.instrs) → Settles code n x
settle_by code n x le =
    let l = length code.instrs in
    let f = reads_first code n x in
    let g = reads_first code (suc n) x in
    let more = hits_grow f g l (λ k lt t. grows code x n k t) in
    elim (leb_tells (hits g l) (hits f l)) [
      | inl same ↦ inl (λ pc t. hits_back f g l (λ k lt s. grows code x n k s) same.1 pc
          (within_code code (suc n) x pc t) t)
      | inr less ↦ inr (let lt = less.1 in omega (arith, le, lt))
    ]

settles : (code : Code) (n x : ℕ) → Settles code n x
settles code zero x = settle_by code 0 x (omega arith)
settles code (suc n) x =
    elim (settles code n x) [
      | inl same ↦ inl (λ pc t.
          passes_mono (reads_first code (suc n) x) (reads_first code n x) x pc (instr_at code pc) 0 same t)
      | inr more ↦ settle_by code (suc n) x more
    ]

pub no_more_fuel : (code : Code) (x pc : ℕ) → reads_first code (suc (length code.instrs)) x pc ≡ true
    → reads_first code (length code.instrs) x pc ≡ true
no_more_fuel code x pc e =
    elim (settles code (length code.instrs) x) [
      | inl same ↦ same pc e
      | inr more ↦ absurd (omega (
        arith,
        more,
        hits_bound (reads_first code (suc (length code.instrs)) x)
            (length code.instrs),
      ))
    ]

-- ---- parts

not_below : (a b : ℕ) → b ≤ a → ltb a b ≡ false
not_below a b le = elim (leb_tells (suc a) b) [ inl t ↦ absurd (let lt = t.1 in omega (arith, le, lt)) | inr t ↦ t.0 ]

reads_on : (i : Instr) (n : ℕ) → suc n < maps i → reads i (suc n) ≡ reads_later i
reads_on i n lt = ap (λ b. cond b (reads_later i) []) (lt-ltb (suc n) (maps i) lt)

reads_past : (i : Instr) (n : ℕ) → maps i ≤ suc n → reads i (suc n) ≡ []
reads_past i n le = ap (λ b. cond b (reads_later i) []) (not_below (suc n) (maps i) le)

writes_on : (i : Instr) (n : ℕ) → n < maps i → writes i n ≡ written i
writes_on i n lt = ap (λ b. cond b (written i) []) (lt-ltb n (maps i) lt)

writes_past : (i : Instr) (n : ℕ) → maps i ≤ n → writes i n ≡ []
writes_past i n le = ap (λ b. cond b (written i) []) (not_below n (maps i) le)

writes_last : (i : Instr) (n : ℕ) → n + 1 ≡ maps i → done_writes i n ≡ written i
writes_last i n e = ap (λ b. cond b (written i) []) (eq-eqb (n + 1) (maps i) e)

none_first : (a : Atom) (xs : List ℕ) (x : ℕ) → is_among (vars_in a ++ xs) x ≡ false → is_among (vars_in a) x ≡ false
none_first (atom.Var y) xs x e = or_both (y.0 == x) false (or_false (y.0 == x) (is_among xs x) e).0 refl
none_first (atom.Int n) xs x e = refl
none_first atom.Null xs x e = refl
none_first atom.Text xs x e = refl
none_first (atom.Static k) xs x e = refl

none_kept : (a : CallAnswer) (as' : List Atom) (x : ℕ) → is_among (vars_in_all as') x ≡ false
    → is_among (kept_argument a as') x ≡ false
none_kept (Of a) as' x e = refl
none_kept Argument [] x e = refl
none_kept Argument (a ∷ as') x e = none_first a (vars_in_all as') x e

none_later : (i : Instr) (x : ℕ) → is_among (all_reads i) x ≡ false → is_among (reads_later i) x ≡ false
none_later (Load y place) x e = e
none_later (Store place a) x e = e
none_later (Api y g as') x e = none_kept g.answer as' x e
none_later (Call y f as') x e = e
none_later i x e = refl

none_on : (i : Instr) (n x : ℕ) → suc n < maps i → is_among (reads i n) x ≡ false → is_among (reads_later i) x ≡ false
none_on i zero x lt e = none_later i x e
none_on i (suc n) x lt e = subst (λ rs. is_among rs x ≡ false) (reads_on i n (omega (arith, lt))) e

passes_by : (rs ws : List ℕ) (x : ℕ) (b : Bool) → is_among rs x ≡ false → (not (is_among ws x) && b) ≡ false
    → (is_among rs x || (not (is_among ws x) && b)) ≡ false
passes_by rs ws x b e f = or_both (is_among rs x) (not (is_among ws x) && b) e f

none_after : (w b : Bool) → w ≡ false → (not w && b) ≡ false → b ≡ false
none_after true b e f = absurd (cc)
none_after false b e f = f

none_follows : (f : ℕ → Bool) (x pc : ℕ) (i : Instr) (n : ℕ) → n + 1 ≡ maps i
    → is_among (done_writes i n) x ≡ false → passes f x pc i n ≡ false → list_any f (following pc i) ≡ false
none_follows f x pc i n last done e =
    let l = list_any f (following pc i) in
    let same = writes_on i n (omega (arith, last)) ∙ sym (writes_last i n last) in
    let free = subst (λ ws. is_among ws x ≡ false) (sym same) done in
    none_after (is_among (writes i n) x) l free
    (or_false (is_among (reads i n) x) (not (is_among (writes i n) x) && l) e).1

passes_part : (f : ℕ → Bool) (x pc : ℕ) (i : Instr) (n : ℕ) → suc n ≤ maps i → is_among (done_writes i n) x ≡ false
    → passes f x pc i n ≡ false → passes f x pc i (suc n) ≡ false
passes_part f x pc i n le done e =
    let l = list_any f (following pc i) in
    let both = or_false (is_among (reads i n) x) (not (is_among (writes i n) x) && l) e in
    elim (leb_tells (maps i) (suc n)) [
      | inl last ↦
          let k = last.1 in
          subst (λ rs. (is_among rs x || (not (is_among (writes i (suc n)) x) && l)) ≡ false) (sym (reads_past i n k))
          (subst (λ ws. (not (is_among ws x) && l) ≡ false) (sym (writes_past i (suc n) k))
          (none_follows f x pc i n (omega (arith, le, k)) done e))
      | inr more ↦
          let lt = more.1 in
          subst (λ rs. (is_among rs x || (not (is_among (writes i (suc n)) x) && l)) ≡ false) (sym (reads_on i n lt))
          (passes_by (reads_later i) (writes i (suc n)) x l (none_on i n x lt both.0)
          (subst (λ ws. (not (is_among ws x) && l) ≡ false)
          (writes_on i n (omega (arith, lt)) ∙ sym (writes_on i (suc n) lt)) both.1))
    ]

-- ---- from point to point

any_at : (f : ℕ → Bool) (xs : List ℕ) (i y : ℕ) → i < length xs → y ≡ get_or xs i y → list_any f xs ≡ false
    → f y ≡ false
any_at f [] i y lt e h = absurd (omega (arith, lt))
any_at f (x ∷ xs) zero y lt e h = ap f e ∙ (or_false (f x) (list_any f xs) h).0
any_at f (x ∷ xs) (suc i) y lt e h = any_at f xs i y (omega (arith, lt)) e (or_false (f x) (list_any f xs) h).1

not_true : (b : Bool) → (b ≡ true → ⊥) → b ≡ false
not_true true f = absurd (f refl)
not_true false f = refl

none_next : (code : Code) (pc to x : ℕ) → IsAmong (following pc (instr_at code pc)) to
    → list_any (reads_first code (length code.instrs) x) (following pc (instr_at code pc)) ≡ false
    → is_live code (point_of to 0 0) x ≡ false
none_next code pc to x there e =
    let f = reads_first code (length code.instrs) x in
    let none = any_at f (following pc (instr_at code pc)) there.0 to there.1.0 there.1.1 e in
    not_true (is_live code (point_of to 0 0) x) (λ t. false≢true (sym none ∙ no_more_fuel code x to t))

-- on within an instruction
pub live_part : (code : Code) (p : Point) (k x : ℕ) → p.done + 1 ≤ maps (instr_at code p.instr)
    → is_among (done_writes (instr_at code p.instr) p.done) x ≡ false → is_holder code p x ≡ false
    → is_holder code (part_done p k) x ≡ false
live_part code p k x le done e =
    let i = instr_at code p.instr in
    let f = reads_first code (length code.instrs) x in
    let both = or_false (nat_lt x code.locals) (is_live code p x) e in
    or_both (nat_lt x code.locals) (is_live code (part_done p k) x) both.0
    (subst (λ n. passes f x p.instr i n ≡ false) (sym (add-one p.done))
    (passes_part f x p.instr i p.done (omega (arith, le)) done both.1))

-- on to the next instruction, after the last part
pub live_next : (code : Code) (p : Point) (to x : ℕ) → p.done + 1 ≡ maps (instr_at code p.instr)
    → IsAmong (following p.instr (instr_at code p.instr)) to
    → is_among (done_writes (instr_at code p.instr) p.done) x ≡ false → is_holder code p x ≡ false
    → is_holder code (point_of to 0 0) x ≡ false
live_next code p to x last there done e =
    let f = reads_first code (length code.instrs) x in
    let both = or_false (nat_lt x code.locals) (is_live code p x) e in
    or_both (nat_lt x code.locals) (is_live code (point_of to 0 0) x) both.0
    (none_next code p.instr to x there
    (none_follows f x p.instr (instr_at code p.instr) p.done last done both.1))

-- and after the part that puts any number
pub live_after : (code : Code) (p : Point) (to x : ℕ) → p.done ≡ maps (instr_at code p.instr)
    → IsAmong (following p.instr (instr_at code p.instr)) to → is_holder code p x ≡ false
    → is_holder code (point_of to 0 0) x ≡ false
live_after code p to x past there e =
    let i = instr_at code p.instr in
    let f = reads_first code (length code.instrs) x in
    let l = list_any f (following p.instr i) in
    let both = or_false (nat_lt x code.locals) (is_live code p x) e in
    let rest = (or_false (is_among (reads i p.done) x) (not (is_among (writes i p.done) x) && l) both.1).1 in
    or_both (nat_lt x code.locals) (is_live code (point_of to 0 0) x) both.0
    (none_next code p.instr to x there
    (subst (λ ws. (not (is_among ws x) && l) ≡ false) (writes_past i p.done (omega (arith, past))) rest))

-- ---- what is read

abbrev pub IsRead : View → ℕ → Type 0
IsRead o x = (u : Value) × (content_at o.vars x ≡ Holds u)

among : (xs : List ℕ) (i x : ℕ) → i < length xs → x ≡ get_or xs i x → is_among xs x ≡ true
among [] i x lt e = absurd (omega (arith, lt))
among (y ∷ xs) zero x lt e = ap (λ b. b || is_among xs x) (eq-eqb y x (sym e))
among (y ∷ xs) (suc i) x lt e = any_true (y == x) (is_among xs x) (among xs i x (omega (arith, lt)) e)

all_by : (f : ℕ → Bool) (xs : List ℕ) → ((x : ℕ) → IsAmong xs x → f x ≡ true) → list_all f xs ≡ true
all_by f [] h = refl
all_by f (x ∷ xs) h =
    ap (λ b. b && list_all f xs) (h x (0, (omega arith, refl)))
    ∙ all_by f xs (λ y there. h y (suc there.0, ((let lt = there.1.0 in omega (arith, lt)), there.1.1)))

something : (h : Holding) → (h ≡ Dead → ⊥) → (h ≡ Unset → ⊥) → holds_something h ≡ true
something Dead f g = absurd (f refl)
something Unset f g = absurd (g refl)
something Null f g = refl
something Text f g = refl
something (Known n) f g = refl
something Number f g = refl
something (Token t) f g = refl

not_unset : (names : Naming) (h : Holding) (c : Content) (u : Value) → HoldsSo names h c → c ≡ Holds u → h ≡ Unset → ⊥
not_unset names h c u holds e unset = let f = subst (λ k. HoldsSo names k c) unset holds in cc

pub reads_set : (code : Code) (ks : List ℕ) (claim : Claim) (p : Point) (s : Shape) (names : Naming) (v : Vector)
    (o : View) → StandsAs code ks claim p s names v o
    → ((x : ℕ) → IsAmong (reads (instr_at code p.instr) p.done) x → IsRead o x)
    → are_set (scene_of s) (reads (instr_at code p.instr) p.done) ≡ true
reads_set code ks claim p s names v o stands read =
    let i = instr_at code p.instr in
    let rs = reads i p.done in
    all_by (is_set (scene_of s)) rs
    (λ x there.
    let h = holding_at (scene_of s) x in
    let held = read x there in
    let rest = not (is_among (writes i p.done) x)
    && list_any (reads_first code (length code.instrs) x) (following p.instr i) in
    let live = any_true (nat_lt x code.locals) (is_live code p x)
    (ap (λ b. b || rest) (among rs there.0 x there.1.0 there.1.1)) in
    something h (λ dead. false≢true (sym (stands.deads x dead) ∙ live))
    (not_unset names h (content_at o.vars x) held.0 (stands.shows.vars x) held.1))
