-- Balances at a return that are level: each run in the state is balanced.
use Rattle.std.proofs.Common.{◌≡◌, ◌≢◌, ◌==◌, ℕ, zero, suc, ◌+◌, ◌<◌, ◌≤◌, ℤ, pos, List, [], ◌∷◌, length, cond}
use Rattle.std.proofs.Common.{Bool, true, false, refl, sym, ap, ◌∙◌, subst, arith, inl, inr, Option, None, Some}
use Rattle.std.specs.Prelude.{if◌then◌else◌, slice_set, nat_lt, count_by, ◌&&◌, ◌-ℤ◌, ◌+ℤ◌}
use Rattle.std.proofs.Math.ListN.{length-set}
use Rattle.std.proofs.lemmas.Int.{ints}
use Rattle.std.proofs.lemmas.Bool.{cases_eq, eqb-true, eq-eqb}
use Rattle.std.proofs.lemmas.Bool.Decides.{eqb_tells}
use Rattle.std.proofs.lemmas.List.{get_or-set_same, get_or-set_other}
use Rattle.pungi_base.specs.declared.entry.Entry.{Entry}
use Rattle.pungi_base.specs.declared.value.Value.{Value}
use Rattle.pungi_api.specs.Terms.{immortal_count}
use Rattle.pungi_world.specs.Escapes.{is_returned, is_argument, owned_result, IsCounted, IsBalanced}
use Rattle.pungi_code.specs.declared.code.Code.{Code}
use Rattle.pungi_code.specs.declared.code.Line.{Line}
use Rattle.pungi_code.specs.Registers.{Regs}
use Rattle.pungi_symbol.specs.declared.states.mark.Mark.{Mark}
use Rattle.pungi_symbol.specs.declared.states.mark.Mark.TheVariants.{IsObject}
use Rattle.pungi_symbol.specs.declared.states.state.State.{State}
use Rattle.pungi_symbol.specs.declared.states.term.Term.{Term}
use Rattle.pungi_symbol.specs.declared.states.term.Term.TheVariants.{Unset, Null, Text, Number, Token, Sum}
use Rattle.pungi_symbol.specs.states.Terms.{Table, value_at, at, is_mark}
use Rattle.pungi_symbol.specs.states.Known.{count, mark_of, object_of, object_mark}
use Rattle.pungi_symbol.specs.answers.SymbolicState.{class_of, balance_at}
use Rattle.pungi_symbol.specs.runs.Fits.{IsBelow, IsSound, is_the, named}
use Rattle.pungi_symbol.specs.runs.RunInState.{Lies}
use Rattle.pungi_symbol.specs.runs.Paths.{argument_count, value_in, returned_value, returned_object, owned_object}
use Rattle.pungi_symbol.specs.runs.Paths.{may_be_object, is_taken_as, is_class, IsLevelState}
use Rattle.pungi_symbol.proofs.states.NamedObjects.{part, named_set}
use Rattle.pungi_symbol.proofs.states.Contents.{IsKnown, is_open, term_value, holds_term, known_set}
use Rattle.pungi_symbol.proofs.states.Claims.{not_the}
use Rattle.pungi_symbol.proofs.states.Terms.{object_is_below}
use Rattle.pungi_symbol.proofs.questions.Firsts.{below_or}
use Rattle.pungi_symbol.proofs.steps.Comparisons.{an_object, no_object, objected}
use Rattle.pungi_symbol.proofs.steps.Questions.{IsGiven}
use Rattle.pungi_symbol.proofs.runs.TakenParameters.{HoldsArguments, argument_is, never_object, count_more, below_true}

-- ---- the balances of an object

off : (b : Bool) (x : ℤ) → (b ≡ true → x ≡ pos 0) → part b x ≡ pos 0
off true x h = h refl
off false x h = refl

named_none : (o : ℕ) (table : List Value) (bs : List ℤ)
    → ((t : ℕ) → t < length bs → is_the o (value_at table t) ≡ true → balance_at bs t ≡ pos 0)
    → named o table bs ≡ pos 0
named_none o table [] h = refl
named_none o [] (b ∷ bs) h = refl
named_none o (v ∷ table) (b ∷ bs) h =
    let rest = named_none o table bs (λ t l e. h (suc t) (omega (arith, l)) e) in
    let here = off (is_the o v) b (h 0 (omega arith)) in
    omega (arith, ints, here, rest)

-- the balances of tokens that name the object are 0, but for one
pub named_alone : (o : ℕ) (table : List Value) (bs : List ℤ) (c : ℕ) → c < length bs
    → is_the o (value_at table c) ≡ true
    → ((t : ℕ) → t < length bs → t ≢ c → is_the o (value_at table t) ≡ true → balance_at bs t ≡ pos 0)
    → named o table bs ≡ balance_at bs c
named_alone o table [] c lt is h = absurd (omega (arith, lt))
named_alone o [] (b ∷ bs) zero lt is h = absurd (let bad : false ≡ true = is in cc)
named_alone o [] (b ∷ bs) (suc c) lt is h = absurd (let bad : false ≡ true = is in cc)
named_alone o (v ∷ table) (b ∷ bs) zero lt is h =
    let here : part (is_the o v) b ≡ b = ap (λ x. part x b) is in
    let rest = named_none o table bs (λ t l e. h (suc t) (omega (arith, l))
    (λ z. let bad : suc t ≡ 0 = z in absurd (omega (arith, bad))) e) in
    omega (arith, ints, here, rest)
named_alone o (v ∷ table) (b ∷ bs) (suc c) lt is h =
    let here = off (is_the o v) b (λ e. h 0 (omega arith) (λ z. let bad : 0
    ≡ suc c = z in absurd (omega (arith, bad))) e) in
    let rest = named_alone o table bs c (omega (arith, lt)) is (λ t l ne e. h (suc t) (omega (arith, l))
    (λ z. ne (omega (arith, z))) e) in
    omega (arith, ints, here, rest)

-- a balance of 1 at one token, and 0 at all others that name the object
named_one : (o : ℕ) (table : List Value) (bs : List ℤ) (c : ℕ) (b : Bool)
    → is_the o (value_at table c) ≡ b → c < length bs → (b ≡ true → balance_at bs c ≡ pos 1)
    → ((t : ℕ) → t < length bs → t ≢ c → is_the o (value_at table t) ≡ true → balance_at bs t ≡ pos 0)
    → named o table bs ≡ part b (pos 1)
named_one o table bs c true e lt one zeros = named_alone o table bs c lt e zeros ∙ one refl
named_one o table bs c false e lt one zeros = named_none o table bs (λ t l is. elim (cases_eq t c) [
  | inl z ↦ absurd (let bad : true ≡ false = sym is ∙ ap (λ k. is_the o (value_at table k)) z ∙ e in cc)
  | inr ne ↦ zeros t l ne is
])

part_if : (b : Bool) → part b (pos 1) ≡ pos (if b then 1 else 0)
part_if true = refl
part_if false = refl

-- ---- what a run returns

abbrev Returned : Table → Option Term → ℕ → Bool
Returned table x o = is_returned (returned_value table x) o

module _ (code : List Line) (table : Table) (base : ℕ) (m : Regs) (s : State) (w : IsSound s)
    (l : Lies code table base m s) where
  value_is : (y : Term) (o : ℕ) → IsKnown s.known y → Returned table (Some y) o ≡ is_the o (term_value table y)
  value_is y o k = ap (λ c. is_returned (value_in c) o) (holds_term table y (known_set s.known y k))

  token_not : (t o : ℕ) (r : Mark) → mark_of s.known t ≡ r → is_open r ≡ false → (r ≡ IsObject → ⊥)
      → t < count s.known → is_the o (at table t) ≡ false
  token_not t o r e c ne lt = not_the o r (at table t) (subst (λ z. is_mark z (at table t) ≡ true) e
      (l.fits.notes.marks t lt)) c ne

  not_returned : (y : Term) (o : ℕ) → IsKnown s.known y → IsBelow (count s.known) y → object_of s.known y ≡ None
      → is_the o (term_value table y) ≡ false
  not_returned Unset o k b e = absurd k
  not_returned Null o k b e = refl
  not_returned Text o k b e = refl
  not_returned (Number n) o k b e = refl
  not_returned (Sum u) o k b e = refl
  not_returned (Token t) o k b e = token_not t o (mark_of s.known t) refl k
      (λ z. let bad : Some t ≡ None = sym (ap (λ r. object_mark r t) z) ∙ e in cc) b

  pub returned_some : (x : Option Term) (u : ℕ) → IsGiven s.known x → returned_object s.known x ≡ Some u
      → (mark_of s.known u ≡ IsObject) × ((o : ℕ) → Returned table x o ≡ is_the o (at table u))
  returned_some None u g e = absurd (cc)
  returned_some (Some y) u g e = elim (objected s.known y) [
    | an_object t is mt ot ↦
        let same : t ≡ u = let z : Some t ≡ Some u = sym ot ∙ e in cc in (
          ap (mark_of s.known) (sym same) ∙ mt,
          λ o. value_is y o g.0 ∙ ap (λ z. is_the o (term_value table z)) is
              ∙ ap (λ z. is_the o (at table z)) same,
        )
    | no_object ot h ↦ absurd (let bad : None ≡ Some u = sym ot ∙ e in cc)
  ]

  pub returned_none : (x : Option Term) → IsGiven s.known x → returned_object s.known x ≡ None → (o : ℕ)
      → Returned table x o ≡ false
  returned_none None g e o = refl
  returned_none (Some y) g e o = value_is y o g.0 ∙ not_returned y o g.0 g.1 e

-- ---- balances that are level

module _ (code : Code) (entry : Entry) (table : Table) (base : ℕ) (m : Regs) (s : State) (w : IsSound s)
    (l : Lies code.instrs table base m s) (held : HoldsArguments table s.statics (argument_count code) entry)
    (there : (p : ℕ) → p < argument_count code → s.statics + p < count s.known)
    (immortals : immortal_count code.terms.profile ≤ s.statics) (x : Option Term) (given : IsGiven s.known x)
    (o : ℕ) (counted : IsCounted code.terms o) where
  abbrev Owner : Option ℕ
  Owner = owned_object code.terms s.known x

  abbrev IsOwned : Bool
  IsOwned = is_returned (owned_result code.terms (returned_value table x)) o

  -- a token of an object that is counted is counted
  counted_token : (t : ℕ) → is_the o (at table t) ≡ true → IsCounted code.terms t
  counted_token t is = elim (below_or t s.statics) [
    | inl lt ↦
        let same : t ≡ o = eqb-true t o (sym (ap (is_the o) (l.fits.notes.statics t lt)) ∙ is) in
        omega (arith, same, counted)
    | inr ge ↦ omega (arith, ge, immortals)
  ]

  owned_none : (b : Bool) → (if b then None else returned_object s.known x) ≡ None
      → is_returned (if b then None else returned_value table x) o ≡ false
  owned_none true e = refl
  owned_none false e = returned_none code.instrs table base m s w l x given e o

  owned_some : (b : Bool) (u : ℕ) → (if b then None else returned_object s.known x) ≡ Some u
      → (mark_of s.known u ≡ IsObject)
      × (is_returned (if b then None else returned_value table x) o ≡ is_the o (at table u))
  owned_some true u e = absurd (cc)
  owned_some false u e =
      let r = returned_some code.instrs table base m s w l x u given e in
      (r.0, r.1 o)

  -- where nothing is taken over
  level_by : (bs : List ℤ) → length bs ≡ count s.known → (r : Option ℕ) → Owner ≡ r
      → ((t : ℕ) → IsCounted code.terms t → t < count s.known
      → balance_at bs t ≡ part (is_class s.classes r t) (pos 1))
      → named o table.values bs ≡ part IsOwned (pos 1)
  level_by bs long None e level =
      named_none o table.values bs (λ t lt is. level t (counted_token t is) (omega (arith, lt, long)))
      ∙ sym (ap (λ b. part b (pos 1)) (owned_none code.terms.convention.borrowed e))
  level_by bs long (Some u) e level =
      let r = owned_some code.terms.convention.borrowed u e in
      let lu = object_is_below s.known.marks u r.0 in
      let d = class_of s.classes u in
      let od = w.notes.class_older u lu in
      let ld : d < length bs = omega (arith, od, lu, long) in
      named_one o table.values bs d (is_the o (at table d)) refl ld
      (λ is. level d (counted_token d is) (omega (arith, ld, long))
      ∙ ap (λ b. part b (pos 1)) (eq-eqb d d refl))
      (λ t lt ne is. level t (counted_token t is) (omega (arith, lt, long)) ∙ elim (eqb_tells d t) [
        | inl z ↦ absurd (ne (sym z.1))
        | inr z ↦ ap
            (λ b. part b (pos 1)) z.0
      ])
      ∙ ap (λ v. part (is_the o v) (pos 1)) (l.fits.notes.classes u lu) ∙ sym (ap (λ b. part b (pos 1)) r.1)

  abbrev AreLevel : List ℕ → List ℤ → Type 0
  AreLevel ps bs = (t : ℕ) → IsCounted code.terms t → t < count s.known
      → balance_at bs t ≡ part (is_class s.classes Owner t) (pos 1) -ℤ pos (count_by (is_taken_as code s t) ps)

  abbrev IsNamed : List ℕ → List ℤ → Type 0
  IsNamed ps bs =
      named o table.values bs ≡ part IsOwned (pos 1) -ℤ pos (count_by (is_argument entry o) ps)

  abbrev AreNamed : List ℕ → Type 0
  AreNamed ps = (bs : List ℤ) → length bs ≡ count s.known → AreLevel ps bs → IsNamed ps bs

  none_taken : AreNamed []
  none_taken bs long level =
      let a = level_by bs long Owner refl (λ t k h. let b = level t k h in omega (arith, ints, b)) in
      omega (arith, ints, a)

  -- a parameter that is no object
  passed : (p : ℕ) (ps : List ℕ) → ((t : ℕ) → is_taken_as code s t p ≡ false) → is_argument entry o p ≡ false
      → AreNamed ps → AreNamed (p ∷ ps)
  passed p ps none off rest bs long level =
      let a = rest bs long (λ t k h.
      let b = level t k h in
      let c = count_more (is_taken_as code s t) p ps false (none t) in
      omega (arith, ints, b, c)) in
      let d = count_more (is_argument entry o) p ps false off in
      omega (arith, ints, a, d)

  part_count : (b : Bool) → part b (pos 1) ≡ pos (cond b 1 0)
  part_count true = refl
  part_count false = refl

  -- the balance of its token without the reference that is taken over
  taken : (p : ℕ) (ps : List ℕ) → nat_lt p (argument_count code) ≡ true
      → may_be_object (mark_of s.known (s.statics + p)) ≡ true → AreNamed ps → AreNamed (p ∷ ps)
  taken p ps e f rest bs long level =
      let lt = there p (below_true p (argument_count code) e) in
      let older = w.notes.class_older (s.statics + p) lt in
      let below : c < length bs = omega (arith, older, lt, long) in
      let a = rest more (length-set bs c (balance_at bs c +ℤ pos 1) ∙ long) (λ t k h. next t k h below) in
      let b = named_set o table.values bs c (pos 1) below in
      let is = ap (is_the o) (l.fits.notes.classes (s.statics + p) lt) in
      let d = part_count (is_the o (at table c)) in
      let g = count_more (is_argument entry o) p ps (is_the o (at table c))
      (argument_is table s.statics (argument_count code) entry held o p
      ∙ ap (λ z. z && is_the o (at table (s.statics + p))) e ∙ sym is) in
      omega (arith, ints, a, b, d, g)
    where
      c : ℕ
      c = class_of s.classes (s.statics + p)

      more : List ℤ
      more = slice_set bs c (balance_at bs c +ℤ pos 1)

      is_here : (t : ℕ) → is_taken_as code s t p ≡ (c == t)
      is_here t = ap (λ z. z && (may_be_object (mark_of s.known (s.statics + p)) && c == t)) e
          ∙ ap (λ z. z && c == t) f

      next : (t : ℕ) → IsCounted code.terms t → t < count s.known → c < length bs
          → balance_at more t
          ≡ part (is_class s.classes Owner t) (pos 1) -ℤ pos (count_by (is_taken_as code s t) ps)
      next t k h below = elim (eqb_tells c t) [
        | inl z ↦
            let a = level t k h in
            let b = count_more (is_taken_as code s t) p ps true (is_here t ∙ z.0) in
            let d : balance_at more t ≡ balance_at bs t +ℤ pos 1 = ap (balance_at more) (sym z.1)
            ∙ get_or-set_same bs c (balance_at bs c +ℤ pos 1) (pos 0) below
            ∙ ap (λ u. balance_at bs u +ℤ pos 1) z.1 in
            omega (arith, ints, a, b, d)
        | inr z ↦
            let a = level t k h in
            let b = count_more (is_taken_as code s t) p ps false (is_here t ∙ z.0) in
            let d : balance_at more t ≡ balance_at bs t = get_or-set_other bs c t (balance_at bs c +ℤ pos 1) (pos 0)
            (λ y. z.1 (sym y)) in
            omega (arith, ints, a, b, d)
      ]

  one_more : (p : ℕ) (ps : List ℕ) → AreNamed ps → AreNamed (p ∷ ps)
  one_more p ps rest = by (nat_lt p (argument_count code)) refl (may_be_object (mark_of s.known (s.statics + p))) refl
    where
      by : (b : Bool) → nat_lt p (argument_count code) ≡ b → (r : Bool)
          → may_be_object (mark_of s.known (s.statics + p)) ≡ r → AreNamed (p ∷ ps)
      by true e true f = taken p ps e f rest
      by true e false f =
          let lt = there p (below_true p (argument_count code) e) in
          passed p ps
          (λ t. ap (λ z. z && (may_be_object (mark_of s.known (s.statics + p))
          && class_of s.classes (s.statics + p) == t)) e
          ∙ ap (λ z. z && class_of s.classes (s.statics + p) == t) f)
          (argument_is table s.statics (argument_count code) entry held o p
          ∙ ap (λ z. z && is_the o (at table (s.statics + p))) e
          ∙ never_object o (mark_of s.known (s.statics + p)) (at table (s.statics + p))
          (l.fits.notes.marks (s.statics + p) lt) f)
          rest
      by false e r f =
          passed p ps
          (λ t. ap (λ z. z && (may_be_object (mark_of s.known (s.statics + p))
          && class_of s.classes (s.statics + p) == t)) e)
          (argument_is table s.statics (argument_count code) entry held o p
          ∙ ap (λ z. z && is_the o (at table (s.statics + p))) e)
          rest

  all_named : (ps : List ℕ) → AreNamed ps
  all_named [] = none_taken
  all_named (p ∷ ps) = one_more p ps (all_named ps)

  wanted_part : (b : Bool) → (if b then pos 1 else pos 0) ≡ part b (pos 1)
  wanted_part true = refl
  wanted_part false = refl

  pub level_named : IsLevelState code s x → IsNamed code.terms.convention.taken s.balances
  level_named level =
      all_named code.terms.convention.taken s.balances w.notes.balances_long (λ t k h.
      let a = level t k h in
      let b = wanted_part (is_class s.classes Owner t) in
      omega (arith, ints, a, b))

-- level balances: each run in the state is balanced
pub level_balanced : (code : Code) (entry : Entry) (table : Table) (base : ℕ) (m : Regs) (s : State) → IsSound s
    → Lies code.instrs table base m s → HoldsArguments table s.statics (argument_count code) entry
    → ((p : ℕ) → p < argument_count code → s.statics + p < count s.known)
    → immortal_count code.terms.profile ≤ s.statics → (x : Option Term) → IsGiven s.known x → IsLevelState code s x
    → IsBalanced code.terms entry m.world (returned_value table x)
level_balanced code entry table base m s w l held there immortals x given level o counted lt =
    let a = level_named code entry table base m s w l held there immortals x given o counted level in
    let b = part_if (is_returned (owned_result code.terms (returned_value table x)) o) in
    let c = l.claims o in
    omega (arith, ints, a, b, c)
