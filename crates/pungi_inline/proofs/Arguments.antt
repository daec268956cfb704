-- The values of the arguments of a call, one by one.
--   argument o vars     what an argument stands for, where there is one; past the last one nothing
use Rattle.std.proofs.Common.{◌≡◌, ℕ, zero, suc, ◌<◌, List, [], ◌∷◌, ◌++◌, length, map, replicate, Option, Some, None}
use Rattle.std.proofs.Common.{true, refl, sym, ap, ◌∙◌, subst, arith}
use Rattle.std.specs.Prelude.{slice_get}
use Rattle.std.proofs.lemmas.Bool.{and_parts}
use Rattle.pungi_base.specs.declared.value.Value.{Value}
use Rattle.pungi_api.specs.declared.param.Param.{Param}
use Rattle.pungi_world.specs.declared.content.Content.{Content}
use Rattle.pungi_world.specs.declared.content.Content.TheVariants as content
use Rattle.pungi_meaning.specs.Work.{content_at}
use Rattle.pungi_code.specs.declared.atom.Atom.{Atom}
use Rattle.pungi_code.specs.Registers.{content_of, both_values, all_values}
use Rattle.pungi_code.specs.WellFormed.{is_argument, are_arguments}
use Rattle.pungi_inline.proofs.Operands.{IsHeld, held_argument}

abbrev pub argument : Option Atom → List Content → Content
argument None vars = content.Unset
argument (Some a) vars = content_of a vars

-- ---- all of them hold values

-- two are there where the list of both is there
pub both_there : (c : Content) (o : Option (List Value)) (vs : List Value) → both_values c o ≡ Some vs
    → (v : Value) × (us : List Value) × (c ≡ content.Holds v) × (o ≡ Some us) × (vs ≡ v ∷ us)
both_there content.Unset o vs e = absurd (cc)
both_there (content.Holds v) None vs e = absurd (cc)
both_there (content.Holds v) (Some us) vs e = (v, us, refl, refl, cc)

-- where all values are there, each argument holds one
pub value_there : (as' : List Atom) (vars : List Content) (vs : List Value) → all_values as' vars ≡ Some vs
    → (i : ℕ) (a : Atom) → slice_get as' i ≡ Some a → (v : Value) × (content_of a vars ≡ content.Holds v)
value_there [] vars vs e i a at = absurd (cc)
value_there (b ∷ as') vars vs e zero a at =
    let h = both_there (content_of b vars) (all_values as' vars) vs e in
    let same : a ≡ b = cc in
    (h.0, ap (λ x. content_of x vars) same ∙ h.2)
value_there (b ∷ as') vars vs e (suc i) a at =
    let h = both_there (content_of b vars) (all_values as' vars) vs e in
    value_there as' vars h.1 h.3 i a at

-- there are as many values as arguments
pub values_length : (as' : List Atom) (vars : List Content) (vs : List Value) → all_values as' vars ≡ Some vs
    → length vs ≡ length as'
values_length [] vars vs e = let h : vs ≡ [] = cc in ap length h
values_length (b ∷ as') vars vs e =
    let h = both_there (content_of b vars) (all_values as' vars) vs e in
    ap length h.4 ∙ ap suc (values_length as' vars h.1 h.3)

-- variables that hold nothing hold nothing
none_held : (n i : ℕ) → content_at (replicate n content.Unset) i ≡ content.Unset
none_held zero i = refl
none_held (suc n) zero = refl
none_held (suc n) (suc i) = none_held n i

-- what the parameters of the called code hold
pub params_hold : (as' : List Atom) (vars : List Content) (vs : List Value) (n : ℕ) → all_values as' vars ≡ Some vs
    → (i : ℕ) → content_at (map content.Holds vs ++ replicate n content.Unset) i ≡ argument (slice_get as' i) vars
params_hold [] vars vs n e i =
    let h : vs ≡ [] = cc in
    ap (λ us. content_at (map content.Holds us ++ replicate n content.Unset) i) h ∙ none_held n i
params_hold (b ∷ as') vars vs n e zero =
    let h = both_there (content_of b vars) (all_values as' vars) vs e in
    ap (λ us. content_at (map content.Holds us ++ replicate n content.Unset) 0) h.4 ∙ sym h.2
params_hold (b ∷ as') vars vs n e (suc i) =
    let h = both_there (content_of b vars) (all_values as' vars) vs e in
    ap (λ us. content_at (map content.Holds us ++ replicate n content.Unset) (suc i)) h.4
    ∙ params_hold as' vars h.1 n h.3 i

-- ---- one of them holds nothing

pub record FirstUnset (as' : List Atom) (vars : List Content) : Type 0 where
  pub place : ℕ
  pub atom : Atom
  pub there : slice_get as' place ≡ Some atom
  pub unset : content_of atom vars ≡ content.Unset
  pub before : (j : ℕ) → j < place → (b : Atom) → slice_get as' j ≡ Some b
      → (v : Value) × (content_of b vars ≡ content.Holds v)

-- where the first argument holds a value, so do all before the first one that holds none
unset_later : (b : Atom) (as' : List Atom) (vars : List Content) (v : Value) → content_of b vars ≡ content.Holds v
    → (h : FirstUnset as' vars) → (j : ℕ) → j < suc h.place → (a : Atom) → slice_get (b ∷ as') j ≡ Some a
    → (u : Value) × (content_of a vars ≡ content.Holds u)
unset_later b as' vars v e h zero lt a at = let same : a ≡ b = cc in (v, ap (λ x. content_of x vars) same ∙ e)
unset_later b as' vars v e h (suc j) lt a at = h.before j (omega (arith, lt)) a at

-- the first argument holds nothing, or a later one is the first that holds nothing
unset_first : (b : Atom) (as' : List Atom) (vars : List Content) (c : Content) (o : Option (List Value))
    → content_of b vars ≡ c → both_values c o ≡ None → (o ≡ None → FirstUnset as' vars) → FirstUnset (b ∷ as') vars
unset_first b as' vars content.Unset o e none next = record {
  place = 0;
  atom = b;
  there = refl;
  unset = e;
  before = λ j lt a at. absurd (omega (arith, lt));
}
unset_first b as' vars (content.Holds v) (Some us) e none next = absurd (cc)
unset_first b as' vars (content.Holds v) None e none next =
    let h = next refl in record {
      place = suc h.place;
      atom = h.atom;
      there = h.there;
      unset = h.unset;
      before = unset_later b as' vars v e h;
    }

-- where not all values are there, one argument is the first that holds nothing
pub first_unset : (as' : List Atom) (vars : List Content) → all_values as' vars ≡ None → FirstUnset as' vars
first_unset [] vars e = absurd (cc)
first_unset (b ∷ as') vars e =
    unset_first b as' vars (content_of b vars) (all_values as' vars) refl e (first_unset as' vars)

-- ---- they are held

-- each argument of a well-formed call is none of the variables past the last one
pub held_there : (vars ps : List Param) (as' : List Atom) → are_arguments vars ps as' ≡ true → (i : ℕ) (a : Atom)
    → slice_get as' i ≡ Some a → IsHeld (length vars) a
held_there vars [] [] e i a at = absurd (cc)
held_there vars [] (b ∷ as') e i a at = absurd (cc)
held_there vars (p ∷ ps) [] e i a at = absurd (cc)
held_there vars (p ∷ ps) (b ∷ as') e zero a at =
    let h = and_parts (is_argument vars p b) (are_arguments vars ps as') e in
    let same : b ≡ a = cc in
    subst (IsHeld (length vars)) same (held_argument vars p b h.0)
held_there vars (p ∷ ps) (b ∷ as') e (suc i) a at =
    let h = and_parts (is_argument vars p b) (are_arguments vars ps as') e in
    held_there vars ps as' h.1 i a at

-- however many variables come after the parameters
pub params_same : (vs : List Value) (n m x : ℕ)
    → content_at (map content.Holds vs ++ replicate n content.Unset) x
    ≡ content_at (map content.Holds vs ++ replicate m content.Unset) x
params_same [] n m x = none_held n x ∙ sym (none_held m x)
params_same (v ∷ vs) n m zero = refl
params_same (v ∷ vs) n m (suc x) = params_same vs n m x
