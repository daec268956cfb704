-- The parameters whose reference is taken over, at entry and in a state.
use Rattle.std.proofs.Common.{◌≡◌, ℕ, zero, suc, ◌+◌, ◌<◌, ◌≤◌, ℤ, List, [], ◌∷◌, length, get_or, Bool, true}
use Rattle.std.proofs.Common.{false, refl, sym, ap, ◌∙◌, arith, Some, None, cond}
use Rattle.std.specs.Prelude.{slice_get, nat_lt, count_by, ◌&&◌, if◌then◌else◌}
use Rattle.std.proofs.lemmas.Bool.Decides.{nat_tests}
use Rattle.std.proofs.lemmas.List.Sums.{sum_by-cons}
use Rattle.pungi_base.specs.declared.choice.Choice.{Choice}
use Rattle.pungi_base.specs.declared.entry.Entry.{Entry}
use Rattle.pungi_base.specs.declared.value.Value.{Value}
use Rattle.pungi_base.specs.declared.value.Value.TheVariants as value
use Rattle.pungi_world.specs.Escapes.{is_returned, is_argument}
use Rattle.pungi_code.specs.declared.code.Code.{Code}
use Rattle.pungi_code.specs.Entries.{code_fits}
use Rattle.pungi_symbol.specs.declared.states.mark.Mark.{Mark}
use Rattle.pungi_symbol.specs.declared.states.mark.Mark.TheVariants.{Pointer, TextPointer, IsNull, IsObject, IsText}
use Rattle.pungi_symbol.specs.declared.states.mark.Mark.TheVariants.{IsNumber, IsConverted, Integer}
use Rattle.pungi_symbol.specs.states.Terms.{Table, at, is_mark}
use Rattle.pungi_symbol.specs.runs.Fits.{is_the}
use Rattle.pungi_symbol.specs.runs.Paths.{argument_count, table_of, may_be_object}
use Rattle.pungi_symbol.proofs.runs.Starts.{entry_fits, held_long, at_argument}

-- the arguments of an entry are the values of these tokens
abbrev pub HoldsArguments : Table → ℕ → ℕ → Entry → Type 0
HoldsArguments table first n entry =
    (p : ℕ) → slice_get entry.args p ≡ (if nat_lt p n then Some (at table (first + p)) else None)

some_read : (xs : List Value) (p : ℕ) → p < length xs → slice_get xs p ≡ Some (get_or xs p value.Null)
some_read [] p h = absurd (omega (arith, h))
some_read (x ∷ xs) zero h = refl
some_read (x ∷ xs) (suc p) h = some_read xs p (omega (arith, h))

none_read : (xs : List Value) (p : ℕ) → length xs ≤ p → slice_get xs p ≡ None
none_read [] p h = refl
none_read (x ∷ xs) zero h = absurd (omega (arith, h))
none_read (x ∷ xs) (suc p) h = none_read xs p (omega (arith, h))

pub below_true : (a b : ℕ) → nat_lt a b ≡ true → a < b
below_true a b e = grind (arith, nat_tests)

below_false : (a b : ℕ) → nat_lt a b ≡ false → b ≤ a
below_false a b e = grind (arith, nat_tests)

pub arguments_held : (statics : ℕ) (code : Code) (entry : Entry) (choices : List Choice) (computed : List ℤ)
    → code_fits statics code entry ≡ true
    → HoldsArguments (table_of statics entry choices computed) statics (argument_count code) entry
arguments_held statics code entry choices computed fits p = by (nat_lt p (argument_count code)) refl
  where
    long : length entry.args ≡ argument_count code
    long = held_long statics 0 code entry.objects _ entry.args (entry_fits statics code entry fits).1

    by : (b : Bool) → nat_lt p (argument_count code) ≡ b
        → slice_get entry.args p
        ≡ (if b then Some (at (table_of statics entry choices computed) (statics + p)) else None)
    by true e =
        let lt = below_true p (argument_count code) e in
        some_read entry.args p (omega (arith, lt, long))
        ∙ ap Some (sym (at_argument statics 0 code entry choices computed long p lt))
    by false e =
        let ge = below_false p (argument_count code) e in
        none_read entry.args p (omega (arith, ge, long))

pub argument_is : (table : Table) (first n : ℕ) (entry : Entry) → HoldsArguments table first n entry → (o p : ℕ)
    → is_argument entry o p ≡ (nat_lt p n && is_the o (at table (first + p)))
argument_is table first n entry held o p = ap (λ v. is_returned v o) (held p) ∙ by (nat_lt p n)
  where
    by : (b : Bool) → is_returned (if b then Some (at table (first + p)) else None) o
        ≡ (b && is_the o (at table (first + p)))
    by true = refl
    by false = refl

-- a token that can't be an object is none
pub never_object : (o : ℕ) (m : Mark) (v : Value) → is_mark m v ≡ true → may_be_object m ≡ false → is_the o v ≡ false
never_object o m value.Null h e = refl
never_object o Pointer (value.Object k) h e = absurd (let bad : true ≡ false = e in cc)
never_object o TextPointer (value.Object k) h e = absurd (let bad : false ≡ true = h in cc)
never_object o IsNull (value.Object k) h e = absurd (let bad : false ≡ true = h in cc)
never_object o IsObject (value.Object k) h e = absurd (let bad : true ≡ false = e in cc)
never_object o IsText (value.Object k) h e = absurd (let bad : false ≡ true = h in cc)
never_object o (IsNumber n) (value.Object k) h e = absurd (let bad : false ≡ true = h in cc)
never_object o (IsConverted n) (value.Object k) h e = absurd (let bad : false ≡ true = h in cc)
never_object o (Integer r) (value.Object k) h e = absurd (let bad : false ≡ true = h in cc)
never_object o m (value.Int n) h e = refl
never_object o m value.Text h e = refl

-- ---- how many pass a test

pub count_more : (f : ℕ → Bool) (p : ℕ) (ps : List ℕ) (b : Bool) → f p ≡ b
    → count_by f (p ∷ ps) ≡ cond b 1 0 + count_by f ps
count_more f p ps b e =
    sum_by-cons (λ x. cond (f x) 1 0) p ps ∙ ap (λ z. cond z 1 0 + count_by f ps) e

pub count_same : (f g : ℕ → Bool) → ((p : ℕ) → f p ≡ g p) → (ps : List ℕ) → count_by f ps ≡ count_by g ps
count_same f g same [] = refl
count_same f g same (p ∷ ps) =
    let a = count_more f p ps (g p) (same p) in
    let b = count_more g p ps (g p) refl in
    let rest = count_same f g same ps in
    omega (arith, a, b, rest)

pub one_counted : (f : ℕ → Bool) (ps : List ℕ) → (count_by f ps ≡ 0 → ⊥) → (p : ℕ) × (f p ≡ true)
one_counted f [] some = absurd (some refl)
one_counted f (p ∷ ps) some = by (f p) refl (one_counted f ps)
  where
    by : (b : Bool) → f p ≡ b → ((count_by f ps ≡ 0 → ⊥) → (q : ℕ) × (f q ≡ true)) → (q : ℕ) × (f q ≡ true)
    by true e more = (p, e)
    by false e more = more (λ z. some (let a = count_more f p ps false e in omega (arith, a, z)))
