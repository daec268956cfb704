-- What a number at the token of a term does to the balances of an object.
use Rattle.std.proofs.Common.{◌≡◌, ℕ, ◌<◌, ℤ, pos, negsuc, ◌+ℤ◌, List, [], ◌∷◌, length, true, false, refl, sym, ap, ◌∙◌}
use Rattle.std.proofs.Common.{subst, arith, Option, Some, None}
use Rattle.std.specs.Prelude.{slice_set}
use Rattle.std.proofs.Math.ListN.{length-set}
use Rattle.std.proofs.lemmas.Int.{ints}
use Rattle.pungi_base.specs.declared.value.Value.{Value}
use Rattle.pungi_base.specs.declared.value.Value.TheVariants as value
use Rattle.pungi_symbol.specs.declared.states.known.Known.{Known}
use Rattle.pungi_symbol.specs.declared.states.mark.Mark.{Mark}
use Rattle.pungi_symbol.specs.declared.states.mark.Mark.TheVariants.{Pointer, TextPointer, IsNull, IsObject, IsText}
use Rattle.pungi_symbol.specs.declared.states.mark.Mark.TheVariants.{IsNumber, IsConverted, Integer}
use Rattle.pungi_symbol.specs.declared.states.state.State.{State}
use Rattle.pungi_symbol.specs.declared.states.term.Term.{Term}
use Rattle.pungi_symbol.specs.declared.states.term.Term.TheVariants.{Unset, Null, Text, Number, Token, Sum}
use Rattle.pungi_symbol.specs.states.Terms.{Table, at, is_mark}
use Rattle.pungi_symbol.specs.states.Known.{count, mark_of, object_of, object_mark}
use Rattle.pungi_symbol.specs.answers.SymbolicState.{class_of, balance_at, add_to, add_term, lower}
use Rattle.pungi_symbol.specs.runs.Fits.{is_the, named, FitsState, IsBelow, IsSound}
use Rattle.pungi_symbol.proofs.states.Contents.{IsKnown, is_open, term_value}
use Rattle.pungi_symbol.proofs.states.NamedObjects.{part, named_set}

pub not_the : (o : ℕ) (m : Mark) (v : Value) → is_mark m v ≡ true → is_open m ≡ false → (m ≡ IsObject → ⊥)
    → is_the o v ≡ false
not_the o m value.Null h e ne = refl
not_the o Pointer (value.Object k) h e ne = absurd (let bad : true ≡ false = e in cc)
not_the o TextPointer (value.Object k) h e ne = absurd (let bad : false ≡ true = h in cc)
not_the o IsNull (value.Object k) h e ne = absurd (let bad : false ≡ true = h in cc)
not_the o IsObject (value.Object k) h e ne = absurd (ne refl)
not_the o IsText (value.Object k) h e ne = absurd (let bad : false ≡ true = h in cc)
not_the o (IsNumber n) (value.Object k) h e ne = absurd (let bad : false ≡ true = h in cc)
not_the o (IsConverted n) (value.Object k) h e ne = absurd (let bad : false ≡ true = h in cc)
not_the o (Integer r) (value.Object k) h e ne = absurd (let bad : false ≡ true = h in cc)
not_the o m (value.Int n) h e ne = refl
not_the o m value.Text h e ne = refl

-- the terms of a call, each known
abbrev pub AreKnown : Known → List Term → Type 0
AreKnown k [] = Unit {0}
AreKnown k (x ∷ xs) = IsKnown k x × IsBelow (count k) x × AreKnown k xs

-- what an object owes for these terms
abbrev pub owing : ℕ → Table → List Term → ℤ
owing o table [] = pos 0
owing o table (x ∷ xs) = part (is_the o (term_value table x)) (negsuc 0) +ℤ owing o table xs

module _ (table : Table) (s : State) (fits : FitsState table s) (sound : IsSound s) where
  at_class : (o t : ℕ) (d : ℤ) (balances : List ℤ) → t < count s.known → length balances ≡ count s.known
      → named o table.values (slice_set balances (class_of s.classes t)
      (balance_at balances (class_of s.classes t) +ℤ d))
      ≡ named o table.values balances +ℤ part (is_the o (at table t)) d
  at_class o t d balances lt long =
      let older = sound.notes.class_older t lt in
      let below : class_of s.classes t < length balances = omega (arith, older, lt, long) in
      named_set o table.values balances (class_of s.classes t) d below
      ∙ ap (λ v. named o table.values balances +ℤ part (is_the o v) d) (fits.notes.classes t lt)

  off_mark : (o t : ℕ) (d : ℤ) (balances : List ℤ) (m : Mark) → mark_of s.known t ≡ m → (m ≡ IsObject → ⊥)
      → object_mark m t ≡ None → is_open m ≡ false → t < count s.known
      → named o table.values (add_to s.classes (object_mark m t) d balances)
      ≡ named o table.values balances +ℤ part (is_the o (at table t)) d
  off_mark o t d balances m e ne none closed lt =
      let is : is_mark m (at table t) ≡ true = subst (λ m. is_mark m (at table t) ≡ true) e (fits.notes.marks t lt) in
      let off : is_the o (at table t) ≡ false = not_the o m (at table t) is closed ne in
      ap (λ r. named o table.values (add_to s.classes r d balances)) none
      ∙ sym (ap (λ b. named o table.values balances +ℤ part b d) off ∙ (omega (arith, ints)))

  by_mark : (o t : ℕ) (d : ℤ) (balances : List ℤ) (m : Mark) → mark_of s.known t ≡ m → is_open m ≡ false
      → t < count s.known → length balances ≡ count s.known
      → named o table.values (add_to s.classes (object_mark m t) d balances)
      ≡ named o table.values balances +ℤ part (is_the o (at table t)) d
  by_mark o t d balances Pointer e closed lt long = absurd (let bad : true ≡ false = closed in cc)
  by_mark o t d balances TextPointer e closed lt long = absurd (let bad : true ≡ false = closed in cc)
  by_mark o t d balances IsNull e closed lt long = off_mark o t d balances IsNull e (λ h. cc) refl refl lt
  by_mark o t d balances IsObject e closed lt long = at_class o t d balances lt long
  by_mark o t d balances IsText e closed lt long = off_mark o t d balances IsText e (λ h. cc) refl refl lt
  by_mark o t d balances (IsNumber n) e closed lt long = off_mark o t d balances (IsNumber n) e (λ h. cc) refl refl lt
  by_mark o t d balances (IsConverted n) e closed lt long =
      off_mark o t d balances (IsConverted n) e (λ h. cc) refl refl lt
  by_mark o t d balances (Integer r) e closed lt long = off_mark o t d balances (Integer r) e (λ h. cc) refl refl lt

  -- a number at a term
  pub at_term : (o : ℕ) (x : Term) (d : ℤ) (balances : List ℤ) → IsKnown s.known x → IsBelow (count s.known) x
      → length balances ≡ count s.known
      → named o table.values (add_term s.classes s.known x d balances)
      ≡ named o table.values balances +ℤ part (is_the o (term_value table x)) d
  at_term o Unset d balances known below long = absurd known
  at_term o Null d balances known below long = omega (arith, ints)
  at_term o Text d balances known below long = omega (arith, ints)
  at_term o (Number n) d balances known below long = omega (arith, ints)
  at_term o (Token t) d balances known below long = by_mark o t d balances (mark_of s.known t) refl known below long
  at_term o (Sum u) d balances known below long = omega (arith, ints)

  pub add_to_long : (r : Option ℕ) (d : ℤ) (balances : List ℤ)
      → length (add_to s.classes r d balances) ≡ length balances
  add_to_long None d balances = refl
  add_to_long (Some t) d balances = length-set balances (class_of s.classes t)
      (balance_at balances (class_of s.classes t) +ℤ d)

  pub at_terms : (o : ℕ) (xs : List Term) (balances : List ℤ) → AreKnown s.known xs → length balances ≡ count s.known
      → named o table.values (lower s.classes s.known xs balances) ≡ named o table.values balances +ℤ owing o table xs
  at_terms o [] balances all long = omega (arith, ints)
  at_terms o (x ∷ xs) balances all long =
      let more = add_term s.classes s.known x (negsuc 0) balances in
      let first = at_term o x (negsuc 0) balances all.0 all.1 long in
      let rest = at_terms o xs more all.2 (add_to_long (object_of s.known x) (negsuc 0) balances ∙ long) in
      omega (arith, ints, first, rest)

  pub lowered_long : (xs : List Term) (balances : List ℤ)
      → length (lower s.classes s.known xs balances) ≡ length balances
  lowered_long [] balances = refl
  lowered_long (x ∷ xs) balances = lowered_long xs (add_term s.classes s.known x (negsuc 0) balances)
      ∙ add_to_long (object_of s.known x) (negsuc 0) balances
