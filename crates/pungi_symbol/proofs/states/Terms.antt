-- Terms stay sound where variables and slots change, and where more is known.
use Rattle.std.proofs.Common.{◌≡◌, ◌≢◌, ℕ, zero, suc, ◌+◌, ◌<◌, ◌≤◌, List, [], ◌∷◌, ◌++◌, length, get_or, true, false}
use Rattle.std.proofs.Common.{sym, ap, ◌∙◌, subst, arith, length-append}
use Rattle.std.specs.Prelude.{slice_set}
use Rattle.std.proofs.Math.ListN.{length-set, get_or-append}
use Rattle.std.proofs.lemmas.List.{get_or-set_other}
use Rattle.pungi_code.specs.declared.atom.Atom.{Atom}
use Rattle.pungi_code.specs.declared.atom.Atom.TheVariants as atom
use Rattle.pungi_symbol.specs.declared.states.known.Known.{Known}
use Rattle.pungi_symbol.specs.declared.states.mark.Mark.{Mark}
use Rattle.pungi_symbol.specs.declared.states.mark.Mark.TheVariants.{IsNull, IsObject}
use Rattle.pungi_symbol.specs.declared.states.spot.Spot.{Spot}
use Rattle.pungi_symbol.specs.declared.states.spot.Spot.TheVariants.{Global, Field}
use Rattle.pungi_symbol.specs.declared.states.spot.Touched.{Touched}
use Rattle.pungi_symbol.specs.declared.states.term.Term.{Term}
use Rattle.pungi_symbol.specs.declared.states.term.Term.TheVariants.{Unset, Null, Text, Number, Token, Sum}
use Rattle.pungi_symbol.specs.states.Known.{no_slot, slot_note, term_of}
use Rattle.pungi_code.specs.WellFormed.{is_there}
use Rattle.pungi_symbol.specs.runs.Fits.{IsBelow, IsObjectSpot, AreTermsSound}
use Rattle.pungi_symbol.proofs.states.Contents.{is_open, static_below}

pub below_more : (n m : ℕ) (x : Term) → n ≤ m → IsBelow n x → IsBelow m x
below_more n m Unset le h = tt
below_more n m Null le h = tt
below_more n m Text le h = tt
below_more n m (Number k) le h = tt
below_more n m (Token t) le h = omega (arith, h, le)
below_more n m (Sum s) le h = tt

-- what is true of each element stays so where one is replaced
pub set_each : {X : Type 0} (P : X → Type 0) (xs : List X) (i : ℕ) (x d : X) → ((z : ℕ) → P (get_or xs z d)) → P x
    → (z : ℕ) → P (get_or (slice_set xs i x) z d)
set_each P [] i x d all h z = all z
set_each P (v ∷ xs) zero x d all h zero = h
set_each P (v ∷ xs) zero x d all h (suc z) = all (suc z)
set_each P (v ∷ xs) (suc i) x d all h zero = all zero
set_each P (v ∷ xs) (suc i) x d all h (suc z) = set_each P xs i x d (λ y. all (suc y)) h z

pub end_each : {X : Type 0} (P : X → Type 0) (xs : List X) (x d : X) → P d → ((z : ℕ) → P (get_or xs z d)) → P x
    → (z : ℕ) → P (get_or (xs ++ x ∷ []) z d)
end_each P [] x d o all h zero = h
end_each P [] x d o all h (suc z) = o
end_each P (v ∷ xs) x d o all h zero = all zero
end_each P (v ∷ xs) x d o all h (suc z) = end_each P xs x d o (λ y. all (suc y)) h z

object_below : (ms : List Mark) (t : ℕ) → get_or ms t IsNull ≡ IsObject → t < length ms
object_below [] t e = absurd (let bad : IsNull ≡ IsObject = e in cc)
object_below (m ∷ ms) zero e = omega arith
object_below (m ∷ ms) (suc t) e = let h = object_below ms t e in omega (arith, h)

pub object_is_below : (ms : List Mark) (t : ℕ) → get_or ms t IsNull ≡ IsObject → t < length ms
object_is_below ms t e = object_below ms t e

pub open_below : (ms : List Mark) (t : ℕ) → is_open (get_or ms t IsNull) ≡ true → t < length ms
open_below [] t e = absurd (let bad : false ≡ true = e in cc)
open_below (m ∷ ms) zero e = omega arith
open_below (m ∷ ms) (suc t) e = let h = open_below ms t e in omega (arith, h)

pub spot_more : (ms : List Mark) (m : Mark) (s : Spot) → IsObjectSpot ms s → IsObjectSpot (ms ++ m ∷ []) s
spot_more ms m (Global n) h = tt
spot_more ms m (Field t tag field) h = get_or-append ms (m ∷ []) IsNull t (object_below ms t h) ∙ h

spot_set : (ms : List Mark) (t : ℕ) (m : Mark) (s : Spot) → is_open (get_or ms t IsNull) ≡ true → IsObjectSpot ms s
    → IsObjectSpot (slice_set ms t m) s
spot_set ms t m (Global n) o h = tt
spot_set ms t m (Field u tag field) o h =
    let ne : u ≢ t = λ e. let bad : true ≡ false = sym o ∙ ap (λ z. is_open (get_or ms z IsNull)) (sym e)
    ∙ ap is_open h in cc in
    get_or-set_other ms t u m IsNull ne ∙ h

module _ (ms : List Mark) (vars : List Term) (slots : List Touched) (w : AreTermsSound ms vars slots) where
  pub put_terms : (x : ℕ) (c : Term) → IsBelow (length ms) c → AreTermsSound ms (slice_set vars x c) slots
  put_terms x c h = record {
    vars_below = set_each (IsBelow (length ms)) vars x c Unset w.vars_below h;
    held = w.held;
    at_entry = w.at_entry;
    spots = w.spots;
  }

  pub stored_terms : (i : ℕ) (c : Term) → IsBelow (length ms) c
      → AreTermsSound ms vars (slice_set slots i (record (slot_note slots i) { held = c }))
  stored_terms i c h =
      let new : Touched = record (slot_note slots i) { held = c } in
      record {
        vars_below = w.vars_below;
        held = set_each (λ s. IsBelow (length ms) s.held) slots i new no_slot w.held h;
        at_entry = set_each (λ s. IsBelow (length ms) s.at_entry) slots i new no_slot w.at_entry (w.at_entry i);
        spots = set_each (λ s. IsObjectSpot ms s.spot) slots i new no_slot w.spots (w.spots i);
      }

  pub touched_terms : (new : Touched) → IsBelow (length ms) new.held → IsBelow (length ms) new.at_entry
      → IsObjectSpot ms new.spot → AreTermsSound ms vars (slots ++ new ∷ [])
  touched_terms new h e s = record {
    vars_below = w.vars_below;
    held = end_each (λ s. IsBelow (length ms) s.held) slots new no_slot tt w.held h;
    at_entry = end_each (λ s. IsBelow (length ms) s.at_entry) slots new no_slot tt w.at_entry e;
    spots = end_each (λ s. IsObjectSpot ms s.spot) slots new no_slot tt w.spots s;
  }

  pub more_terms : (m : Mark) → AreTermsSound (ms ++ m ∷ []) vars slots
  more_terms m =
      let len : length (ms ++ m ∷ []) ≡ length ms + 1 = length-append ms (m ∷ []) in
      let le : length ms ≤ length (ms ++ m ∷ []) = omega (arith, len) in
      record {
        vars_below = λ x. below_more (length ms) (length (ms ++ m ∷ [])) (get_or vars x Unset) le (w.vars_below x);
        held = λ i. below_more (length ms) (length (ms ++ m ∷ [])) (slot_note slots i).held le (w.held i);
        at_entry = λ i. below_more (length ms) (length (ms ++ m ∷ [])) (slot_note slots i).at_entry le (w.at_entry i);
        spots = λ i. spot_more ms m (slot_note slots i).spot (w.spots i);
      }

  pub null_terms : (t : ℕ) (m : Mark) → is_open (get_or ms t IsNull) ≡ true
      → AreTermsSound (slice_set ms t m) vars slots
  null_terms t m o =
      let len : length (slice_set ms t m) ≡ length ms = length-set ms t m in
      record {
        vars_below = λ x. subst (λ n. IsBelow n (get_or vars x Unset)) (sym len) (w.vars_below x);
        held = λ i. subst (λ n. IsBelow n (slot_note slots i).held) (sym len) (w.held i);
        at_entry = λ i. subst (λ n. IsBelow n (slot_note slots i).at_entry) (sym len) (w.at_entry i);
        spots = λ i. spot_set ms t m (slot_note slots i).spot o (w.spots i);
      }

  -- the terms of atoms
  pub atom_below : (k : Known) (statics : ℕ) (a : Atom) → k.vars ≡ vars → statics ≤ length ms
      → is_there statics a ≡ true → IsBelow (length ms) (term_of k a)
  atom_below k statics (atom.Var x) e le h = subst (λ vs. IsBelow (length ms) (get_or vs x.0 Unset)) (sym e)
      (w.vars_below x.0)
  atom_below k statics (atom.Int n) e le h = tt
  atom_below k statics atom.Null e le h = tt
  atom_below k statics atom.Text e le h = tt
  atom_below k statics (atom.Static n) e le h = let lt = static_below n statics h in omega (arith, lt, le)
