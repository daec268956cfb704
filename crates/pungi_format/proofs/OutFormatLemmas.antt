-- A format that builds a value, read as far as a place.
use Rattle.std.proofs.Common.{◌≡◌, ◌∙◌, ℕ, ◌+◌, ◌<◌, ◌||◌, true, false, List, [], ◌∷◌, ◌++◌, length, take, reverse}
use Rattle.std.proofs.Common.{slice_index, Option, None, Some, is_some, refl, sym, ap, arith, add-zero, append-nil}
use Rattle.std.specs.Option.{option_to_list}
use Rattle.std.specs.List.{filter_map}
use Rattle.std.proofs.lemmas.List.{take_more, length-take-le, reverse-append}
use Rattle.std.proofs.lemmas.List.Elements.{filter_map-append}
use Rattle.std.proofs.lemmas.Bool.Decides.{nat_tests}
use Rattle.pungi_format.specs.declared.out_unit.OutUnit.{OutUnit}
use Rattle.pungi_format.specs.declared.out_format.Group.{Group}
use Rattle.pungi_format.specs.OutFormat.{out_letter, closing_of, is_closing, is_blank, is_closed, opened, open_after}
use Rattle.pungi_format.specs.OutFormat.{open_in, out_rule, out_units, Closes}
use Rattle.pungi_format.proofs.FaultLemmas.{NoFaultBefore, none_yet, none_here}

open_more : (at : ℕ) (groups : List Group) (xs : List ℕ) (b : ℕ)
    → open_after at groups (xs ++ b ∷ []) ≡ opened (closing_of b) (at + length xs) (open_after at groups xs) b
open_more at groups [] b = rw add-zero refl
open_more at groups (x ∷ xs) b =
    let e : (at + 1) + length xs ≡ at + length (x ∷ xs) = omega arith in
    rw (← e) (open_more (at + 1) (opened (closing_of x) at groups x) xs b)

letter_only : (b : ℕ) (u : OutUnit) → out_letter b ≡ Some u → (closing_of b ≡ None) × (is_closing b ≡ false)
letter_only b u h = (grind (arith, nat_tests), grind (arith, nat_tests))

opening_only : (b c : ℕ) → closing_of b ≡ Some c → is_closing b ≡ false
opening_only b c h = grind (arith, nat_tests)

pub record BuiltAsFar (text : List ℕ) (units : List OutUnit) (groups : List Group) (i : ℕ) : Type 0 where
  pub spelled : units ≡ out_units (take i text)
  pub brackets : reverse groups ≡ open_in (take i text)
  pub faults : NoFaultBefore out_rule text i

pub begun : (text : List ℕ) → BuiltAsFar text [] [] 0
begun text = record { spelled = refl; brackets = refl; faults = none_yet out_rule text }

-- a byte without a fault
pub step : (text : List ℕ) (units units' : List OutUnit) (groups groups' : List Group) (i : ℕ) → i < length text
    → BuiltAsFar text units groups i
    → out_rule (take i text) (slice_index text i) ≡ None
    → units' ≡ units ++ option_to_list (out_letter (slice_index text i))
    → reverse groups' ≡ opened (closing_of (slice_index text i)) i (reverse groups) (slice_index text i)
    → BuiltAsFar text units' groups' (i + 1)
step text units units' groups groups' i lt r none more_units more_groups = record {
  spelled = rw (take_more text i 0 lt, filter_map-append out_letter (take i text) (slice_index text i ∷ []))
      (more_units ∙ rw (r.spelled, one) refl);
  brackets = rw (take_more text i 0 lt, open_more 0 [] (take i text) (slice_index text i), at)
      (more_groups ∙ ap (λ g. opened (closing_of (slice_index text i)) i g (slice_index text i)) r.brackets);
  faults = none_here out_rule text i lt r.faults none;
}
  where
    one : filter_map out_letter (slice_index text i ∷ []) ≡ option_to_list (out_letter (slice_index text i))
    one = go (out_letter (slice_index text i)) refl
      where
        go : (o : Option OutUnit) → out_letter (slice_index text i) ≡ o
            → filter_map out_letter (slice_index text i ∷ []) ≡ option_to_list (out_letter (slice_index text i))
        go None e = rw e refl
        go (Some u) e = rw e refl

    at : 0 + length (take i text) ≡ i
    at = omega (arith, length-take-le i text (omega (arith, lt)))

unclosing : (before : List ℕ) (b : ℕ) → is_closing b ≡ false
    → (is_some (out_letter b) || is_some (closing_of b) || is_blank b) ≡ true → out_rule before b ≡ None
unclosing before b unclosed known = rw (unclosed, known) refl

pub unit_built : (text : List ℕ) (units : List OutUnit) (groups : List Group) (i : ℕ) (u : OutUnit)
    → i < length text → BuiltAsFar text units groups i
    → out_letter (slice_index text i) ≡ Some u → BuiltAsFar text (units ++ u ∷ []) groups (i + 1)
unit_built text units groups i u lt r is =
    let alone = letter_only (slice_index text i) u is in
    let closing : is_closing (slice_index text i) ≡ false = alone.1 in
    let opening : closing_of (slice_index text i) ≡ None = alone.0 in
    step text units (units ++ u ∷ []) groups groups i lt r (unclosing (take i text) (slice_index text i) closing
    (rw is refl)) (rw is refl) (rw (opening, closing) refl)

pub group_opened : (text : List ℕ) (units : List OutUnit) (groups : List Group) (i c : ℕ) → i < length text
    → BuiltAsFar text units groups i
    → out_letter (slice_index text i) ≡ None → closing_of (slice_index text i) ≡ Some c
    → BuiltAsFar text units (groups ++ record { place = i; closing = c } ∷ []) (i + 1)
group_opened text units groups i c lt r no_unit is =
    let closing : is_closing (slice_index text i) ≡ false = opening_only (slice_index text i) c is in
    step text units units groups (groups ++ record { place = i; closing = c } ∷ []) i lt r
    (unclosing (take i text) (slice_index text i) closing (rw (no_unit, is) refl))
    (rw no_unit (sym (append-nil units))) (rw is (reverse-append groups (record { place = i; closing = c } ∷ [])))

pub group_closed : (text : List ℕ) (units : List OutUnit) (groups groups' : List Group) (i : ℕ) → i < length text
    → BuiltAsFar text units groups i
    → out_letter (slice_index text i) ≡ None → closing_of (slice_index text i) ≡ None
    → is_closing (slice_index text i) ≡ true
    → Closes (reverse groups) (slice_index text i) (reverse groups') true → BuiltAsFar text units groups' (i + 1)
group_closed text units groups groups' i lt r no_unit no_opening closing closes =
    step text units units groups groups' i lt r
    (let e : is_closed (open_in (take i text)) (slice_index text i)
    ≡ true = rw r.brackets at closes.0 in rw (closing, e) refl)
    (rw no_unit (sym (append-nil units))) (rw (no_opening, closing) closes.1)

pub blank_passed : (text : List ℕ) (units : List OutUnit) (groups : List Group) (i : ℕ) → i < length text
    → BuiltAsFar text units groups i
    → out_letter (slice_index text i) ≡ None → closing_of (slice_index text i) ≡ None
    → is_closing (slice_index text i) ≡ false → is_blank (slice_index text i) ≡ true
    → BuiltAsFar text units groups (i + 1)
blank_passed text units groups i lt r no_unit no_opening no_closing blank =
    step text units units groups groups i lt r (unclosing (take i text) (slice_index text i) no_closing
    (rw (no_unit, no_opening, blank) refl))
    (rw no_unit (sym (append-nil units))) (rw (no_opening, no_closing) refl)
