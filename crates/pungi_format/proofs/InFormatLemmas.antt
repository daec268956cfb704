-- A format that takes arguments apart, read as far as a place.
use Rattle.std.proofs.Common.{◌≡◌, ◌∙◌, ℕ, ◌+◌, ◌<◌, ◌==◌, Bool, true, false, List, [], ◌∷◌, ◌++◌, length, take, drop}
use Rattle.std.proofs.Common.{slice_index, Option, None, Some, is_some, refl, sym, ap, arith, append_assoc}
use Rattle.std.proofs.Common.{length-append, ◌||◌}
use Rattle.std.specs.Option.{option_to_list}
use Rattle.std.proofs.lemmas.List.{take_more}
use Rattle.std.proofs.lemmas.List.Folds.{list_any-append}
use Rattle.pungi_format.specs.declared.in_unit.InUnit.{InUnit}
use Rattle.pungi_format.specs.InFormat.{bar_byte}
use Rattle.pungi_format.specs.InFormat.{units_of, required_of, unit_before, has_bar, in_rule}
use Rattle.pungi_format.proofs.FaultLemmas.{step_drop, NoFaultBefore, none_yet, none_here}

-- how many units are required, where the bar was or wasn't seen
abbrev pub Counts : Option ℕ → List InUnit → List ℕ → List ℕ → Type 0
Counts (Some n) units left text = n ≡ required_of text
Counts None units left text = length units + required_of left ≡ required_of text

pub record ReadAsFar (text : List ℕ) (units : List InUnit) (required : Option ℕ) (i : ℕ) : Type 0 where
  pub spelled : units ++ units_of (drop i text) ≡ units_of text
  pub counted : Counts required units (drop i text) text
  pub bar : is_some required ≡ has_bar (take i text)
  pub faults : NoFaultBefore in_rule text i

pub begun : (text : List ℕ) → ReadAsFar text [] None 0
begun text = record { spelled = refl; counted = omega arith; bar = refl; faults = none_yet in_rule text }

more_bar : (text : List ℕ) (i : ℕ) → i < length text
    → has_bar (take (i + 1) text) ≡ (has_bar (take i text) || (slice_index text i == bar_byte || false))
more_bar text i lt =
    rw (take_more text i 0 lt) (list_any-append (λ b. b == bar_byte) (take i text) (slice_index text i ∷ []))

-- a byte that is no bar
pub unit_read : (text : List ℕ) (units : List InUnit) (required : Option ℕ) (i : ℕ) (o : Option InUnit)
    → i < length text → ReadAsFar text units required i
    → in_rule (take i text) (slice_index text i) ≡ None → (slice_index text i == bar_byte) ≡ false
    → o ≡ unit_before (slice_index text i) (drop (i + 1) text)
    → ReadAsFar text (units ++ option_to_list o) required (i + 1)
unit_read text units required i o lt r none no_bar is = record {
  spelled = rw (append_assoc, is, ← step_drop_units) r.spelled;
  counted = counts required r.counted;
  bar = r.bar ∙ sym (more_bar text i lt ∙ rw no_bar (or_false (has_bar (take i text))));
  faults = none_here in_rule text i lt r.faults none;
}
  where
    step : drop i text ≡ slice_index text i ∷ drop (i + 1) text
    step = step_drop text i lt

    step_drop_units : units_of (drop i text) ≡ option_to_list (unit_before (slice_index text i) (drop (i + 1) text))
        ++ units_of (drop (i + 1) text)
    step_drop_units = ap units_of step

    step_required : required_of (drop i text) ≡ length (option_to_list o) + required_of (drop (i + 1) text)
    step_required = ap required_of step ∙ rw (no_bar, ← is) refl

    or_false : (b : Bool) → (b || false) ≡ b
    or_false true = refl
    or_false false = refl

    counts : (required : Option ℕ) → Counts required units (drop i text) text
        → Counts required (units ++ option_to_list o) (drop (i + 1) text) text
    counts (Some n) h = h
    counts None h = omega (arith, h, step_required, length-append units (option_to_list o))

no_bar_before : (before : List ℕ) → in_rule before bar_byte ≡ None → has_bar before ≡ false
no_bar_before before none = go (has_bar before) refl
  where
    go : (b : Bool) → has_bar before ≡ b → has_bar before ≡ false
    go true e = let f = rw e at none in cc
    go false e = e

-- the bar
pub bar_read : (text : List ℕ) (units : List InUnit) (required : Option ℕ) (i : ℕ) → i < length text
    → ReadAsFar text units required i
    → in_rule (take i text) (slice_index text i) ≡ None → slice_index text i ≡ bar_byte
    → ReadAsFar text units (Some (length units)) (i + 1)
bar_read text units required i lt r none is = record {
  spelled = (let e : units_of (drop i text) ≡ units_of (drop (i + 1) text) = ap units_of step in rw (← e) r.spelled);
  counted = (let e : required_of (drop i text) ≡ 0 = ap required_of step in counts required r.counted
      (r.bar ∙ none_before) e);
  bar = sym (more_bar text i lt ∙ rw (none_before, is) refl);
  faults = none_here in_rule text i lt r.faults none;
}
  where
    step : drop i text ≡ bar_byte ∷ drop (i + 1) text
    step = step_drop text i lt ∙ ap (λ b. b ∷ drop (i + 1) text) is

    none_before : has_bar (take i text) ≡ false
    none_before = no_bar_before (take i text) (rw is at none)

    counts : (required : Option ℕ) → Counts required units (drop i text) text → is_some required ≡ false
        → required_of (drop i text) ≡ 0 → length units ≡ required_of text
    counts (Some n) h some e = absurd cc
    counts None h some e = omega (arith, h, e)
