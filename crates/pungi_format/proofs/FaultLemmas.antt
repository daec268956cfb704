-- A reading of a text from the left, as far as it has come without a fault.
use Rattle.std.proofs.Common.{◌≡◌, ◌∙◌, ℕ, ◌+◌, ◌<◌, List, [], ◌∷◌, ◌++◌, length, take, drop, slice_index, None, refl}
use Rattle.std.proofs.Common.{sym, ap, add-one}
use Rattle.std.specs.Option.{option_or}
use Rattle.std.proofs.Math.Seq.{drop-cons}
use Rattle.std.proofs.lemmas.List.{take_more}
use Rattle.pungi_format.specs.FormatFault.{Rule, first_after, first_fault}

pub step_drop : (text : List ℕ) (i : ℕ) → i < length text → drop i text ≡ slice_index text i ∷ drop (i + 1) text
step_drop text i lt = rw (add-one, drop-cons text i 0) refl

-- the first fault of the text is that of what is left
pub record NoFaultBefore (rule : Rule) (text : List ℕ) (i : ℕ) : Type 0 where
  pub left : first_after rule (take i text) (drop i text) ≡ first_fault rule text

pub none_yet : (rule : Rule) (text : List ℕ) → NoFaultBefore rule text 0
none_yet rule text = record { left = refl }

here : (rule : Rule) (text : List ℕ) (i : ℕ) → i < length text → NoFaultBefore rule text i
    → option_or (rule (take i text) (slice_index text i)) (first_after rule (take (i + 1) text) (drop (i + 1) text))
    ≡ first_fault rule text
here rule text i lt h =
    let d : drop i text ≡ slice_index text i ∷ drop (i + 1) text = step_drop text i lt in
    let t : take (i + 1) text ≡ take i text ++ slice_index text i ∷ [] = take_more text i 0 lt in
    rw t (sym (ap (first_after rule (take i text)) d) ∙ h.left)

pub none_here : (rule : Rule) (text : List ℕ) (i : ℕ) → i < length text → NoFaultBefore rule text i
    → rule (take i text) (slice_index text i) ≡ None → NoFaultBefore rule text (i + 1)
none_here rule text i lt h none = record { left = rw none at (here rule text i lt h) }
