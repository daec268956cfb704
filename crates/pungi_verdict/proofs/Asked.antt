-- What is asked of the functions of a file by their numbers.
use Rattle.std.proofs.Common.{◌≡◌, ◌∙◌, ℕ, ◌<◌, List, length, Option, Some, None, refl, ap, get_or, slice_get}
use Rattle.std.specs.Prelude.{IsSome}
use Rattle.std.proofs.lemmas.Option.{get_or_from_slice_get, slice_get_within}
use Rattle.pungi_code.specs.declared.code.Code.{Code}
use Rattle.pungi_code.specs.declared.code.Codes.{Codes}
use Rattle.pungi_code.specs.Frames.{flatten}
use Rattle.pungi_code.specs.Run.{code_at}

-- a function that has code is one of the file
pub has-code : (codes : Codes) (f : ℕ) → IsSome (code_at codes f)
    → (code : Code) × ((code_at codes f ≡ Some code) × (f < length codes.codes))
has-code codes f some = by (slice_get codes.codes f) refl (code_at codes f) refl some
  where
    by : (o : Option (Option Code)) → slice_get codes.codes f ≡ o → (c : Option Code) → flatten o ≡ c → IsSome c
        → (code : Code) × ((code_at codes f ≡ Some code) × (f < length codes.codes))
    by o is None e none = absurd (cc)
    by None is (Some code) e there = absurd (cc)
    by (Some x) is (Some code) e there = (code, (ap flatten is ∙ e, slice_get_within codes.codes f x is))

pub code-below : (codes : Codes) (f : ℕ) (code : Code) → code_at codes f ≡ Some code → f < length codes.codes
code-below codes f code is = by (slice_get codes.codes f) refl is
  where
    by : (o : Option (Option Code)) → slice_get codes.codes f ≡ o → flatten o ≡ Some code → f < length codes.codes
    by None at e = absurd (cc)
    by (Some x) at e = slice_get_within codes.codes f x at

-- what is read at a place stands there
pub read-line : {A : Type 0} (xs : List A) (k : ℕ) (x y : A) → k < length xs
    → x ≡ get_or xs k x → slice_get xs k ≡ Some y
    → x ≡ y
read-line xs k x y lt is at = is ∙ get_or_from_slice_get xs k y x at
