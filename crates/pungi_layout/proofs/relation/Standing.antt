-- Instructions that stand in the code, one after another.
use Rattle.std.proofs.Common.{◌≡◌, ℕ, ◌+◌, ◌<◌, List, [], ◌∷◌, ◌++◌, length, Some, ap, ◌∙◌, subst, arith, append_assoc}
use Rattle.std.proofs.Common.{length-append}
use Rattle.std.specs.Prelude.{slice_get}
use Rattle.std.proofs.Math.Seq.{get_or-append_seam}
use Rattle.std.proofs.lemmas.Option.{slice_get-get_or}
use Rattle.pungi_code.specs.declared.code.Line.{Line}

abbrev pub HasAt : List Line → ℕ → List Line → Type 0
HasAt code pc [] = Unit {0}
HasAt code pc (i ∷ is) = (slice_get code pc ≡ Some i) × HasAt code (pc + 1) is

pub has_front : (code : List Line) (pc : ℕ) (a b : List Line) → HasAt code pc (a ++ b) → HasAt code pc a
has_front code pc [] b h = tt
has_front code pc (i ∷ a) b h = (h.0, has_front code (pc + 1) a b h.1)

pub has_back : (code : List Line) (pc n : ℕ) (a b : List Line) → pc + length a ≡ n → HasAt code pc (a ++ b)
    → HasAt code n b
has_back code pc n [] b e h = let f : pc ≡ n = omega (arith, e) in subst (λ x. HasAt code x b) f h
has_back code pc n (i ∷ a) b e h = has_back code (pc + 1) n a b (omega (arith, e)) h.1

pub has_all : (is before : List Line) → HasAt (before ++ is) (length before) is
has_all [] before = tt
has_all (i ∷ is) before =
    let within : length before < length (before ++ i ∷ is) = omega (arith, length-append before (i ∷ is)) in
    let here = slice_get-get_or (before ++ i ∷ is) (length before) i within
    ∙ ap Some (get_or-append_seam before i is i) in
    let n : length (before ++ i ∷ []) ≡ length before + 1 = omega (arith, length-append before (i ∷ [])) in
    let rest = has_all is (before ++ i ∷ []) in
    let rest' = subst (λ l. HasAt l (length (before ++ i ∷ [])) is) (append_assoc before (i ∷ []) is) rest in
    (here, subst (λ m. HasAt (before ++ i ∷ is) m is) n rest')

pub has_cut : (code : List Line) (pc n : ℕ) (a b : List Line) → length a ≡ n → HasAt code pc (a ++ b)
    → HasAt code pc a × HasAt code (pc + n) b
has_cut code pc n a b e h = (has_front code pc a b h, has_back code pc (pc + n) a b (ap (λ x. pc + x) e) h)
