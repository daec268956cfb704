-- The last of a list.
use Rattle.std.proofs.Common.{◌≡◌, ℕ, zero, suc, List, [], ◌∷◌, length, ap, ◌∙◌, arith}
use Rattle.std.specs.Prelude.{slice_index_or, slice_set}
use Rattle.pungi_io.specs.OpenedText.{Opened, on_last}

-- writing what comes of the last element in its place changes the last
pub set_last : (f : Opened → Opened) (ts : List Opened) (n : ℕ) (old new : Opened) → suc n ≡ length ts
    → old ≡ slice_index_or ts n old → new ≡ f old → slice_set ts n new ≡ on_last f ts
set_last f [] n old new many is made = absurd (omega (arith, many))
set_last f (t ∷ []) zero old new many is made = ap (λ (u : Opened). u ∷ []) (made ∙ ap f is)
set_last f (t ∷ []) (suc n) old new many is made = absurd (omega (arith, many))
set_last f (t ∷ u ∷ ts) zero old new many is made = absurd (omega (arith, many))
set_last f (t ∷ u ∷ ts) (suc n) old new many is made =
    ap (λ (us : List Opened). t ∷ us) (set_last f (u ∷ ts) n old new (omega (arith, many)) is made)
