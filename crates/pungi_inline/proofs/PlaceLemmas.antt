-- Where the parts of a code begin: the list of places that grows from part to part.
use Rattle.std.proofs.Common.{◌≡◌, ℕ, zero, suc, ◌+◌, ◌-◌, ◌<◌, min, List, [], ◌∷◌, ◌++◌, length, take, drop, get_or}
use Rattle.std.proofs.Common.{ap, ◌∙◌, arith, below_more}
use Rattle.std.proofs.Math.Path.{fun_ext}
use Rattle.std.proofs.lemmas.List.{drop_more, get_or_append_left, get_or_push, take_min}
use Rattle.pungi_inline.specs.Places.{place_in}
use Rattle.pungi_inline.specs.Sites.{total, place_from}

total_suc : (ns : List ℕ) (i : ℕ) → i < length ns → total (take (suc i) ns) ≡ total (take i ns) + get_or ns i 0
total_suc [] i lt = absurd (omega arith)
total_suc (n ∷ ns) zero lt = omega arith
total_suc (n ∷ ns) (suc i) lt = let e = total_suc ns i (omega arith) in omega arith

-- the parts up to the next one take so much more
pub total_more : (ns : List ℕ) (i : ℕ) → i < length ns → total (take (i + 1) ns) ≡ total (take i ns) + get_or ns i 0
total_more ns i lt =
    let next : i + 1 ≡ suc i = omega arith in
    ap (λ k. total (take k ns)) next ∙ total_suc ns i lt

-- what is left after it takes so much less
pub total_less : (ns : List ℕ) (i : ℕ) → i < length ns → total (drop i ns) ≡ get_or ns i 0 + total (drop (i + 1) ns)
total_less ns i lt = ap total (drop_more ns i 0 lt)

-- one more place
pub places_more : (start : ℕ) (starts sizes : List ℕ) (i at : ℕ) → length starts ≡ i + 1
    → at ≡ start + total (take (i + 1) sizes)
    → ((k : ℕ) → k < i + 1 → get_or starts k 0 ≡ start + total (take k sizes)) → (k : ℕ) → k < i + 1 + 1
    → get_or (starts ++ at ∷ []) k 0 ≡ start + total (take k sizes)
places_more start starts sizes i at long is below =
    below_more (λ k. get_or (starts ++ at ∷ []) k 0 ≡ start + total (take k sizes)) (i + 1)
    (λ k lt. get_or_append_left starts (at ∷ []) 0 k (omega arith) ∙ below k lt)
    (get_or_push starts at 0 (i + 1) long ∙ is)

-- all places
pub places_all : (start : ℕ) (starts sizes : List ℕ) → length starts ≡ length sizes + 1
    → ((k : ℕ) → k < length sizes + 1 → get_or starts k 0 ≡ start + total (take k sizes))
    → place_in starts ≡ place_from start sizes
places_all start starts sizes long each =
    fun_ext (λ l. let same : min l (length starts - 1) ≡ min l (length sizes) = omega arith in
    ap (λ k. get_or starts k 0) same
    ∙ each (min l (length sizes)) (omega arith)
    ∙ ap (λ ns. start + total ns) (take_min l sizes))
