-- The words are distinct, so each is added last.
use Rattle.std.proofs.Common.{◌≡◌, ℕ, zero, suc, ◌+◌, ◌<◌, Bool, true, false, not, ◌&&◌, List, [], ◌∷◌, ◌++◌, length}
use Rattle.std.proofs.Common.{get_or, take, refl, sym, ap, ◌∙◌, append_assoc, arith, true≢false}
use Rattle.std.proofs.lemmas.List.{append-nil}
use Rattle.std.specs.Prelude.{if◌then◌else◌}
use Rattle.pungi_base.specs.Names.{has_text, with_text}
use Rattle.pungi_base.specs.Words.{builtin_words}

-- each word is new after those before it
abbrev all_new : List (List ℕ) → List (List ℕ) → Bool
all_new before [] = true
all_new before (w ∷ words) = not (has_text before w) && all_new (before ++ w ∷ []) words

words_new : all_new [] builtin_words ≡ true
words_new = refl

new_word : (before : List (List ℕ)) (w : List ℕ) (b : Bool) → has_text before w ≡ b → not b ≡ true
    → with_text before w ≡ before ++ w ∷ []
new_word before w true e h = absurd (true≢false (sym h))
new_word before w false e h = ap (λ (c : Bool). if c then before else before ++ w ∷ []) e

and_left : (a b : Bool) → (a && b) ≡ true → a ≡ true
and_left true b h = refl
and_left false b h = h

and_right : (a b : Bool) → (a && b) ≡ true → b ≡ true
and_right true b h = h
and_right false b h = absurd (true≢false (sym h))

add_next : (before words : List (List ℕ)) (i : ℕ) → all_new before words ≡ true → i < length words
    → with_text (before ++ take i words) (get_or words i []) ≡ before ++ take (suc i) words
add_next before [] i h lt = absurd (omega arith)
add_next before (w ∷ words) zero h lt =
    ap (λ (b : List (List ℕ)). with_text b w) (append-nil before)
    ∙ new_word before w (has_text before w) refl (and_left (not (has_text before w))
    (all_new (before ++ w ∷ []) words) h)
add_next before (w ∷ words) (suc i) h lt =
    ap (λ (b : List (List ℕ)). with_text b (get_or words i [])) (sym (append_assoc before (w ∷ []) (take i words)))
    ∙ add_next (before ++ w ∷ []) words i (and_right (not (has_text before w)) (all_new (before ++ w ∷ []) words) h)
    (omega arith)
    ∙ append_assoc before (w ∷ []) (take (suc i) words)

pub next_word : (i : ℕ) → i < length builtin_words
    → with_text (take i builtin_words) (get_or builtin_words i []) ≡ take (i + 1) builtin_words
next_word i lt =
    let more : suc i ≡ i + 1 = omega arith in
    add_next [] builtin_words i words_new lt ∙ ap (λ (n : ℕ). take n builtin_words) more
