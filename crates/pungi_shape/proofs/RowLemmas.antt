-- How many numbers are held, and the forms of those that are kept.
use Rattle.std.proofs.Common.{◌≡◌, ◌∙◌, ℕ, zero, suc, ◌+◌, List, [], ◌∷◌, ◌++◌, length, map, get_or, Bool, true, false}
use Rattle.std.proofs.Common.{refl, sym, ap, arith, cond, length-append, Option, Some, None, pos, ◌==◌}
use Rattle.std.proofs.Common.{if◌then◌else◌}
use Rattle.std.specs.List.{All, enumerate_from, filter, flat_map, zip}
use Rattle.std.proofs.lemmas.List.Elements.{All-cons, All-nil, All-head, All-tail, All-append}
use Rattle.std.proofs.lemmas.List.FromFn.{length-map-range_with_len}
use Rattle.std.proofs.lemmas.List.Sums.{sum_by-cons}
use Rattle.pungi_shape.specs.declared.holding.Holding.{Holding}
use Rattle.pungi_shape.specs.declared.holding.Holding.TheVariants.{Dead, Unset, Null, Text, Known, Number, Token}
use Rattle.pungi_shape.specs.Forms.{Form, one_if, unit, zero_form}
use Rattle.pungi_shape.specs.Shapes.{is_number, rename_holding, count_of_numbers}
use Rattle.pungi_shape.specs.Liveness.{is_among}
use Rattle.pungi_shape.specs.Scenes.{form_or}
use Rattle.pungi_shape.specs.Arrivals.{drop_of, numbers_kept}

-- ---- how many numbers

pub count_cons : (h : Holding) (hs : List Holding)
    → count_of_numbers (h ∷ hs) ≡ one_if (is_number h) + count_of_numbers hs
count_cons h hs = sum_by-cons (λ x. cond (is_number x) 1 0) h hs

pub number_renamed : (g : ℕ → ℕ) (h : Holding) → is_number (rename_holding g h) ≡ is_number h
number_renamed g Dead = refl
number_renamed g Unset = refl
number_renamed g Null = refl
number_renamed g Text = refl
number_renamed g (Known n) = refl
number_renamed g Number = refl
number_renamed g (Token t) = refl

pub count_renamed : (g : ℕ → ℕ) (hs : List Holding)
    → count_of_numbers (map (rename_holding g) hs) ≡ count_of_numbers hs
count_renamed g [] = refl
count_renamed g (h ∷ hs) =
    count_cons (rename_holding g h) (map (rename_holding g) hs)
    ∙ ap (λ b. one_if b + count_of_numbers (map (rename_holding g) hs)) (number_renamed g h)
    ∙ ap (λ n. one_if (is_number h) + n) (count_renamed g hs) ∙ sym (count_cons h hs)

-- ---- their forms

pub length_kept : (hs : List Holding) (fs : List Form) → length fs ≡ length hs
    → length (numbers_kept hs fs) ≡ count_of_numbers hs
length_kept [] fs e = refl
length_kept (h ∷ hs) [] e = absurd (omega (arith, e))
length_kept (h ∷ hs) (f ∷ fs) e =
    at (is_number h) (length_kept hs fs (omega (arith, e))) ∙ sym (count_cons h hs)
  where
    at : (b : Bool) → length (numbers_kept hs fs) ≡ count_of_numbers hs
        → length (map (λ x. x.1) (cond b ((h, f) ∷ filter (λ x. is_number x.0) (zip hs fs)) (filter
        (λ x. is_number x.0) (zip hs fs)))) ≡ one_if b + count_of_numbers hs
    at true rest = omega (arith, rest)
    at false rest = omega (arith, rest)

pub all_kept_forms : (P : Form → Type 0) (hs : List Holding) (fs : List Form) → All P fs → All P (numbers_kept hs fs)
all_kept_forms P [] fs all = All-nil P
all_kept_forms P (h ∷ hs) [] all = All-nil P
all_kept_forms P (h ∷ hs) (f ∷ fs) all = at (is_number h) (all_kept_forms P hs fs (All-tail P f fs all))
  where
    at : (b : Bool) → All P (numbers_kept hs fs)
        → All P (map (λ x. x.1) (cond b ((h, f) ∷ filter (λ x. is_number x.0) (zip hs fs)) (filter
        (λ x. is_number x.0) (zip hs fs))))
    at true rest = All-cons P f (numbers_kept hs fs) (All-head P f fs all) rest
    at false rest = rest

pub length_unit : (w k : ℕ) → length (unit w k) ≡ w
length_unit w k = length-map-range_with_len (λ i. if i == k then pos 1 else pos 0) 0 w

pub length_rows : (first : Form) (a b c d : List Form)
    → length (first ∷ (a ++ (b ++ (c ++ d)))) ≡ 1 + (length a + (length b + (length c + length d)))
length_rows first a b c d =
    let p = length-append a (b ++ (c ++ d)) in
    let q = length-append b (c ++ d) in
    let r = length-append c d in
    omega (arith, p, q, r)

-- ---- balances

-- what holds of 0 and of each balance
pub balance_is : (P : Form → Type 0) (w : ℕ) (bs : List (Option Form)) (t : ℕ) → P (zero_form w)
    → All (λ o. P (form_or w o)) bs → P (form_or w (get_or bs t None))
balance_is P w [] t none all = none
balance_is P w (b ∷ bs) zero none all = All-head (λ o. P (form_or w o)) b bs all
balance_is P w (b ∷ bs) (suc t) none all = balance_is P w bs t none (All-tail (λ o. P (form_or w o)) b bs all)

dropped_is : (P : Form → Type 0) (w : ℕ) (ts : List ℕ) (t : ℕ) (o : Option Form) → P (form_or w o)
    → All P (drop_of ts t o)
dropped_is P w ts t None is = All-nil P
dropped_is P w ts t (Some f) is = at (is_among ts t)
  where
    at : (b : Bool) → All P (cond b [] (f ∷ []))
    at true = All-nil P
    at false = All-cons P f [] is (All-nil P)

-- what holds of each balance holds of those that are dropped
pub all_dropped : (P : Form → Type 0) (w : ℕ) (ts : List ℕ) (n : ℕ) (bs : List (Option Form))
    → All (λ o. P (form_or w o)) bs → All P (flat_map (λ e. drop_of ts e.0 e.1) (enumerate_from n bs))
all_dropped P w ts n [] all = All-nil P
all_dropped P w ts n (b ∷ bs) all =
    All-append P (drop_of ts n b) (flat_map (λ e. drop_of ts e.0 e.1) (enumerate_from (n + 1) bs))
    (dropped_is P w ts n b (All-head (λ o. P (form_or w o)) b bs all))
    (all_dropped P w ts (n + 1) bs (All-tail (λ o. P (form_or w o)) b bs all))
