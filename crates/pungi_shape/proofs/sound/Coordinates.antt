-- The coordinates of numbers and tokens, and the rows of a map.
use Rattle.std.proofs.Common.{◌≡◌, ℕ, zero, suc, ◌+◌, ◌<◌, List, [], ◌∷◌, ◌++◌, length, map, get_or, Bool, true}
use Rattle.std.proofs.Common.{false, refl, sym, ap, ◌∙◌, arith, cond, length-append}
use Rattle.std.specs.List.{All, filter, zip}
use Rattle.std.proofs.lemmas.List.{get_or_append_left, get_or-append-add}
use Rattle.std.proofs.lemmas.List.Elements.{All-cons, All-nil}
use Rattle.std.proofs.lemmas.List.Sums.{sum_by-cons}
use Rattle.pungi_shape.specs.declared.holding.Holding.{Holding}
use Rattle.pungi_shape.specs.declared.holding.Holding.TheVariants.{Unset}
use Rattle.pungi_shape.specs.Forms.{Form, unit, zero_form, one_if}
use Rattle.pungi_shape.specs.Shapes.{is_number, rename_holding, count_of_numbers}
use Rattle.pungi_shape.specs.Scenes.{number_form, number_forms}
use Rattle.pungi_shape.specs.Arrivals.{numbers_kept}
use Rattle.pungi_shape.proofs.sound.Shows.{HasWidth}
use Rattle.pungi_shape.proofs.sound.FormValues.{length_unit, length_zero}
use Rattle.pungi_shape.proofs.sound.Renames.{number_renamed}

-- ---- how many numbers

pub count_cons : (h : Holding) (hs : List Holding)
    → count_of_numbers (h ∷ hs) ≡ one_if (is_number h) + count_of_numbers hs
count_cons h hs = sum_by-cons (λ x. cond (is_number x) 1 0) h hs

pub count_renamed : (g : ℕ → ℕ) (hs : List Holding)
    → count_of_numbers (map (rename_holding g) hs) ≡ count_of_numbers hs
count_renamed g [] = refl
count_renamed g (h ∷ hs) =
    count_cons (rename_holding g h) (map (rename_holding g) hs)
    ∙ ap (λ b. one_if b + count_of_numbers (map (rename_holding g) hs)) (number_renamed g h)
    ∙ ap (λ n. one_if (is_number h) + n) (count_renamed g hs) ∙ sym (count_cons h hs)

-- ---- their forms

pub forms_renamed : (g : ℕ → ℕ) (w k : ℕ) (hs : List Holding)
    → number_forms w k (map (rename_holding g) hs) ≡ number_forms w k hs
forms_renamed g w k [] = refl
forms_renamed g w k (h ∷ hs) =
    ap (λ b. cond b (unit w k) (zero_form w) ∷ number_forms w (k + one_if b) (map (rename_holding g) hs))
    (number_renamed g h)
    ∙ ap (λ fs. number_form w k h ∷ fs) (forms_renamed g w (k + one_if (is_number h)) hs)

pub length_forms : (w k : ℕ) (hs : List Holding) → length (number_forms w k hs) ≡ length hs
length_forms w k [] = refl
length_forms w k (h ∷ hs) = ap suc (length_forms w (k + one_if (is_number h)) hs)

pub number_form_width : (w k : ℕ) (h : Holding) → length (number_form w k h) ≡ w
number_form_width w k h = at (is_number h)
  where
    at : (b : Bool) → length (cond b (unit w k) (zero_form w)) ≡ w
    at true = length_unit w k
    at false = length_zero w

pub widths_forms : (w k : ℕ) (hs : List Holding) → All (HasWidth w) (number_forms w k hs)
widths_forms w k [] = All-nil (HasWidth w)
widths_forms w k (h ∷ hs) = All-cons (HasWidth w) (number_form w k h) (number_forms w (k + one_if (is_number h)) hs)
    (number_form_width w k h) (widths_forms w (k + one_if (is_number h)) hs)

pub length_kept : (hs : List Holding) (fs : List Form) → length fs ≡ length hs
    → length (numbers_kept hs fs) ≡ count_of_numbers hs
length_kept [] fs e = refl
length_kept (h ∷ hs) [] e = absurd (omega (arith, e))
length_kept (h ∷ hs) (f ∷ fs) e =
    at (is_number h) (length_kept hs fs (omega (arith, e))) ∙ sym (count_cons h hs)
  where
    at : (b : Bool) → length (numbers_kept hs fs) ≡ count_of_numbers hs
        → length (map (λ x. x.1) (cond b ((h, f) ∷ filter (λ x. is_number x.0) (zip hs fs)) (filter
        (λ x. is_number x.0) (zip hs fs)))) ≡ one_if b + count_of_numbers hs
    at true rest = omega (arith, rest)
    at false rest = omega (arith, rest)

-- where a number's form stands among those that are kept, and its coordinate
pub record NumberAt (w k : ℕ) (hs : List Holding) (fs : List Form) (x : ℕ) (d : Form) : Type 0 where
  pub place : ℕ
  pub within : place < count_of_numbers hs
  pub kept : get_or (numbers_kept hs fs) place [] ≡ get_or fs x d
  pub form : get_or (number_forms w k hs) x (zero_form w) ≡ unit w (k + place)

number_here : (b : Bool) (w k : ℕ) (h : Holding) (hs : List Holding) (f : Form) (fs : List Form) (d : Form)
    → is_number h ≡ true → NumberAt w k (h ∷ hs) (f ∷ fs) 0 d
number_here b w k h hs f fs d is = record {
  place = 0;
  within = let c = count_cons h hs in let o : one_if (is_number h) ≡ 1 = ap one_if is in omega (arith, c, o);
  kept = ap (λ z. get_or (map (λ x. x.1) (cond z ((h, f) ∷ filter (λ x. is_number x.0) (zip hs fs)) (filter
      (λ x. is_number x.0) (zip hs fs)))) 0 []) is;
  form = ap (λ z. cond z (unit w k) (zero_form w)) is ∙ ap (unit w) (omega arith);
}

number_later : (w k : ℕ) (h : Holding) (hs : List Holding) (f : Form) (fs : List Form) (x : ℕ) (d : Form)
    → NumberAt w (k + one_if (is_number h)) hs fs x d → NumberAt w k (h ∷ hs) (f ∷ fs) (suc x) d
number_later w k h hs f fs x d at = record {
  place = one_if (is_number h) + at.place;
  within = let c = count_cons h hs in let i = at.within in omega (arith, c, i);
  kept = step (is_number h) ∙ at.kept;
  form = at.form ∙ ap (unit w) (omega arith);
}
  where
    step : (b : Bool) → get_or (map (λ x. x.1) (cond b ((h, f) ∷ filter (λ x. is_number x.0) (zip hs fs)) (filter
        (λ x. is_number x.0) (zip hs fs)))) (one_if b + at.place) [] ≡ get_or (numbers_kept hs fs) at.place []
    step true = ap (λ i. get_or ((f ∷ numbers_kept hs fs)) i [])
        (let z : 1 + at.place ≡ suc at.place = omega arith in z)
    step false = ap (λ i. get_or (numbers_kept hs fs) i []) (let z : 0 + at.place ≡ at.place = omega arith in z)

unset_no_number : is_number Unset ≡ true → ⊥
unset_no_number e = absurd (grind (arith, e))

pub number_at : (w k : ℕ) (hs : List Holding) (fs : List Form) (x : ℕ) (d : Form) → length fs ≡ length hs
    → is_number (get_or hs x Unset) ≡ true → NumberAt w k hs fs x d
number_at w k [] fs x d e is = absurd (unset_no_number is)
number_at w k (h ∷ hs) [] x d e is = absurd (omega (arith, e))
number_at w k (h ∷ hs) (f ∷ fs) zero d e is = number_here true w k h hs f fs d is
number_at w k (h ∷ hs) (f ∷ fs) (suc x) d e is =
    number_later w k h hs f fs x d (number_at w (k + one_if (is_number h)) hs fs x d (omega (arith, e)) is)

pub number_inside : (hs : List Holding) (x : ℕ) → is_number (get_or hs x Unset) ≡ true → x < length hs
number_inside [] x e = absurd (unset_no_number e)
number_inside (h ∷ hs) zero e = omega arith
number_inside (h ∷ hs) (suc x) e = let lt = number_inside hs x e in omega (arith, lt)

-- ---- five parts of a list of rows

abbrev pub Rows5 : Form → List Form → List Form → List Form → List Form → List Form
Rows5 first a b c d = first ∷ (a ++ (b ++ (c ++ d)))

pub row_in_first : (first : Form) (a b c d : List Form) (i : ℕ) → i < length a
    → get_or (Rows5 first a b c d) (1 + i) [] ≡ get_or a i []
row_in_first first a b c d i lt =
    ap (λ j. get_or (Rows5 first a b c d) j []) (let z : 1 + i ≡ suc i = omega arith in z)
    ∙ get_or_append_left a (b ++ (c ++ d)) [] i lt

pub row_in_second : (first : Form) (a b c d : List Form) (i n : ℕ) → n ≡ 1 + (length a + i) → i < length b
    → get_or (Rows5 first a b c d) n [] ≡ get_or b i []
row_in_second first a b c d i n e lt =
    ap (λ j. get_or (Rows5 first a b c d) j [])
    (e ∙ (let z : 1 + (length a + i) ≡ suc (length a + i) = omega arith in z))
    ∙ get_or-append-add a (b ++ (c ++ d)) i []
    ∙ get_or_append_left b (c ++ d) [] i lt

pub row_in_third : (first : Form) (a b c d : List Form) (i n : ℕ) → n ≡ 1 + (length a + (length b + i))
    → i < length c → get_or (Rows5 first a b c d) n [] ≡ get_or c i []
row_in_third first a b c d i n e lt =
    ap (λ j. get_or (Rows5 first a b c d) j [])
    (e ∙ (let z : 1 + (length a + (length b + i)) ≡ suc (length a + (length b + i)) = omega arith in z))
    ∙ get_or-append-add a (b ++ (c ++ d)) (length b + i) []
    ∙ get_or-append-add b (c ++ d) i []
    ∙ get_or_append_left c d [] i lt

pub row_in_last : (first : Form) (a b c d : List Form) (i n : ℕ) → n ≡ 1 + (length a + (length b + (length c + i)))
    → get_or (Rows5 first a b c d) n [] ≡ get_or d i []
row_in_last first a b c d i n e =
    ap (λ j. get_or (Rows5 first a b c d) j [])
    (e ∙ (let z : 1 + (length a + (length b + (length c + i))) ≡ suc (length a + (length b + (length c
    + i))) = omega arith in z))
    ∙ get_or-append-add a (b ++ (c ++ d)) (length b + (length c + i)) []
    ∙ get_or-append-add b (c ++ d) (length c + i) []
    ∙ get_or-append-add c d i []

pub length_rows : (first : Form) (a b c d : List Form)
    → length (Rows5 first a b c d) ≡ 1 + (length a + (length b + (length c + length d)))
length_rows first a b c d =
    let p = length-append a (b ++ (c ++ d)) in
    let q = length-append b (c ++ d) in
    let r = length-append c d in
    omega (arith, p, q, r)
