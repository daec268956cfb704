-- Two texts with the same bytes begin with the same lines of a run.
use Rattle.std.proofs.Common.{◌≡◌, ℕ, suc, List, [], ◌∷◌, ◌++◌, length, get_or, drop, map, zip, refl, sym, ap, subst}
use Rattle.std.proofs.Common.{◌∙◌, arith, codes}
use Rattle.std.specs.List.{AllByRecursion, flat_map}
use Rattle.std.specs.Fmt.{decimal, signed_decimal}
use Rattle.std.proofs.lemmas.List.Elements.{recursion_from_All}
use Rattle.pungi_base.specs.declared.choice.Choice.{Choice}
use Rattle.pungi_base.specs.declared.choice.Choice.TheVariants as choice
use Rattle.pungi_base.specs.declared.pos.Pos.{Pos}
use Rattle.pungi_base.specs.declared.value.Value.{Value}
use Rattle.pungi_base.specs.declared.value.Value.TheVariants as value
use Rattle.pungi_base.specs.declared.witness.Witness.{Witness}
use Rattle.pungi_base.specs.Witness.{place_text, value_text, choice_text, argument_line, choice_line, witness_text}
use Rattle.pungi_base.specs.Witness.{line_end}
use Rattle.pungi_report.specs.Fits.{Fits, FitsPlace, FitsValue, FitsChoice, FitsWitness}
use Rattle.pungi_report.proofs.Pieces.{first, Ends, parts, parts4, IsDigit, BeginsWithDigit, begins_before}
use Rattle.pungi_report.proofs.Pieces.{above_digits, same_decimal, same_signed, same_place, place_begins, blank, line}

abbrev pub third : List ℕ → ℕ
third l = get_or l 2 0

-- ---- values and choices

same_value : (x y : Value) (r s : List ℕ) → FitsValue x → FitsValue y → Ends IsDigit r → Ends IsDigit s
    → value_text x ++ r ≡ value_text y ++ s → (x ≡ y) × (r ≡ s)
same_value value.Null value.Null r s p q f g e = (refl, ap (drop 4) e)
same_value value.Text value.Text r s p q f g e = (refl, ap (drop 4) e)
same_value (value.Object k) (value.Object l) r s p q f g e =
    let h = same_decimal k l r s p q f g (ap (drop 7) e) in (ap value.Object h.0, h.1)
same_value (value.Int k) (value.Int l) r s p q f g e =
    let h = same_signed k l r s p q f g (ap (drop 4) e) in (ap value.Int h.0, h.1)
same_value x y r s p q f g e = absurd (omega (arith, ap first e))

same_choice : (x y : Choice) (r s : List ℕ) → FitsChoice x → FitsChoice y → Ends IsDigit r → Ends IsDigit s
    → choice_text x ++ r ≡ choice_text y ++ s → (x ≡ y) × (r ≡ s)
same_choice choice.Null choice.Null r s p q f g e = (refl, ap (drop 4) e)
same_choice choice.Text choice.Text r s p q f g e = (refl, ap (drop 4) e)
same_choice (choice.Object k) (choice.Object l) r s p q f g e =
    let h = same_decimal k l r s p q f g (ap (drop 7) e) in (ap choice.Object h.0, h.1)
same_choice (choice.Int k) (choice.Int l) r s p q f g e =
    let h = same_signed k l r s p q f g (ap (drop 4) e) in (ap choice.Int h.0, h.1)
same_choice (choice.Given k) (choice.Given l) r s p q f g e =
    let h = same_decimal k l r s p q f g (ap (drop 6) e) in (ap choice.Given h.0, h.1)
same_choice (choice.Failed k) (choice.Failed l) r s p q f g e =
    let h = same_decimal k l r s p q f g (ap (drop 7) e) in (ap choice.Failed h.0, h.1)
same_choice x y r s p q f g e = absurd (omega (arith, ap first e))

-- ---- lines

same_argument : (x y : Value) (r s : List ℕ) → FitsValue x → FitsValue y
    → argument_line x ++ r ≡ argument_line y ++ s → (x ≡ y) × (r ≡ s)
same_argument x y r s p q e =
    let h = same_value x y (10 ∷ r) (10 ∷ s) p q line line (parts (value_text x) line_end (value_text y) line_end r
    s (ap (drop 11) e)) in
    (h.0, ap (drop 1) h.1)

pub same_arguments : (xs ys : List Value) (r s : List ℕ) → AllByRecursion FitsValue xs → AllByRecursion FitsValue ys
    → (third r ≡ 97 → ⊥) → (third s ≡ 97 → ⊥)
    → flat_map argument_line xs ++ r ≡ flat_map argument_line ys ++ s → (xs ≡ ys) × (r ≡ s)
same_arguments [] [] r s p q f g e = (refl, e)
same_arguments [] (y ∷ ys) r s p q f g e = absurd (f (ap third e))
same_arguments (x ∷ xs) [] r s p q f g e = absurd (g (sym (ap third e)))
same_arguments (x ∷ xs) (y ∷ ys) r s p q f g e =
    let one = same_argument x y (flat_map argument_line xs ++ r) (flat_map argument_line ys ++ s) p.0 q.0
    (parts (argument_line x) (flat_map argument_line xs) (argument_line y) (flat_map argument_line ys) r s e) in
    let more = same_arguments xs ys r s p.1 q.1 f g one.1 in
    (λ i. one.0 i ∷ more.0 i, more.1)

abbrev FitsUse : Pos × Choice → Type 0
FitsUse c = FitsPlace c.0 × FitsChoice c.1

same_use : (a b : Pos × Choice) (r s : List ℕ) → FitsUse a → FitsUse b → choice_line a ++ r ≡ choice_line b ++ s
    → (a ≡ b) × (r ≡ s)
same_use a b r s p q e =
    let at = same_place a.0 b.0 (32 ∷ (choice_text a.1 ++ (10 ∷ r))) (32 ∷ (choice_text b.1 ++ (10 ∷ s))) p.0 q.0
    blank blank
    (parts4 (place_text a.0) (codes " ") (choice_text a.1) line_end (place_text b.0) (codes " ")
    (choice_text b.1) line_end r s (ap (drop 2) e)) in
    let h = same_choice a.1 b.1 (10 ∷ r) (10 ∷ s) p.1 q.1 line line (ap (drop 1) at.1) in
    (λ i. (at.0 i, h.0 i), ap (drop 1) h.1)

same_uses : (xs ys : List (Pos × Choice)) (r s : List ℕ) → AllByRecursion FitsUse xs → AllByRecursion FitsUse ys
    → (first r ≡ 32 → ⊥) → (first s ≡ 32 → ⊥)
    → flat_map choice_line xs ++ r ≡ flat_map choice_line ys ++ s → (xs ≡ ys) × (r ≡ s)
same_uses [] [] r s p q f g e = (refl, e)
same_uses [] (y ∷ ys) r s p q f g e = absurd (f (ap first e))
same_uses (x ∷ xs) [] r s p q f g e = absurd (g (sym (ap first e)))
same_uses (x ∷ xs) (y ∷ ys) r s p q f g e =
    let one = same_use x y (flat_map choice_line xs ++ r) (flat_map choice_line ys ++ s) p.0 q.0
    (parts (choice_line x) (flat_map choice_line xs) (choice_line y) (flat_map choice_line ys) r s e) in
    let more = same_uses xs ys r s p.1 q.1 f g one.1 in
    (λ i. one.0 i ∷ more.0 i, more.1)

-- the line of a choice is none of an argument
not_a : (l : List ℕ) → BeginsWithDigit l → first l ≡ 97 → ⊥
not_a [] h e = absurd h
not_a (c ∷ l) h e = above_digits 97 (omega arith) (subst IsDigit e h)

uses_follow : (xs : List (Pos × Choice)) (r : List ℕ) → AllByRecursion FitsUse xs → (third r ≡ 97 → ⊥)
    → third (flat_map choice_line xs ++ r) ≡ 97 → ⊥
uses_follow [] r p f e = f e
uses_follow (x ∷ xs) r p f e =
    let place = begins_before (place_text x.0) (codes " ") (place_begins x.0 p.0.0) in
    let choice = begins_before (place_text x.0 ++ codes " ") (choice_text x.1) place in
    let all = begins_before ((place_text x.0 ++ codes " ") ++ choice_text x.1) line_end choice in
    let lines = begins_before (((place_text x.0 ++ codes " ") ++ choice_text x.1) ++ line_end)
    (flat_map choice_line xs) all in
    not_a (((((place_text x.0 ++ codes " ") ++ choice_text x.1) ++ line_end) ++ flat_map choice_line xs) ++ r)
    (begins_before ((((place_text x.0 ++ codes " ") ++ choice_text x.1) ++ line_end) ++ flat_map choice_line xs) r
    lines) e

-- ---- choices with their places

fits_uses : (used : List Pos) (choices : List Choice) → AllByRecursion FitsPlace used
    → AllByRecursion FitsChoice choices → AllByRecursion FitsUse (zip used choices)
fits_uses [] choices p q = tt
fits_uses (u ∷ used) [] p q = tt
fits_uses (u ∷ used) (x ∷ choices) p q = ((p.0, q.0), fits_uses used choices p.1 q.1)

places_of : (used : List Pos) (choices : List Choice) → length used ≡ length choices
    → map (λ (c : Pos × Choice). c.0) (zip used choices) ≡ used
places_of [] choices e = refl
places_of (u ∷ used) [] e = absurd (omega (arith, e))
places_of (u ∷ used) (x ∷ choices) e = ap (λ l. u ∷ l) (places_of used choices (omega (arith, e)))

choices_of : (used : List Pos) (choices : List Choice) → length used ≡ length choices
    → map (λ (c : Pos × Choice). c.1) (zip used choices) ≡ choices
choices_of [] [] e = refl
choices_of [] (x ∷ choices) e = absurd (omega (arith, e))
choices_of (u ∷ used) [] e = absurd (omega (arith, e))
choices_of (u ∷ used) (x ∷ choices) e = ap (λ l. x ∷ l) (choices_of used choices (omega (arith, e)))

-- ---- the whole run

pub same_witness : (w v : Witness) (used uses : List Pos) (r s : List ℕ) → length used ≡ length w.choices
    → length uses ≡ length v.choices
    → FitsWitness w → FitsWitness v → AllByRecursion FitsPlace used → AllByRecursion FitsPlace uses
    → (first r ≡ 32 → ⊥) → (third r ≡ 97 → ⊥) → (first s ≡ 32 → ⊥) → (third s ≡ 97 → ⊥)
    → witness_text w used ++ r ≡ witness_text v uses ++ s → (w ≡ v) × (used ≡ uses) × (r ≡ s)
same_witness w v used uses r s lw lv p q pu qu f1 f3 g1 g3 e =
    let wa = flat_map argument_line w.input.args in
    let va = flat_map argument_line v.input.args in
    let wc = flat_map choice_line (zip used w.choices) in
    let vc = flat_map choice_line (zip uses v.choices) in
    let fits = fits_uses used w.choices pu (recursion_from_All FitsChoice w.choices p.2) in
    let gits = fits_uses uses v.choices qu (recursion_from_All FitsChoice v.choices q.2) in
    let objects = same_decimal w.input.objects v.input.objects (10 ∷ (wa ++ (wc ++ r))) (10 ∷ (va ++ (vc ++ s))) p.0
    q.0 line line
    (parts4 (decimal w.input.objects) line_end wa wc (decimal v.input.objects) line_end va vc r s
    (ap (drop 10) e)) in
    let args = same_arguments w.input.args v.input.args (wc ++ r) (vc ++ s)
    (recursion_from_All FitsValue w.input.args p.1) (recursion_from_All FitsValue v.input.args q.1)
    (uses_follow (zip used w.choices) r fits f3) (uses_follow (zip uses v.choices) s gits g3)
    (ap (drop 1) objects.1) in
    let pairs = same_uses (zip used w.choices) (zip uses v.choices) r s fits gits f1 g1 args.1 in
    let choices = sym (choices_of used w.choices lw) ∙ ap (map (λ (c : Pos × Choice). c.1)) pairs.0
    ∙ choices_of uses v.choices lv in
    let places = sym (places_of used w.choices lw) ∙ ap (map (λ (c : Pos × Choice). c.0)) pairs.0
    ∙ places_of uses v.choices lv in
    (λ i. record { input = record { objects = objects.0 i; args = args.0 i }; choices = choices i }, places, pairs.1)
