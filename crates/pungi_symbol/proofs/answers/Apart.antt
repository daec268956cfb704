-- The outcomes of a question exclude each other: a value has one number among them.
use Rattle.std.proofs.Common.{◌≡◌, ℕ, zero, suc, ◌+◌, ◌-◌, ◌<◌, ℤ, pos, negsuc, List, [], ◌∷◌, length, map, true, false}
use Rattle.std.proofs.Common.{refl, ap, ◌∙◌, subst, arith, cond, inl, inr}
use Rattle.std.specs.Ordering.{int_eq}
use Rattle.std.specs.List.{range_with_len}
use Rattle.std.proofs.lemmas.Int.{ints}
use Rattle.std.proofs.lemmas.Bool.Decides.{Decides-int_eq}
use Rattle.std.proofs.lemmas.List.FromFn.{length-map-range_with_len, get_or-map-range_with_len}
use Rattle.pungi_base.specs.declared.value.Value.{Value}
use Rattle.pungi_base.specs.declared.value.Value.TheVariants as value
use Rattle.pungi_api.specs.declared.answer.Answer.{Answer}
use Rattle.pungi_api.specs.declared.answer.Answer.TheVariants as answer
use Rattle.pungi_symbol.specs.declared.states.integer_range.IntegerRange.TheVariants as ranges
use Rattle.pungi_symbol.specs.declared.states.mark.Mark.{Mark}
use Rattle.pungi_symbol.specs.declared.states.mark.Mark.TheVariants.{Pointer, TextPointer, IsNull, IsObject, IsText}
use Rattle.pungi_symbol.specs.declared.states.mark.Mark.TheVariants.{IsNumber, IsConverted, Integer}
use Rattle.pungi_symbol.specs.states.Terms.{is_mark, outcomes_of_mark, outcomes_of_answer, mark_at, place_of}
use Rattle.pungi_symbol.specs.states.Terms.{failed_after, converted_to}
use Rattle.pungi_symbol.proofs.questions.Firsts.{below_or}
use Rattle.pungi_symbol.proofs.answers.Conversions.{endings, endings_long, ending_failed, ending_converted}

no_way : {X : Type 0} → false ≡ true → X
no_way e = absurd (cc)

abbrev pub Excludes : Mark → List Mark → Type 0
Excludes m ms = (j : ℕ) (v : Value) → j < length ms → is_mark (mark_at ms j) v ≡ true → is_mark m v ≡ false

abbrev pub AreApart : List Mark → Type 0
AreApart [] = Unit {0}
AreApart (m ∷ ms) = Excludes m ms × AreApart ms

pub place_back : (ms : List Mark) (k : ℕ) (v : Value) → AreApart ms → k < length ms → is_mark (mark_at ms k) v ≡ true
    → place_of ms v ≡ k
place_back [] k v a lt h = absurd (omega (arith, lt))
place_back (m ∷ ms) zero v a lt h = ap (λ b. cond b 0 (suc (place_of ms v))) h
place_back (m ∷ ms) (suc k) v a lt h =
    ap (λ b. cond b 0 (suc (place_of ms v))) (a.0 k v (omega (arith, lt)) h)
    ∙ ap suc (place_back ms k v a.1 (omega (arith, lt)) h)

none_after : (m : Mark) → Excludes m []
none_after m j v lt h = absurd (omega (arith, lt))

apart_by : (m n : Mark) → ((v : Value) → is_mark n v ≡ true → is_mark m v ≡ false) → Excludes m (n ∷ [])
apart_by m n f zero v lt h = f v h
apart_by m n f (suc j) v lt h = absurd (omega (arith, lt))

null_object : (v : Value) → is_mark IsObject v ≡ true → is_mark IsNull v ≡ false
null_object value.Null h = no_way h
null_object (value.Object k) h = refl
null_object (value.Int n) h = no_way h
null_object value.Text h = no_way h

null_text : (v : Value) → is_mark IsText v ≡ true → is_mark IsNull v ≡ false
null_text value.Null h = no_way h
null_text (value.Object k) h = no_way h
null_text (value.Int n) h = no_way h
null_text value.Text h = refl

number_other : (i j : ℤ) → is_mark (IsNumber i) (value.Int j) ≡ false → (v : Value) → is_mark (IsNumber j) v ≡ true
    → is_mark (IsNumber i) v ≡ false
number_other i j ne value.Null h = no_way h
number_other i j ne (value.Object k) h = no_way h
number_other i j ne (value.Int n) h = ap (λ z. is_mark (IsNumber i) (value.Int z)) ((Decides-int_eq n j).0 h) ∙ ne
number_other i j ne value.Text h = no_way h

truth_first : Excludes (IsNumber (pos 1)) (IsNumber (pos 0) ∷ IsNumber (negsuc 0) ∷ [])
truth_first zero v lt h = number_other (pos 1) (pos 0) refl v h
truth_first (suc zero) v lt h = number_other (pos 1) (negsuc 0) refl v h
truth_first (suc (suc j)) v lt h = absurd (omega (arith, lt))

-- ---- how an argument parser ends

other_number : (m n : ℤ) → (m ≡ n → ⊥) → int_eq m n ≡ false
other_number m n h = grind (arith, ints)

conversion_other : (i j : ℤ) → (j ≡ i → ⊥) → (v : Value) → is_mark (IsConverted j) v ≡ true
    → is_mark (IsConverted i) v ≡ false
conversion_other i j ne value.Null h = no_way h
conversion_other i j ne (value.Object k) h = no_way h
conversion_other i j ne (value.Int n) h =
    ap (λ z. is_mark (IsConverted i) (value.Int z)) ((Decides-int_eq n j).0 h) ∙ other_number j i ne
conversion_other i j ne value.Text h = no_way h

-- no number of units is one after which it fails, nor one of the later ones
failed_excludes : (a f b n : ℕ) → Excludes (failed_after a) (endings (a + 1) f b n)
failed_excludes a f b n j v lt h = elim (below_or j f) [
  | inl few ↦ conversion_other (negsuc a) (negsuc (a + 1 + j)) (λ e. let same : a + 1 + j ≡ a = cc in
      omega (arith, same)) v (subst (λ m. is_mark m v ≡ true) (ending_failed (a + 1) f b n j (a + 1 + j) few refl) h)
  | inr many ↦ conversion_other (negsuc a) (pos (b + (j - f))) (λ e. cc) v
      (subst (λ m. is_mark m v ≡ true) (let long = endings_long (a + 1) f b n in
      ending_converted (a + 1) f b n j (b + (j - f)) many (omega (arith, lt, long, many)) refl) h)
]

converted_excludes : (b n : ℕ) → Excludes (converted_to b) (map converted_to (range_with_len (b + 1) n))
converted_excludes b n j v lt h =
    let long = length-map-range_with_len converted_to (b + 1) n in
    conversion_other (pos b) (pos (b + 1 + j)) (λ e. let same : b + 1 + j ≡ b = cc in omega (arith, same)) v
    (subst (λ m. is_mark m v ≡ true)
    (get_or-map-range_with_len converted_to (b + 1) n j (b + 1 + j) IsNull (omega (arith, lt, long)) refl) h)

endings_apart : (a f b n : ℕ) → AreApart (endings a f b n)
endings_apart a zero b zero = tt
endings_apart a zero b (suc n) = (converted_excludes b n, endings_apart a zero (b + 1) n)
endings_apart a (suc f) b n = (failed_excludes a f b n, endings_apart (a + 1) f b n)

-- ---- marks and answers

pub mark_apart : (r : Mark) → AreApart (outcomes_of_mark r)
mark_apart Pointer = (apart_by IsNull IsObject null_object, (none_after IsObject, tt))
mark_apart TextPointer = (apart_by IsNull IsText null_text, (none_after IsText, tt))
mark_apart IsNull = tt
mark_apart IsObject = tt
mark_apart IsText = tt
mark_apart (IsNumber n) = tt
mark_apart (IsConverted n) = tt
mark_apart (Integer r) = (none_after (Integer r), tt)

pub answer_apart : (a : Answer) → AreApart (outcomes_of_answer a)
answer_apart answer.New = (apart_by IsNull IsObject null_object, (none_after IsObject, tt))
answer_apart answer.Borrowed = (apart_by IsNull IsObject null_object, (none_after IsObject, tt))
answer_apart answer.BorrowedSure = (none_after IsObject, tt)
answer_apart answer.Status = (
  apart_by (IsNumber (pos 0)) (IsNumber (negsuc 0)) (number_other (pos 0) (negsuc 0) refl),
  (none_after (IsNumber (negsuc 0)), tt),
)
answer_apart answer.Truth = (
  truth_first,
  (
    apart_by (IsNumber (pos 0)) (IsNumber (negsuc 0)) (number_other (pos 0) (negsuc 0) refl),
    (none_after (IsNumber (negsuc 0)), tt),
  ),
)
answer_apart answer.Text = (apart_by IsNull IsText null_text, (none_after IsText, tt))
answer_apart answer.Size = (none_after (Integer ranges.SizeOrError), tt)
answer_apart answer.Int = (none_after (Integer ranges.Int), tt)
answer_apart answer.Long = (none_after (Integer ranges.Long), tt)
answer_apart answer.Void = tt
answer_apart answer.Null = tt
answer_apart answer.Found = (
  apart_by (IsNumber (pos 1)) (IsNumber (pos 0)) (number_other (pos 1) (pos 0) refl),
  (none_after (IsNumber (pos 0)), tt),
)
answer_apart (answer.Converted failures least most) = endings_apart 0 failures least (suc most - least)
answer_apart answer.AnySize = (none_after (Integer ranges.Long), tt)
answer_apart answer.Flag = (none_after (Integer ranges.Flag), tt)
answer_apart answer.TextSure = (none_after IsText, tt)
answer_apart answer.Made = (apart_by IsNull IsObject null_object, (none_after IsObject, tt))
