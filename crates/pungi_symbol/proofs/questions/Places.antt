-- A question names a touched slot or a made object that is there, and is that of an instruction of the code.
use Rattle.std.proofs.Common.{◌≡◌, ℕ, ◌+◌, ◌<◌, ℤ, pos, List, [], ◌∷◌, length, drop, Bool, true, false, refl, sym}
use Rattle.std.proofs.Common.{subst, arith, length-drop, Option, None, Some, cond}
use Rattle.std.specs.Prelude.{slice_get, position, get_or, nat_lt, ◌-◌}
use Rattle.std.proofs.lemmas.Bool.Decides.{nat_tests}
use Rattle.std.proofs.lemmas.List.Quantifiers.{position-Some}
use Rattle.std.proofs.lemmas.Option.{slice_get_within}
use Rattle.pungi_base.specs.declared.names.Name.{Name}
use Rattle.pungi_api.specs.declared.answer.Answer.{Answer}
use Rattle.pungi_api.specs.declared.answer.Answer.TheVariants as answer
use Rattle.pungi_api.specs.declared.call_answer.CallAnswer.{CallAnswer}
use Rattle.pungi_api.specs.declared.call_answer.CallAnswer.TheVariants.{Of, Argument}
use Rattle.pungi_api.specs.declared.own_effect.OwnEffect.{OwnEffect}
use Rattle.pungi_api.specs.declared.own_effect.OwnEffect.TheVariants.{IncRef, DecRef}
use Rattle.pungi_api.specs.declared.param.Param.{Param}
use Rattle.pungi_api.specs.declared.param.Param.TheVariants as param
use Rattle.pungi_api.specs.declared.signature.Signature.{Signature}
use Rattle.pungi_api.specs.declared.take.Take.{Take}
use Rattle.pungi_api.specs.declared.take.Take.TheVariants as take
use Rattle.pungi_types.specs.declared.kind.ValueKind.{ValueKind}
use Rattle.pungi_meaning.specs.declared.op.Op.{Op}
use Rattle.pungi_meaning.specs.Values.{fits, arithmetic}
use Rattle.pungi_code.specs.declared.atom.Atom.{Atom}
use Rattle.pungi_code.specs.declared.code.Line.{Line}
use Rattle.pungi_code.specs.declared.instr.Instr.{Instr}
use Rattle.pungi_code.specs.declared.instr.Instr.TheVariants.{Set, Arith, Fit, Compare, Load, Store, Api, Call}
use Rattle.pungi_code.specs.declared.instr.Instr.TheVariants.{Unset as Forget, Jump, Branch, Return, Fall}
use Rattle.pungi_code.specs.declared.place.Place.{Place}
use Rattle.pungi_code.specs.declared.place.Place.TheVariants as places
use Rattle.pungi_code.specs.WellFormed.{place_kind}
use Rattle.pungi_symbol.specs.declared.answers.decision.Decision.TheVariants.{Quiet, Outcome}
use Rattle.pungi_symbol.specs.declared.questions.found_slot.Finding.{Finding}
use Rattle.pungi_symbol.specs.declared.questions.found_slot.Finding.TheVariants.{Waits, At, OfMade, Nowhere}
use Rattle.pungi_symbol.specs.declared.states.known.Known.{Known}
use Rattle.pungi_symbol.specs.declared.states.known.Status.{Status}
use Rattle.pungi_symbol.specs.declared.states.known.Status.TheVariants as status
use Rattle.pungi_symbol.specs.declared.states.mark.Mark.{Mark}
use Rattle.pungi_symbol.specs.declared.states.mark.Mark.TheVariants.{Pointer, TextPointer, IsNull, IsObject, IsText}
use Rattle.pungi_symbol.specs.declared.states.mark.Mark.TheVariants.{IsNumber, IsConverted, Integer}
use Rattle.pungi_symbol.specs.declared.questions.question.Question.{Question}
use Rattle.pungi_symbol.specs.declared.questions.question.Question.TheVariants.{Does, Base}
use Rattle.pungi_symbol.specs.declared.questions.question.Question.TheVariants.{Turn, Returns, Stops}
use Rattle.pungi_symbol.specs.declared.states.spot.Progress.{Progress}
use Rattle.pungi_symbol.specs.declared.states.spot.Progress.TheVariants.{Looking, Found}
use Rattle.pungi_symbol.specs.declared.states.sum.Sum.{Sum as SumOf}
use Rattle.pungi_symbol.specs.declared.states.term.Term.{Term}
use Rattle.pungi_symbol.specs.declared.states.term.Term.TheVariants.{Unset, Null, Text, Number, Token, Sum}
use Rattle.pungi_symbol.specs.states.Known.{mark_of, term_of, number_in, sum_in, object_of, slot_note, no_slot}
use Rattle.pungi_symbol.specs.states.Known.{is_global}
use Rattle.pungi_symbol.specs.states.Known.{is_field, at_place, ask_base, seek, find_token, find_field, find}
use Rattle.pungi_symbol.specs.states.Turns.{is_bounded}
use Rattle.pungi_symbol.specs.questions.NextQuestion.{asks_set, knows_mark, asks_known, needs_mark, asks_thing}
use Rattle.pungi_symbol.specs.questions.NextQuestion.{asks_order, asks_same, asks_range, content_mark, asks_load}
use Rattle.pungi_symbol.specs.questions.NextQuestion.{sum_of, asks_sum, asks_computed, asks_result, asks_arith}
use Rattle.pungi_symbol.specs.questions.NextQuestion.{asks_orders, asks_conversion, asks_pointers, asks_sign}
use Rattle.pungi_symbol.specs.questions.NextQuestion.{asks_store, asks_dropped, asks_all_set, asks_param, asks_params}
use Rattle.pungi_symbol.specs.questions.NextQuestion.{asks_take, asks_takes, asks_answer, asks_call_answer}
use Rattle.pungi_symbol.specs.questions.NextQuestion.{first_term, asks_own, asks_signature, terms_of, asks_return}
use Rattle.pungi_symbol.specs.questions.NextQuestion.{asks_instr, asks_line, asks_turn}
use Rattle.pungi_symbol.specs.questions.NextQuestion.{ask_while, ask, IsPlaced}

pub within_rest : {X : Type 0} (xs : List X) (c j : ℕ) → j < length (drop c xs) → c + j < length xs
within_rest xs c j h = let long = length-drop c xs in omega (arith, h, long)

made_within : (j n : ℕ) → nat_lt j n ≡ true → j < n
made_within j n e = grind (arith, nat_tests)

module _ (code : List Line) (k : Known) (there : k.pc < length code) where
  abbrev Placed : Question → Type 0
  Placed q = IsPlaced code k q

  abbrev FindsPlaced : Finding → Type 0
  FindsPlaced (Waits q) = Placed q
  FindsPlaced (At i) = Unit {0}
  FindsPlaced OfMade = Unit {0}
  FindsPlaced Nowhere = Unit {0}

  -- ---- questions

  setting_placed : (x : Term) (q : Question) → Placed q → Placed (asks_set x q)
  setting_placed Unset q h = tt
  setting_placed Null q h = h
  setting_placed Text q h = h
  setting_placed (Number n) q h = h
  setting_placed (Token t) q h = h
  setting_placed (Sum s) q h = h

  knowing_mark_placed : (m : Mark) (t : ℕ) (q : Question) → Placed q → Placed (knows_mark m t q)
  knowing_mark_placed Pointer t q h = tt
  knowing_mark_placed TextPointer t q h = tt
  knowing_mark_placed IsNull t q h = h
  knowing_mark_placed IsObject t q h = h
  knowing_mark_placed IsText t q h = h
  knowing_mark_placed (IsNumber n) t q h = h
  knowing_mark_placed (IsConverted n) t q h = h
  knowing_mark_placed (Integer r) t q h = h

  needing_mark_placed : (m : Mark) (t : ℕ) (q : Question) → Placed q → Placed (needs_mark m t q)
  needing_mark_placed Pointer t q h = tt
  needing_mark_placed TextPointer t q h = tt
  needing_mark_placed IsNull t q h = tt
  needing_mark_placed IsObject t q h = h
  needing_mark_placed IsText t q h = h
  needing_mark_placed (IsNumber n) t q h = h
  needing_mark_placed (IsConverted n) t q h = h
  needing_mark_placed (Integer r) t q h = h

  ordering_placed : (a b : Option ℤ) (q : Question) → Placed q → Placed (asks_order a b q)
  ordering_placed None b q h = h
  ordering_placed (Some m) None q h = h
  ordering_placed (Some m) (Some n) q h = tt

  orders_placed : (x y : Option SumOf) (q : Question) → Placed q → Placed (asks_orders x y q)
  orders_placed None y q h = h
  orders_placed (Some a) None q h = h
  orders_placed (Some a) (Some b) q h = tt

  pointers_placed : (x y : Option SumOf) (q : Question) → Placed q → Placed (asks_pointers x y q)
  pointers_placed None None q h = h
  pointers_placed None (Some b) q h = tt
  pointers_placed (Some a) y q h = tt

  sign_placed : (x : Option SumOf) (q : Question) → Placed q → Placed (asks_sign x q)
  sign_placed None q h = h
  sign_placed (Some a) q h = tt

  result_placed : (kind : ValueKind) (x : Option SumOf) → Placed (asks_result kind x)
  result_placed kind None = tt
  result_placed kind (Some a) = tt

  sum_placed : (kind : ValueKind) (o : Op) (a b : SumOf) (r : Option SumOf) → Placed (asks_sum kind o a b r)
  sum_placed kind o a b None = tt
  sum_placed kind o a b (Some s) = tt

  computed_placed : (kind : ValueKind) (o : Op) (x y : Option SumOf) → Placed (asks_computed kind o x y)
  computed_placed kind o None y = tt
  computed_placed kind o (Some a) None = tt
  computed_placed kind o (Some a) (Some b) = sum_placed kind o a b (sum_of o a b)

  comparing_placed : (a b : Option ℕ) → Placed (asks_same a b)
  comparing_placed None b = tt
  comparing_placed (Some t) None = tt
  comparing_placed (Some t) (Some u) = there

  ranged_placed : (o : Option ℤ) (b : Bool) → Placed (asks_range o b)
  ranged_placed (Some n) b = tt
  ranged_placed None true = tt
  ranged_placed None false = tt

  fitting_placed : (b c : Bool) → Placed (cond b (Does (Outcome 1)) (Stops (Outcome (cond c 0 2))))
  fitting_placed true c = tt
  fitting_placed false true = tt
  fitting_placed false false = tt

  arith_placed : (o : Op) (kind : ValueKind) (x y : Option ℤ) (q : Question) → Placed q
      → Placed (asks_arith o kind x y q)
  arith_placed o kind None y q h = h
  arith_placed o kind (Some m) None q h = h
  arith_placed o kind (Some m) (Some n) q h = ranged_placed (arithmetic o kind m n) _

  conversion_placed : (kind : ValueKind) (x : Option ℤ) (q : Question) → Placed q → Placed (asks_conversion kind x q)
  conversion_placed kind None q h = h
  conversion_placed kind (Some n) q h = fitting_placed (fits kind n) _

  answering_placed : (a : Answer) → Placed (asks_answer a)
  answering_placed answer.Void = tt
  answering_placed answer.Null = tt
  answering_placed answer.New = there
  answering_placed answer.Borrowed = there
  answering_placed answer.BorrowedSure = there
  answering_placed answer.Status = there
  answering_placed answer.Truth = there
  answering_placed answer.Size = there
  answering_placed answer.Int = there
  answering_placed answer.Long = there
  answering_placed answer.Text = there
  answering_placed answer.Found = there
  answering_placed (answer.Converted failures least most) = there
  answering_placed answer.AnySize = there
  answering_placed answer.Flag = there
  answering_placed answer.TextSure = there
  answering_placed answer.Made = there

  all_set_placed : (xs : List Term) (q : Question) → Placed q → Placed (asks_all_set xs q)
  all_set_placed [] q h = h
  all_set_placed (x ∷ xs) q h = setting_placed x (asks_all_set xs q) (all_set_placed xs q h)

  knowing_placed : (x : Term) (q : Question) → Placed q → Placed (asks_known k x q)
  knowing_placed Unset q h = tt
  knowing_placed Null q h = h
  knowing_placed Text q h = h
  knowing_placed (Number n) q h = h
  knowing_placed (Token t) q h = knowing_mark_placed (mark_of k t) t q h
  knowing_placed (Sum s) q h = h

  needing_placed : (x : Term) (q : Question) → Placed q → Placed (asks_thing k x q)
  needing_placed Unset q h = tt
  needing_placed Null q h = tt
  needing_placed Text q h = h
  needing_placed (Number n) q h = h
  needing_placed (Token t) q h = needing_mark_placed (mark_of k t) t q h
  needing_placed (Sum s) q h = h

  dropping_placed : (x : Term) → Placed (asks_dropped k x)
  dropping_placed Unset = tt
  dropping_placed Null = tt
  dropping_placed Text = tt
  dropping_placed (Number n) = tt
  dropping_placed (Token t) = knowing_mark_placed (mark_of k t) t (Does Quiet) tt
  dropping_placed (Sum s) = tt

  needing_for_placed : (p : Param) (x : Term) (q : Question) → Placed q → Placed (asks_param k p x q)
  needing_for_placed param.Object x q h = needing_placed x q h
  needing_for_placed param.Text x q h = needing_placed x q h
  needing_for_placed param.ObjectOrNull x q h = h
  needing_for_placed param.TextOrNull x q h = h
  needing_for_placed param.Int x q h = h
  needing_for_placed param.Long x q h = h
  needing_for_placed param.Size x q h = h
  needing_for_placed param.ModuleDef x q h = h

  needing_all_placed : (ps : List Param) (xs : List Term) (q : Question) → Placed q
      → Placed (asks_params k ps xs q)
  needing_all_placed [] xs q h = h
  needing_all_placed (p ∷ ps) [] q h = h
  needing_all_placed (p ∷ ps) (x ∷ xs) q h = needing_for_placed p x (asks_params k ps xs q)
      (needing_all_placed ps xs q h)

  knowing_for_placed : (t : Take) (x : Term) (q : Question) → Placed q → Placed (asks_take k t x q)
  knowing_for_placed take.Never x q h = h
  knowing_for_placed take.Always x q h = knowing_placed x q h
  knowing_for_placed take.OnSuccess x q h = knowing_placed x q h

  asks_takes_placed : (ts : List Take) (xs : List Term) (q : Question) → Placed q
      → Placed (asks_takes k ts xs q)
  asks_takes_placed [] xs q h = h
  asks_takes_placed (t ∷ ts) [] q h = h
  asks_takes_placed (t ∷ ts) (x ∷ xs) q h = knowing_for_placed t x (asks_takes k ts xs q) (asks_takes_placed ts xs q h)

  call_answering_placed : (a : CallAnswer) → Placed (asks_call_answer a)
  call_answering_placed (Of a) = answering_placed a
  call_answering_placed Argument = tt

  own_placed : (own : Option OwnEffect) (ts : List Take) (xs : List Term) (q : Question) → Placed q
      → Placed (asks_own k own ts xs q)
  own_placed None ts xs q h = asks_takes_placed ts xs q h
  own_placed (Some IncRef) ts xs q h = knowing_placed (first_term xs) q h
  own_placed (Some DecRef) ts xs q h = knowing_placed (first_term xs) q h

  signature_placed : (g : Signature) (xs : List Term) → Placed (asks_signature k g xs)
  signature_placed g xs = needing_all_placed g.params xs _
      (own_placed g.own g.takes xs (asks_call_answer g.answer) (call_answering_placed g.answer))

  -- ---- slots

  at_place_placed : (o : Option ℕ) → FindsPlaced (at_place o)
  at_place_placed None = tt
  at_place_placed (Some i) = tt

  ask_made_placed : (t j : ℕ) (b : Bool) → nat_lt j (length k.made) ≡ b
      → FindsPlaced (cond b (Waits (Base t (get_or k.made j 0) (length k.slots + j))) Nowhere)
  ask_made_placed t j true e = let lt = made_within j (length k.made) e in omega (arith, lt)
  ask_made_placed t j false e = tt

  ask_base_placed : (t c : ℕ) (tag field : Name) (o : Option ℕ)
      → position (λ s. is_field tag field s.spot) (drop c k.slots) ≡ o → FindsPlaced (ask_base t c k.slots k.made o)
  ask_base_placed t c tag field None e =
      let j = c - length k.slots in ask_made_placed t j (nat_lt j (length k.made)) refl
  ask_base_placed t c tag field (Some j) e =
      let found = position-Some (λ s. is_field tag field s.spot) (drop c k.slots) j no_slot e in
      let lt = within_rest k.slots c j found.0 in
      omega (arith, lt)

  found_placed : (i : ℕ) (b : Bool) → FindsPlaced (cond b (At i) OfMade)
  found_placed i true = tt
  found_placed i false = tt

  seek_placed : (p : Progress) (t : ℕ) (tag field : Name) → FindsPlaced (seek p t tag field k.slots k.made)
  seek_placed (Found i) t tag field = found_placed i (nat_lt i (length k.slots))
  seek_placed (Looking c) t tag field =
      ask_base_placed t c tag field (position (λ s. is_field tag field s.spot) (drop c k.slots)) refl

  find_token_placed : (t : ℕ) (m : Mark) (tag field : Name) → FindsPlaced (find_token k t m tag field)
  find_token_placed t Pointer tag field = tt
  find_token_placed t TextPointer tag field = tt
  find_token_placed t IsNull tag field = tt
  find_token_placed t IsObject tag field = seek_placed k.progress t tag field
  find_token_placed t IsText tag field = tt
  find_token_placed t (IsNumber n) tag field = tt
  find_token_placed t (IsConverted n) tag field = tt
  find_token_placed t (Integer r) tag field = tt

  find_field_placed : (x : Term) (tag field : Name) → FindsPlaced (find_field k x tag field)
  find_field_placed Unset tag field = tt
  find_field_placed Null tag field = tt
  find_field_placed Text tag field = tt
  find_field_placed (Number n) tag field = tt
  find_field_placed (Token t) tag field = find_token_placed t (mark_of k t) tag field
  find_field_placed (Sum s) tag field = tt

  find_placed : (place : Place) → FindsPlaced (find k place)
  find_placed (places.Global n kind) = at_place_placed (position (λ s. is_global n s.spot) k.slots)
  find_placed (places.Field base tag field kind) = find_field_placed (term_of k base) tag field

  loading_placed : (m : Mark) (f : Finding) → FindsPlaced f → Placed (asks_load k m f)
  loading_placed m (Waits q) h = h
  loading_placed m (At i) h = setting_placed (slot_note k.slots i).held (Does Quiet) tt
  loading_placed m OfMade h = tt
  loading_placed m Nowhere h = tt

  storing_placed : (m : Mark) (f : Finding) → FindsPlaced f → Placed (asks_store k m f)
  storing_placed m (Waits q) h = h
  storing_placed m (At i) h = dropping_placed (slot_note k.slots i).held
  storing_placed m OfMade h = tt
  storing_placed m Nowhere h = tt

  -- ---- instructions

  return_placed : (o : Option Atom) → Placed (asks_return k o)
  return_placed None = tt
  return_placed (Some a) = knowing_placed (term_of k a) (Returns (Some (term_of k a))) tt

  instr_placed : (i : Instr) → Placed (asks_instr k i)
  instr_placed (Set x a) = setting_placed (term_of k a) (Does Quiet) tt
  instr_placed (Arith x kind o a b) = setting_placed (term_of k a) _ (setting_placed (term_of k b) _
      (arith_placed o kind (number_in (term_of k a)) (number_in (term_of k b)) _
      (computed_placed kind o (sum_in k (term_of k a)) (sum_in k (term_of k b)))))
  instr_placed (Fit x kind a) = setting_placed (term_of k a) _ (conversion_placed kind (number_in (term_of k a)) _
      (result_placed kind (sum_in k (term_of k a))))
  instr_placed (Compare x c a b) = ordering_placed (number_in (term_of k a)) (number_in (term_of k b)) _
      (orders_placed (sum_in k (term_of k a)) (sum_in k (term_of k b)) _ (knowing_placed (term_of k a) _
      (knowing_placed (term_of k b) _ (pointers_placed (sum_in k (term_of k a)) (sum_in k (term_of k b)) _
      (comparing_placed (object_of k (term_of k a)) (object_of k (term_of k b)))))))
  instr_placed (Load x place) = loading_placed (content_mark (place_kind place)) (find k place) (find_placed place)
  instr_placed (Store place a) = knowing_placed (term_of k a) _ (storing_placed (content_mark (place_kind place))
      (find k place) (find_placed place))
  instr_placed (Api x g as') = all_set_placed (terms_of k as') _ (signature_placed g (terms_of k as'))
  instr_placed (Call x f as') = tt
  instr_placed (Forget x) = tt
  instr_placed (Jump to) = tt
  instr_placed (Branch a this other) = ordering_placed (number_in (term_of k a)) (Some (pos 0)) _
      (sign_placed (sum_in k (term_of k a)) _ (knowing_placed (term_of k a) (Does Quiet) tt))
  instr_placed (Return o) = return_placed o
  instr_placed Fall = tt

line_placed : (code : List Line) (k : Known) (o : Option Line) → slice_get code k.pc ≡ o
    → IsPlaced code k (asks_line k o)
line_placed code k None e = tt
line_placed code k (Some line) e = instr_placed code k (slice_get_within code k.pc line e) line.instr

while_placed : (code : List Line) (k : Known) (z : Status) (q : Question) → IsPlaced code k q
    → IsPlaced code k (ask_while z q)
while_placed code k status.Going q h = h
while_placed code k (status.Returned p x) q h = tt
while_placed code k (status.Stopped p) q h = tt
while_placed code k (status.Blocked o p) q h = tt

turn_placed : (code : List Line) (k : Known) (b : Bool) (q : Question) → IsPlaced code k q
    → IsPlaced code k (cond b Turn q)
turn_placed code k true q h = tt
turn_placed code k false q h = h

pub ask_placed : (code : List Line) (k : Known) → IsPlaced code k (ask code k)
ask_placed code k =
    let q = asks_line k (slice_get code k.pc) in
    while_placed code k k.status (asks_turn k q) (turn_placed code k (is_bounded k.turns k.pc) q
    (line_placed code k (slice_get code k.pc) refl))

pub placed_as : (code : List Line) (k : Known) (q : Question) → q ≡ ask code k → IsPlaced code k q
placed_as code k q e = subst (IsPlaced code k) (sym e) (ask_placed code k)
