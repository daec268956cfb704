-- What a question says of the state that asks it.
use Rattle.std.proofs.Common.{◌≡◌, ℕ, ◌-◌, ℤ, pos, negsuc, ◌+ℤ◌, ◌-ℤ◌, List, [], ◌∷◌, length, get_or}
use Rattle.std.proofs.Common.{Bool}
use Rattle.std.proofs.Common.{true, false, refl, sym, ap, ◌∙◌, subst, Option, None, Some, cond}
use Rattle.pungi_code.specs.declared.atom.Atom.{Atom}
use Rattle.pungi_code.specs.declared.atom.Atom.TheVariants as atom
use Rattle.pungi_code.specs.declared.atom.Var.{Var}
use Rattle.pungi_code.specs.declared.code.Line.{Line}
use Rattle.pungi_code.specs.declared.instr.Instr.{Instr}
use Rattle.pungi_symbol.specs.declared.answers.decision.Decision.{Decision}
use Rattle.pungi_symbol.specs.declared.answers.decision.Decision.TheVariants.{Quiet}
use Rattle.pungi_symbol.specs.declared.states.known.Known.{Known}
use Rattle.pungi_symbol.specs.declared.states.mark.Mark.{Mark}
use Rattle.pungi_symbol.specs.declared.states.mark.Mark.TheVariants.{Pointer, TextPointer, IsNull, IsObject, IsText}
use Rattle.pungi_symbol.specs.declared.states.mark.Mark.TheVariants.{IsNumber, IsConverted, Integer}
use Rattle.pungi_symbol.specs.declared.questions.question.Question.{Question}
use Rattle.pungi_symbol.specs.declared.questions.question.Question.TheVariants.{Does, Touches, Overwrites}
use Rattle.pungi_symbol.specs.declared.questions.question.Question.TheVariants.{Null as AsksNull, Base, Answers, Same}
use Rattle.pungi_symbol.specs.declared.questions.question.Question.TheVariants.{Orders, Range, Computes, Unplain, Turn}
use Rattle.pungi_symbol.specs.declared.questions.question.Question.TheVariants.{Returns, Stops, Over}
use Rattle.pungi_symbol.specs.declared.states.node.Node.TheVariants as nodes
use Rattle.pungi_symbol.specs.declared.states.state.State.{State}
use Rattle.pungi_symbol.specs.declared.states.sum.Sum.{Sum as SumOf}
use Rattle.pungi_symbol.specs.declared.states.term.Term.{Term}
use Rattle.pungi_symbol.specs.declared.states.term.Term.TheVariants.{Unset, Null, Text, Number, Token, Sum}
use Rattle.pungi_symbol.specs.runs.Fits.{IsBelow, IsSound}
use Rattle.pungi_code.specs.WellFormed.{is_there}
use Rattle.std.specs.Prelude.{◌^◌}
use Rattle.std.specs.List.{list_all}
use Rattle.pungi_api.specs.declared.answer.Answer.{Answer}
use Rattle.pungi_api.specs.declared.answer.Answer.TheVariants as answer
use Rattle.pungi_api.specs.declared.param.Param.{Param}
use Rattle.pungi_api.specs.declared.param.Param.TheVariants as param
use Rattle.pungi_api.specs.declared.call_answer.CallAnswer.{CallAnswer}
use Rattle.pungi_api.specs.declared.call_answer.CallAnswer.TheVariants.{Of, Argument}
use Rattle.pungi_api.specs.declared.own_effect.OwnEffect.{OwnEffect}
use Rattle.pungi_api.specs.declared.own_effect.OwnEffect.TheVariants.{IncRef, DecRef}
use Rattle.pungi_api.specs.declared.signature.Signature.{Signature}
use Rattle.pungi_api.specs.declared.take.Take.{Take}
use Rattle.pungi_api.specs.declared.take.Take.TheVariants as take
use Rattle.pungi_types.specs.declared.kind.ValueKind.{ValueKind}
use Rattle.pungi_world.specs.Choices.{is_between}
use Rattle.pungi_meaning.specs.declared.op.Op.{Op}
use Rattle.pungi_meaning.specs.declared.op.Op.TheVariants as ops
use Rattle.pungi_meaning.specs.Values.{fits, arithmetic}
use Rattle.pungi_code.specs.declared.instr.Instr.TheVariants.{Set, Arith, Fit, Compare, Load, Store, Api, Call}
use Rattle.pungi_code.specs.declared.instr.Instr.TheVariants.{Unset as Forget, Jump, Branch, Return, Fall}
use Rattle.pungi_code.specs.declared.place.Place.{Place}
use Rattle.pungi_code.specs.WellFormed.{place_kind}
use Rattle.pungi_symbol.specs.states.Known.{count, mark_of, term_of, number_in, sum_in, object_of, find}
use Rattle.pungi_symbol.specs.states.Known.{slot_note, spot_of, variable, sum_of_mark}
use Rattle.pungi_symbol.specs.states.Terms.{is_zero_node, is_same_node, NodeBelow}
use Rattle.pungi_symbol.specs.questions.NextQuestion.{asks_set, asks_known, asks_thing, asks_order, asks_same}
use Rattle.pungi_symbol.specs.questions.NextQuestion.{asks_range, content_mark, asks_load, asks_store, asks_dropped}
use Rattle.pungi_symbol.specs.questions.NextQuestion.{asks_all_set, asks_param, asks_params, asks_take, asks_takes}
use Rattle.pungi_symbol.specs.questions.NextQuestion.{asks_answer, asks_call_answer, asks_own, asks_signature}
use Rattle.pungi_symbol.specs.questions.NextQuestion.{asks_orders, asks_pointers, asks_compare, asks_arith, is_below}
use Rattle.pungi_symbol.specs.questions.NextQuestion.{asks_conversion, asks_result, asks_sign, asks_sum}
use Rattle.pungi_symbol.specs.questions.NextQuestion.{asks_computed, sum_of, small_sum}
use Rattle.pungi_symbol.specs.questions.NextQuestion.{first_term, terms_of}
use Rattle.pungi_symbol.specs.questions.NextQuestion.{asks_return, asks_instr, asks_line, asks_turn}
use Rattle.pungi_symbol.specs.states.Turns.{is_bounded}
use Rattle.pungi_symbol.specs.answers.KnownAfter.{instr_of}
use Rattle.pungi_symbol.specs.answers.SymbolicState.{is_among}
use Rattle.pungi_code.specs.WellFormed.{atoms_of, atom_in}
use Rattle.pungi_symbol.specs.runs.Fits.{IsObjectSpot}
use Rattle.pungi_symbol.proofs.states.Contents.{unset, asks, passes, knowing_is, unset_n, null_n, asks_n, passes_n}
use Rattle.pungi_symbol.proofs.states.Contents.{needing_is, IsKnown, is_open, has_answers}
use Rattle.pungi_symbol.proofs.steps.Comparisons.{Objected, an_object, no_object, objected}
use Rattle.pungi_symbol.proofs.steps.Dropped.{drop_asks, drop_known, drop_unset, dropping_is, content_answers}
use Rattle.pungi_symbol.proofs.states.Terms.{atom_below}
use Rattle.pungi_symbol.proofs.steps.Rows.{all_there}
use Rattle.pungi_symbol.proofs.steps.Seeks.{s_stop, s_null, s_base, s_at, s_made, s_new, seeks}

-- an instruction loads, or stores, and the base of its slot is an object
abbrev pub LoadOk : Instr → Known → Type 0
LoadOk (Load x place) k = IsObjectSpot k.marks (spot_of k place)
LoadOk i k = ⊥

abbrev pub StoreOk : Instr → Known → Type 0
StoreOk (Store place a) k = IsObjectSpot k.marks (spot_of k place)
StoreOk i k = ⊥

abbrev pub IsGiven : Known → Option Term → Type 0
IsGiven k None = Unit {0}
IsGiven k (Some x) = IsKnown k x × IsBelow (count k) x

-- what sums, terms and questions begin with is a result of one of the first computations, or none
abbrev pub SumBelow : ℕ → SumOf → Type 0
SumBelow c a = NodeBelow c a.node

abbrev pub TermBelow : ℕ → Term → Type 0
TermBelow c Unset = Unit {0}
TermBelow c Null = Unit {0}
TermBelow c Text = Unit {0}
TermBelow c (Number n) = Unit {0}
TermBelow c (Token t) = Unit {0}
TermBelow c (Sum s) = SumBelow c s

abbrev pub AreVarsBelow : Known → Type 0
AreVarsBelow k = (x : ℕ) → TermBelow (length k.computed) (variable k x)

pub term_at : (k : Known) (a : Atom) → AreVarsBelow k → TermBelow (length k.computed) (term_of k a)
term_at k (atom.Var x) h = h x.0
term_at k (atom.Int n) h = tt
term_at k atom.Null h = tt
term_at k atom.Text h = tt
term_at k (atom.Static n) h = tt

abbrev SumThere : Known → Option SumOf → Type 0
SumThere k None = Unit {0}
SumThere k (Some a) = AreVarsBelow k → SumBelow (length k.computed) a

mark_sum : (k : Known) (m : Mark) (t : ℕ) → SumThere k (sum_of_mark m t)
mark_sum k Pointer t = tt
mark_sum k TextPointer t = tt
mark_sum k IsNull t = tt
mark_sum k IsObject t = tt
mark_sum k IsText t = tt
mark_sum k (IsNumber n) t = tt
mark_sum k (IsConverted n) t = tt
mark_sum k (Integer r) t = λ h. tt

term_sum : (k : Known) (x : Term) → (AreVarsBelow k → TermBelow (length k.computed) x) → SumThere k (sum_in k x)
term_sum k Unset h = tt
term_sum k Null h = tt
term_sum k Text h = tt
term_sum k (Number n) h = λ b. tt
term_sum k (Token t) h = mark_sum k (mark_of k t) t
term_sum k (Sum s) h = h

atom_sum : (k : Known) (a : Atom) → SumThere k (sum_in k (term_of k a))
atom_sum k a = term_sum k (term_of k a) (term_at k a)

small_there : (k : Known) (s : SumOf) → (AreVarsBelow k → SumBelow (length k.computed) s) → SumThere k (small_sum s)
small_there k s h = by (is_between (negsuc (2 ^ 64 - 2)) (pos (2 ^ 64 - 1)) s.plus)
  where
    by : (b : Bool) → SumThere k (cond b (Some s) None)
    by true = h
    by false = tt

none_or : (k : Known) (b : Bool) (o : Option SumOf) → SumThere k o → SumThere k (cond b o None)
none_or k true o h = h
none_or k false o h = tt

one_or : (k : Known) (b : Bool) (o u : Option SumOf) → SumThere k o → SumThere k u → SumThere k (cond b o u)
one_or k true o u h g = h
one_or k false o u h g = g

two_sum : (k : Known) (o : Op) (a b : SumOf) → SumThere k (Some a) → SumThere k (Some b) → SumThere k (sum_of o a b)
two_sum k ops.Add a b h g =
    one_or k (is_zero_node b.node) _ _ (small_there k (record { node = a.node; plus = a.plus +ℤ b.plus }) h)
    (none_or k (is_zero_node a.node) _ (small_there k (record { node = b.node; plus = a.plus +ℤ b.plus }) g))
two_sum k ops.Sub a b h g =
    one_or k (is_zero_node b.node) _ _ (small_there k (record { node = a.node; plus = a.plus -ℤ b.plus }) h)
    (none_or k (is_same_node a.node b.node) _ (small_there k (record { node = nodes.Zero; plus = a.plus -ℤ b.plus })
    (λ w. tt)))
two_sum k ops.Mul a b h g = tt
two_sum k ops.Div a b h g = tt
two_sum k ops.Rem a b h g = tt

abbrev pub IsAsked : Instr → Known → Question → Type 0
IsAsked i k (Does d) = Unit {0}
IsAsked i k (Touches r) = LoadOk i k × (has_answers r ≡ true)
IsAsked i k (Overwrites r) = StoreOk i k × (has_answers r ≡ true)
IsAsked i k (AsksNull t) = is_open (mark_of k t) ≡ true
IsAsked i k (Base t u j) = (mark_of k t ≡ IsObject) × (mark_of k u ≡ IsObject)
IsAsked i k (Answers a) = Unit {0}
IsAsked i k (Same t u) = (mark_of k t ≡ IsObject) × (mark_of k u ≡ IsObject)
IsAsked i k (Orders a b) = AreVarsBelow k → SumBelow (length k.computed) a × SumBelow (length k.computed) b
IsAsked i k (Range kind a) = AreVarsBelow k → SumBelow (length k.computed) a
IsAsked i k (Computes kind o a b) = AreVarsBelow k → SumBelow (length k.computed) a × SumBelow (length k.computed) b
IsAsked i k Unplain = Unit {0}
IsAsked i k Turn = is_bounded k.turns k.pc ≡ true
IsAsked i k (Returns x) = IsGiven k x
IsAsked i k (Stops d) = Unit {0}
IsAsked i k Over = Unit {0}

module _ (i : Instr) (k : Known) where
  setting_asked : (x : Term) (q : Question) → IsAsked i k q → IsAsked i k (asks_set x q)
  setting_asked Unset q h = tt
  setting_asked Null q h = h
  setting_asked Text q h = h
  setting_asked (Number n) q h = h
  setting_asked (Token t) q h = h
  setting_asked (Sum s) q h = h

  knowing_asked : (x : Term) (q : Question) → (IsKnown k x → IsAsked i k q) → IsAsked i k (asks_known k x q)
  knowing_asked x q h = elim (knowing_is k x q) [
    | unset u e ↦ subst (IsAsked i k) (sym e) tt
    | asks t u o e ↦ subst (IsAsked i k) (sym e) o
    | passes kn e ↦ subst (IsAsked i k) (sym e) (h kn)
  ]

  needing_asked : (x : Term) (q : Question) → IsAsked i k q → IsAsked i k (asks_thing k x q)
  needing_asked x q h = elim (needing_is k x q) [
    | unset_n u e ↦ subst (IsAsked i k) (sym e) tt
    | null_n u kn e ↦ subst (IsAsked i k) (sym e) tt
    | asks_n t u o e ↦ subst (IsAsked i k) (sym e) o
    | passes_n kn th e ↦ subst (IsAsked i k) (sym e) h
  ]

  ordering_asked : (a b : Option ℤ) (q : Question) → IsAsked i k q → IsAsked i k (asks_order a b q)
  ordering_asked None b q h = h
  ordering_asked (Some m) None q h = h
  ordering_asked (Some m) (Some n) q h = tt

  orders_asked : (a b : Option SumOf) (q : Question) → SumThere k a → SumThere k b → IsAsked i k q
      → IsAsked i k (asks_orders a b q)
  orders_asked None b q f g h = h
  orders_asked (Some a) None q f g h = h
  orders_asked (Some a) (Some b) q f g h = λ w. (f w, g w)

  pointers_asked : (a b : Option SumOf) (q : Question) → IsAsked i k q → IsAsked i k (asks_pointers a b q)
  pointers_asked None None q h = h
  pointers_asked None (Some b) q h = tt
  pointers_asked (Some a) b q h = tt

  sign_asked : (a : Option SumOf) (q : Question) → SumThere k a → IsAsked i k q → IsAsked i k (asks_sign a q)
  sign_asked None q f h = h
  sign_asked (Some a) q f h = λ w. (f w, tt)

  result_asked : (kind : ValueKind) (r : Option SumOf) → SumThere k r → IsAsked i k (asks_result kind r)
  result_asked kind None f = tt
  result_asked kind (Some r) f = f

  sum_asked : (kind : ValueKind) (o : Op) (a b : SumOf) (r : Option SumOf) → SumThere k (Some a) → SumThere k (Some b)
      → SumThere k r → IsAsked i k (asks_sum kind o a b r)
  sum_asked kind o a b None f g h = λ w. (f w, g w)
  sum_asked kind o a b (Some r) f g h = h

  computed_asked : (kind : ValueKind) (o : Op) (a b : Option SumOf) → SumThere k a → SumThere k b
      → IsAsked i k (asks_computed kind o a b)
  computed_asked kind o None b f g = tt
  computed_asked kind o (Some a) None f g = tt
  computed_asked kind o (Some a) (Some b) f g = sum_asked kind o a b (sum_of o a b) f g (two_sum k o a b f g)

  comparing_by : (a b : Term) → Objected k a → Objected k b → IsAsked i k (asks_same (object_of k a) (object_of k b))
  comparing_by a b (an_object t e m o) (an_object u f n r) = subst (IsAsked i k)
      (sym (ap (λ z. asks_same z (object_of k b)) o ∙ ap (asks_same (Some t)) r)) (m, n)
  comparing_by a b (an_object t e m o) (no_object r g) = subst (IsAsked i k)
      (sym (ap (λ z. asks_same z (object_of k b)) o ∙ ap (asks_same (Some t)) r)) tt
  comparing_by a b (no_object o g) r = subst (IsAsked i k) (sym (ap (λ z. asks_same z (object_of k b)) o)) tt

  compared_asked : (a b : Term) → SumThere k (sum_in k a) → SumThere k (sum_in k b) → IsAsked i k (asks_compare k a b)
  compared_asked a b f g = ordering_asked (number_in a) (number_in b) _
      (orders_asked (sum_in k a) (sum_in k b) _ f g (knowing_asked a _ (λ _. knowing_asked b _ (λ _. pointers_asked
      (sum_in k a) (sum_in k b) _ (comparing_by a b (objected k a) (objected k b))))))

  ranged_asked : (o : Option ℤ) (b : Bool) → IsAsked i k (asks_range o b)
  ranged_asked None b = tt
  ranged_asked (Some n) b = tt

  arithmetic_asked : (o : Op) (kind : ValueKind) (a b : Option ℤ) (q : Question) → IsAsked i k q
      → IsAsked i k (asks_arith o kind a b q)
  arithmetic_asked o kind None b q h = h
  arithmetic_asked o kind (Some m) None q h = h
  arithmetic_asked o kind (Some m) (Some n) q h = ranged_asked (arithmetic o kind m n) (is_below o m n)

  fitting_by : (b : Bool) (d e : Decision) → IsAsked i k (cond b (Does d) (Stops e))
  fitting_by true d e = tt
  fitting_by false d e = tt

  conversion_asked : (kind : ValueKind) (a : Option ℤ) (q : Question) → IsAsked i k q
      → IsAsked i k (asks_conversion kind a q)
  conversion_asked kind None q h = h
  conversion_asked kind (Some n) q h = fitting_by (fits kind n) _ _

  dropping_asked : (x : Term) → IsAsked i k (asks_dropped k x)
  dropping_asked x = elim (dropping_is k x) [
    | drop_asks t e o ↦ subst (IsAsked i k) (sym e) o
    | drop_known e kn ↦ subst (IsAsked i k) (sym e) tt
    | drop_unset e u ↦ subst (IsAsked i k) (sym e) tt
  ]

  all_set_asked : (xs : List Term) (q : Question) → IsAsked i k q → IsAsked i k (asks_all_set xs q)
  all_set_asked [] q h = h
  all_set_asked (x ∷ xs) q h = setting_asked x (asks_all_set xs q) (all_set_asked xs q h)

  needing_for_asked : (p : Param) (x : Term) (q : Question) → IsAsked i k q → IsAsked i k (asks_param k p x q)
  needing_for_asked param.Object x q h = needing_asked x q h
  needing_for_asked param.Text x q h = needing_asked x q h
  needing_for_asked param.ObjectOrNull x q h = h
  needing_for_asked param.TextOrNull x q h = h
  needing_for_asked param.Int x q h = h
  needing_for_asked param.Long x q h = h
  needing_for_asked param.Size x q h = h
  needing_for_asked param.ModuleDef x q h = h

  needing_all_asked : (ps : List Param) (xs : List Term) (q : Question) → IsAsked i k q
      → IsAsked i k (asks_params k ps xs q)
  needing_all_asked [] xs q h = h
  needing_all_asked (p ∷ ps) [] q h = h
  needing_all_asked (p ∷ ps) (x ∷ xs) q h = needing_for_asked p x (asks_params k ps xs q) (needing_all_asked ps xs q h)

  knowing_for_asked : (t : Take) (x : Term) (q : Question) → IsAsked i k q → IsAsked i k (asks_take k t x q)
  knowing_for_asked take.Never x q h = h
  knowing_for_asked take.Always x q h = knowing_asked x q (λ _. h)
  knowing_for_asked take.OnSuccess x q h = knowing_asked x q (λ _. h)

  asks_takes_asked : (ts : List Take) (xs : List Term) (q : Question) → IsAsked i k q
      → IsAsked i k (asks_takes k ts xs q)
  asks_takes_asked [] xs q h = h
  asks_takes_asked (t ∷ ts) [] q h = h
  asks_takes_asked (t ∷ ts) (x ∷ xs) q h = knowing_for_asked t x (asks_takes k ts xs q) (asks_takes_asked ts xs q h)

  answering_asked : (a : Answer) → IsAsked i k (asks_answer a)
  answering_asked answer.Void = tt
  answering_asked answer.Null = tt
  answering_asked answer.New = tt
  answering_asked answer.Borrowed = tt
  answering_asked answer.BorrowedSure = tt
  answering_asked answer.Status = tt
  answering_asked answer.Truth = tt
  answering_asked answer.Size = tt
  answering_asked answer.Int = tt
  answering_asked answer.Long = tt
  answering_asked answer.Text = tt
  answering_asked answer.Found = tt
  answering_asked (answer.Converted failures least most) = tt
  answering_asked answer.AnySize = tt
  answering_asked answer.Flag = tt
  answering_asked answer.TextSure = tt
  answering_asked answer.Made = tt

  call_answering_asked : (a : CallAnswer) → IsAsked i k (asks_call_answer a)
  call_answering_asked (Of a) = answering_asked a
  call_answering_asked Argument = tt

  own_asked : (own : Option OwnEffect) (ts : List Take) (xs : List Term) (q : Question) → IsAsked i k q
      → IsAsked i k (asks_own k own ts xs q)
  own_asked None ts xs q h = asks_takes_asked ts xs q h
  own_asked (Some IncRef) ts xs q h = knowing_asked (first_term xs) q (λ _. h)
  own_asked (Some DecRef) ts xs q h = knowing_asked (first_term xs) q (λ _. h)

  signature_asked : (g : Signature) (xs : List Term) → IsAsked i k (asks_signature k g xs)
  signature_asked g xs = needing_all_asked g.params xs _
      (own_asked g.own g.takes xs (asks_call_answer g.answer) (call_answering_asked g.answer))

-- ---- slots

module _ (k : Known) (spots : (j : ℕ) → IsObjectSpot k.marks (slot_note k.slots j).spot)
    (made : (m : ℕ) → is_among k.made m ≡ true → get_or k.marks m IsNull ≡ IsObject) where
  loading_asked : (x : Var) (place : Place)
      → IsAsked (Load x place) k (asks_load k (content_mark (place_kind place)) (find k place))
  loading_asked x place =
      let i = Load x place in
      let r = content_mark (place_kind place) in
      elim (seeks k spots made place) [
        | s_stop e ↦ subst (λ f. IsAsked i k (asks_load k r f)) (sym e) tt
        | s_null t e o ↦ subst (λ f. IsAsked i k (asks_load k r f)) (sym e) o
        | s_base t u j e m n ↦ subst (λ f. IsAsked i k (asks_load k r f)) (sym e) (m, n)
        | s_at j e ↦ subst (λ f. IsAsked i k (asks_load k r f)) (sym e) (setting_asked i k
            (slot_note k.slots j).held (Does Quiet) tt)
        | s_made e h ↦ subst (λ f. IsAsked i k (asks_load k r f)) (sym e) tt
        | s_new e h ↦ subst (λ f. IsAsked i k (asks_load k r f)) (sym e) (h, content_answers (place_kind place))
      ]

  storing_asked : (place : Place) (a : Atom)
      → IsAsked (Store place a) k (asks_store k (content_mark (place_kind place)) (find k place))
  storing_asked place a =
      let i = Store place a in
      let r = content_mark (place_kind place) in
      elim (seeks k spots made place) [
        | s_stop e ↦ subst (λ f. IsAsked i k (asks_store k r f)) (sym e) tt
        | s_null t e o ↦ subst (λ f. IsAsked i k (asks_store k r f)) (sym e) o
        | s_base t u j e m n ↦ subst (λ f. IsAsked i k (asks_store k r f)) (sym e) (m, n)
        | s_at j e ↦ subst (λ f. IsAsked i k (asks_store k r f)) (sym e) (dropping_asked i k (slot_note k.slots j).held)
        | s_made e h ↦ subst (λ f. IsAsked i k (asks_store k r f)) (sym e) tt
        | s_new e h ↦ subst (λ f. IsAsked i k (asks_store k r f)) (sym e) (h, content_answers (place_kind place))
      ]

-- ---- instructions

module _ (s : State) (w : IsSound s) where
  return_asked : (o : Option Atom) → list_all (is_there s.statics) (atom_in o) ≡ true
      → IsAsked (Return o) s.known (asks_return s.known o)
  return_asked None h = tt
  return_asked (Some a) h =
      knowing_asked (Return (Some a)) s.known (term_of s.known a) (Returns (Some (term_of s.known a))) (λ kn. (
        kn,
        atom_below s.known.marks s.known.vars s.known.slots w.terms s.known s.statics a refl w.notes.statics
            (all_there s.statics a [] h).0,
      ))

  pub asked : (i : Instr) → list_all (is_there s.statics) (atoms_of i) ≡ true → IsAsked i s.known (asks_instr s.known i)
  asked (Set x a) h = setting_asked (Set x a) s.known (term_of s.known a) (Does Quiet) tt
  asked (Arith x kind o a b) h = setting_asked (Arith x kind o a b) s.known (term_of s.known a) _
      (setting_asked (Arith x kind o a b) s.known (term_of s.known b) _
      (arithmetic_asked (Arith x kind o a b) s.known o kind (number_in (term_of s.known a))
      (number_in (term_of s.known b)) _
      (computed_asked (Arith x kind o a b) s.known kind o (sum_in s.known (term_of s.known a))
      (sum_in s.known (term_of s.known b)) (atom_sum s.known a) (atom_sum s.known b))))
  asked (Fit x kind a) h = setting_asked (Fit x kind a) s.known (term_of s.known a) _
      (conversion_asked (Fit x kind a) s.known kind (number_in (term_of s.known a)) _
      (result_asked (Fit x kind a) s.known kind (sum_in s.known (term_of s.known a)) (atom_sum s.known a)))
  asked (Compare x c a b) h = compared_asked (Compare x c a b) s.known (term_of s.known a) (term_of s.known b)
      (atom_sum s.known a) (atom_sum s.known b)
  asked (Load x place) h = loading_asked s.known w.terms.spots w.made.objects x place
  asked (Store place a) h = knowing_asked (Store place a) s.known (term_of s.known a) _
      (λ _. storing_asked s.known w.terms.spots w.made.objects place a)
  asked (Api x g as') h = all_set_asked (Api x g as') s.known (terms_of s.known as') _
      (signature_asked (Api x g as') s.known g (terms_of s.known as'))
  asked (Call x f as') h = tt
  asked (Forget x) h = tt
  asked (Jump to) h = tt
  asked (Branch a this other) h = ordering_asked (Branch a this other) s.known (number_in (term_of s.known a))
      (Some (pos 0)) _ (sign_asked (Branch a this other) s.known (sum_in s.known (term_of s.known a)) _
      (atom_sum s.known a) (knowing_asked (Branch a this other) s.known (term_of s.known a) (Does Quiet) (λ _. tt)))
  asked (Return o) h = return_asked o h
  asked Fall h = tt

  pub asked_line : (o : Option Line) → ((line : Line) → o ≡ Some line
      → list_all (is_there s.statics) (atoms_of line.instr) ≡ true)
      → IsAsked (instr_of o) s.known (asks_line s.known o)
  asked_line None h = tt
  asked_line (Some line) h = asked line.instr (h line refl)

-- a loop's head may have to be counted first
pub asked_turn : (i : Instr) (k : Known) (q : Question) → IsAsked i k q → IsAsked i k (asks_turn k q)
asked_turn i k q h = by (is_bounded k.turns k.pc) refl
  where
    by : (b : Bool) → is_bounded k.turns k.pc ≡ b → IsAsked i k (cond b Turn q)
    by true e = e
    by false e = h
