-- Instructions that touch no slot and call nothing: a run and a state do the same.
use Rattle.std.proofs.Common.{◌≡◌, ℕ, ◌+◌, ℤ, pos, List, [], ◌∷◌, Bool, true, false, refl, sym, ap, ◌∙◌, subst, inr}
use Rattle.std.proofs.Common.{Option, None, Some, cond}
use Rattle.pungi_base.specs.declared.choice.Choice.{Choice}
use Rattle.pungi_base.specs.declared.pos.Pos.{Pos}
use Rattle.pungi_base.specs.declared.value.Value.{Value}
use Rattle.pungi_base.specs.declared.value.Value.TheVariants as value
use Rattle.pungi_world.specs.declared.content.Content.TheVariants as content
use Rattle.pungi_code.specs.declared.atom.Atom.{Atom}
use Rattle.pungi_code.specs.declared.atom.Var.{Var}
use Rattle.pungi_code.specs.declared.code.Line.{Line}
use Rattle.pungi_code.specs.declared.registers.After.TheVariants as after
use Rattle.pungi_code.specs.Registers.{Regs, put, content_of as atom_content}
use Rattle.pungi_symbol.specs.declared.answers.decision.Decision.{Decision}
use Rattle.pungi_symbol.specs.declared.answers.decision.Decision.TheVariants.{Quiet, Outcome, Order}
use Rattle.pungi_symbol.specs.declared.states.known.Status.TheVariants as status
use Rattle.pungi_symbol.specs.declared.questions.question.Question.{Question}
use Rattle.pungi_symbol.specs.declared.questions.question.Question.TheVariants.{Does, Orders, Returns, Stops}
use Rattle.pungi_symbol.specs.declared.states.spot.Progress.TheVariants.{Looking}
use Rattle.pungi_symbol.specs.declared.states.state.State.{State}
use Rattle.pungi_symbol.specs.declared.states.sum.Sum.{Sum as SumOf}
use Rattle.pungi_symbol.specs.declared.states.term.Term.{Term}
use Rattle.pungi_symbol.specs.declared.states.term.Term.TheVariants.{Unset, Number}
use Rattle.pungi_symbol.specs.states.Terms.{Table, content_of, sum_value}
use Rattle.pungi_symbol.specs.runs.Fits.{IsSound}
use Rattle.pungi_code.specs.WellFormed.{is_there}
use Rattle.pungi_symbol.specs.runs.RunInState.{Lies}
use Rattle.std.specs.Prelude.{int_lt, ◌&&◌}
use Rattle.std.specs.List.{list_all}
use Rattle.pungi_symbol.specs.runs.Paths.{value_in}
use Rattle.std.specs.Ordering.{int_cmp}
use Rattle.pungi_types.specs.declared.kind.ValueKind.{ValueKind}
use Rattle.pungi_meaning.specs.declared.op.Op.{Op}
use Rattle.pungi_meaning.specs.Values.{fits, arithmetic, in_range, number_of, is_true}
use Rattle.pungi_code.specs.declared.instr.Instr.TheVariants.{Set, Arith, Fit, Unset as Forget, Jump, Branch, Return}
use Rattle.pungi_code.specs.declared.instr.Instr.TheVariants.{Fall}
use Rattle.pungi_code.specs.declared.instr.Label.{Label}
use Rattle.pungi_symbol.specs.states.Known.{term_of, known_value, number, number_in, sum_in}
use Rattle.pungi_symbol.specs.states.Turns.{stepped}
use Rattle.pungi_symbol.specs.questions.NextQuestion.{asks_set, asks_known, asks_order, asks_range, is_below}
use Rattle.pungi_symbol.specs.questions.NextQuestion.{asks_return, asks_arith, asks_result, asks_conversion, asks_sign}
use Rattle.pungi_symbol.specs.questions.NextQuestion.{asks_computed, asks_sum, sum_of, zero_sum}
use Rattle.pungi_symbol.specs.answers.KnownAfter.{number_there, order_number}
use Rattle.pungi_code.specs.WellFormed.{atom_in}
use Rattle.pungi_symbol.specs.runs.OneInstruction.{Led, on_value, on_number, goes, leads}
use Rattle.pungi_symbol.proofs.states.Contents.{unset_s, set_s, setting_is, unset, asks, passes, knowing_is, term_value}
use Rattle.pungi_symbol.proofs.states.Contents.{holds_term, known_set, known_agrees, agrees_true, sum_is}
use Rattle.pungi_symbol.proofs.states.Contents.{Numbered, a_number, no_number, numbered}
use Rattle.pungi_symbol.proofs.states.Terms.{open_below}
use Rattle.pungi_symbol.proofs.steps.RunInState.{goes_on, as_many, Result, IsLine, same_decision, atom_is, below_is}
use Rattle.pungi_symbol.proofs.steps.RunInState.{led_is, null_result, stops_result, returns_result, put_lies, jump_lies}
use Rattle.pungi_symbol.proofs.steps.RunInState.{marks}
use Rattle.pungi_symbol.proofs.answers.LimitsMet.{sum_arithmetic, true_by_order}
use Rattle.pungi_symbol.proofs.steps.Numbers.{RealFor, unplain_result, orders_result, range_result, computes_result}

module _ (choices : List Choice) (code : List Line) (table : Table) (base : ℕ) (m : Regs) (s : State)
    (going : s.known.status ≡ status.Going) (w : IsSound s) (l : Lies code table base m s) (p : Pos) where
  -- an operand is unset, or has a value
  pub unset_led : (a : Atom) (go : Value → Led) → is_there s.statics a ≡ true → term_of s.known a ≡ Unset
      → on_value (atom_content a m.vars) p m go ≡ (after.Stops p, m)
  unset_led a go h e = ap (λ c. on_value c p m go) (atom_is choices code table base m s going w l p a h
      ∙ ap (content_of table) e)

  pub set_led : (a : Atom) (go : Value → Led) → is_there s.statics a ≡ true → (term_of s.known a ≡ Unset → ⊥)
      → on_value (atom_content a m.vars) p m go ≡ go (term_value table (term_of s.known a))
  set_led a go h ne = ap (λ c. on_value c p m go) (atom_is choices code table base m s going w l p a h
      ∙ holds_term table (term_of s.known a) ne)

  pub set_result : (x : Var) (a : Atom) → IsLine choices code table base m s going w l p (Set x a)
      → is_there s.statics a ≡ true → Result choices code table base m s going w l p (Set x a)
      (asks_set (term_of s.known a) (Does Quiet))
  set_result x a is h = elim (setting_is (term_of s.known a) (Does Quiet)) [
    | unset_s e q ↦ subst (Result choices code table base m s going w l p (Set x a)) (sym q)
        (stops_result choices code table base m s going w l p (Set x a) Quiet is (unset_led a _ h e))
    | set_s ne q ↦ subst (Result choices code table base m s going w l p (Set x a)) (sym q) (inr (
      refl,
      goes_on _ (as_many m) (led_is choices code table base m s going w l p (Set x a) is ∙ set_led a _ h ne) going refl
          (put_lies choices code table base m s going w l p x (term_of s.known a)
          (content.Holds (term_value table (term_of s.known a))) (s.known.pc + 1)
          (holds_term table (term_of s.known a) ne)),
    ))
  ]

  -- ---- arithmetic

  abbrev Ar : Op → ValueKind → Atom → Atom → Option ℤ
  Ar o kind a b = arithmetic o kind (number s.known (term_of s.known a)) (number s.known (term_of s.known b))

  abbrev ArithGo : Var → Option ℤ → Led
  ArithGo x r = on_number r p m (λ n. goes (s.known.pc + 1) (put x (content.Holds (value.Int n)) m))

  arith_led : (x : Var) (kind : ValueKind) (o : Op) (a b : Atom) (i j : ℤ) → is_there s.statics a ≡ true
      → is_there s.statics b ≡ true → (term_of s.known a ≡ Unset → ⊥) → (term_of s.known b ≡ Unset → ⊥)
      → number_of (term_value table (term_of s.known a)) ≡ i → number_of (term_value table (term_of s.known b)) ≡ j
      → leads choices (Arith x kind o a b) p s.known.pc m ≡ ArithGo x (arithmetic o kind i j)
  arith_led x kind o a b i j h g ne nf ei ej =
      set_led a _ h ne ∙ set_led b _ g nf
      ∙ ap (λ z. ArithGo x (arithmetic o kind z (number_of (term_value table (term_of s.known b))))) ei
      ∙ ap (λ z. ArithGo x (arithmetic o kind i z)) ej

  arith_known : (x : Var) (kind : ValueKind) (o : Op) (a b : Atom) (i j : ℤ) (r : Option ℤ)
      → IsLine choices code table base m s going w l p (Arith x kind o a b) → is_there s.statics a ≡ true
      → is_there s.statics b ≡ true → term_of s.known a ≡ Number i → term_of s.known b ≡ Number j
      → arithmetic o kind i j ≡ r
      → Result choices code table base m s going w l p (Arith x kind o a b) (asks_range r (is_below o i j))
  arith_known x kind o a b i j r is h g ea eb e = by r e
    where
      goes_as : leads choices (Arith x kind o a b) p s.known.pc m ≡ ArithGo x (arithmetic o kind i j)
      goes_as = arith_led x kind o a b i j h g (λ z. let bad : Number i ≡ Unset = sym ea ∙ z in cc)
          (λ z. let bad : Number j ≡ Unset = sym eb ∙ z in cc) (ap (λ z. number_of (term_value table z)) ea)
          (ap (λ z. number_of (term_value table z)) eb)

      same : Ar o kind a b ≡ arithmetic o kind i j
      same = ap (λ z. arithmetic o kind (number s.known z) (number s.known (term_of s.known b))) ea
          ∙ ap (λ z. arithmetic o kind i (number s.known z)) eb

      by : (r : Option ℤ) → arithmetic o kind i j ≡ r
          → Result choices code table base m s going w l p (Arith x kind o a b) (asks_range r (is_below o i j))
      by (Some n) e = inr (
        refl,
        goes_on _ (as_many m) (led_is choices code table base m s going w l p (Arith x kind o a b) is ∙ goes_as
            ∙ ap (ArithGo x) e) going refl (put_lies choices code table base m s going w l p x
            (Number (number_there (Ar o kind a b))) (content.Holds (value.Int n)) (s.known.pc + 1)
            (ap (λ z. content.Holds (value.Int (number_there z))) (same ∙ e))),
      )
      by None e = stops_result choices code table base m s going w l p (Arith x kind o a b)
          (Outcome (cond (is_below o i j) 0 2)) is (goes_as ∙ ap (ArithGo x) e)

  -- a term that is a number has the value of its sum
  sum_number : (a : Atom) (u : SumOf) → is_there s.statics a ≡ true → sum_in s.known (term_of s.known a) ≡ Some u
      → term_value table (term_of s.known a) ≡ value.Int (sum_value table u)
  sum_number a u h e = sum_is table s.known (marks choices code table base m s going w l p) (term_of s.known a) u
      (below_is choices code table base m s going w l p a h) e

  ranged : (x : Var) (kind : ValueKind) (n : ℤ) (b : Bool) → fits kind n ≡ b
      → ArithGo x (in_range kind n)
      ≡ cond b (goes (s.known.pc + 1) (put x (content.Holds (value.Int n)) m)) (after.Stops p, m)
  ranged x kind n true e = ap (λ z. ArithGo x (cond z (Some n) None)) e
  ranged x kind n false e = ap (λ z. ArithGo x (cond z (Some n) None)) e

  abbrev One : Atom → Option SumOf
  One a = sum_in s.known (term_of s.known a)

  -- the result is a sum, or it is noted
  arith_two : (x : Var) (kind : ValueKind) (o : Op) (a b : Atom) (c d : SumOf) (r : Option SumOf) → One a ≡ Some c
      → One b ≡ Some d → sum_of o c d ≡ r → RealFor table s.known (asks_sum kind o c d r)
      → IsLine choices code table base m s going w l p (Arith x kind o a b) → is_there s.statics a ≡ true
      → is_there s.statics b ≡ true → (term_of s.known a ≡ Unset → ⊥) → (term_of s.known b ≡ Unset → ⊥)
      → Result choices code table base m s going w l p (Arith x kind o a b) (asks_sum kind o c d r)
  arith_two x kind o a b c d None ec ed e real is h g ne nf =
      computes_result choices code table base m s going w l p (Arith x kind o a b) kind o c d x real refl is
      (arith_led x kind o a b (sum_value table c) (sum_value table d) h g ne nf
      (ap number_of (sum_number a c h ec)) (ap number_of (sum_number b d g ed)))
  arith_two x kind o a b c d (Some u) ec ed e real is h g ne nf =
      range_result choices code table base m s going w l p (Arith x kind o a b) kind u x refl is
      (arith_led x kind o a b (sum_value table c) (sum_value table d) h g ne nf
      (ap number_of (sum_number a c h ec)) (ap number_of (sum_number b d g ed))
      ∙ ap (ArithGo x) (sum_arithmetic table c d u o kind e)
      ∙ ranged x kind (sum_value table u) (fits kind (sum_value table u)) refl)

  arith_sum : (x : Var) (kind : ValueKind) (o : Op) (a b : Atom) (u v : Option SumOf) → One a ≡ u → One b ≡ v
      → RealFor table s.known (asks_computed kind o u v)
      → IsLine choices code table base m s going w l p (Arith x kind o a b) → is_there s.statics a ≡ true
      → is_there s.statics b ≡ true → (term_of s.known a ≡ Unset → ⊥) → (term_of s.known b ≡ Unset → ⊥)
      → Result choices code table base m s going w l p (Arith x kind o a b) (asks_computed kind o u v)
  arith_sum x kind o a b None v eu ev real is h g ne nf =
      unplain_result choices code table base m s going w l p (Arith x kind o a b)
  arith_sum x kind o a b (Some c) None eu ev real is h g ne nf =
      unplain_result choices code table base m s going w l p (Arith x kind o a b)
  arith_sum x kind o a b (Some c) (Some d) eu ev real is h g ne nf =
      arith_two x kind o a b c d (sum_of o c d) eu ev refl real is h g ne nf

  abbrev Of : ValueKind → Op → Atom → Atom → Question
  Of kind o a b = asks_computed kind o (One a) (One b)

  abbrev Ranged : ValueKind → Op → Atom → Atom → Question
  Ranged kind o a b = asks_arith o kind (number_in (term_of s.known a)) (number_in (term_of s.known b)) (Of kind o a b)

  -- at least one of the two numbers isn't known
  arith_open : (x : Var) (kind : ValueKind) (o : Op) (a b : Atom) → Ranged kind o a b ≡ Of kind o a b
      → RealFor table s.known (Ranged kind o a b)
      → IsLine choices code table base m s going w l p (Arith x kind o a b) → is_there s.statics a ≡ true
      → is_there s.statics b ≡ true → (term_of s.known a ≡ Unset → ⊥) → (term_of s.known b ≡ Unset → ⊥)
      → Result choices code table base m s going w l p (Arith x kind o a b) (Ranged kind o a b)
  arith_open x kind o a b e real is h g ne nf =
      subst (Result choices code table base m s going w l p (Arith x kind o a b)) (sym e)
      (arith_sum x kind o a b (One a) (One b) refl refl (subst (RealFor table s.known) e real) is h g ne nf)

  arith_by : (x : Var) (kind : ValueKind) (o : Op) (a b : Atom) → Numbered (term_of s.known a)
      → Numbered (term_of s.known b) → RealFor table s.known (Ranged kind o a b)
      → IsLine choices code table base m s going w l p (Arith x kind o a b) → is_there s.statics a ≡ true
      → is_there s.statics b ≡ true → (term_of s.known a ≡ Unset → ⊥) → (term_of s.known b ≡ Unset → ⊥)
      → Result choices code table base m s going w l p (Arith x kind o a b) (Ranged kind o a b)
  arith_by x kind o a b (no_number ea) rb real is h g ne nf =
      arith_open x kind o a b (ap (λ z. asks_arith o kind z (number_in (term_of s.known b)) (Of kind o a b)) ea) real
      is h g ne nf
  arith_by x kind o a b (a_number i ea) (no_number eb) real is h g ne nf =
      arith_open x kind o a b
      (ap (λ z. asks_arith o kind (number_in z) (number_in (term_of s.known b)) (Of kind o a b)) ea
      ∙ ap (λ z. asks_arith o kind (Some i) z (Of kind o a b)) eb) real is h g ne nf
  arith_by x kind o a b (a_number i ea) (a_number j eb) real is h g ne nf =
      subst (Result choices code table base m s going w l p (Arith x kind o a b))
      (sym (ap (λ z. asks_arith o kind (number_in z) (number_in (term_of s.known b)) (Of kind o a b)) ea
      ∙ ap (λ z. asks_arith o kind (Some i) (number_in z) (Of kind o a b)) eb))
      (arith_known x kind o a b i j (arithmetic o kind i j) is h g ea eb refl)

  pub arith_result : (x : Var) (kind : ValueKind) (o : Op) (a b : Atom)
      → RealFor table s.known (asks_set (term_of s.known a) (asks_set (term_of s.known b) (Ranged kind o a b)))
      → IsLine choices code table base m s going w l p (Arith x kind o a b) → is_there s.statics a ≡ true
      → is_there s.statics b ≡ true
      → Result choices code table base m s going w l p (Arith x kind o a b) (asks_set (term_of s.known a)
      (asks_set (term_of s.known b) (Ranged kind o a b)))
  arith_result x kind o a b real is h g = elim (setting_is (term_of s.known a)
      (asks_set (term_of s.known b) (Ranged kind o a b))) [
        | unset_s e q ↦ subst (Result choices code table base m s going w l p (Arith x kind o a b)) (sym q)
            (stops_result choices code table base m s going w l p (Arith x kind o a b) Quiet is (unset_led a _ h e))
        | set_s ne q ↦ subst (Result choices code table base m s going w l p (Arith x kind o a b)) (sym q)
            (elim (setting_is (term_of s.known b) (Ranged kind o a b)) [
              | unset_s e r ↦ subst (Result choices code table base m s going w l p (Arith x kind o a b)) (sym r)
                  (stops_result choices code table base m s going w l p (Arith x kind o a b) Quiet is
                  (set_led a _ h ne ∙ unset_led b _ g e))
              | set_s nf r ↦ subst (Result choices code table base m s going w l p (Arith x kind o a b)) (sym r)
                  (arith_by x kind o a b (numbered (term_of s.known a)) (numbered (term_of s.known b))
                  (subst (RealFor table s.known) (q ∙ r) real) is h g ne nf)
            ])
      ]

  -- ---- conversions

  abbrev FitGo : Var → ValueKind → ℤ → Led
  FitGo x kind n = cond (fits kind n) (goes (s.known.pc + 1) (put x (content.Holds (value.Int n)) m)) (after.Stops p, m)

  fit_led : (x : Var) (kind : ValueKind) (a : Atom) (n : ℤ) → is_there s.statics a ≡ true
      → (term_of s.known a ≡ Unset → ⊥) → number_of (term_value table (term_of s.known a)) ≡ n
      → leads choices (Fit x kind a) p s.known.pc m ≡ FitGo x kind n
  fit_led x kind a n h ne e = set_led a _ h ne ∙ ap (FitGo x kind) e

  fit_known : (x : Var) (kind : ValueKind) (a : Atom) (n : ℤ) (b : Bool)
      → IsLine choices code table base m s going w l p (Fit x kind a) → is_there s.statics a ≡ true
      → term_of s.known a ≡ Number n → fits kind n ≡ b
      → Result choices code table base m s going w l p (Fit x kind a) (cond b (Does (Outcome 1))
      (Stops (Outcome (cond (int_lt n (pos 0)) 0 2))))
  fit_known x kind a n b is h ea e = by b e
    where
      goes_as : leads choices (Fit x kind a) p s.known.pc m ≡ FitGo x kind n
      goes_as = fit_led x kind a n h (λ z. let bad : Number n ≡ Unset = sym ea ∙ z in cc)
          (ap (λ z. number_of (term_value table z)) ea)

      by : (b : Bool) → fits kind n ≡ b
          → Result choices code table base m s going w l p (Fit x kind a) (cond b (Does (Outcome 1))
          (Stops (Outcome (cond (int_lt n (pos 0)) 0 2))))
      by true e = inr (
        refl,
        goes_on _ (as_many m) (led_is choices code table base m s going w l p (Fit x kind a) is ∙ goes_as
            ∙ ap (λ z. cond z (goes (s.known.pc + 1) (put x (content.Holds (value.Int n)) m)) (after.Stops p, m)) e)
            going refl (put_lies choices code table base m s going w l p x (Number (number s.known (term_of s.known a)))
            (content.Holds (value.Int n)) (s.known.pc + 1)
            (ap (λ z. content.Holds (value.Int (number s.known z))) ea)),
      )
      by false e = stops_result choices code table base m s going w l p (Fit x kind a)
          (Outcome (cond (int_lt n (pos 0)) 0 2)) is (goes_as
          ∙ ap (λ z. cond z (goes (s.known.pc + 1) (put x (content.Holds (value.Int n)) m)) (after.Stops p, m)) e)

  fit_sum : (x : Var) (kind : ValueKind) (a : Atom) (r : Option SumOf) → One a ≡ r
      → IsLine choices code table base m s going w l p (Fit x kind a) → is_there s.statics a ≡ true
      → (term_of s.known a ≡ Unset → ⊥)
      → Result choices code table base m s going w l p (Fit x kind a) (asks_result kind r)
  fit_sum x kind a None e is h ne = unplain_result choices code table base m s going w l p (Fit x kind a)
  fit_sum x kind a (Some u) e is h ne = range_result choices code table base m s going w l p (Fit x kind a) kind u x
      refl is (fit_led x kind a (sum_value table u) h ne (ap number_of (sum_number a u h e)))

  abbrev Converted : ValueKind → Atom → Question
  Converted kind a = asks_conversion kind (number_in (term_of s.known a)) (asks_result kind (One a))

  fit_by : (x : Var) (kind : ValueKind) (a : Atom) → Numbered (term_of s.known a)
      → IsLine choices code table base m s going w l p (Fit x kind a) → is_there s.statics a ≡ true
      → (term_of s.known a ≡ Unset → ⊥)
      → Result choices code table base m s going w l p (Fit x kind a) (Converted kind a)
  fit_by x kind a (no_number ea) is h ne =
      subst (Result choices code table base m s going w l p (Fit x kind a))
      (sym (ap (λ z. asks_conversion kind z (asks_result kind (One a))) ea)) (fit_sum x kind a (One a) refl is h ne)
  fit_by x kind a (a_number n ea) is h ne =
      subst (Result choices code table base m s going w l p (Fit x kind a))
      (sym (ap (λ z. asks_conversion kind (number_in z) (asks_result kind (One a))) ea))
      (fit_known x kind a n (fits kind n) is h ea refl)

  pub fit_result : (x : Var) (kind : ValueKind) (a : Atom)
      → IsLine choices code table base m s going w l p (Fit x kind a) → is_there s.statics a ≡ true
      → Result choices code table base m s going w l p (Fit x kind a) (asks_set (term_of s.known a)
      (Converted kind a))
  fit_result x kind a is h = elim (setting_is (term_of s.known a) (Converted kind a)) [
    | unset_s e q ↦ subst (Result choices code table base m s going w l p (Fit x kind a)) (sym q)
        (stops_result choices code table base m s going w l p (Fit x kind a) Quiet is (unset_led a _ h e))
    | set_s ne q ↦ subst (Result choices code table base m s going w l p (Fit x kind a)) (sym q)
        (fit_by x kind a (numbered (term_of s.known a)) is h ne)
  ]

  pub forget_result : (x : Var) → IsLine choices code table base m s going w l p (Forget x)
      → Result choices code table base m s going w l p (Forget x) (Does Quiet)
  forget_result x is = inr (
    refl,
    goes_on _ (as_many m) (led_is choices code table base m s going w l p (Forget x)
        is) going refl (put_lies choices code table base m s going w l p x Unset content.Unset (s.known.pc + 1) refl),
  )

  pub jump_result : (to : Label) → IsLine choices code table base m s going w l p (Jump to)
      → Result choices code table base m s going w l p (Jump to) (Does Quiet)
  jump_result to is = inr (
    refl,
    goes_on _ (as_many m) (led_is choices code table base m s going w l p (Jump to) is)
        going refl (jump_lies choices code table base m s going w l p to.0),
  )

  pub fall_result : IsLine choices code table base m s going w l p Fall
      → Result choices code table base m s going w l p Fall (Stops Quiet)
  fall_result is = stops_result choices code table base m s going w l p Fall Quiet is refl

  -- ---- branches

  abbrev BranchGo : Label → Label → Value → Led
  BranchGo this other v = goes (cond (is_true v) this.0 other.0) m

  branch_goes : (a : Atom) (this other : Label) (d : Decision)
      → IsLine choices code table base m s going w l p (Branch a this other) → is_there s.statics a ≡ true
      → (term_of s.known a ≡ Unset → ⊥)
      → is_true (term_value table (term_of s.known a)) ≡ is_true (known_value s.known (term_of s.known a))
      → Result choices code table base m s going w l p (Branch a this other) (Does d)
  branch_goes a this other d is h ne e = inr (
    same_decision d,
    goes_on m (as_many m) (led_is choices code table base m s going w l p (Branch a this other) is
        ∙ set_led a _ h ne ∙ ap (λ b. goes (cond b this.0 other.0) m) e) going refl
        (jump_lies choices code table base m s going w l p (cond (is_true (known_value s.known (term_of s.known a)))
        this.0 other.0)),
  )

  abbrev Signed : Term → Question
  Signed x = asks_sign (sum_in s.known x) (asks_known s.known x (Does Quiet))

  -- the condition is a number that isn't known
  branch_sum : (a : Atom) (this other : Label) (u : SumOf)
      → IsLine choices code table base m s going w l p (Branch a this other) → is_there s.statics a ≡ true
      → (term_of s.known a ≡ Unset → ⊥) → sum_in s.known (term_of s.known a) ≡ Some u
      → Result choices code table base m s going w l p (Branch a this other) (Orders u zero_sum)
  branch_sum a this other u is h ne e =
      let o = int_cmp (sum_value table u) (sum_value table zero_sum) in
      let to = cond (is_true (value.Int (order_number o))) this.0 other.0 in
      orders_result choices code table base m s going w l p (Branch a this other) u zero_sum m
      (record s.known { pc = to; progress = Looking 0; turns = stepped s.known.turns }) (λ ps. refl) is refl
      (set_led a _ h ne ∙ ap (BranchGo this other) (sum_number a u h e)
      ∙ ap (λ b. goes (cond b this.0 other.0) m) (true_by_order (sum_value table u))) going refl
      (jump_lies choices code table base m s going w l p to)

  branch_pointer : (a : Atom) (this other : Label)
      → IsLine choices code table base m s going w l p (Branch a this other) → is_there s.statics a ≡ true
      → sum_in s.known (term_of s.known a) ≡ None
      → Result choices code table base m s going w l p (Branch a this other) (asks_known s.known (term_of s.known a)
      (Does Quiet))
  branch_pointer a this other is h e = elim (knowing_is s.known (term_of s.known a) (Does Quiet)) [
    | unset z q ↦ subst (Result choices code table base m s going w l p (Branch a this other)) (sym q)
        (stops_result choices code table base m s going w l p (Branch a this other) Quiet is (unset_led a _ h z))
    | asks u z o q ↦ subst (Result choices code table base m s going w l p (Branch a this other)) (sym q)
        (null_result choices code table base m s going w l p (Branch a this other) u (open_below s.known.marks u o) o)
    | passes k q ↦ subst (Result choices code table base m s going w l p (Branch a this other)) (sym q)
        (branch_goes a this other Quiet is h (known_set s.known (term_of s.known a) k)
        (agrees_true (term_value table (term_of s.known a)) (known_value s.known (term_of s.known a))
        (known_agrees table s.known (marks choices code table base m s going w l p) (term_of s.known a)
        (below_is choices code table base m s going w l p a h) k e)))
  ]

  branch_signed : (a : Atom) (this other : Label) (r : Option SumOf) → sum_in s.known (term_of s.known a) ≡ r
      → IsLine choices code table base m s going w l p (Branch a this other) → is_there s.statics a ≡ true
      → Result choices code table base m s going w l p (Branch a this other) (asks_sign r
      (asks_known s.known (term_of s.known a) (Does Quiet)))
  branch_signed a this other None e is h = branch_pointer a this other is h e
  branch_signed a this other (Some u) e is h = branch_sum a this other u is h
      (λ z. let bad : None ≡ Some u = sym (ap (sum_in s.known) z) ∙ e in cc) e

  branch_by : (a : Atom) (this other : Label) → Numbered (term_of s.known a)
      → IsLine choices code table base m s going w l p (Branch a this other) → is_there s.statics a ≡ true
      → Result choices code table base m s going w l p (Branch a this other)
      (asks_order (number_in (term_of s.known a)) (Some (pos 0)) (Signed (term_of s.known a)))
  branch_by a this other (no_number e) is h =
      subst (Result choices code table base m s going w l p (Branch a this other))
      (sym (ap (λ z. asks_order z (Some (pos 0)) (Signed (term_of s.known a))) e))
      (branch_signed a this other (sum_in s.known (term_of s.known a)) refl is h)
  branch_by a this other (a_number n e) is h =
      subst (Result choices code table base m s going w l p (Branch a this other))
      (sym (ap (λ z. asks_order (number_in z) (Some (pos 0)) (Signed (term_of s.known a))) e))
      (branch_goes a this other (Order (int_cmp n (pos 0))) is h (λ z. let bad : Number n ≡ Unset = sym e ∙ z in cc)
      (ap (λ y. is_true (term_value table y)) e ∙ sym (ap (λ y. is_true (known_value s.known y)) e)))

  pub branch_result : (a : Atom) (this other : Label)
      → IsLine choices code table base m s going w l p (Branch a this other) → is_there s.statics a ≡ true
      → Result choices code table base m s going w l p (Branch a this other)
      (asks_order (number_in (term_of s.known a)) (Some (pos 0)) (Signed (term_of s.known a)))
  branch_result a this other is h = branch_by a this other (numbered (term_of s.known a)) is h

  -- ---- returns

  pub return_result : (o : Option Atom) → IsLine choices code table base m s going w l p (Return o)
      → list_all (is_there s.statics) (atom_in o) ≡ true
      → Result choices code table base m s going w l p (Return o) (asks_return s.known o)
  return_result None is h = returns_result choices code table base m s going w l p (Return None) None is refl
  return_result (Some a) is h = elim (knowing_is s.known (term_of s.known a) (Returns (Some (term_of s.known a)))) [
    | unset e q ↦ subst (Result choices code table base m s going w l p (Return (Some a))) (sym q)
        (stops_result choices code table base m s going w l p (Return (Some a)) Quiet is
        (unset_led a _ (one_there a h) e))
    | asks u z o q ↦ subst (Result choices code table base m s going w l p (Return (Some a))) (sym q)
        (null_result choices code table base m s going w l p (Return (Some a)) u (open_below s.known.marks u o) o)
    | passes k q ↦ subst (Result choices code table base m s going w l p (Return (Some a))) (sym q) (
        let ne = known_set s.known (term_of s.known a) k in
        returns_result choices code table base m s going w l p (Return (Some a)) (Some (term_of s.known a)) is
        (set_led a _ (one_there a h) ne ∙ ap (λ v. (after.Leaves p v, m)) (sym
        (ap value_in (holds_term table (term_of s.known a) ne)))))
  ]
    where
      one_there : (a : Atom) → list_all (is_there s.statics) (a ∷ []) ≡ true → is_there s.statics a ≡ true
      one_there a e = by (is_there s.statics a) e
        where
          by : (b : Bool) → (b && true) ≡ true → b ≡ true
          by true z = refl
          by false z = z
