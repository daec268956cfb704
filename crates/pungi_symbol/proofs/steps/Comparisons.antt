-- Comparisons: a run and a state do the same.
use Rattle.std.proofs.Common.{◌≡◌, ℕ, ◌+◌, ℤ, List, Bool, true, false, refl, sym, ap, ◌∙◌, subst, inr, Option, None}
use Rattle.std.proofs.Common.{Some, cond}
use Rattle.std.specs.Prelude.{◌==◌}
use Rattle.pungi_base.specs.declared.choice.Choice.{Choice}
use Rattle.pungi_base.specs.declared.pos.Pos.{Pos}
use Rattle.pungi_base.specs.declared.value.Value.{Value}
use Rattle.pungi_base.specs.declared.value.Value.TheVariants as value
use Rattle.pungi_world.specs.declared.content.Content.TheVariants as content
use Rattle.pungi_code.specs.declared.atom.Atom.{Atom}
use Rattle.pungi_code.specs.declared.atom.Var.{Var}
use Rattle.pungi_code.specs.declared.code.Line.{Line}
use Rattle.pungi_code.specs.Registers.{Regs, put}
use Rattle.pungi_symbol.specs.declared.answers.decision.Decision.{Decision}
use Rattle.pungi_symbol.specs.declared.answers.decision.Decision.TheVariants.{Quiet, Order}
use Rattle.pungi_symbol.specs.declared.states.known.Known.{Known}
use Rattle.pungi_symbol.specs.declared.states.known.Status.TheVariants as status
use Rattle.pungi_symbol.specs.declared.states.mark.Mark.{Mark}
use Rattle.pungi_symbol.specs.declared.states.mark.Mark.TheVariants.{Pointer, TextPointer, IsNull, IsObject, IsText}
use Rattle.pungi_symbol.specs.declared.states.mark.Mark.TheVariants.{IsNumber, IsConverted, Integer}
use Rattle.pungi_symbol.specs.declared.questions.question.Question.{Question}
use Rattle.pungi_symbol.specs.declared.questions.question.Question.TheVariants.{Does, Same, Orders}
use Rattle.pungi_symbol.specs.declared.states.state.State.{State}
use Rattle.pungi_symbol.specs.declared.states.sum.Sum.{Sum as SumOf}
use Rattle.pungi_symbol.specs.declared.states.term.Term.{Term}
use Rattle.pungi_symbol.specs.declared.states.term.Term.TheVariants.{Unset, Null, Text, Number, Token, Sum}
use Rattle.pungi_symbol.specs.states.Terms.{Table, at, content_of, is_mark, value_of_mark, sum_value}
use Rattle.pungi_symbol.specs.runs.Fits.{IsSound}
use Rattle.pungi_code.specs.WellFormed.{is_there}
use Rattle.pungi_symbol.specs.runs.RunInState.{Lies}
use Rattle.std.specs.Prelude.{int_lt, int_le, not}
use Rattle.std.specs.Ordering.{int_cmp}
use Rattle.pungi_world.specs.Calls.{is_object}
use Rattle.pungi_meaning.specs.declared.cmp.Cmp.{Cmp}
use Rattle.pungi_meaning.specs.declared.cmp.Cmp.TheVariants as cmps
use Rattle.pungi_meaning.specs.Values.{number_of, truth, holds, is_equal}
use Rattle.pungi_code.specs.declared.instr.Instr.TheVariants.{Compare}
use Rattle.pungi_symbol.specs.states.Known.{mark_of, term_of, known_value, number_in, sum_in, object_of, object_mark}
use Rattle.pungi_symbol.specs.questions.NextQuestion.{asks_known, asks_order, asks_orders, asks_pointers, asks_same}
use Rattle.pungi_symbol.specs.questions.NextQuestion.{asks_compare}
use Rattle.pungi_symbol.specs.answers.KnownAfter.{truth_term, compares, compares_same, holds_order, ordered}
use Rattle.pungi_symbol.specs.answers.SymbolicState.{are_one, apply_same}
use Rattle.pungi_symbol.specs.runs.Fits.{Fits, AreMet}
use Rattle.pungi_symbol.specs.runs.OneInstruction.{Led, goes, leads}
use Rattle.pungi_symbol.proofs.states.Contents.{unset, asks, passes, knowing_is, term_value, known_set, known_agrees}
use Rattle.pungi_symbol.proofs.states.Contents.{Agrees, one, objects, agrees_number, IsKnown, sum_is}
use Rattle.pungi_symbol.proofs.states.Contents.{Numbered, a_number, no_number, numbered}
use Rattle.pungi_symbol.proofs.answers.LimitsMet.{holds_by_order}
use Rattle.pungi_symbol.proofs.steps.Numbers.{unplain_result, orders_result}
use Rattle.pungi_symbol.proofs.states.Terms.{open_below, object_is_below}
use Rattle.pungi_symbol.proofs.answers.SameObject.{Way, kept, merged, parted, way_is, same_can, way_fits, way_named}
use Rattle.pungi_symbol.proofs.answers.SameObject.{object_value}
use Rattle.pungi_symbol.proofs.steps.RunInState.{goes_on, as_many, Result, IsLine, same_decision, below_is, led_is}
use Rattle.pungi_symbol.proofs.steps.RunInState.{null_result, stops_result, put_lies, marks}
use Rattle.pungi_symbol.proofs.steps.PlainInstructions.{unset_led, set_led}

-- ---- comparisons of values

abbrev holds_by : Cmp → Bool → ℤ → ℤ → Bool
holds_by cmps.Equal e a b = e
holds_by cmps.NotEqual e a b = not e
holds_by cmps.Less e a b = int_lt a b
holds_by cmps.LessEqual e a b = int_le a b
holds_by cmps.Greater e a b = int_lt b a
holds_by cmps.GreaterEqual e a b = int_le b a

holds_is : (c : Cmp) (v x : Value) → holds c v x ≡ holds_by c (is_equal v x) (number_of v) (number_of x)
holds_is cmps.Equal v x = refl
holds_is cmps.NotEqual v x = refl
holds_is cmps.Less v x = refl
holds_is cmps.LessEqual v x = refl
holds_is cmps.Greater v x = refl
holds_is cmps.GreaterEqual v x = refl

holds_same : (c : Cmp) (v x v' x' : Value) → is_equal v x ≡ is_equal v' x' → number_of v ≡ number_of v'
    → number_of x ≡ number_of x' → holds c v x ≡ holds c v' x'
holds_same c v x v' x' e a b =
    holds_is c v x ∙ ap (λ z. holds_by c z (number_of v) (number_of x)) e
    ∙ ap (λ z. holds_by c (is_equal v' x') z (number_of x)) a ∙ ap (holds_by c (is_equal v' x') (number_of v')) b
    ∙ sym (holds_is c v' x')

equal_left : (a b : ℕ) (x : Value) → is_object x ≡ false → is_equal (value.Object a) x ≡ is_equal (value.Object b) x
equal_left a b value.Null e = refl
equal_left a b (value.Object k) e = absurd (let bad : true ≡ false = e in cc)
equal_left a b (value.Int n) e = refl
equal_left a b value.Text e = refl

equal_right : (a b : ℕ) (x : Value) → is_object x ≡ false → is_equal x (value.Object a) ≡ is_equal x (value.Object b)
equal_right a b value.Null e = refl
equal_right a b (value.Object k) e = absurd (let bad : true ≡ false = e in cc)
equal_right a b (value.Int n) e = refl
equal_right a b value.Text e = refl

off : (b : Bool) → (b ≡ true → ⊥) → b ≡ false
off true h = absurd (h refl)
off false h = refl

equal_agrees : (v x v' x' : Value) → Agrees v v' → Agrees x x' → (is_object v' ≡ true → is_object x' ≡ true → ⊥)
    → is_equal v x ≡ is_equal v' x'
equal_agrees v x v' x' (one e) (one f) not_both = ap (λ z. is_equal z x) e ∙ ap (is_equal v') f
equal_agrees v x v' x' (objects a b e f) (one g) not_both =
    let none : is_object x' ≡ false = off (is_object x') (not_both (ap is_object f)) in
    ap (λ z. is_equal z x) e ∙ ap (is_equal (value.Object a)) g ∙ equal_left a b x' none
    ∙ sym (ap (λ z. is_equal z x') f)
equal_agrees v x v' x' (one e) (objects a b g h) not_both =
    let none : is_object v' ≡ false = off (is_object v') (λ z. not_both z (ap is_object h)) in
    ap (λ z. is_equal z x) e ∙ ap (is_equal v') g ∙ equal_right a b v' none ∙ sym (ap (is_equal v') h)
equal_agrees v x v' x' (objects a b e f) (objects c d g h) not_both =
    absurd (not_both (ap is_object f) (ap is_object h))

holds_agrees : (c : Cmp) (v x v' x' : Value) → Agrees v v' → Agrees x x'
    → (is_object v' ≡ true → is_object x' ≡ true → ⊥) → holds c v x ≡ holds c v' x'
holds_agrees c v x v' x' f g not_both =
    holds_same c v x v' x' (equal_agrees v x v' x' f g not_both) (agrees_number v v' f) (agrees_number x x' g)

same_objects : (a b : ℕ) (r : Bool) → (a == b) ≡ r
    → is_equal (value.Object 0) (value.Object (cond r 0 1)) ≡ is_equal (value.Object a) (value.Object b)
same_objects a b true e = sym e
same_objects a b false e = sym e

same_holds : (c : Cmp) (v x : Value) → is_mark IsObject v ≡ true → is_mark IsObject x ≡ true
    → compares_same c (is_equal v x) ≡ holds c v x
same_holds c v x h g =
    let a = object_value v h in
    let b = object_value x g in
    let e : is_equal v x ≡ (a.0 == b.0) = ap (λ z. is_equal z x) a.1 ∙ ap (is_equal (value.Object a.0)) b.1 in
    ap (compares_same c) e ∙ holds_same c (value.Object 0) (value.Object (cond (a.0 == b.0) 0 1)) (value.Object a.0)
    (value.Object b.0) (same_objects a.0 b.0 (a.0 == b.0) refl) refl refl
    ∙ sym (ap (λ z. holds c z x) a.1 ∙ ap (holds c (value.Object a.0)) b.1)

pub truth_content : (table : Table) (b : Bool) → content_of table (truth_term b) ≡ content.Holds (truth b)
truth_content table true = refl
truth_content table false = refl

-- ---- terms that are or aren't objects

pub data Objected (k : Known) (x : Term) : Type 0 where
  an_object : (t : ℕ) → x ≡ Token t → mark_of k t ≡ IsObject → object_of k x ≡ Some t → Objected k x
  no_object : object_of k x ≡ None → (IsKnown k x → is_object (known_value k x) ≡ false) → Objected k x

object_by : (k : Known) (t : ℕ) (r : Mark) → mark_of k t ≡ r → Objected k (Token t)
object_by k t Pointer e = no_object (ap (λ z. object_mark z t) e) (λ h. ap (λ z. is_object (value_of_mark z)) e)
object_by k t TextPointer e = no_object (ap (λ z. object_mark z t) e) (λ h. ap (λ z. is_object (value_of_mark z)) e)
object_by k t IsNull e = no_object (ap (λ z. object_mark z t) e) (λ h. ap (λ z. is_object (value_of_mark z)) e)
object_by k t IsObject e = an_object t refl e (ap (λ z. object_mark z t) e)
object_by k t IsText e = no_object (ap (λ z. object_mark z t) e) (λ h. ap (λ z. is_object (value_of_mark z)) e)
object_by k t (IsNumber n) e = no_object (ap (λ z. object_mark z t) e) (λ h. ap (λ z. is_object (value_of_mark z)) e)
object_by k t (IsConverted n) e = no_object (ap (λ z. object_mark z t) e) (λ h. ap (λ z. is_object (value_of_mark z)) e)
object_by k t (Integer r) e = no_object (ap (λ z. object_mark z t) e) (λ h. ap (λ z. is_object (value_of_mark z)) e)

pub objected : (k : Known) (x : Term) → Objected k x
objected k Unset = no_object refl (λ h. refl)
objected k Null = no_object refl (λ h. refl)
objected k Text = no_object refl (λ h. refl)
objected k (Number n) = no_object refl (λ h. refl)
objected k (Token t) = object_by k t (mark_of k t) refl
objected k (Sum s) = no_object refl (λ h. refl)

ordering_left : (o n : Option ℤ) (q : Question) → o ≡ None → asks_order o n q ≡ q
ordering_left None n q e = refl
ordering_left (Some m) n q e = absurd (cc)

ordering_right : (o n : Option ℤ) (q : Question) → n ≡ None → asks_order o n q ≡ q
ordering_right None n q e = refl
ordering_right (Some m) None q e = refl
ordering_right (Some m) (Some n) q e = absurd (cc)

pub way_statics : (s : State) (t u : ℕ) (b : Bool) (s' : State) → Way s t u b s' → s'.statics ≡ s.statics
way_statics s t u b s' (kept same e z) = ap (λ r. r.statics) z
way_statics s t u b s' (merged c d which older no_static no_new no_pair e z) = ap (λ r. r.statics) z
way_statics s t u b s' (parted ne e z) = ap (λ r. r.statics) z

pub way_limits : (s : State) (t u : ℕ) (b : Bool) (s' : State) → Way s t u b s' → s'.limits ≡ s.limits
way_limits s t u b s' (kept same e z) = ap (λ r. r.limits) z
way_limits s t u b s' (merged c d which older no_static no_new no_pair e z) = ap (λ r. r.limits) z
way_limits s t u b s' (parted ne e z) = ap (λ r. r.limits) z

module _ (choices : List Choice) (code : List Line) (table : Table) (base : ℕ) (m : Regs) (s : State)
    (going : s.known.status ≡ status.Going) (w : IsSound s) (l : Lies code table base m s) (p : Pos) where
  -- a run lies in the state after tokens were compared, where it lies in the one with the same known
  pub same_lies : (t u : ℕ) (m' : Regs) (k' : Known) → mark_of s.known t ≡ IsObject → mark_of s.known u ≡ IsObject
      → k'.marks ≡ s.known.marks → Lies code table base m' (record s { known = k' })
      → Lies code table base m' (record (apply_same (are_one s.classes t u) (is_equal (at table t) (at table u)) t u
      s) { known = k' })
  same_lies t u m' k' mt mu e h =
      let lt = object_is_below s.known.marks t mt in
      let lu = object_is_below s.known.marks u mu in
      let b = is_equal (at table t) (at table u) in
      let s' = apply_same (are_one s.classes t u) b t u s in
      let way = way_is s t u b (same_can s t u table w mt mu lt lu l.fits) in
      let fits = way_fits s t u table w mt mu lt lu b s' l.fits refl way in
      record {
        fits = record {
          notes = subst (λ n. Fits table n k'.marks s'.classes s'.others) (sym (way_statics s t u b s' way))
              (subst (λ z. Fits table s.statics z s'.classes s'.others) (sym e) fits);
          limits = subst (AreMet table) (sym (way_limits s t u b s' way)) l.fits.limits;
          new = h.fits.new;
        };
        vars = h.vars;
        slots = h.slots;
        used = h.used;
        claims = λ o. h.claims o ∙ sym (way_named s t u table w mt mu lt lu b s' l.fits refl way o);
        below = h.below;
        made = h.made;
        walked = h.walked;
      }

  abbrev CompareLed : Var → Cmp → Value → Value → Led
  CompareLed x c v y = goes (s.known.pc + 1) (put x (content.Holds (truth (holds c v y))) m)

  compare_led : (x : Var) (c : Cmp) (a b : Atom) → is_there s.statics a ≡ true → is_there s.statics b ≡ true
      → (term_of s.known a ≡ Unset → ⊥) → (term_of s.known b ≡ Unset → ⊥)
      → leads choices (Compare x c a b) p s.known.pc m ≡ CompareLed x c (term_value table (term_of s.known a))
      (term_value table (term_of s.known b))
  compare_led x c a b h g ne nf = set_led choices code table base m s going w l p a _ h ne
      ∙ set_led choices code table base m s going w l p b _ g nf

  compare_goes : (x : Var) (c : Cmp) (a b : Atom) (d : Decision)
      → IsLine choices code table base m s going w l p (Compare x c a b) → is_there s.statics a ≡ true
      → is_there s.statics b ≡ true → (term_of s.known a ≡ Unset → ⊥) → (term_of s.known b ≡ Unset → ⊥)
      → holds c (term_value table (term_of s.known a)) (term_value table (term_of s.known b))
      ≡ compares s.known c (term_of s.known a) (term_of s.known b)
      → Result choices code table base m s going w l p (Compare x c a b) (Does d)
  compare_goes x c a b d is h g ne nf e = inr (
    same_decision d,
    goes_on _ (as_many m) (led_is choices code table base m s going w l p (Compare x c a b) is
        ∙ compare_led x c a b h g ne nf) going refl
        (put_lies choices code table base m s going w l p x (truth_term (compares s.known c (term_of s.known a)
        (term_of s.known b))) (content.Holds (truth (holds c (term_value table (term_of s.known a))
        (term_value table (term_of s.known b))))) (s.known.pc + 1)
        (truth_content table (compares s.known c (term_of s.known a) (term_of s.known b))
        ∙ ap (λ z. content.Holds (truth z)) (sym e))),
  )

  compare_tokens : (x : Var) (c : Cmp) (a b : Atom) (t u : ℕ)
      → IsLine choices code table base m s going w l p (Compare x c a b) → is_there s.statics a ≡ true
      → is_there s.statics b ≡ true → term_of s.known a ≡ Token t → term_of s.known b ≡ Token u
      → mark_of s.known t ≡ IsObject → mark_of s.known u ≡ IsObject
      → Result choices code table base m s going w l p (Compare x c a b) (Same t u)
  compare_tokens x c a b t u is h g ea eb mt mu =
      let lt = object_is_below s.known.marks t mt in
      let lu = object_is_below s.known.marks u mu in
      let ot : is_mark IsObject (at table t) ≡ true = subst (λ z. is_mark z (at table t) ≡ true) mt
      (marks choices code table base m s going w l p t lt) in
      let ou : is_mark IsObject (at table u) ≡ true = subst (λ z. is_mark z (at table u) ≡ true) mu
      (marks choices code table base m s going w l p u lu) in
      let ne : term_of s.known a ≡ Unset → ⊥ = λ z. let bad : Token t ≡ Unset = sym ea ∙ z in cc in
      let nf : term_of s.known b ≡ Unset → ⊥ = λ z. let bad : Token u ≡ Unset = sym eb ∙ z in cc in
      let r = holds c (at table t) (at table u) in
      inr (
        same_can s t u table w mt mu lt lu l.fits,
        goes_on (put x (content.Holds (truth r)) m) (as_many m)
            (led_is choices code table base m s going w l p (Compare x c a b) is ∙ compare_led x c a b h g ne nf
            ∙ ap (λ z. CompareLed x c (term_value table z) (term_value table (term_of s.known b))) ea
            ∙ ap (λ z. CompareLed x c (at table t) (term_value table z)) eb) going refl
            (same_lies t u (put x (content.Holds (truth r)) m) _ mt mu refl
            (put_lies choices code table base m s going w l p x (truth_term (compares_same c
            (is_equal (at table t) (at table u)))) (content.Holds (truth r)) (s.known.pc + 1)
            (truth_content table (compares_same c (is_equal (at table t) (at table u)))
            ∙ ap (λ z. content.Holds (truth z)) (same_holds c (at table t) (at table u) ot ou)))),
      )

  abbrev Comparing : Atom → Atom → Question
  Comparing a b = asks_same (object_of s.known (term_of s.known a)) (object_of s.known (term_of s.known b))

  agrees : (a : Atom) → is_there s.statics a ≡ true → IsKnown s.known (term_of s.known a)
      → sum_in s.known (term_of s.known a) ≡ None
      → Agrees (term_value table (term_of s.known a)) (known_value s.known (term_of s.known a))
  agrees a h k e = known_agrees table s.known (marks choices code table base m s going w l p) (term_of s.known a)
      (below_is choices code table base m s going w l p a h) k e

  compare_known : (x : Var) (c : Cmp) (a b : Atom)
      → IsLine choices code table base m s going w l p (Compare x c a b) → is_there s.statics a ≡ true
      → is_there s.statics b ≡ true → IsKnown s.known (term_of s.known a) → IsKnown s.known (term_of s.known b)
      → sum_in s.known (term_of s.known a) ≡ None → sum_in s.known (term_of s.known b) ≡ None
      → Objected s.known (term_of s.known a) → Objected s.known (term_of s.known b)
      → Result choices code table base m s going w l p (Compare x c a b) (Comparing a b)
  compare_known x c a b is h g ka kb ua ub (an_object t ea mt ot) (an_object u eb mu ou) =
      subst (Result choices code table base m s going w l p (Compare x c a b))
      (sym (ap (λ z. asks_same z (object_of s.known (term_of s.known b))) ot ∙ ap (asks_same (Some t)) ou))
      (compare_tokens x c a b t u is h g ea eb mt mu)
  compare_known x c a b is h g ka kb ua ub (no_object oa na) rb =
      subst (Result choices code table base m s going w l p (Compare x c a b))
      (sym (ap (λ z. asks_same z (object_of s.known (term_of s.known b))) oa))
      (compare_goes x c a b Quiet is h g (known_set s.known (term_of s.known a) ka)
      (known_set s.known (term_of s.known b) kb)
      (holds_agrees c _ _ _ _ (agrees a h ka ua) (agrees b g kb ub) (λ e f. let bad : true ≡ false = sym e
      ∙ na ka in cc)))
  compare_known x c a b is h g ka kb ua ub (an_object t ea mt ot) (no_object ob nb) =
      subst (Result choices code table base m s going w l p (Compare x c a b))
      (sym (ap (λ z. asks_same z (object_of s.known (term_of s.known b))) ot ∙ ap (asks_same (Some t)) ob))
      (compare_goes x c a b Quiet is h g (known_set s.known (term_of s.known a) ka)
      (known_set s.known (term_of s.known b) kb)
      (holds_agrees c _ _ _ _ (agrees a h ka ua) (agrees b g kb ub) (λ e f. let bad : true ≡ false = sym f
      ∙ nb kb in cc)))

  abbrev Sa : Atom → Option SumOf
  Sa a = sum_in s.known (term_of s.known a)

  -- what isn't two numbers or two pointers isn't followed
  known_by : (x : Var) (c : Cmp) (a b : Atom) (u v : Option SumOf) → Sa a ≡ u → Sa b ≡ v
      → IsLine choices code table base m s going w l p (Compare x c a b) → is_there s.statics a ≡ true
      → is_there s.statics b ≡ true → IsKnown s.known (term_of s.known a) → IsKnown s.known (term_of s.known b)
      → Result choices code table base m s going w l p (Compare x c a b) (asks_pointers u v (Comparing a b))
  known_by x c a b None None ua ub is h g ka kb = compare_known x c a b is h g ka kb ua ub
      (objected s.known (term_of s.known a)) (objected s.known (term_of s.known b))
  known_by x c a b None (Some v) ua ub is h g ka kb =
      unplain_result choices code table base m s going w l p (Compare x c a b)
  known_by x c a b (Some u) v ua ub is h g ka kb =
      unplain_result choices code table base m s going w l p (Compare x c a b)

  abbrev Known2 : Atom → Atom → Question
  Known2 a b = asks_pointers (Sa a) (Sa b) (Comparing a b)

  abbrev Pointers : Atom → Atom → Question
  Pointers a b = asks_known s.known (term_of s.known a) (asks_known s.known (term_of s.known b) (Known2 a b))

  compare_pointers : (x : Var) (c : Cmp) (a b : Atom)
      → IsLine choices code table base m s going w l p (Compare x c a b) → is_there s.statics a ≡ true
      → is_there s.statics b ≡ true
      → Result choices code table base m s going w l p (Compare x c a b) (Pointers a b)
  compare_pointers x c a b is h g = elim (knowing_is s.known (term_of s.known a)
      (asks_known s.known (term_of s.known b) (Known2 a b))) [
        | unset e q ↦ subst (Result choices code table base m s going w l p (Compare x c a b)) (sym q)
            (stops_result choices code table base m s going w l p (Compare x c a b) Quiet is
            (unset_led choices code table base m s going w l p a _ h e))
        | asks t e o q ↦ subst (Result choices code table base m s going w l p (Compare x c a b)) (sym q)
            (null_result choices code table base m s going w l p (Compare x c a b) t (open_below s.known.marks t o) o)
        | passes ka q ↦ subst (Result choices code table base m s going w l p (Compare x c a b)) (sym q)
            (elim (knowing_is s.known (term_of s.known b) (Known2 a b)) [
              | unset e r ↦ subst (Result choices code table base m s going w l p (Compare x c a b)) (sym r)
                  (stops_result choices code table base m s going w l p (Compare x c a b) Quiet is
                  (set_led choices code table base m s going w l p a _ h (known_set s.known (term_of s.known a) ka)
                  ∙ unset_led choices code table base m s going w l p b _ g e))
              | asks t e o r ↦ subst (Result choices code table base m s going w l p (Compare x c a b)) (sym r)
                  (null_result choices code table base m s going w l p (Compare x c a b) t
                  (open_below s.known.marks t o) o)
              | passes kb r ↦ subst (Result choices code table base m s going w l p (Compare x c a b)) (sym r)
                  (known_by x c a b (Sa a) (Sa b) refl refl is h g ka kb)
            ])
      ]

  -- two numbers that aren't both known
  sum_set : (a : Atom) (u : SumOf) → Sa a ≡ Some u → term_of s.known a ≡ Unset → ⊥
  sum_set a u e z = let bad : None ≡ Some u = sym (ap (sum_in s.known) z) ∙ e in cc

  sum_number : (a : Atom) (u : SumOf) → is_there s.statics a ≡ true → Sa a ≡ Some u
      → term_value table (term_of s.known a) ≡ value.Int (sum_value table u)
  sum_number a u h e = sum_is table s.known (marks choices code table base m s going w l p) (term_of s.known a) u
      (below_is choices code table base m s going w l p a h) e

  compare_sums : (x : Var) (c : Cmp) (a b : Atom) (u v : SumOf)
      → IsLine choices code table base m s going w l p (Compare x c a b) → is_there s.statics a ≡ true
      → is_there s.statics b ≡ true → Sa a ≡ Some u → Sa b ≡ Some v
      → Result choices code table base m s going w l p (Compare x c a b) (Orders u v)
  compare_sums x c a b u v is h g ea eb =
      let r = holds_order c (int_cmp (sum_value table u) (sum_value table v)) in
      orders_result choices code table base m s going w l p (Compare x c a b) u v
      (put x (content.Holds (truth r)) m)
      (ordered (Compare x c a b) (int_cmp (sum_value table u) (sum_value table v)) s.known) (λ ps. refl) is refl
      (compare_led x c a b h g (sum_set a u ea) (sum_set b v eb)
      ∙ ap (λ z. CompareLed x c z (term_value table (term_of s.known b))) (sum_number a u h ea)
      ∙ ap (CompareLed x c (value.Int (sum_value table u))) (sum_number b v g eb)
      ∙ ap (λ z. goes (s.known.pc + 1) (put x (content.Holds (truth z)) m))
      (holds_by_order c (sum_value table u) (sum_value table v))) going refl
      (put_lies choices code table base m s going w l p x (truth_term r) (content.Holds (truth r)) (s.known.pc + 1)
      (truth_content table r))

  sums_by : (x : Var) (c : Cmp) (a b : Atom) (u v : Option SumOf) → Sa a ≡ u → Sa b ≡ v
      → IsLine choices code table base m s going w l p (Compare x c a b) → is_there s.statics a ≡ true
      → is_there s.statics b ≡ true
      → Result choices code table base m s going w l p (Compare x c a b) (asks_orders u v (Pointers a b))
  sums_by x c a b None v ea eb is h g = compare_pointers x c a b is h g
  sums_by x c a b (Some u) None ea eb is h g = compare_pointers x c a b is h g
  sums_by x c a b (Some u) (Some v) ea eb is h g = compare_sums x c a b u v is h g ea eb

  abbrev Sums : Atom → Atom → Question
  Sums a b = asks_orders (Sa a) (Sa b) (Pointers a b)

  compare_by : (x : Var) (c : Cmp) (a b : Atom) → IsLine choices code table base m s going w l p (Compare x c a b)
      → is_there s.statics a ≡ true → is_there s.statics b ≡ true → Numbered (term_of s.known a)
      → Numbered (term_of s.known b)
      → Result choices code table base m s going w l p (Compare x c a b) (asks_compare s.known (term_of s.known a)
      (term_of s.known b))
  compare_by x c a b is h g (no_number ea) rb = subst (Result choices code table base m s going w l p
      (Compare x c a b)) (sym (ordering_left (number_in (term_of s.known a)) (number_in (term_of s.known b)) (Sums a b)
      ea)) (sums_by x c a b (Sa a) (Sa b) refl refl is h g)
  compare_by x c a b is h g (a_number i ea) (no_number eb) = subst (Result choices code table base m s going w l p
      (Compare x c a b)) (sym (ordering_right (number_in (term_of s.known a)) (number_in (term_of s.known b))
      (Sums a b) eb)) (sums_by x c a b (Sa a) (Sa b) refl refl is h g)
  compare_by x c a b is h g (a_number i ea) (a_number j eb) =
      subst (Result choices code table base m s going w l p (Compare x c a b))
      (sym (ap (λ z. asks_order (number_in z) (number_in (term_of s.known b)) (Sums a b)) ea
      ∙ ap (λ z. asks_order (Some i) (number_in z) (Sums a b)) eb))
      (compare_goes x c a b (Order (int_cmp i j)) is h g (λ z. let bad : Number i ≡ Unset = sym ea ∙ z in cc)
      (λ z. let bad : Number j ≡ Unset = sym eb ∙ z in cc)
      (ap (λ z. holds c (term_value table z) (term_value table (term_of s.known b))) ea
      ∙ ap (λ z. holds c (value.Int i) (term_value table z)) eb
      ∙ sym (ap (λ z. holds c (known_value s.known z) (known_value s.known (term_of s.known b))) ea
      ∙ ap (λ z. holds c (value.Int i) (known_value s.known z)) eb)))

  pub compare_result : (x : Var) (c : Cmp) (a b : Atom)
      → IsLine choices code table base m s going w l p (Compare x c a b) → is_there s.statics a ≡ true
      → is_there s.statics b ≡ true → Result choices code table base m s going w l p (Compare x c a b)
      (asks_compare s.known (term_of s.known a) (term_of s.known b))
  compare_result x c a b is h g = compare_by x c a b is h g (numbered (term_of s.known a))
      (numbered (term_of s.known b))
