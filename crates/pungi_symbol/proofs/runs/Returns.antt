-- The state's own values, and balances at a return that aren't level: the state's own run isn't balanced.
use Rattle.std.proofs.Common.{◌≡◌, ◌==◌, ℕ, zero, suc, ◌+◌, ◌<◌, ◌≤◌, ℤ, pos, List, [], ◌∷◌, ◌++◌, length, get_or}
use Rattle.std.proofs.Common.{Bool, true, false, refl, sym, ap, ◌∙◌, subst, arith, inl, inr, Option, None, Some}
use Rattle.pungi_base.specs.declared.entry.Entry.{Entry}
use Rattle.pungi_base.specs.declared.value.Value.TheVariants as value
use Rattle.pungi_code.specs.declared.code.Code.{Code}
use Rattle.pungi_code.specs.Registers.{Regs}
use Rattle.pungi_symbol.specs.declared.states.mark.Mark.{Mark}
use Rattle.pungi_symbol.specs.declared.states.mark.Mark.TheVariants.{Pointer, TextPointer, IsNull, IsObject, IsText}
use Rattle.pungi_symbol.specs.declared.states.mark.Mark.TheVariants.{IsNumber, IsConverted, Integer}
use Rattle.pungi_symbol.specs.declared.states.state.State.{State}
use Rattle.pungi_symbol.specs.declared.states.term.Term.{Term}
use Rattle.pungi_symbol.specs.declared.states.node.Node.{Node}
use Rattle.pungi_symbol.specs.declared.states.node.Node.TheVariants as nodes
use Rattle.pungi_symbol.specs.states.Terms.{Table, value_at, at, is_mark, node_value}
use Rattle.pungi_symbol.specs.runs.Fits.{FitsState, AreNew, IsBelow, IsSound}
use Rattle.pungi_symbol.specs.runs.RunInState.{Lies}
use Rattle.std.specs.Prelude.{if◌then◌else◌, nat_lt, ◌&&◌, ◌-ℤ◌}
use Rattle.std.proofs.lemmas.Int.{ints}
use Rattle.std.proofs.lemmas.Bool.{cases_eq, eqb-true, eq-eqb}
use Rattle.std.proofs.lemmas.Bool.Decides.{eqb_tells, Decides-int_eq}
use Rattle.std.specs.Ordering.{int_eq}
use Rattle.pungi_world.specs.Escapes.{is_returned, is_argument, IsCounted, IsLevel}
use Rattle.pungi_meaning.specs.Values.{number_of}
use Rattle.pungi_symbol.specs.states.Known.{count, mark_of}
use Rattle.pungi_symbol.specs.answers.SymbolicState.{class_of, balance_at, is_among}
use Rattle.pungi_symbol.specs.runs.Fits.{is_the}
use Rattle.pungi_symbol.specs.runs.RunInState.{IsOf}
use Rattle.pungi_symbol.specs.runs.Paths.{returned_value, own_value, own_values, canon, returned_object}
use Rattle.pungi_symbol.specs.runs.Paths.{argument_count, owned_object, may_be_object, is_taken_as, taken_count}
use Rattle.pungi_symbol.specs.runs.Paths.{is_class, wanted, IsModel, IsInMark, Numbers, node_at}
use Rattle.pungi_symbol.specs.runs.Paths.{own_table, object_number, own_numbers}
use Rattle.pungi_symbol.proofs.states.Terms.{object_is_below}
use Rattle.pungi_symbol.proofs.steps.Questions.{IsGiven}
use Rattle.pungi_symbol.proofs.runs.Canon.{own_number_at, own_numbers_long, own_object, class_by_number}
use Rattle.pungi_symbol.proofs.runs.MadeObjects.{number_of_other, number_small, number_here, among_here, earlier_not}
use Rattle.pungi_symbol.proofs.steps.StepForward.{two_true}
use Rattle.pungi_symbol.proofs.runs.LevelBalances.{named_alone, returned_some, returned_none}
use Rattle.pungi_symbol.proofs.runs.TakenParameters.{HoldsArguments, argument_is, below_true, count_same, one_counted}

-- ---- the state's own values

own_past : (t : ℕ) → value_at [] t ≡ value.Null
own_past zero = refl
own_past (suc t) = refl

none_past : (t : ℕ) → get_or [] t (pos 0) ≡ pos 0
none_past zero = refl
none_past (suc t) = refl

pub own_long : (ms : List Mark) (cs : List ℕ) (ns : List ℤ) → length cs ≡ length ms → length ns ≡ length ms
    → length (own_values ms cs ns) ≡ length ms
own_long [] cs ns e f = refl
own_long (m ∷ ms) [] ns e f = absurd (let bad : 0 ≡ suc (length ms) = e in omega (arith, bad))
own_long (m ∷ ms) (c ∷ cs) [] e f = absurd (let bad : 0 ≡ suc (length ms) = f in omega (arith, bad))
own_long (m ∷ ms) (c ∷ cs) (n ∷ ns) e f = ap suc (own_long ms cs ns (omega (arith, e)) (omega (arith, f)))

at_own_of : (ms : List Mark) (cs : List ℕ) (ns : List ℤ) (t : ℕ) → t < length ms → length cs ≡ length ms
    → length ns ≡ length ms
    → value_at (own_values ms cs ns) t ≡ own_value (get_or ms t IsNull) (get_or cs t 0) (get_or ns t (pos 0))
at_own_of [] cs ns t h e f = absurd (omega (arith, h))
at_own_of (m ∷ ms) [] ns t h e f = absurd (let bad : 0 ≡ suc (length ms) = e in omega (arith, bad))
at_own_of (m ∷ ms) (c ∷ cs) [] t h e f = absurd (let bad : 0 ≡ suc (length ms) = f in omega (arith, bad))
at_own_of (m ∷ ms) (c ∷ cs) (n ∷ ns) zero h e f = refl
at_own_of (m ∷ ms) (c ∷ cs) (n ∷ ns) (suc t) h e f =
    at_own_of ms cs ns t (omega (arith, h)) (omega (arith, e)) (omega (arith, f))

int_eq_self : (n : ℤ) → int_eq n n ≡ true
int_eq_self n = (Decides-int_eq n n).1 refl

own_is : (r : Mark) (c : ℕ) (n : ℤ) → IsInMark r n → is_mark r (own_value r c n) ≡ true
own_is Pointer c n h = refl
own_is TextPointer c n h = refl
own_is IsNull c n h = refl
own_is IsObject c n h = refl
own_is IsText c n h = refl
own_is (IsNumber m) c n h = int_eq_self m
own_is (IsConverted m) c n h = int_eq_self m
own_is (Integer r) c n h = h

-- a token that is no number counts as 0
own_number : (r : Mark) (c : ℕ) (n : ℤ) → IsInMark r n → number_of (own_value r c n) ≡ n
own_number Pointer c n h = sym h
own_number TextPointer c n h = sym h
own_number IsNull c n h = sym h
own_number IsObject c n h = sym h
own_number IsText c n h = sym h
own_number (IsNumber m) c n h = sym h
own_number (IsConverted m) c n h = sym h
own_number (Integer r) c n h = refl

numbers_own : (ms : List Mark) (cs : List ℕ) (ns : List ℤ) (t : ℕ) → length cs ≡ length ms → length ns ≡ length ms
    → ((u : ℕ) → u < length ms → IsInMark (get_or ms u IsNull) (get_or ns u (pos 0)))
    → number_of (value_at (own_values ms cs ns) t) ≡ get_or ns t (pos 0)
numbers_own [] cs [] t e f h = ap number_of (own_past t) ∙ sym (none_past t)
numbers_own [] cs (n ∷ ns) t e f h = absurd (let bad : suc (length ns) ≡ 0 = f in omega (arith, bad))
numbers_own (m ∷ ms) [] ns t e f h = absurd (let bad : 0 ≡ suc (length ms) = e in omega (arith, bad))
numbers_own (m ∷ ms) (c ∷ cs) [] t e f h = absurd (let bad : 0 ≡ suc (length ms) = f in omega (arith, bad))
numbers_own (m ∷ ms) (c ∷ cs) (n ∷ ns) zero e f h = own_number m c n (h 0 (omega arith))
numbers_own (m ∷ ms) (c ∷ cs) (n ∷ ns) (suc t) e f h =
    numbers_own ms cs ns t (omega (arith, e)) (omega (arith, f)) (λ u lt. h (suc u) (omega (arith, lt)))

own_below : (n : ℕ) (r : Mark) (c : ℕ) (i : ℤ) → c < n → IsOf n (own_value r c i)
own_below n Pointer c i h = h
own_below n TextPointer c i h = tt
own_below n IsNull c i h = tt
own_below n IsObject c i h = h
own_below n IsText c i h = tt
own_below n (IsNumber m) c i h = tt
own_below n (IsConverted m) c i h = tt
own_below n (Integer r) c i h = tt

objects_apart : (a b : ℕ) → (a ≡ b → ⊥) → value.Object a ≡ value.Object b → ⊥
objects_apart a b ne e = ne (cc)

module _ (s : State) (w : IsSound s) (ns : Numbers) (model : IsModel s ns) where
  abbrev Own : Table
  Own = own_table s ns

  -- the number of the object of a class
  abbrev NumberOf : ℕ → ℕ
  NumberOf c = object_number (count s.known) s.known.made c

  pub at_canon : (t : ℕ) → t < count s.known
      → at Own t ≡ own_value (mark_of s.known t) (NumberOf (class_of s.classes t)) (get_or ns.tokens t (pos 0))
  at_canon t h =
      let a = w.notes.classes_long in
      let b = own_numbers_long s in
      at_own_of s.known.marks (own_numbers s) ns.tokens t h (omega (arith, a, b)) model.all
      ∙ ap (λ c. own_value (mark_of s.known t) c (get_or ns.tokens t (pos 0))) (own_number_at s t (omega (arith, a, h)))

  pub at_object : (t : ℕ) → mark_of s.known t ≡ IsObject → at Own t ≡ value.Object (NumberOf (class_of s.classes t))
  at_object t e = at_canon t (object_is_below s.known.marks t e)
      ∙ ap (λ r. own_value r (NumberOf (class_of s.classes t)) (get_or ns.tokens t (pos 0))) e

  class_same : (t : ℕ) → t < count s.known → at Own (class_of s.classes t) ≡ at Own t
  class_same t h = by (mark_of s.known t) refl
    where
      alone : (mark_of s.known t ≡ IsObject → ⊥) → at Own (class_of s.classes t) ≡ at Own t
      alone ne = ap (at Own) (w.notes.alone t h ne)

      by : (r : Mark) → mark_of s.known t ≡ r → at Own (class_of s.classes t) ≡ at Own t
      by Pointer e = alone (λ z. let bad : Pointer ≡ IsObject = sym e ∙ z in cc)
      by TextPointer e = alone (λ z. let bad : TextPointer ≡ IsObject = sym e ∙ z in cc)
      by IsNull e = alone (λ z. let bad : IsNull ≡ IsObject = sym e ∙ z in cc)
      by IsObject e = at_object (class_of s.classes t) (w.notes.class_mark t h ∙ e)
          ∙ ap (λ c. value.Object (NumberOf c)) (w.notes.class_stands t h) ∙ sym (at_object t e)
      by IsText e = alone (λ z. let bad : IsText ≡ IsObject = sym e ∙ z in cc)
      by (IsNumber n) e = alone (λ z. let bad : IsNumber n ≡ IsObject = sym e ∙ z in cc)
      by (IsConverted n) e = alone (λ z. let bad : IsConverted n ≡ IsObject = sym e ∙ z in cc)
      by (Integer r) e = alone (λ z. let bad : Integer r ≡ IsObject = sym e ∙ z in cc)

  pub node_same : (x : Node) → node_value Own x ≡ node_at ns x
  node_same nodes.Zero = refl
  node_same (nodes.Computed j) = refl
  node_same (nodes.Token t) =
      numbers_own s.known.marks (own_numbers s) ns.tokens t (own_numbers_long s ∙ w.notes.classes_long) model.all
      model.marks

  -- a token that has the value of a made object is of its class
  made_class : (m t : ℕ) → is_among s.known.made m ≡ true → t < count s.known → at Own t ≡ at Own m
      → class_of s.classes t ≡ m
  made_class m t h lt e =
      let is = at_object m (w.made.objects m h) in
      class_by_number s w t m lt (w.made.below m h)
      (sym (own_object s w ns.tokens t (NumberOf (class_of s.classes m)) lt (e ∙ is))) ∙ w.made.own m h

  pub canon_new : AreNew Own s.known.made s.known.slots
  canon_new = record {
    later = λ m t h lt e.
        let below = w.made.below m h in
        let there : t < count s.known = omega (arith, lt, below) in
        let same = made_class m t h there e in
        let older = w.notes.class_older t there in
        absurd (omega (arith, same, older, lt));
    outside = λ m i t h is e.
        let there : t < count s.known = subst (IsBelow (count s.known)) is (w.terms.at_entry i) in
        w.made.outside m i t h is (made_class m t h there e);
  }

  pub canon_fits : ((m : ℕ) → is_among s.known.made m ≡ true → s.statics ≤ m) → FitsState Own s
  canon_fits late = record {
    notes = record {
      statics = λ t h. at_object t (w.notes.static_objects t h)
          ∙ ap (λ c. value.Object (NumberOf c)) (w.notes.class_static t h)
          ∙ ap value.Object (number_of_other (count s.known) s.known.made t
          (earlier_not s.known.made s.statics t late h));
      marks = λ t h. ap (is_mark (mark_of s.known t)) (at_canon t h)
          ∙ own_is (mark_of s.known t) (NumberOf (class_of s.classes t)) (get_or ns.tokens t (pos 0)) (model.marks t h);
      classes = class_same;
      others = λ k d h e.
          let o = w.notes.others_objects k d h in
          let b = w.notes.others_below k d h in
          let p = get_or s.others k d in
          objects_apart (NumberOf (class_of s.classes p.a)) (NumberOf (class_of s.classes p.b))
          (λ z. w.notes.others_part k d h (class_by_number s w p.a p.b b.0 b.1 z))
          (sym (at_object p.a o.0) ∙ e ∙ at_object p.b o.1);
    };
    limits = λ k d h.
        let l = get_or s.limits k d in
        let a = node_same l.x in
        let b = node_same l.y in
        let met = model.limits k d h in
        omega (arith, ints, a, b, met);
    new = canon_new;
  }

  -- the object of a token that came before the rest of those that were made is at entry, or one that was made before
  pub canon_small : (before after : List ℕ) → s.known.made ≡ before ++ after → (t : ℕ)
      → ((m : ℕ) → is_among after m ≡ true → t < m) → t < count s.known → (n : ℕ)
      → count s.known + length before ≤ n → IsOf n (at Own t)
  canon_small before after is t later h n le =
      let o = w.notes.class_older t h in
      let c = class_of s.classes t in
      let small = number_small (count s.known) before after t c later o (omega (arith, o, h)) in
      let same : NumberOf c ≡ object_number (count s.known) (before ++ after) c =
      ap (λ made. object_number (count s.known) made c) is in
      subst (IsOf n) (sym (at_canon t h)) (own_below n (mark_of s.known t) (NumberOf c)
      (get_or ns.tokens t (pos 0)) (omega (arith, small, same, le)))

  -- one that was made is the next one
  pub canon_next : (before after : List ℕ) (t : ℕ) → s.known.made ≡ before ++ t ∷ after
      → is_among before t ≡ false → at Own t ≡ value.Object (count s.known + length before)
  canon_next before after t is new =
      let made : is_among s.known.made t ≡ true = ap (λ l. is_among l t) is ∙ among_here before after t in
      at_object t (w.made.objects t made)
      ∙ ap (λ c. value.Object (NumberOf c)) (w.made.own t made)
      ∙ ap (λ l. value.Object (object_number (count s.known) l t)) is
      ∙ ap value.Object (number_here (count s.known) before t after new)

  -- a balance that isn't level
  module _ (code : Code) (entry : Entry) (computed : List ℤ) (base : ℕ) (m : Regs)
      (l : Lies code.instrs (record { values = canon s ns.tokens; computed = computed }) base m s)
      (held : HoldsArguments (record { values = canon s ns.tokens; computed = computed }) s.statics
      (argument_count code) entry) (there : (p : ℕ) → p < argument_count code → s.statics + p < count s.known) where
    abbrev Mine : Table
    Mine = record { values = canon s ns.tokens; computed = computed }

    is_object_mark : (t : ℕ) → t < count s.known → (balance_at s.balances t ≡ pos 0 → ⊥) → mark_of s.known t ≡ IsObject
    is_object_mark t h ne = by (mark_of s.known t) refl
      where
        by : (r : Mark) → mark_of s.known t ≡ r → mark_of s.known t ≡ IsObject
        by Pointer e = absurd (ne (w.notes.no_object t h (λ z. let bad : Pointer ≡ IsObject = sym e ∙ z in cc)))
        by TextPointer e = absurd (ne (w.notes.no_object t h (λ z. let bad : TextPointer ≡ IsObject = sym e ∙ z in cc)))
        by IsNull e = absurd (ne (w.notes.no_object t h (λ z. let bad : IsNull ≡ IsObject = sym e ∙ z in cc)))
        by IsObject e = e
        by IsText e = absurd (ne (w.notes.no_object t h (λ z. let bad : IsText ≡ IsObject = sym e ∙ z in cc)))
        by (IsNumber n) e = absurd (ne (w.notes.no_object t h (λ z. let bad : IsNumber n ≡ IsObject = sym e ∙ z in cc)))
        by (IsConverted n) e =
            absurd (ne (w.notes.no_object t h (λ z. let bad : IsConverted n ≡ IsObject = sym e ∙ z in cc)))
        by (Integer r) e = absurd (ne (w.notes.no_object t h (λ z. let bad : Integer r ≡ IsObject = sym e ∙ z in cc)))

    stands_alone : (t : ℕ) → t < count s.known → (balance_at s.balances t ≡ pos 0 → ⊥) → class_of s.classes t ≡ t
    stands_alone t h ne = elim (cases_eq (class_of s.classes t) t) [
      | inl e ↦ e
      | inr other ↦ absurd
          (ne (w.notes.merged t h other))
    ]

    the_class : (o t : ℕ) → t < count s.known → is_the o (at Own t) ≡ true → NumberOf (class_of s.classes t) ≡ o
    the_class o t h e = by (mark_of s.known t) (sym (ap (is_the o) (at_canon t h)) ∙ e)
      where
        by : (r : Mark) → is_the o (own_value r (NumberOf (class_of s.classes t)) (get_or ns.tokens t (pos 0))) ≡ true
            → NumberOf (class_of s.classes t) ≡ o
        by Pointer z = eqb-true (NumberOf (class_of s.classes t)) o z
        by TextPointer z = absurd (let bad : false ≡ true = z in cc)
        by IsNull z = absurd (let bad : false ≡ true = z in cc)
        by IsObject z = eqb-true (NumberOf (class_of s.classes t)) o z
        by IsText z = absurd (let bad : false ≡ true = z in cc)
        by (IsNumber n) z = absurd (let bad : false ≡ true = z in cc)
        by (IsConverted n) z = absurd (let bad : false ≡ true = z in cc)
        by (Integer r) z = absurd (let bad : false ≡ true = z in cc)

    wanted_object : (x : Option Term) (t : ℕ) (r : Option ℕ) → returned_object s.known x ≡ r → IsGiven s.known x
        → is_class s.classes r t ≡ true → (mark_of s.known t ≡ IsObject) × (class_of s.classes t ≡ t)
    wanted_object x t None e g z = absurd (let bad : false ≡ true = z in cc)
    wanted_object x t (Some u) e g z =
        let r = returned_some code.instrs Mine base m s w l x u g e in
        let lu = object_is_below s.known.marks u r.0 in
        let same : class_of s.classes u ≡ t = eqb-true (class_of s.classes u) t z in (
          ap (mark_of s.known) (sym same) ∙ w.notes.class_mark u lu ∙ r.0,
          ap (class_of s.classes) (sym same)
              ∙ w.notes.class_stands u lu ∙ same,
        )

    -- two classes are the same where their numbers are
    same_test : (u t : ℕ) → u < count s.known → t < count s.known → class_of s.classes t ≡ t
        → (NumberOf (class_of s.classes u) == NumberOf t) ≡ (class_of s.classes u == t)
    same_test u t h g own = elim (eqb_tells (class_of s.classes u) t) [
      | inl z ↦ eq-eqb (NumberOf (class_of s.classes u)) (NumberOf t) (ap NumberOf z.1) ∙ sym z.0
      | inr z ↦ elim (eqb_tells (NumberOf (class_of s.classes u)) (NumberOf t)) [
        | inl y ↦ absurd (z.1 (class_by_number s w u t h g (y.1 ∙ ap NumberOf (sym own)) ∙ own))
        | inr y ↦ y.0 ∙ sym z.0
      ]
    ]

    names_wanted : (x : Option Term) (t : ℕ) (r : Option ℕ) → t < count s.known → class_of s.classes t ≡ t
        → returned_object s.known x ≡ r → IsGiven s.known x
        → is_returned (returned_value Mine x) (NumberOf t) ≡ is_class s.classes r t
    names_wanted x t None lt own e g = returned_none code.instrs Mine base m s w l x g e (NumberOf t)
    names_wanted x t (Some u) lt own e g =
        let r = returned_some code.instrs Mine base m s w l x u g e in
        r.1 (NumberOf t) ∙ ap (is_the (NumberOf t)) (at_object u r.0)
        ∙ same_test u t (object_is_below s.known.marks u r.0) lt own

    own_may : (r : Mark) (c : ℕ) (n : ℤ) → may_be_object r ≡ true → own_value r c n ≡ value.Object c
    own_may Pointer c n e = refl
    own_may TextPointer c n e = absurd (let bad : false ≡ true = e in cc)
    own_may IsNull c n e = absurd (let bad : false ≡ true = e in cc)
    own_may IsObject c n e = refl
    own_may IsText c n e = absurd (let bad : false ≡ true = e in cc)
    own_may (IsNumber m) c n e = absurd (let bad : false ≡ true = e in cc)
    own_may (IsConverted m) c n e = absurd (let bad : false ≡ true = e in cc)
    own_may (Integer r) c n e = absurd (let bad : false ≡ true = e in cc)

    -- a token is the object of a class where it may be one and is of that class
    is_own : (t u : ℕ) → u < count s.known → t < count s.known → class_of s.classes t ≡ t
        → is_the (NumberOf t) (at Own u) ≡ (may_be_object (mark_of s.known u) && class_of s.classes u == t)
    is_own t u lt h own = ap (is_the (NumberOf t)) (at_canon u lt) ∙ by (mark_of s.known u)
      where
        by : (r : Mark)
            → is_the (NumberOf t) (own_value r (NumberOf (class_of s.classes u)) (get_or ns.tokens u (pos 0)))
            ≡ (may_be_object r && class_of s.classes u == t)
        by Pointer = same_test u t lt h own
        by TextPointer = refl
        by IsNull = refl
        by IsObject = same_test u t lt h own
        by IsText = refl
        by (IsNumber n) = refl
        by (IsConverted n) = refl
        by (Integer r) = refl

    taken_own : (t : ℕ) → t < count s.known → class_of s.classes t ≡ t → (p : ℕ)
        → is_argument entry (NumberOf t) p ≡ is_taken_as code s t p
    taken_own t h own p =
        argument_is Mine s.statics (argument_count code) entry held (NumberOf t) p
        ∙ by (nat_lt p (argument_count code)) refl
      where
        by : (b : Bool) → nat_lt p (argument_count code) ≡ b → (b && is_the (NumberOf t) (at Own (s.statics + p)))
            ≡ (b && (may_be_object (mark_of s.known (s.statics + p)) && class_of s.classes (s.statics + p) == t))
        by true e = is_own t (s.statics + p) (there p (below_true p (argument_count code) e)) h own
        by false e = refl

    abbrev Stands : ℕ → Type 0
    Stands t = (may_be_object (mark_of s.known t) ≡ true) × (class_of s.classes t ≡ t)

    stands_returned : (b : Bool) (x : Option Term) (t : ℕ) → IsGiven s.known x
        → is_class s.classes (if b then None else returned_object s.known x) t ≡ true → Stands t
    stands_returned true x t g z = absurd (let bad : false ≡ true = z in cc)
    stands_returned false x t g z =
        let r = wanted_object x t (returned_object s.known x) refl g z in
        (ap may_be_object r.0, r.1)

    stands_taken : (t p : ℕ) → is_taken_as code s t p ≡ true → Stands t
    stands_taken t p z =
        let u = s.statics + p in
        let a = two_true (nat_lt p (argument_count code)) (may_be_object (mark_of s.known u)
        && class_of s.classes u == t) z in
        let b = two_true (may_be_object (mark_of s.known u)) (class_of s.classes u == t) a.1 in
        let lt = there p (below_true p (argument_count code) a.0) in
        let same : class_of s.classes u ≡ t = eqb-true (class_of s.classes u) t b.1 in (
          ap (λ y. may_be_object (mark_of s.known y)) (sym same) ∙ ap may_be_object (w.notes.class_mark u lt) ∙ b.0,
          ap (class_of s.classes) (sym same) ∙ w.notes.class_stands u lt ∙ same,
        )

    stands_off : (x : Option Term) (t : ℕ) → IsGiven s.known x → t < count s.known
        → (balance_at s.balances t ≡ wanted code s x t → ⊥) → Stands t
    stands_off x t g lt ne = by (is_class s.classes (owned_object code.terms s.known x) t) refl
      where
        by : (b : Bool) → is_class s.classes (owned_object code.terms s.known x) t ≡ b → Stands t
        by true e = stands_returned code.terms.convention.borrowed x t g e
        by false e = elim (cases_eq (taken_count code s t) 0) [
          | inl none ↦
              let off : balance_at s.balances t ≡ pos 0 → ⊥ = λ z. ne (z
              ∙ sym (ap (λ b. (if b then pos 1 else pos 0) -ℤ pos (taken_count code s t)) e
              ∙ ap (λ n. pos 0 -ℤ pos n) none)) in
              (ap may_be_object (is_object_mark t lt off), stands_alone t lt off)
          | inr some ↦
              let p = one_counted (is_taken_as code s t) code.terms.convention.taken some in
              stands_taken t p.0 p.1
        ]

    owned_wanted : (b : Bool) (x : Option Term) (t : ℕ) → IsGiven s.known x → t < count s.known
        → class_of s.classes t ≡ t
        → is_returned (if b then None else returned_value Mine x) (NumberOf t)
        ≡ is_class s.classes (if b then None else returned_object s.known x) t
    owned_wanted true x t g lt own = refl
    owned_wanted false x t g lt own = names_wanted x t (returned_object s.known x) lt own refl g

    number_least : (n : ℕ) (made : List ℕ) (c : ℕ) → c ≤ n → c ≤ object_number n made c
    number_least n [] c le = omega arith
    number_least n (m ∷ made) c le = by (m == c) (number_least (n + 1) made c (omega (arith, le)))
      where
        by : (b : Bool) → c ≤ object_number (n + 1) made c → c ≤ (if b then n else object_number (n + 1) made c)
        by true more = le
        by false more = more

    pub uneven : (x : Option Term) (t : ℕ) → IsGiven s.known x → IsCounted code.terms t → t < count s.known
        → (balance_at s.balances t ≡ wanted code s x t → ⊥)
        → (o : ℕ) × ((o < length m.world.accounts)
        × (IsCounted code.terms o × (IsLevel code.terms entry m.world (returned_value Mine x) o → ⊥)))
    uneven x t g counted lt ne =
        let own = stands_off x t g lt ne in
        let at_t : at Own t ≡ value.Object (NumberOf t) = at_canon t lt
        ∙ own_may (mark_of s.known t) (NumberOf (class_of s.classes t)) (get_or ns.tokens t (pos 0)) own.0
        ∙ ap (λ z. value.Object (NumberOf z)) own.1 in
        let bl = w.notes.balances_long in
        let alone = named_alone (NumberOf t) Mine.values s.balances t (omega (arith, lt, bl))
        (ap (is_the (NumberOf t)) at_t ∙ eq-eqb (NumberOf t) (NumberOf t) refl)
        (λ y h other e.
        let there : y < count s.known = omega (arith, h, bl) in
        let same : class_of s.classes y ≡ t = class_by_number s w y t there lt
        (the_class (NumberOf t) y there e ∙ ap NumberOf (sym own.1)) ∙ own.1 in
        w.notes.merged y there (λ z. other (sym z ∙ same))) in
        let was = l.claims (NumberOf t) in
        let said = ap (λ b. pos (if b then 1 else 0))
        (owned_wanted code.terms.convention.borrowed x t g lt own.1) in
        let turn = turn_if (is_class s.classes (owned_object code.terms s.known x) t) in
        let took = count_same (is_argument entry (NumberOf t)) (is_taken_as code s t) (taken_own t lt own.1)
        code.terms.convention.taken in
        let least = number_least (count s.known) s.known.made t (omega (arith, lt)) in (
          NumberOf t,
          (
            subst (IsOf (length m.world.accounts)) at_t (l.below t lt),
            (
              omega (arith, least, counted),
              λ level. ne (omega (arith, ints, alone, was, said, turn, took, level)),
            ),
          ),
        )
      where
        turn_if : (b : Bool) → (if b then pos 1 else pos 0) ≡ pos (if b then 1 else 0)
        turn_if true = refl
        turn_if false = refl
