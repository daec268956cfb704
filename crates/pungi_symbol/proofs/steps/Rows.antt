-- What a call of a row needs, takes over and returns.
use Rattle.std.proofs.Common.{◌≡◌, ℕ, ◌<◌, ◌+ℤ◌, List, [], ◌∷◌, length, map, Bool, true, false}
use Rattle.std.proofs.Common.{refl, sym, ap, ◌∙◌, subst, arith, Option, None, Some, cond}
use Rattle.pungi_base.specs.declared.choice.Choice.{Choice}
use Rattle.pungi_base.specs.declared.value.Value.{Value}
use Rattle.pungi_base.specs.declared.value.Value.TheVariants as value
use Rattle.pungi_world.specs.declared.content.Content.{Content}
use Rattle.pungi_world.specs.declared.content.Content.TheVariants as content
use Rattle.pungi_code.specs.declared.atom.Atom.{Atom}
use Rattle.pungi_code.specs.Registers.{content_of as atom_content}
use Rattle.pungi_symbol.specs.declared.answers.decision.Decision.TheVariants.{Quiet}
use Rattle.pungi_symbol.specs.declared.states.known.Known.{Known}
use Rattle.pungi_symbol.specs.declared.states.mark.Mark.{Mark}
use Rattle.pungi_symbol.specs.declared.states.mark.Mark.TheVariants.{Pointer, TextPointer, IsNull, IsObject, IsText}
use Rattle.pungi_symbol.specs.declared.states.mark.Mark.TheVariants.{IsNumber, IsConverted, Integer}
use Rattle.pungi_symbol.specs.declared.questions.question.Question.{Question}
use Rattle.pungi_symbol.specs.declared.questions.question.Question.TheVariants.{Null as AsksNull, Answers, Stops}
use Rattle.pungi_symbol.specs.declared.states.term.Term.{Term}
use Rattle.pungi_symbol.specs.declared.states.term.Term.TheVariants.{Unset, Null, Text, Number, Token, Sum}
use Rattle.pungi_symbol.specs.states.Terms.{Table, at, content_of, is_mark}
use Rattle.pungi_symbol.specs.runs.Fits.{IsBelow}
use Rattle.pungi_code.specs.WellFormed.{is_there}
use Rattle.std.specs.Prelude.{◌||◌, ◌&&◌, Ok, Err}
use Rattle.std.specs.List.{list_all}
use Rattle.std.proofs.lemmas.Int.{ints}
use Rattle.pungi_api.specs.declared.answer.Answer.{Answer}
use Rattle.pungi_api.specs.declared.answer.Answer.TheVariants as answer
use Rattle.pungi_api.specs.declared.param.Param.{Param}
use Rattle.pungi_api.specs.declared.param.Param.TheVariants as param
use Rattle.pungi_api.specs.declared.take.Take.{Take}
use Rattle.pungi_api.specs.declared.take.Take.TheVariants as take
use Rattle.pungi_world.specs.declared.halt.Halt.TheVariants as halt
use Rattle.pungi_world.specs.declared.world.World.{World}
use Rattle.pungi_world.specs.Calls.{lacks, stops, is_taken, take_over}
use Rattle.pungi_world.specs.Choices.{value_of, is_accepted}
use Rattle.pungi_world.specs.Choices.{choose, answer_of}
use Rattle.pungi_world.specs.Counts.{hand_over}
use Rattle.pungi_world.specs.Effects.{◌>>=◌}
use Rattle.pungi_code.specs.Registers.{all_values, both_values}
use Rattle.pungi_symbol.specs.states.Terms.{sum_value}
use Rattle.pungi_symbol.specs.states.Known.{count, mark_of, term_of}
use Rattle.pungi_symbol.specs.questions.NextQuestion.{asks_all_set, asks_thing, asks_param, asks_params, asks_known}
use Rattle.pungi_symbol.specs.questions.NextQuestion.{asks_take, asks_takes, asks_answer}
use Rattle.pungi_symbol.specs.answers.SymbolicState.{taken_terms}
use Rattle.pungi_symbol.specs.runs.RunInState.{owed, IsOf}
use Rattle.pungi_symbol.proofs.states.Contents.{unset, asks, passes, knowing_is, unset_n, null_n, asks_n, passes_n}
use Rattle.pungi_symbol.proofs.states.Contents.{needing_is, IsKnown, IsThing, is_open, term_value, null_value}
use Rattle.pungi_symbol.proofs.states.Claims.{AreKnown, owing}
use Rattle.pungi_symbol.proofs.steps.Worlds.{Keeps, keeps_self, keeps_then, handed_keeps, handed_owed}

-- ---- arguments

abbrev pub AllSet : List Term → Type 0
AllSet [] = Unit {0}
AllSet (x ∷ xs) = (x ≡ Unset → ⊥) × AllSet xs

abbrev pub AllBelow : ℕ → List Term → Type 0
AllBelow n [] = Unit {0}
AllBelow n (x ∷ xs) = IsBelow n x × AllBelow n xs

-- a term of a call that isn't set stops; else all have values
pub data Set (table : Table) (vs : Option (List Value)) (xs : List Term) : Type 0 where
  not_set : ((q : Question) → asks_all_set xs q ≡ Stops Quiet) → vs ≡ None → Set table vs xs
  are_set : ((q : Question) → asks_all_set xs q ≡ q) → vs ≡ Some (map (term_value table) xs) → AllSet xs
      → Set table vs xs

both_unset : (c : Content) (o : Option (List Value)) → c ≡ content.Unset → both_values c o ≡ None
both_unset c o e = ap (λ z. both_values z o) e

both_none : (c : Content) (o : Option (List Value)) → o ≡ None → both_values c o ≡ None
both_none content.Unset o e = refl
both_none (content.Holds v) o e = ap (both_values (content.Holds v)) e

set_cons : (table : Table) (x : Term) (xs : List Term) (c : Content) (o : Option (List Value))
    → c ≡ content_of table x → Set table o xs → Set table (both_values c o) (x ∷ xs)
set_cons table Unset xs c o e r = not_set (λ q. refl) (both_unset c o e)
set_cons table Null xs c o e (not_set f g) = not_set f (both_none c o g)
set_cons table Null xs c o e (are_set f g h) =
    are_set f (ap (λ z. both_values z o) e ∙ ap (both_values (content.Holds value.Null)) g) ((λ z. cc), h)
set_cons table Text xs c o e (not_set f g) = not_set f (both_none c o g)
set_cons table Text xs c o e (are_set f g h) =
    are_set f (ap (λ z. both_values z o) e ∙ ap (both_values (content.Holds value.Text)) g) ((λ z. cc), h)
set_cons table (Number n) xs c o e (not_set f g) = not_set f (both_none c o g)
set_cons table (Number n) xs c o e (are_set f g h) =
    are_set f (ap (λ z. both_values z o) e ∙ ap (both_values (content.Holds (value.Int n))) g) ((λ z. cc), h)
set_cons table (Token t) xs c o e (not_set f g) = not_set f (both_none c o g)
set_cons table (Token t) xs c o e (are_set f g h) =
    are_set f (ap (λ z. both_values z o) e ∙ ap (both_values (content.Holds (at table t))) g) ((λ z. cc), h)
set_cons table (Sum s) xs c o e (not_set f g) = not_set f (both_none c o g)
set_cons table (Sum s) xs c o e (are_set f g h) =
    are_set f (ap (λ z. both_values z o) e ∙ ap (both_values (content.Holds (value.Int (sum_value table s)))) g)
    ((λ z. cc), h)

pub all_there : (n : ℕ) (a : Atom) (as' : List Atom) → list_all (is_there n) (a ∷ as') ≡ true
    → (is_there n a ≡ true) × (list_all (is_there n) as' ≡ true)
all_there n a as' e = by (is_there n a) (list_all (is_there n) as') e
  where
    by : (b c : Bool) → (b && c) ≡ true → (b ≡ true) × (c ≡ true)
    by true c z = (refl, z)
    by false c z = absurd (let bad : false ≡ true = z in cc)

pub set_is : (table : Table) (k : Known) (n : ℕ) (vars : List Content)
    → ((a : Atom) → is_there n a ≡ true → atom_content a vars ≡ content_of table (term_of k a))
    → (as' : List Atom) → list_all (is_there n) as' ≡ true → Set table (all_values as' vars) (map (term_of k) as')
set_is table k n vars f [] h = are_set (λ q. refl) refl tt
set_is table k n vars f (a ∷ as') h =
    let two = all_there n a as' h in
    set_cons table (term_of k a) (map (term_of k) as') (atom_content a vars) (all_values as' vars) (f a two.0)
    (set_is table k n vars f as' two.1)

pub all_below : (k : Known) (n : ℕ) → ((a : Atom) → is_there n a ≡ true → IsBelow (count k) (term_of k a))
    → (as' : List Atom) → list_all (is_there n) as' ≡ true → AllBelow (count k) (map (term_of k) as')
all_below k n f [] h = tt
all_below k n f (a ∷ as') h = let two = all_there n a as' h in (f a two.0, all_below k n f as' two.1)

-- ---- what a row needs

pub not_null : (k : Known) (table : Table) (x : Term)
    → ((t : ℕ) → t < count k → is_mark (mark_of k t) (at table t) ≡ true) → IsBelow (count k) x → IsKnown k x
    → IsThing k x → term_value table x ≡ value.Null → ⊥
not_null k table Unset marks b kn th e = th
not_null k table Null marks b kn th e = th
not_null k table Text marks b kn th e = cc
not_null k table (Number n) marks b kn th e = cc
not_null k table (Sum s) marks b kn th e = cc
not_null k table (Token t) marks b kn th e = by (mark_of k t) refl
  where
    by : (r : Mark) → mark_of k t ≡ r → ⊥
    by r f = off r (subst (λ z. is_mark z value.Null ≡ true) f (subst (λ v. is_mark (mark_of k t) v ≡ true) e
        (marks t b))) (subst (λ z. is_open z ≡ false) f kn) (λ z. th (f ∙ z))
      where
        off : (r : Mark) → is_mark r value.Null ≡ true → is_open r ≡ false → (r ≡ IsNull → ⊥) → ⊥
        off Pointer h o n = absurd (let bad : true ≡ false = o in cc)
        off TextPointer h o n = absurd (let bad : true ≡ false = o in cc)
        off IsNull h o n = n refl
        off IsObject h o n = absurd (let bad : false ≡ true = h in cc)
        off IsText h o n = absurd (let bad : false ≡ true = h in cc)
        off (IsNumber i) h o n = absurd (let bad : false ≡ true = h in cc)
        off (IsConverted i) h o n = absurd (let bad : false ≡ true = h in cc)
        off (Integer i) h o n = absurd (let bad : false ≡ true = h in cc)

pub object_lacks : (v : Value) → (v ≡ value.Null → ⊥) → lacks param.Object v ≡ false
object_lacks value.Null n = absurd (n refl)
object_lacks (value.Object k) n = refl
object_lacks (value.Int i) n = refl
object_lacks value.Text n = refl

text_lacks : (v : Value) → (v ≡ value.Null → ⊥) → lacks param.Text v ≡ false
text_lacks value.Null n = absurd (n refl)
text_lacks (value.Object k) n = refl
text_lacks (value.Int i) n = refl
text_lacks value.Text n = refl

pub data Needs (k : Known) (table : Table) (ps : List Param) (xs : List Term) (q : Question) : Type 0 where
  need_stops : asks_params k ps xs q ≡ Stops Quiet → stops ps (map (term_value table) xs) ≡ true → Needs k table ps xs q
  need_asks : (t : ℕ) → asks_params k ps xs q ≡ AsksNull t → is_open (mark_of k t) ≡ true → Needs k table ps xs q
  need_passes : asks_params k ps xs q ≡ q → stops ps (map (term_value table) xs) ≡ false → Needs k table ps xs q

module _ (k : Known) (table : Table) (marks : (t : ℕ) → t < count k → is_mark (mark_of k t) (at table t) ≡ true) where
  abbrev Stop : Param → List Param → Term → List Term → Bool
  Stop p ps x xs = lacks p (term_value table x) || stops ps (map (term_value table) xs)

  -- a parameter that needs a pointer that isn't NULL
  need_one : (p : Param) (ps : List Param) (x : Term) (xs : List Term) (q : Question)
      → ((r : Question) → asks_param k p x r ≡ asks_thing k x r) → (lacks p value.Null ≡ true)
      → ((v : Value) → (v ≡ value.Null → ⊥) → lacks p v ≡ false)
      → (x ≡ Unset → ⊥) → IsBelow (count k) x → Needs k table ps xs q → Needs k table (p ∷ ps) (x ∷ xs) q
  need_one p ps x xs q f g h set b rest =
      let inner = asks_params k ps xs q in
      elim (needing_is k x inner) [
        | unset_n u e ↦ absurd (set u)
        | null_n u kn e ↦ need_stops (f inner ∙ e) (ap (λ v. lacks p v || stops ps (map (term_value table) xs))
            (null_value table k marks x b kn u) ∙ ap (λ z. z || stops ps (map (term_value table) xs)) g)
        | asks_n t u o e ↦ need_asks t (f inner ∙ e) o
        | passes_n kn th e ↦
            let no_lack : lacks p (term_value table x) ≡ false = h (term_value table x)
            (not_null k table x marks b kn th) in
            let same : Stop p ps x xs ≡ stops ps (map (term_value table) xs) = ap (λ z. z
            || stops ps (map (term_value table) xs)) no_lack in
            elim rest [
              | need_stops e' s' ↦ need_stops (f inner ∙ e ∙ e') (same ∙ s')
              | need_asks t e' o ↦ need_asks t (f inner ∙ e ∙ e') o
              | need_passes e' s' ↦ need_passes (f inner ∙ e ∙ e') (same ∙ s')
            ]
      ]

  need_none : (p : Param) (ps : List Param) (x : Term) (xs : List Term) (q : Question)
      → ((r : Question) → asks_param k p x r ≡ r) → ((v : Value) → lacks p v ≡ false) → Needs k table ps xs q
      → Needs k table (p ∷ ps) (x ∷ xs) q
  need_none p ps x xs q f g rest =
      let same : Stop p ps x xs ≡ stops ps (map (term_value table) xs) = ap (λ z. z
      || stops ps (map (term_value table) xs)) (g (term_value table x)) in
      elim rest [
        | need_stops e' s' ↦ need_stops (f (asks_params k ps xs q) ∙ e') (same ∙ s')
        | need_asks t e' o ↦ need_asks t (f (asks_params k ps xs q) ∙ e') o
        | need_passes e' s' ↦ need_passes (f (asks_params k ps xs q) ∙ e') (same ∙ s')
      ]

  pub needs_is : (ps : List Param) (xs : List Term) (q : Question) → AllSet xs → AllBelow (count k) xs
      → Needs k table ps xs q
  needs_is [] xs q s b = need_passes refl refl
  needs_is (p ∷ ps) [] q s b = need_passes refl (by p)
    where
      by : (p : Param) → stops (p ∷ ps) [] ≡ false
      by p = refl
  needs_is (param.Object ∷ ps) (x ∷ xs) q s b = need_one param.Object ps x xs q (λ r. refl) refl object_lacks s.0
      b.0 (needs_is ps xs q s.1 b.1)
  needs_is (param.Text ∷ ps) (x ∷ xs) q s b = need_one param.Text ps x xs q (λ r. refl) refl text_lacks s.0 b.0
      (needs_is ps xs q s.1 b.1)
  needs_is (param.ObjectOrNull ∷ ps) (x ∷ xs) q s b = need_none param.ObjectOrNull ps x xs q (λ r. refl) (λ v. refl)
      (needs_is ps xs q s.1 b.1)
  needs_is (param.TextOrNull ∷ ps) (x ∷ xs) q s b = need_none param.TextOrNull ps x xs q (λ r. refl) (λ v. refl)
      (needs_is ps xs q s.1 b.1)
  needs_is (param.Int ∷ ps) (x ∷ xs) q s b = need_none param.Int ps x xs q (λ r. refl) (λ v. refl)
      (needs_is ps xs q s.1 b.1)
  needs_is (param.Long ∷ ps) (x ∷ xs) q s b = need_none param.Long ps x xs q (λ r. refl) (λ v. refl)
      (needs_is ps xs q s.1 b.1)
  needs_is (param.Size ∷ ps) (x ∷ xs) q s b = need_none param.Size ps x xs q (λ r. refl) (λ v. refl)
      (needs_is ps xs q s.1 b.1)
  needs_is (param.ModuleDef ∷ ps) (x ∷ xs) q s b = need_none param.ModuleDef ps x xs q (λ r. refl) (λ v. refl)
      (needs_is ps xs q s.1 b.1)

-- ---- what a row takes over

abbrev pub KnownTaken : Known → List Take → List Term → Type 0
KnownTaken k [] xs = Unit {0}
KnownTaken k (t ∷ ts) [] = Unit {0}
KnownTaken k (t ∷ ts) (x ∷ xs) = ((t ≡ take.Never → ⊥) → IsKnown k x) × KnownTaken k ts xs

pub data Takes (k : Known) (ts : List Take) (xs : List Term) (q : Question) : Type 0 where
  take_asks : (t : ℕ) → asks_takes k ts xs q ≡ AsksNull t → is_open (mark_of k t) ≡ true → Takes k ts xs q
  take_passes : asks_takes k ts xs q ≡ q → KnownTaken k ts xs → Takes k ts xs q

take_one : (k : Known) (t : Take) (ts : List Take) (x : Term) (xs : List Term) (q : Question)
    → ((r : Question) → asks_take k t x r ≡ asks_known k x r) → (x ≡ Unset → ⊥) → Takes k ts xs q
    → Takes k (t ∷ ts) (x ∷ xs) q
take_one k t ts x xs q f set rest = elim (knowing_is k x (asks_takes k ts xs q)) [
  | unset u e ↦ absurd (set u)
  | asks y u o e ↦ take_asks y (f (asks_takes k ts xs q) ∙ e) o
  | passes kn e ↦ elim rest [
    | take_asks y e' o ↦ take_asks y (f (asks_takes k ts xs q) ∙ e ∙ e') o
    | take_passes e' kt ↦ take_passes (f (asks_takes k ts xs q) ∙ e ∙ e') ((λ _. kn), kt)
  ]
]

pub takes_is : (k : Known) (ts : List Take) (xs : List Term) (q : Question) → AllSet xs → Takes k ts xs q
takes_is k [] xs q s = take_passes refl tt
takes_is k (t ∷ ts) [] q s = take_passes refl tt
takes_is k (take.Never ∷ ts) (x ∷ xs) q s = elim (takes_is k ts xs q s.1) [
  | take_asks y e' o ↦ take_asks y e' o
  | take_passes e' kt ↦ take_passes e' ((λ n. absurd (n refl)), kt)
]
takes_is k (take.Always ∷ ts) (x ∷ xs) q s = take_one k take.Always ts x xs q (λ r. refl) s.0 (takes_is k ts xs q s.1)
takes_is k (take.OnSuccess ∷ ts) (x ∷ xs) q s =
    take_one k take.OnSuccess ts x xs q (λ r. refl) s.0 (takes_is k ts xs q s.1)

taken_kind : (success : Bool) (t : Take) → is_taken success t ≡ true → t ≡ take.Never → ⊥
taken_kind success take.Never e f = absurd (let bad : false ≡ true = e in cc)
taken_kind success take.Always e f = cc
taken_kind success take.OnSuccess e f = cc

taken_by : (k : Known) (success : Bool) (t : Take) (ts : List Take) (x : Term) (xs : List Term) (b : Bool)
    → is_taken success t ≡ b → ((t ≡ take.Never → ⊥) → IsKnown k x) → IsBelow (count k) x
    → AreKnown k (taken_terms success ts xs)
    → AreKnown k (cond b (x ∷ taken_terms success ts xs) (taken_terms success ts xs))
taken_by k success t ts x xs true e kn b rest = (kn (taken_kind success t e), b, rest)
taken_by k success t ts x xs false e kn b rest = rest

pub taken_known : (k : Known) (success : Bool) (ts : List Take) (xs : List Term) → KnownTaken k ts xs
    → AllBelow (count k) xs → AreKnown k (taken_terms success ts xs)
taken_known k success [] xs kt b = tt
taken_known k success (t ∷ ts) [] kt b = tt
taken_known k success (t ∷ ts) (x ∷ xs) kt b =
    taken_by k success t ts x xs (is_taken success t) refl kt.0 b.0 (taken_known k success ts xs kt.1 b.1)

-- each value of an argument is there
abbrev pub AreOf : ℕ → Table → List Term → Type 0
AreOf n table [] = Unit {0}
AreOf n table (x ∷ xs) = IsOf n (term_value table x) × AreOf n table xs

are_same : (n m : ℕ) (table : Table) (xs : List Term) → m ≡ n → AreOf n table xs → AreOf m table xs
are_same n m table xs e h = subst (λ z. AreOf z table xs) (sym e) h

abbrev pub TakenOver : Table → Bool → List Take → List Term → World → Type 0
TakenOver table success ts xs w =
    Keeps w (take_over w success ts (map (term_value table) xs))
    × ((o : ℕ) → owed (take_over w success ts (map (term_value table) xs)) o
    ≡ owed w o +ℤ owing o table (taken_terms success ts xs))

over_by : (table : Table) (w : World) (success : Bool) (ts : List Take) (x : Term) (xs : List Term) (b : Bool)
    → IsOf (length w.accounts) (term_value table x)
    → ((w1 : World) → length w1.accounts ≡ length w.accounts → TakenOver table success ts xs w1)
    → Keeps w (take_over (cond b (hand_over w (term_value table x)) w) success ts (map (term_value table) xs))
    × ((o : ℕ) → owed (take_over (cond b (hand_over w (term_value table x)) w) success ts
    (map (term_value table) xs)) o ≡ owed w o +ℤ owing o table (cond b (x ∷ taken_terms success ts xs)
    (taken_terms success ts xs)))
over_by table w success ts x xs true of rest =
    let w1 = hand_over w (term_value table x) in
    let kept = handed_keeps w (term_value table x) in
    let r = rest w1 kept.accounts in (
      keeps_then w w1 _ kept r.0,
      λ o.
          let a = r.1 o in
          let b = handed_owed w (term_value table x) o of in
          omega (arith, ints, a, b),
    )
over_by table w success ts x xs false of rest = rest w refl

pub taken_over_is : (table : Table) (w : World) (success : Bool) (ts : List Take) (xs : List Term)
    → AreOf (length w.accounts) table xs → TakenOver table success ts xs w
taken_over_is table w success [] xs of = (keeps_self w, λ o. omega (arith, ints))
taken_over_is table w success (t ∷ ts) [] of = (keeps_self w, λ o. omega (arith, ints))
taken_over_is table w success (t ∷ ts) (x ∷ xs) of =
    over_by table w success ts x xs (is_taken success t) of.0 (λ w1 e. taken_over_is table w1 success ts xs
    (are_same (length w.accounts) (length w1.accounts) table xs e of.1))

-- ---- what a call returns

pub data Answering (a : Answer) : Type 0 where
  a_void : a ≡ answer.Void → Answering a
  a_null : a ≡ answer.Null → Answering a
  a_choice : asks_answer a ≡ Answers a → ((n : ℕ) (cs : List Choice)
      → answer_of n a cs ≡ (choose n a cs >>= λ x. Ok (Some x, 1))) → Answering a

pub answering_is : (a : Answer) → Answering a
answering_is answer.Void = a_void refl
answering_is answer.Null = a_null refl
answering_is answer.New = a_choice refl (λ n cs. refl)
answering_is answer.Borrowed = a_choice refl (λ n cs. refl)
answering_is answer.BorrowedSure = a_choice refl (λ n cs. refl)
answering_is answer.Status = a_choice refl (λ n cs. refl)
answering_is answer.Truth = a_choice refl (λ n cs. refl)
answering_is answer.Size = a_choice refl (λ n cs. refl)
answering_is answer.Int = a_choice refl (λ n cs. refl)
answering_is answer.Long = a_choice refl (λ n cs. refl)
answering_is answer.Text = a_choice refl (λ n cs. refl)
answering_is answer.Found = a_choice refl (λ n cs. refl)
answering_is (answer.Converted failures least most) = a_choice refl (λ n cs. refl)
answering_is answer.AnySize = a_choice refl (λ n cs. refl)
answering_is answer.Flag = a_choice refl (λ n cs. refl)
answering_is answer.TextSure = a_choice refl (λ n cs. refl)
answering_is answer.Made = a_choice refl (λ n cs. refl)

pub data Chosen (n : ℕ) (a : Answer) (cs : List Choice) : Type 0 where
  chose : (c : Choice) (rest : List Choice) → cs ≡ c ∷ rest → is_accepted n a c ≡ true
      → choose n a cs ≡ Ok (value_of c) → Chosen n a cs
  chose_none : choose n a cs ≡ Err halt.NeedsChoice → Chosen n a cs

chosen_by : (n : ℕ) (a : Answer) (c : Choice) (rest : List Choice) (b : Bool) → is_accepted n a c ≡ b
    → Chosen n a (c ∷ rest)
chosen_by n a c rest true e = chose c rest refl e (ap (λ b. cond b (Ok (value_of c)) (Err halt.NeedsChoice)) e)
chosen_by n a c rest false e = chose_none (ap (λ b. cond b (Ok (value_of c)) (Err halt.NeedsChoice)) e)

pub chosen_is : (n : ℕ) (a : Answer) (cs : List Choice) → Chosen n a cs
chosen_is n a [] = chose_none refl
chosen_is n a (c ∷ cs) = chosen_by n a c cs (is_accepted n a c) refl
