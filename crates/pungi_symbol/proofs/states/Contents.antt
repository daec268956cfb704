-- What a question about NULL says of a term, and what a term's value is then.
use Rattle.std.proofs.Common.{◌≡◌, ℕ, ◌<◌, ℤ, pos, ◌+ℤ◌, List, Bool, true, false, refl, sym, ap, ◌∙◌, subst}
use Rattle.std.proofs.Common.{arith, get_or, map, None, Some}
use Rattle.std.proofs.lemmas.Int.{ints}
use Rattle.std.proofs.Math.ListN.{get_or-map}
use Rattle.pungi_base.specs.declared.value.Value.{Value}
use Rattle.pungi_base.specs.declared.value.Value.TheVariants as value
use Rattle.pungi_world.specs.declared.content.Content.{Content}
use Rattle.pungi_world.specs.declared.content.Content.TheVariants as content
use Rattle.pungi_meaning.specs.Values.{is_true, number_of}
use Rattle.pungi_code.specs.declared.atom.Atom.{Atom}
use Rattle.pungi_code.specs.declared.atom.Atom.TheVariants as atom
use Rattle.pungi_code.specs.Registers.{content_of as atom_content}
use Rattle.pungi_symbol.specs.declared.answers.decision.Decision.TheVariants.{Quiet}
use Rattle.pungi_symbol.specs.declared.states.known.Known.{Known}
use Rattle.pungi_symbol.specs.declared.states.mark.Mark.{Mark}
use Rattle.pungi_symbol.specs.declared.states.mark.Mark.TheVariants.{Pointer, TextPointer, IsNull, IsObject, IsText}
use Rattle.pungi_symbol.specs.declared.states.mark.Mark.TheVariants.{IsNumber, IsConverted, Integer}
use Rattle.pungi_symbol.specs.declared.questions.question.Question.{Question}
use Rattle.pungi_symbol.specs.declared.questions.question.Question.TheVariants.{Null as AsksNull, Stops}
use Rattle.pungi_symbol.specs.declared.states.node.Node.TheVariants as nodes
use Rattle.pungi_symbol.specs.declared.states.sum.Sum.{Sum as SumOf}
use Rattle.pungi_symbol.specs.declared.states.term.Term.{Term}
use Rattle.pungi_symbol.specs.declared.states.term.Term.TheVariants.{Unset, Null, Text, Number, Token, Sum}
use Rattle.pungi_symbol.specs.states.Terms.{Table, at, content_of, is_mark, value_of_mark, sum_value}
use Rattle.pungi_symbol.specs.states.Known.{count, mark_of, term_of, known_value, number_in, sum_of_mark, sum_in}
use Rattle.pungi_symbol.specs.questions.NextQuestion.{asks_known, knows_mark, asks_thing, needs_mark, asks_set}
use Rattle.pungi_symbol.specs.runs.Fits.{IsBelow}
use Rattle.pungi_code.specs.WellFormed.{is_there}
use Rattle.std.proofs.lemmas.Bool.Decides.{nat_tests, Decides-int_eq}
use Rattle.std.specs.Prelude.{nat_lt}

-- a pointer of which it wasn't asked whether it is NULL
abbrev pub is_open : Mark → Bool
is_open Pointer = true
is_open TextPointer = true
is_open IsNull = false
is_open IsObject = false
is_open IsText = false
is_open (IsNumber n) = false
is_open (IsConverted n) = false
is_open (Integer r) = false

-- a mark that leaves answers: such a pointer, or a number
abbrev pub has_answers : Mark → Bool
has_answers Pointer = true
has_answers TextPointer = true
has_answers IsNull = false
has_answers IsObject = false
has_answers IsText = false
has_answers (IsNumber n) = false
has_answers (IsConverted n) = false
has_answers (Integer r) = true

pub open_answers : (m : Mark) → is_open m ≡ true → has_answers m ≡ true
open_answers Pointer o = refl
open_answers TextPointer o = refl
open_answers IsNull o = o
open_answers IsObject o = o
open_answers IsText o = o
open_answers (IsNumber n) o = o
open_answers (IsConverted n) o = o
open_answers (Integer r) o = refl

-- it was asked
abbrev pub IsKnown : Known → Term → Type 0
IsKnown k Unset = ⊥
IsKnown k Null = Unit {0}
IsKnown k Text = Unit {0}
IsKnown k (Number n) = Unit {0}
IsKnown k (Token t) = is_open (mark_of k t) ≡ false
IsKnown k (Sum s) = Unit {0}

-- it isn't NULL
abbrev pub IsThing : Known → Term → Type 0
IsThing k Unset = ⊥
IsThing k Null = ⊥
IsThing k Text = Unit {0}
IsThing k (Number n) = Unit {0}
IsThing k (Token t) = mark_of k t ≡ IsNull → ⊥
IsThing k (Sum s) = Unit {0}

pub data Knowing (k : Known) (x : Term) (q : Question) : Type 0 where
  unset : x ≡ Unset → asks_known k x q ≡ Stops Quiet → Knowing k x q
  asks : (t : ℕ) → x ≡ Token t → is_open (mark_of k t) ≡ true → asks_known k x q ≡ AsksNull t → Knowing k x q
  passes : IsKnown k x → asks_known k x q ≡ q → Knowing k x q

by_mark : (k : Known) (t : ℕ) (q : Question) (m : Mark) → mark_of k t ≡ m → Knowing k (Token t) q
by_mark k t q Pointer e = asks t refl (ap is_open e) (ap (λ m. knows_mark m t q) e)
by_mark k t q TextPointer e = asks t refl (ap is_open e) (ap (λ m. knows_mark m t q) e)
by_mark k t q IsNull e = passes (ap is_open e) (ap (λ m. knows_mark m t q) e)
by_mark k t q IsObject e = passes (ap is_open e) (ap (λ m. knows_mark m t q) e)
by_mark k t q IsText e = passes (ap is_open e) (ap (λ m. knows_mark m t q) e)
by_mark k t q (IsNumber n) e = passes (ap is_open e) (ap (λ m. knows_mark m t q) e)
by_mark k t q (IsConverted n) e = passes (ap is_open e) (ap (λ m. knows_mark m t q) e)
by_mark k t q (Integer r) e = passes (ap is_open e) (ap (λ m. knows_mark m t q) e)

pub knowing_is : (k : Known) (x : Term) (q : Question) → Knowing k x q
knowing_is k Unset q = unset refl refl
knowing_is k Null q = passes tt refl
knowing_is k Text q = passes tt refl
knowing_is k (Number n) q = passes tt refl
knowing_is k (Token t) q = by_mark k t q (mark_of k t) refl
knowing_is k (Sum s) q = passes tt refl

pub data Needing (k : Known) (x : Term) (q : Question) : Type 0 where
  unset_n : x ≡ Unset → asks_thing k x q ≡ Stops Quiet → Needing k x q
  null_n : known_value k x ≡ value.Null → IsKnown k x → asks_thing k x q ≡ Stops Quiet → Needing k x q
  asks_n : (t : ℕ) → x ≡ Token t → is_open (mark_of k t) ≡ true → asks_thing k x q ≡ AsksNull t → Needing k x q
  passes_n : IsKnown k x → IsThing k x → asks_thing k x q ≡ q → Needing k x q

need_mark : (k : Known) (t : ℕ) (q : Question) (m : Mark) → mark_of k t ≡ m → Needing k (Token t) q
need_mark k t q Pointer e = asks_n t refl (ap is_open e) (ap (λ m. needs_mark m t q) e)
need_mark k t q TextPointer e = asks_n t refl (ap is_open e) (ap (λ m. needs_mark m t q) e)
need_mark k t q IsNull e = null_n (ap value_of_mark e) (ap is_open e) (ap (λ m. needs_mark m t q) e)
need_mark k t q IsObject e =
    passes_n (ap is_open e) (λ h. let bad : IsObject ≡ IsNull = sym e ∙ h in cc) (ap (λ m. needs_mark m t q) e)
need_mark k t q IsText e =
    passes_n (ap is_open e) (λ h. let bad : IsText ≡ IsNull = sym e ∙ h in cc) (ap (λ m. needs_mark m t q) e)
need_mark k t q (IsNumber n) e =
    passes_n (ap is_open e) (λ h. let bad : IsNumber n ≡ IsNull = sym e ∙ h in cc) (ap (λ m. needs_mark m t q) e)
need_mark k t q (IsConverted n) e =
    passes_n (ap is_open e) (λ h. let bad : IsConverted n ≡ IsNull = sym e ∙ h in cc) (ap (λ m. needs_mark m t q) e)
need_mark k t q (Integer r) e =
    passes_n (ap is_open e) (λ h. let bad : Integer r ≡ IsNull = sym e ∙ h in cc) (ap (λ m. needs_mark m t q) e)

pub needing_is : (k : Known) (x : Term) (q : Question) → Needing k x q
needing_is k Unset q = unset_n refl refl
needing_is k Null q = null_n refl tt refl
needing_is k Text q = passes_n tt tt refl
needing_is k (Number n) q = passes_n tt tt refl
needing_is k (Token t) q = need_mark k t q (mark_of k t) refl
needing_is k (Sum s) q = passes_n tt tt refl

pub data Setting (x : Term) (q : Question) : Type 0 where
  unset_s : x ≡ Unset → asks_set x q ≡ Stops Quiet → Setting x q
  set_s : (x ≡ Unset → ⊥) → asks_set x q ≡ q → Setting x q

pub setting_is : (x : Term) (q : Question) → Setting x q
setting_is Unset q = unset_s refl refl
setting_is Null q = set_s (λ e. cc) refl
setting_is Text q = set_s (λ e. cc) refl
setting_is (Number n) q = set_s (λ e. cc) refl
setting_is (Token t) q = set_s (λ e. cc) refl
setting_is (Sum s) q = set_s (λ e. cc) refl

-- a number that is known
pub data Numbered (x : Term) : Type 0 where
  a_number : (n : ℤ) → x ≡ Number n → Numbered x
  no_number : number_in x ≡ None → Numbered x

pub numbered : (x : Term) → Numbered x
numbered Unset = no_number refl
numbered Null = no_number refl
numbered Text = no_number refl
numbered (Number n) = a_number n refl
numbered (Token t) = no_number refl
numbered (Sum s) = no_number refl

-- ---- values

-- two values are one, or two objects
pub data Agrees (v w : Value) : Type 0 where
  one : v ≡ w → Agrees v w
  objects : (a b : ℕ) → v ≡ value.Object a → w ≡ value.Object b → Agrees v w

pub mark_agrees : (m : Mark) (v : Value) → is_mark m v ≡ true → has_answers m ≡ false → Agrees v (value_of_mark m)
mark_agrees Pointer v h o = absurd (let bad : true ≡ false = o in cc)
mark_agrees TextPointer v h o = absurd (let bad : true ≡ false = o in cc)
mark_agrees IsNull value.Null h o = one refl
mark_agrees IsNull (value.Object k) h o = absurd (let bad : false ≡ true = h in cc)
mark_agrees IsNull (value.Int n) h o = absurd (let bad : false ≡ true = h in cc)
mark_agrees IsNull value.Text h o = absurd (let bad : false ≡ true = h in cc)
mark_agrees IsObject value.Null h o = absurd (let bad : false ≡ true = h in cc)
mark_agrees IsObject (value.Object k) h o = objects k 0 refl refl
mark_agrees IsObject (value.Int n) h o = absurd (let bad : false ≡ true = h in cc)
mark_agrees IsObject value.Text h o = absurd (let bad : false ≡ true = h in cc)
mark_agrees IsText value.Null h o = absurd (let bad : false ≡ true = h in cc)
mark_agrees IsText (value.Object k) h o = absurd (let bad : false ≡ true = h in cc)
mark_agrees IsText (value.Int n) h o = absurd (let bad : false ≡ true = h in cc)
mark_agrees IsText value.Text h o = one refl
mark_agrees (IsNumber m) value.Null h o = absurd (let bad : false ≡ true = h in cc)
mark_agrees (IsNumber m) (value.Object k) h o = absurd (let bad : false ≡ true = h in cc)
mark_agrees (IsNumber m) (value.Int n) h o = one (ap value.Int ((Decides-int_eq n m).0 h))
mark_agrees (IsNumber m) value.Text h o = absurd (let bad : false ≡ true = h in cc)
mark_agrees (IsConverted m) value.Null h o = absurd (let bad : false ≡ true = h in cc)
mark_agrees (IsConverted m) (value.Object k) h o = absurd (let bad : false ≡ true = h in cc)
mark_agrees (IsConverted m) (value.Int n) h o = one (ap value.Int ((Decides-int_eq n m).0 h))
mark_agrees (IsConverted m) value.Text h o = absurd (let bad : false ≡ true = h in cc)
mark_agrees (Integer r) v h o = absurd (let bad : true ≡ false = o in cc)

pub agrees_true : (v w : Value) → Agrees v w → is_true v ≡ is_true w
agrees_true v w (one e) = ap is_true e
agrees_true v w (objects a b e f) = ap is_true e ∙ sym (ap is_true f)

pub agrees_number : (v w : Value) → Agrees v w → number_of v ≡ number_of w
agrees_number v w (one e) = ap number_of e
agrees_number v w (objects a b e f) = ap number_of e ∙ sym (ap number_of f)

-- the value of a set term
abbrev pub term_value : Table → Term → Value
term_value table Unset = value.Null
term_value table Null = value.Null
term_value table Text = value.Text
term_value table (Number n) = value.Int n
term_value table (Token t) = at table t
term_value table (Sum s) = value.Int (sum_value table s)

pub holds_term : (table : Table) (x : Term) → (x ≡ Unset → ⊥) → content_of table x ≡ content.Holds (term_value table x)
holds_term table Unset h = absurd (h refl)
holds_term table Null h = refl
holds_term table Text h = refl
holds_term table (Number n) h = refl
holds_term table (Token t) h = refl
holds_term table (Sum s) h = refl

pub known_set : (k : Known) (x : Term) → IsKnown k x → x ≡ Unset → ⊥
known_set k Unset h e = h
known_set k Null h e = cc
known_set k Text h e = cc
known_set k (Number n) h e = cc
known_set k (Token t) h e = cc
known_set k (Sum s) h e = cc

-- what isn't a number that isn't known leaves no answers where it is known
shut_answers : (m : Mark) (t : ℕ) → is_open m ≡ false → sum_of_mark m t ≡ None → has_answers m ≡ false
shut_answers Pointer t o e = o
shut_answers TextPointer t o e = o
shut_answers IsNull t o e = refl
shut_answers IsObject t o e = refl
shut_answers IsText t o e = refl
shut_answers (IsNumber n) t o e = refl
shut_answers (IsConverted n) t o e = refl
shut_answers (Integer r) t o e = absurd (cc)

same_sum : (a b : SumOf) → Some a ≡ Some b → a ≡ b
same_sum a b e = cc

integer_value : (m : Mark) (v : Value) (t : ℕ) (u : SumOf) → is_mark m v ≡ true → sum_of_mark m t ≡ Some u
    → v ≡ value.Int (number_of v +ℤ pos 0)
integer_value Pointer v t u h e = absurd (cc)
integer_value TextPointer v t u h e = absurd (cc)
integer_value IsNull v t u h e = absurd (cc)
integer_value IsObject v t u h e = absurd (cc)
integer_value IsText v t u h e = absurd (cc)
integer_value (IsNumber n) v t u h e = absurd (cc)
integer_value (IsConverted n) v t u h e = absurd (cc)
integer_value (Integer r) value.Null t u h e = absurd (let bad : false ≡ true = h in cc)
integer_value (Integer r) (value.Object k) t u h e = absurd (let bad : false ≡ true = h in cc)
integer_value (Integer r) (value.Int n) t u h e = ap value.Int (omega (arith, ints))
integer_value (Integer r) value.Text t u h e = absurd (let bad : false ≡ true = h in cc)

node_of_mark : (m : Mark) (t : ℕ) (u : SumOf) → sum_of_mark m t ≡ Some u
    → record { node = nodes.Token t; plus = pos 0 } ≡ u
node_of_mark Pointer t u e = absurd (cc)
node_of_mark TextPointer t u e = absurd (cc)
node_of_mark IsNull t u e = absurd (cc)
node_of_mark IsObject t u e = absurd (cc)
node_of_mark IsText t u e = absurd (cc)
node_of_mark (IsNumber n) t u e = absurd (cc)
node_of_mark (IsConverted n) t u e = absurd (cc)
node_of_mark (Integer r) t u e = same_sum (record { node = nodes.Token t; plus = pos 0 }) u e

module _ (table : Table) (k : Known) (marks : (t : ℕ) → t < count k → is_mark (mark_of k t) (at table t) ≡ true) where
  -- what isn't a number is known as it is
  pub known_agrees : (x : Term) → IsBelow (count k) x → IsKnown k x → sum_in k x ≡ None
      → Agrees (term_value table x) (known_value k x)
  known_agrees Unset b h e = absurd h
  known_agrees Null b h e = one refl
  known_agrees Text b h e = one refl
  known_agrees (Number n) b h e = one refl
  known_agrees (Token t) b h e = mark_agrees (mark_of k t) (at table t) (marks t b) (shut_answers (mark_of k t) t h e)
  known_agrees (Sum s) b h e = absurd (cc)

  -- a number has the value of its sum
  pub sum_is : (x : Term) (u : SumOf) → IsBelow (count k) x → sum_in k x ≡ Some u
      → term_value table x ≡ value.Int (sum_value table u)
  sum_is Unset u b e = absurd (cc)
  sum_is Null u b e = absurd (cc)
  sum_is Text u b e = absurd (cc)
  sum_is (Number n) u b e =
      subst (λ y. value.Int n ≡ value.Int (sum_value table y)) (same_sum (record { node = nodes.Zero; plus = n }) u e)
      (ap value.Int (omega (arith, ints)))
  sum_is (Token t) u b e =
      subst (λ y. at table t ≡ value.Int (sum_value table y)) (node_of_mark (mark_of k t) t u e)
      (integer_value (mark_of k t) (at table t) t u (marks t b) e)
  sum_is (Sum s) u b e = ap (λ y. value.Int (sum_value table y)) (same_sum s u e)

  null_mark : (m : Mark) (v : Value) → is_mark m v ≡ true → value_of_mark m ≡ value.Null → is_open m ≡ false
      → v ≡ value.Null
  null_mark Pointer v h e o = absurd (let bad : true ≡ false = o in cc)
  null_mark TextPointer v h e o = absurd (let bad : true ≡ false = o in cc)
  null_mark IsNull value.Null h e o = refl
  null_mark IsNull (value.Object n) h e o = absurd (let bad : false ≡ true = h in cc)
  null_mark IsNull (value.Int n) h e o = absurd (let bad : false ≡ true = h in cc)
  null_mark IsNull value.Text h e o = absurd (let bad : false ≡ true = h in cc)
  null_mark IsObject v h e o = absurd (cc)
  null_mark IsText v h e o = absurd (cc)
  null_mark (IsNumber n) v h e o = absurd (cc)
  null_mark (IsConverted n) v h e o = absurd (cc)
  null_mark (Integer r) v h e o = absurd (cc)

  pub null_value : (x : Term) → IsBelow (count k) x → IsKnown k x → known_value k x ≡ value.Null
      → term_value table x ≡ value.Null
  null_value Unset b h e = refl
  null_value Null b h e = refl
  null_value Text b h e = absurd (cc)
  null_value (Number n) b h e = absurd (cc)
  null_value (Token t) b h e = null_mark (mark_of k t) (at table t) (marks t b) e h
  null_value (Sum s) b h e = absurd (cc)

-- ---- atoms

pub static_below : (n m : ℕ) → nat_lt n m ≡ true → n < m
static_below n m h = grind (arith, nat_tests)

module _ (table : Table) (k : Known) (statics : ℕ) (vars : List Content)
    (is_static : (t : ℕ) → t < statics → at table t ≡ value.Object t) (shows : vars ≡ map (content_of table) k.vars)
  where
    pub atom_term : (a : Atom) → is_there statics a ≡ true → atom_content a vars ≡ content_of table (term_of k a)
    atom_term (atom.Var x) h = ap (λ vs. get_or vs x.0 content.Unset) shows
        ∙ get_or-map (content_of table) k.vars x.0 Unset
    atom_term (atom.Int n) h = refl
    atom_term atom.Null h = refl
    atom_term atom.Text h = refl
    atom_term (atom.Static n) h = sym (ap content.Holds (is_static n (static_below n statics h)))
