-- Which values of the tokens a state stands for, and what its balances say.
--   is_the o v              a value is this object
--   Fits                    what is noted of tokens is true of their values
--   IsMet, AreMet           so is a bound of numbers; so are several
--   AreNew                  an object that was made is another than each that was there before, and than each that a
--                           slot held at entry
--   FitsState               so is all that a state notes
--   named o values balances what is owed by an object: the balances of its tokens
--   IsBelow n x             a token of a term is among the first n
--   IsObjectSpot ms s       the base of a touched field is known to be an object
--   AreTermsSound           each term has a token that is there
--   AreNotesSound           what is noted of tokens isn't against itself
--   AreMadeSound            what is noted of objects that were made isn't against itself
--   IsSound                 a state notes nothing against itself
use Rattle.std.specs.Prelude.{◌≡◌, ℕ, ◌≤◌, ◌<◌, ℤ, pos, ◌+ℤ◌, ◌≤ℤ◌, Bool, true, List, [], ◌∷◌, length, get_or}
use Rattle.std.specs.Prelude.{if◌then◌else◌}
use Rattle.std.specs.Prelude.{All}
use Rattle.pungi_base.specs.declared.value.Value.{Value}
use Rattle.pungi_base.specs.declared.value.Value.TheVariants as value
use Rattle.pungi_world.specs.Escapes.{is_this_object}
use Rattle.pungi_symbol.specs.declared.states.limit.Limit.{Limit}
use Rattle.pungi_symbol.specs.declared.states.mark.Mark.{Mark}
use Rattle.pungi_symbol.specs.declared.states.mark.Mark.TheVariants.{IsNull, IsObject}
use Rattle.pungi_symbol.specs.declared.states.spot.Spot.{Spot}
use Rattle.pungi_symbol.specs.declared.states.spot.Spot.TheVariants.{Global, Field}
use Rattle.pungi_symbol.specs.declared.states.spot.Touched.{Touched}
use Rattle.pungi_symbol.specs.declared.states.state.Pair.{Pair}
use Rattle.pungi_symbol.specs.declared.states.state.State.{State}
use Rattle.pungi_symbol.specs.declared.states.term.Term.{Term}
use Rattle.pungi_symbol.specs.declared.states.term.Term.TheVariants.{Unset, Null, Text, Number, Token, Sum}
use Rattle.pungi_symbol.specs.states.Terms.{Table, at, is_mark, node_value}
use Rattle.pungi_symbol.specs.states.Known.{slot_note}
use Rattle.pungi_symbol.specs.answers.SymbolicState.{class_of, balance_at, is_among}

abbrev pub is_the : ℕ → Value → Bool
is_the o v = is_this_object v o

pub record Fits (table : Table) (first : ℕ) (ms : List Mark) (cs : List ℕ) (ps : List Pair) : Type 0 where
  pub statics : (t : ℕ) → t < first → at table t ≡ value.Object t
  pub marks : (t : ℕ) → t < length ms → is_mark (get_or ms t IsNull) (at table t) ≡ true
  pub classes : (t : ℕ) → t < length ms → at table (class_of cs t) ≡ at table t
  pub others : All (λ p. at table p.a ≡ at table p.b → ⊥) ps

abbrev pub IsMet : Table → Limit → Type 0
IsMet table l = node_value table l.x ≤ℤ (node_value table l.y +ℤ l.c)

abbrev pub AreMet : Table → List Limit → Type 0
AreMet table ls = All (IsMet table) ls

pub record AreNew (table : Table) (made : List ℕ) (slots : List Touched) : Type 0 where
  pub later : (m t : ℕ) → is_among made m ≡ true → t < m → at table t ≡ at table m → ⊥
  pub outside : (m i t : ℕ) → is_among made m ≡ true → (slot_note slots i).at_entry ≡ Token t
      → at table t ≡ at table m → ⊥

pub record FitsState (table : Table) (s : State) : Type 0 where
  pub notes : Fits table s.statics s.known.marks s.classes s.others
  pub limits : AreMet table s.limits
  pub new : AreNew table s.known.made s.known.slots

abbrev pub named : ℕ → List Value → List ℤ → ℤ
named o values [] = pos 0
named o [] (b ∷ bs) = pos 0
named o (v ∷ values) (b ∷ bs) = (if is_the o v then b else pos 0) +ℤ named o values bs

abbrev pub IsBelow : ℕ → Term → Type 0
IsBelow n Unset = Unit {0}
IsBelow n Null = Unit {0}
IsBelow n Text = Unit {0}
IsBelow n (Number m) = Unit {0}
IsBelow n (Token t) = t < n
IsBelow n (Sum s) = Unit {0}

-- the base of a touched field is an object
abbrev pub IsObjectSpot : List Mark → Spot → Type 0
IsObjectSpot ms (Global m) = Unit {0}
IsObjectSpot ms (Field t tag field) = get_or ms t IsNull ≡ IsObject

pub record AreTermsSound (ms : List Mark) (vars : List Term) (slots : List Touched) : Type 0 where
  pub vars_below : (x : ℕ) → IsBelow (length ms) (get_or vars x Unset)
  pub held : (i : ℕ) → IsBelow (length ms) (slot_note slots i).held
  pub at_entry : (i : ℕ) → IsBelow (length ms) (slot_note slots i).at_entry
  pub spots : (i : ℕ) → IsObjectSpot ms (slot_note slots i).spot

pub record AreNotesSound (first : ℕ) (ms : List Mark) (cs : List ℕ) (bs : List ℤ) (ps : List Pair) : Type 0 where
  pub statics : first ≤ length ms
  pub static_objects : (t : ℕ) → t < first → get_or ms t IsNull ≡ IsObject
  pub classes_long : length cs ≡ length ms
  pub balances_long : length bs ≡ length ms
  pub class_older : (t : ℕ) → t < length ms → class_of cs t ≤ t
  pub class_static : (t : ℕ) → t < first → class_of cs t ≡ t
  pub class_stands : (t : ℕ) → t < length ms → class_of cs (class_of cs t) ≡ class_of cs t
  pub class_mark : (t : ℕ) → t < length ms → get_or ms (class_of cs t) IsNull ≡ get_or ms t IsNull
  pub alone : (t : ℕ) → t < length ms → (get_or ms t IsNull ≡ IsObject → ⊥) → class_of cs t ≡ t
  pub no_object : (t : ℕ) → t < length ms → (get_or ms t IsNull ≡ IsObject → ⊥) → balance_at bs t ≡ pos 0
  pub merged : (t : ℕ) → t < length ms → (class_of cs t ≡ t → ⊥) → balance_at bs t ≡ pos 0
  pub others_below : All (λ p. (p.a < length ms) × (p.b < length ms)) ps
  pub others_objects : All (λ p. (get_or ms p.a IsNull ≡ IsObject) × (get_or ms p.b IsNull ≡ IsObject)) ps
  pub others_part : All (λ p. class_of cs p.a ≡ class_of cs p.b → ⊥) ps

-- an object that was made stands for itself
pub record AreMadeSound (ms : List Mark) (made : List ℕ) (slots : List Touched) (cs : List ℕ) : Type 0 where
  pub below : (m : ℕ) → is_among made m ≡ true → m < length ms
  pub objects : (m : ℕ) → is_among made m ≡ true → get_or ms m IsNull ≡ IsObject
  pub own : (m : ℕ) → is_among made m ≡ true → class_of cs m ≡ m
  pub outside : (m i t : ℕ) → is_among made m ≡ true → (slot_note slots i).at_entry ≡ Token t
      → class_of cs t ≡ m → ⊥

pub record IsSound (s : State) : Type 0 where
  pub terms : AreTermsSound s.known.marks s.known.vars s.known.slots
  pub notes : AreNotesSound s.statics s.known.marks s.classes s.balances s.others
  pub made : AreMadeSound s.known.marks s.known.made s.known.slots s.classes
