-- Where one statement's instructions end and another's begin, no temporary is kept.
--   expr_positions v, place_positions place, values_positions vs    the places in the text of the nodes of an
--                                                                   expression
--   option_positions o, declare_positions rs  those of one that may be missing, and of declared locals with their first
--                                             values
--   own a                       those of a statement's own nodes: without those of the statements in it
--   parts a, parts_of ss        a statement and those in it
--   IsAmong p ps, IsPart a as   members
--   IsHead h heads              one of the heads
--   ShareStatement f p q        some statement of a function has own nodes at both places
--   KeepsNothing f code heads nl    where one instruction leads to another, and no statement has own nodes at the
--                                   places of both, and at
--                               each head, no path reads a temporary before it writes it
use Rattle.std.specs.Prelude.{◌≡◌, ◌⊎◌, ℕ, List, [], ◌∷◌, ◌++◌, slice_get, Option, Some, None}
use Rattle.pungi_base.specs.declared.pos.Pos.{Pos}
use Rattle.pungi_resolved.specs.Values as expr
use Rattle.pungi_resolved.specs.Actions as stmt
use Rattle.pungi_resolved.specs.Functions.{ResolvedFunction}
use Rattle.pungi_code.specs.declared.code.Head.{Head}
use Rattle.pungi_code.specs.declared.code.Line.{Line}
use Rattle.pungi_layout.specs.liveness.Liveness.{Among, following, AreDead}

abbrev mutual
  pub expr_positions : expr.Value → List Pos
  expr_positions (expr.constant p n) = p ∷ []
  expr_positions (expr.text_of p ns) = p ∷ []
  expr_positions (expr.null_of p) = p ∷ []
  expr_positions (expr.static_of p n) = p ∷ []
  expr_positions (expr.module_of p n) = p ∷ []
  expr_positions (expr.read p kind place) = p ∷ place_positions place
  expr_positions (expr.inner p v) = p ∷ expr_positions v
  expr_positions (expr.signed p m kind v) = p ∷ expr_positions v
  expr_positions (expr.negated p v) = p ∷ expr_positions v
  expr_positions (expr.stepped p is_postfix m kind place) = p ∷ place_positions place
  expr_positions (expr.emptied p kind place) = p ∷ place_positions place
  expr_positions (expr.computed p m kind a b) = p ∷ (expr_positions a ++ expr_positions b)
  expr_positions (expr.compared p m a b) = p ∷ (expr_positions a ++ expr_positions b)
  expr_positions (expr.joined_by p m a b) = p ∷ (expr_positions a ++ expr_positions b)
  expr_positions (expr.stored p kind place v) = p ∷ (place_positions place ++ expr_positions v)
  expr_positions (expr.updated p m counted kind place v) = p ∷ (place_positions place ++ expr_positions v)
  expr_positions (expr.chosen p c a b) = p ∷ (expr_positions c ++ (expr_positions a ++ expr_positions b))
  expr_positions (expr.converted p kind v) = p ∷ expr_positions v
  expr_positions (expr.cast_of p v) = p ∷ expr_positions v
  expr_positions (expr.dropped p v) = p ∷ expr_positions v
  expr_positions (expr.called p f vs) = p ∷ values_positions vs
  expr_positions (expr.called_row p n g vs) = p ∷ values_positions vs
  expr_positions (expr.called_unless_null p n g vs) = p ∷ values_positions vs
  expr_positions (expr.called_with_outputs p n g vs steps) = p ∷ values_positions vs
  expr_positions (expr.nonsense p) = p ∷ []

  pub place_positions : expr.Place → List Pos
  place_positions (expr.local_place p x) = p ∷ []
  place_positions (expr.global_place p n) = p ∷ []
  place_positions (expr.field_place p base tag field) = p ∷ expr_positions base
  place_positions expr.no_place = []

  pub values_positions : expr.Values → List Pos
  values_positions expr.no_values = []
  values_positions (expr.value_and v vs) = expr_positions v ++ values_positions vs

abbrev pub option_positions : Option expr.Value → List Pos
option_positions None = []
option_positions (Some v) = expr_positions v

abbrev pub declare_positions : List stmt.DeclaredLocal → List Pos
declare_positions [] = []
declare_positions (r ∷ rs) = r.at ∷ (option_positions r.value ++ declare_positions rs)

-- ---- statements

abbrev pub own : stmt.Action → List Pos
own (stmt.block p ss q) = p ∷ []
own (stmt.declare p rs) = p ∷ declare_positions rs
own (stmt.do_expr p v) = p ∷ option_positions v
own (stmt.if_only p c a) = p ∷ expr_positions c
own (stmt.if_else p c a b) = p ∷ expr_positions c
own (stmt.while p c a) = p ∷ expr_positions c
own (stmt.do_while p a c) = p ∷ expr_positions c
own (stmt.for p rs u c w a) =
    p ∷ (declare_positions rs ++ (option_positions u ++ (option_positions c ++ option_positions w)))
own (stmt.switch p v a) = p ∷ expr_positions v
own (stmt.case p n a) = p ∷ []
own (stmt.default p a) = p ∷ []
own (stmt.label p l a) = p ∷ []
own (stmt.goto p l) = p ∷ []
own (stmt.break p) = p ∷ []
own (stmt.continue p) = p ∷ []
own (stmt.return p k v) = p ∷ option_positions v

abbrev mutual
  pub parts : stmt.Action → List stmt.Action
  parts (stmt.block p ss q) = stmt.block p ss q ∷ parts_of ss
  parts (stmt.if_only p c a) = stmt.if_only p c a ∷ parts a
  parts (stmt.if_else p c a b) = stmt.if_else p c a b ∷ (parts a ++ parts b)
  parts (stmt.while p c a) = stmt.while p c a ∷ parts a
  parts (stmt.do_while p a c) = stmt.do_while p a c ∷ parts a
  parts (stmt.for p rs u c w a) = stmt.for p rs u c w a ∷ parts a
  parts (stmt.switch p v a) = stmt.switch p v a ∷ parts a
  parts (stmt.case p n a) = stmt.case p n a ∷ parts a
  parts (stmt.default p a) = stmt.default p a ∷ parts a
  parts (stmt.label p l a) = stmt.label p l a ∷ parts a
  parts (stmt.declare p rs) = stmt.declare p rs ∷ []
  parts (stmt.do_expr p v) = stmt.do_expr p v ∷ []
  parts (stmt.goto p l) = stmt.goto p l ∷ []
  parts (stmt.break p) = stmt.break p ∷ []
  parts (stmt.continue p) = stmt.continue p ∷ []
  parts (stmt.return p k v) = stmt.return p k v ∷ []

  pub parts_of : stmt.Actions → List stmt.Action
  parts_of stmt.no_actions = []
  parts_of (stmt.action_and a ss) = parts a ++ parts_of ss

-- ---- boundaries

abbrev pub IsAmong : Pos → List Pos → Type 0
IsAmong p [] = ⊥
IsAmong p (q ∷ qs) = (p ≡ q) ⊎ IsAmong p qs

abbrev pub IsPart : stmt.Action → List stmt.Action → Type 0
IsPart a [] = ⊥
IsPart a (b ∷ bs) = (a ≡ b) ⊎ IsPart a bs

abbrev pub ShareStatement : ResolvedFunction → Pos → Pos → Type 0
ShareStatement f p q = (a : stmt.Action) × IsPart a (parts f.body) × IsAmong p (own a) × IsAmong q (own a)

abbrev pub IsHead : Head → List Head → Type 0
IsHead h [] = ⊥
IsHead h (k ∷ ks) = (h ≡ k) ⊎ IsHead h ks

pub record KeepsNothing (f : ResolvedFunction) (code : List Line) (heads : List Head) (nl : ℕ) : Type 0 where
  pub between : (from to : ℕ) (line next : Line) → slice_get code from ≡ Some line
      → Among to (following from line.instr) → slice_get code to ≡ Some next
      → (ShareStatement f line.pos next.pos → ⊥) → AreDead code nl to
  pub at_heads : (h : Head) → IsHead h heads → AreDead code nl h.label.0
