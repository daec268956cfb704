-- The parts in which an instruction is done, and what each reads and writes. A load and a store first find the slot,
-- then touch it for the first time where it isn't tracked yet, and then read or write it. A call of the API first does
-- all but its answer: it stops where an argument is NULL that may not be, counts, takes over, and has its outcome; and
-- then it writes its answer. A call of a function of the file first forgets the slots and which objects were made; then
-- that function runs and leaves by one of its exits; and then what it did is taken over. A return first forgets the
-- variables and slots, and then leaves. All other instructions have one part. Where what is written is a number of
-- which nothing is known, one more part follows, which puts any number there. What a call writes to a variable
-- whose address is passed comes from an instruction of its own, and so no call writes such a variable here.
--   vars_in a, vars_in_all as, vars_in_place place    the variables of atoms, of a slot's place
--   var_in o                the variable of a result, if there is one
--   first_var as            the variable of the first argument, if it is one
--   maps i                  how many parts an instruction has, without the one that puts any number
--   all_reads i             the variables that an instruction reads
--   kept_argument a as      of a call that returns its first argument the variable of that
--   reads_later i           the variables that its later parts read
--   reads i n               those that are read from part n on
--   gives_value a           a call with this answer writes it
--   written i               the variables that an instruction writes
--   writes i n              those that are written from part n on
--   following pc i          the instructions that may come after one at this place
use Rattle.std.specs.Prelude.{ℕ, zero, suc, ◌+◌, nat_lt, Bool, true, false, List, [], ◌∷◌, ◌++◌, Option, Some, None}
use Rattle.std.specs.Prelude.{if◌then◌else◌}
use Rattle.std.specs.List.{flat_map}
use Rattle.pungi_api.specs.declared.answer.Answer.TheVariants as answer
use Rattle.pungi_api.specs.declared.call_answer.CallAnswer.{CallAnswer}
use Rattle.pungi_api.specs.declared.call_answer.CallAnswer.TheVariants.{Of, Argument}
use Rattle.pungi_code.specs.declared.atom.Atom.{Atom}
use Rattle.pungi_code.specs.declared.atom.Atom.TheVariants as atom
use Rattle.pungi_code.specs.declared.atom.Var.{Var}
use Rattle.pungi_code.specs.declared.instr.Instr.{Instr}
use Rattle.pungi_code.specs.declared.instr.Instr.TheVariants.{Set, Arith, Fit, Compare, Load, Store, Api, Call, Unset}
use Rattle.pungi_code.specs.declared.instr.Instr.TheVariants.{Jump, Branch, Return, Fall}
use Rattle.pungi_code.specs.declared.place.Place.{Place}
use Rattle.pungi_code.specs.declared.place.Place.TheVariants.{Global, Field}

abbrev pub vars_in : Atom → List ℕ
vars_in (atom.Var x) = x.0 ∷ []
vars_in a = []

abbrev pub vars_in_all : List Atom → List ℕ
vars_in_all as' = flat_map vars_in as'

abbrev pub vars_in_place : Place → List ℕ
vars_in_place (Global n kind) = []
vars_in_place (Field base tag field kind) = vars_in base

abbrev pub var_in : Option Var → List ℕ
var_in None = []
var_in (Some x) = x.0 ∷ []

abbrev pub first_var : List Atom → List ℕ
first_var [] = []
first_var (a ∷ as') = vars_in a

abbrev pub maps : Instr → ℕ
maps (Load x place) = 3
maps (Store place a) = 3
maps (Api x g as') = 2
maps (Return a) = 2
maps (Call x f as') = 3
maps i = 1

-- ---- what is read

abbrev pub all_reads : Instr → List ℕ
all_reads (Set x a) = vars_in a
all_reads (Arith x kind o a b) = vars_in a ++ vars_in b
all_reads (Fit x kind a) = vars_in a
all_reads (Compare x c a b) = vars_in a ++ vars_in b
all_reads (Load x place) = vars_in_place place
all_reads (Store place a) = vars_in_place place ++ vars_in a
all_reads (Api x g as') = vars_in_all as'
all_reads (Call x f as') = vars_in_all as'
all_reads (Branch a this other) = vars_in a
all_reads (Return (Some a)) = vars_in a
all_reads i = []

abbrev pub kept_argument : CallAnswer → List Atom → List ℕ
kept_argument (Of a) as' = []
kept_argument Argument as' = first_var as'

abbrev pub reads_later : Instr → List ℕ
reads_later (Load x place) = vars_in_place place
reads_later (Store place a) = vars_in_place place ++ vars_in a
reads_later (Api x g as') = kept_argument g.answer as'
reads_later (Call x f as') = vars_in_all as'
reads_later i = []

abbrev pub reads : Instr → ℕ → List ℕ
reads i zero = all_reads i
reads i (suc n) = if nat_lt (suc n) (maps i) then reads_later i else []

-- ---- what is written

abbrev pub gives_value : CallAnswer → Bool
gives_value (Of answer.Void) = false
gives_value a = true

abbrev pub written : Instr → List ℕ
written (Set x a) = x.0 ∷ []
written (Arith x kind o a b) = x.0 ∷ []
written (Fit x kind a) = x.0 ∷ []
written (Compare x c a b) = x.0 ∷ []
written (Load x place) = x.0 ∷ []
written (Api x g as') = if gives_value g.answer then var_in x else []
written (Call x f as') = var_in x
written (Unset x) = x.0 ∷ []
written i = []

abbrev pub writes : Instr → ℕ → List ℕ
writes i n = if nat_lt n (maps i) then written i else []

-- ---- what comes next

abbrev pub following : ℕ → Instr → List ℕ
following pc (Jump to) = to.0 ∷ []
following pc (Branch a this other) = this.0 ∷ other.0 ∷ []
following pc (Return a) = []
following pc Fall = []
following pc i = (pc + 1) ∷ []
