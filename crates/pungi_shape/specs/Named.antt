-- What codes name: static objects, and functions of the file that they call.
--   static_in a             the static object of an atom, if it is one
--   statics_in line         the static objects of an instruction
--   put_all ns, in_order ns numbers in order, each once: with nothing beside them; alone
--   put_by o a b c          one of three lists, by an order: the first for less, the second for equal
--   put_number n ns, put_numbers ms ns    a number in its place among numbers in order, unless it is there; several
--   named_statics code      the static objects that a code names, in the order of their numbers
--   lines_of o              the instructions of a code, if there is one
--   callee_of i, callees_in line, callees_of codes f    the functions of the file that an instruction calls, that a
--                           function calls
--   functions_within codes n f    a function, and those that it reaches by at most n calls
--   functions_from codes f  a function, and those that it reaches by calls, in order. No chain of calls needs to go
--                           through a function twice
--   statics_from codes f, statics_of codes f    the static objects that a function names, that these name
use Rattle.std.specs.Prelude.{ℕ, zero, suc, List, [], ◌∷◌, length, map, Option, Some, None}
use Rattle.std.specs.List.{flat_map}
use Rattle.std.specs.Ordering.{nat_cmp}
use Rattle.std.specs.declared.cmp.Ordering.{Ordering}
use Rattle.std.specs.declared.cmp.Ordering.TheVariants.{Less, Equal, Greater}
use Rattle.std.specs.FinMap.{put}
use Rattle.pungi_code.specs.declared.atom.Atom.{Atom}
use Rattle.pungi_code.specs.declared.atom.Atom.TheVariants as atom
use Rattle.pungi_code.specs.declared.code.Code.{Code}
use Rattle.pungi_code.specs.declared.code.Codes.{Codes}
use Rattle.pungi_code.specs.declared.code.Line.{Line}
use Rattle.pungi_code.specs.declared.instr.Instr.{Instr}
use Rattle.pungi_code.specs.declared.instr.Instr.TheVariants.{Call}
use Rattle.pungi_code.specs.WellFormed.{atoms_of}
use Rattle.pungi_code.specs.Run.{code_at}

-- ---- static objects

abbrev pub static_in : Atom → List ℕ
static_in (atom.Static k) = k ∷ []
static_in a = []

abbrev pub statics_in : Line → List ℕ
statics_in line = flat_map static_in (atoms_of line.instr)

abbrev pub put_all : List ℕ → List (ℕ × Unit {0})
put_all [] = []
put_all (n ∷ ns) = put nat_cmp n tt (put_all ns)

abbrev pub in_order : List ℕ → List ℕ
in_order ns = map (λ e. e.0) (put_all ns)

abbrev pub put_by : Ordering → List ℕ → List ℕ → List ℕ → List ℕ
put_by Less a b c = a
put_by Equal a b c = b
put_by Greater a b c = c

abbrev pub put_number : ℕ → List ℕ → List ℕ
put_number n [] = n ∷ []
put_number n (k ∷ ks) = put_by (nat_cmp n k) (n ∷ k ∷ ks) (k ∷ ks) (k ∷ put_number n ks)

abbrev pub put_numbers : List ℕ → List ℕ → List ℕ
put_numbers [] ns = ns
put_numbers (m ∷ ms) ns = put_number m (put_numbers ms ns)

abbrev pub named_statics : Code → List ℕ
named_statics code = in_order (flat_map statics_in code.instrs)

-- ---- functions of the file

abbrev pub callee_of : Instr → List ℕ
callee_of (Call x f as') = f ∷ []
callee_of i = []

abbrev pub callees_in : Line → List ℕ
callees_in line = callee_of line.instr

abbrev pub lines_of : Option Code → List Line
lines_of None = []
lines_of (Some code) = code.instrs

abbrev pub callees_of : Codes → ℕ → List ℕ
callees_of codes f = in_order (flat_map callees_in (lines_of (code_at codes f)))

abbrev pub functions_within : Codes → ℕ → ℕ → List ℕ
functions_within codes zero f = f ∷ []
functions_within codes (suc n) f = f ∷ flat_map (functions_within codes n) (callees_of codes f)

abbrev pub functions_from : Codes → ℕ → List ℕ
functions_from codes f = in_order (functions_within codes (length codes.codes) f)

abbrev pub statics_from : Codes → ℕ → List ℕ
statics_from codes f = flat_map statics_in (lines_of (code_at codes f))

abbrev pub statics_of : Codes → ℕ → List ℕ
statics_of codes f = in_order (flat_map (statics_from codes) (functions_from codes f))
