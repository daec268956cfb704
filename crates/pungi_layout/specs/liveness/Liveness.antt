-- Which variables an instruction reads and writes, and where it leads. What is written before it is read.
--   atom_vars a, atoms_vars as, place_vars place, var_of o    the variables of atoms, of a place, of a result
--   reads i, writes i           the variables that an instruction reads, and those that it writes
--   following pc i              the places that may come after an instruction at this place
--   Among x xs                  a member
--   IsKnown nl ws x, AreKnown nl ws xs    a local, or one of those that were written
--   Each next ws qs             from each of these places on
--   LineKeeps next nl ws pc o   an instruction reads only what is known, and so do those after it
--   WritesFirst code nl n pc ws    on no path of n instructions from this place is a variable read that is no local,
--                                  not one of
--                               these, and was not written before on the path
--   AreDead code nl pc          no path from this place reads a temporary before it writes it
use Rattle.std.specs.Prelude.{◌≡◌, ◌⊎◌, ℕ, zero, suc, ◌+◌, ◌<◌, List, [], ◌∷◌, ◌++◌, slice_get, Option, Some, None}
use Rattle.pungi_code.specs.declared.atom.Atom.{Atom}
use Rattle.pungi_code.specs.declared.atom.Atom.TheVariants as atom
use Rattle.pungi_code.specs.declared.atom.Var.{Var}
use Rattle.pungi_code.specs.declared.code.Line.{Line}
use Rattle.pungi_code.specs.declared.instr.Instr.{Instr}
use Rattle.pungi_code.specs.declared.instr.Instr.TheVariants.{Set, Arith, Fit, Compare, Load, Store, Api, Call, Unset}
use Rattle.pungi_code.specs.declared.instr.Instr.TheVariants.{Jump, Branch, Return, Fall}
use Rattle.pungi_code.specs.declared.place.Place.{Place}
use Rattle.pungi_code.specs.declared.place.Place.TheVariants.{Global, Field}

abbrev pub atom_vars : Atom → List ℕ
atom_vars (atom.Var x) = x.0 ∷ []
atom_vars a = []

abbrev pub atoms_vars : List Atom → List ℕ
atoms_vars [] = []
atoms_vars (a ∷ as') = atom_vars a ++ atoms_vars as'

abbrev pub place_vars : Place → List ℕ
place_vars (Global n k) = []
place_vars (Field base tag field k) = atom_vars base

abbrev pub var_of : Option Var → List ℕ
var_of None = []
var_of (Some x) = x.0 ∷ []

abbrev pub reads : Instr → List ℕ
reads (Set x a) = atom_vars a
reads (Arith x k o a b) = atom_vars a ++ atom_vars b
reads (Fit x k a) = atom_vars a
reads (Compare x c a b) = atom_vars a ++ atom_vars b
reads (Load x place) = place_vars place
reads (Store place a) = place_vars place ++ atom_vars a
reads (Api x g as') = atoms_vars as'
reads (Call x f as') = atoms_vars as'
reads (Unset x) = []
reads (Jump to) = []
reads (Branch a this other) = atom_vars a
reads (Return None) = []
reads (Return (Some a)) = atom_vars a
reads Fall = []

abbrev pub writes : Instr → List ℕ
writes (Set x a) = x.0 ∷ []
writes (Arith x k o a b) = x.0 ∷ []
writes (Fit x k a) = x.0 ∷ []
writes (Compare x c a b) = x.0 ∷ []
writes (Load x place) = x.0 ∷ []
writes (Api x g as') = var_of x
writes (Call x f as') = var_of x
writes (Unset x) = x.0 ∷ []
writes i = []

abbrev pub following : ℕ → Instr → List ℕ
following pc (Jump to) = to.0 ∷ []
following pc (Branch a this other) = this.0 ∷ other.0 ∷ []
following pc (Return a) = []
following pc Fall = []
following pc i = (pc + 1) ∷ []

-- ---- what is known

abbrev pub Among : ℕ → List ℕ → Type 0
Among x [] = ⊥
Among x (y ∷ ys) = (x ≡ y) ⊎ Among x ys

abbrev pub IsKnown : ℕ → List ℕ → ℕ → Type 0
IsKnown nl ws x = (x < nl) ⊎ Among x ws

abbrev pub AreKnown : ℕ → List ℕ → List ℕ → Type 0
AreKnown nl ws [] = Unit {0}
AreKnown nl ws (x ∷ xs) = IsKnown nl ws x × AreKnown nl ws xs

-- ---- paths

abbrev pub Each : (ℕ → List ℕ → Type 0) → List ℕ → List ℕ → Type 0
Each next ws [] = Unit {0}
Each next ws (q ∷ qs) = next q ws × Each next ws qs

abbrev pub LineKeeps : (ℕ → List ℕ → Type 0) → ℕ → List ℕ → ℕ → Option Line → Type 0
LineKeeps next nl ws pc None = Unit {0}
LineKeeps next nl ws pc (Some l) =
    AreKnown nl ws (reads l.instr) × Each next (writes l.instr ++ ws) (following pc l.instr)

abbrev pub WritesFirst : List Line → ℕ → ℕ → ℕ → List ℕ → Type 0
WritesFirst code nl zero pc ws = Unit {0}
WritesFirst code nl (suc n) pc ws = LineKeeps (WritesFirst code nl n) nl ws pc (slice_get code pc)

abbrev pub AreDead : List Line → ℕ → ℕ → Type 0
AreDead code nl pc = (n : ℕ) → WritesFirst code nl n pc []
