-- What a copy of an instruction names: its variables are those of a window, and its labels are places of the copy.
--   largest_number           the largest number of a variable, which is a `u32`
--   var_in w n               the variable of this number in the window that begins at w
--   moved_var, moved_result w x     a variable in a window; so is one, where there is one
--   moved_atom, moved_atoms w a     what an instruction takes
--   moved_place w p          a slot that is reached through such a variable
--   label_at n, moved_label to l    the label of this place; a label whose place has moved there
--   moved_instr w to i       an instruction in a window, with such labels
--   line p i                 an instruction for a node at this place of the text
--   moved_line w to l        a line with such an instruction
--   moved_head to h          a loop's head whose place has moved
use Rattle.std.specs.Prelude.{ℕ, ◌+◌, min, List, map, Option}
use Rattle.std.specs.Option.{option_map}
use Rattle.pungi_base.specs.declared.pos.Pos.{Pos}
use Rattle.pungi_code.specs.declared.atom.Atom.{Atom}
use Rattle.pungi_code.specs.declared.atom.Atom.TheVariants as atom
use Rattle.pungi_code.specs.declared.atom.Var.{Var}
use Rattle.pungi_code.specs.declared.code.Head.{Head}
use Rattle.pungi_code.specs.declared.code.Line.{Line}
use Rattle.pungi_code.specs.declared.instr.Instr.{Instr}
use Rattle.pungi_code.specs.declared.instr.Instr.TheVariants.{Set, Arith, Fit, Compare, Load, Store, Api, Call, Unset}
use Rattle.pungi_code.specs.declared.instr.Instr.TheVariants.{Jump, Branch, Return, Fall}
use Rattle.pungi_code.specs.declared.instr.Label.{Label}
use Rattle.pungi_code.specs.declared.place.Place.{Place}
use Rattle.pungi_code.specs.declared.place.Place.TheVariants.{Global, Field}

-- ---- variables

abbrev pub largest_number : ℕ
largest_number = 4294967295

abbrev pub var_in : ℕ → ℕ → Var
var_in w n = record { 0 = min (w + n) largest_number }

abbrev pub moved_var : ℕ → Var → Var
moved_var w x = var_in w x.0

abbrev pub moved_result : ℕ → Option Var → Option Var
moved_result w x = option_map (moved_var w) x

abbrev pub moved_atom : ℕ → Atom → Atom
moved_atom w (atom.Var x) = atom.Var (moved_var w x)
moved_atom w (atom.Int n) = atom.Int n
moved_atom w atom.Null = atom.Null
moved_atom w atom.Text = atom.Text
moved_atom w (atom.Static n) = atom.Static n

abbrev pub moved_atoms : ℕ → List Atom → List Atom
moved_atoms w as' = map (moved_atom w) as'

abbrev pub moved_place : ℕ → Place → Place
moved_place w (Global n k) = Global n k
moved_place w (Field base tag field k) = Field (moved_atom w base) tag field k

-- ---- instructions

abbrev pub label_at : ℕ → Label
label_at n = record { 0 = n }

abbrev pub moved_label : (ℕ → ℕ) → Label → Label
moved_label to l = label_at (to l.0)

abbrev pub moved_instr : ℕ → (ℕ → ℕ) → Instr → Instr
moved_instr w to (Set x a) = Set (moved_var w x) (moved_atom w a)
moved_instr w to (Arith x kind o a b) = Arith (moved_var w x) kind o (moved_atom w a) (moved_atom w b)
moved_instr w to (Fit x kind a) = Fit (moved_var w x) kind (moved_atom w a)
moved_instr w to (Compare x c a b) = Compare (moved_var w x) c (moved_atom w a) (moved_atom w b)
moved_instr w to (Load x p) = Load (moved_var w x) (moved_place w p)
moved_instr w to (Store p a) = Store (moved_place w p) (moved_atom w a)
moved_instr w to (Api x g as') = Api (moved_result w x) g (moved_atoms w as')
moved_instr w to (Call x f as') = Call (moved_result w x) f (moved_atoms w as')
moved_instr w to (Unset x) = Unset (moved_var w x)
moved_instr w to (Jump l) = Jump (moved_label to l)
moved_instr w to (Branch a this other) = Branch (moved_atom w a) (moved_label to this) (moved_label to other)
moved_instr w to (Return a) = Return (option_map (moved_atom w) a)
moved_instr w to Fall = Fall

-- ---- lines

abbrev pub line : Pos → Instr → Line
line p i = record { pos = p; instr = i }

abbrev pub moved_line : ℕ → (ℕ → ℕ) → Line → Line
moved_line w to l = line l.pos (moved_instr w to l.instr)

abbrev pub moved_head : (ℕ → ℕ) → Head → Head
moved_head to h = record { label = moved_label to h.label; pos = h.pos }
