-- Which variables the instructions of a code name: those that they take, and those that they write.
--   is_var x y                a variable has this number
--   atom_names, result_names, place_names x    so has one that is taken, one that is written, and the base of a place
--   names x i                 an instruction names the variable of this number
--   is_named ls x             so does one of these
use Rattle.std.specs.Prelude.{ℕ, ◌==◌, Bool, false, ◌||◌, List, Option, Some, None}
use Rattle.std.specs.List.{list_any}
use Rattle.pungi_code.specs.declared.atom.Atom.{Atom}
use Rattle.pungi_code.specs.declared.atom.Atom.TheVariants as atom
use Rattle.pungi_code.specs.declared.atom.Var.{Var}
use Rattle.pungi_code.specs.declared.code.Line.{Line}
use Rattle.pungi_code.specs.declared.instr.Instr.{Instr}
use Rattle.pungi_code.specs.declared.instr.Instr.TheVariants.{Set, Arith, Fit, Compare, Load, Store, Api, Call, Unset}
use Rattle.pungi_code.specs.declared.instr.Instr.TheVariants.{Jump, Branch, Return, Fall}
use Rattle.pungi_code.specs.declared.place.Place.{Place}
use Rattle.pungi_code.specs.declared.place.Place.TheVariants.{Global, Field}

abbrev pub is_var : ℕ → Var → Bool
is_var x y = y.0 == x

abbrev pub atom_names : ℕ → Atom → Bool
atom_names x (atom.Var y) = is_var x y
atom_names x (atom.Int n) = false
atom_names x atom.Null = false
atom_names x atom.Text = false
atom_names x (atom.Static k) = false

abbrev pub result_names : ℕ → Option Var → Bool
result_names x None = false
result_names x (Some y) = is_var x y

abbrev pub place_names : ℕ → Place → Bool
place_names x (Global n kind) = false
place_names x (Field base tag field kind) = atom_names x base

abbrev pub names : ℕ → Instr → Bool
names x (Set y a) = is_var x y || atom_names x a
names x (Arith y kind o a b) = is_var x y || (atom_names x a || atom_names x b)
names x (Fit y kind a) = is_var x y || atom_names x a
names x (Compare y c a b) = is_var x y || (atom_names x a || atom_names x b)
names x (Load y place) = is_var x y || place_names x place
names x (Store place a) = place_names x place || atom_names x a
names x (Api y g as') = result_names x y || list_any (atom_names x) as'
names x (Call y f as') = result_names x y || list_any (atom_names x) as'
names x (Unset y) = is_var x y
names x (Jump to) = false
names x (Branch a this other) = atom_names x a
names x (Return None) = false
names x (Return (Some a)) = atom_names x a
names x Fall = false

abbrev pub is_named : List Line → ℕ → Bool
is_named ls x = list_any (λ l. names x l.instr) ls
