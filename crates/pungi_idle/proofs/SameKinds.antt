-- An instruction is as sound among kinds of variables as among others, where they are the same at the variables that it
-- names.
use Rattle.std.proofs.Common.{◌≡◌, ℕ, Bool, true, false, ◌&&◌, ◌||◌, List, [], ◌∷◌, length, Option, Some, None}
use Rattle.std.proofs.Common.{refl, ap, ap₂, ◌∙◌}
use Rattle.std.specs.Prelude.{nat_lt, get_or, if◌then◌else◌}
use Rattle.std.specs.List.{list_any}
use Rattle.pungi_api.specs.declared.param.Param.{Param}
use Rattle.pungi_api.specs.declared.param.Param.TheVariants as param
use Rattle.pungi_api.specs.declared.signature.Signature.{Signature}
use Rattle.pungi_code.specs.declared.atom.Atom.{Atom}
use Rattle.pungi_code.specs.declared.atom.Atom.TheVariants as atom
use Rattle.pungi_code.specs.declared.atom.Var.{Var}
use Rattle.pungi_code.specs.declared.code.Code.{Code}
use Rattle.pungi_code.specs.declared.instr.Instr.{Instr}
use Rattle.pungi_code.specs.declared.instr.Instr.TheVariants.{Set, Arith, Fit, Compare, Load, Store, Api, Call, Unset}
use Rattle.pungi_code.specs.declared.instr.Instr.TheVariants.{Jump, Branch, Return, Fall}
use Rattle.pungi_code.specs.declared.place.Place.{Place}
use Rattle.pungi_code.specs.declared.place.Place.TheVariants.{Global, Field}
use Rattle.pungi_code.specs.WellFormed.{var_kind, is_integer, is_wide, atom_is, is_number, is_condition, are_alike}
use Rattle.pungi_code.specs.WellFormed.{is_order, counts_in, is_place, place_kind, is_argument, are_arguments}
use Rattle.pungi_code.specs.WellFormed.{returned_param, is_answer, is_sound}
use Rattle.pungi_code.specs.WellFormed as formed
use Rattle.pungi_idle.specs.Named.{is_var, atom_names, result_names, place_names, names}
use Rattle.pungi_idle.proofs.Naming.{or_left, or_right, same_number}

two : (a b c d : Bool) → a ≡ b → c ≡ d → (a && c) ≡ (b && d)
two a b c d e f = ap₂ (λ (x y : Bool). x && y) e f

one_of : (a b c d : Bool) → a ≡ b → c ≡ d → (a || c) ≡ (b || d)
one_of a b c d e f = ap₂ (λ (x y : Bool). x || y) e f

module _ (N : ℕ → Type 0) (ks vs : List Param) (long : length ks ≡ length vs)
    (at : (x : ℕ) → N x → get_or ks x param.ModuleDef ≡ get_or vs x param.ModuleDef) where
  there : (y : Var) → formed.is_var ks y ≡ formed.is_var vs y
  there y = ap (λ (n : ℕ). nat_lt y.0 n) long

  kind_same : (y : Var) → ((x : ℕ) → is_var x y ≡ true → N x) → var_kind ks y ≡ var_kind vs y
  kind_same y named = at y.0 (named y.0 (same_number y.0))

  atom_same : (k : Param) (a : Atom) → ((x : ℕ) → atom_names x a ≡ true → N x) → atom_is ks k a ≡ atom_is vs k a
  atom_same k (atom.Var y) named =
      two (formed.is_var ks y) (formed.is_var vs y) _ _ (there y)
      (ap (λ (j : Param). is_wide j k) (kind_same y named))
  atom_same k (atom.Int n) named = refl
  atom_same k atom.Null named = refl
  atom_same k atom.Text named = refl
  atom_same k (atom.Static n) named = refl

  condition_same : (a : Atom) → ((x : ℕ) → atom_names x a ≡ true → N x) → is_condition ks a ≡ is_condition vs a
  condition_same a named =
      one_of (is_number ks a) (is_number vs a) _ _ (atom_same param.Long a named)
      (one_of (atom_is ks param.ObjectOrNull a) (atom_is vs param.ObjectOrNull a) _ _
      (atom_same param.ObjectOrNull a named) (atom_same param.TextOrNull a named))

  pair_same : (k : Param) (a b : Atom) → ((x : ℕ) → (atom_names x a || atom_names x b) ≡ true → N x)
      → (atom_is ks k a && atom_is ks k b) ≡ (atom_is vs k a && atom_is vs k b)
  pair_same k a b named =
      two (atom_is ks k a) (atom_is vs k a) _ _
      (atom_same k a (λ x e. named x (or_left (atom_names x a) (atom_names x b) e)))
      (atom_same k b (λ x e. named x (or_right (atom_names x a) (atom_names x b) e)))

  alike_same : (a b : Atom) → ((x : ℕ) → (atom_names x a || atom_names x b) ≡ true → N x)
      → are_alike ks a b ≡ are_alike vs a b
  alike_same a b named =
      one_of (is_number ks a && is_number ks b) (is_number vs a && is_number vs b) _ _ (pair_same param.Long a b named)
      (one_of (atom_is ks param.ObjectOrNull a && atom_is ks param.ObjectOrNull b) _ _ _
      (pair_same param.ObjectOrNull a b named) (pair_same param.TextOrNull a b named))

  compared_same : (o : Bool) (a b : Atom) → ((x : ℕ) → (atom_names x a || atom_names x b) ≡ true → N x)
      → (if o then is_number ks a && is_number ks b else are_alike ks a b)
      ≡ (if o then is_number vs a && is_number vs b else are_alike vs a b)
  compared_same true a b named = pair_same param.Long a b named
  compared_same false a b named = alike_same a b named

  place_same : (place : Place) (k : Param) → ((x : ℕ) → place_names x place ≡ true → N x)
      → is_place ks place k ≡ is_place vs place k
  place_same (Global n l) k named = refl
  place_same (Field base tag field l) k named =
      two (atom_is ks param.ObjectOrNull base) (atom_is vs param.ObjectOrNull base) _ _
      (atom_same param.ObjectOrNull base named) refl

  argument_same : (p : Param) (a : Atom) → ((x : ℕ) → atom_names x a ≡ true → N x)
      → is_argument ks p a ≡ is_argument vs p a
  argument_same param.Object a named = atom_same param.ObjectOrNull a named
  argument_same param.ObjectOrNull a named = atom_same param.ObjectOrNull a named
  argument_same param.Int a named = atom_same param.Int a named
  argument_same param.Long a named = atom_same param.Long a named
  argument_same param.Size a named = atom_same param.Size a named
  argument_same param.Text a named = atom_same param.TextOrNull a named
  argument_same param.TextOrNull a named = atom_same param.TextOrNull a named
  argument_same param.ModuleDef a named = atom_same param.TextOrNull a named

  arguments_same : (ps : List Param) (as' : List Atom) → ((x : ℕ) → list_any (atom_names x) as' ≡ true → N x)
      → are_arguments ks ps as' ≡ are_arguments vs ps as'
  arguments_same [] [] named = refl
  arguments_same [] (a ∷ as') named = refl
  arguments_same (p ∷ ps) [] named = refl
  arguments_same (p ∷ ps) (a ∷ as') named =
      two (is_argument ks p a) (is_argument vs p a) _ _
      (argument_same p a (λ x e. named x (or_left (atom_names x a) (list_any (atom_names x) as') e)))
      (arguments_same ps as' (λ x e. named x (or_right (atom_names x a) (list_any (atom_names x) as') e)))

  written_same : (k : Param) (y : Var) → ((x : ℕ) → is_var x y ≡ true → N x)
      → (formed.is_var ks y && is_wide k (var_kind ks y)) ≡ (formed.is_var vs y && is_wide k (var_kind vs y))
  written_same k y named =
      two (formed.is_var ks y) (formed.is_var vs y) _ _ (there y) (ap (λ (j : Param). is_wide k j) (kind_same y named))

  answer_same : (g : Signature) (y : Option Var) → ((x : ℕ) → result_names x y ≡ true → N x)
      → is_answer ks g y ≡ is_answer vs g y
  answer_same g None named = refl
  answer_same g (Some y) named = written_same (returned_param g.answer) y named

-- ---- instructions

abbrev with_vars : Code → List Param → Code
with_vars c ks = record c { vars = ks }

pub sound_same : (N : ℕ → Type 0) (c : Code) (ks : List Param) → length ks ≡ length c.vars
    → ((x : ℕ) → N x → get_or ks x param.ModuleDef ≡ get_or c.vars x param.ModuleDef)
    → (i : Instr) → ((x : ℕ) → names x i ≡ true → N x) → is_sound (with_vars c ks) i ≡ is_sound c i
sound_same N c ks long at (Set y a) named =
    let kind = kind_same N ks c.vars long at y (λ x e. named x (or_left (is_var x y) (atom_names x a) e)) in
    two (formed.is_var ks y) (formed.is_var c.vars y) _ _ (there N ks c.vars long at y)
    (atom_same N ks c.vars long at (var_kind ks y) a (λ x e. named x (or_right (is_var x y) (atom_names x a) e))
    ∙ ap (λ (k : Param). atom_is c.vars k a) kind)
sound_same N c ks long at (Arith y kind o a b) named =
    let of = kind_same N ks c.vars long at y
    (λ x e. named x (or_left (is_var x y) (atom_names x a || atom_names x b) e)) in
    two (formed.is_var ks y) (formed.is_var c.vars y) _ _ (there N ks c.vars long at y)
    (two (counts_in kind (var_kind ks y)) _ _ _ (ap (λ (k : Param). counts_in kind k) of)
    (pair_same N ks c.vars long at param.Long a b
    (λ x e. named x (or_right (is_var x y) (atom_names x a || atom_names x b) e))))
sound_same N c ks long at (Fit y kind a) named =
    let of = kind_same N ks c.vars long at y (λ x e. named x (or_left (is_var x y) (atom_names x a) e)) in
    two (formed.is_var ks y) (formed.is_var c.vars y) _ _ (there N ks c.vars long at y)
    (two (counts_in kind (var_kind ks y)) _ _ _ (ap (λ (k : Param). counts_in kind k) of)
    (atom_same N ks c.vars long at param.Long a (λ x e. named x (or_right (is_var x y) (atom_names x a) e))))
sound_same N c ks long at (Compare y o a b) named =
    let of = kind_same N ks c.vars long at y
    (λ x e. named x (or_left (is_var x y) (atom_names x a || atom_names x b) e)) in
    two (formed.is_var ks y) (formed.is_var c.vars y) _ _ (there N ks c.vars long at y)
    (two (is_integer (var_kind ks y)) _ _ _ (ap is_integer of)
    (compared_same N ks c.vars long at (is_order o) a b
    (λ x e. named x (or_right (is_var x y) (atom_names x a || atom_names x b) e))))
sound_same N c ks long at (Load y place) named =
    let of = kind_same N ks c.vars long at y (λ x e. named x (or_left (is_var x y) (place_names x place) e)) in
    two (formed.is_var ks y) (formed.is_var c.vars y) _ _ (there N ks c.vars long at y)
    (two (is_place ks place (place_kind place)) _ _ _
    (place_same N ks c.vars long at place (place_kind place)
    (λ x e. named x (or_right (is_var x y) (place_names x place) e)))
    (ap (λ (k : Param). is_wide (place_kind place) k) of))
sound_same N c ks long at (Store place a) named =
    two (is_place ks place (place_kind place)) _ _ _
    (place_same N ks c.vars long at place (place_kind place)
    (λ x e. named x (or_left (place_names x place) (atom_names x a) e)))
    (atom_same N ks c.vars long at (place_kind place) a
    (λ x e. named x (or_right (place_names x place) (atom_names x a) e)))
sound_same N c ks long at (Api y g as') named =
    two (is_answer ks g y) _ _ _
    (answer_same N ks c.vars long at g y (λ x e. named x (or_left (result_names x y)
    (list_any (atom_names x) as') e)))
    (two (are_arguments ks g.params as') _ _ _
    (arguments_same N ks c.vars long at g.params as' (λ x e. named x (or_right (result_names x y)
    (list_any (atom_names x) as') e))) refl)
sound_same N c ks long at (Call y f as') named = refl
sound_same N c ks long at (Unset y) named = there N ks c.vars long at y
sound_same N c ks long at (Jump to) named = refl
sound_same N c ks long at (Branch a this other) named =
    two (is_condition ks a) _ _ _ (condition_same N ks c.vars long at a named) refl
sound_same N c ks long at (Return None) named = refl
sound_same N c ks long at (Return (Some a)) named = condition_same N ks c.vars long at a named
sound_same N c ks long at Fall named = refl
