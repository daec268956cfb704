-- A well-formed instruction takes what is of the kinds that it needs.
use Rattle.std.proofs.Common.{◌≡◌, ℕ, ◌≤◌, ◌&&◌, true, List, Option, Some, None, length, refl}
use Rattle.std.specs.Prelude.{nat_le, if◌then◌else◌}
use Rattle.std.specs.List.{list_all}
use Rattle.pungi_api.specs.declared.param.Param.TheVariants as param
use Rattle.pungi_api.specs.Signatures.{is_signature}
use Rattle.pungi_world.specs.declared.content.Content.{Content}
use Rattle.pungi_code.specs.declared.atom.Atom.{Atom}
use Rattle.pungi_code.specs.declared.atom.Var.{Var}
use Rattle.pungi_code.specs.declared.code.Code.{Code}
use Rattle.pungi_code.specs.declared.instr.Instr.{Instr}
use Rattle.pungi_code.specs.declared.instr.Instr.TheVariants.{Set, Arith, Fit, Compare, Load, Store, Api, Call, Unset}
use Rattle.pungi_code.specs.declared.instr.Instr.TheVariants.{Jump, Branch, Return, Fall}
use Rattle.pungi_code.specs.Limits.{most_arguments}
use Rattle.pungi_code.specs.WellFormed.{CallKinds, are_alike, are_arguments, atom_is, atoms_in, atoms_of}
use Rattle.pungi_code.specs.WellFormed.{counts_in, fits_call, fits_result, is_answer, is_condition, is_integer}
use Rattle.pungi_code.specs.WellFormed.{is_label, is_number, is_order, is_place, is_sound_among, is_there, is_var}
use Rattle.pungi_code.specs.WellFormed.{is_wide, place_kind, returns_well, var_kind}
use Rattle.pungi_layout.proofs.well_formed.Both.{and_true, and_left, and_right}
use Rattle.pungi_kinds.specs.Contents.{contents_hold}
use Rattle.pungi_kinds.specs.Taken.{atom_holds, base_holds, passed_hold, takes_kinds}
use Rattle.pungi_kinds.proofs.AtomLemmas.{arguments_held, atom_held, compare_held, condition_held, place_held}
use Rattle.pungi_kinds.proofs.AtomLemmas.{returned_held, two_held}

module _ (callees : ℕ → CallKinds) (code : Code) (statics n : ℕ) (there : statics ≤ n) (cs : List Content)
    (held : contents_hold n code.vars cs ≡ true) where
  passed : (k : CallKinds) (x : Option Var) (as' : List Atom) → fits_call code.vars k x as' ≡ true
      → list_all (is_there statics) as' ≡ true → passed_hold n cs k as' ≡ true
  passed None x as' h t = absurd (cc)
  passed (Some k) x as' h t =
      let few = nat_le (length as') most_arguments in
      arguments_held statics n there code.vars cs held k.0 as' (and_left (are_arguments code.vars k.0 as') few
      (and_right (fits_result code.vars k.1 x) (are_arguments code.vars k.0 as' && few) h)) t

  pub takes : (i : Instr) → is_sound_among callees code i ≡ true → list_all (is_there statics) (atoms_of i) ≡ true
      → returns_well code i ≡ true → takes_kinds callees code n cs i ≡ true
  takes (Set x a) h t r =
      atom_held statics n there code.vars cs held (var_kind code.vars x) a
      (and_right (is_var code.vars x) (atom_is code.vars (var_kind code.vars x) a) h)
      (and_left (is_there statics a) true t)
  takes (Arith x kind o a b) h t r =
      let numbers = is_number code.vars a && is_number code.vars b in
      two_held statics n there code.vars cs held param.Long a b
      (and_right (counts_in kind (var_kind code.vars x)) numbers
      (and_right (is_var code.vars x) (counts_in kind (var_kind code.vars x) && numbers) h))
      (and_left (is_there statics a) (is_there statics b && true) t)
      (and_left (is_there statics b) true (and_right (is_there statics a) (is_there statics b && true) t))
  takes (Fit x kind a) h t r =
      atom_held statics n there code.vars cs held param.Long a
      (and_right (counts_in kind (var_kind code.vars x)) (is_number code.vars a)
      (and_right (is_var code.vars x) (counts_in kind (var_kind code.vars x) && is_number code.vars a) h))
      (and_left (is_there statics a) true t)
  takes (Compare x c a b) h t r =
      let two = if is_order c then is_number code.vars a && is_number code.vars b else are_alike code.vars a b in
      compare_held statics n there code.vars cs held c a b
      (and_right (is_integer (var_kind code.vars x)) two
      (and_right (is_var code.vars x) (is_integer (var_kind code.vars x) && two) h))
      (and_left (is_there statics a) (is_there statics b && true) t)
      (and_left (is_there statics b) true (and_right (is_there statics a) (is_there statics b && true) t))
  takes (Load x place) h t r =
      let wide = is_wide (place_kind place) (var_kind code.vars x) in
      place_held statics n there code.vars cs held place (place_kind place)
      (and_left (is_place code.vars place (place_kind place)) wide
      (and_right (is_var code.vars x) (is_place code.vars place (place_kind place) && wide) h)) t
  takes (Store place a) h t r =
      and_true (atom_holds n cs (place_kind place) a) (base_holds n cs place)
      (atom_held statics n there code.vars cs held (place_kind place) a
      (and_right (is_place code.vars place (place_kind place)) (atom_is code.vars (place_kind place) a) h)
      (and_left (is_there statics a) (list_all (is_there statics) (atoms_in place)) t))
      (place_held statics n there code.vars cs held place (place_kind place)
      (and_left (is_place code.vars place (place_kind place)) (atom_is code.vars (place_kind place) a) h)
      (and_right (is_there statics a) (list_all (is_there statics) (atoms_in place)) t))
  takes (Api x g as') h t r =
      let rest = nat_le (length as') most_arguments && is_signature g in
      arguments_held statics n there code.vars cs held g.params as'
      (and_left (are_arguments code.vars g.params as') rest
      (and_right (is_answer code.vars g x) (are_arguments code.vars g.params as' && rest) h)) t
  takes (Call x f as') h t r = passed (callees f) x as' h t
  takes (Branch a this other) h t r =
      condition_held statics n there code.vars cs held a
      (and_left (is_condition code.vars a) (is_label code this && is_label code other) h)
      (and_left (is_there statics a) true t)
  takes (Return a) h t r = returned_held statics n there code.vars cs held code.result a r t
  takes (Unset x) h t r = refl
  takes (Jump to) h t r = refl
  takes Fall h t r = refl
