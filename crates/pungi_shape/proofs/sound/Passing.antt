-- A call of a function of the file: its arguments suit the kinds of the parameters, and so the called code's run
-- begins.
use Rattle.std.proofs.Common.{◌≡◌, ℕ, zero, suc, true, ◌&&◌, List, [], ◌∷◌, length, take, refl, sym, subst, Bool}
use Rattle.std.proofs.Common.{Option, Some, None, ◌<◌}
use Rattle.std.specs.Prelude.{nat_le, slice_get}
use Rattle.std.specs.List.{All, IsAmong, list_all}
use Rattle.std.proofs.lemmas.List.Elements.{All-weaker}
use Rattle.pungi_base.specs.declared.value.Value.{Value}
use Rattle.pungi_api.specs.declared.param.Param.{Param}
use Rattle.pungi_api.specs.declared.param.Param.TheVariants as param
use Rattle.pungi_domain.specs.Vectors.{Vector}
use Rattle.pungi_code.specs.declared.atom.Atom.{Atom}
use Rattle.pungi_code.specs.declared.atom.Var.{Var}
use Rattle.pungi_code.specs.declared.code.Code.{Code}
use Rattle.pungi_code.specs.declared.code.Line.{Line}
use Rattle.pungi_code.specs.declared.instr.Instr.TheVariants.{Call}
use Rattle.pungi_code.specs.Frames.{with_params}
use Rattle.pungi_code.specs.Limits.{most_arguments}
use Rattle.pungi_code.specs.Registers.{Regs, all_values}
use Rattle.pungi_code.specs.WellFormed.{is_slot_kind, is_argument, are_arguments, atom_is, fits_call, fits_result}
use Rattle.pungi_shape.specs.Named.{static_in}
use Rattle.pungi_shape.specs.Scenes.{Scene, scene_of}
use Rattle.pungi_shape.specs.Described.{Naming}
use Rattle.pungi_shape.proofs.sound.Views.{View, view_of, suits}
use Rattle.pungi_shape.proofs.sound.Shows.{IsScene, Shows}
use Rattle.pungi_shape.proofs.sound.Flow.{Claim, IsCode}
use Rattle.pungi_shape.proofs.sound.Stands.{Runs}
use Rattle.pungi_shape.proofs.sound.Calling.{AreCalled}
use Rattle.pungi_shape.proofs.sound.Kinds.{AreSuited, atom_suits, static_there}
use Rattle.pungi_shape.proofs.sound.Simple.{sound_at, statics_named}
use Rattle.pungi_shape.proofs.sound.ApiArguments.{no_values, values_are}
use Rattle.pungi_shape.proofs.sound.EntryValues.{suit_values}
use Rattle.pungi_shape.proofs.sound.Entries.{IsBeginning}
use Rattle.pungi_shape.proofs.sound.Members.{first_among, later_among}
use Rattle.pungi_shape.proofs.sound.Tests.{both_true, both_are, no_way}

-- what may be passed for a parameter that a variable holds has its kind
slot_argument : (vars : List Param) (p : Param) (a : Atom) → is_slot_kind p ≡ true → is_argument vars p a ≡ true
    → atom_is vars p a ≡ true
slot_argument vars param.Object a s e = no_way s
slot_argument vars param.ObjectOrNull a s e = e
slot_argument vars param.Int a s e = e
slot_argument vars param.Long a s e = e
slot_argument vars param.Size a s e = e
slot_argument vars param.Text a s e = no_way s
slot_argument vars param.TextOrNull a s e = e
slot_argument vars param.ModuleDef a s e = no_way s

all_of_first : {X : Type 0} (p : X → Bool) (n : ℕ) (xs : List X) → list_all p xs ≡ true → list_all p (take n xs) ≡ true
all_of_first p zero xs e = refl
all_of_first p (suc n) [] e = refl
all_of_first p (suc n) (x ∷ xs) e =
    let both = both_true (p x) (list_all p xs) e in
    both_are (p x) (list_all p (take n xs)) both.0 (all_of_first p n xs both.1)

module _ (code : Code) (ks : List ℕ) (names : Naming) (v : Vector) (s : Scene) (o : View) (suited : AreSuited code o)
    (is : IsScene ks (length code.vars) s) (shows : Shows names v None s o) where
  pub arguments_suit : (kinds : List Param) (as' : List Atom) (vs : List Value) → list_all is_slot_kind kinds ≡ true
      → ((a : Atom) → IsAmong as' a → All (IsAmong ks) (static_in a)) → are_arguments code.vars kinds as' ≡ true
      → all_values as' o.vars ≡ Some vs → suit_values (length o.world.accounts) kinds vs ≡ true
  arguments_suit [] [] vs slots named fit e =
      subst (λ ws. suit_values (length o.world.accounts) [] ws ≡ true) (sym (no_values o.vars vs e)) refl
  arguments_suit [] (a ∷ as') vs slots named fit e = no_way fit
  arguments_suit (k ∷ kinds) [] vs slots named fit e = no_way fit
  arguments_suit (k ∷ kinds) (a ∷ as') vs slots named fit e =
      let n = length o.world.accounts in
      let r = values_are a as' o.vars vs e in
      let slot = both_true (is_slot_kind k) (list_all is_slot_kind kinds) slots in
      let fits = both_true (is_argument code.vars k a) (are_arguments code.vars kinds as') fit in
      subst (λ ws. suit_values n (k ∷ kinds) ws ≡ true) (sym r.all)
      (both_are (suits n k r.first) (suit_values n kinds r.rest)
      (atom_suits code ks (length code.vars) names v None s o suited is shows a k r.first
      (named a (first_among a as')) (slot_argument code.vars k a slot.0 fits.0) r.is_first)
      (arguments_suit kinds as' r.rest slot.1 (λ b h. named b (later_among a as' b h)) fits.1 r.are_rest))

pub call_begins : (code : Code) (ks : List ℕ) (claim : Claim) → IsCode code ks claim → (x : Option Var) (g : ℕ)
    (as' : List Atom) (pc : ℕ) (line : Line) (m : Regs) (vs : List Value) (callee : Code) (names : List ℕ)
    (called : Claim) → slice_get code.instrs pc ≡ Some line → line.instr ≡ Call x g as' → Runs code ks claim pc m
    → all_values as' m.vars ≡ Some vs → AreCalled claim m g vs callee names called
    → ((c : Code) → called.file c → claim.file c) → list_all is_slot_kind callee.vars ≡ true → All (IsAmong ks) names
    → IsBeginning called.file callee names called.origin (with_params callee vs m)
call_begins code ks claim is x g as' pc line m vs callee names called there same runs values so back slots among =
    let i = Call x g as' in
    let n = length code.vars in
    let o = view_of code claim.origin m in
    let s = scene_of runs.shape in
    let kinds = take callee.params callee.vars in
    let fit : fits_call code.vars (Some (kinds, callee.result)) x as' ≡ true =
    subst (λ k. fits_call code.vars k x as' ≡ true) so.kinds (sound_at code ks claim is pc line i there same) in
    let fits = both_true (are_arguments code.vars kinds as') (nat_le (length as') most_arguments)
    (both_true (fits_result code.vars callee.result x) (are_arguments code.vars kinds as'
    && nat_le (length as') most_arguments) fit).1 in
    subst (λ origin. IsBeginning called.file callee names origin (with_params callee vs m)) (sym so.origin) (record {
      vars = refl;
      suit = arguments_suit code ks runs.names runs.vector s o runs.typed.vars runs.stands.scene runs.stands.shows kinds
          as' vs (all_of_first is_slot_kind callee.params callee.vars slots)
          (statics_named code ks claim is pc line i there same) fits.0 values;
      debts = λ k. refl;
      objects = refl;
      slots = λ c in_file. runs.typed.slots c (back c in_file);
      there = runs.typed.there;
      statics = All-weaker (IsAmong ks) (λ k. k < length m.world.accounts)
          (static_there ks n runs.names runs.vector None s o runs.stands.scene runs.stands.shows) names among;
    })
