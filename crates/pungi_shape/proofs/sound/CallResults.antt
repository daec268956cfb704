-- A call where the called function has left: what it did to objects is noted, and what it returned is put.
--   t, exit                 the shape at which the called function returned, its exit class
--   w, y, z                 how many coordinates the caller's vector has, and that of the exit class; both vectors
--   ps                      what stands at the caller for the values at entry and static objects of the exit class
--   whole, joined_scene     the scene over both; where what stands for one object is one token
--   added_scene             this with what the called function did to these objects
--   debts_before, debts_then, debts_added    the debts of the caller before the call and after it; those with what is
--                           noted in this scene
--   count, did k i          how many tokens the exit class has; what was done to an object, by a token
use Rattle.std.proofs.Common.{◌≡◌, ◌≢◌, ℕ, ◌+◌, ◌<◌, ℤ, ◌+ℤ◌, ◌-ℤ◌, Bool, true, false, cond, List, [], ◌∷◌}
use Rattle.std.proofs.Common.{length, refl, sym, ap, ◌∙◌, subst, arith, Option, Some, None}
use Rattle.std.specs.Prelude.{◌&&◌}
use Rattle.std.specs.List.{All, list_all, range_with_len}
use Rattle.std.proofs.lemmas.Int.{ints}
use Rattle.std.proofs.lemmas.List.Elements.{All-weaker}
use Rattle.std.proofs.lemmas.List.FromFn.{length-range_with_len}
use Rattle.pungi_base.specs.declared.value.Value.{Value}
use Rattle.pungi_base.specs.declared.value.Value.TheVariants as value
use Rattle.pungi_domain.specs.Vectors.{Vector, dot}
use Rattle.pungi_world.specs.declared.content.Content.TheVariants as content
use Rattle.pungi_code.specs.declared.atom.Atom.{Atom}
use Rattle.pungi_code.specs.declared.atom.Var.{Var}
use Rattle.pungi_code.specs.declared.code.Code.{Code}
use Rattle.pungi_code.specs.Registers.{Regs}
use Rattle.pungi_shape.specs.declared.holding.Holding.{Holding}
use Rattle.pungi_shape.specs.declared.holding.Holding.TheVariants.{Dead, Token}
use Rattle.pungi_shape.specs.declared.shape.Shape.{Shape}
use Rattle.pungi_shape.specs.Forms.{unit, zero_form, one_if}
use Rattle.pungi_shape.specs.Shapes.{is_number, is_token, tokens_of, width_of, exit_of}
use Rattle.pungi_shape.specs.Parts.{vars_in, var_in}
use Rattle.pungi_shape.specs.Liveness.{is_among}
use Rattle.pungi_shape.specs.Scenes.{Scene, scene_of, holding_of, after_vars, after_entry}
use Rattle.pungi_shape.specs.Cases.{is_set}
use Rattle.pungi_shape.specs.Exits.{arguments_of, atom_of, join_all, add_all, put_result}
use Rattle.pungi_shape.specs.Edges.{both_shapes}
use Rattle.pungi_shape.specs.Described.{Naming, HoldsSo, debt}
use Rattle.pungi_shape.proofs.ExitLemmas.{exit-width, left_tokens, no_numbers}
use Rattle.pungi_shape.proofs.OnceLemmas.{range_below, among_range}
use Rattle.pungi_shape.proofs.sound.Views.{View, Origin, view_of}
use Rattle.pungi_shape.proofs.sound.Shows.{IsScene, Shows, IsLiveIn, total}
use Rattle.pungi_shape.proofs.sound.FormValues.{dot_unit}
use Rattle.pungi_shape.proofs.sound.Flow.{Claim}
use Rattle.pungi_shape.proofs.sound.Leaving.{Left}
use Rattle.pungi_shape.proofs.sound.Calling.{AreCalled}
use Rattle.pungi_shape.proofs.sound.SceneWords.{with_world, with_debts}
use Rattle.pungi_shape.proofs.sound.SceneBalances.{is_in_range}
use Rattle.pungi_shape.proofs.sound.Atoms.{token_of}
use Rattle.pungi_shape.proofs.sound.ApiArguments.{atom_so}
use Rattle.pungi_shape.proofs.sound.Simple.{in_vars}
use Rattle.pungi_shape.proofs.sound.Joins.{StandsSo, atom_stands}
use Rattle.pungi_shape.proofs.sound.Sums.{sum_of, given, kept, does_to, split_sum, total_is}
use Rattle.pungi_shape.proofs.sound.Adds.{HasToken, Added, adds_all}
use Rattle.pungi_shape.proofs.sound.FirstTouches.{atom_same}
use Rattle.pungi_shape.proofs.sound.Unmatched.{unmatched}
use Rattle.pungi_shape.proofs.sound.Puts.{PutSo, view_after, IsVarOf, puts_none, puts_result}
use Rattle.pungi_shape.proofs.sound.CallExits.{IsJoined, beside, is_beside}
use Rattle.pungi_shape.proofs.sound.CallExits.{exit_returned}

-- ---- tests of variables

sets_same : (p q : ℕ → Bool) (xs : List ℕ) → ((i : ℕ) → p i ≡ q i) → list_all p xs ≡ list_all q xs
sets_same p q [] same = refl
sets_same p q (i ∷ xs) same =
    ap (λ b. b && list_all p xs) (same i) ∙ ap (λ b. q i && b) (sets_same p q xs same)

-- an atom that stands for an object of the called function holds a token of it
stood_token : (ks : List ℕ) (n : ℕ) (set : ℕ → Bool) (names others : Naming) (z : Vector) (o : View)
    (ps : List (Holding × Atom)) (r : Scene) → IsScene ks n r → Shows names z None r o
    → ((i : ℕ) → is_set r i ≡ set i) → All (StandsSo ks set others o.vars) ps → (u : ℕ) (a : Atom)
    → atom_of u ps ≡ Some a → HasToken r others names u a
stood_token ks n set names others z o ps r is shows same stand u a at =
    let it = atom_stands ks set others o.vars u ps a stand at in
    let so = atom_so ks n names z r o is shows a (value.Object (others u)) it.named
    (sets_same (is_set r) set (vars_in a) same ∙ it.are_set) it.object in
    let token = token_of names (holding_of r a) (others u) so.set so.so in
    record { token = token.0; holds = token.1.0; object = token.1.1 }

-- ---- sums

less_by : (after before origin total given kept : ℤ) → after -ℤ before ≡ total → total ≡ given +ℤ kept
    → after -ℤ origin ≡ ((before -ℤ origin) +ℤ given) +ℤ kept
less_by after before origin total given kept e f = omega (arith, ints, e, f)

module _ (code : Code) (ks : List ℕ) (claim : Claim) (x : Option Var) (g : ℕ) (as' : List Atom) (m n : Regs)
    (vs : List Value) (callee : Code) (names : List ℕ) (called : Claim) (result : Option Value)
    (call : AreCalled claim m g vs callee names called) (left : Left callee names called n result) (s : Shape)
    (own : Naming) (v : Vector) (long : length left.shape.entry ≡ length as') where
  abbrev t : Shape
  t = left.shape

  abbrev exit : Shape
  exit = exit_of t

  abbrev w : ℕ
  w = width_of s

  abbrev y : ℕ
  y = width_of exit

  abbrev z : Vector
  z = beside v w left.vector

  abbrev ps : List (Holding × Atom)
  ps = arguments_of exit as'

  abbrev view_there : View
  view_there = with_world n.world (view_of code claim.origin m)

  abbrev whole : Scene
  whole = both_shapes s exit

  abbrev joined_scene : Scene
  joined_scene = join_all [] ps whole

  abbrev debts_before : ℕ → ℤ
  debts_before k = debt m.world k -ℤ claim.origin.debts k

  abbrev debts_then : ℕ → ℤ
  debts_then k = debt n.world k -ℤ claim.origin.debts k

  abbrev count : ℕ
  count = length t.made

  abbrev did : ℕ → ℕ → ℤ
  did k i = does_to left.names z (w + after_entry exit) k i

  exit_tokens : tokens_of exit ≡ range_with_len 0 count
  exit_tokens = left_tokens t left.left ∙ left.numbered

  exit_fits : after_entry exit + count ≡ y
  exit_fits =
      let e = ap length exit_tokens ∙ length-range_with_len 0 count in
      omega (arith, e)

  exit_entry : after_entry t ≡ after_entry exit
  exit_entry = let e = exit_returned t (no_numbers t.vars left.left.vars) in omega (arith, e)

  second : (i : ℕ) → i < y → z (w + i) ≡ left.vector i
  second = (is_beside v w y left.vector).second

  -- ---- balances are added

  abbrev debts_added : ℕ → ℤ
  debts_added k = debts_before k +ℤ sum_of (λ i. given (atom_of i ps) (did k i)) (tokens_of exit)

  abbrev added_scene : Scene
  added_scene = add_all w exit ps (tokens_of exit) joined_scene

  sums : (k : ℕ) → debts_then k
      ≡ debts_added k +ℤ sum_of (λ i. kept (atom_of i ps) (did k i)) (range_with_len 0 count)
  sums k =
      let wide = exit-width t left.left in
      let all : total left.names (scene_of t).balances left.vector k ≡ sum_of (did k) (range_with_len 0 count) =
      total_is left.names left.vector z k (width_of t) (after_entry t) w count
      (let e = exit_entry in let f = exit_fits in omega (arith, e, f, wide))
      (λ j lt. second j (omega (arith, lt, wide)))
      ∙ ap (λ (a : ℕ). sum_of (does_to left.names z (w + a) k) (range_with_len 0 count)) exit_entry
      in
      let change : debt n.world k -ℤ debt m.world k ≡ total left.names (scene_of t).balances left.vector k =
      ap (λ (r : Origin). debt n.world k -ℤ r.debts k) (sym call.origin) ∙ left.shows.balances k
      in
      let split = split_sum (λ i. atom_of i ps) (did k) (range_with_len 0 count) in
      let own_sum = sum_of (λ i. given (atom_of i ps) (did k i)) (range_with_len 0 count) in
      less_by (debt n.world k) (debt m.world k) (claim.origin.debts k)
      (total left.names (scene_of t).balances left.vector k) own_sum
      (sum_of (λ i. kept (atom_of i ps) (did k i)) (range_with_len 0 count)) change (all ∙ split)
      ∙ ap (λ ts. (debts_before k +ℤ sum_of (λ i. given (atom_of i ps) (did k i)) ts)
      +ℤ sum_of (λ i. kept (atom_of i ps) (did k i)) (range_with_len 0 count)) (sym exit_tokens)

  module _ (j : IsJoined ks (length code.vars) (λ i. is_set (scene_of s) i) own left.names z view_there ps whole
      joined_scene) where
    tokens_there : (u : ℕ) (a : Atom) → atom_of u ps ≡ Some a → HasToken joined_scene left.names own u a
    tokens_there u a at = stood_token ks (length code.vars) (λ i. is_set (scene_of s) i) own left.names z view_there ps
        joined_scene j.joined.scene j.joined.shows j.joined.sets j.stand u a at

    pub added : Added ks (length code.vars) own z view_there debts_added joined_scene added_scene
    added = adds_all ks (length code.vars) own left.names z view_there w exit ps (tokens_of exit) joined_scene
        debts_before j.joined.scene j.joined.shows tokens_there
        (subst (λ k. All (λ i. w + (after_entry exit + i) < k) (tokens_of exit)) (sym j.joined.width)
        (subst (All (λ i. w + (after_entry exit + i) < w + y)) (sym exit_tokens)
        (All-weaker (λ i. i < count) (λ i. w + (after_entry exit + i) < w + y)
        (λ i lt. let e = exit_fits in omega (arith, lt, e)) (range_with_len 0 count)
        (range_below 0 count count (omega arith)))))

    tokens_added : (u : ℕ) (a : Atom) → atom_of u ps ≡ Some a → HasToken added_scene left.names own u a
    tokens_added u a at =
        let it = tokens_there u a at in
        let same_atom = atom_same added_scene joined_scene (ap (λ q. q.vars) added.shape)
        (ap (λ q. q.statics) added.shape) a in
        record { token = it.token; holds = same_atom ∙ it.holds; object = it.object }

    rest_unmatched : (i : ℕ) → i < count → atom_of i ps ≡ None → is_token i t.returned ≡ true
    rest_unmatched i lt none = unmatched i t as' long
        (subst (λ ts. is_among ts i ≡ true) (sym exit_tokens) (among_range 0 count i (omega arith) (omega (arith, lt))))
        none

    wide_added : added_scene.width ≡ w + y
    wide_added = added.width ∙ j.joined.width

    -- ---- the result is put

    token_below : (u : ℕ) → t.returned ≡ Token u → u < count
    token_below u e =
        let live = subst (IsLiveIn (scene_of t).balances) e left.scene.returned_live in
        let lt = is_in_range (scene_of t).balances u live in
        let l = left.scene.balances in
        omega (arith, lt, l)

    returned_worth : (answer : Value) → left.content ≡ content.Holds answer → is_number t.returned ≡ true
        → content.Holds answer ≡ content.Holds (value.Int (z (w + 1)))
    returned_worth answer is number =
        let one : one_if (is_number t.returned) ≡ 1 = ap one_if number in
        let none = no_numbers t.vars left.left.vars in
        let wide = exit-width t left.left in
        let at : after_vars t ≡ 1 = omega (arith, none) in
        let here : dot (cond (is_number t.returned) (unit (width_of t) (after_vars t)) (zero_form (width_of t)))
        left.vector ≡ z (w + 1) =
        ap (λ b. dot (cond b (unit (width_of t) (after_vars t)) (zero_form (width_of t))) left.vector) number
        ∙ dot_unit (width_of t) (after_vars t) left.vector (omega (arith, at, one)) ∙ ap left.vector at
        ∙ sym (second 1 (omega (arith, one)))
        in
        sym is ∙ left.shows.returned_number number ∙ ap (λ k. content.Holds (value.Int k)) here

    pub puts_value : (answer : Value) → left.content ≡ content.Holds answer → t.returned ≢ Dead
        → length m.vars ≡ length code.vars → IsVarOf (length code.vars) x
        → PutSo ks (length code.vars) z x (view_after x (content.Holds answer) (with_debts debts_then view_there))
        added_scene (put_result w exit ps x t.returned added_scene)
    puts_value answer is alive vars_count in_vars =
        puts_result ks (length code.vars) z own left.names view_there w count exit ps x vars_count in_vars added_scene
        added.scene debts_added debts_then added.shows sums tokens_added t.returned answer alive
        (subst (HoldsSo left.names t.returned) is left.shows.returned) (returned_worth answer is)
        (λ number. let one : one_if (is_number t.returned) ≡ 1 = ap one_if number in let wide = wide_added in
        omega (arith, one, wide))
        (λ u e. let lt = token_below u e in let f = exit_fits in let wide = wide_added in (
          lt,
          (
            left.shows.objects u (subst (IsLiveIn (scene_of t).balances) e left.scene.returned_live),
            omega (arith, lt, f, wide),
          ),
        ))
        rest_unmatched

    pub puts_nothing : t.returned ≡ Dead → ((i : ℕ) → is_among (var_in x) i ≡ false)
        → length m.vars ≡ length code.vars → IsVarOf (length code.vars) x
        → PutSo ks (length code.vars) z x (with_debts debts_then view_there) added_scene
        (put_result w exit ps x t.returned added_scene)
    puts_nothing none unwritten vars_count in_vars =
        subst (λ h. PutSo ks (length code.vars) z x (with_debts debts_then view_there) added_scene
        (put_result w exit ps x h added_scene)) (sym none)
        (puts_none ks (length code.vars) z own left.names view_there w count exit ps x vars_count in_vars added_scene
        added.scene debts_added debts_then added.shows sums tokens_added unwritten
        (λ i lt e. subst (λ h. is_token i h ≡ true) none (rest_unmatched i lt e)))
