-- The answer of a call of the API, by its outcome.
use Rattle.std.proofs.Common.{◌≡◌, ℕ, ◌+◌, ◌<◌, ℤ, pos, ◌+ℤ◌, ◌-ℤ◌, Bool, true, false, cond}
use Rattle.std.proofs.Common.{List, [], ◌∷◌, length, map, refl, sym, ap, ◌∙◌, subst, arith}
use Rattle.std.proofs.Common.{Option, Some, None}
use Rattle.std.specs.Prelude.{◌==◌}
use Rattle.std.specs.List.{All, IsAmong}
use Rattle.std.proofs.lemmas.Int.{ints}
use Rattle.std.proofs.lemmas.Bool.{false≢true}
use Rattle.pungi_base.specs.declared.pos.Pos.{Pos}
use Rattle.pungi_base.specs.declared.value.Value.{Value}
use Rattle.pungi_base.specs.declared.value.Value.TheVariants as value
use Rattle.pungi_api.specs.declared.answer.Answer.{Answer}
use Rattle.pungi_api.specs.declared.answer.Answer.TheVariants as answer
use Rattle.pungi_api.specs.declared.call_answer.CallAnswer.TheVariants.{Of, Argument}
use Rattle.pungi_api.specs.declared.signature.Signature.{Signature}
use Rattle.pungi_domain.specs.Vectors.{Vector, dot}
use Rattle.pungi_world.specs.Calls.{first_of}
use Rattle.pungi_world.specs.Escapes.{is_this_object}
use Rattle.pungi_world.specs.declared.content.Content.{Content}
use Rattle.pungi_world.specs.declared.content.Content.TheVariants as content
use Rattle.pungi_base.specs.declared.names.Name.{Name}
use Rattle.pungi_world.specs.declared.slot.Slot.{Slot}
use Rattle.pungi_world.specs.declared.slot.Slot.TheVariants as slots
use Rattle.pungi_world.specs.Slots.{place_of}
use Rattle.pungi_world.specs.World.{account_of}
use Rattle.pungi_world.specs.declared.world.World.{World}
use Rattle.pungi_code.specs.declared.atom.Atom.{Atom}
use Rattle.pungi_code.specs.declared.atom.Var.{Var}
use Rattle.pungi_code.specs.declared.code.Code.{Code}
use Rattle.pungi_code.specs.declared.instr.Instr.TheVariants.{Api}
use Rattle.pungi_code.specs.Registers.{Regs, put_answer, all_values}
use Rattle.pungi_shape.specs.declared.holding.Holding.{Holding}
use Rattle.pungi_shape.specs.declared.holding.Holding.TheVariants as held
use Rattle.pungi_shape.specs.declared.shape.Shape.{Shape}
use Rattle.pungi_shape.specs.declared.tracked.Spot.TheVariants.{Field}
use Rattle.pungi_shape.specs.Forms.{Form, zero_form, constant}
use Rattle.pungi_shape.specs.Cases.{Case, leads_to, leads, are_set}
use Rattle.pungi_shape.specs.Calls.{Outcome, nothing, null, object, text, known, number, outcome_case, argument_case}
use Rattle.pungi_shape.specs.Calls.{answer_cases, new_balance, makes}
use Rattle.pungi_shape.specs.Liveness.{is_among}
use Rattle.pungi_shape.specs.Named.{static_in}
use Rattle.pungi_shape.specs.Parts.{gives_value, var_in, first_var}
use Rattle.pungi_shape.specs.Scenes.{Scene, scene_of, holding_of, form_of, with_token, new_token}
use Rattle.pungi_shape.specs.Shapes.{is_number, width_of}
use Rattle.pungi_shape.specs.Edges.{point_of}
use Rattle.pungi_shape.specs.Described.{Naming, SlotHoldsSo, slot_named, debt}
use Rattle.pungi_shape.proofs.sound.Views.{view_of, holds_objects, SlotsThere}
use Rattle.pungi_shape.proofs.sound.Shows.{Marks, Shows, IsLiveIn, spot_in}
use Rattle.pungi_shape.proofs.sound.Marks.{IsNewest, marks_world, same_reaches}
use Rattle.pungi_shape.proofs.sound.FormValues.{length_zero, length_constant, dot_constant}
use Rattle.pungi_shape.proofs.sound.Flow.{Claim}
use Rattle.pungi_shape.proofs.sound.Stands.{StandsAs}
use Rattle.pungi_shape.proofs.sound.SceneSteps.{named, with_debts, with_token_scene, with_token_shows, new_token_live}
use Rattle.pungi_shape.proofs.sound.SceneSteps.{atom_number, atom_width, atom_live}
use Rattle.pungi_shape.proofs.sound.Parts.{Chosen, grows_shows}
use Rattle.pungi_shape.proofs.sound.ApiArguments.{HeldSo, atom_so, values_are, no_values}
use Rattle.pungi_shape.proofs.sound.ApiAnswers.{IsBase, answered, unanswered, answer_put, put_in}
use Rattle.pungi_shape.proofs.sound.Accesses.{moved}
use Rattle.pungi_shape.proofs.sound.worlds.Debts.{part}
use Rattle.pungi_shape.proofs.sound.worlds.Values.{Keeps}
use Rattle.pungi_shape.proofs.sound.worlds.Places.{found, found_same, found_some}
use Rattle.pungi_shape.proofs.sound.worlds.SlotKinds.{there_at}
use Rattle.pungi_shape.proofs.sound.worlds.Calls.{given_by}
use Rattle.pungi_shape.proofs.sound.worlds.Outcomes.{IsOutcome}
use Rattle.pungi_shape.proofs.sound.Members.{first_among, among_mapped, of_all}
use Rattle.pungi_shape.proofs.sound.Tests.{eqb_self}

-- ---- new references

given_none : (a : Answer) (x : Value) (k : ℕ) → is_this_object x k ≡ false → given_by (Of a) (Some x) k ≡ pos 0
given_none answer.New x k e = ap (λ b. part b (pos 1)) e
given_none answer.Borrowed x k e = refl
given_none answer.BorrowedSure x k e = refl
given_none answer.Status x k e = refl
given_none answer.Truth x k e = refl
given_none answer.Size x k e = refl
given_none answer.Int x k e = refl
given_none answer.Long x k e = refl
given_none answer.Text x k e = refl
given_none answer.Void x k e = refl
given_none answer.Null x k e = refl
given_none answer.Found x k e = refl
given_none (answer.Converted failures least most) x k e = refl
given_none answer.AnySize x k e = refl
given_none answer.Flag x k e = refl
given_none answer.TextSure x k e = refl
given_none answer.Made x k e = ap (λ b. part b (pos 1)) e

given_nothing : (a : Answer) (k : ℕ) → given_by (Of a) None k ≡ pos 0
given_nothing answer.New k = refl
given_nothing answer.Made k = refl
given_nothing a k = refl

none_either : (b : Bool) → pos 0 ≡ cond b (pos 0) (pos 0)
none_either true = refl
none_either false = refl

given_new : (a : Answer) (o k : ℕ) → given_by (Of a) (Some (value.Object o)) k
    ≡ cond (o == k) (new_balance (Of a)) (pos 0)
given_new answer.New o k = refl
given_new answer.Borrowed o k = none_either (o == k)
given_new answer.BorrowedSure o k = none_either (o == k)
given_new answer.Status o k = none_either (o == k)
given_new answer.Truth o k = none_either (o == k)
given_new answer.Size o k = none_either (o == k)
given_new answer.Int o k = none_either (o == k)
given_new answer.Long o k = none_either (o == k)
given_new answer.Text o k = none_either (o == k)
given_new answer.Void o k = none_either (o == k)
given_new answer.Null o k = none_either (o == k)
given_new answer.Found o k = none_either (o == k)
given_new (answer.Converted failures least most) o k = none_either (o == k)
given_new answer.AnySize o k = none_either (o == k)
given_new answer.Flag o k = none_either (o == k)
given_new answer.TextSure o k = none_either (o == k)
given_new answer.Made o k = refl

not_more : (d e f : ℤ) → d ≡ e +ℤ f → f ≡ pos 0 → d ≡ e
not_more d e f i j = omega (arith, ints, i, j)

module _ (code : Code) (ks : List ℕ) (claim : Claim) (pc k : ℕ) (x : Option Var) (g : Signature) (as' : List Atom)
    (s : Shape) (names : Naming) (v : Vector) (m : Regs) (w : World) (us : List Pos)
    (d : ℕ → ℤ) (stands : StandsAs code ks claim (point_of pc 1 k) s names v
    (with_debts d (view_of code claim.origin m)))
    (keeps : Keeps m.world w) (r : Option Value)
    (debts : (o : ℕ) → debt w o -ℤ claim.origin.debts o ≡ d o +ℤ given_by g.answer r o)
    (count : length m.vars ≡ length code.vars) (in_vars : (t : Var) → x ≡ Some t → t.0 < length code.vars)
    (there : SlotsThere m.world) where
  abbrev S : Scene
  S = scene_of s

  abbrev n : ℕ
  n = length code.vars

  abbrev zero : Form
  zero = zero_form (width_of s)

  -- debts since the entry
  abbrev owed : ℕ → ℤ
  owed o = debt w o -ℤ claim.origin.debts o

  abbrev N : Regs
  N = moved m w us

  abbrev After : Regs → Type 0
  After q = Chosen code ks (Api x g as') pc 1 k s v (view_of code claim.origin q) (leads_to (pc + 1))

  abbrev Base : Naming → Scene → Type 0
  Base ns b = IsBase code ks claim.origin pc k x g as' s v N count in_vars ns b

  abbrev cases : List Case
  cases = answer_cases k g.answer x as' (pc + 1) S

  stays : (q : Slot) (c : Content) → found m.world q ≡ Some c → found w q ≡ Some c
  stays q c e = found_same w m.world q keeps.slots ∙ e

  marks : Marks names S.balances s.made (map spot_in s.slots) w (holds_objects code)
  marks = marks_world names S.balances s.made (map spot_in s.slots) m.world w (holds_objects code) keeps.made
      (same_reaches m.world w keeps.slots) stands.shows.marks

  -- the world after the call, and the debts before its answer
  grown : Shows names v None S (with_debts d (view_of code claim.origin N))
  grown = grows_shows names v None S (with_debts d (view_of code claim.origin m)) w d stands.shows stays keeps.accounts
      (λ o. refl)
      (holds_objects code) marks

  same_base : ((o : ℕ) → given_by g.answer r o ≡ pos 0) → Base names S
  same_base none = record {
    width = refl;
    scene = stands.scene;
    vars = refl;
    kinds = stands.kinds;
    shows = grows_shows names v None S (with_debts d (view_of code claim.origin m)) w owed stands.shows stays
        keeps.accounts
        (λ o. not_more (owed o) (d o) (given_by g.answer r o) (debts o) (none o)) (holds_objects code) marks;
  }

  there_by : (c e : Case) → cases ≡ c ∷ [] → c ≡ e → IsAmong cases e
  there_by c e is same = subst (λ cs. IsAmong cs e) (sym (is ∙ ap (λ z. z ∷ []) same)) (first_among e [])

  -- an answer that is no object
  plain : (h : Holding) (f : Form) (free : Bool) (y : Value) (c : Case) → r ≡ Some y
      → ((o : ℕ) → given_by g.answer r o ≡ pos 0) → cases ≡ c ∷ [] → length f ≡ width_of s → IsLiveIn S.balances h
      → HeldSo names h y
      → (is_number h ≡ true → free ≡ false → content.Holds y ≡ content.Holds (value.Int (dot f v)))
      → (x ≡ None → c ≡ leads (pc + 1) S) → ((t : Var) → x ≡ Some t → c ≡ put_in h f S free (pc + 1) t)
      → After (put_answer x r N)
  plain h f free y c is_y none is wide live so num without within =
      subst (λ z. After (put_answer x z N)) (sym is_y)
      (answered code ks claim.origin pc k x g as' s v N count in_vars names S h f free y (record {
        base = same_base none;
        width = wide;
        live = live;
        so = so;
        number = num;
        without = λ e. there_by c (leads (pc + 1) S) is (without e);
        within = λ t e. there_by c (put_in h f S free (pc + 1) t) is (within t e);
      }))

  -- ---- rows

  module _ (a : Answer) (is_a : g.answer ≡ Of a) (written : r ≡ None → gives_value (Of a) ≡ false) where
    none_of : (y : Value) → r ≡ Some y → ((o : ℕ) → is_this_object y o ≡ false) → (o : ℕ)
        → given_by g.answer r o ≡ pos 0
    none_of y e other o = ap (λ z. given_by z r o) is_a ∙ ap (λ z. given_by (Of a) z o) e ∙ given_none a y o (other o)

    abbrev Is : Outcome → Type 0
    Is o = cases ≡ outcome_case o (Of a) x (pc + 1) S ∷ []

    of_nothing : Is nothing → r ≡ None → After (put_answer x r N)
    of_nothing is e =
        let none = λ (o : ℕ). ap (λ z. given_by z r o) is_a ∙ ap (λ z. given_by (Of a) z o) e ∙ given_nothing a o in
        let silent : gives_value g.answer ≡ false = ap gives_value is_a ∙ written e in
        subst After (sym (ap (λ z. put_answer x z N) e ∙ answer_put N x))
        (unanswered code ks claim.origin pc k x g as' s v N count in_vars names S (same_base none)
        (there_by (leads (pc + 1) S) (leads (pc + 1) S) is refl)
        (λ y. ap (λ b. is_among (cond b (var_in x) []) y) silent))

    of_null : Is null → r ≡ Some value.Null → After (put_answer x r N)
    of_null is e =
        let c = λ (z : Option Var). outcome_case null (Of a) z (pc + 1) S in
        plain held.Null zero false value.Null (c x) e (none_of value.Null e (λ o. refl)) is
        (length_zero (width_of s)) tt
        (record { set = λ d. cc; so = refl }) (λ num f. absurd (false≢true num)) (λ f. ap c f) (λ t f. ap c f)

    of_text : Is text → r ≡ Some value.Text → After (put_answer x r N)
    of_text is e =
        let c = λ (z : Option Var). outcome_case text (Of a) z (pc + 1) S in
        plain held.Text zero false value.Text (c x) e (none_of value.Text e (λ o. refl)) is
        (length_zero (width_of s)) tt
        (record { set = λ d. cc; so = refl }) (λ num f. absurd (false≢true num)) (λ f. ap c f) (λ t f. ap c f)

    of_known : (j : ℤ) → Is (known j) → r ≡ Some (value.Int j) → After (put_answer x r N)
    of_known j is e =
        let c = λ (z : Option Var). outcome_case (known j) (Of a) z (pc + 1) S in
        plain (held.Known j) (constant (width_of s) j) false (value.Int j) (c x) e
        (none_of (value.Int j) e (λ o. refl)) is (length_constant (width_of s) j) tt
        (record { set = λ d. cc; so = refl })
        (λ num f. ap (λ z. content.Holds (value.Int z)) (sym (dot_constant (width_of s) j v stands.scene.wide
        stands.shows.leading))) (λ f. ap c f) (λ t f. ap c f)

    of_number : (j : ℤ) → Is number → r ≡ Some (value.Int j) → After (put_answer x r N)
    of_number j is e =
        let c = λ (z : Option Var). outcome_case number (Of a) z (pc + 1) S in
        plain held.Number zero true (value.Int j) (c x) e (none_of (value.Int j) e (λ o. refl)) is
        (length_zero (width_of s)) tt (record { set = λ d. cc; so = (j, refl) })
        (λ num f. absurd (false≢true (sym f))) (λ f. ap c f) (λ t f. ap c f)

    -- an object that was just made is none that was there
    newest : (o : ℕ) → o ≡ length m.world.accounts → (account_of w o).made ≡ true
        → IsNewest names S.balances (map spot_in s.slots) w o
    newest o next made = record {
      marked = made;
      others = λ t live same.
          let lt = stands.shows.objects t live in
          absurd (omega (arith, lt, same, next));
      bases = λ u tag field at same.
          let h = base_there u tag field at in
          absurd (omega (arith, h, same, next));
      untouched = λ tag field i at.
          let h : o < length m.world.accounts = there_at m.world (slots.Field o tag field) i there
          (ap (λ l. place_of l (slots.Field o tag field)) (sym keeps.slots) ∙ at) in
          absurd (omega (arith, h, next));
    }
      where
        base_there : (u : ℕ) (tag field : Name) → IsAmong (map spot_in s.slots) (Field u tag field)
            → names u < length m.world.accounts
        base_there u tag field at =
            let q = among_mapped spot_in s.slots (Field u tag field) at in
            let holds = of_all (SlotHoldsSo names m.world) s.slots q.0 stands.shows.slots q.1.0 in
            let f = found_some m.world (slot_named names q.0.spot) holds.0 holds.1 in
            there_at m.world (slots.Field (names u) tag field) f.0 there
            (ap (λ p. place_of m.world.slots (slot_named names p)) q.1.1 ∙ f.1)

    -- an object gets a token of its own
    of_object : (o : ℕ) → o < length w.accounts
        → (makes (Of a) ≡ true → (o ≡ length m.world.accounts) × ((account_of w o).made ≡ true)) → Is object
        → r ≡ Some (value.Object o) → After (put_answer x r N)
    of_object o lt new is e =
        let c = λ (z : Option Var). outcome_case object (Of a) z (pc + 1) S in
        let t = new_token S in
        let nb = new_balance (Of a) in
        let f = constant (width_of s) nb in
        let T = with_token f (makes (Of a)) S in
        let ns = named names t o in
        let wide = length_constant (width_of s) nb in
        let value_is = dot_constant (width_of s) nb v stands.scene.wide stands.shows.leading in
        let given = λ (j : ℕ). ap (λ z. given_by z r j) is_a ∙ ap (λ z. given_by (Of a) z j) e ∙ given_new a o j
        ∙ ap (λ z. cond (o == j) z (pos 0)) (sym value_is) in
        let shows = with_token_shows ks n names v None S (with_debts d (view_of code claim.origin N))
        owed f (makes (Of a)) o stands.scene grown wide lt
        (λ j. debts j ∙ ap (λ z. d j +ℤ z) (given j)) (λ b. newest o (new b).0 (new b).1) in
        let base : Base ns T = record {
          width = refl;
          scene = with_token_scene ks n S f (makes (Of a)) stands.scene wide;
          vars = refl;
          kinds = stands.kinds;
          shows = shows;
        } in
        let is_o : ns t ≡ o = ap (λ b. cond b o (names t)) (eqb_self t) in
        subst (λ z. After (put_answer x z N)) (sym e)
        (answered code ks claim.origin pc k x g as' s v N count in_vars ns T (held.Token t) zero false (value.Object o)
        (record {
          base = base;
          width = length_zero (width_of s);
          live = new_token_live ks n S f (makes (Of a)) stands.scene;
          so = record { set = λ dead. cc; so = ap (λ z. content.Holds (value.Object z)) (sym is_o) };
          number = λ num free. absurd (false≢true num);
          without = λ h. there_by (c x) (leads (pc + 1) T) is (ap c h);
          within = λ y h. there_by (c x) (put_in (held.Token t) zero T false (pc + 1) y) is (ap c h);
        }))

    pub row_answered : (size : ℕ) (o : Outcome) → Is o → IsOutcome size o r
        → ((j : ℕ) → r ≡ Some (value.Object j) → j < length w.accounts)
        → (makes (Of a) ≡ true → (j : ℕ) → r ≡ Some (value.Object j)
        → (j ≡ length m.world.accounts) × ((account_of w j).made ≡ true)) → After (put_answer x r N)
    row_answered size nothing is e below new = of_nothing is e
    row_answered size null is e below new = of_null is e
    row_answered size object is e below new = of_object e.0 (below e.0 e.1.1) (λ b. new b e.0 e.1.1) is e.1.1
    row_answered size text is e below new = of_text is e
    row_answered size (known j) is e below new = of_known j is e
    row_answered size number is e below new = of_number e.0 is e.1

  -- ---- an argument is returned

  given_argument : g.answer ≡ Argument → (o : ℕ) → given_by g.answer r o ≡ pos 0
  given_argument is o = ap (λ z. given_by z r o) is

  pub argument_answered : g.answer ≡ Argument → (xs : List Value) → all_values as' m.vars ≡ Some xs
      → ((a : Atom) → IsAmong as' a → All (IsAmong ks) (static_in a)) → are_set S (first_var as') ≡ true
      → r ≡ Some (first_of xs) → After (put_answer x r N)
  argument_answered is xs values named set e = by as' refl
    where
      by : (bs : List Atom) → as' ≡ bs → After (put_answer x r N)
      by [] f =
          let none : xs ≡ [] = no_values m.vars xs (ap (λ z. all_values z m.vars) (sym f) ∙ values) in
          let c = λ (z : Option Var). argument_case z [] (pc + 1) S in
          let here : cases ≡ c x ∷ [] = ap (λ z. answer_cases k z x as' (pc + 1) S) is
          ∙ ap (λ z. argument_case x z (pc + 1) S ∷ []) f in
          plain held.Null zero false value.Null (c x) (e ∙ ap (λ z. Some (first_of z)) none) (given_argument is) here
          (length_zero (width_of s)) tt (record { set = λ d. cc; so = refl }) (λ num g. absurd (false≢true num))
          (λ g. ap c g) (λ t g. ap c g)
      by (a ∷ bs) f =
          let vs = values_are a bs m.vars xs (ap (λ z. all_values z m.vars) (sym f) ∙ values) in
          let y = vs.first in
          let c = λ (z : Option Var). argument_case z (a ∷ bs) (pc + 1) S in
          let here : cases ≡ c x ∷ [] = ap (λ z. answer_cases k z x as' (pc + 1) S) is
          ∙ ap (λ z. argument_case x z (pc + 1) S ∷ []) f in
          let o = with_debts d (view_of code claim.origin m) in
          let so = atom_so ks n names v S o stands.scene stands.shows a y
          (named a (subst (λ z. IsAmong z a) (sym f) (first_among a bs)))
          (subst (λ z. are_set S (first_var z) ≡ true) f set) vs.is_first in
          plain (holding_of S a) (form_of S a) false y (c x) (e ∙ ap (λ z. Some (first_of z)) vs.all)
          (given_argument is)
          here (atom_width ks n S a stands.scene) (atom_live ks n S a stands.scene) so
          (λ num g. sym vs.is_first ∙ atom_number ks n names v S o a stands.scene stands.shows num)
          (λ g. ap c g) (λ t g. ap c g)
