-- The variable of a result gets what a called function returns.
--   view_after x c o        what is held where a variable, if there is one, holds something else
--   PutSo                   a scene in which a variable, if there is one, holds something else
use Rattle.std.proofs.Common.{◌≡◌, ◌≢◌, ℕ, ◌+◌, ◌<◌, ℤ, pos, ◌+ℤ◌, List, length, refl, sym, ap, ◌∙◌, subst, arith, cond}
use Rattle.std.proofs.Common.{true, false, Option, Some, None}
use Rattle.std.specs.Prelude.{slice_set, ◌==◌, ◌||◌}
use Rattle.std.specs.List.{range_with_len}
use Rattle.std.proofs.lemmas.Bool.{false≢true}
use Rattle.std.proofs.lemmas.Int.{ints}
use Rattle.pungi_base.specs.declared.value.Value.{Value}
use Rattle.pungi_base.specs.declared.value.Value.TheVariants as value
use Rattle.pungi_domain.specs.Vectors.{Vector, dot}
use Rattle.pungi_world.specs.declared.content.Content.{Content}
use Rattle.pungi_world.specs.declared.content.Content.TheVariants as content
use Rattle.pungi_code.specs.declared.atom.Atom.{Atom}
use Rattle.pungi_code.specs.declared.atom.Var.{Var}
use Rattle.pungi_shape.specs.declared.holding.Holding.{Holding}
use Rattle.pungi_shape.specs.declared.holding.Holding.TheVariants.{Dead, Unset, Null, Text, Known, Number, Token}
use Rattle.pungi_shape.specs.declared.shape.Shape.{Shape}
use Rattle.pungi_shape.specs.Forms.{Form, unit, zero_form}
use Rattle.pungi_shape.specs.Shapes.{is_number, is_token}
use Rattle.pungi_shape.specs.Parts.{var_in}
use Rattle.pungi_shape.specs.Liveness.{is_among}
use Rattle.pungi_shape.specs.Scenes.{Scene, holding_at, holding_of, after_entry, with_token, new_token}
use Rattle.pungi_shape.specs.Calls.{put_if}
use Rattle.pungi_shape.specs.Exits.{atom_of, exit_balance, put_object, put_result}
use Rattle.pungi_shape.specs.Described.{Naming, HoldsSo}
use Rattle.pungi_shape.proofs.sound.Views.{View}
use Rattle.pungi_shape.proofs.sound.Shows.{IsScene, Shows, IsLiveIn}
use Rattle.pungi_shape.proofs.sound.FormValues.{length_unit, length_zero, dot_unit}
use Rattle.pungi_shape.proofs.sound.SceneWords.{with_contents, with_debts, named}
use Rattle.pungi_shape.proofs.sound.SceneVars.{atom_live, with_var_scene, with_var_shows, with_var_dead}
use Rattle.pungi_shape.proofs.sound.SceneBalances.{debts_show, with_token_scene, with_token_shows, new_token_live}
use Rattle.pungi_shape.proofs.sound.SceneBalances.{named_new}
use Rattle.pungi_shape.proofs.sound.Sums.{sum_of, kept, does_to, no_sum, one_sum}
use Rattle.pungi_shape.proofs.sound.Adds.{HasToken}
use Rattle.pungi_shape.proofs.sound.Tests.{eqb_is, eqb_not, none_some}

abbrev pub view_after : Option Var → Content → View → View
view_after None c o = o
view_after (Some x) c o = with_contents (slice_set o.vars x.0 c) o

abbrev pub IsVarOf : ℕ → Option Var → Type 0
IsVarOf n None = Unit {0}
IsVarOf n (Some x) = x.0 < n

pub record PutSo (ks : List ℕ) (n : ℕ) (z : Vector) (x : Option Var) (o : View) (s r : Scene) : Type 0 where
  pub names : Naming
  pub scene : IsScene ks n r
  pub shows : Shows names z None r o
  pub deads : (y : ℕ) → holding_at r y ≡ Dead → (holding_at s y ≡ Dead) × (is_among (var_in x) y ≡ false)
  pub slots : r.shape.slots ≡ s.shape.slots

module _ (ks : List ℕ) (n : ℕ) (z : Vector) where
  puts_if : (names : Naming) (x : Option Var) (s : Scene) (o : View) (h : Holding) (f : Form) (c : Content)
      → IsScene ks n s → Shows names z None s o → length o.vars ≡ n → IsVarOf n x → length f ≡ s.width
      → IsLiveIn s.balances h → h ≢ Dead → HoldsSo names h c
      → (is_number h ≡ true → c ≡ content.Holds (value.Int (dot f z)))
      → PutSo ks n z x (view_after x c o) s (put_if x h f s)
  puts_if names None s o h f c is shows count in_vars wide live alive holds number = record {
    names = names;
    scene = is;
    shows = shows;
    deads = λ y d. (d, refl);
    slots = refl;
  }
  puts_if names (Some x) s o h f c is shows count in_vars wide live alive holds number = record {
    names = names;
    scene = with_var_scene ks n x.0 h f s is wide live;
    shows = with_var_shows ks n names z None s o x.0 h f c is shows count in_vars holds (λ e other. number e);
    deads = λ y d.
        let both = with_var_dead s x.0 h f y alive (let e = is.vars in omega (arith, in_vars, e)) d in
        (both.0, ap (λ b. b || false) (eqb_not x.0 y (λ e. both.1 (sym e))));
    slots = refl;
  }

  -- ---- the value of the exit class

  module _ (names others : Naming) (o : View) (w m : ℕ) (e : Shape) (ps : List (Holding × Atom)) (x : Option Var)
      (count : length o.vars ≡ n) (in_vars : IsVarOf n x) (s : Scene) (is : IsScene ks n s) (d D : ℕ → ℤ)
      (shows : Shows names z None s (with_debts d o))
      (sums : (k : ℕ) → D k ≡ d k +ℤ sum_of (λ t. kept (atom_of t ps) (does_to others z (w + after_entry e) k t))
      (range_with_len 0 m))
      (tokens : (u : ℕ) (a : Atom) → atom_of u ps ≡ Some a → HasToken s others names u a) where
    some_kept : (b : Option Atom) (y : ℤ) → (b ≡ None → ⊥) → kept b y ≡ pos 0
    some_kept None y none = absurd (none refl)
    some_kept (Some a) y none = refl

    -- nothing is left to add
    level : ((t : ℕ) → t < m → atom_of t ps ≡ None → ⊥) → Shows names z None s (with_debts D o)
    level all = debts_show names z None s (with_debts d o) D shows
        (λ k. let none = no_sum (λ t. kept (atom_of t ps) (does_to others z (w + after_entry e) k t)) m
        (λ t lt. some_kept (atom_of t ps) _ (all t lt)) in let sum = sums k in omega (arith, ints, none, sum))

    pub puts_none : ((y : ℕ) → is_among (var_in x) y ≡ false)
        → ((t : ℕ) → t < m → atom_of t ps ≡ None → is_token t Dead ≡ true)
        → PutSo ks n z x (with_debts D o) s (put_result w e ps x Dead s)
    puts_none unwritten rest = record {
      names = names;
      scene = is;
      shows = level (λ t lt none. false≢true (rest t lt none));
      deads = λ y dead. (dead, unwritten y);
      slots = refl;
    }

    -- what is no object
    puts_plain : (h : Holding) (f : Form) (v : Value) → ((t : ℕ) → t < m → atom_of t ps ≡ None → ⊥)
        → length f ≡ s.width → IsLiveIn s.balances h → h ≢ Dead → HoldsSo names h (content.Holds v)
        → (is_number h ≡ true → content.Holds v ≡ content.Holds (value.Int (dot f z)))
        → PutSo ks n z x (view_after x (content.Holds v) (with_debts D o)) s (put_if x h f s)
    puts_plain h f v all wide live alive holds number =
        puts_if names x s (with_debts D o) h f (content.Holds v) is (level all) count in_vars wide live alive holds
        number

    -- one of the caller's objects
    puts_known : (u : ℕ) (a : Atom) (v : Value) → content.Holds v ≡ content.Holds (value.Object (others u))
        → atom_of u ps ≡ Some a → ((t : ℕ) → t < m → atom_of t ps ≡ None → is_token t (Token u) ≡ true)
        → PutSo ks n z x (view_after x (content.Holds v) (with_debts D o)) s
        (put_if x (holding_of s a) (zero_form s.width) s)
    puts_known u a v is_object at rest =
        let t = tokens u a at in
        let g = t.token in
        puts_plain (holding_of s a) (zero_form s.width) v
        (λ i lt none. none_some a (sym none ∙ ap (λ j. atom_of j ps) (sym (eqb_is u i (rest i lt none))) ∙ at))
        (length_zero s.width) (atom_live ks n s a is) (λ dead. let bad : Token g ≡ Dead = sym t.holds ∙ dead in cc)
        (subst (λ h. HoldsSo names h (content.Holds v)) (sym t.holds)
        (is_object ∙ ap (λ j. content.Holds (value.Object j)) (sym t.object)))
        (λ number. absurd (false≢true (ap is_number (sym t.holds) ∙ number)))

    -- another object
    puts_new : (u : ℕ) (v : Value) → content.Holds v ≡ content.Holds (value.Object (others u))
        → atom_of u ps ≡ None → u < m → others u < length o.world.accounts → w + (after_entry e + u) < s.width
        → ((t : ℕ) → t < m → atom_of t ps ≡ None → is_token t (Token u) ≡ true)
        → PutSo ks n z x (view_after x (content.Holds v) (with_debts D o)) s
        (put_object None (exit_balance w e u s) x s)
    puts_new u v is_object at lt there within rest =
        let f = exit_balance w e u s in
        let wide = length_unit s.width (w + (after_entry e + u)) in
        let i = new_token s in
        let after = named names i (others u) in
        let r = with_token f false s in
        let number : dot f z ≡ z ((w + after_entry e) + u) =
        dot_unit s.width (w + (after_entry e + u)) z within ∙ ap z (omega arith)
        in
        let debts = λ (k : ℕ). sums k ∙ ap (λ y. d k +ℤ y)
        (one_sum (λ t. kept (atom_of t ps) (does_to others z (w + after_entry e) k t)) m u lt
        (λ t less apart. some_kept (atom_of t ps) _ (λ none. apart (sym (eqb_is u t (rest t less none)))))
        ∙ ap (λ b. kept b (does_to others z (w + after_entry e) k u)) at
        ∙ ap (λ y. cond (others u == k) y (pos 0)) (sym number)) in
        let show = with_token_shows ks n names z None s (with_debts d o) D f false (others u) is shows wide there debts
        (λ bad. absurd (false≢true bad)) in
        from_here (puts_if after x r (with_debts D o) (Token i) (zero_form s.width) (content.Holds v)
        (with_token_scene ks n s f false is wide) show count in_vars (length_zero s.width)
        (new_token_live ks n s f false is) (λ dead. cc)
        (is_object ∙ ap (λ j. content.Holds (value.Object j)) (sym (named_new names i (others u))))
        (λ bad. absurd (false≢true bad)))
      where
        -- one more token leaves the variables as they are
        from_here : PutSo ks n z x (view_after x (content.Holds v) (with_debts D o))
            (with_token (exit_balance w e u s) false s) (put_object None (exit_balance w e u s) x s)
            → PutSo ks n z x (view_after x (content.Holds v) (with_debts D o)) s
            (put_object None (exit_balance w e u s) x s)
        from_here put = record {
          names = put.names;
          scene = put.scene;
          shows = put.shows;
          deads = put.deads;
          slots = put.slots;
        }

    puts_object : (u : ℕ) (b : Option Atom) (v : Value) → content.Holds v ≡ content.Holds (value.Object (others u))
        → atom_of u ps ≡ b → u < m → others u < length o.world.accounts → w + (after_entry e + u) < s.width
        → ((t : ℕ) → t < m → atom_of t ps ≡ None → is_token t (Token u) ≡ true)
        → PutSo ks n z x (view_after x (content.Holds v) (with_debts D o)) s (put_object b (exit_balance w e u s) x s)
    puts_object u (Some a) v is_object at lt there within rest = puts_known u a v is_object at rest
    puts_object u None v is_object at lt there within rest = puts_new u v is_object at lt there within rest

    number_put : (v : Value) → content.Holds v ≡ content.Holds (value.Int (z (w + 1))) → w + 1 < s.width
        → content.Holds v ≡ content.Holds (value.Int (dot (unit s.width (w + 1)) z))
    number_put v is_number within = is_number ∙ ap (λ j. content.Holds (value.Int j))
        (sym (dot_unit s.width (w + 1) z within))

    pub puts_result : (h : Holding) (v : Value) → h ≢ Dead → HoldsSo others h (content.Holds v)
        → (is_number h ≡ true → content.Holds v ≡ content.Holds (value.Int (z (w + 1))))
        → (is_number h ≡ true → w + 1 < s.width)
        → ((u : ℕ) → h ≡ Token u → (u < m) × ((others u < length o.world.accounts)
        × (w + (after_entry e + u) < s.width)))
        → ((t : ℕ) → t < m → atom_of t ps ≡ None → is_token t h ≡ true)
        → PutSo ks n z x (view_after x (content.Holds v) (with_debts D o)) s (put_result w e ps x h s)
    puts_result Dead v alive so number within there rest = absurd (alive refl)
    puts_result Unset v alive so number within there rest = absurd cc
    puts_result Null v alive so number within there rest =
        puts_plain Null (zero_form s.width) v (λ t lt none. false≢true (rest t lt none)) (length_zero s.width) tt alive
        so (λ bad. absurd (false≢true bad))
    puts_result Text v alive so number within there rest =
        puts_plain Text (zero_form s.width) v (λ t lt none. false≢true (rest t lt none)) (length_zero s.width) tt alive
        so (λ bad. absurd (false≢true bad))
    puts_result (Known i) v alive so number within there rest =
        puts_plain (Known i) (unit s.width (w + 1)) v (λ t lt none. false≢true (rest t lt none))
        (length_unit s.width (w + 1)) tt alive so (λ e. number_put v (number e) (within e))
    puts_result Number v alive so number within there rest =
        puts_plain Number (unit s.width (w + 1)) v (λ t lt none. false≢true (rest t lt none))
        (length_unit s.width (w + 1)) tt alive so (λ e. number_put v (number e) (within e))
    puts_result (Token u) v alive so number within there rest =
        let t = there u refl in
        puts_object u (atom_of u ps) v so refl t.0 t.1.0 t.1.1 rest
