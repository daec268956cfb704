-- The second part of a call of the API: its answer.
--   IsAnswered      an answer that goes to a variable, if there is one
use Rattle.std.proofs.Common.{◌≡◌, ◌≢◌, ℕ, ◌+◌, ◌<◌, Bool, true, false, cond}
use Rattle.std.proofs.Common.{List, [], length, map, get_or, refl, sym, ap, ◌∙◌, arith}
use Rattle.std.proofs.Common.{Option, Some, None}
use Rattle.std.specs.Prelude.{if◌then◌else◌}
use Rattle.std.specs.List.{All, IsAmong}
use Rattle.pungi_base.specs.declared.value.Value.{Value}
use Rattle.pungi_base.specs.declared.value.Value.TheVariants as value
use Rattle.pungi_api.specs.declared.signature.Signature.{Signature}
use Rattle.pungi_domain.specs.Vectors.{Vector, dot}
use Rattle.pungi_world.specs.declared.content.Content.TheVariants as content
use Rattle.pungi_code.specs.declared.atom.Atom.{Atom}
use Rattle.pungi_code.specs.declared.atom.Var.{Var}
use Rattle.pungi_code.specs.declared.code.Code.{Code}
use Rattle.pungi_code.specs.declared.instr.Instr.{Instr}
use Rattle.pungi_code.specs.declared.instr.Instr.TheVariants.{Api}
use Rattle.pungi_code.specs.Registers.{Regs, put, put_answer}
use Rattle.pungi_shape.specs.declared.holding.Holding.{Holding}
use Rattle.pungi_shape.specs.declared.holding.Holding.TheVariants as held
use Rattle.pungi_shape.specs.declared.shape.Shape.{Shape}
use Rattle.pungi_shape.specs.Forms.{Form}
use Rattle.pungi_shape.specs.Cases.{Case, leads_to, leads}
use Rattle.pungi_shape.specs.Calls.{answer_cases}
use Rattle.pungi_shape.specs.Liveness.{is_among}
use Rattle.pungi_shape.specs.Parts.{gives_value, var_in}
use Rattle.pungi_shape.specs.Scenes.{Scene, scene_of, with_var}
use Rattle.pungi_shape.specs.Shapes.{is_number, width_of}
use Rattle.pungi_shape.specs.Edges.{free_var}
use Rattle.pungi_shape.specs.Described.{Naming}
use Rattle.pungi_shape.proofs.sound.Views.{Origin, view_of, IsObjectSpot}
use Rattle.pungi_shape.proofs.sound.Shows.{IsScene, Shows, IsLiveIn, IsOther, spot_in}
use Rattle.pungi_shape.proofs.sound.Stands.{done_writes}
use Rattle.pungi_shape.proofs.sound.SceneSteps.{with_var_scene, with_var_shows, with_var_dead}
use Rattle.pungi_shape.proofs.sound.Parts.{Chosen, FreesHere}
use Rattle.pungi_shape.proofs.sound.Simple.{no_guard, not_written}
use Rattle.pungi_shape.proofs.sound.ApiArguments.{HeldSo}

abbrev pub freed_by : Bool → Var → Option ℕ
freed_by free t = if free then Some t.0 else None

-- the case in which a variable gets an answer
abbrev pub put_in : Holding → Form → Scene → Bool → ℕ → Var → Case
put_in h f b free pc t =
    record { guard = []; scene = with_var t.0 h f b; freed = freed_by free t; onward = leads_to pc }

pub answer_put : (m : Regs) (x : Option Var) → put_answer x None m ≡ m
answer_put m None = refl
answer_put m (Some t) = refl

module _ (code : Code) (ks : List ℕ) (origin : Origin) (pc k : ℕ) (x : Option Var) (g : Signature) (as' : List Atom)
    (s : Shape) (v : Vector) (m : Regs) (count : length m.vars ≡ length code.vars)
    (in_vars : (t : Var) → x ≡ Some t → t.0 < length code.vars) where
  abbrev S : Scene
  S = scene_of s

  abbrev n : ℕ
  n = length code.vars

  abbrev i : Instr
  i = Api x g as'

  abbrev After : Regs → Type 0
  After r = Chosen code ks i pc 1 k s v (view_of code origin r) (leads_to (pc + 1))

  -- a scene that shows what is held before the variable is written
  pub record IsBase (names : Naming) (b : Scene) : Type 0 where
    pub width : b.width ≡ width_of s
    pub scene : IsScene ks n b
    pub vars : b.shape.vars ≡ s.vars
    pub kinds : All (IsObjectSpot code) (map spot_in b.shape.slots)
    pub shows : Shows names v None b (view_of code origin m)

  pub record IsAnswered (names : Naming) (b : Scene) (h : Holding) (f : Form) (free : Bool) (y : Value) : Type 0 where
    pub base : IsBase names b
    pub width : length f ≡ b.width
    pub live : IsLiveIn b.balances h
    pub so : HeldSo names h y
    pub number : is_number h ≡ true → free ≡ false → content.Holds y ≡ content.Holds (value.Int (dot f v))
    pub without : x ≡ None → IsAmong (answer_cases k g.answer x as' (pc + 1) S) (leads (pc + 1) b)
    pub within : (t : Var) → x ≡ Some t
        → IsAmong (answer_cases k g.answer x as' (pc + 1) S) (put_in h f b free (pc + 1) t)

  -- no answer, or no variable for it
  pub unanswered : (names : Naming) (b : Scene) → IsBase names b
      → IsAmong (answer_cases k g.answer x as' (pc + 1) S) (leads (pc + 1) b)
      → ((y : ℕ) → is_among (done_writes i 1) y ≡ false) → After m
  unanswered names b base there unwritten = record {
    chosen = leads (pc + 1) b;
    names = names;
    is_there = there;
    onward = refl;
    frees = tt;
    guard = no_guard v;
    width = base.width;
    scene = base.scene;
    deads = λ y d. (ap (λ (hs : List Holding). get_or hs y held.Unset) (sym base.vars) ∙ d, unwritten y);
    kinds = base.kinds;
    shows = base.shows;
  }

  written_in : (t : Var) → x ≡ Some t → (y : ℕ) → y ≢ t.0 → is_among (done_writes i 1) y ≡ false
  written_in t e y ne = by (gives_value g.answer)
    where
      by : (b : Bool) → is_among (cond b (var_in x) []) y ≡ false
      by true = ap (λ z. is_among (var_in z) y) e ∙ not_written t.0 y ne
      by false = refl

  frees_by : (t : Var) (free : Bool) → x ≡ Some t → FreesHere i pc 1 (freed_by free t) (leads_to (pc + 1))
  frees_by t true e = (sym (ap (λ z. free_var (Api z g as')) e), refl, refl)
  frees_by t false e = tt

  other_free : (t : Var) (free : Bool) → IsOther (freed_by free t) t.0 → free ≡ false
  other_free t true other = absurd (other refl)
  other_free t false other = refl

  put_shown : (names : Naming) (b : Scene) (h : Holding) (f : Form) (free : Bool) (y : Value) (t : Var) → x ≡ Some t
      → IsAnswered names b h f free y → After (put t (content.Holds y) m)
  put_shown names b h f free y t e is =
      let base = is.base in
      let lt = in_vars t e in
      record {
        chosen = put_in h f b free (pc + 1) t;
        names = names;
        is_there = is.within t e;
        onward = refl;
        frees = frees_by t free e;
        guard = no_guard v;
        width = base.width;
        scene = with_var_scene ks n t.0 h f b base.scene is.width is.live;
        deads = λ z d.
            let both = with_var_dead b t.0 h f z is.so.set (let l = base.scene.vars in omega (arith, l, lt)) d in
            (ap (λ (hs : List Holding). get_or hs z held.Unset) (sym base.vars) ∙ both.0, written_in t e z both.1);
        kinds = base.kinds;
        shows = with_var_shows ks n names v (freed_by free t) b (view_of code origin m) t.0 h f
            (content.Holds y) base.scene base.shows
            count lt is.so.so (λ num other. is.number num (other_free t free other));
      }

  pub answered : (names : Naming) (b : Scene) (h : Holding) (f : Form) (free : Bool) (y : Value)
      → IsAnswered names b h f free y → After (put_answer x (Some y) m)
  answered names b h f free y is = by x refl
    where
      by : (z : Option Var) → x ≡ z → After (put_answer z (Some y) m)
      by None e = unanswered names b is.base (is.without e)
          (λ z. ap (λ ws. is_among ws z) (nothing_written e))
        where
          nothing_written : x ≡ None → done_writes i 1 ≡ []
          nothing_written f = by_value (gives_value g.answer)
            where
              by_value : (c : Bool) → cond c (var_in x) [] ≡ []
              by_value true = ap var_in f
              by_value false = refl
      by (Some t) e = put_shown names b h f free y t e is
