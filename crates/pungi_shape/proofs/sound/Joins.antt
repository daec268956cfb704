-- What stands for one object of a called function becomes one token.
--   StandsSo                an argument or static object stands for what a value at entry or static object of the
--                           called function is
--   StandsFor               an atom is the object of a token of the called function
--   Joined s r              a scene in which some tokens of one object became one
use Rattle.std.proofs.Common.{◌≡◌, ◌≢◌, ℕ, Bool, true, false, cond, List, [], ◌∷◌, ◌++◌, map, refl, sym, ap, ◌∙◌}
use Rattle.std.proofs.Common.{subst, Option, Some, None, eq-eqb}
use Rattle.std.specs.Prelude.{◌==◌}
use Rattle.std.specs.List.{All, IsAmong, list_all}
use Rattle.std.proofs.lemmas.Bool.{false≢true}
use Rattle.std.proofs.lemmas.List.Elements.{All-head, All-tail, All-push}
use Rattle.pungi_base.specs.declared.value.Value.TheVariants as value
use Rattle.pungi_domain.specs.Vectors.{Vector}
use Rattle.pungi_world.specs.declared.content.Content.{Content}
use Rattle.pungi_world.specs.declared.content.Content.TheVariants as content
use Rattle.pungi_code.specs.declared.atom.Atom.{Atom}
use Rattle.pungi_code.specs.Registers.{content_of}
use Rattle.pungi_shape.specs.declared.holding.Holding.{Holding}
use Rattle.pungi_shape.specs.declared.holding.Holding.TheVariants.{Dead, Unset, Null, Text, Known, Number, Token}
use Rattle.pungi_shape.specs.Shapes.{is_token, rename_holding, rename_tracked}
use Rattle.pungi_shape.specs.Scenes.{Scene, holding_at, holding_of, redirect, merge}
use Rattle.pungi_shape.specs.Cases.{holds_something, is_set}
use Rattle.pungi_shape.specs.Exits.{atom_of, join_holdings, join_one, join_with, join_all}
use Rattle.pungi_shape.specs.Named.{static_in}
use Rattle.pungi_shape.specs.Parts.{vars_in}
use Rattle.pungi_shape.specs.Described.{Naming, HoldsSo}
use Rattle.pungi_shape.proofs.sound.Views.{View}
use Rattle.pungi_shape.proofs.sound.Shows.{IsScene, Shows, IsLive, IsLiveIn}
use Rattle.pungi_shape.proofs.sound.Renames.{get_map, dead_before}
use Rattle.pungi_shape.proofs.sound.SceneVars.{atom_holds, atom_live}
use Rattle.pungi_shape.proofs.sound.SceneMerges.{merge_scene, merge_shows}
use Rattle.pungi_shape.proofs.sound.Tests.{none_some, eqb_is}
use Rattle.pungi_shape.specs.declared.holding.Holding.TheVariants as held

-- ---- one object

pub object_is : (a b : ℕ) → content.Holds (value.Object a) ≡ content.Holds (value.Object b) → a ≡ b
object_is a b e = cc

pub same_object : (names : Naming) (h k : Holding) (c : Content) (t u : ℕ) → HoldsSo names h c → HoldsSo names k c
    → h ≡ Token t → k ≡ Token u → names t ≡ names u
same_object names h k c t u p q e f =
    let here = subst (λ j. HoldsSo names j c) e p in
    let there = subst (λ j. HoldsSo names j c) f q in
    object_is (names t) (names u) (sym here ∙ there)

pub is_the_token : (u : ℕ) (h : Holding) → is_token u h ≡ true → h ≡ Token u
is_the_token u (Token t) e = ap held.Token (eqb_is t u e)
is_the_token u Dead e = absurd (false≢true e)
is_the_token u Unset e = absurd (false≢true e)
is_the_token u Null e = absurd (false≢true e)
is_the_token u Text e = absurd (false≢true e)
is_the_token u (Known n) e = absurd (false≢true e)
is_the_token u Number e = absurd (false≢true e)

-- ---- what stands for what

pub record StandsSo (ks : List ℕ) (set : ℕ → Bool) (others : Naming) (vars : List Content) (p : Holding × Atom)
    : Type 0 where
  pub so : HoldsSo others p.0 (content_of p.1 vars)
  pub named : All (IsAmong ks) (static_in p.1)
  pub are_set : list_all set (vars_in p.1) ≡ true

pub record StandsFor (ks : List ℕ) (set : ℕ → Bool) (others : Naming) (vars : List Content) (u : ℕ) (b : Atom)
    : Type 0 where
  pub object : content_of b vars ≡ content.Holds (value.Object (others u))
  pub named : All (IsAmong ks) (static_in b)
  pub are_set : list_all set (vars_in b) ≡ true

first_stands : (ks : List ℕ) (set : ℕ → Bool) (others : Naming) (vars : List Content) (u : ℕ) (p : Holding × Atom)
    (b : Atom) → StandsSo ks set others vars p → is_token u p.0 ≡ true → p.1 ≡ b → StandsFor ks set others vars u b
first_stands ks set others vars u p b is e f =
    subst (StandsFor ks set others vars u) f (record {
      object = subst (λ h. HoldsSo others h (content_of p.1 vars)) (is_the_token u p.0 e) is.so;
      named = is.named;
      are_set = is.are_set;
    })

some_atom : (a b : Atom) → Some a ≡ Some b → a ≡ b
some_atom a b e = cc

pub atom_stands : (ks : List ℕ) (set : ℕ → Bool) (others : Naming) (vars : List Content) (u : ℕ)
    (ps : List (Holding × Atom)) (b : Atom) → All (StandsSo ks set others vars) ps → atom_of u ps ≡ Some b
    → StandsFor ks set others vars u b
atom_stands ks set others vars u [] b all e = absurd (none_some b e)
atom_stands ks set others vars u (p ∷ ps) b all e =
    by (is_token u p.0) refl e (atom_stands ks set others vars u ps b (All-tail (StandsSo ks set others vars) p ps all))
  where
    by : (c : Bool) → is_token u p.0 ≡ c → cond c (Some p.1) (atom_of u ps) ≡ Some b
        → (atom_of u ps ≡ Some b → StandsFor ks set others vars u b) → StandsFor ks set others vars u b
    by true is f rest = first_stands ks set others vars u p b (All-head (StandsSo ks set others vars) p ps all) is
        (some_atom p.1 b f)
    by false is f rest = rest f

-- ---- merges

set_renamed : (g : ℕ → ℕ) (h : Holding) → holds_something (rename_holding g h) ≡ holds_something h
set_renamed g Dead = refl
set_renamed g Unset = refl
set_renamed g Null = refl
set_renamed g Text = refl
set_renamed g (Known n) = refl
set_renamed g Number = refl
set_renamed g (Token t) = refl

pub record Joined (ks : List ℕ) (n : ℕ) (names : Naming) (z : Vector) (o : View) (s r : Scene) : Type 0 where
  pub width : r.width ≡ s.width
  pub scene : IsScene ks n r
  pub shows : Shows names z None r o
  pub sets : (x : ℕ) → is_set r x ≡ is_set s x
  pub deads : (x : ℕ) → holding_at r x ≡ Dead → holding_at s x ≡ Dead
  pub slots : r.shape.slots ≡ []

module _ (ks : List ℕ) (n : ℕ) (names : Naming) (z : Vector) (o : View) where
  unjoined : (s : Scene) → IsScene ks n s → Shows names z None s o → s.shape.slots ≡ [] → Joined ks n names z o s s
  unjoined s is shows none =
      record { width = refl; scene = is; shows = shows; sets = λ x. refl; deads = λ x d. d; slots = none }

  merged : (s : Scene) (t u : ℕ) (b : Bool) → IsScene ks n s → Shows names z None s o → s.shape.slots ≡ []
      → IsLive s.balances t → IsLive s.balances u → names t ≡ names u → (t == u) ≡ b
      → Joined ks n names z o s (cond b s (merge t u s))
  merged s t u true is shows none live_t live_u same e = unjoined s is shows none
  merged s t u false is shows none live_t live_u same e =
      let g = redirect t u in
      let ne : t ≢ u = λ f. false≢true (sym e ∙ eq-eqb t u f) in
      record {
        width = refl;
        scene = merge_scene ks n s t u is live_t live_u ne;
        shows = merge_shows ks n names z None s o t u is shows live_t live_u ne same;
        sets = λ x. ap holds_something (get_map (rename_holding g) s.shape.vars x Unset) ∙ set_renamed g _;
        deads = λ x d. dead_before g _ (sym (get_map (rename_holding g) s.shape.vars x Unset) ∙ d);
        slots = ap (map (rename_tracked g)) none;
      }

  joins_tokens : (s : Scene) (t : ℕ) (k : Holding) → IsScene ks n s → Shows names z None s o → s.shape.slots ≡ []
      → IsLive s.balances t → IsLiveIn s.balances k → ((u : ℕ) → k ≡ Token u → names t ≡ names u)
      → Joined ks n names z o s (join_holdings (Token t) k s)
  joins_tokens s t (Token u) is shows none live_t live_u same =
      merged s t u (t == u) is shows none live_t live_u (same u refl) refl
  joins_tokens s t Dead is shows none live_t live_u same = unjoined s is shows none
  joins_tokens s t Unset is shows none live_t live_u same = unjoined s is shows none
  joins_tokens s t Null is shows none live_t live_u same = unjoined s is shows none
  joins_tokens s t Text is shows none live_t live_u same = unjoined s is shows none
  joins_tokens s t (Known i) is shows none live_t live_u same = unjoined s is shows none
  joins_tokens s t Number is shows none live_t live_u same = unjoined s is shows none

  joins_holdings : (s : Scene) (h k : Holding) → IsScene ks n s → Shows names z None s o → s.shape.slots ≡ []
      → IsLiveIn s.balances h → IsLiveIn s.balances k → ((t u : ℕ) → h ≡ Token t → k ≡ Token u → names t ≡ names u)
      → Joined ks n names z o s (join_holdings h k s)
  joins_holdings s (Token t) k is shows none live_h live_k same =
      joins_tokens s t k is shows none live_h live_k (λ u e. same t u refl e)
  joins_holdings s Dead k is shows none live_h live_k same = unjoined s is shows none
  joins_holdings s Unset k is shows none live_h live_k same = unjoined s is shows none
  joins_holdings s Null k is shows none live_h live_k same = unjoined s is shows none
  joins_holdings s Text k is shows none live_h live_k same = unjoined s is shows none
  joins_holdings s (Known i) k is shows none live_h live_k same = unjoined s is shows none
  joins_holdings s Number k is shows none live_h live_k same = unjoined s is shows none

  -- ---- all that stand for one object

  joins_one : (set : ℕ → Bool) (others : Naming) (s : Scene) (u : ℕ) (b : Option Atom) (a : Atom) → IsScene ks n s
      → Shows names z None s o → s.shape.slots ≡ [] → ((c : Atom) → b ≡ Some c → StandsFor ks set others o.vars u c)
      → StandsFor ks set others o.vars u a → Joined ks n names z o s (join_one b a s)
  joins_one set others s u None a is shows none first this = unjoined s is shows none
  joins_one set others s u (Some b) a is shows none first this =
      let that = first b refl in
      let c = content.Holds (value.Object (others u)) in
      joins_holdings s (holding_of s b) (holding_of s a) is shows none (atom_live ks n s b is) (atom_live ks n s a is)
      (λ t w e f. same_object names (holding_of s b) (holding_of s a) c t w
      (subst (HoldsSo names (holding_of s b)) that.object (atom_holds ks n names z s o b is shows that.named))
      (subst (HoldsSo names (holding_of s a)) this.object (atom_holds ks n names z s o a is shows this.named)) e f)

  joins_with : (set : ℕ → Bool) (others : Naming) (before : List (Holding × Atom)) (s : Scene) (h : Holding)
      (a : Atom) → IsScene ks n s → Shows names z None s o → s.shape.slots ≡ []
      → All (StandsSo ks set others o.vars) before
      → HoldsSo others h (content_of a o.vars) → All (IsAmong ks) (static_in a) → list_all set (vars_in a) ≡ true
      → Joined ks n names z o s (join_with before h a s)
  joins_with set others before s (Token u) a is shows none all so named all_set =
      joins_one set others s u (atom_of u before) a is shows none
      (λ c e. atom_stands ks set others o.vars u before c all e)
      (record { object = so; named = named; are_set = all_set })
  joins_with set others before s Dead a is shows none all so named all_set = unjoined s is shows none
  joins_with set others before s Unset a is shows none all so named all_set = unjoined s is shows none
  joins_with set others before s Null a is shows none all so named all_set = unjoined s is shows none
  joins_with set others before s Text a is shows none all so named all_set = unjoined s is shows none
  joins_with set others before s (Known i) a is shows none all so named all_set = unjoined s is shows none
  joins_with set others before s Number a is shows none all so named all_set = unjoined s is shows none

  pub joins_all : (set : ℕ → Bool) (others : Naming) (before ps : List (Holding × Atom)) (s : Scene) → IsScene ks n s
      → Shows names z None s o → s.shape.slots ≡ [] → All (StandsSo ks set others o.vars) before
      → All (StandsSo ks set others o.vars) ps → Joined ks n names z o s (join_all before ps s)
  joins_all set others before [] s is shows none first all = unjoined s is shows none
  joins_all set others before (p ∷ ps) s is shows none first all =
      let P = StandsSo ks set others o.vars in
      let here = All-head P p ps all in
      let one = joins_with set others before s p.0 p.1 is shows none first here.so here.named here.are_set in
      let rest = joins_all set others (before ++ p ∷ []) ps (join_with before p.0 p.1 s) one.scene one.shows one.slots
      (All-push P before p first here) (All-tail P p ps all) in
      record {
        width = rest.width ∙ one.width;
        scene = rest.scene;
        shows = rest.shows;
        sets = λ x. rest.sets x ∙ one.sets x;
        deads = λ x d. one.deads x (rest.deads x d);
        slots = rest.slots;
      }
