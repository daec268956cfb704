-- What a called function did to objects, it did to those that stand for them.
--   HasToken s others names u a    an atom holds a token of the same object as the token u of the called function
--   Added                   a scene in which debts have changed, and nothing else
use Rattle.std.proofs.Common.{◌≡◌, ℕ, ◌+◌, ◌<◌, ℤ, pos, ◌+ℤ◌, List, [], ◌∷◌, refl, sym, ap, ◌∙◌, subst, arith, cond}
use Rattle.std.proofs.Common.{Option, Some, None}
use Rattle.std.specs.Prelude.{◌==◌}
use Rattle.std.specs.List.{All}
use Rattle.std.proofs.lemmas.Int.{ints}
use Rattle.std.proofs.lemmas.List.Elements.{All-head, All-tail}
use Rattle.pungi_domain.specs.Vectors.{Vector, dot}
use Rattle.pungi_code.specs.declared.atom.Atom.{Atom}
use Rattle.pungi_shape.specs.declared.holding.Holding.{Holding}
use Rattle.pungi_shape.specs.declared.holding.Holding.TheVariants.{Token}
use Rattle.pungi_shape.specs.declared.shape.Shape.{Shape}
use Rattle.pungi_shape.specs.Scenes.{Scene, holding_of, after_entry}
use Rattle.pungi_shape.specs.Exits.{atom_of, exit_balance, add_form_to, add_one, add_all}
use Rattle.pungi_shape.specs.Described.{Naming}
use Rattle.pungi_shape.proofs.sound.Views.{View}
use Rattle.pungi_shape.proofs.sound.Shows.{IsScene, Shows, IsLiveIn}
use Rattle.pungi_shape.proofs.sound.FormValues.{length_unit, dot_unit}
use Rattle.pungi_shape.proofs.sound.SceneWords.{with_debts}
use Rattle.pungi_shape.proofs.sound.SceneVars.{atom_live}
use Rattle.pungi_shape.proofs.sound.SceneBalances.{debts_show, add_form_scene, add_form_shows}
use Rattle.pungi_shape.proofs.sound.FirstTouches.{atom_same}
use Rattle.pungi_shape.proofs.sound.Sums.{sum_of, given, does_to}

pub record HasToken (s : Scene) (others names : Naming) (u : ℕ) (a : Atom) : Type 0 where
  pub token : ℕ
  pub holds : holding_of s a ≡ Token token
  pub object : names token ≡ others u

pub record Added (ks : List ℕ) (n : ℕ) (names : Naming) (z : Vector) (o : View) (d : ℕ → ℤ) (s r : Scene) : Type 0
  where
    pub width : r.width ≡ s.width
    pub shape : r.shape ≡ s.shape
    pub scene : IsScene ks n r
    pub shows : Shows names z None r (with_debts d o)

module _ (ks : List ℕ) (n : ℕ) (names others : Naming) (z : Vector) (o : View) (w : ℕ) (e : Shape)
    (ps : List (Holding × Atom)) where
  abbrev Done : ℕ → ℕ → ℤ
  Done k u = does_to others z (w + after_entry e) k u

  adds_to : (s : Scene) (d : ℕ → ℤ) (u : ℕ) (h : Holding) (t : ℕ) → IsScene ks n s
      → Shows names z None s (with_debts d o) → h ≡ Token t → IsLiveIn s.balances h → names t ≡ others u
      → w + (after_entry e + u) < s.width
      → Added ks n names z o (λ k. d k +ℤ Done k u) s (add_form_to h (exit_balance w e u s) s)
  adds_to s d u h t is shows at live object within =
      let f = exit_balance w e u s in
      let wide = length_unit s.width (w + (after_entry e + u)) in
      let token = subst (IsLiveIn s.balances) at live in
      let number : dot f z ≡ z ((w + after_entry e) + u) =
      dot_unit s.width (w + (after_entry e + u)) z within ∙ ap z (omega arith)
      in
      subst (λ g. Added ks n names z o (λ k. d k +ℤ Done k u) s (add_form_to g f s)) (sym at) (record {
        width = refl;
        shape = refl;
        scene = add_form_scene ks n s t f is token wide;
        shows = add_form_shows ks n names z None s (with_debts d o) (λ k. d k +ℤ Done k u) t f is shows token wide
            (λ k. ap (λ y. d k +ℤ y) (ap (λ j. cond (j == k) (z ((w + after_entry e) + u)) (pos 0)) (sym object)
            ∙ ap (λ y. cond (names t == k) y (pos 0)) (sym number)));
      })

  adds_one : (s : Scene) (d : ℕ → ℤ) (u : ℕ) (b : Option Atom) → IsScene ks n s
      → Shows names z None s (with_debts d o) → ((a : Atom) → b ≡ Some a → HasToken s others names u a)
      → w + (after_entry e + u) < s.width
      → Added ks n names z o (λ k. d k +ℤ given b (Done k u)) s (add_one b (exit_balance w e u s) s)
  adds_one s d u None is shows tokens within = record {
    width = refl;
    shape = refl;
    scene = is;
    shows = debts_show names z None s (with_debts d o) (λ k. d k +ℤ pos 0) shows (λ k. omega (arith, ints));
  }
  adds_one s d u (Some a) is shows tokens within =
      let t = tokens a refl in
      adds_to s d u (holding_of s a) t.token is shows t.holds (atom_live ks n s a is) t.object within

  pub adds_all : (us : List ℕ) (s : Scene) (d : ℕ → ℤ) → IsScene ks n s → Shows names z None s (with_debts d o)
      → ((u : ℕ) (a : Atom) → atom_of u ps ≡ Some a → HasToken s others names u a)
      → All (λ u. w + (after_entry e + u) < s.width) us
      → Added ks n names z o (λ k. d k +ℤ sum_of (λ u. given (atom_of u ps) (Done k u)) us) s (add_all w e ps us s)
  adds_all [] s d is shows tokens within = record {
    width = refl;
    shape = refl;
    scene = is;
    shows = debts_show names z None s (with_debts d o) (λ k. d k +ℤ pos 0) shows (λ k. omega (arith, ints));
  }
  adds_all (u ∷ us) s d is shows tokens within =
      let P = λ (i : ℕ). w + (after_entry e + i) < s.width in
      let one = adds_one s d u (atom_of u ps) is shows (tokens u) (All-head P u us within) in
      let t = add_one (atom_of u ps) (exit_balance w e u s) s in
      let now = λ (k : ℕ). d k +ℤ given (atom_of u ps) (Done k u) in
      let rest = adds_all us t now one.scene one.shows
      (λ i a at. let h = tokens i a at in record {
        token = h.token;
        holds = atom_same t s (ap (λ q. q.vars) one.shape) (ap (λ q. q.statics) one.shape) a ∙ h.holds;
        object = h.object;
      })
      (subst (λ m. All (λ i. w + (after_entry e + i) < m) us) (sym one.width) (All-tail P u us within)) in
      record {
        width = rest.width ∙ one.width;
        shape = rest.shape ∙ one.shape;
        scene = rest.scene;
        shows = debts_show names z None (add_all w e ps us t)
            (with_debts (λ k. now k +ℤ sum_of (λ i. given (atom_of i ps) (Done k i)) us) o)
            (λ k. d k +ℤ sum_of (λ i. given (atom_of i ps) (Done k i)) (u ∷ us)) rest.shows
            (λ k. omega (arith, ints));
      }
