-- What stands for a token, and scenes where it became one object.
use Rattle.std.proofs.Common.{◌≡◌, ◌≢◌, ◌∙◌, ℕ, ◌+◌, ◌<◌, ◌≤◌, ◌==◌, Bool, true, false, List, [], ◌∷◌, ◌++◌, length}
use Rattle.std.proofs.Common.{get_or, replicate, Option, None, Some, if◌then◌else◌, is_some, refl, sym, ap, subst}
use Rattle.std.proofs.Common.{arith, drop, take}
use Rattle.std.specs.Prelude.{slice_set}
use Rattle.std.proofs.lemmas.List.{at_drop_more, get_or-replicate, get_or-set_other, get_or-set_same, length-replicate}
use Rattle.std.proofs.lemmas.List.{take_more}
use Rattle.std.proofs.Math.ListN.{length-set}
use Rattle.pungi_code.specs.declared.atom.Atom.{Atom}
use Rattle.pungi_shape.specs.declared.holding.Holding.{Holding}
use Rattle.pungi_shape.specs.declared.holding.Holding.TheVariants.{Dead, Unset, Null, Text, Known, Number, Token}
use Rattle.pungi_shape.specs.declared.shape.Shape.{Shape}
use Rattle.pungi_shape.specs.Bounds.{HasWidth, IsHeld, IsScene}
use Rattle.pungi_shape.specs.Exits.{add_all, add_form_to, add_one, atom_of, exit_balance, join_all, join_holdings}
use Rattle.pungi_shape.specs.Exits.{join_one, join_with}
use Rattle.pungi_shape.specs.Forms.{Form}
use Rattle.pungi_shape.specs.Leaving.{AreAtoms, size}
use Rattle.pungi_shape.specs.Limits.{most_coordinates}
use Rattle.pungi_shape.specs.Scenes.{Scene, after_entry, holding_of}
use Rattle.pungi_shape.specs.Shapes.{is_token}
use Rattle.pungi_shape.proofs.FormBounds.{length-unit}
use Rattle.pungi_shape.proofs.TokenLemmas.{holding_of-held}
use Rattle.pungi_shape.proofs.WeightLemmas.{Grows, grows-add, grows-loose, grows-merge, grows-none, grows-then}
use Rattle.pungi_shape.proofs.WeightLemmas.{size-unit}

-- ---- what stands for a token

-- one more stands for a token, unless another one does
abbrev first : Option Atom → Option Atom → Option Atom
first o p = if is_some o then o else p

atom_of_push : (v : ℕ) (ps : List (Holding × Atom)) (h : Holding) (a : Atom)
    → atom_of v (ps ++ (h, a) ∷ []) ≡ first (atom_of v ps) (if is_token v h then Some a else None)
atom_of_push v [] h a = refl
atom_of_push v (p ∷ ps) h a = go (is_token v p.0) refl (atom_of_push v ps h a)
  where
    go : (b : Bool) → is_token v p.0 ≡ b
        → atom_of v (ps ++ (h, a) ∷ []) ≡ first (atom_of v ps) (if is_token v h then Some a else None)
        → atom_of v (p ∷ (ps ++ (h, a) ∷ []))
        ≡ first (atom_of v (p ∷ ps)) (if is_token v h then Some a else None)
    go true e more = rw e refl
    go false e more = rw e more

first_none : (o : Option Atom) → first o None ≡ o
first_none None = refl
first_none (Some a) = refl

pub atoms-none : AreAtoms [] (replicate most_coordinates None)
atoms-none = record {
  count = length-replicate {A = Option Atom} most_coordinates None;
  each = λ u lt. get_or-replicate {A = Option Atom} most_coordinates u None None lt;
}

-- no token, so nothing more stands for one
pub atoms-skip : (ps : List (Holding × Atom)) (h : Holding) (a : Atom) (atoms : List (Option Atom))
    → ((v : ℕ) → is_token v h ≡ false) → AreAtoms ps atoms → AreAtoms (ps ++ (h, a) ∷ []) atoms
atoms-skip ps h a atoms free are = record {
  count = are.count;
  each = λ v lt. (
      let e : (if is_token v h then Some a else None) ≡ None = rw (free v) refl in
      are.each v lt ∙ sym (first_none (atom_of v ps)) ∙ sym (ap (first (atom_of v ps)) e)
      ∙ sym (atom_of_push v ps h a)
      );
}

pub atoms-put : (ps : List (Holding × Atom)) (u : ℕ) (a : Atom) (atoms : List (Option Atom)) → u < most_coordinates
    → AreAtoms ps atoms
    → AreAtoms (ps ++ (Token u, a) ∷ [])
    (if is_some (get_or atoms u None) then atoms else slice_set atoms u (Some a))
atoms-put ps u a atoms lt are = go (get_or atoms u None) refl
  where
    new : Option Atom → List (Option Atom)
    new o = if is_some o then atoms else slice_set atoms u (Some a)

    other : (o : Option Atom) (v : ℕ) → v < most_coordinates → (u == v) ≡ false
        → get_or (new o) v None ≡ atom_of v (ps ++ (Token u, a) ∷ [])
    other o v below e =
        let ne : v ≢ u = λ s. (let f : (u == v) ≡ true = grind (arith, s) in cc) in
        let none : (if is_token v (Token u) then Some a else None) ≡ None = rw e refl in
        stays o ne ∙ are.each v below ∙ sym (first_none (atom_of v ps)) ∙ sym (ap (first (atom_of v ps)) none)
        ∙ sym (atom_of_push v ps (Token u) a)
      where
        stays : (o : Option Atom) → v ≢ u → get_or (new o) v None ≡ get_or atoms v None
        stays (Some b) ne = refl
        stays None ne = get_or-set_other atoms u v (Some a) None ne

    same : (o : Option Atom) (v : ℕ) → get_or atoms u None ≡ o → v ≡ u
        → get_or (new o) v None ≡ atom_of v (ps ++ (Token u, a) ∷ [])
    same o v e s =
        let t : (u == u) ≡ true = grind arith in
        let there : u < length atoms = omega (arith, are.count, lt) in
        let some : (if is_token u (Token u) then Some a else None) ≡ Some a = rw t refl in
        rw s (here o e there ∙ ap (λ p. first p (Some a)) (are.each u lt) ∙ sym (ap (first (atom_of u ps)) some)
        ∙ sym (atom_of_push u ps (Token u) a))
      where
        here : (o : Option Atom) → get_or atoms u None ≡ o → u < length atoms
            → get_or (new o) u None ≡ first (get_or atoms u None) (Some a)
        here (Some b) e there = rw e refl
        here None e there = rw e (get_or-set_same atoms u (Some a) None there)

    go : (o : Option Atom) → get_or atoms u None ≡ o → AreAtoms (ps ++ (Token u, a) ∷ []) (new (get_or atoms u None))
    go o e = record {
      count = long (get_or atoms u None);
      each = λ v below. by v below (u == v) refl;
    }
      where
        long : (p : Option Atom) → length (new p) ≡ most_coordinates
        long (Some b) = are.count
        long None = length-set atoms u (Some a) ∙ are.count

        by : (v : ℕ) → v < most_coordinates → (b : Bool) → (u == v) ≡ b
            → get_or (new (get_or atoms u None)) v None ≡ atom_of v (ps ++ (Token u, a) ∷ [])
        by v below true f = same (get_or atoms u None) v refl (grind (arith, f))
        by v below false f = other (get_or atoms u None) v below f

-- ---- scenes

pub join_holdings-grows : (h k : Holding) (s : Scene) → IsScene s → IsHeld s h → Grows 0 s (join_holdings h k s)
join_holdings-grows (Token t) (Token u) s is held = go (t == u) refl
  where
    go : (b : Bool) → (t == u) ≡ b → Grows 0 s (join_holdings (Token t) (Token u) s)
    go true e = rw e (grows-none s is)
    go false e = rw e (grows-merge t u s is held e)
join_holdings-grows (Token t) Dead s is held = grows-none s is
join_holdings-grows (Token t) Unset s is held = grows-none s is
join_holdings-grows (Token t) Null s is held = grows-none s is
join_holdings-grows (Token t) Text s is held = grows-none s is
join_holdings-grows (Token t) (Known m) s is held = grows-none s is
join_holdings-grows (Token t) Number s is held = grows-none s is
join_holdings-grows Dead k s is held = grows-none s is
join_holdings-grows Unset k s is held = grows-none s is
join_holdings-grows Null k s is held = grows-none s is
join_holdings-grows Text k s is held = grows-none s is
join_holdings-grows (Known m) k s is held = grows-none s is
join_holdings-grows Number k s is held = grows-none s is

pub join_one-grows : (o : Option Atom) (a : Atom) (s : Scene) → IsScene s → Grows 0 s (join_one o a s)
join_one-grows None a s is = grows-none s is
join_one-grows (Some b) a s is = join_holdings-grows (holding_of s b) (holding_of s a) s is (holding_of-held s b is)

pub join_with-grows : (before : List (Holding × Atom)) (h : Holding) (a : Atom) (s : Scene) → IsScene s
    → Grows 0 s (join_with before h a s)
join_with-grows before (Token u) a s is = join_one-grows (atom_of u before) a s is
join_with-grows before Dead a s is = grows-none s is
join_with-grows before Unset a s is = grows-none s is
join_with-grows before Null a s is = grows-none s is
join_with-grows before Text a s is = grows-none s is
join_with-grows before (Known m) a s is = grows-none s is
join_with-grows before Number a s is = grows-none s is

pub join_all-grows : (before ps : List (Holding × Atom)) (s : Scene) → IsScene s → Grows 0 s (join_all before ps s)
join_all-grows before [] s is = grows-none s is
join_all-grows before (p ∷ ps) s is =
    let t = join_with before p.0 p.1 s in
    let g = join_with-grows before p.0 p.1 s is in
    grows-then 0 0 s t (join_all (before ++ p ∷ []) ps t) g (join_all-grows (before ++ p ∷ []) ps t g.scene)

pub add_form_to-grows : (h : Holding) (f : Form) (s : Scene) → IsScene s → HasWidth s.width f → size f ≤ 1
    → Grows 1 s (add_form_to h f s)
add_form_to-grows (Token t) f s is w small = grows-add t f s is w small
add_form_to-grows Dead f s is w small = grows-loose 0 1 s s (omega arith) (grows-none s is)
add_form_to-grows Unset f s is w small = grows-loose 0 1 s s (omega arith) (grows-none s is)
add_form_to-grows Null f s is w small = grows-loose 0 1 s s (omega arith) (grows-none s is)
add_form_to-grows Text f s is w small = grows-loose 0 1 s s (omega arith) (grows-none s is)
add_form_to-grows (Known m) f s is w small = grows-loose 0 1 s s (omega arith) (grows-none s is)
add_form_to-grows Number f s is w small = grows-loose 0 1 s s (omega arith) (grows-none s is)

pub add_one-grows : (o : Option Atom) (f : Form) (s : Scene) → IsScene s → HasWidth s.width f → size f ≤ 1
    → Grows 1 s (add_one o f s)
add_one-grows None f s is w small = grows-loose 0 1 s s (omega arith) (grows-none s is)
add_one-grows (Some a) f s is w small = add_form_to-grows (holding_of s a) f s is w small

pub add_all-grows : (w : ℕ) (e : Shape) (ps : List (Holding × Atom)) (us : List ℕ) (s : Scene) → IsScene s
    → Grows (length us) s (add_all w e ps us s)
add_all-grows w e ps [] s is = grows-none s is
add_all-grows w e ps (u ∷ us) s is =
    let f = exit_balance w e u s in
    let k = w + (after_entry e + u) in
    let t = add_one (atom_of u ps) f s in
    let g = add_one-grows (atom_of u ps) f s is (length-unit s.width k) (size-unit s.width k) in
    grows-loose (1 + length us) (length (u ∷ us)) s (add_all w e ps us t) (omega arith)
    (grows-then 1 (length us) s t (add_all w e ps us t) g (add_all-grows w e ps us t g.scene))

-- nothing is joined, and nothing more stands for a token, where no token is
pub join_with-none : (ps : List (Holding × Atom)) (h : Holding) (a : Atom) (s : Scene) → ((t : ℕ) → h ≢ Token t)
    → s ≡ join_with ps h a s
join_with-none ps (Token u) a s free = absurd (free u refl)
join_with-none ps Dead a s free = refl
join_with-none ps Unset a s free = refl
join_with-none ps Null a s free = refl
join_with-none ps Text a s free = refl
join_with-none ps (Known m) a s free = refl
join_with-none ps Number a s free = refl

pub no_token : (h : Holding) → ((t : ℕ) → h ≢ Token t) → (v : ℕ) → is_token v h ≡ false
no_token (Token u) free v = absurd (free u refl)
no_token Dead free v = refl
no_token Unset free v = refl
no_token Null free v = refl
no_token Text free v = refl
no_token (Known m) free v = refl
no_token Number free v = refl

-- ---- a turn of joining

pub join_turn : (ps : List (Holding × Atom)) (i : ℕ) (d : Holding × Atom) (s t all : Scene) → i < length ps
    → t ≡ join_with (take i ps) (get_or ps i d).0 (get_or ps i d).1 s → join_all (take i ps) (drop i ps) s ≡ all
    → join_all (take (i + 1) ps) (drop (i + 1) ps) t ≡ all
join_turn ps i d s t all lt e rest =
    let p = get_or ps i d in
    ap (λ b. join_all b (drop (i + 1) ps) t) (take_more ps i d lt)
    ∙ ap (λ u. join_all (take i ps ++ p ∷ []) (drop (i + 1) ps) u) e
    ∙ sym (at_drop_more (λ l. join_all (take i ps) l s) ps i d lt) ∙ rest

pub grows_turn : (before : List (Holding × Atom)) (h : Holding) (a : Atom) (r s t : Scene) → Grows 0 r s
    → t ≡ join_with before h a s → Grows 0 r t
grows_turn before h a r s t g e =
    subst (λ (u : Scene). Grows 0 r u) (sym e)
    (grows-then 0 0 r s (join_with before h a s) g (join_with-grows before h a s g.scene))

pub atoms_turn : (ps : List (Holding × Atom)) (i : ℕ) (d : Holding × Atom) (atoms : List (Option Atom))
    → i < length ps → AreAtoms (take i ps ++ ((get_or ps i d).0, (get_or ps i d).1) ∷ []) atoms
    → AreAtoms (take (i + 1) ps) atoms
atoms_turn ps i d atoms lt are = subst (λ l. AreAtoms l atoms) (sym (take_more ps i d lt)) are
