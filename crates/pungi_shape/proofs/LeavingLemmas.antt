-- What is left where a called function left by an exit class: a scene that fits, with small balances, over the same
-- coordinates; and the equations by which the two agree.
--   Stays s t               the same static objects, and as many values
use Rattle.std.proofs.Common.{◌≡◌, ◌∙◌, ℕ, zero, suc, ◌+◌, ◌≤◌, ◌^◌, ◌==◌, Bool, true, false, cond, ℤ, negsuc, pos}
use Rattle.std.proofs.Common.{◌+ℤ◌, ◌*ℤ◌}
use Rattle.std.proofs.Common.{List, [], ◌∷◌, ◌++◌, length, get_or, Option, Some, None, refl, sym, ap, arith, lit≤}
use Rattle.std.specs.Prelude.{unsigned_abs}
use Rattle.std.specs.List.{All, sum_by}
use Rattle.std.proofs.lemmas.Int.{ints}
use Rattle.std.proofs.lemmas.List.{length-map}
use Rattle.std.proofs.lemmas.List.Elements.{All-append, All-cons, All-head, All-nil, All-tail}
use Rattle.std.proofs.lemmas.List.Sums.{get_or-le-sum_by, sum_by-cons}
use Rattle.pungi_domain.specs.Vectors.{IsEquation, IsWithin, at}
use Rattle.pungi_code.specs.declared.atom.Atom.{Atom}
use Rattle.pungi_code.specs.declared.atom.Var.{Var}
use Rattle.pungi_shape.specs.declared.holding.Holding.{Holding}
use Rattle.pungi_shape.specs.declared.holding.Holding.TheVariants.{Dead, Unset, Null, Text, Known, Number, Token}
use Rattle.pungi_shape.specs.declared.shape.Shape.{Shape}
use Rattle.pungi_shape.specs.Bounds.{HasBalances, HasWidth, IsCoordinate, IsHeld, IsPlain, IsScene, IsShape}
use Rattle.pungi_shape.specs.Calls.{put_if}
use Rattle.pungi_shape.specs.Edges.{both_shapes}
use Rattle.pungi_shape.specs.Exits.{add_all, add_form_to, add_one, after_leaving, agreement, arguments_of}
use Rattle.pungi_shape.specs.Exits.{atom_of, beside, exit_balance, join_all, join_holdings, join_one, join_with}
use Rattle.pungi_shape.specs.Exits.{number_agrees, numbers_agree, put_object, put_result}
use Rattle.pungi_shape.specs.Forms.{Form, minus, times, unit, zero_form}
use Rattle.pungi_shape.specs.Leaving.{size, weight}
use Rattle.pungi_shape.specs.Reached.{names_in}
use Rattle.pungi_shape.specs.Scenes.{Scene, after_entry, after_returned, form_of, form_or, holding_of, merge, new_token}
use Rattle.pungi_shape.specs.Scenes.{number_forms, redirect, token_forms, with_token}
use Rattle.pungi_shape.specs.Shapes.{is_number, rename_holding, tokens_of, width_of}
use Rattle.pungi_shape.proofs.AfterLemmas.{IsAfter, after-token, after-var, new-below}
use Rattle.pungi_shape.proofs.FormBounds.{HasParts, coordinate-parts, form_of-width, length-times, length-unit}
use Rattle.pungi_shape.proofs.FormBounds.{lead, length-plus, opposite-parts, parts-equation, plus-parts, times-parts}
use Rattle.pungi_shape.proofs.JoinLemmas.{add_all-grows, join_all-grows}
use Rattle.pungi_shape.proofs.SceneLemmas.{number-coordinates, numbers_width, scene_over-plain, scene_over-scene}
use Rattle.pungi_shape.proofs.SceneLemmas.{zero_width}
use Rattle.pungi_shape.proofs.StaticLemmas.{merge_keeps, put_keeps}
use Rattle.pungi_shape.proofs.TokenLemmas.{holding_of-held}
use Rattle.pungi_shape.proofs.WeightLemmas.{Grows, grows-then, size-unit}

-- ---- what stays

record Stays (s t : Scene) : Type 0 where
  names : names_in t.shape ≡ names_in s.shape
  vars : length t.shape.vars ≡ length s.shape.vars
  entry : length t.shape.entry ≡ length s.shape.entry

stays-none : (s : Scene) → Stays s s
stays-none s = record { names = refl; vars = refl; entry = refl }

stays-then : (s t u : Scene) → Stays s t → Stays t u → Stays s u
stays-then s t u h k = record {
  names = k.names ∙ h.names;
  vars = k.vars ∙ h.vars;
  entry = k.entry ∙ h.entry;
}

stays-merge : (t u : ℕ) (s : Scene) → Stays s (merge t u s)
stays-merge t u s = record {
  names = merge_keeps t u s;
  vars = length-map s.shape.vars (rename_holding (redirect t u));
  entry = length-map s.shape.entry (rename_holding (redirect t u));
}

join_holdings-stays : (h k : Holding) (s : Scene) → Stays s (join_holdings h k s)
join_holdings-stays (Token t) (Token u) s = go (t == u)
  where
    go : (b : Bool) → Stays s (cond b s (merge t u s))
    go true = stays-none s
    go false = stays-merge t u s
join_holdings-stays (Token t) Dead s = stays-none s
join_holdings-stays (Token t) Unset s = stays-none s
join_holdings-stays (Token t) Null s = stays-none s
join_holdings-stays (Token t) Text s = stays-none s
join_holdings-stays (Token t) (Known m) s = stays-none s
join_holdings-stays (Token t) Number s = stays-none s
join_holdings-stays Dead k s = stays-none s
join_holdings-stays Unset k s = stays-none s
join_holdings-stays Null k s = stays-none s
join_holdings-stays Text k s = stays-none s
join_holdings-stays (Known m) k s = stays-none s
join_holdings-stays Number k s = stays-none s

join_one-stays : (o : Option Atom) (a : Atom) (s : Scene) → Stays s (join_one o a s)
join_one-stays None a s = stays-none s
join_one-stays (Some b) a s = join_holdings-stays (holding_of s b) (holding_of s a) s

join_with-stays : (before : List (Holding × Atom)) (h : Holding) (a : Atom) (s : Scene)
    → Stays s (join_with before h a s)
join_with-stays before (Token u) a s = join_one-stays (atom_of u before) a s
join_with-stays before Dead a s = stays-none s
join_with-stays before Unset a s = stays-none s
join_with-stays before Null a s = stays-none s
join_with-stays before Text a s = stays-none s
join_with-stays before (Known m) a s = stays-none s
join_with-stays before Number a s = stays-none s

join_all-stays : (before ps : List (Holding × Atom)) (s : Scene) → Stays s (join_all before ps s)
join_all-stays before [] s = stays-none s
join_all-stays before (p ∷ ps) s =
    let t = join_with before p.0 p.1 s in
    stays-then s t (join_all (before ++ p ∷ []) ps t) (join_with-stays before p.0 p.1 s)
    (join_all-stays (before ++ p ∷ []) ps t)

add_form_to-shape : (h : Holding) (f : Form) (s : Scene) → (add_form_to h f s).shape ≡ s.shape
add_form_to-shape (Token t) f s = refl
add_form_to-shape Dead f s = refl
add_form_to-shape Unset f s = refl
add_form_to-shape Null f s = refl
add_form_to-shape Text f s = refl
add_form_to-shape (Known m) f s = refl
add_form_to-shape Number f s = refl

add_one-shape : (o : Option Atom) (f : Form) (s : Scene) → (add_one o f s).shape ≡ s.shape
add_one-shape None f s = refl
add_one-shape (Some a) f s = add_form_to-shape (holding_of s a) f s

add_all-shape : (w : ℕ) (e : Shape) (ps : List (Holding × Atom)) (us : List ℕ) (s : Scene)
    → (add_all w e ps us s).shape ≡ s.shape
add_all-shape w e ps [] s = refl
add_all-shape w e ps (u ∷ us) s =
    let f = exit_balance w e u s in
    add_all-shape w e ps us (add_one (atom_of u ps) f s) ∙ add_one-shape (atom_of u ps) f s

add_all-stays : (w : ℕ) (e : Shape) (ps : List (Holding × Atom)) (us : List ℕ) (s : Scene)
    → Stays s (add_all w e ps us s)
add_all-stays w e ps us s =
    let same = add_all-shape w e ps us s in
    record {
      names = ap names_in same;
      vars = ap (λ (t : Shape). length t.vars) same;
      entry = ap (λ (t : Shape). length t.entry) same;
    }

-- ---- small coefficients

size-within : (f : Form) (n : ℕ) → size f ≤ n → All (IsWithin n) f
size-within f n le = λ i d below. (
    let small = get_or-le-sum_by unsigned_abs f i d below in
    (omega (arith, ints, small, le), omega (arith, ints, small, le))
    )

abbrev weigh : ℕ → Option Form → ℕ
weigh w o = size (form_or w o)

light-balances : (s : Scene) (n : ℕ) → weight s ≤ n → HasBalances n s
light-balances s n le = λ i d below. (
    let small = get_or-le-sum_by (weigh s.width) s.balances i d below in
    size-within (form_or s.width (get_or s.balances i d)) n (omega (arith, small, le))
    )

tokens-weight : (w k n : ℕ) → sum_by (weigh w) (token_forms w k n) ≤ n
tokens-weight w k zero = omega arith
tokens-weight w k (suc n) =
    let rest = tokens-weight w (k + 1) n in
    let more = sum_by-cons (weigh w) (Some (unit w k)) (token_forms w (k + 1) n) in
    let one = size-unit w k in
    omega (arith, rest, more, one)

size-parts : (f : Form) → size f ≤ 1 → HasParts (at f 0) 1 f
size-parts f le = record {
  leading = λ lt. refl;
  within = λ i lt below. size-within f 1 le i (pos 0) below;
}

-- ---- the result

module _ (j : ℕ) (s : Scene) where
  after-put : (x : Option Var) (h : Holding) (f : Form) (t : Scene) → IsAfter j s t → IsHeld t h → HasWidth t.width f
      → IsAfter j s (put_if x h f t)
  after-put None h f t k held w = k
  after-put (Some x) h f t k held w = after-var j x.0 h f s t k held w

  after-object : (o : Option Atom) (f : Form) (x : Option Var) (t : Scene) → IsAfter j s t
      → (length s.shape.made ≤ 256 → length t.shape.made ≤ 256) → HasWidth t.width f → All (IsWithin j) f
      → IsAfter j s (put_object o f x t)
  after-object (Some a) f x t k few w small =
      after-put x (holding_of t a) (zero_form t.width) t k (holding_of-held t a k.scene) (zero_width t.width)
  after-object None f x t k few w small =
      let u = with_token f false t in
      after-put x (Token (new_token t)) (zero_form t.width) u (after-token j f false s t k w small few)
      (new-below f false t) (zero_width t.width)

  after-result : (w : ℕ) (e : Shape) (ps : List (Holding × Atom)) (x : Option Var) (h : Holding) (t : Scene) → 1 ≤ j
      → IsAfter j s t → (length s.shape.made ≤ 256 → length t.shape.made ≤ 256) → IsAfter j s (put_result w e ps x h t)
  after-result w e ps x Dead t le k few = k
  after-result w e ps x Unset t le k few = k
  after-result w e ps x (Token u) t le k few =
      let n = w + (after_entry e + u) in
      let one = size-unit t.width n in
      after-object (atom_of u ps) (exit_balance w e u t) x t k few (length-unit t.width n)
      (size-within (unit t.width n) j (omega (arith, one, le)))
  after-result w e ps x Null t le k few = after-put x Null (zero_form t.width) t k tt (zero_width t.width)
  after-result w e ps x Text t le k few = after-put x Text (zero_form t.width) t k tt (zero_width t.width)
  after-result w e ps x (Known m) t le k few =
      after-put x (Known m) (unit t.width (w + 1)) t k tt (length-unit t.width (w + 1))
  after-result w e ps x Number t le k few =
      after-put x Number (unit t.width (w + 1)) t k tt (length-unit t.width (w + 1))

object-names : (o : Option Atom) (f : Form) (x : Option Var) (t : Scene)
    → names_in (put_object o f x t).shape ≡ names_in t.shape
object-names (Some a) f x t = put_keeps x (holding_of t a) (zero_form t.width) t
object-names None f x t = put_keeps x (Token (new_token t)) (zero_form t.width) (with_token f false t)

result-names : (w : ℕ) (e : Shape) (ps : List (Holding × Atom)) (x : Option Var) (h : Holding) (t : Scene)
    → names_in (put_result w e ps x h t).shape ≡ names_in t.shape
result-names w e ps x Dead t = refl
result-names w e ps x Unset t = refl
result-names w e ps x (Token u) t = object-names (atom_of u ps) (exit_balance w e u t) x t
result-names w e ps x Null t = put_keeps x Null (zero_form t.width) t
result-names w e ps x Text t = put_keeps x Text (zero_form t.width) t
result-names w e ps x (Known m) t = put_keeps x (Known m) (unit t.width (w + 1)) t
result-names w e ps x Number t = put_keeps x Number (unit t.width (w + 1)) t

-- ---- the whole

module _ (w : ℕ) (e : Shape) (x : Option Var) (as' : List Atom) (s : Scene) (is : IsScene s)
    (light : weight s + length (tokens_of e) ≤ 2 ^ 20) where
  abbrev ps : List (Holding × Atom)
  ps = arguments_of e as'

  abbrev joined : Scene
  joined = join_all [] ps s

  abbrev added : Scene
  added = add_all w e ps (tokens_of e) joined

  grown : Grows (0 + length (tokens_of e)) s added
  grown =
      let one = join_all-grows [] ps s is in
      grows-then 0 (length (tokens_of e)) s joined added one (add_all-grows w e ps (tokens_of e) joined one.scene)

  stayed : Stays s added
  stayed = stays-then s joined added (join_all-stays [] ps s) (add_all-stays w e ps (tokens_of e) joined)

  added-after : IsAfter (2 ^ 20) s added
  added-after = record {
    scene = grown.scene;
    width = grown.width;
    vars = stayed.vars;
    entry = stayed.entry;
    balances = light-balances added (2 ^ 20) (let g = grown.light in omega (arith, g, light));
    few = λ le. (let m = grown.made in omega (arith, m, le));
  }

  pub leaving-after : IsAfter (2 ^ 20) s (after_leaving w e x as' s)
  leaving-after =
      after-result (2 ^ 20) s w e ps x e.returned added (lit≤ tt) added-after
      (λ le. (let m = grown.made in omega (arith, m, le)))

  pub leaving-names : names_in (after_leaving w e x as' s).shape ≡ names_in s.shape
  leaving-names = result-names w e ps x e.returned added ∙ stayed.names

-- ---- where the two agree

difference : (w : ℕ) (m n : ℤ) (f g : Form) → HasWidth w f → HasWidth w g → HasParts m 1 f
    → HasParts n 1 (times (negsuc 0) g) → IsEquation w (minus f g)
difference w m n f g wf wg hf hg =
    let same = wf ∙ sym (length-times (negsuc 0) g ∙ wg) in
    parts-equation w (m +ℤ n) 2 (minus f g) (length-plus f (times (negsuc 0) g) same ∙ wf)
    (plus-parts m n 1 1 f (times (negsuc 0) g) same hf hg) (lit≤ tt)

module _ (s : Scene) (is : IsScene s) (plain : IsPlain s) where
  number-agrees : (h : Holding) (f : Form) (a : Atom) → HasWidth s.width f → IsCoordinate f
      → All (IsEquation s.width) (number_agrees s h f a)
  number-agrees h f a w c = go (is_number h)
    where
      go : (b : Bool) → All (IsEquation s.width) (cond b (minus f (form_of s a) ∷ []) [])
      go true = All-cons (IsEquation s.width) (minus f (form_of s a)) []
          (difference s.width (pos 0) (negsuc 0 *ℤ lead a) f (form_of s a) w (form_of-width s a is)
          (coordinate-parts f c) (opposite-parts s a plain)) (All-nil (IsEquation s.width))
      go false = All-nil (IsEquation s.width)

  numbers-agree : (hs : List Holding) (fs : List Form) (as' : List Atom) → All (HasWidth s.width) fs
      → All IsCoordinate fs → All (IsEquation s.width) (numbers_agree s (beside hs fs as'))
  numbers-agree [] fs as' w c = All-nil (IsEquation s.width)
  numbers-agree (h ∷ hs) [] as' w c = All-nil (IsEquation s.width)
  numbers-agree (h ∷ hs) (f ∷ fs) [] w c = All-nil (IsEquation s.width)
  numbers-agree (h ∷ hs) (f ∷ fs) (a ∷ as') w c =
      All-append (IsEquation s.width) (number_agrees s h f a) (numbers_agree s (beside hs fs as'))
      (number-agrees h f a (All-head (HasWidth s.width) f fs w) (All-head IsCoordinate f fs c))
      (numbers-agree hs fs as' (All-tail (HasWidth s.width) f fs w) (All-tail IsCoordinate f fs c))

  pub agreement-equations : (w : ℕ) (e : Shape) (as' : List Atom) → All (IsEquation s.width) (agreement w e as' s)
  agreement-equations w e as' =
      let n = w + after_returned e in
      All-cons (IsEquation s.width) (minus (unit s.width w) (unit s.width 0)) _
      (difference s.width (at (unit s.width w) 0) (negsuc 0 *ℤ at (unit s.width 0) 0) (unit s.width w) (unit s.width 0)
      (length-unit s.width w) (length-unit s.width 0) (size-parts (unit s.width w) (size-unit s.width w))
      (times-parts (negsuc 0) (at (unit s.width 0) 0) 1 (unit s.width 0) (omega (arith, ints), omega (arith, ints))
      (size-parts (unit s.width 0) (size-unit s.width 0))))
      (numbers-agree e.entry (number_forms s.width n e.entry) as' (numbers_width s.width n e.entry)
      (number-coordinates s.width n e.entry (omega arith)))

-- ---- where both stand side by side

pub both-after : (s e : Shape) (x : Option Var) (as' : List Atom) → IsShape s → width_of s ≤ 256 → width_of e ≤ 256
    → IsAfter (2 ^ 20) (both_shapes s e) (after_leaving (width_of s) e x as' (both_shapes s e))
both-after s e x as' is narrow slim =
    let w = width_of s + width_of e in
    let few = tokens-weight w (after_entry s) (length s.made) in
    let made = is.made in
    leaving-after (width_of s) e x as' (both_shapes s e) (scene_over-scene w s is)
    (omega (arith, few, made, narrow, slim))

pub both-names : (s e : Shape) (x : Option Var) (as' : List Atom) → IsShape s → width_of s ≤ 256 → width_of e ≤ 256
    → names_in (after_leaving (width_of s) e x as' (both_shapes s e)).shape ≡ names_in s
both-names s e x as' is narrow slim =
    let w = width_of s + width_of e in
    let few = tokens-weight w (after_entry s) (length s.made) in
    let made = is.made in
    leaving-names (width_of s) e x as' (both_shapes s e) (scene_over-scene w s is)
    (omega (arith, few, made, narrow, slim))

pub both-agree : (s e : Shape) (as' : List Atom) → IsShape s
    → All (IsEquation (width_of s + width_of e)) (agreement (width_of s) e as' (both_shapes s e))
both-agree s e as' is =
    let w = width_of s + width_of e in
    agreement-equations (both_shapes s e) (scene_over-scene w s is) (scene_over-plain w s) (width_of s) e as'
