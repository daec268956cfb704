-- The entries at which the first parameters hold given values, by what the next one may hold.
--   others_at ks code hs t k    the entries where the next parameter, of this kind, is not NULL
--   ReadsNext code hs kinds n   not all parameters have values, and the kind of the next one is read at n
use Rattle.std.proofs.Common.{◌≡◌, ◌∙◌, ℕ, zero, suc, ◌+◌, ◌<◌, ◌≤◌, true, false, List, [], ◌∷◌, ◌++◌, length}
use Rattle.std.proofs.Common.{map, take, drop, get_or, refl, sym, ap, arith, append_assoc, append-nil, Bool}
use Rattle.std.specs.Prelude.{◌||◌, if◌then◌else◌}
use Rattle.std.proofs.lemmas.List.{length-append, length_push}
use Rattle.pungi_api.specs.declared.param.Param.{Param}
use Rattle.pungi_api.specs.declared.param.Param.TheVariants.{Object}
use Rattle.pungi_code.specs.declared.code.Code.{Code}
use Rattle.pungi_code.specs.WellFormed.{is_integer, is_object}
use Rattle.pungi_shape.specs.declared.holding.Holding.{Holding}
use Rattle.pungi_shape.specs.declared.holding.Holding.TheVariants.{Null, Text, Number, Token}
use Rattle.pungi_shape.specs.declared.search.Found.{Found}
use Rattle.pungi_shape.specs.Bounds.{IsCodeOfFile}
use Rattle.pungi_shape.specs.Edges.{Goal}
use Rattle.pungi_shape.specs.Found.{are_over, entry_goal, entry_goals, is_over, with_goals}
use Rattle.pungi_shape.specs.Places.{values_at_entry, with_first}
use Rattle.pungi_shape.specs.Shapes.{token_in, tokens_in}
use Rattle.pungi_shape.proofs.FoundLemmas.{are_over-append, with_goals-append}

abbrev pub goals_with : List ℕ → Code → List Holding → List (List Holding) → List Goal
goals_with ks code hs ls = map (λ rest. entry_goal ks code (hs ++ rest)) ls

goals_first : (ks : List ℕ) (code : Code) (hs : List Holding) (h : Holding) (ls : List (List Holding))
    → goals_with ks code hs (with_first h ls) ≡ goals_with ks code (hs ++ h ∷ []) ls
goals_first ks code hs h [] = refl
goals_first ks code hs h (l ∷ ls) =
    ap (λ (vs : List Holding). entry_goal ks code vs ∷ goals_with ks code hs (with_first h ls))
    (sym (append_assoc hs (h ∷ []) l))
    ∙ ap (λ (gs : List Goal). entry_goal ks code ((hs ++ h ∷ []) ++ l) ∷ gs) (goals_first ks code hs h ls)

map_append : {X Y : Type 0} (f : X → Y) (xs ys : List X) → map f (xs ++ ys) ≡ map f xs ++ map f ys
map_append f [] ys = refl
map_append f (x ∷ xs) ys = ap (λ l. f x ∷ l) (map_append f xs ys)

next_param : {X : Type 0} (vs : List X) (p n : ℕ) (d : X) → n < p → p ≤ length vs
    → drop n (take p vs) ≡ get_or vs n d ∷ drop (n + 1) (take p vs)
next_param [] p n d lt le = absurd (omega (arith, lt, le))
next_param (v ∷ vs) zero n d lt le = absurd (omega (arith, lt))
next_param (v ∷ vs) (suc p) zero d lt le = refl
next_param (v ∷ vs) (suc p) (suc n) d lt le =
    (let e : suc n + 1 ≡ suc (n + 1) = omega arith in
    rw e (next_param vs p n d (omega (arith, lt)) (omega (arith, le))))

drop_none : {X : Type 0} (p n : ℕ) (vs : List X) → p ≤ n → drop n (take p vs) ≡ []
drop_none zero zero vs le = refl
drop_none zero (suc n) vs le = refl
drop_none (suc p) zero vs le = absurd (omega (arith, le))
drop_none (suc p) (suc n) [] le = refl
drop_none (suc p) (suc n) (v ∷ vs) le = drop_none p n vs (omega (arith, le))

-- after the last parameter
pub entry_goals-here : (ks : List ℕ) (code : Code) (hs : List Holding) (t : ℕ) → length hs ≡ code.params
    → entry_goals ks code hs t ≡ entry_goal ks code hs ∷ []
entry_goals-here ks code hs t e =
    ap (λ (ps : List Param). goals_with ks code hs (values_at_entry t ps))
    (drop_none code.params (length hs) code.vars (omega (arith, e)))
    ∙ ap (λ (vs : List Holding). entry_goal ks code vs ∷ []) (append-nil hs)

-- ---- by the kind of the next parameter

abbrev pub others_at : List ℕ → Code → List Holding → ℕ → Param → List Goal
others_at ks code hs t k =
    if is_object k then entry_goals ks code (hs ++ Token t ∷ []) (t + 1) else entry_goals ks code (hs ++ Text ∷ []) t

module _ (ks : List ℕ) (code : Code) (hs : List Holding) (t : ℕ) (d : Param) (lt : length hs < code.params)
    (le : code.params ≤ length code.vars) where
  abbrev kind : Param
  kind = get_or code.vars (length hs) d

  abbrev later : List Param
  later = drop (length hs + 1) (take code.params code.vars)

  here : entry_goals ks code hs t ≡ goals_with ks code hs (values_at_entry t (kind ∷ later))
  here =
      ap (λ (ps : List Param). goals_with ks code hs (values_at_entry t ps))
      (next_param code.vars code.params (length hs) d lt le)

  after : (h : Holding) (u : ℕ)
      → goals_with ks code hs (with_first h (values_at_entry u later)) ≡ entry_goals ks code (hs ++ h ∷ []) u
  after h u =
      goals_first ks code hs h (values_at_entry u later)
      ∙ ap (λ (n : ℕ). goals_with ks code (hs ++ h ∷ []) (values_at_entry u (drop n (take code.params code.vars))))
      (sym (length-append hs (h ∷ [])))

  pub entry_goals-integer : is_integer kind ≡ true
      → entry_goals ks code hs t ≡ entry_goals ks code (hs ++ Number ∷ []) t
  entry_goals-integer e = here ∙ rw e (after Number t)

  pub entry_goals-object : is_integer kind ≡ false → is_object kind ≡ true → entry_goals ks code hs t
      ≡ entry_goals ks code (hs ++ Null ∷ []) t ++ entry_goals ks code (hs ++ Token t ∷ []) (t + 1)
  entry_goals-object e o =
      here ∙ rw (e, o) (map_append (λ rest. entry_goal ks code (hs ++ rest)) (with_first Null (values_at_entry t later))
      (with_first (Token t) (values_at_entry (t + 1) later))
      ∙ ap (λ (gs : List Goal). gs ++ goals_with ks code hs (with_first (Token t) (values_at_entry (t + 1) later)))
      (after Null t)
      ∙ ap (λ (gs : List Goal). entry_goals ks code (hs ++ Null ∷ []) t ++ gs) (after (Token t) (t + 1)))

  pub entry_goals-text : is_integer kind ≡ false → is_object kind ≡ false → entry_goals ks code hs t
      ≡ entry_goals ks code (hs ++ Null ∷ []) t ++ entry_goals ks code (hs ++ Text ∷ []) t
  entry_goals-text e o =
      here ∙ rw (e, o) (map_append (λ rest. entry_goal ks code (hs ++ rest)) (with_first Null (values_at_entry t later))
      (with_first Text (values_at_entry t later))
      ∙ ap (λ (gs : List Goal). gs ++ goals_with ks code hs (with_first Text (values_at_entry t later))) (after Null t)
      ∙ ap (λ (gs : List Goal). entry_goals ks code (hs ++ Null ∷ []) t ++ gs) (after Text t))

  -- where no number is held, the entries with NULL come first
  pub entry_goals-null : is_integer kind ≡ false
      → entry_goals ks code hs t ≡ entry_goals ks code (hs ++ Null ∷ []) t ++ others_at ks code hs t kind
  entry_goals-null e = at (is_object kind) refl
    where
      at : (b : Bool) → is_object kind ≡ b
          → entry_goals ks code hs t ≡ entry_goals ks code (hs ++ Null ∷ []) t ++ (if b then entry_goals ks code
          (hs ++ Token t ∷ []) (t + 1) else entry_goals ks code (hs ++ Text ∷ []) t)
      at true o = entry_goals-object e o
      at false o = entry_goals-text e o

-- ---- the next parameter, as it is read

pub record ReadsNext (code : Code) (hs : List Holding) (kinds : List Param) (n : ℕ) : Type 0 where
  pub well : IsCodeOfFile code
  pub same : kinds ≡ code.vars
  pub at : n ≡ length hs
  pub fits : length hs ≤ code.params
  pub more : n ≡ code.params → ⊥

module _ {code : Code} {hs : List Holding} {kinds : List Param} {n : ℕ} (h : ReadsNext code hs kinds n) where
  pub next-below : length hs < code.params
  next-below = (let at = h.at in let fits = h.fits in omega (arith, at, fits, h.more))

  next-within : code.params ≤ length code.vars
  next-within = (let a = h.well.well_formed.among in let b = h.well.well_formed.locals in omega (arith, a, b))

  next-read : (test : Param → Bool) (r b : Bool) → r ≡ test (get_or kinds n Object) → r ≡ b
      → test (get_or code.vars (length hs) Object) ≡ b
  next-read test r b is e =
      ap (λ (l : List Param). test (get_or l (length hs) Object)) (sym h.same)
      ∙ ap (λ (m : ℕ). test (get_or kinds m Object)) (sym h.at) ∙ sym is ∙ e

  pub next-integer : (ks : List ℕ) (t : ℕ) (r : Bool) → r ≡ is_integer (get_or kinds n Object) → r ≡ true
      → entry_goals ks code hs t ≡ entry_goals ks code (hs ++ Number ∷ []) t
  next-integer ks t r is e =
      entry_goals-integer ks code hs t Object next-below next-within (next-read (λ k. is_integer k) r true is e)

  pub next-null : (ks : List ℕ) (t : ℕ) (r : Bool) → r ≡ is_integer (get_or kinds n Object) → r ≡ false
      → entry_goals ks code hs t ≡ entry_goals ks code (hs ++ Null ∷ []) t
      ++ others_at ks code hs t (get_or code.vars (length hs) Object)
  next-null ks t r is e =
      entry_goals-null ks code hs t Object next-below next-within (next-read (λ k. is_integer k) r false is e)

  pub next-object : (ks : List ℕ) (t : ℕ) (r o : Bool) → r ≡ is_integer (get_or kinds n Object) → r ≡ false
      → o ≡ is_object (get_or kinds n Object) → o ≡ true → entry_goals ks code hs t
      ≡ entry_goals ks code (hs ++ Null ∷ []) t ++ entry_goals ks code (hs ++ Token t ∷ []) (t + 1)
  next-object ks t r o is e is_o e_o =
      entry_goals-object ks code hs t Object next-below next-within (next-read (λ k. is_integer k) r false is e)
      (next-read (λ k. is_object k) o true is_o e_o)

  pub next-text : (ks : List ℕ) (t : ℕ) (r o : Bool) → r ≡ is_integer (get_or kinds n Object) → r ≡ false
      → o ≡ is_object (get_or kinds n Object) → o ≡ false → entry_goals ks code hs t
      ≡ entry_goals ks code (hs ++ Null ∷ []) t ++ entry_goals ks code (hs ++ Text ∷ []) t
  next-text ks t r o is e is_o e_o =
      entry_goals-text ks code hs t Object next-below next-within (next-read (λ k. is_integer k) r false is e)
      (next-read (λ k. is_object k) o false is_o e_o)

-- ---- the tokens of one more value

tokens-more : (hs : List Holding) (h : Holding) → tokens_in (hs ++ h ∷ []) ≡ tokens_in hs ++ token_in h
tokens-more [] h = append-nil (token_in h)
tokens-more (g ∷ hs) h =
    ap (λ (ts : List ℕ). token_in g ++ ts) (tokens-more hs h)
    ∙ sym (append_assoc (token_in g) (tokens_in hs) (token_in h))

pub tokens-same : (hs : List Holding) (h : Holding) → token_in h ≡ []
    → length (tokens_in (hs ++ h ∷ [])) ≡ length (tokens_in hs)
tokens-same hs h none =
    ap length (tokens-more hs h) ∙ ap (λ (ts : List ℕ). length (tokens_in hs ++ ts)) none
    ∙ ap length (append-nil (tokens_in hs))

pub tokens-next : (hs : List Holding) (u : ℕ)
    → length (tokens_in (hs ++ Token u ∷ [])) ≡ length (tokens_in hs) + 1
tokens-next hs u = ap length (tokens-more hs (Token u)) ∙ length_push (tokens_in hs) u

-- ---- goals that are noted in two runs

module _ (gs fs hs : List Goal) (s u : Found) (all : gs ≡ fs ++ hs) where
  pub first-over : are_over fs s ≡ true → are_over gs s ≡ true
  first-over e =
      ap (λ (l : List Goal). are_over l s) all ∙ are_over-append fs hs s
      ∙ ap (λ b. b || are_over hs (with_goals fs s)) e

  pub both-noted : u ≡ with_goals fs s → with_goals hs u ≡ with_goals gs s
  both-noted e =
      ap (with_goals hs) e ∙ sym (with_goals-append fs hs s) ∙ ap (λ (l : List Goal). with_goals l s) (sym all)

  pub both-over : u ≡ with_goals fs s → are_over fs s ≡ false → are_over hs u ≡ are_over gs s
  both-over e fits =
      ap (are_over hs) e
      ∙ sym (ap (λ (l : List Goal). are_over l s) all ∙ are_over-append fs hs s
      ∙ ap (λ b. b || are_over hs (with_goals fs s)) fits)

pub one-over : (g : Goal) (s : Found) → are_over (g ∷ []) s ≡ is_over g s
one-over g s = or_false (is_over g s)
  where
    or_false : (b : Bool) → (b || false) ≡ b
    or_false true = refl
    or_false false = refl
