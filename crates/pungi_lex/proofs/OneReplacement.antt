-- The replacement of macros has one answer: each list of kinds expands to one list.
use Rattle.std.proofs.Common.{◌≡◌, ◌⊎◌, ◌+◌, ℕ, List, [], ◌∷◌, ◌++◌, set, Some, None, refl, sym, ap, subst, ◌∙◌, inl}
use Rattle.std.proofs.Common.{inr}
use Rattle.std.proofs.lemmas.Option.{same_Some}
use Rattle.pungi_base.specs.declared.kind.Kind.{Kind}
use Rattle.pungi_lex.specs.Macros.{Macros, Expands, Nothing, Kept, Replaced, word_number, body_of, body_at, replacement}

-- how an expansion of a kind and others came about
record KeptAs (macros : Macros) (k : Kind) (ks out : List Kind) (n : ℕ) : Type 0 where
  pub rest : List Kind
  pub spent : ℕ
  pub none : replacement macros k ≡ None
  pub behind : Expands macros ks rest spent
  pub out_is : out ≡ k ∷ rest
  pub n_is : n ≡ 1 + spent

record ReplacedBy (macros : Macros) (k : Kind) (ks out : List Kind) (n : ℕ) : Type 0 where
  pub name : ℕ
  pub body : List Kind
  pub inner : List Kind
  pub rest : List Kind
  pub within : ℕ
  pub spent : ℕ
  pub named : word_number k ≡ Some name
  pub has : body_of macros name ≡ Some body
  pub inside : Expands (set macros name None) body inner within
  pub behind : Expands macros ks rest spent
  pub out_is : out ≡ inner ++ rest
  pub n_is : n ≡ 1 + (within + spent)

abbrev Expanding : Macros → List Kind → List Kind → ℕ → Type 0
Expanding macros [] out n = (out ≡ []) × (n ≡ 0)
Expanding macros (k ∷ ks) out n = KeptAs macros k ks out n ⊎ ReplacedBy macros k ks out n

expanding : (macros : Macros) (ks out : List Kind) (n : ℕ) → Expands macros ks out n → Expanding macros ks out n
expanding macros ks out n (Nothing _) = (refl, refl)
expanding macros ks out n (Kept _ k rest o i e x) =
    inl (record { rest = o; spent = i; none = e; behind = x; out_is = refl; n_is = refl })
expanding macros ks out n (Replaced _ k name body rest inner o i j w e x y) =
    inr (record {
      name = name;
      body = body;
      inner = inner;
      rest = o;
      within = i;
      spent = j;
      named = w;
      has = e;
      inside = x;
      behind = y;
      out_is = refl;
      n_is = refl;
    })

replaced_some : (macros : Macros) (k : Kind) (name : ℕ) (body : List Kind) → word_number k ≡ Some name
    → body_of macros name ≡ Some body → replacement macros k ≡ Some body
replaced_some macros k name body named has = ap (body_at macros) named ∙ has

abbrev OneExpansion : Macros → List Kind → List Kind → ℕ → Type 0
OneExpansion macros ks out n = (other : List Kind) (k : ℕ) → Expands macros ks other k → (other ≡ out) × (k ≡ n)

kept_once : (macros : Macros) (k : Kind) (ks out : List Kind) (n : ℕ) → replacement macros k ≡ None
    → OneExpansion macros ks out n → (other : List Kind) (c : ℕ) → Expanding macros (k ∷ ks) other c
    → (other ≡ k ∷ out) × (c ≡ 1 + n)
kept_once macros k ks out n none behind other c (inl y) =
    let r = behind y.rest y.spent y.behind in
    (y.out_is ∙ ap (λ (l : List Kind). k ∷ l) r.0, y.n_is ∙ ap (λ (j : ℕ). 1 + j) r.1)
kept_once macros k ks out n none behind other c (inr y) =
    let both : None ≡ Some y.body = sym none ∙ replaced_some macros k y.name y.body y.named y.has in
    absurd cc

replaced_once : (macros : Macros) (k : Kind) (name : ℕ) (body ks inner out : List Kind) (i j : ℕ)
    → word_number k ≡ Some name → body_of macros name ≡ Some body → OneExpansion (set macros name None) body inner i
    → OneExpansion macros ks out j → (other : List Kind) (c : ℕ) → Expanding macros (k ∷ ks) other c
    → (other ≡ inner ++ out) × (c ≡ 1 + (i + j))
replaced_once macros k name body ks inner out i j named has inside behind other c (inl y) =
    let both : None ≡ Some body = sym y.none ∙ replaced_some macros k name body named has in
    absurd cc
replaced_once macros k name body ks inner out i j named has inside behind other c (inr y) =
    let same : y.name ≡ name = same_Some y.name name (sym y.named ∙ named) in
    let bodies : y.body ≡ body = same_Some y.body body (sym y.has ∙ ap (body_of macros) same ∙ has) in
    let within : Expands (set macros name None) body y.inner y.within =
    subst (λ (b : List Kind). Expands (set macros name None) b y.inner y.within) bodies
    (subst (λ (n : ℕ). Expands (set macros n None) y.body y.inner y.within) same y.inside) in
    let r = inside y.inner y.within within in
    let s = behind y.rest y.spent y.behind in
    (y.out_is ∙ (λ a. r.0 a ++ s.0 a), y.n_is ∙ (λ a. 1 + (r.1 a + s.1 a)))

pub expands_once : (macros : Macros) (ks out : List Kind) (n : ℕ) → Expands macros ks out n → OneExpansion macros ks out n
expands_once macros ks out n (Nothing _) other c y = expanding macros [] other c y
expands_once macros ks out n (Kept _ k rest o i e x) other c y =
    kept_once macros k rest o i e (expands_once macros rest o i x) other c (expanding macros (k ∷ rest) other c y)
expands_once macros ks out n (Replaced _ k name body rest inner o i j w e x z) other c y =
    replaced_once macros k name body rest inner o i j w e (expands_once (set macros name None) body inner i x)
    (expands_once macros rest o j z) other c (expanding macros (k ∷ rest) other c y)
