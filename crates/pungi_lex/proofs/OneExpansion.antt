-- Tokens have one expansion, and a fault excludes it: each relation of an expansion has one answer.
use Rattle.std.proofs.Common.{◌≡◌, ◌⊎◌, ◌+◌, ◌≤◌, ℕ, Bool, true, false, not, ◌&&◌, List, [], ◌∷◌, ◌++◌, length, set}
use Rattle.std.proofs.Common.{None, Ok, Err, refl, sym, ap, subst, ◌∙◌, arith, append_assoc, length-append, inl, inr}
use Rattle.std.specs.Prelude.{Result, IfOk, IfErr}
use Rattle.std.specs.List.{list_all}
use Rattle.std.proofs.lemmas.List.{append-nil, length-map}
use Rattle.pungi_base.specs.declared.kind.Kind.{Kind}
use Rattle.pungi_base.specs.declared.token.Token.{Token}
use Rattle.pungi_lex.specs.Limits.{token_limit}
use Rattle.pungi_lex.specs.declared.macro_fault.MacroFault.{MacroFault}
use Rattle.pungi_lex.specs.Directive.{Obeys, IsHash}
use Rattle.pungi_lex.specs.Expander.{Part, Directed, Plain, tokens_in, starts_first, ArePartsBefore, Runs, Ends}
use Rattle.pungi_lex.specs.Expander.{Directs, Expanded, Refuses, OfDirective, OfCount, IsExpanded, HasMacroFault}
use Rattle.pungi_lex.specs.Expander.{HasNoExpansion}
use Rattle.pungi_lex.specs.MacroFault.{is_want_of_memory}
use Rattle.pungi_lex.specs.Macros.{Macros, Expands, Nothing, Kept, Replaced, placed}
use Rattle.pungi_lex.specs.Predefined.{predefined}
use Rattle.pungi_lex.proofs.OneReplacement.{expands_once}
use Rattle.pungi_lex.proofs.OneDirective.{obeys_once, ok_once}

-- ---- tokens have one list of parts

abbrev is_inner : Token → Bool
is_inner t = not t.first

never_both : (b : Bool) → not b ≡ true → b ≡ true → ⊥
never_both true x y = cc
never_both false x y = cc

and_left : (a b : Bool) → (a && b) ≡ true → a ≡ true
and_left true b h = refl
and_left false b h = h

and_right : (a b : Bool) → (a && b) ≡ true → b ≡ true
and_right true b h = h
and_right false b h = absurd cc

words_once : (a x b y : List Token) → list_all is_inner a ≡ true → starts_first x ≡ true
    → list_all is_inner b ≡ true → starts_first y ≡ true → a ++ x ≡ b ++ y → (b ≡ a) × (x ≡ y)
words_once [] x [] y inner starts others begins e = (refl, e)
words_once [] x (c ∷ b) y inner starts others begins e =
    absurd (never_both c.first (and_left (is_inner c) (list_all is_inner b) others)
    (ap starts_first (sym e) ∙ starts))
words_once (c ∷ a) x [] y inner starts others begins e =
    absurd (never_both c.first (and_left (is_inner c) (list_all is_inner a) inner) (ap starts_first e ∙ begins))
words_once (c ∷ a) x (d ∷ b) y inner starts others begins e =
    let head : d ≡ c = cc in
    let tail : a ++ x ≡ b ++ y = cc in
    let r = words_once a x b y (and_right (is_inner c) (list_all is_inner a) inner) starts
    (and_right (is_inner d) (list_all is_inner b) others) begins tail in
    ((λ i. head i ∷ r.0 i), r.1)

-- the parts of all tokens begin with the parts of a front of them
abbrev GoesOn : List Part → List Part → List Token → Type 0
GoesOn ps qs rest = (more : List Part) × (qs ≡ ps ++ more) × (tokens_in more ++ [] ≡ rest)

goes_on : (ps qs : List Part) (rest : List Token) → ArePartsBefore ps rest → ArePartsBefore qs []
    → tokens_in ps ++ rest ≡ tokens_in qs ++ [] → GoesOn ps qs rest
goes_on [] qs rest are others e = (qs, refl, sym e)
goes_on (Directed h ws ∷ ps) [] rest are others e = absurd cc
goes_on (Plain t ∷ ps) [] rest are others e = absurd cc
goes_on (Directed h ws ∷ ps) (Plain u ∷ qs) rest are others e =
    let head : h ≡ u = cc in
    absurd (others.0 (subst IsHash head are.0))
goes_on (Plain t ∷ ps) (Directed h ws ∷ qs) rest are others e =
    let head : h ≡ t = cc in
    absurd (are.0 (subst IsHash head others.0))
goes_on (Plain t ∷ ps) (Plain u ∷ qs) rest are others e =
    let head : u ≡ t = cc in
    let tail : tokens_in ps ++ rest ≡ tokens_in qs ++ [] = cc in
    let r = goes_on ps qs rest are.1 others.1 tail in
    (r.0, (λ i. Plain (head i) ∷ r.1 i), r.2)
goes_on (Directed h ws ∷ ps) (Directed g vs ∷ qs) rest are others e =
    let head : g ≡ h = cc in
    let tail : (ws ++ tokens_in ps) ++ rest ≡ (vs ++ tokens_in qs) ++ [] = cc in
    let same = words_once ws (tokens_in ps ++ rest) vs (tokens_in qs ++ []) are.1 are.2 others.1 others.2
    (sym (append_assoc ws (tokens_in ps) rest) ∙ tail ∙ append_assoc vs (tokens_in qs) []) in
    let r = goes_on ps qs rest are.3 others.3 same.1 in
    (r.0, (λ i. Directed (head i) (same.0 i) ∷ r.1 i), r.2)

no_parts : (parts : List Part) → tokens_in parts ++ [] ≡ [] → parts ≡ []
no_parts [] e = refl
no_parts (Directed h ws ∷ parts) e = absurd cc
no_parts (Plain t ∷ parts) e = absurd cc

parts_once : (ps qs : List Part) → ArePartsBefore ps [] → ArePartsBefore qs []
    → tokens_in ps ++ [] ≡ tokens_in qs ++ [] → qs ≡ ps
parts_once ps qs are others e =
    let r = goes_on ps qs [] are others e in
    r.1 ∙ ap (λ (l : List Part). ps ++ l) (no_parts r.0 r.2) ∙ append-nil ps

-- ---- parts run in one way

record RanDirective (macros : Macros) (n : ℕ) (hash : Token) (words : List Token) (parts : List Part)
    (out : List Token) (last : Macros) (m : ℕ) : Type 0 where
  pub next : Macros
  pub obeys : Obeys macros hash words (Ok next)
  pub behind : Runs next n parts out last m

record RanPlain (macros : Macros) (n : ℕ) (t : Token) (parts : List Part) (out : List Token) (last : Macros) (m : ℕ)
    : Type 0 where
  pub kinds : List Kind
  pub spent : ℕ
  pub rest : List Token
  pub expands : Expands macros (t.kind ∷ []) kinds spent
  pub within : n + spent ≤ token_limit
  pub behind : Runs macros (n + spent) parts rest last m
  pub out_is : out ≡ placed t kinds ++ rest

abbrev Running : Macros → ℕ → List Part → List Token → Macros → ℕ → Type 0
Running macros n [] out last m = (out ≡ []) × (last ≡ macros) × (m ≡ n)
Running macros n (Directed hash words ∷ parts) out last m = RanDirective macros n hash words parts out last m
Running macros n (Plain t ∷ parts) out last m = RanPlain macros n t parts out last m

running : (macros : Macros) (n : ℕ) (parts : List Part) (out : List Token) (last : Macros) (m : ℕ)
    → Runs macros n parts out last m → Running macros n parts out last m
running macros n parts out last m (Ends _ _) = (refl, refl, refl)
running macros n parts out last m (Directs _ next _ _ _ hash words rest _ obeys runs) =
    record { next = next; obeys = obeys; behind = runs }
running macros n parts out last m (Expanded _ _ _ k _ t kinds rest later expands few runs) =
    record { kinds = kinds; spent = k; rest = later; expands = expands; within = few; behind = runs; out_is = refl }

runs_once : (macros : Macros) (n : ℕ) (parts : List Part) (out other : List Token) (last final : Macros) (m c : ℕ)
    → Runs macros n parts out last m → Runs macros n parts other final c → other ≡ out
runs_once macros n parts out other last final m c (Ends _ _) y = (running macros n [] other final c y).0
runs_once macros n parts out other last final m c (Directs _ next _ _ _ hash words rest _ obeys runs) y =
    let r = running macros n (Directed hash words ∷ rest) other final c y in
    let same : r.next ≡ next = ok_once macros next r.next hash words obeys r.obeys in
    runs_once next n rest out other last final m c runs (subst (λ (l : Macros). Runs l n rest other final c) same
    r.behind)
runs_once macros n parts out other last final m c (Expanded _ _ _ k _ t kinds rest later expands few runs) y =
    let r = running macros n (Plain t ∷ rest) other final c y in
    let same = expands_once macros (t.kind ∷ []) kinds k expands r.kinds r.spent r.expands in
    let tail : r.rest ≡ later = runs_once macros (n + k) rest later r.rest last final m c runs
    (subst (λ (j : ℕ). Runs macros (n + j) rest r.rest final c) same.1 r.behind) in
    r.out_is ∙ (λ i. placed t (same.0 i) ++ tail i)

refused_here : (macros : Macros) (n : ℕ) (part : Part) (found : MacroFault) (more : List Part) (out : List Token)
    (last : Macros) (m : ℕ) → Refuses macros n part found → Running macros n (part ∷ more) out last m → ⊥
refused_here macros n part found more out last m (OfDirective hash words _ obeys) r =
    let both = obeys_once macros hash words (Ok r.next) (Err found) r.obeys obeys in cc
refused_here macros n part found more out last m (OfCount t kinds k expands over) r =
    omega (arith, over, r.within, (expands_once macros (t.kind ∷ []) kinds k expands r.kinds r.spent r.expands).1)

refused_once : (macros : Macros) (n : ℕ) (parts more : List Part) (part : Part) (found : MacroFault)
    (out other : List Token) (last final : Macros) (m c : ℕ) → Runs macros n parts out last m
    → Refuses last m part found
    → Runs macros n (parts ++ part ∷ more) other final c → ⊥
refused_once macros n parts more part found out other last final m c (Ends _ _) refused y =
    refused_here macros n part found more other final c refused (running macros n (part ∷ more) other final c y)
refused_once macros n parts more part found out other last final m c (Directs _ next _ _ _ hash words rest _ obeys
    runs) refused y =
    let r = running macros n (Directed hash words ∷ (rest ++ part ∷ more)) other final c y in
    let same : r.next ≡ next = ok_once macros next r.next hash words obeys r.obeys in
    refused_once next n rest more part found out other last final m c runs refused
    (subst (λ (l : Macros). Runs l n (rest ++ part ∷ more) other final c) same r.behind)
refused_once macros n parts more part found out other last final m c (Expanded _ _ _ k _ t kinds rest later expands
    few runs) refused y =
    let r = running macros n (Plain t ∷ (rest ++ part ∷ more)) other final c y in
    let same = expands_once macros (t.kind ∷ []) kinds k expands r.kinds r.spent r.expands in
    refused_once macros (n + k) rest more part found later r.rest last final m c runs refused
    (subst (λ (j : ℕ). Runs macros (n + j) (rest ++ part ∷ more) r.rest final c) same.1 r.behind)

-- ---- parts are refused at one place

-- of two fronts of one list of tokens, one is the front of the other
abbrev Begins : List Part → List Part → Type 0
Begins ps qs = (more : List Part) × (qs ≡ ps ++ more)

with_head : (p q : Part) (ps qs : List Part) → q ≡ p → Begins ps qs ⊎ Begins qs ps
    → Begins (p ∷ ps) (q ∷ qs) ⊎ Begins (q ∷ qs) (p ∷ ps)
with_head p q ps qs same (inl r) = inl (r.0, λ i. same i ∷ r.1 i)
with_head p q ps qs same (inr r) = inr (r.0, λ i. sym same i ∷ r.1 i)

one_front : (ps qs : List Part) (rest end : List Token) → ArePartsBefore ps rest → ArePartsBefore qs end
    → tokens_in ps ++ rest ≡ tokens_in qs ++ end → Begins ps qs ⊎ Begins qs ps
one_front [] qs rest end are others e = inl (qs, refl)
one_front (p ∷ ps) [] rest end are others e = inr (p ∷ ps, refl)
one_front (Directed h ws ∷ ps) (Plain u ∷ qs) rest end are others e =
    let head : h ≡ u = cc in
    absurd (others.0 (subst IsHash head are.0))
one_front (Plain t ∷ ps) (Directed h ws ∷ qs) rest end are others e =
    let head : h ≡ t = cc in
    absurd (are.0 (subst IsHash head others.0))
one_front (Plain t ∷ ps) (Plain u ∷ qs) rest end are others e =
    let head : u ≡ t = cc in
    let tail : tokens_in ps ++ rest ≡ tokens_in qs ++ end = cc in
    with_head (Plain t) (Plain u) ps qs (ap Plain head) (one_front ps qs rest end are.1 others.1 tail)
one_front (Directed h ws ∷ ps) (Directed g vs ∷ qs) rest end are others e =
    let head : g ≡ h = cc in
    let tail : (ws ++ tokens_in ps) ++ rest ≡ (vs ++ tokens_in qs) ++ end = cc in
    let same = words_once ws (tokens_in ps ++ rest) vs (tokens_in qs ++ end) are.1 are.2 others.1 others.2
    (sym (append_assoc ws (tokens_in ps) rest) ∙ tail ∙ append_assoc vs (tokens_in qs) end) in
    with_head (Directed h ws) (Directed g vs) ps qs (λ i. Directed (head i) (same.0 i))
    (one_front ps qs rest end are.3 others.3 same.1)

never_nothing : (ps more : List Part) (p : Part) → [] ≡ (ps ++ p ∷ []) ++ more → ⊥
never_nothing [] more p e = cc
never_nothing (q ∷ ps) more p e = cc

-- where parts with one after them begin other parts, that one is the last of these, or it stands among them
abbrev IsLastOrWithin : List Part → List Part → Part → Part → Type 0
IsLastOrWithin ps qs p q = ((qs ≡ ps) × (q ≡ p)) ⊎ ((later : List Part) × (qs ≡ ps ++ p ∷ later))

behind_head : (a b : Part) (ps qs : List Part) (p q : Part) → b ≡ a → IsLastOrWithin ps qs p q
    → IsLastOrWithin (a ∷ ps) (b ∷ qs) p q
behind_head a b ps qs p q same (inl r) = inl ((λ i. same i ∷ r.0 i), r.1)
behind_head a b ps qs p q same (inr r) = inr (r.0, λ i. same i ∷ r.1 i)

last_or_within : (ps qs more : List Part) (p q : Part) → qs ++ q ∷ [] ≡ (ps ++ p ∷ []) ++ more
    → IsLastOrWithin ps qs p q
last_or_within [] [] more p q e = let same : q ≡ p = cc in inl (refl, same)
last_or_within [] (b ∷ qs) more p q e = let same : b ≡ p = cc in inr (qs, λ i. same i ∷ qs)
last_or_within (a ∷ ps) [] more p q e =
    let none : [] ≡ (ps ++ p ∷ []) ++ more = cc in absurd (never_nothing ps more p none)
last_or_within (a ∷ ps) (b ∷ qs) more p q e =
    let same : b ≡ a = cc in
    let tail : qs ++ q ∷ [] ≡ (ps ++ p ∷ []) ++ more = cc in
    behind_head a b ps qs p q same (last_or_within ps qs more p q tail)

ends_once : (macros : Macros) (n : ℕ) (parts : List Part) (out other : List Token) (last final : Macros) (m c : ℕ)
    → Runs macros n parts out last m → Runs macros n parts other final c → (final ≡ last) × (c ≡ m)
ends_once macros n parts out other last final m c (Ends _ _) y =
    let r = running macros n [] other final c y in (r.1, r.2)
ends_once macros n parts out other last final m c (Directs _ next _ _ _ hash words rest _ obeys runs) y =
    let r = running macros n (Directed hash words ∷ rest) other final c y in
    let same : r.next ≡ next = ok_once macros next r.next hash words obeys r.obeys in
    ends_once next n rest out other last final m c runs (subst (λ (l : Macros). Runs l n rest other final c) same
    r.behind)
ends_once macros n parts out other last final m c (Expanded _ _ _ k _ t kinds rest later expands few runs) y =
    let r = running macros n (Plain t ∷ rest) other final c y in
    let same = expands_once macros (t.kind ∷ []) kinds k expands r.kinds r.spent r.expands in
    ends_once macros (n + k) rest later r.rest last final m c runs (subst (λ (j : ℕ). Runs macros (n + j) rest
    r.rest final c) same.1 r.behind)

refuses_once : (macros : Macros) (n : ℕ) (part : Part) (found other : MacroFault) → Refuses macros n part found
    → Refuses macros n part other → other ≡ found
refuses_once macros n part found other (OfDirective hash words _ x) (OfDirective _ _ _ y) =
    let same = obeys_once macros hash words (Err found) (Err other) x y in cc
refuses_once macros n part found other (OfCount t kinds k x over) (OfCount _ _ _ y more) = refl

fault_once : (names : ℕ) (tokens : List Token) (found other : MacroFault) → HasMacroFault names tokens found
    → HasMacroFault names tokens other → other ≡ found
fault_once names tokens found other x y =
    by (one_front (x.parts ++ x.part ∷ []) (y.parts ++ y.part ∷ []) x.rest y.rest x.are y.are
    (sym x.whole ∙ y.whole))
  where
    at_last : y.parts ≡ x.parts → y.part ≡ x.part → other ≡ found
    at_last parts part =
        let runs : Runs (predefined names) 0 x.parts y.out y.macros y.count = subst
        (λ (ps : List Part). Runs (predefined names) 0 ps y.out y.macros y.count) parts y.runs in
        let same = ends_once (predefined names) 0 x.parts x.out y.out x.macros y.macros x.count y.count x.runs runs in
        let refused : Refuses x.macros x.count x.part other =
        subst (λ (m : Macros). Refuses m x.count x.part other) same.0 (subst (λ (k : ℕ). Refuses y.macros k x.part
        other) same.1 (subst (λ (p : Part). Refuses y.macros y.count p other) part y.refused)) in
        refuses_once x.macros x.count x.part found other x.refused refused

    ahead : IsLastOrWithin x.parts y.parts x.part y.part → other ≡ found
    ahead (inl r) = at_last r.0 r.1
    ahead (inr r) = absurd (refused_once (predefined names) 0 x.parts r.0 x.part found x.out y.out x.macros y.macros
        x.count y.count x.runs x.refused (subst (λ (ps : List Part). Runs (predefined names) 0 ps y.out y.macros
        y.count) r.1 y.runs))

    behind : IsLastOrWithin y.parts x.parts y.part x.part → other ≡ found
    behind (inl r) = at_last (sym r.0) (sym r.1)
    behind (inr r) = absurd (refused_once (predefined names) 0 y.parts r.0 y.part other y.out x.out y.macros
        x.macros y.count x.count y.runs y.refused (subst (λ (ps : List Part). Runs (predefined names) 0 ps x.out
        x.macros x.count) r.1 x.runs))

    by : Begins (x.parts ++ x.part ∷ []) (y.parts ++ y.part ∷ [])
        ⊎ Begins (y.parts ++ y.part ∷ []) (x.parts ++ x.part ∷ []) → other ≡ found
    by (inl r) = ahead (last_or_within x.parts y.parts r.0 x.part y.part r.1)
    by (inr r) = behind (last_or_within y.parts x.parts r.0 y.part x.part r.1)

pub faults_once : {A : Type 0} (names : ℕ) (tokens : List Token) (other : MacroFault) (r : Result A MacroFault)
    → IfErr r (λ found. is_want_of_memory found ≡ false → HasMacroFault names tokens found)
    → HasMacroFault names tokens other → IfErr r (λ found. is_want_of_memory found ≡ false → other ≡ found)
faults_once names tokens other (Ok out) x y = tt
faults_once names tokens other (Err found) x y = λ m. fault_once names tokens found other (x m) y

-- ---- no more tokens than the limit

out_within : (macros : Macros) (ks out : List Kind) (n : ℕ) → Expands macros ks out n → length out ≤ n
out_within macros ks out n (Nothing _) = omega arith
out_within macros ks out n (Kept _ k rest o i e x) = omega (arith, out_within macros rest o i x)
out_within macros ks out n (Replaced _ k name body rest inner o i j w e x y) =
    omega (
      arith,
      length-append inner o,
      out_within (set macros name None) body inner i x,
      out_within macros rest o
          j y,
    )

runs_within : (macros : Macros) (n : ℕ) (parts : List Part) (out : List Token) (last : Macros) (m : ℕ)
    → Runs macros n parts out last m → n ≤ token_limit → n + length out ≤ token_limit
runs_within macros n parts out last m (Ends _ _) h = omega arith
runs_within macros n parts out last m (Directs _ next _ _ _ hash words rest _ obeys runs) h =
    runs_within next n rest out last m runs h
runs_within macros n parts out last m (Expanded _ _ _ k _ t kinds rest later expands few runs) h =
    omega (
      arith,
      length-append (placed t kinds) later,
      length-map kinds (λ (x : Kind). record t { kind = x }),
      out_within macros (t.kind ∷ []) kinds k expands,
      runs_within macros (n + k) rest later last m runs few,
    )

-- ---- the laws of the whole

pub expanded_once : {A : Type 0} (items : A → List Token) (names : ℕ) (tokens other : List Token)
    (r : Result A MacroFault) → IfOk r (λ found. IsExpanded names tokens (items found))
    → IsExpanded names tokens other
    → IfOk r (λ found. other ≡ items found)
expanded_once items names tokens other (Ok found) x y =
    let parts : y.parts ≡ x.parts = parts_once x.parts y.parts x.are y.are (sym x.whole ∙ y.whole) in
    runs_once (predefined names) 0 x.parts (items found) other x.last y.last x.count y.count x.runs
    (subst (λ (ps : List Part). Runs (predefined names) 0 ps other y.last y.count) parts y.runs)
expanded_once items names tokens other (Err f) x y = tt

pub expanded_within : {A : Type 0} (items : A → List Token) (names : ℕ) (tokens : List Token)
    (r : Result A MacroFault) → IfOk r (λ found. IsExpanded names tokens (items found))
    → IfOk r (λ found. length (items found) ≤ token_limit)
expanded_within items names tokens (Ok found) x =
    omega (arith, runs_within (predefined names) 0 x.parts (items found) x.last x.count x.runs (omega arith))
expanded_within items names tokens (Err f) x = tt

fault_none : (names : ℕ) (tokens : List Token) (found : MacroFault) → HasMacroFault names tokens found
    → HasNoExpansion names tokens
fault_none names tokens found x other y =
    let on = goes_on (x.parts ++ x.part ∷ []) y.parts x.rest x.are y.are (sym x.whole ∙ y.whole) in
    let parts : y.parts ≡ x.parts ++ x.part ∷ on.0 = on.1 ∙ append_assoc x.parts (x.part ∷ []) on.0 in
    refused_once (predefined names) 0 x.parts on.0 x.part found x.out other x.macros y.last x.count y.count x.runs
    x.refused (subst (λ (ps : List Part). Runs (predefined names) 0 ps other y.last y.count) parts y.runs)

pub faults_none : {A : Type 0} (names : ℕ) (tokens : List Token) (r : Result A MacroFault)
    → IfErr r (λ found. is_want_of_memory found ≡ false → HasMacroFault names tokens found)
    → IfErr r (λ found. is_want_of_memory found ≡ false → HasNoExpansion names tokens)
faults_none names tokens (Ok out) x = x
faults_none names tokens (Err found) x = λ other. fault_none names tokens found (x other)
