-- How far the parts of a text have come.
use Rattle.std.proofs.Common.{◌≡◌, ℕ, suc, ◌+◌, ◌<◌, ◌≤◌, Bool, true, false, not, cond, List, [], ◌∷◌, ◌++◌, length}
use Rattle.std.proofs.Common.{take, drop, get_or, Ok, Err, refl, sym, ap, subst, ◌∙◌, arith, append_assoc}
use Rattle.std.proofs.Common.{take-append-drop}
use Rattle.std.specs.List.{All, list_all, prefix_len}
use Rattle.std.proofs.lemmas.List.{append-nil, drop-drop, length-take-le}
use Rattle.std.proofs.lemmas.List.Elements.{All-head, All-tail}
use Rattle.pungi_base.specs.declared.token.Token.{Token}
use Rattle.pungi_lex.specs.declared.macro_fault.MacroFault.{MacroFault}
use Rattle.pungi_lex.specs.Limits.{token_limit}
use Rattle.pungi_lex.specs.Directive.{IsHash, Obeys}
use Rattle.pungi_lex.specs.Expander.{Part, Directed, Plain, tokens_of_part, tokens_in, starts_first, ArePartsBefore}
use Rattle.pungi_lex.specs.Expander.{Runs, Ends, Directs, Expanded, Refuses, OfDirective, OfCount, IsExpanded}
use Rattle.pungi_lex.specs.Expander.{HasMacroFault}
use Rattle.pungi_lex.specs.Frames.{Stays, IsReplaced, IsOverLimit}
use Rattle.pungi_lex.specs.Macros.{Macros, Expands, Nothing, Kept, placed}
use Rattle.pungi_lex.specs.Predefined.{predefined}
use Rattle.pungi_lex.proofs.FrontLemmas.{front_passes}

-- parts so far, and after them `extra`, whose effect is unknown
pub record Reaches (names : ℕ) (tokens rest : List Token) (extra : List Part) (out : List Token) (last : Macros)
    (count : ℕ) : Type 0 where
  pub all : List Part
  pub whole : tokens ≡ tokens_in (all ++ extra) ++ rest
  pub are : ArePartsBefore (all ++ extra) rest
  pub runs : Runs (predefined names) 0 all out last count

pub record Progress (names : ℕ) (tokens : List Token) (done : ℕ) (m : Macros) (n : ℕ) (out : List Token) : Type 0 where
  pub forward : (parts extra : List Part) (rest later : List Token) (last : Macros) (k : ℕ)
      → drop done tokens ≡ tokens_in (parts ++ extra) ++ rest → ArePartsBefore (parts ++ extra) rest
      → Runs m n parts later last k
      → Reaches names tokens rest extra (out ++ later) last k

pub start : (names : ℕ) (tokens : List Token) → Progress names tokens 0 (predefined names) 0 []
start names tokens =
    record {
      forward = λ parts extra rest later last k e are runs. record {
        all = parts;
        whole = e;
        are = are;
        runs
            = runs;
      };
    }

pub plain_on : (names : ℕ) (tokens behind : List Token) (done next : ℕ) (m : Macros) (n count : ℕ)
    (out after : List Token) (t : Token) → drop done tokens ≡ t ∷ behind → drop next tokens ≡ behind
    → (IsHash t → ⊥)
    → IsReplaced m n t out after count → count ≤ token_limit → Progress names tokens done m n out
    → Progress names tokens next m count after
plain_on names tokens behind done next m n count out after t here there other is within so_far = record {
  forward = λ parts extra rest later last k e are runs.
      let kinds = is.0 in
      let within-k : n + is.1 ≤ token_limit = omega (arith, is.4, within) in
      let on : Runs m (n + is.1) parts later last k = subst (λ (j : ℕ). Runs m j parts later last k) is.4 runs in
      let r = so_far.forward (Plain t ∷ parts) extra rest (placed t kinds ++ later) last k
      (here ∙ ap (λ (l : List Token). t ∷ l) (sym there ∙ e)) (other, are) (Expanded m last n is.1 k t kinds parts
      later is.2 within-k on) in
      record {
        all = r.all;
        whole = r.whole;
        are = r.are;
        runs = subst (λ (l : List Token). Runs (predefined names) 0 r.all l last k)
            (sym (append_assoc out (placed t kinds) later) ∙ ap (λ (l : List Token). l ++ later) (sym is.3)) r.runs;
      };
}

-- the same progress, in other words
told_as : (names : ℕ) (tokens : List Token) (done done' : ℕ) (m : Macros) (n n' : ℕ) (out out' : List Token)
    → done ≡ done' → n ≡ n' → out ≡ out' → Progress names tokens done m n out
    → Progress names tokens done' m n' out'
told_as names tokens done done' m n n' out out' done-is n-is out-is so_far =
    subst (λ (d : ℕ). Progress names tokens d m n' out') done-is (subst (λ (k : ℕ). Progress names tokens done m k
    out') n-is (subst (λ (l : List Token). Progress names tokens done m n l) out-is so_far))

pub kept_on : (names : ℕ) (tokens kept behind : List Token) (done : ℕ) (m : Macros) (n : ℕ) (out : List Token)
    → drop done tokens ≡ kept ++ behind → All (Stays m) kept → n + length kept ≤ token_limit
    → Progress names tokens done m n out → Progress names tokens (done + length kept) m (n + length kept) (out ++ kept)
kept_on names tokens [] behind done m n out here stay within so_far =
    let done-is : done ≡ done + 0 = omega arith in
    let n-is : n ≡ n + 0 = omega arith in
    told_as names tokens done (done + 0) m n (n + 0) out (out ++ []) done-is n-is (sym (append-nil out)) so_far
kept_on names tokens (t ∷ kept) behind done m n out here stay within so_far =
    let stays : Stays m t = All-head (Stays m) t kept stay in
    let there : drop (done + 1) tokens ≡ kept ++ behind = sym (drop-drop 1 done tokens) ∙ ap (drop 1) here in
    let one : Expands m (t.kind ∷ []) (t.kind ∷ []) 1 = Kept m t.kind [] [] 0 stays.1 (Nothing m) in
    let step : Progress names tokens (done + 1) m (n + 1) (out ++ t ∷ []) =
    plain_on names tokens (kept ++ behind) done (done + 1) m n (n + 1) out (out ++ t ∷ []) t here there stays.0
    (t.kind ∷ [], 1, one, refl, refl) (omega arith) so_far in
    let done-is : done + 1 + length kept ≡ done + suc (length kept) = omega arith in
    let n-is : n + 1 + length kept ≡ n + suc (length kept) = omega arith in
    told_as names tokens (done + 1 + length kept) (done + suc (length kept)) m (n + 1 + length kept)
    (n + suc (length kept)) (out ++ t ∷ [] ++ kept) (out ++ (t ∷ kept)) done-is n-is
    (append_assoc out (t ∷ []) kept)
    (kept_on names tokens kept behind (done + 1) m (n + 1) (out ++ t ∷ []) there (All-tail (Stays m) t kept stay)
    (omega arith) step)

pub line_on : (names : ℕ) (tokens ws behind : List Token) (done next : ℕ) (m after : Macros) (n : ℕ)
    (out : List Token) (t : Token) → drop done tokens ≡ t ∷ (ws ++ behind) → drop next tokens ≡ behind → IsHash t
    → list_all (λ (t : Token). not t.first) ws ≡ true → starts_first behind ≡ true → Obeys m t ws (Ok after)
    → Progress names tokens done m n out → Progress names tokens next after n out
line_on names tokens ws behind done next m after n out t here there hash inside ends obeys so_far = record {
  forward = λ parts extra rest later last k e are runs.
      let text : behind ≡ tokens_in (parts ++ extra) ++ rest = sym there ∙ e in
      let whole : drop done tokens ≡ (t ∷ ws ++ tokens_in (parts ++ extra)) ++ rest = here
      ∙ ap (λ (l : List Token). t ∷ (ws ++ l)) text ∙ ap (λ (l : List Token). t ∷ l)
      (sym (append_assoc ws (tokens_in (parts ++ extra)) rest)) in
      so_far.forward (Directed t ws ∷ parts) extra rest later last k whole (
        hash,
        inside,
        subst
            (λ (l : List Token). starts_first l ≡ true) text ends,
        are,
      ) (Directs m after last n k t ws parts later obeys
      runs);
}

pub ended : (names : ℕ) (tokens : List Token) (done : ℕ) (m : Macros) (n : ℕ) (out : List Token)
    → drop done tokens ≡ [] → Progress names tokens done m n out → IsExpanded names tokens out
ended names tokens done m n out none so_far =
    let r = so_far.forward [] [] [] [] m n none tt (Ends m n) in
    record {
      parts = r.all;
      whole = r.whole ∙ ap (λ (l : List Part). tokens_in l ++ []) (append-nil r.all);
      are = subst (λ (l : List Part). ArePartsBefore l []) (append-nil r.all) r.are;
      last = m;
      count = n;
      runs = subst (λ (l : List Token). Runs (predefined names) 0 r.all l m n) (append-nil out) r.runs;
    }

pub stopped : (names : ℕ) (tokens : List Token) (done : ℕ) (m : Macros) (n : ℕ) (out rest : List Token)
    (part : Part) (found : MacroFault) → drop done tokens ≡ (tokens_of_part part ++ []) ++ rest
    → ArePartsBefore (part ∷ []) rest → Refuses m n part found
    → Progress names tokens done m n out → HasMacroFault names tokens found
stopped names tokens done m n out rest part found here are refused so_far =
    let r = so_far.forward [] (part ∷ []) rest [] m n here are (Ends m n) in
    record {
      parts = r.all;
      part = part;
      rest = rest;
      whole = r.whole;
      are = r.are;
      out = out
          ++ [];
      macros = m;
      count = n;
      runs = r.runs;
      refused = refused;
    }

-- ---- in the words of the code

uncons : (rest : List Token) (t : Token) → 0 < length rest → t ≡ get_or rest 0 t → rest ≡ t ∷ drop 1 rest
uncons [] t h is = absurd (omega arith)
uncons (x ∷ rest) t h is = (λ i. sym is i ∷ rest)

later : (n m : ℕ) (xs rest : List Token) → rest ≡ drop n xs → drop (n + m) xs ≡ drop m rest
later n m xs rest is = sym (drop-drop m n xs) ∙ ap (drop m) (sym is)

one_more : (n : ℕ) → suc n ≡ 1 + n
one_more n = omega arith

abbrev within : Token → Bool
within t = not t.first

first_cons : (x : Token) (xs : List Token) (b : Bool) → within x ≡ b
    → starts_first (drop (prefix_len within xs) xs) ≡ true
    → starts_first (drop (cond b (1 + prefix_len within xs) 0) (x ∷ xs)) ≡ true
first_cons x xs true e rest =
    subst (λ (n : ℕ). starts_first (drop n (x ∷ xs)) ≡ true) (one_more (prefix_len within xs)) rest
first_cons x xs false e rest = negated x.first e
  where
    negated : (b : Bool) → not b ≡ false → b ≡ true
    negated true h = refl
    negated false h = sym h

starts : (xs : List Token) → starts_first (drop (prefix_len within xs) xs) ≡ true
starts [] = refl
starts (x ∷ xs) = first_cons x xs (within x) refl (starts xs)

length_none : (xs : List Token) → length xs ≡ 0 → xs ≡ []
length_none [] e = refl
length_none (x ∷ xs) e = absurd (omega arith)

pub at_end : (names : ℕ) (tokens rest : List Token) (done : ℕ) (m : Macros) (n : ℕ) (out : List Token)
    → rest ≡ drop done tokens → length rest ≡ 0 → Progress names tokens done m n out → IsExpanded names tokens out
at_end names tokens rest done m n out is none so_far =
    ended names tokens done m n out (sym is ∙ length_none rest none) so_far

pub at_plain : (names : ℕ) (tokens rest : List Token) (done : ℕ) (m after_m : Macros) (n count : ℕ)
    (out after : List Token) (t : Token) → rest ≡ drop done tokens → 0 < length rest → t ≡ get_or rest 0 t
    → (IsHash t → ⊥)
    → IsReplaced m n t out after count → count ≤ token_limit → after_m ≡ m → Progress names tokens done m n out
    → Progress names tokens (done + 1) after_m count after
at_plain names tokens rest done m after_m n count out after t is some t-is other replaced few same so_far =
    subst (λ (x : Macros). Progress names tokens (done + 1) x count after) (sym same)
    (plain_on names tokens (drop 1 rest) done (done + 1) m n count out after t (sym is ∙ uncons rest t some t-is)
    (later done 1 tokens rest is) other replaced few so_far)

abbrev words_at : List Token → ℕ → List Token
words_at behind n = take n behind

pub at_line : (names : ℕ) (tokens rest behind words : List Token) (done length_of : ℕ) (m after : Macros) (n : ℕ)
    (out : List Token) (t : Token) → rest ≡ drop done tokens → 0 < length rest → t ≡ get_or rest 0 t
    → behind ≡ drop 1 rest
    → length_of ≡ prefix_len within behind → words ≡ take length_of behind → IsHash t → Obeys m t words (Ok after)
    → Progress names tokens done m n out → Progress names tokens (done + (1 + length_of)) after n out
at_line names tokens rest behind words done k m after n out t is some t-is behind-is k-is words-is hash obeys so_far =
    let text : behind ≡ words ++ drop k behind = sym (take-append-drop k behind)
    ∙ ap (λ (l : List Token). l ++ drop k behind) (sym words-is) in
    let here : drop done tokens ≡ t ∷ (words ++ drop k behind) = sym is ∙ uncons rest t some t-is
    ∙ ap (λ (l : List Token). t ∷ l) (sym behind-is ∙ text) in
    let there : drop (done + (1 + k)) tokens ≡ drop k behind = later done (1 + k) tokens rest is
    ∙ later 1 k rest behind behind-is in
    let inside : list_all within words ≡ true = ap (list_all within) (words-is ∙ ap (λ (j : ℕ). take j behind) k-is)
    ∙ front_passes within behind in
    let ends : starts_first (drop k behind) ≡ true = ap (λ (j : ℕ). starts_first (drop j behind)) k-is
    ∙ starts behind in
    line_on names tokens words (drop k behind) done (done + (1 + k)) m after n out t here there hash inside ends
    obeys so_far

pub line_refused : (names : ℕ) (tokens rest behind words : List Token) (done length_of : ℕ) (m : Macros) (n : ℕ)
    (out : List Token) (t : Token) (found : MacroFault) → rest ≡ drop done tokens → 0 < length rest
    → t ≡ get_or rest 0 t → behind ≡ drop 1 rest
    → length_of ≡ prefix_len within behind → words ≡ take length_of behind → IsHash t → Obeys m t words (Err found)
    → Progress names tokens done m n out → HasMacroFault names tokens found
line_refused names tokens rest behind words done k m n out t found is some t-is behind-is k-is words-is hash obeys
    so_far =
    let text : behind ≡ words ++ drop k behind = sym (take-append-drop k behind)
    ∙ ap (λ (l : List Token). l ++ drop k behind) (sym words-is) in
    let here : drop done tokens ≡ t ∷ (words ++ drop k behind) = sym is ∙ uncons rest t some t-is
    ∙ ap (λ (l : List Token). t ∷ l) (sym behind-is ∙ text) in
    let inside : list_all within words ≡ true = ap (list_all within) (words-is ∙ ap (λ (j : ℕ). take j behind) k-is)
    ∙ front_passes within behind in
    let ends : starts_first (drop k behind) ≡ true = ap (λ (j : ℕ). starts_first (drop j behind)) k-is
    ∙ starts behind in
    stopped names tokens done m n out (drop k behind) (Directed t words) found
    (here ∙ ap (λ (l : List Token). t ∷ (l ++ drop k behind)) (sym (append-nil words))) (hash, inside, ends, tt)
    (OfDirective t words found obeys) so_far

pub plain_refused : (names : ℕ) (tokens rest : List Token) (done : ℕ) (m : Macros) (n : ℕ) (out : List Token)
    (t : Token) (found : MacroFault) → rest ≡ drop done tokens → 0 < length rest → t ≡ get_or rest 0 t
    → (IsHash t → ⊥)
    → IsOverLimit m n t found → Progress names tokens done m n out → HasMacroFault names tokens found
plain_refused names tokens rest done m n out t found is some t-is other over so_far =
    stopped names tokens done m n out (drop 1 rest) (Plain t) found (sym is ∙ uncons rest t some t-is) (other, tt)
    (subst (λ (f : MacroFault). Refuses m n (Plain t) f) (sym over.4) (OfCount t over.0 over.1 over.2 over.3)) so_far

pub at_kept : (names : ℕ) (tokens rest kept : List Token) (done length_of : ℕ) (m : Macros) (n : ℕ)
    (out after : List Token) → rest ≡ drop done tokens → kept ≡ take length_of rest → length_of ≤ length rest
    → All (Stays m) (take length_of rest) → n + length_of ≤ token_limit → after ≡ out ++ kept
    → Progress names tokens done m n out → Progress names tokens (done + length_of) m (n + length_of) after
at_kept names tokens rest kept done k m n out after is kept-is within stay few after-is so_far =
    let front = take k rest in
    let long : length front ≡ k = length-take-le k rest within in
    let here : drop done tokens ≡ front ++ drop k rest = sym is ∙ sym (take-append-drop k rest) in
    let done-is : done + length front ≡ done + k = omega arith in
    let n-is : n + length front ≡ n + k = omega arith in
    told_as names tokens (done + length front) (done + k) m (n + length front) (n + k) (out ++ front) after done-is
    n-is (ap (λ (l : List Token). out ++ l) (sym kept-is) ∙ sym after-is)
    (kept_on names tokens front (drop k rest) done m n out here stay (omega arith) so_far)
