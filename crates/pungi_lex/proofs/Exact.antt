-- A text has one cut: where it goes to the end, no cut is stuck, and each that goes to the end is the same.
use Rattle.std.proofs.Common.{◌≡◌, ◌≢◌, ℕ, false, List, [], ◌∷◌, ◌++◌, length, Some, None, refl, sym, ap, subst, ◌∙◌}
use Rattle.std.proofs.Common.{arith, append_assoc}
use Rattle.std.specs.Prelude.{Result, Ok, Err, IfOk, IfErr}
use Rattle.pungi_base.specs.declared.pos.Pos.{Pos}
use Rattle.pungi_base.specs.declared.token.Token.{Token}
use Rattle.pungi_base.specs.Names.{AreNames}
use Rattle.pungi_lex.specs.declared.line.Line.{Line}
use Rattle.pungi_lex.specs.declared.line.Line.TheVariants as lines
use Rattle.pungi_lex.specs.declared.start.Start.{Start}
use Rattle.pungi_lex.specs.declared.lex_fault.LexFault.{LexFault}
use Rattle.pungi_lex.specs.Join.{plain, joined, places_of, place_in}
use Rattle.pungi_lex.specs.Line.{next_line}
use Rattle.pungi_lex.specs.Piece.{length_at, IsKind, spells, with_texts}
use Rattle.pungi_lex.specs.Start.{start_of}
use Rattle.pungi_lex.specs.Tokens.{Piece, text_of, IsCut, line_after, tokens_of, spelled, AreTokens, AreTokensOf}
use Rattle.pungi_lex.specs.Tokens.{HasFault, HasNoTokens, is_memory, fault_at}
use Rattle.pungi_lex.proofs.KindLemmas.{kind_once}

front_same : (a x b y : List ℕ) → length a ≡ length b → a ++ x ≡ b ++ y → (a ≡ b) × (x ≡ y)
front_same [] x [] y n e = (refl, e)
front_same [] x (c ∷ b) y n e = absurd (omega arith)
front_same (c ∷ a) x [] y n e = absurd (omega arith)
front_same (c ∷ a) x (d ∷ b) y n e =
    let head : c ≡ d = cc in
    let tail : a ++ x ≡ b ++ y = cc in
    let r = front_same a x b y (omega arith) tail in
    ((λ i. head i ∷ r.0 i), r.1)

some_same : (a b : ℕ) → Some a ≡ Some b → a ≡ b
some_same a b h = cc

nil_right : (a b : List ℕ) → a ++ b ≡ [] → b ≡ []
nil_right [] b e = e
nil_right (x ∷ a) b e = absurd cc

nothing_begins : (line : Line) → length_at (start_of line []) [] ≡ None
nothing_begins lines.Fresh = refl
nothing_begins lines.Hash = refl
nothing_begins lines.Include = refl
nothing_begins lines.Within = refl

-- ---- two cuts of one text, where both go on

pub record SameHead (line : Line) (p q : Piece) (ps qs : List Piece) (rest end : List ℕ) : Type 0 where
  pub start : p.start ≡ q.start
  pub bytes : p.bytes ≡ q.bytes
  pub behind : text_of ps ++ rest ≡ text_of qs ++ end
  pub line_is : next_line line q.start q.bytes ≡ next_line line p.start p.bytes

same_head : (n m : List (List ℕ)) (line : Line) (p q : Piece) (ps qs : List Piece) (rest end : List ℕ)
    → IsCut n line (p ∷ ps) rest → IsCut m line (q ∷ qs) end → text_of (p ∷ ps) ++ rest ≡ text_of (q ∷ qs) ++ end
    → SameHead line p q ps qs rest end
same_head n m line p q ps qs rest end cut other e =
    let same : p.bytes ++ (text_of ps ++ rest) ≡ q.bytes
    ++ (text_of qs ++ end) = sym (append_assoc p.bytes (text_of ps) rest) ∙ e
    ∙ append_assoc q.bytes (text_of qs) end in
    let started : p.start ≡ q.start = cut.0 ∙ ap (start_of line) same ∙ sym other.0 in
    let measured : Some (length p.bytes) ≡ Some (length q.bytes) = sym cut.1 ∙ (λ i. length_at (started i) (same i))
    ∙ other.1 in
    let parts = front_same p.bytes (text_of ps ++ rest) q.bytes (text_of qs ++ end)
    (some_same (length p.bytes) (length q.bytes) measured) same in
    record {
      start = started;
      bytes = parts.0;
      behind = parts.1;
      line_is = λ i. next_line line (sym started i)
          (sym parts.0 i);
    }

no_more : (n : List (List ℕ)) (line : Line) (q : Piece) (qs : List Piece) (end : List ℕ) → IsCut n line (q ∷ qs) end
    → text_of (q ∷ qs) ++ end ≡ [] → ⊥
no_more n line q qs end cut e =
    let none : q.bytes ++ (text_of qs ++ end) ≡ [] = sym (append_assoc q.bytes (text_of qs) end) ∙ e in
    let measured : None ≡ Some (length q.bytes) = sym (nothing_begins line)
    ∙ (λ i. length_at (start_of line (sym none i)) (sym none i))
    ∙ ap (λ (s : Start). length_at s (q.bytes ++ (text_of qs ++ end))) (sym cut.0) ∙ cut.1 in
    cc

-- ---- a cut that is stuck excludes one that goes to the end

stuck_once : (n m : List (List ℕ)) (line : Line) (ps qs : List Piece) (rest : List ℕ) → IsCut n line ps rest
    → rest ≢ [] → length_at (start_of (line_after line ps) rest) rest ≡ None
    → IsCut m line qs [] → text_of ps ++ rest ≡ text_of qs ++ [] → ⊥
stuck_once n m line [] [] rest cut more none other e = more e
stuck_once n m line [] (q ∷ qs) rest cut more none other e =
    let whole : rest ≡ q.bytes ++ (text_of qs ++ []) = e ∙ append_assoc q.bytes (text_of qs) [] in
    let measured : None ≡ Some (length q.bytes) = sym none ∙ (λ i. length_at (start_of line (whole i)) (whole i))
    ∙ ap (λ (s : Start). length_at s (q.bytes ++ (text_of qs ++ []))) (sym other.0) ∙ other.1 in
    cc
stuck_once n m line (p ∷ ps) [] rest cut more none other e = more (nil_right (p.bytes ++ text_of ps) rest e)
stuck_once n m line (p ∷ ps) (q ∷ qs) rest cut more none other e =
    let head = same_head n m line p q ps qs rest [] cut other e in
    stuck_once n m (next_line line p.start p.bytes) ps qs rest cut.3 more none
    (subst (λ (l : Line). IsCut m l qs []) head.line_is other.3) head.behind

pub fault_none : (before : List (List ℕ)) (text : List ℕ) (found : LexFault) → HasFault text found
    → HasNoTokens before text
fault_none before text found stuck after tokens are =
    stuck_once stuck.names after lines.Fresh stuck.pieces are.pieces stuck.rest stuck.cut stuck.more stuck.stuck
    are.cut (sym stuck.whole ∙ are.whole)

pub faults_none : {A : Type 0} (before : List (List ℕ)) (text : List ℕ) (r : Result A LexFault)
    → IfErr r (λ fault. is_memory fault ≡ false → HasFault text fault)
    → IfErr r (λ fault. is_memory fault ≡ false → HasNoTokens before text)
faults_none before text (Ok x) h = h
faults_none before text (Err f) h = λ m. fault_none before text f (h m)

-- ---- two cuts that are stuck are stuck at one place

never_both : (line : Line) (q : Piece) (qs : List Piece) (rest end : List ℕ) (m : List (List ℕ))
    → length_at (start_of line rest) rest ≡ None → IsCut m line (q ∷ qs) end → rest ≡ text_of (q ∷ qs) ++ end → ⊥
never_both line q qs rest end m none other e =
    let whole : rest ≡ q.bytes ++ (text_of qs ++ end) = e ∙ append_assoc q.bytes (text_of qs) end in
    let measured : None ≡ Some (length q.bytes) = sym none ∙ (λ i. length_at (start_of line (whole i)) (whole i))
    ∙ ap (λ (s : Start). length_at s (q.bytes ++ (text_of qs ++ end))) (sym other.0) ∙ other.1 in
    cc

record SamePlace (line : Line) (ps qs : List Piece) (rest end : List ℕ) : Type 0 where
  pub rest_is : end ≡ rest
  pub line_is : line_after line qs ≡ line_after line ps
  pub front : text_of qs ≡ text_of ps

stuck_same : (n m : List (List ℕ)) (line : Line) (ps qs : List Piece) (rest end : List ℕ) → IsCut n line ps rest
    → IsCut m line qs end → length_at (start_of (line_after line ps) rest) rest ≡ None
    → length_at (start_of (line_after line qs) end) end ≡ None → text_of ps ++ rest ≡ text_of qs ++ end
    → SamePlace line ps qs rest end
stuck_same n m line [] [] rest end cut other none still e = record { rest_is = sym e; line_is = refl; front = refl }
stuck_same n m line [] (q ∷ qs) rest end cut other none still e = absurd (never_both line q qs rest end m none other e)
stuck_same n m line (p ∷ ps) [] rest end cut other none still e =
    absurd (never_both line p ps end rest n still cut (sym e))
stuck_same n m line (p ∷ ps) (q ∷ qs) rest end cut other none still e =
    let head = same_head n m line p q ps qs rest end cut other e in
    let next = next_line line p.start p.bytes in
    let later : IsCut m next qs end = subst (λ (l : Line). IsCut m l qs end) head.line_is other.3 in
    let stays : length_at (start_of (line_after next qs) end) end
    ≡ None = subst (λ (l : Line). length_at (start_of (line_after l qs) end) end ≡ None) head.line_is still in
    let r = stuck_same n m next ps qs rest end cut.3 later none stays head.behind in
    record {
      rest_is = r.rest_is;
      line_is = ap (λ (l : Line). line_after l qs) head.line_is ∙ r.line_is;
      front = λ i. sym head.bytes i ++ r.front i;
    }

fault_once : (text : List ℕ) (found other : LexFault) → HasFault text found → HasFault text other → other ≡ found
fault_once text found other x y =
    let place = place_in (places_of (joined text)) in
    let same = stuck_same x.names y.names lines.Fresh x.pieces y.pieces x.rest y.rest x.cut y.cut x.stuck y.stuck
    (sym x.whole ∙ y.whole) in
    y.told ∙ (λ i. fault_at (start_of (same.line_is i) (same.rest_is i)) (place (length (same.front i)))) ∙ sym x.told

pub faults_once : {A : Type 0} (text : List ℕ) (other : LexFault) (r : Result A LexFault)
    → IfErr r (λ fault. is_memory fault ≡ false → HasFault text fault) → HasFault text other
    → IfErr r (λ fault. is_memory fault ≡ false → other ≡ fault)
faults_once text other (Ok x) h y = tt
faults_once text other (Err f) h y = λ m. fault_once text f other (h m) y

-- ---- two cuts that go to the end are one

-- they spell the same, whatever the names
spelled_once : (n m : List (List ℕ)) (line : Line) (ps qs : List Piece) → IsCut n line ps [] → IsCut m line qs []
    → text_of ps ++ [] ≡ text_of qs ++ [] → spelled ps ≡ spelled qs
spelled_once n m line [] [] cut other e = refl
spelled_once n m line [] (q ∷ qs) cut other e = absurd (no_more m line q qs [] other (sym e))
spelled_once n m line (p ∷ ps) [] cut other e = absurd (no_more n line p ps [] cut e)
spelled_once n m line (p ∷ ps) (q ∷ qs) cut other e =
    let head = same_head n m line p q ps qs [] [] cut other e in
    let rest = spelled_once n m (next_line line p.start p.bytes) ps qs cut.3
    (subst (λ (l : Line). IsCut m l qs []) head.line_is other.3) head.behind in
    (λ i. spells (head.start i) (head.bytes i) ++ rest i)

-- so the names are the same, and with them the pieces
pieces_once : (names : List (List ℕ)) (line : Line) (ps qs : List Piece) → AreNames names → IsCut names line ps []
    → IsCut names line qs [] → text_of ps ++ [] ≡ text_of qs ++ [] → ps ≡ qs
pieces_once names line [] [] are cut other e = refl
pieces_once names line [] (q ∷ qs) are cut other e = absurd (no_more names line q qs [] other (sym e))
pieces_once names line (p ∷ ps) [] are cut other e = absurd (no_more names line p ps [] cut e)
pieces_once names line (p ∷ ps) (q ∷ qs) are cut other e =
    let head = same_head names names line p q ps qs [] [] cut other e in
    let named : IsKind names p.start q.found p.bytes = subst (λ (s : Start). IsKind names s q.found p.bytes)
    (sym head.start) (subst (λ (b : List ℕ). IsKind names q.start q.found b) (sym head.bytes) other.2) in
    let found : p.found ≡ q.found = kind_once names p.start p.found q.found p.bytes are cut.2 named in
    let rest = pieces_once names (next_line line p.start p.bytes) ps qs are cut.3
    (subst (λ (l : Line). IsCut names l qs []) head.line_is other.3) head.behind in
    (λ i. record { start = head.start i; found = found i; bytes = head.bytes i } ∷ rest i)

once : (before after others : List (List ℕ)) (bytes : List ℕ) (place : ℕ → Pos) (tokens more : List Token)
    → AreNames after → AreTokens before after bytes place tokens → AreTokens before others bytes place more
    → (others ≡ after) × (more ≡ tokens)
once before after others bytes place tokens more are x y =
    let whole : text_of y.pieces ++ [] ≡ text_of x.pieces ++ [] = sym y.whole ∙ x.whole in
    let same : others ≡ after = y.names_are ∙ ap (with_texts before) (spelled_once others after lines.Fresh y.pieces
    x.pieces y.cut x.cut whole) ∙ sym x.names_are in
    let pieces : y.pieces ≡ x.pieces = pieces_once after lines.Fresh y.pieces x.pieces are
    (subst (λ (l : List (List ℕ)). IsCut l lines.Fresh y.pieces []) same y.cut) x.cut whole in
    (same, y.tokens_are ∙ ap (tokens_of place 0 lines.Fresh false) pieces ∙ sym x.tokens_are)

pub tokens_once : {A : Type 0} (items : A → List Token) (before after others : List (List ℕ)) (text : List ℕ)
    (more : List Token) (r : Result A LexFault) → AreNames after
    → IfOk r (λ found. AreTokensOf before after text (items found))
    → IfErr r (λ fault. is_memory fault ≡ false → HasFault text fault) → AreTokensOf before others text more
    → IfOk r (λ found. (others ≡ after) × (more ≡ items found))
tokens_once items before after others text more (Ok found) are x none y =
    once before after others (plain text) (place_in (places_of (joined text))) (items found) more are x y
tokens_once items before after others text more (Err f) are x none y = tt
