-- How far the cut of a text has come.
use Rattle.std.proofs.Common.{◌≡◌, ℕ, suc, zero, ◌+◌, ◌<◌, Bool, false, List, [], ◌∷◌, ◌++◌, length, take, drop, Option}
use Rattle.std.proofs.Common.{Some, None, refl, sym, ap, subst, ◌∙◌, arith, append_assoc, take-append-drop}
use Rattle.std.proofs.Common.{length-append}
use Rattle.std.specs.Prelude.{slice_get}
use Rattle.std.proofs.lemmas.List.{append-nil, drop-drop, length-take-le}
use Rattle.std.proofs.lemmas.List.Sums.{fold-append}
use Rattle.pungi_base.specs.declared.pos.Pos.{Pos}
use Rattle.pungi_base.specs.declared.kind.Kind.{Kind}
use Rattle.pungi_base.specs.declared.kind.Kind.TheVariants as kind
use Rattle.pungi_base.specs.declared.token.Token.{Token}
use Rattle.pungi_base.specs.Names.{with_text, Extends}
use Rattle.pungi_base.specs.Token.{key_number}
use Rattle.pungi_lex.specs.declared.line.Line.{Line}
use Rattle.pungi_lex.specs.declared.line.Line.TheVariants as lines
use Rattle.pungi_lex.specs.declared.start.Start.{Start}
use Rattle.pungi_lex.specs.declared.start.Start.TheVariants as start
use Rattle.pungi_lex.specs.declared.lex_fault.LexFault.{LexFault}
use Rattle.pungi_lex.specs.Line.{next_line, is_fresh}
use Rattle.pungi_lex.specs.Piece.{length_at, IsKind, NamesWord, NamesText, IsPieceAt, spells, with_texts}
use Rattle.pungi_lex.specs.Quote.{content}
use Rattle.pungi_lex.specs.Start.{start_of, is_token}
use Rattle.pungi_lex.specs.Tokens.{Piece, text_of, IsCut, token_of, tokens_of, line_after, spelled, AreTokens, IsStuck}
use Rattle.pungi_lex.specs.Tokens.{fault_at}

-- ---- names that grow

get_front : (names more : List (List ℕ)) (n : ℕ) (text : List ℕ) → slice_get names n ≡ Some text
    → slice_get (names ++ more) n ≡ Some text
get_front [] more n text h = absurd cc
get_front (t ∷ names) more zero text h = h
get_front (t ∷ names) more (suc n) text h = get_front names more n text h

word_more : (names more : List (List ℕ)) (found : Option Kind) (piece : List ℕ) → NamesWord names found piece
    → NamesWord (names ++ more) found piece
word_more names more None piece s = absurd s
word_more names more (Some (kind.Key key)) piece s = get_front names more (key_number key) piece s
word_more names more (Some (kind.Word name)) piece s = (get_front names more name.0 piece s.0, s.1)
word_more names more (Some (kind.Int value long unsigned)) piece s = absurd s
word_more names more (Some kind.Float) piece s = absurd s
word_more names more (Some (kind.Char b)) piece s = absurd s
word_more names more (Some (kind.Text name)) piece s = absurd s
word_more names more (Some (kind.Punct p)) piece s = absurd s
word_more names more (Some kind.Header) piece s = absurd s

text_more : (names more : List (List ℕ)) (found : Option Kind) (piece : List ℕ) → NamesText names found piece
    → NamesText (names ++ more) found piece
text_more names more None piece s = absurd s
text_more names more (Some (kind.Key key)) piece s = absurd s
text_more names more (Some (kind.Word name)) piece s = absurd s
text_more names more (Some (kind.Int value long unsigned)) piece s = absurd s
text_more names more (Some kind.Float) piece s = absurd s
text_more names more (Some (kind.Char b)) piece s = absurd s
text_more names more (Some (kind.Text name)) piece s = get_front names more name.0 piece s
text_more names more (Some (kind.Punct p)) piece s = absurd s
text_more names more (Some kind.Header) piece s = absurd s

pub kind_more : (names more : List (List ℕ)) (st : Start) (found : Option Kind) (piece : List ℕ)
    → IsKind names st found piece → IsKind (names ++ more) st found piece
kind_more names more start.Header found piece s = s
kind_more names more start.Blank found piece s = s
kind_more names more start.LineComment found piece s = s
kind_more names more start.Comment found piece s = s
kind_more names more start.Word found piece s = word_more names more found piece s
kind_more names more start.Number found piece s = s
kind_more names more start.Char found piece s = s
kind_more names more start.Text found piece s = text_more names more found (content piece) s
kind_more names more start.Mark found piece s = s
kind_more names more start.Nothing found piece s = s

-- ---- progress

-- A cut of the bytes up to an end, whose names, tokens, line and length are these.
pub record Reaches (before spelled_names names : List (List ℕ)) (bytes : List ℕ) (place : ℕ → Pos) (end : List ℕ)
    (tokens : List Token) (line : Line) (done : ℕ) : Type 0 where
  pub pieces : List Piece
  pub whole : bytes ≡ text_of pieces ++ end
  pub cut : IsCut names lines.Fresh pieces end
  pub names_are : spelled_names ≡ with_texts before (spelled pieces)
  pub tokens_are : tokens ≡ tokens_of place 0 lines.Fresh false pieces
  pub line_is : line ≡ line_after lines.Fresh pieces
  pub done_is : done ≡ length (text_of pieces)

-- Each cut of what is left completes to a cut of the bytes.
pub record Progress (before names : List (List ℕ)) (bytes : List ℕ) (place : ℕ → Pos) (tokens : List Token)
    (done : ℕ) (line : Line) (touching : Bool) : Type 0 where
  pub forward : (more : List (List ℕ)) (pieces : List Piece) (end : List ℕ)
      → drop done bytes ≡ text_of pieces ++ end → IsCut (names ++ more) line pieces end
      → Reaches before (with_texts names (spelled pieces)) (names ++ more) bytes place end
      (tokens ++ tokens_of place done line touching pieces) (line_after line pieces)
      (done + length (text_of pieces))

pub progress_start : (names : List (List ℕ)) (bytes : List ℕ) (place : ℕ → Pos)
    → Progress names names bytes place [] 0 lines.Fresh false
progress_start names bytes place =
    record {
      forward = λ more pieces end e cut. record {
        pieces = pieces;
        whole = e;
        cut = cut;
        names_are = refl;
        tokens_are = refl;
        line_is = refl;
        done_is = omega arith;
      };
    }

pub progress_step : (before names new : List (List ℕ)) (bytes : List ℕ) (place : ℕ → Pos) (tokens : List Token)
    (done : ℕ) (line : Line) (touching : Bool) (rest piece : List ℕ) (st : Start) (found : Option Kind) (count : ℕ)
    → Progress before names bytes place tokens done line touching → Extends names new → rest ≡ drop done bytes
    → piece ≡ take count rest → st ≡ start_of line rest → IsPieceAt new st rest found count
    → new ≡ with_texts names (spells st piece)
    → Progress before new bytes place (tokens ++ token_of found (place done) (is_fresh line) touching)
    (done + count) (next_line line st piece) (is_token st)
progress_step before names new bytes place tokens done line touching rest piece st found count so_far grows rest-is
    piece-is start-is is added = record {
      forward = λ more pieces end e cut.
          let p : Piece = record { start = st; found = found; bytes = piece } in
          let names-is : names ++ (grows.0 ++ more) ≡ new ++ more = sym (append_assoc names grows.0 more)
          ∙ ap (λ (l : List (List ℕ)). l ++ more) (sym grows.1) in
          let long : length piece ≡ count = ap length piece-is ∙ length-take-le count rest is.within in
          let behind : drop (done + count) bytes ≡ drop count rest = sym (drop-drop count done bytes)
          ∙ ap (drop count) (sym rest-is) in
          let text : rest ≡ piece ++ (text_of pieces ++ end) = sym (take-append-drop count rest)
          ∙ (λ i. sym piece-is i ++ (sym behind ∙ e) i) in
          let started : st ≡ start_of line (piece ++ (text_of pieces ++ end)) = start-is ∙ ap (start_of line) text in
          let measured : length_at st (piece ++ (text_of pieces ++ end))
          ≡ Some (length piece) = ap (length_at st) (sym text) ∙ is.measured ∙ ap Some (sym long) in
          let named : IsKind (new ++ more) st found piece = kind_more new more st found piece
          (subst (λ (t : List ℕ). IsKind new st found t) (sym piece-is) is.named) in
          let whole : drop done bytes ≡ (piece ++ text_of pieces) ++ end = sym rest-is ∙ text
          ∙ sym (append_assoc piece (text_of pieces) end) in
          let all : IsCut (names ++ (grows.0 ++ more)) line (p ∷ pieces) end = subst
          (λ (l : List (List ℕ)). IsCut l line (p ∷ pieces) end) (sym names-is) (started, measured, named, cut) in
          let r = so_far.forward (grows.0 ++ more) (p ∷ pieces) end whole all in
          record {
            pieces = r.pieces;
            whole = r.whole;
            cut = subst (λ (l : List (List ℕ)). IsCut l lines.Fresh r.pieces end) names-is r.cut;
            names_are = ap (λ (l : List (List ℕ)). with_texts l (spelled pieces)) added
                ∙ sym (fold-append with_text names (spells st piece) (spelled pieces)) ∙ r.names_are;
            tokens_are = append_assoc tokens (token_of found (place done) (is_fresh line) touching)
                (tokens_of place (done + count) (next_line line st piece) (is_token st) pieces)
                ∙ ap (λ (n : ℕ). tokens ++ (token_of found (place done) (is_fresh line) touching
                ++ tokens_of place (done + n) (next_line line st piece) (is_token st) pieces)) (sym long)
                ∙ r.tokens_are;
            line_is = r.line_is;
            done_is = omega (arith, r.done_is, length-append piece (text_of pieces), long);
          };
    }

-- the same, in the words of the code
pub progress_on : (before names new : List (List ℕ)) (bytes : List ℕ) (place : ℕ → Pos) (tokens later : List Token)
    (done : ℕ) (line after : Line) (touching first touches : Bool) (st : Start) (rest piece : List ℕ)
    (found : Option Kind) (count : ℕ)
    → Progress before names bytes place tokens done line touching → Extends names new → rest ≡ drop done bytes
    → piece ≡ take count rest → st ≡ start_of line rest → IsPieceAt new st rest found count
    → new ≡ with_texts names (spells st (take count rest))
    → first ≡ is_fresh line → later ≡ tokens ++ token_of found (place done) first touching → touches ≡ is_token st
    → after ≡ next_line line st piece
    → Progress before new bytes place later (done + count) after touches
progress_on before names new bytes place tokens later done line after touching first touches st rest piece found
    count so_far grows rest-is piece-is start-is is added first-is later-is touches-is after-is =
    let step = progress_step before names new bytes place tokens done line touching rest piece st found count so_far
    grows rest-is piece-is start-is is (added ∙ ap (λ (t : List ℕ). with_texts names (spells st t))
    (sym piece-is)) in
    let l : later ≡ tokens ++ token_of found (place done) (is_fresh line) touching = later-is
    ∙ ap (λ (f : Bool). tokens ++ token_of found (place done) f touching) first-is in
    subst (λ (ts : List Token). Progress before new bytes place ts (done + count) after touches) (sym l)
    (subst (λ (x : Line). Progress before new bytes place (tokens
    ++ token_of found (place done) (is_fresh line) touching) (done + count) x touches) (sym after-is)
    (subst (λ (t : Bool). Progress before new bytes place (tokens
    ++ token_of found (place done) (is_fresh line) touching) (done + count) (next_line line st piece) t)
    (sym touches-is) step))

length_none : (xs : List ℕ) → length xs ≡ 0 → xs ≡ []
length_none [] e = refl
length_none (x ∷ xs) e = absurd (omega arith)

pub progress_end : (before names : List (List ℕ)) (bytes : List ℕ) (place : ℕ → Pos) (tokens : List Token)
    (done : ℕ) (line : Line) (touching : Bool) (rest : List ℕ)
    → Progress before names bytes place tokens done line touching → rest ≡ drop done bytes → length rest ≡ 0
    → AreTokens before names bytes place tokens
progress_end before names bytes place tokens done line touching rest so_far rest-is none =
    let r = so_far.forward [] [] [] (sym rest-is ∙ length_none rest none) tt in
    record {
      pieces = r.pieces;
      whole = r.whole;
      cut = subst (λ (l : List (List ℕ)). IsCut l lines.Fresh r.pieces []) (append-nil names) r.cut;
      names_are = r.names_are;
      tokens_are = sym (append-nil tokens) ∙ r.tokens_are;
    }

pub progress_stuck : (before names : List (List ℕ)) (bytes : List ℕ) (place : ℕ → Pos) (tokens : List Token)
    (done : ℕ) (line : Line) (touching : Bool) (rest : List ℕ) (st : Start) (fault : LexFault)
    → Progress before names bytes place tokens done line touching → rest ≡ drop done bytes → 0 < length rest
    → st ≡ start_of line rest → length_at st rest ≡ None → fault ≡ fault_at st (place done)
    → IsStuck bytes place fault
progress_stuck before names bytes place tokens done line touching rest st fault so_far rest-is some start-is none told =
    let r = so_far.forward [] [] rest (sym rest-is) tt in
    let n : done ≡ length (text_of r.pieces) = omega (arith, r.done_is) in
    let started : st ≡ start_of (line_after lines.Fresh r.pieces) rest = start-is
    ∙ ap (λ (l : Line). start_of l rest) r.line_is in
    record {
      names = names ++ [];
      pieces = r.pieces;
      rest = rest;
      whole = r.whole;
      cut = r.cut;
      more = λ e. omega (arith, some, ap length e);
      stuck = subst (λ (s : Start). length_at s rest ≡ None) started none;
      told = told ∙ (λ i. fault_at (started i) (place (n i)));
    }

pub extends_on : (a b c : List (List ℕ)) → Extends a b → Extends b c → Extends a c
extends_on a b c x y = (x.0 ++ y.0, y.1 ∙ ap (λ (l : List (List ℕ)). l ++ y.0) x.1 ∙ append_assoc a x.0 y.0)
