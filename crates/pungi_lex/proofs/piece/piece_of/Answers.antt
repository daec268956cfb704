use Rattle.std.proofs.Common.{◌≡◌, sym, subst, None, MatchOption}
use Rattle.pungi_lex.specs.declared.start.Start.{Start}
use Rattle.pungi_lex.specs.Piece.{IsPieceAt, length_at}
use Rattle.pungi_lex.proofs.piece.piece_of.Goals as goal

pub returns-in-Header-clause-piece : goal.returns-in-Header-clause-piece
returns-in-Header-clause-piece c =
    subst (λ (s : Start). IsPieceAt c.args.names.now s c.args.text.now c.header_piece.result.0
    c.header_piece.result.1) (sym c.in-Header.is) (c.header_piece.ensures c.args.names.now)

pub returns-in-Blank-clause-piece : goal.returns-in-Blank-clause-piece
returns-in-Blank-clause-piece c =
    subst (λ (s : Start). IsPieceAt c.args.names.now s c.args.text.now c.blank_piece.result.0
    c.blank_piece.result.1) (sym c.in-Blank.is) (c.blank_piece.ensures c.args.names.now)

pub returns-in-LineComment-clause-piece : goal.returns-in-LineComment-clause-piece
returns-in-LineComment-clause-piece c =
    subst (λ (s : Start). IsPieceAt c.args.names.now s c.args.text.now c.line_comment_piece.result.0
    c.line_comment_piece.result.1) (sym c.in-LineComment.is) (c.line_comment_piece.ensures c.args.names.now)

pub returns-in-Mark-clause-piece : goal.returns-in-Mark-clause-piece
returns-in-Mark-clause-piece c =
    subst (λ (s : Start). MatchOption c.mark_piece.result (length_at s c.args.text.now ≡ None)
    (λ piece. IsPieceAt c.args.names.now s c.args.text.now piece.0 piece.1)) (sym c.in-Mark.is)
    (c.mark_piece.ensures c.args.names.now)
