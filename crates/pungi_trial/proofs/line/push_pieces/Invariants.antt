use Rattle.std.proofs.Common.{◌≡◌, ◌++◌, drop, map, string_bytes}
use Rattle.std.specs.Fmt.{decimal}
use Rattle.pungi_trial.specs.Pieces.{pieces_text}
use Rattle.pungi_trial.proofs.line.push_pieces.Given as goal

-- the pieces so far and those that are left are all pieces
abbrev pub invariant-loop-piece : goal.invariant-loop-piece
invariant-loop-piece l =
    string_bytes l.text ++ pieces_text (decimal l.k) (map (λ p. p.now) (drop l.piece-index l.pieces))
    ≡ string_bytes l.initial.text ++ pieces_text (decimal l.k) (map (λ p. p.now) l.pieces)
