use Rattle.std.proofs.Common.{◌≡◌, ◌<◌, ◌++◌, ◌∙◌, length, drop, ap, sym, arith}
use Rattle.std.proofs.lemmas.List.{drop-drop}
use Rattle.pungi_base.specs.declared.pos.Pos.{Pos}
use Rattle.std.proofs.lemmas.Bool.Decides.{nat_tests}
use Rattle.pungi_lex.specs.Join.{place_in}
use Rattle.pungi_lex.specs.Stretch.{places_along}
use Rattle.pungi_lex.specs.Tokens.{fault_at, token_of}
use Rattle.pungi_lex.proofs.StretchLemmas.{next_place}
use Rattle.pungi_lex.proofs.Progress.{progress_on, progress_end, progress_stuck, extends_on}
use Rattle.pungi_lex.proofs.tokens.cut.Goals as goal

pub returns-then-is_empty-clause-tokens : goal.returns-then-is_empty-clause-tokens
returns-then-is_empty-clause-tokens c =
    let none : length c.split_at.result.1.now ≡ 0 = grind (arith, nat_tests, c.is_empty.ensures, c.if-is_empty.true) in
    progress_end c.args.names.now c.pieces.names c.args.bytes.now (place_in (places_along c.args.stretches.now))
    c.pieces.tokens.items c.pieces.done c.pieces.line c.pieces.touching c.split_at.result.1.now
    c.pieces.invariant.progress c.split_at.ensures.back none

pub returns-in-None-clause-refused : goal.returns-in-None-clause-refused
returns-in-None-clause-refused c = λ other.
    let none = rw c.in-None.is at c.in_ok-piece_of.ensures.piece in
    let some : 0 < length c.split_at.result.1.now = grind (arith, nat_tests, c.is_empty.ensures, c.if-is_empty.false) in
    let at : c.pieces.spot.at ≡ place_in (places_along c.args.stretches.now) c.pieces.done =
    sym (next_place (places_along c.args.stretches.now) (places_along (drop c.pieces.spot.next
    c.args.stretches.now)) c.pieces.done c.pieces.spot.left c.pieces.spot.at c.pieces.invariant.here
    c.pieces.invariant.end (omega (arith, some, c.split_at.ensures.back_len, c.requires.same))) in
    progress_stuck c.args.names.now c.pieces.names c.args.bytes.now (place_in (places_along c.args.stretches.now))
    c.pieces.tokens.items c.pieces.done c.pieces.line c.pieces.touching c.split_at.result.1.now
    c.start_of-start.result c.fault_at.result c.pieces.invariant.progress c.split_at.ensures.back some
    c.start_of-start.ensures.start none (c.fault_at.ensures ∙ ap (fault_at c.start_of-start.result) at)

pub pieces-preserved : goal.pieces-preserved
pieces-preserved c =
    let found = rw c.in-Some.is at c.in_ok-piece_of.ensures.piece in
    let added = rw c.in-Some.is at c.in_ok-piece_of.ensures.added in
    let so_far = c.pieces.invariant in
    let some : 0 < length c.split_at.result.1.now = grind (arith, nat_tests, c.is_empty.ensures, c.if-is_empty.false) in
    let at : c.pieces.spot.at ≡ place_in (places_along c.args.stretches.now) c.pieces.done =
    sym (next_place (places_along c.args.stretches.now) (places_along (drop c.pieces.spot.next
    c.args.stretches.now)) c.pieces.done c.pieces.spot.left c.pieces.spot.at so_far.here so_far.end
    (omega (arith, some, c.split_at.ensures.back_len, c.requires.same))) in
    let step = progress_on c.args.names.now c.pieces.names c.piece_of.new.names c.args.bytes.now
    (place_in (places_along c.args.stretches.now)) c.pieces.tokens.items c.push_token.new.tokens.items
    c.pieces.done
    c.pieces.line c.next_line-line.result c.pieces.touching c.is_fresh.result c.is_token-touching.result
    c.start_of-start.result
    c.split_at.result.1.now c.split_at-in-Some.result.0.now c.in-Some.found c.in-Some.count
    so_far.progress c.in_ok-piece_of.ensures.grows c.split_at.ensures.back c.split_at-in-Some.ensures.front
    c.start_of-start.ensures.start found added
    c.is_fresh.ensures (c.in_ok-push_token-in-Some.ensures.tokens
    ∙ ap (λ (p : Pos). c.pieces.tokens.items ++ token_of c.in-Some.found p c.is_fresh.result c.pieces.touching)
    at) c.is_token-touching.ensures c.next_line-line.ensures in
    record {
      progress = step;
      here = sym (drop-drop c.in-Some.count c.pieces.done (places_along c.args.stretches.now))
          ∙ ap (drop c.in-Some.count) so_far.here ∙ sym c.spot_behind-spot.ensures.left;
      end = c.spot_behind-spot.ensures.end;
      col = c.spot_behind-spot.ensures.col;
      few = omega (arith, found.some, so_far.few, c.in_ok-push_token-in-Some.ensures.one);
      within = omega (arith, found.within, c.split_at.ensures.back_len, so_far.within);
      grows = extends_on c.args.names.now c.pieces.names c.piece_of.new.names so_far.grows
          c.in_ok-piece_of.ensures.grows;
      names = λ are. c.in_ok-piece_of.ensures.names (so_far.names are);
      room = omega (arith, c.in_ok-piece_of.ensures.room, found.some, so_far.room);
    }
