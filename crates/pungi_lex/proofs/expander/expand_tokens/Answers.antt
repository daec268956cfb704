use Rattle.std.proofs.Common.{◌≡◌, ◌<◌, ◌≤◌, ◌+◌, length, arith}
use Rattle.std.proofs.lemmas.Bool.Decides.{nat_tests}
use Rattle.pungi_lex.specs.Limits.{token_limit}
use Rattle.pungi_lex.proofs.RunLemmas.{at_end, at_kept, at_plain, at_line, line_refused, plain_refused}
use Rattle.pungi_lex.proofs.expander.expand_tokens.Goals as goal

pub returns-then-is_empty-clause-expanded : goal.returns-then-is_empty-clause-expanded
returns-then-is_empty-clause-expanded c =
    let none : length c.split_at.result.1.now ≡ 0 = grind (arith, nat_tests, c.is_empty.ensures, c.if-is_empty.true) in
    at_end (length c.args.names.now) c.args.tokens.now c.split_at.result.1.now c.parts.done c.parts.table.items
    c.parts.count c.parts.out.items c.split_at.ensures.back none c.parts.invariant.progress

pub parts-preserved-in-Ok : goal.parts-preserved-in-Ok
parts-preserved-in-Ok c =
    let some : 0 < length c.split_at.result.1.now = grind (arith, nat_tests, c.is_empty.ensures, c.if-is_empty.false) in
    record {
      progress = at_line (length c.args.names.now) c.args.tokens.now c.split_at.result.1.now
          c.split_at-then-is_hash.result.1.now c.split_at-then-is_hash-2.result.0.now c.parts.done
          c.line_count-length.result c.parts.table.items c.obey.new.table.items c.parts.count c.parts.out.items
          c.token_at-token.result
          c.split_at.ensures.back some c.token_at-token.ensures c.split_at-then-is_hash.ensures.back
          c.line_count-length.ensures.count c.split_at-then-is_hash-2.ensures.front
          (c.is_hash.ensures.yes c.if-is_hash.true) c.in-Ok.ensures.obeyed c.parts.invariant.progress;
      within = omega (
        arith,
        c.line_count-length.ensures.within,
        c.split_at-then-is_hash.ensures.back_len,
        c.split_at.ensures.back_len,
        c.parts.invariant.within,
      );
      few = c.parts.invariant.few;
    }

pub returns-in-Err-clause-fault : goal.returns-in-Err-clause-fault
returns-in-Err-clause-fault c = λ other.
    let some : 0 < length c.split_at.result.1.now = grind (arith, nat_tests, c.is_empty.ensures, c.if-is_empty.false) in
    line_refused (length c.args.names.now) c.args.tokens.now c.split_at.result.1.now
    c.split_at-then-is_hash.result.1.now c.split_at-then-is_hash-2.result.0.now c.parts.done
    c.line_count-length.result c.parts.table.items c.parts.count c.parts.out.items c.token_at-token.result
    c.in-Err.found
    c.split_at.ensures.back some c.token_at-token.ensures c.split_at-then-is_hash.ensures.back
    c.line_count-length.ensures.count c.split_at-then-is_hash-2.ensures.front
    (c.is_hash.ensures.yes c.if-is_hash.true) (c.in-Err.ensures.fault other) c.parts.invariant.progress

pub parts-preserved : goal.parts-preserved
parts-preserved c =
    let some : 0 < length c.split_at.result.1.now = grind (arith, nat_tests, c.is_empty.ensures, c.if-is_empty.false) in
    record {
      progress = at_plain (length c.args.names.now) c.args.tokens.now c.split_at.result.1.now c.parts.done
          c.parts.table.items c.expand_token.new.table.items c.parts.count c.in-Ok-expand_token.now c.parts.out.items
          c.expand_token.new.out.items c.token_at-token.result
          c.split_at.ensures.back some c.token_at-token.ensures (c.is_hash.ensures.other c.if-is_hash.false)
          c.in-Ok-expand_token.ensures.replaced c.in-Ok-expand_token.ensures.within
          c.in-Ok-expand_token.ensures.same c.parts.invariant.progress;
      within = omega (arith, some, c.split_at.ensures.back_len, c.parts.invariant.within);
      few = c.in-Ok-expand_token.ensures.within;
    }

pub returns-in-Err-expand_token-clause-fault : goal.returns-in-Err-expand_token-clause-fault
returns-in-Err-expand_token-clause-fault c = λ other.
    let some : 0 < length c.split_at.result.1.now = grind (arith, nat_tests, c.is_empty.ensures, c.if-is_empty.false) in
    plain_refused (length c.args.names.now) c.args.tokens.now c.split_at.result.1.now c.parts.done
    c.parts.table.items c.parts.count c.parts.out.items c.token_at-token.result c.in-Err-expand_token.found
    c.split_at.ensures.back some c.token_at-token.ensures (c.is_hash.ensures.other c.if-is_hash.false)
    (c.in-Err-expand_token.ensures.over other) c.parts.invariant.progress

pub parts-preserved-then-length-gt0 : goal.parts-preserved-then-length-gt0
parts-preserved-then-length-gt0 c =
    let few : c.parts.count + c.stay_count-length.result
    ≤ token_limit = omega (arith, c.stay_count-length.ensures.few, c.parts.invariant.few) in
    record {
      progress = at_kept (length c.args.names.now) c.args.tokens.now c.split_at.result.1.now
          c.split_at-then-length-gt0.result.0.now c.parts.done c.stay_count-length.result c.parts.table.items
          c.parts.count c.parts.out.items c.extend_from_slice.new.self.items
          c.split_at.ensures.back c.split_at-then-length-gt0.ensures.front c.stay_count-length.ensures.within
          c.stay_count-length.ensures.stay few c.in_ok-extend_from_slice.ensures.items c.parts.invariant.progress;
      within = omega (arith, c.stay_count-length.ensures.within, c.split_at.ensures.back_len, c.parts.invariant.within);
      few = few;
    }
