use Rattle.std.proofs.Common.{inl, ap}
use Rattle.std.specs.Prelude.{Err}
use Rattle.pungi.proofs.Fronts.{err_same, ok_is_no_err, lexed, ready, lex_refused, macro_refused, parse_refused}
use Rattle.pungi.proofs.Fronts.{is_unit, known_kinds, only_items}
use Rattle.pungi.proofs.Configured.{begins_on}
use Rattle.pungi.proofs.front.unit_of.Goals as goal

pub expand-requires-clause-words : goal.expand-requires-clause-words
expand-requires-clause-words c =
    begins_on c.args.names.now c.lex.new.names c.requires.words c.lex.ensures.grows

pub returns-in-Err-clause-fault : goal.returns-in-Err-clause-fault
returns-in-Err-clause-fault c =
    λ rows terms. lex_refused c.args.names.now rows terms c.args.text.now c.in-Err.fault c.in-Err.ensures.fault
    c.in-Err.ensures.none

pub returns-in-Err-expand-clause-fault : goal.returns-in-Err-expand-clause-fault
returns-in-Err-expand-clause-fault c =
    let l = lexed c.args.names.now c.lex.new.names c.args.text.now c.deref.result.now c.in-Ok.tokens.items
    c.deref.ensures.value c.in-Ok.ensures.tokens c.in-Ok.ensures.only in
    λ rows terms. macro_refused c.args.names.now c.lex.new.names rows terms c.args.text.now c.deref.result.now
    c.in-Err-expand.fault l
    c.in-Err-expand.ensures.fault c.in-Err-expand.ensures.none

pub returns-in-Ok-parse-clause-unit : goal.returns-in-Ok-parse-clause-unit
returns-in-Ok-parse-clause-unit c =
    let l = lexed c.args.names.now c.lex.new.names c.args.text.now c.deref.result.now c.in-Ok.tokens.items
    c.deref.ensures.value c.in-Ok.ensures.tokens c.in-Ok.ensures.only in
    let r = ready c.args.names.now c.lex.new.names c.args.text.now c.deref.result.now c.deref-2.result.now
    c.in-Ok-expand.expanded.items l c.deref-2.ensures.value c.in-Ok-expand.ensures.expanded
    c.in-Ok-expand.ensures.only in
    is_unit c.args.names.now c.lex.new.names c.args.text.now c.deref.result.now c.deref-2.result.now _ r
    (λ at h. ok_is_no_err _ _ (c.in-Ok-parse.ensures.first at h)) c.in-Ok-parse.ensures.unit

pub returns-in-Ok-parse-clause-only : goal.returns-in-Ok-parse-clause-only
returns-in-Ok-parse-clause-only c =
    let l = lexed c.args.names.now c.lex.new.names c.args.text.now c.deref.result.now c.in-Ok.tokens.items
    c.deref.ensures.value c.in-Ok.ensures.tokens c.in-Ok.ensures.only in
    let r = ready c.args.names.now c.lex.new.names c.args.text.now c.deref.result.now c.deref-2.result.now
    c.in-Ok-expand.expanded.items l c.deref-2.ensures.value c.in-Ok-expand.ensures.expanded
    c.in-Ok-expand.ensures.only in
    only_items c.args.names.now c.lex.new.names c.args.text.now c.deref.result.now c.deref-2.result.now _ r
    (λ others n u. c.in-Ok-parse.ensures.only others n u)

pub returns-in-Ok-parse-clause-known : goal.returns-in-Ok-parse-clause-known
returns-in-Ok-parse-clause-known c =
    rw (c.in-Ok-parse.ensures.flat, c.deref-2.ensures.value)
    (known_kinds _ c.in-Ok-expand.expanded.items (c.in-Ok-expand.ensures.known
    (rw c.deref.ensures.value c.in-Ok.ensures.known)))

pub returns-clause-fault : goal.returns-clause-fault
returns-clause-fault c =
    let l = lexed c.args.names.now c.lex.new.names c.args.text.now c.deref.result.now c.in-Ok.tokens.items
    c.deref.ensures.value c.in-Ok.ensures.tokens c.in-Ok.ensures.only in
    let r = ready c.args.names.now c.lex.new.names c.args.text.now c.deref.result.now c.deref-2.result.now
    c.in-Ok-expand.expanded.items l c.deref-2.ensures.value c.in-Ok-expand.ensures.expanded
    c.in-Ok-expand.ensures.only in
    λ rows terms. parse_refused c.args.names.now c.lex.new.names rows terms c.args.text.now c.deref.result.now
    c.deref-2.result.now c.in-Err-parse.fault r
    (record {
      deep = λ p e. c.in-Err-parse.ensures.deep p (ap Err e);
      not_a_unit = λ p e. c.in-Err-parse.ensures.not_a_unit p (ap Err e);
      first = λ at h. inl (err_same _ _ (c.in-Err-parse.ensures.first at h));
      only = c.in-Err-parse.ensures.only;
    })
