use Rattle.std.proofs.Common.{List, subst, Ok, Err}
use Rattle.pungi_base.specs.declared.token.Token.{Token}
use Rattle.pungi_lex.specs.Directive.{Defines, Inclusion, Definition, Other}
use Rattle.pungi_lex.proofs.directive.obey.Goals as goal

pub returns-then-is_inclusion-clause-obeyed : goal.returns-then-is_inclusion-clause-obeyed
returns-then-is_inclusion-clause-obeyed c =
    Inclusion c.args.words.now (c.is_inclusion.ensures.yes c.if-is_inclusion.true)

pub returns-in-None-clause-fault : goal.returns-in-None-clause-fault
returns-in-None-clause-fault c =
    λ other. Other c.args.words.now (c.is_inclusion.ensures.other c.if-is_inclusion.false) c.in-None.ensures

pub returns-in-Ok-clause-obeyed : goal.returns-in-Ok-clause-obeyed
returns-in-Ok-clause-obeyed c =
    Definition c.args.words.now c.in-Some.name c.in-Some.at (Ok c.define.new.table.items)
    (c.is_inclusion.ensures.other c.if-is_inclusion.false) c.in-Some.ensures
    (subst (λ (b : List Token). Defines c.args.table.now.items c.in-Some.name c.in-Some.at b
    (Ok c.define.new.table.items)) c.split_at.ensures.back c.in-Ok.ensures.defined)

pub returns-in-Err-clause-fault : goal.returns-in-Err-clause-fault
returns-in-Err-clause-fault c =
    λ other. Definition c.args.words.now c.in-Some.name c.in-Some.at (Err c.in-Err.found)
    (c.is_inclusion.ensures.other c.if-is_inclusion.false) c.in-Some.ensures
    (subst (λ (b : List Token). Defines c.args.table.now.items c.in-Some.name c.in-Some.at b (Err c.in-Err.found))
    c.split_at.ensures.back (c.in-Err.ensures.fault other))
