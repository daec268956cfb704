use Rattle.std.proofs.Common.{◌≡◌, List, sym, subst, ap, Ok, Some, set, ◌∙◌}
use Rattle.pungi_base.specs.declared.kind.Kind.{Kind}
use Rattle.pungi_lex.specs.Directive.{Defines, Define, OfFunction, Again, Joint, kinds_in}
use Rattle.pungi_lex.specs.Macros.{Macros}
use Rattle.pungi_lex.proofs.directive.define.Goals as goal

pub returns-then-is_function_like-clause-fault : goal.returns-then-is_function_like-clause-fault
returns-then-is_function_like-clause-fault c =
    λ other. OfFunction c.args.body.now (c.is_function_like.ensures.yes c.if-is_function_like.true)

pub returns-then-redefines-clause-fault : goal.returns-then-redefines-clause-fault
returns-then-redefines-clause-fault c =
    λ other. Again c.args.body.now (c.is_function_like.ensures.other c.if-is_function_like.false)
    (c.redefines.ensures.yes c.if-redefines.true)

pub returns-in-Some-clause-fault : goal.returns-in-Some-clause-fault
returns-in-Some-clause-fault c =
    λ other. Joint c.args.body.now c.in-Some.i c.token_at-token.result (c.is_function_like.ensures.other
    c.if-is_function_like.false) (c.redefines.ensures.other c.if-redefines.false) c.in-Some.ensures
    c.token_at-token.ensures

pub returns-in_ok-kinds-in-None-clause-defined : goal.returns-in_ok-kinds-in-None-clause-defined
returns-in_ok-kinds-in-None-clause-defined c =
    let is : c.put_body.new.table.items ≡ set c.args.table.now.items c.args.name (Some (kinds_in c.args.body.now)) =
    c.put_body.ensures ∙ ap (λ (ks : List Kind). set c.args.table.now.items c.args.name (Some ks))
    (c.new.ensures ∙ c.in_ok-kinds-in-None.ensures) in
    subst (λ (m : Macros). Defines c.args.table.now.items c.args.name c.args.at c.args.body.now (Ok m)) (sym is)
    (Define c.args.body.now (c.is_function_like.ensures.other c.if-is_function_like.false)
    (c.redefines.ensures.other c.if-redefines.false) c.in-None.ensures)
