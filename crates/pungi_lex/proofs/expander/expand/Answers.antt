use Rattle.std.proofs.Common.{length}
use Rattle.pungi_lex.proofs.OneExpansion.{expanded_once, expanded_within, faults_none, faults_once}
use Rattle.pungi_lex.proofs.KnownExpansion.{expansion_known}
use Rattle.pungi_lex.proofs.expander.expand.Goals as goal

pub returns-clause-only : goal.returns-clause-only
returns-clause-only c =
    λ other is. expanded_once (λ out. out.items) (length c.args.names.now) c.args.tokens.now other
    c.expand_tokens.result c.expand_tokens.ensures.expanded is

pub returns-clause-within : goal.returns-clause-within
returns-clause-within c =
    expanded_within (λ out. out.items) (length c.args.names.now) c.args.tokens.now c.expand_tokens.result
    c.expand_tokens.ensures.expanded

pub returns-clause-none : goal.returns-clause-none
returns-clause-none c =
    faults_none (length c.args.names.now) c.args.tokens.now c.expand_tokens.result c.expand_tokens.ensures.fault

pub returns-clause-known : goal.returns-clause-known
returns-clause-known c =
    λ known. expansion_known (λ out. out.items) c.args.names.now c.args.tokens.now c.expand_tokens.result
    c.requires.words known c.expand_tokens.ensures.expanded

pub returns-clause-first : goal.returns-clause-first
returns-clause-first c =
    λ other is. faults_once (length c.args.names.now) c.args.tokens.now other c.expand_tokens.result
    c.expand_tokens.ensures.fault is
