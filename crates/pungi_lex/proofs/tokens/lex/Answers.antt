use Rattle.std.proofs.Common.{◌≤◌, ℕ, List, length, ap, arith}
use Rattle.std.proofs.lemmas.List.{length-take}
use Rattle.pungi_base.specs.Numbers.{keyword_count}
use Rattle.pungi_base.specs.Words.{BeginWithWords, builtin_words}
use Rattle.pungi_lex.proofs.Exact.{faults_none, faults_once, tokens_once}
use Rattle.pungi_lex.proofs.KnownTokens.{tokens_known}
use Rattle.pungi_lex.proofs.SizedTokens.{tokens_sized}
use Rattle.pungi_lex.proofs.tokens.lex.Goals as goal

keywords_within : (names : List (List ℕ)) → BeginWithWords names → keyword_count ≤ length names
keywords_within names words = omega (arith, ap length words, length-take (length builtin_words) names)

pub cut_text-requires-clause-words : goal.cut_text-requires-clause-words
cut_text-requires-clause-words c = keywords_within c.args.names.now c.requires.words

pub returns-clause-only : goal.returns-clause-only
returns-clause-only c = λ after tokens are.
    tokens_once (λ found. found.items) c.args.names.now c.cut_text.new.names after c.args.text.now tokens
    c.cut_text.result c.cut_text.ensures.names c.cut_text.ensures.tokens c.cut_text.ensures.fault are

pub returns-clause-none : goal.returns-clause-none
returns-clause-none c = faults_none c.args.names.now c.args.text.now c.cut_text.result c.cut_text.ensures.fault

pub returns-clause-known : goal.returns-clause-known
returns-clause-known c =
    tokens_known (λ found. found.items) c.args.names.now c.cut_text.new.names c.args.text.now c.cut_text.result
    c.cut_text.ensures.tokens

pub returns-clause-sized : goal.returns-clause-sized
returns-clause-sized c =
    tokens_sized (λ found. found.items) c.args.names.now c.cut_text.new.names c.args.text.now c.cut_text.result
    c.cut_text.ensures.tokens

pub returns-clause-first : goal.returns-clause-first
returns-clause-first c = λ other is. faults_once c.args.text.now other c.cut_text.result c.cut_text.ensures.fault is
