use Rattle.std.proofs.Common.{◌∙◌}
use Rattle.pungi_types.specs.Calls.{meaning_kind}
use Rattle.pungi_types.specs.Names.{local_or}
use Rattle.pungi_scope.proofs.ScopeLemmas.{found, absent}
use Rattle.pungi_scope.proofs.scope.ScopeLookup.word_kind.Goals as goal

pub returns-in-Some : goal.returns-in-Some
returns-in-Some g c =
    found (λ o. meaning_kind (local_or (g.N.Lookup.env c.args.self.now.names.now).file.items c.args.word.0 o))
    c.args.self.now.locals.now (g.N.Lookup.env c.args.self.now.names.now).locals c.args.word.0 c.in-Some.local
    c.in-Some.ensures

pub returns-in-None : goal.returns-in-None
returns-in-None g c =
    c.word_kind.ensures ∙ absent (λ o. meaning_kind (local_or (g.N.Lookup.env c.args.self.now.names.now).file.items
    c.args.word.0 o)) c.args.self.now.locals.now (g.N.Lookup.env c.args.self.now.names.now).locals c.args.word.0
    c.in-None.ensures
