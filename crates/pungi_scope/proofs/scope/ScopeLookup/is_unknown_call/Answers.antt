use Rattle.std.proofs.Common.{◌∙◌}
use Rattle.pungi_types.specs.Calls.{local_called_or}
use Rattle.pungi_types.specs.Exprs.{is_unknown_call}
use Rattle.pungi_scope.proofs.ScopeLemmas.{found, absent}
use Rattle.pungi_scope.proofs.scope.ScopeLookup.is_unknown_call.Goals as goal

pub returns-in-Some : goal.returns-in-Some
returns-in-Some g c =
    found (λ o. is_unknown_call (g.N.Lookup.env c.args.self.now.names.now)
    (local_called_or (g.N.Lookup.env c.args.self.now.names.now) c.args.word.0 o)) c.args.self.now.locals.now
    (g.N.Lookup.env c.args.self.now.names.now).locals c.args.word.0 c.in-Some.field-0 c.in-Some.ensures

pub returns-in-None : goal.returns-in-None
returns-in-None g c =
    c.is_unknown_call.ensures ∙ absent (λ o. is_unknown_call (g.N.Lookup.env c.args.self.now.names.now)
    (local_called_or (g.N.Lookup.env c.args.self.now.names.now) c.args.word.0 o)) c.args.self.now.locals.now
    (g.N.Lookup.env c.args.self.now.names.now).locals c.args.word.0 c.in-None.ensures
