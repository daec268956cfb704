use Rattle.std.proofs.Common.{◌∙◌}
use Rattle.pungi_types.specs.Names.{is_type_object}
use Rattle.std.specs.Prelude.{is_none, ◌&&◌}
use Rattle.pungi_scope.proofs.ScopeLemmas.{found, absent}
use Rattle.pungi_scope.proofs.scope.ScopeLookup.is_type_object.Goals as goal

pub returns-in-Some : goal.returns-in-Some
returns-in-Some g c =
    found (λ o. is_none o && is_type_object (g.N.Lookup.env c.args.self.now.names.now).file.items c.args.word.0)
    c.args.self.now.locals.now (g.N.Lookup.env c.args.self.now.names.now).locals c.args.word.0 c.in-Some.field-0
    c.in-Some.ensures

pub returns-in-None : goal.returns-in-None
returns-in-None g c =
    c.is_type_object.ensures ∙ absent (λ o. is_none o
    && is_type_object (g.N.Lookup.env c.args.self.now.names.now).file.items c.args.word.0)
    c.args.self.now.locals.now (g.N.Lookup.env c.args.self.now.names.now).locals c.args.word.0 c.in-None.ensures
