use Rattle.std.proofs.Common.{◌≡◌, sym, subst, ap, ◌∙◌}
use Rattle.std.specs.Prelude.{slice_get, Some}
use Rattle.pungi_base.specs.Names.{has_text}
use Rattle.pungi_base.proofs.TextLemmas.{has_text-keys, found_text}
use Rattle.pungi_base.proofs.names.Names.find.Goals as goal

pub returns-in-None-clause-found : goal.returns-in-None-clause-found
returns-in-None-clause-found c =
    c.in-None.ensures.found ∙ sym (has_text-keys c.args.text.now c.self.inside.texts.keys)
    ∙ ap (λ t. has_text t c.args.text.now) c.self.view_is

pub returns-in-Some-clause-found : goal.returns-in-Some-clause-found
returns-in-Some-clause-found c =
    c.in-Some.ensures.found ∙ sym (has_text-keys c.args.text.now c.self.inside.texts.keys)
    ∙ ap (λ t. has_text t c.args.text.now) c.self.view_is

pub returns-in-Some-clause-number : goal.returns-in-Some-clause-number
returns-in-Some-clause-number c =
    subst (λ t. slice_get t c.in-Some.index ≡ Some c.args.text.now) c.self.view_is
    (found_text c.args.text.now c.self.inside.texts.keys c.in-Some.index (sym c.in-Some.ensures.index))
