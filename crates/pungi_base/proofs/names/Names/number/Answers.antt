use Rattle.std.proofs.Common.{sym, subst, ap, ◌∙◌, length, ◌<◌, ◌-◌, ◌^◌}
use Rattle.std.specs.Prelude.{Some}
use Rattle.pungi_base.specs.Names.{with_text}
use Rattle.pungi_base.proofs.TextLemmas.{texts_of, with_text-keys, stored_text, names_with}
use Rattle.pungi_base.proofs.names.Names.number.Goals as goal

pub invariant_of-self-2 : goal.invariant_of-self-2
invariant_of-self-2 c =
    names_with c.self.inside.texts.keys c.insert_full.new.self.keys c.in_ok-text.text c.self.invariant
    c.in_ok-index.ensures.keys c.in_ok-index.ensures.unique (subst (λ t. length t < 2 ^ 32 - 1) (sym c.self.view_is)
    c.requires)

pub returns-clause-names : goal.returns-clause-names
returns-clause-names c =
    names_with c.self.inside.texts.keys c.insert_full.new.self.keys c.in_ok-text.text c.self.invariant
    c.in_ok-index.ensures.keys c.in_ok-index.ensures.unique (subst (λ t. length t < 2 ^ 32 - 1) (sym c.self.view_is)
    c.requires)

pub returns-clause-ok : goal.returns-clause-ok
returns-clause-ok c =
    ap texts_of c.in_ok-index.ensures.keys
    ∙ with_text-keys c.self.inside.texts.keys c.in_ok-text.text
    ∙ ap (λ t. with_text t c.in_ok-text.text.items) c.self.view_is
    ∙ ap (λ t. with_text c.args.self.now t) c.in_ok-text.ensures.items

pub returns-clause-number : goal.returns-clause-number
returns-clause-number c =
    let s = c.in_ok-index.ensures.stored in
    stored_text c.in_ok-text.text.items c.insert_full.new.self.keys c.in_ok-index.index s.0 s.1 s.2
    ∙ ap Some c.in_ok-text.ensures.items
