use Rattle.std.proofs.Common.{◌∙◌, ap, sym}
use Rattle.pungi_shape.specs.Liveness.{is_among}
use Rattle.pungi_shape.proofs.FoundTokens.{seen-again, seen-first}
use Rattle.pungi_shape.proofs.exit_widths.add_new.Goals as goal

pub returns-in_ok-push : goal.returns-in_ok-push
returns-in_ok-push c =
    λ seen is.
    c.in_ok-push.ensures.items
    ∙ seen-first seen c.args.tokens.now.items c.args.token is
    (sym (c.if-not-contains.ensures.value ∙ ap (λ l. is_among l c.args.token) c.as_slice.ensures.value))

pub returns-else-not-contains : goal.returns-else-not-contains
returns-else-not-contains c =
    λ seen is.
    seen-again seen c.args.tokens.now.items c.args.token is
    (sym (c.if-not-contains.ensures.value ∙ ap (λ l. is_among l c.args.token) c.as_slice.ensures.value))
