use Rattle.std.proofs.Common.{◌∙◌, ℕ, List, ap, subst, sym}
use Rattle.std.specs.Prelude.{◌↔◌, IfOk}
use Rattle.std.specs.List.{Contains, flat_map}
use Rattle.pungi_code.specs.declared.code.Line.{Line}
use Rattle.pungi_shape.specs.Named.{callees_in, lines_of}
use Rattle.pungi_verdict.proofs.across.callees_by.Goals as goal

pub callees_of-requires : goal.callees_of-requires
callees_of-requires c = λ g called.
    c.requires g (subst (λ (ls : List Line). Contains (flat_map callees_in ls) g)
    (c.as_slice.ensures ∙ ap lines_of (sym c.in-Some.is)) called)

pub returns-in-Some : goal.returns-in-Some
returns-in-Some c =
    subst (λ (ls : List Line). IfOk c.callees_of.result (λ list. (g : ℕ) → Contains list g
    ↔ Contains (flat_map callees_in ls) g)) (c.as_slice.ensures ∙ ap lines_of (sym c.in-Some.is)) c.callees_of.ensures
