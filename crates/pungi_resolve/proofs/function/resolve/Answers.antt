use Rattle.std.proofs.Common.{◌≡◌, ◌∙◌, length, ap, arith}
use Rattle.pungi_tree.specs.ExprView.{spec_view}
use Rattle.pungi_types.specs.Functions.{result_kind}
use Rattle.pungi_types.specs.Kinds.{spec_base, type_kind}
use Rattle.pungi_types.specs.TypesView.{definition_view}
use Rattle.pungi_resolved.specs.ActionView.{action_view}
use Rattle.pungi_resolve.specs.declared.walk.Walk.{Walk}
use Rattle.pungi_resolve.proofs.WholeFunctions.{body-holds, whole, sound-body}
use Rattle.pungi_resolve.proofs.function.resolve.Goals as goal

pub resolve_body-requires : goal.resolve_body-requires
resolve_body-requires g c =
    let env = g.N.Lookup.env c.args.names.now in
    let f = c.args.f.now in
    let w : Walk = record { locals = c.new.result; next = c.new-2.result } in
    let stars : c.len.result ≡ length f.stars.items = omega (arith, c.len.ensures, f.stars.ok.0) in
    let kind : c.type_kind-result_kind.result ≡ result_kind env (definition_view f) =
    c.type_kind-result_kind.ensures ∙ ap (λ n. type_kind env.file.items (spec_base (spec_view f.result)) n) stars
    in
    body-holds env f w c.resolve_params.new.walk c.type_kind-result_kind.result c.requires.passed c.new.ensures
    c.new-2.ensures kind c.in_ok-params.ensures.after

pub returns-clause-function : goal.returns-clause-function
returns-clause-function g c =
    let env = g.N.Lookup.env c.args.names.now in
    let f = c.args.f.now in
    let w : Walk = record { locals = c.new.result; next = c.new-2.result } in
    let stars : c.len.result ≡ length f.stars.items = omega (arith, c.len.ensures, f.stars.ok.0) in
    let kind : c.type_kind-result_kind.result ≡ result_kind env (definition_view f) =
    c.type_kind-result_kind.ensures ∙ ap (λ n. type_kind env.file.items (spec_base (spec_view f.result)) n) stars
    in
    whole env f w c.resolve_params.new.walk c.type_kind-result_kind.result c.new-3.result c.number.result c.args.terms
    (action_view c.in_ok-body.body) c.new.ensures c.new-2.ensures kind c.in_ok-params.ensures.after
    (c.new-3.ensures ∙ c.in_ok-params.ensures.kinds) (c.number.ensures ∙ c.in_ok-body.ensures.locals)
    c.in_ok-body.ensures.action c.requires.terms

pub returns-clause-sound : goal.returns-clause-sound
returns-clause-sound g c =
    let env = g.N.Lookup.env c.args.names.now in
    let f = c.args.f.now in
    let w : Walk = record { locals = c.new.result; next = c.new-2.result } in
    let stars : c.len.result ≡ length f.stars.items = omega (arith, c.len.ensures, f.stars.ok.0) in
    let kind : c.type_kind-result_kind.result ≡ result_kind env (definition_view f) =
    c.type_kind-result_kind.ensures ∙ ap (λ n. type_kind env.file.items (spec_base (spec_view f.result)) n) stars
    in
    let e =
    whole env f w c.resolve_params.new.walk c.type_kind-result_kind.result c.new-3.result c.number.result c.args.terms
    (action_view c.in_ok-body.body) c.new.ensures c.new-2.ensures kind c.in_ok-params.ensures.after
    (c.new-3.ensures ∙ c.in_ok-params.ensures.kinds) (c.number.ensures ∙ c.in_ok-body.ensures.locals)
    c.in_ok-body.ensures.action c.requires.terms
    in
    sound-body env f _ c.requires.passed e
