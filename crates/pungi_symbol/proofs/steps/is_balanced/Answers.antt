use Rattle.std.proofs.Common.{sym, ap, ◌∙◌, subst}
use Rattle.std.specs.Prelude.{option_map}
use Rattle.pungi_symbol.specs.Promises.{AllLevel, IsLevelIn, IsOffIn, OwnUneven, HasReturned}
use Rattle.pungi_symbol.proofs.Returned.{all_level, level_in, none_level, none_in, own_uneven, off_returned}
use Rattle.pungi_symbol.proofs.steps.is_balanced.Goals as goal

pub returns-in-Some-clause-balanced : goal.returns-in-Some-clause-balanced
returns-in-Some-clause-balanced c e =
    let codes = c.args.codes.now in
    let is = sym c.code_of.ensures ∙ ap (option_map (λ x. x.now)) c.in-Some.is in
    subst (AllLevel codes) c.state-noted.ensures (all_level codes c.state-noted.result.now c.in-Some.code.now is
    (c.is_level.ensures.level e))

pub returns-in-Some-clause-level : goal.returns-in-Some-clause-level
returns-in-Some-clause-level c e =
    let codes = c.args.codes.now in
    let is = sym c.code_of.ensures ∙ ap (option_map (λ x. x.now)) c.in-Some.is in
    subst (IsLevelIn codes) c.state-noted.ensures (level_in codes c.state-noted.result.now c.in-Some.code.now is
    (c.is_level.ensures.level e))

pub returns-in-Some-clause-returned : goal.returns-in-Some-clause-returned
returns-in-Some-clause-returned c e =
    let off = c.is_level.ensures.off e in
    subst HasReturned c.state-noted.ensures (off_returned c.in-Some.code.now c.state-noted.result.now off.0 off.1)

pub returns-in-Some-clause-off : goal.returns-in-Some-clause-off
returns-in-Some-clause-off c e =
    let is = sym c.code_of.ensures ∙ ap (option_map (λ x. x.now)) c.in-Some.is in
    subst (IsOffIn c.args.codes.now) c.state-noted.ensures
    (c.in-Some.code.now, (is, c.is_level.ensures.off e))

pub returns-in-Some-clause-uneven : goal.returns-in-Some-clause-uneven
returns-in-Some-clause-uneven c e =
    let codes = c.args.codes.now in
    let is = sym c.code_of.ensures ∙ ap (option_map (λ x. x.now)) c.in-Some.is in
    let off = c.is_level.ensures.off e in
    subst (OwnUneven codes) c.state-noted.ensures (own_uneven codes c.state-noted.result.now c.in-Some.code.now off.0
    is off.1)

pub returns-in-None-clause-balanced : goal.returns-in-None-clause-balanced
returns-in-None-clause-balanced c _ =
    let codes = c.args.codes.now in
    let none = sym c.code_of.ensures ∙ ap (option_map (λ x. x.now)) c.in-None.is in
    subst (AllLevel codes) c.state-noted.ensures (none_level codes c.state-noted.result.now none)

pub returns-in-None-clause-level : goal.returns-in-None-clause-level
returns-in-None-clause-level c _ =
    let codes = c.args.codes.now in
    let none = sym c.code_of.ensures ∙ ap (option_map (λ x. x.now)) c.in-None.is in
    subst (IsLevelIn codes) c.state-noted.ensures (none_in codes c.state-noted.result.now none)
