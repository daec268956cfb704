use Rattle.pungi_config.proofs.Matched.{matched, refused, answered, failed}
use Rattle.pungi_config.proofs.command.settings.Goals as goal

pub returns-in-Ok-try_get_matches_from : goal.returns-in-Ok-try_get_matches_from
returns-in-Ok-try_get_matches_from c =
    let is = matched _ _ c.in-Ok-try_get_matches_from.matches c.in-Ok.ensures
    c.in-Ok-try_get_matches_from.ensures.matches c.in-Ok-try_get_matches_from.ensures.kinds in
    answered _ _ _ _ _ _ _ _ is c.get_str.ensures c.get_str-in-Ok-try_get_matches_from.ensures
    c.get_str-in-Ok-try_get_matches_from-2.ensures c.asked.ensures

pub returns-in-Err-try_get_matches_from : goal.returns-in-Err-try_get_matches_from
returns-in-Err-try_get_matches_from c =
    failed _ _ _ _ c.fault.ensures c.kind.ensures (refused _ _ c.in-Err-try_get_matches_from.error c.in-Ok.ensures
    c.in-Err-try_get_matches_from.ensures.kinds)
