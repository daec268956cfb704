use Rattle.pungi_check.specs.Found.{checked_view}
use Rattle.pungi_types.specs.Files.{definitions}
use Rattle.pungi.proofs.Named.{all_printable}
use Rattle.pungi.proofs.Sound.{all_judged}
use Rattle.pungi.proofs.examine.verdicts.Goals as goal

pub returns-in-Ok-clause-judged : goal.returns-in-Ok-clause-judged
returns-in-Ok-clause-judged c =
    let file = checked_view c.args.checked.now in
    all_judged file (definitions file.file.items) c.in-Ok.lines.items c.in-Ok.ensures.sound c.in-Ok.ensures.refused
    c.in-Ok.ensures.caused

pub returns-in-Ok-clause-readable : goal.returns-in-Ok-clause-readable
returns-in-Ok-clause-readable c =
    all_printable c.args.names.now (checked_view c.args.checked.now) c.in-Ok.lines.items c.requires.known
    c.in-Ok.ensures.sound c.in-Ok.ensures.reportable
