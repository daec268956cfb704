use Rattle.pungi_types.specs.Files.{definitions}
use Rattle.pungi_check.specs.Found.{checked_view}
use Rattle.pungi_verdict.proofs.Lines.{all-sound, all-refused, all-caused}
use Rattle.pungi_verdict.proofs.Reportable.{reportable}
use Rattle.pungi_verdict.proofs.judge.judge_all.Goals as goal

pub returns-clause-sound : goal.returns-clause-sound
returns-clause-sound c =
    let view = checked_view c.args.checked.now in all-sound view (definitions view.file.items)
    c.judge_across.new.lines.items c.in_ok-judge_across.ensures

pub returns-clause-refused : goal.returns-clause-refused
returns-clause-refused c =
    let view = checked_view c.args.checked.now in all-refused view (definitions view.file.items)
    c.judge_across.new.lines.items c.in_ok-judge_across.ensures

pub returns-clause-caused : goal.returns-clause-caused
returns-clause-caused c =
    let view = checked_view c.args.checked.now in all-caused view (definitions view.file.items)
    c.judge_across.new.lines.items c.in_ok-judge_across.ensures

pub returns-clause-reportable : goal.returns-clause-reportable
returns-clause-reportable c =
    let view = checked_view c.args.checked.now in reportable view (definitions view.file.items)
    c.judge_across.new.lines.items c.in_ok-judge_across.ensures
