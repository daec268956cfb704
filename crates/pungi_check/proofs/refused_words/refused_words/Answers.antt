use Rattle.pungi_check.proofs.GatherLemmas.{gathered-step}
use Rattle.pungi_check.proofs.refused_words.refused_words.Goals as goal

pub loop-i-preserved : goal.loop-i-preserved
loop-i-preserved c =
    gathered-step c.args.list.now c.args.marks.now c.loop-i.words.keys c.add.new.words.keys _ c.loop-i.i
    c.index-list-i.result c.is_marked.result c.loop-i-test.true c.index-list-i.is
    c.is_marked.ensures c.in_ok-add.ensures c.loop-i.invariant
