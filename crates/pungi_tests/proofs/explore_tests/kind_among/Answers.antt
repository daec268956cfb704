use Rattle.std.specs.Prelude.{slice_get}
use Rattle.pungi_code.specs.WellFormed.{kinds_of}
use Rattle.pungi_verdict.proofs.Files.{joined-is}
use Rattle.pungi_verdict.proofs.Forms.{judged}
use Rattle.pungi_tests.proofs.explore_tests.kind_among.Goals as goal

-- well-formed codes have the judged form
pub explore-requires-clause-formed : goal.explore-requires-clause-formed
explore-requires-clause-formed c = λ code at.
    let codes = c.args.codes.now in
    let there = joined-is (slice_get codes.codes 0) code at in
    judged (kinds_of codes) codes.statics code (c.requires.formed.each 0 code there) (c.requires.formed.there 0 code there)
