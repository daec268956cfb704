use Rattle.std.proofs.Common.{arith, refl}
use Rattle.pungi_io.specs.OpenedText.{with_read}
use Rattle.pungi_io.proofs.Last.{set_last}
use Rattle.pungi_io.proofs.opened_text.read_last.Goals as goal

pub returns-in-Some : goal.returns-in-Some
returns-in-Some c =
    set_last (with_read c.args.count c.args.buf.now) c.args.texts.now.items _ c.in-Some.last.now c.read.new.self
    (let some = c.in-Some.ensures.variant.0 refl in omega (arith, some)) c.in-Some.ensures.value c.read.ensures
