use Rattle.std.proofs.Common.{ap, sym, ◌∙◌}
use Rattle.toml.specs.View.{view}
use Rattle.pungi_config.specs.Configuration.{convention_path, under}
use Rattle.pungi_config.specs.Wrong.{keys_read}
use Rattle.pungi_config.proofs.Declared.{declared_by}
use Rattle.pungi_config.proofs.configuration.read_declared.Goals as goal

pub returns-in-Ok : goal.returns-in-Ok
returns-in-Ok c =
    let path = convention_path c.args.name.now in
    ap (under path) (sym (ap keys_read c.in-Ok.is) ∙ c.in_ok-convention-in-Some.ensures)
    ∙ sym (declared_by c.args.name.now c.in-Some.keys.now.entries (view c.args.value.now) c.if-not-is_empty.ensures.1
    c.in-Some.ensures)
