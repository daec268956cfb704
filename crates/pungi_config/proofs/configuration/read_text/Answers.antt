use Rattle.std.proofs.Common.{rules}
use Rattle.pungi_config.proofs.Texts.{read_ok, read_none}
use Rattle.pungi_config.proofs.configuration.read_text.Goals as goal
use Rattle.pungi_config.proofs.configuration.read_text.Goals.{then-is_memory, else-is_memory}

pub returns-in-Ok-clause-ok : goal.returns-in-Ok-clause-ok
returns-in-Ok-clause-ok c = read_ok _ _ c.in-Ok.ensures.ok

pub returns-after-is_memory-clause-refused : goal.returns-after-is_memory-clause-refused
returns-after-is_memory-clause-refused c = elim c.if-is_memory.branch [
  | then-is_memory w ↦ rw w.result-is tt
  | else-is_memory w ↦ rw w.result-is (read_none _ (c.in-Err.ensures.refused (search rules)))
]
