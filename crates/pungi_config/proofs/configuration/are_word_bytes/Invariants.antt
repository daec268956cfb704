use Rattle.std.proofs.Common.{◌≡◌, drop}
use Rattle.std.specs.List.{list_all}
use Rattle.pungi_base.specs.CWords.{is_word_byte}
use Rattle.pungi_config.proofs.configuration.are_word_bytes.Given as goal

abbrev pub invariant-loop-byte : goal.invariant-loop-byte
invariant-loop-byte l = record {
  left : list_all is_word_byte (drop l.byte-index l.text) ≡ list_all is_word_byte l.text;
}
