-- The statuses with which the program ends.
--   all_clean        every function is clean, also in a file without functions
--   some_faulty      some function is faulty
--   some_open        no function is faulty, and some is neither clean nor faulty
--   words_refused    the words of the command are refused
--   file_unread      a file can't be read
--   answer_cut       the text of the answer could not be written whole
--   file_refused     the file, or the text of a trial, is refused
--   config_refused   the configuration is refused
--   memory_wanted    memory ran out
use Rattle.std.specs.Prelude.{ℕ}

abbrev pub all_clean : ℕ
all_clean = 0

abbrev pub some_faulty : ℕ
some_faulty = 1

abbrev pub some_open : ℕ
some_open = 2

abbrev pub words_refused : ℕ
words_refused = 3

abbrev pub file_unread : ℕ
file_unread = 4

abbrev pub answer_cut : ℕ
answer_cut = 5

abbrev pub file_refused : ℕ
file_refused = 6

abbrev pub config_refused : ℕ
config_refused = 7

abbrev pub memory_wanted : ℕ
memory_wanted = 8
