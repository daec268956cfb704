-- The words of a configuration.
--   param_words, answer_words    each word for a parameter, and for what is returned, with its meaning
--   profile_words          each word for a profile
--   result_words           each word for what a convention says of a result: whether it is borrowed
--   meaning words text     the meaning of a text among these words, if it is one of them
--   param_of d, answer_of d, profile_of d, borrowed_of d     the meaning of a value: of a string that is one of the
--                          words
use Rattle.std.specs.Prelude.{ℕ, Bool, true, false, List, [], ◌∷◌, Option, option_and_then, codes}
use Rattle.std.specs.Map.{lookup}
use Rattle.std.specs.Str.{bytes_eq}
use Rattle.toml.specs.Data.{Data, as_str}
use Rattle.pungi_api.specs.declared.param.Param.{Param}
use Rattle.pungi_api.specs.declared.param.Param.TheVariants as param
use Rattle.pungi_api.specs.declared.answer.Answer.{Answer}
use Rattle.pungi_api.specs.declared.answer.Answer.TheVariants as answer
use Rattle.pungi_api.specs.declared.profile.Profile.{Profile}
use Rattle.pungi_api.specs.declared.profile.Profile.TheVariants.{Python311, Python312}

abbrev pub param_words : List (List ℕ × Param)
param_words =
    (codes "object", param.Object) ∷ (codes "object?", param.ObjectOrNull) ∷ (codes "int", param.Int)
    ∷ (codes "long", param.Long) ∷ (codes "size", param.Size) ∷ (codes "text", param.Text)
    ∷ (codes "text?", param.TextOrNull) ∷ []

abbrev pub answer_words : List (List ℕ × Answer)
answer_words =
    (codes "new", answer.New) ∷ (codes "borrowed", answer.Borrowed) ∷ (codes "borrowed_sure", answer.BorrowedSure)
    ∷ (codes "status", answer.Status) ∷ (codes "truth", answer.Truth) ∷ (codes "size", answer.Size)
    ∷ (codes "int", answer.Int) ∷ (codes "long", answer.Long) ∷ (codes "text", answer.Text)
    ∷ (codes "void", answer.Void) ∷ (codes "null", answer.Null) ∷ []

abbrev pub profile_words : List (List ℕ × Profile)
profile_words = (codes "3.11", Python311) ∷ (codes "3.12", Python312) ∷ []

abbrev pub result_words : List (List ℕ × Bool)
result_words = (codes "new", false) ∷ (codes "borrowed", true) ∷ []

abbrev pub meaning : {A : Type 0} → List (List ℕ × A) → List ℕ → Option A
meaning words text = lookup (λ word. bytes_eq text word) words

abbrev pub param_of : Data → Option Param
param_of d = option_and_then (meaning param_words) (as_str d)

abbrev pub answer_of : Data → Option Answer
answer_of d = option_and_then (meaning answer_words) (as_str d)

abbrev pub profile_of : Data → Option Profile
profile_of d = option_and_then (meaning profile_words) (as_str d)

abbrev pub borrowed_of : Data → Option Bool
borrowed_of d = option_and_then (meaning result_words) (as_str d)
