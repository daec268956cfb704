-- What a configuration makes known, and why one is refused.
use Rattle.std.proofs.Common.{◌≡◌, inl, inr, ℕ, ◌≤◌, List, ◌++◌, length, take, Some, refl, sym, subst, ap}
use Rattle.std.proofs.Common.{◌∙◌, arith, length-take}
use Rattle.std.proofs.lemmas.List.{take-append-le}
use Rattle.std.specs.Prelude.{Ok, Err, string_bytes}
use Rattle.pungi_api.specs.Rows.{builtin_rows}
use Rattle.pungi_api.specs.Terms.{FileTerms}
use Rattle.pungi_api.specs.declared.row.Row.{Row}
use Rattle.pungi_base.specs.Names.{Extends}
use Rattle.pungi_base.specs.Words.{builtin_words, BeginWithWords}
use Rattle.pungi_config.specs.Configuration.{Answers, reading, names_after}
use Rattle.pungi_config.specs.declared.config_fault.ConfigFault.{ConfigFault}
use Rattle.pungi_config.specs.declared.config_fault.ConfigFault.TheVariants.{Text, Shape, Memory}
use Rattle.pungi.specs.Api.{Api, IsConfigured, IsWrong, fault_reason, text_reason}

pub begins : (old new : List (List ℕ)) → old ≡ builtin_words → Extends old new → BeginWithWords new
begins old new is (more, grew) =
    let all : new ≡ builtin_words ++ more = grew ∙ ap (λ (l : List (List ℕ)). l ++ more) is in
    subst (λ (l : List (List ℕ)). take (length builtin_words) l ≡ builtin_words) (sym all) refl

pub configured_by : (text : List ℕ) (names new : List (List ℕ)) (rows more all : List (ℕ × Row)) (terms : FileTerms)
    → names ≡ builtin_words → rows ≡ builtin_rows → reading rows names text ≡ Some (Ok (more, terms))
    → new ≡ names_after names text → all ≡ rows ++ more
    → IsConfigured text (record { names = new; rows = all; terms = terms })
configured_by text names new rows more all terms a b read named made =
    let api : List (List ℕ) → List (ℕ × Row) → Api = λ n r. record { names = n; rows = r; terms = terms } in
    let whole : all ≡ builtin_rows ++ more = made ∙ ap (λ (r : List (ℕ × Row)). r ++ more) b in
    let words : new ≡ names_after builtin_words text = named ∙ ap (λ n. names_after n text) a in (
      more,
      terms,
      subst (λ (n : List (List ℕ)). reading builtin_rows n text ≡ Some (Ok (more, terms))) a
          (subst (λ (r : List (ℕ × Row)). reading r names text ≡ Some (Ok (more, terms))) b read),
      ap (λ n. api n all) words ∙ ap (λ r. api (names_after builtin_words text) r) whole,
    )

pub wrong_for : (text : List ℕ) (names : List (List ℕ)) (rows : List (ℕ × Row)) (found : ConfigFault)
    (reason : List ℕ) → names ≡ builtin_words → rows ≡ builtin_rows → Answers rows names text (Err found)
    → fault_reason found ≡ Some reason → IsWrong text reason
wrong_for text names rows Text reason a b is told = let same : reason ≡ text_reason = cc in inl (is, same)
wrong_for text names rows (Shape key) reason a b is told =
    let same : string_bytes key ≡ reason = cc in
    inr (subst (λ (k : List ℕ). reading builtin_rows builtin_words text ≡ Some (Err k)) same
    (subst (λ (n : List (List ℕ)). reading builtin_rows n text ≡ Some (Err (string_bytes key))) a
    (subst (λ (r : List (ℕ × Row)). reading r names text ≡ Some (Err (string_bytes key))) b is)))
wrong_for text names rows Memory reason a b is told = absurd (cc)

-- a list that begins with the words still does once more stands after it
pub begins_on : (old new : List (List ℕ)) → BeginWithWords old → Extends old new → BeginWithWords new
begins_on old new is (more, grew) =
    let many : length (take (length builtin_words) old) ≡ length builtin_words = ap length is in
    let long : length builtin_words ≤ length old = omega (arith, many, length-take (length builtin_words) old) in
    subst (λ (l : List (List ℕ)). take (length builtin_words) l ≡ builtin_words) (sym grew)
    (take-append-le (length builtin_words) old more long ∙ is)
