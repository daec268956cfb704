-- What is found of a text over the rows of the manual.
use Rattle.std.proofs.Common.{◌≡◌, ℕ, List, subst}
use Rattle.pungi_api.specs.declared.row.Row.{Row}
use Rattle.pungi_api.specs.Rows.{builtin_rows}
use Rattle.pungi_api.specs.Terms.{FileTerms, manual_terms}
use Rattle.pungi_base.specs.Words.{builtin_words}
use Rattle.pungi_base.specs.declared.names.Name.{Name}
use Rattle.pungi_base.specs.declared.verdict.Verdict.{Verdict}
use Rattle.pungi_verdict.specs.Verdicts.{IsJudged}
use Rattle.pungi.specs.Api.{Api, builtin_api}
use Rattle.pungi.specs.Examine.{AreVerdicts}
use Rattle.pungi.specs.Front.{IsRefusedAs}
use Rattle.pungi.proofs.Statuses.{api_of_manual}

pub manual_verdicts : (words : List (List ℕ)) (rows : List (ℕ × Row)) (terms : FileTerms) (text same : List ℕ)
    (names : List (List ℕ)) (lines : List (Name × Verdict)) → words ≡ builtin_words → rows ≡ builtin_rows
    → terms ≡ manual_terms → text ≡ same
    → AreVerdicts IsJudged (record { names = words; rows = rows; terms = terms }) text names lines
    → AreVerdicts IsJudged builtin_api same names lines
manual_verdicts words rows terms text same names lines a b d e is =
    subst (λ (api : Api). AreVerdicts IsJudged api same names lines) (api_of_manual words rows terms a b d)
    (subst (λ (t : List ℕ). AreVerdicts IsJudged (record { names = words; rows = rows; terms = terms }) t names lines)
    e is)

pub manual_refused : (words : List (List ℕ)) (rows : List (ℕ × Row)) (terms : FileTerms) (text same answer : List ℕ)
    → words ≡ builtin_words → rows ≡ builtin_rows → terms ≡ manual_terms → text ≡ same
    → IsRefusedAs (record { names = words; rows = rows; terms = terms }) text answer
    → IsRefusedAs builtin_api same answer
manual_refused words rows terms text same answer a b d e is =
    subst (λ (api : Api). IsRefusedAs api same answer) (api_of_manual words rows terms a b d)
    (subst (λ (t : List ℕ). IsRefusedAs (record { names = words; rows = rows; terms = terms }) t answer) e is)
