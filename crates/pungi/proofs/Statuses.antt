-- How each status comes about.
use Rattle.std.proofs.Common.{◌≡◌, ◌⊎◌, inl, inr, ⊎_elim, ℕ, zero, suc, ◌≤◌, ◌<◌, List, [], ◌∷◌, ◌++◌, refl}
use Rattle.std.proofs.Common.{Option, Some, None, sym, subst, ap, ◌∙◌, append_assoc, append-nil, arith}
use Rattle.std.specs.Prelude.{Result, Ok, Err, IfOk, OnErr}
use Rattle.pungi_api.specs.Rows.{builtin_rows}
use Rattle.pungi_api.specs.Terms.{FileTerms, manual_terms}
use Rattle.pungi_api.specs.declared.row.Row.{Row}
use Rattle.pungi_io.specs.OpenedText.{Opened}
use Rattle.pungi_io.specs.Shelf.{Rose}
use Rattle.pungi_base.specs.Words.{builtin_words}
use Rattle.pungi_config.specs.Command.{Asked}
use Rattle.pungi_config.specs.Limits.{config_limit}
use Rattle.pungi_verdict.specs.Verdicts.{IsJudged}
use Rattle.pungi.specs.Answer.{Answers, IsApiFor, IsConfigRefusal, IsFileRefusal, IsOpened, IsOpenedOver, IsReported}
use Rattle.pungi.specs.Answer.{IsRefusalFor, IsReportFor, asked_file, files, long_text, usage_text}
use Rattle.pungi.specs.Api.{Api, IsConfigured, IsWrong, builtin_api, long_reason, wrong_text}
use Rattle.pungi.specs.Examine.{IsReport}
use Rattle.pungi.specs.Front.{IsRefusedAs}
use Rattle.pungi.specs.File.{IsConfigAnswer, IsFileAnswer, IsGiven}
use Rattle.pungi.specs.Limits.{file_limit}
use Rattle.pungi.specs.Load.{unread_text}
use Rattle.pungi.specs.Read.{IsLong, IsRead}
use Rattle.pungi.specs.Shelves.{Stand}
use Rattle.pungi.specs.Status.{all_clean, some_faulty, some_open, words_refused, file_unread, file_refused}
use Rattle.pungi.specs.Status.{config_refused, memory_wanted}

-- what holds of a result in two ways
pub both : {T E : Type 0} (r : Result T E) (P Q : T → Type 0) → IfOk r P → IfOk r Q → IfOk r (λ x. P x × Q x)
both (Ok x) P Q p q = (p, q)
both (Err e) P Q p q = tt

-- what holds of every result holds of one that is an error
pub on_err : {T E : Type 0} (r : Result T E) (P : Type 0) → P → OnErr r P
on_err (Ok x) P p = tt
on_err (Err e) P p = p

pub api_of_manual : (names : List (List ℕ)) (rows : List (ℕ × Row)) (terms : FileTerms) → names ≡ builtin_words
    → rows ≡ builtin_rows → terms ≡ manual_terms
    → ◌≡◌ {A = Api} (record { names = names; rows = rows; terms = terms }) builtin_api
api_of_manual names rows terms a b d = cc

pub low_reported : (status : ℕ) → status ≤ some_open → IsReported status
low_reported zero low = inl refl
low_reported (suc zero) low = inr (inl refl)
low_reported (suc (suc zero)) low = inr (inr refl)
low_reported (suc (suc (suc n))) low = absurd (omega (arith, low))

pub reported_low : (status : ℕ) → IsReported status → status ≤ some_open
reported_low status r =
    ⊎_elim (λ (h : status ≡ all_clean). omega (arith, h)) (λ (r : (status ≡ some_faulty) ⊎ (status ≡ some_open)).
    ⊎_elim (λ (h : status ≡ some_faulty). omega (arith, h)) (λ (h : status ≡ some_open). omega (arith, h)) r) r

reported_one : (status : ℕ) → IsReported status
    → (status ≡ all_clean) ⊎ (status ≡ some_faulty) ⊎ (status ≡ some_open) ⊎ (status ≡ words_refused)
    ⊎ (status ≡ file_unread) ⊎ (status ≡ file_refused) ⊎ (status ≡ config_refused)
reported_one status r =
    ⊎_elim (λ (h : status ≡ all_clean). inl h) (λ (r : (status ≡ some_faulty) ⊎ (status ≡ some_open)).
    ⊎_elim (λ (h : status ≡ some_faulty). inr (inl h)) (λ (h : status ≡ some_open). inr (inr (inl h))) r) r

opened_over : (first last : Stand) (config : Option (List ℕ)) (api : Api) (t : Opened) (earlier : List Opened)
    → last.opened ≡ first.opened ++ (earlier ++ t ∷ []) → IsApiFor first.texts config earlier api
    → IsOpenedOver first last config api t
opened_over first last config api t earlier opened known = record {
  earlier = earlier;
  opened = opened;
  known = known;
}

pub report_answers : (first last : Stand) (asked : Option Asked) (status : ℕ) (answer : List ℕ)
    → status ≤ some_open → last.faults ≡ first.faults
    → IsReportFor IsJudged first last asked status answer → Answers first last asked status answer
report_answers first last asked status answer low steady is = record {
  one = reported_one status (low_reported status low);
  report = λ r. is;
  usage = λ h. absurd (omega (arith, low, h));
  failed = λ h. absurd (omega (arith, low, h));
  refused = λ h. absurd (omega (arith, low, h));
  unconfigured = λ h. absurd (omega (arith, low, h));
  steady = λ h. steady;
}

pub usage_answers : (first last : Stand) (asked : Option Asked) (status : ℕ) (answer : List ℕ)
    → status ≡ words_refused → last.faults ≡ first.faults → asked ≡ None → answer ≡ usage_text
    → Answers first last asked status answer
usage_answers first last asked status answer is steady none said = record {
  one = inr (inr (inr (inl is)));
  report = λ r. let low = reported_low status r in absurd (omega (arith, low, is));
  usage = λ h. (none, said);
  failed = λ h. absurd (omega (arith, is, h));
  refused = λ h. absurd (omega (arith, is, h));
  unconfigured = λ h. absurd (omega (arith, is, h));
  steady = λ h. steady;
}

pub unread_answers : (first last : Stand) (asked : Option Asked) (status : ℕ) (answer name : List ℕ)
    (earlier : List (List ℕ)) → status ≡ file_unread → Rose first.faults last.faults
    → last.names_opened ≡ earlier ++ name ∷ [] → answer ≡ unread_text name → Answers first last asked status answer
unread_answers first last asked status answer name earlier is rose names_opened said = record {
  one = inr (inr (inr (inr (inl is))));
  report = λ r. let low = reported_low status r in absurd (omega (arith, low, is));
  usage = λ h. absurd (omega (arith, is, h));
  failed = λ h. (rose, (name, (earlier, names_opened), said));
  refused = λ h. absurd (omega (arith, is, h));
  unconfigured = λ h. absurd (omega (arith, is, h));
  steady = λ h. absurd (h is);
}

pub refusal_answers : (first last : Stand) (asked : Option Asked) (status : ℕ) (answer : List ℕ)
    → status ≡ file_refused → last.faults ≡ first.faults → IsRefusalFor first last asked answer
    → Answers first last asked status answer
refusal_answers first last asked status answer is steady refused = record {
  one = inr (inr (inr (inr (inr (inl is)))));
  report = λ r. let low = reported_low status r in absurd (omega (arith, low, is));
  usage = λ h. absurd (omega (arith, is, h));
  failed = λ h. absurd (omega (arith, is, h));
  refused = λ h. refused;
  unconfigured = λ h. absurd (omega (arith, is, h));
  steady = λ h. steady;
}

pub wrong_answers : (first last : Stand) (name config : List ℕ) (status : ℕ) (answer : List ℕ)
    → status ≡ config_refused → last.faults ≡ first.faults → IsConfigRefusal first last config answer
    → Answers first last (asked_file name (Some config)) status answer
wrong_answers first last name config status answer is steady wrong = record {
  one = inr (inr (inr (inr (inr (inr is)))));
  report = λ r. let low = reported_low status r in absurd (omega (arith, low, is));
  usage = λ h. absurd (omega (arith, is, h));
  failed = λ h. absurd (omega (arith, is, h));
  refused = λ h. absurd (omega (arith, is, h));
  unconfigured = λ h. (name, config, refl, wrong);
  steady = λ h. steady;
}

pub long_answers : (first last : Stand) (name config : List ℕ) (status : ℕ) (answer : List ℕ)
    → status ≡ config_refused
    → (c : Opened) × (last.opened ≡ first.opened ++ c ∷ []) × IsLong first.texts config config_limit c
    × (last.faults ≡ first.faults) → answer ≡ wrong_text long_reason
    → Answers first last (asked_file name (Some config)) status answer
long_answers first last name config status answer is (c, opened, long, steady) said =
    wrong_answers first last name config status answer is steady (c, opened, inl (long, said))

-- the answer on a file, over what is known for it by what was opened earlier
pub file_answers : (first middle last : Stand) (config : Option (List ℕ)) (api : Api) (name : List ℕ)
    (earlier : List Opened) (given : List (List ℕ)) (status : ℕ) (answer : List ℕ)
    → middle.opened ≡ first.opened ++ earlier → middle.texts ≡ first.texts → middle.faults ≡ first.faults
    → IsApiFor first.texts config earlier api → last.names_opened ≡ given ++ name ∷ []
    → IsFileAnswer api name middle last status answer → Answers first last (asked_file name config) status answer
file_answers first middle last config api name earlier given status answer began same quiet known named found =
    let is = subst (λ (ts : Option (List ℕ → Option (List ℕ))). IsFileAnswer api name (record middle { texts = ts })
    last status answer) same found in
    let over = λ (t : Opened) (opened : last.opened ≡ middle.opened ++ t ∷ []). opened_over first last config api t
    earlier (opened ∙ ap (λ (ts : List Opened). ts ++ t ∷ []) began ∙ append_assoc first.opened earlier (t ∷ []))
    known in
    ⊎_elim (λ (r : (status ≤ some_open) × (last.faults ≡ middle.faults) × ((t : Opened)
    × (last.opened ≡ middle.opened ++ t ∷ []) × IsRead first.texts name file_limit t
    × IsReport api t.bytes status answer)).
    report_answers first last (asked_file name config) status answer r.0 (r.1 ∙ quiet)
    (api, r.2.0, over r.2.0 r.2.1, r.2.2, r.2.3))
    (λ (r : ((status ≡ file_unread) × Rose middle.faults last.faults × (answer ≡ unread_text name))
    ⊎ ((status ≡ file_refused) × (last.faults ≡ middle.faults) × ((t : Opened)
    × (last.opened ≡ middle.opened ++ t ∷ []) × IsFileRefusal first.texts api name t answer))).
    ⊎_elim (λ (u : (status ≡ file_unread) × Rose middle.faults last.faults × (answer ≡ unread_text name)).
    unread_answers first last (asked_file name config) status answer name given u.0
    (subst (λ (n : ℕ). Rose n last.faults) quiet u.1) named u.2)
    (λ (u : (status ≡ file_refused) × (last.faults ≡ middle.faults) × ((t : Opened)
    × (last.opened ≡ middle.opened ++ t ∷ []) × IsFileRefusal first.texts api name t answer)).
    refusal_answers first last (asked_file name config) status answer u.0 (u.1 ∙ quiet)
    (api, u.2.0, over u.2.0 u.2.1, u.2.2)) r) is

-- the answer on a file over the API of the manual
pub plain_answers : (first last : Stand) (api : Api) (name : List ℕ) (status : ℕ) (answer : List ℕ)
    → api ≡ builtin_api → last.names_opened ≡ first.names_opened ++ name ∷ []
    → IsFileAnswer api name first last status answer → Answers first last (asked_file name None) status answer
plain_answers first last api name status answer known named is =
    file_answers first first last None api name [] first.names_opened status answer (sym (append-nil first.opened))
    refl refl (refl, known) named is

-- the answer on a file, where the configuration is read and this is its text
pub config_answers : (first middle last : Stand) (name config text : List ℕ) (status : ℕ) (answer : List ℕ)
    → middle.texts ≡ first.texts
    → (c : Opened) × (middle.opened ≡ first.opened ++ c ∷ []) × IsRead first.texts config config_limit c
    × (text ≡ c.bytes) × (middle.faults ≡ first.faults)
    → IsConfigAnswer text name middle last status answer
    → Answers first last (asked_file name (Some config)) status answer
config_answers first middle last name config text status answer texts (c, opened, read, same, quiet) found =
    ⊎_elim (λ (r : (status ≡ config_refused) × (last ≡ middle)
    × ((reason : List ℕ) × IsWrong text reason × (answer ≡ wrong_text reason))).
    wrong_answers first last name config status answer r.0 (ap (λ (s : Stand). s.faults) r.1 ∙ quiet) (
      c,
      ap (λ (s : Stand). s.opened) r.1 ∙ opened,
      inr (read, (r.2.0, subst (λ (b : List ℕ). IsWrong b r.2.0) same r.2.1, r.2.2)),
    ))
    (λ (r : (api : Api) × IsConfigured text api × (last.names_opened ≡ middle.names_opened ++ name ∷ [])
    × IsFileAnswer api name middle last status answer).
    file_answers first middle last (Some config) r.0 name (c ∷ []) middle.names_opened status answer opened texts quiet
    (c, refl, read, subst (λ (b : List ℕ). IsConfigured b r.0) same r.1) r.2 r.3) found

-- which names were opened
pub opened_none : (asked : Option Asked) (status : ℕ) (before after : List (List ℕ)) → after ≡ before
    → (status ≡ file_unread → ⊥) → (status ≡ config_refused → ⊥)
    → (IsReported status ⊎ (status ≡ file_refused) → files asked ≡ []) → IsOpened asked status before after
opened_none asked status before after same read accepted all = record {
  opened = [];
  grew = same ∙ sym (append-nil before);
  front = (files asked, refl);
  unread = λ h. absurd (read h);
  config = λ h. absurd (accepted h);
  all = λ h. sym (all h);
}

no_report : {P : Type 0} (status : ℕ) → some_open < status → (status ≡ file_refused → ⊥)
    → IsReported status ⊎ (status ≡ file_refused) → P
no_report status high other r =
    ⊎_elim (λ (h : IsReported status). let low = reported_low status h in absurd (omega (arith, low, high)))
    (λ (h : status ≡ file_refused). absurd (other h)) r

pub opened_nothing : (asked : Option Asked) (before after : List (List ℕ)) → after ≡ before
    → IsOpened asked memory_wanted before after
opened_nothing asked before after same =
    opened_none asked memory_wanted before after same (λ h. absurd (omega (arith, h)))
    (λ h. absurd (omega (arith, h))) (λ r. no_report memory_wanted (omega arith) (λ h. omega (arith, h)) r)

pub opened_file : (name : List ℕ) (status : ℕ) (before after : List (List ℕ)) → after ≡ before ++ name ∷ []
    → IsOpened (asked_file name None) status before after
opened_file name status before after grew = record {
  opened = name ∷ [];
  grew = grew;
  front = ([], refl);
  unread = λ h. omega arith;
  config = λ h. refl;
  all = λ h. refl;
}

-- the configuration alone
pub opened_config : (name config : List ℕ) (status : ℕ) (before after : List (List ℕ))
    → after ≡ before ++ config ∷ [] → some_open < status → (status ≡ file_refused → ⊥)
    → IsOpened (asked_file name (Some config)) status before after
opened_config name config status before after grew high other = record {
  opened = config ∷ [];
  grew = grew;
  front = (name ∷ [], refl);
  unread = λ h. omega arith;
  config = λ h. refl;
  all = λ r. no_report status high other r;
}

pub opened_both : (name config : List ℕ) (status : ℕ) (before middle after : List (List ℕ))
    → middle ≡ before ++ config ∷ [] → after ≡ middle ++ name ∷ [] → (status ≡ config_refused → ⊥)
    → IsOpened (asked_file name (Some config)) status before after
opened_both name config status before middle after one two accepted = record {
  opened = config ∷ name ∷ [];
  grew = two ∙ ap (λ (l : List (List ℕ)). l ++ name ∷ []) one ∙ append_assoc before (config ∷ []) (name ∷ []);
  front = ([], refl);
  unread = λ h. omega arith;
  config = λ h. absurd (accepted h);
  all = λ h. refl;
}

file_accepted : (api : Api) (name : List ℕ) (first last : Stand) (status : ℕ) (answer : List ℕ)
    → IsFileAnswer api name first last status answer → status ≡ config_refused → ⊥
file_accepted api name first last status answer is h =
    ⊎_elim (λ (r : (status ≤ some_open) × (last.faults ≡ first.faults) × ((t : Opened)
    × (last.opened ≡ first.opened ++ t ∷ []) × IsRead first.texts name file_limit t
    × IsReport api t.bytes status answer)). let low = r.0 in omega (arith, low, h))
    (λ (r : ((status ≡ file_unread) × Rose first.faults last.faults × (answer ≡ unread_text name))
    ⊎ ((status ≡ file_refused) × (last.faults ≡ first.faults) × ((t : Opened)
    × (last.opened ≡ first.opened ++ t ∷ []) × IsFileRefusal first.texts api name t answer))).
    ⊎_elim (λ (u : (status ≡ file_unread) × Rose first.faults last.faults × (answer ≡ unread_text name)).
    let is = u.0 in omega (arith, is, h))
    (λ (u : (status ≡ file_refused) × (last.faults ≡ first.faults) × ((t : Opened)
    × (last.opened ≡ first.opened ++ t ∷ []) × IsFileRefusal first.texts api name t answer)).
    let is = u.0 in omega (arith, is, h)) r) is

-- both files, or the configuration alone where it is refused
pub opened_for_config : (text name config : List ℕ) (first last : Stand) (start : List (List ℕ)) (status : ℕ)
    (answer : List ℕ) → first.names_opened ≡ start ++ config ∷ []
    → IsConfigAnswer text name first last status answer
    → IsOpened (asked_file name (Some config)) status start last.names_opened
opened_for_config text name config first last start status answer one found =
    ⊎_elim (λ (r : (status ≡ config_refused) × (last ≡ first)
    × ((reason : List ℕ) × IsWrong text reason × (answer ≡ wrong_text reason))).
    let is = r.0 in
    opened_config name config status start last.names_opened (ap (λ (s : Stand). s.names_opened) r.1 ∙ one)
    (omega (arith, is)) (λ h. omega (arith, is, h)))
    (λ (r : (api : Api) × IsConfigured text api × (last.names_opened ≡ first.names_opened ++ name ∷ [])
    × IsFileAnswer api name first last status answer).
    opened_both name config status start first.names_opened last.names_opened one r.2
    (λ h. file_accepted r.0 name first last status answer r.3 h)) found

pub opened_before : (name config : List ℕ) (start after : List (List ℕ)) → IsGiven start config after
    → IsOpened (asked_file name (Some config)) memory_wanted start after
opened_before name config start after is =
    ⊎_elim (λ (h : after ≡ start). opened_nothing (asked_file name (Some config)) start after h)
    (λ (h : after ≡ start ++ config ∷ []). opened_config name config memory_wanted start after h (omega arith)
    (λ h. omega (arith, h))) is

pub opened_after : (name config : List ℕ) (start middle after : List (List ℕ)) → middle ≡ start ++ config ∷ []
    → IsGiven middle name after → IsOpened (asked_file name (Some config)) memory_wanted start after
opened_after name config start middle after one is =
    ⊎_elim (λ (h : after ≡ middle). opened_config name config memory_wanted start after (h ∙ one) (omega arith)
    (λ h. omega (arith, h)))
    (λ (h : after ≡ middle ++ name ∷ []). opened_both name config memory_wanted start middle after one h
    (λ h. omega (arith, h))) is

pub opened_plain : (name : List ℕ) (start after : List (List ℕ)) → IsGiven start name after
    → IsOpened (asked_file name None) memory_wanted start after
opened_plain name start after is =
    ⊎_elim (λ (h : after ≡ start). opened_nothing (asked_file name None) start after h)
    (λ (h : after ≡ start ++ name ∷ []). opened_file name memory_wanted start after h) is

-- the answer to the text of a file that was read
pub text_answer : (api : Api) (name : List ℕ) (first last : Stand) (bytes text : List ℕ) (status : ℕ)
    (answer : List ℕ)
    → (t : Opened) × (last.opened ≡ first.opened ++ t ∷ []) × IsRead first.texts name file_limit t
    × (bytes ≡ t.bytes) × (last.faults ≡ first.faults) → text ≡ bytes
    → ((status ≤ some_open) × IsReport api text status answer)
    ⊎ ((status ≡ file_refused) × IsRefusedAs api text answer) → IsFileAnswer api name first last status answer
text_answer api name first last bytes text status answer (t, opened, read, whole, steady) same is =
    ⊎_elim (λ (r : (status ≤ some_open) × IsReport api text status answer).
    inl (r.0, steady, (t, opened, read, subst (λ (b : List ℕ). IsReport api b status answer) (same ∙ whole) r.1)))
    (λ (r : (status ≡ file_refused) × IsRefusedAs api text answer).
    inr (inr (
      r.0,
      steady,
      (
        t,
        opened,
        inr (
          read,
          subst (λ (b : List ℕ). IsRefusedAs api b answer) (same ∙ whole)
              r.1,
        ),
      ),
    ))) is

-- the answer to a file that is over the limit
pub long_answer : (api : Api) (name : List ℕ) (first last : Stand) (status : ℕ) (answer : List ℕ)
    → (t : Opened) × (last.opened ≡ first.opened ++ t ∷ []) × IsLong first.texts name file_limit t
    × (last.faults ≡ first.faults) → status ≡ file_refused → answer ≡ long_text
    → IsFileAnswer api name first last status answer
long_answer api name first last status answer (t, opened, long, steady) is said =
    inr (inr (is, steady, (t, opened, inl (long, said))))
