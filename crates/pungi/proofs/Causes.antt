-- Each status comes where its cause holds.
use Rattle.std.proofs.Common.{◌≡◌, ◌⊎◌, inl, inr, ⊎_elim, ℕ, ◌≤◌, ◌<◌, List, [], ◌∷◌, ◌++◌, length, Option, Some}
use Rattle.std.proofs.Common.{None, subst, sym, ap, ◌∙◌, arith, length-append}
use Rattle.std.proofs.lemmas.List.{append_cancel_left}
use Rattle.std.specs.Prelude.{Result, Ok}
use Rattle.pungi_api.specs.Rows.{builtin_rows}
use Rattle.pungi_api.specs.Terms.{FileTerms}
use Rattle.pungi_api.specs.declared.row.Row.{Row}
use Rattle.pungi_base.specs.Words.{builtin_words}
use Rattle.pungi_config.specs.Command.{Asked, file, trial}
use Rattle.pungi_config.specs.Configuration.{names_after}
use Rattle.pungi_config.specs.Limits.{config_limit}
use Rattle.pungi_io.specs.OpenedText.{Opened}
use Rattle.pungi_trial.specs.Text.{trial_text}
use Rattle.pungi_tree.specs.Syntax.{Item}
use Rattle.pungi_verdict.specs.Verdicts.{IsJudged}
use Rattle.pungi.specs.Answer.{Answers, IsApiFor, IsReported}
use Rattle.pungi.specs.Answer.{IsReportFor, IsRefusalFor, IsOpened, long_text}
use Rattle.pungi.specs.Api.{Api, IsConfigured, IsNoConfiguration, IsWrong, builtin_api, wrong_text}
use Rattle.pungi.specs.Api.{long_reason}
use Rattle.pungi.specs.Causes.{IsApiText, IsConfigText, IsFileText, IsRefusedConfig, IsRefusedText}
use Rattle.pungi.specs.Front.{IsFile, IsNoFile, IsRefusedAs}
use Rattle.pungi.specs.Limits.{file_limit}
use Rattle.pungi.specs.Read.{IsLong, IsRead}
use Rattle.pungi.specs.Shelves.{Stand}
use Rattle.pungi.specs.Status.{words_refused, file_unread, file_refused}
use Rattle.pungi.specs.Status.{config_refused}

-- what was opened, where it is one text or two
only_one : (earlier : List Opened) (t u : Opened) → earlier ≡ [] → u ∷ [] ≡ earlier ++ t ∷ [] → u ≡ t
only_one [] t u none is = cc
only_one (c ∷ cs) t u none is = absurd (cc)

second : (earlier : List Opened) (c d t u : Opened) → earlier ≡ d ∷ [] → c ∷ u ∷ [] ≡ earlier ++ t ∷ [] → u ≡ t
second [] c d t u one is = absurd (cc)
second (x ∷ []) c d t u one is = cc
second (x ∷ y ∷ cs) c d t u one is = absurd (cc)

first_same : (c d : Opened) (later others : List Opened) → c ∷ later ≡ d ∷ others → c ≡ d
first_same c d later others is = cc

-- a text of a shelf that shows its texts is what was read of it, whole
same_whole : (texts : List ℕ → Option (List ℕ)) (name text : List ℕ) (limit : ℕ) (t : Opened) → texts name ≡ Some text
    → IsRead (Some texts) name limit t → text ≡ t.bytes
same_whole texts name text limit t told read =
    let named = read.named in let is = read.whole.1 in cc

-- the text of the file is what was read of the one that was opened last
same_text : (name : List ℕ) (config : Option (List ℕ)) (texts : Option (List ℕ → Option (List ℕ)))
    (opened earlier : List Opened) (api : Api) (t : Opened) (text : List ℕ) (limit : ℕ) → opened ≡ earlier ++ t ∷ []
    → IsApiFor texts config earlier api → IsFileText (Some (file name config)) texts opened text
    → IsRead texts name limit t → text ≡ t.bytes
same_text name None (Some texts) opened earlier api t text limit all known told read =
    same_whole texts name text limit t told read
same_text name (Some config) (Some texts) opened earlier api t text limit all known told read =
    same_whole texts name text limit t told read
same_text name None None opened earlier api t text limit all (none, known) (u, one, told) read =
    told ∙ ap (λ (x : Opened). x.bytes) (only_one earlier t u none (sym one ∙ all))
same_text name (Some config) None opened earlier api t text limit all (d, one, was, known) (c, u, two, told) read =
    told ∙ ap (λ (x : Opened). x.bytes) (second earlier c d t u one (sym two ∙ all))

longer_front : (texts : List ℕ → Option (List ℕ)) (name text : List ℕ) (limit : ℕ) (t : Opened)
    → texts name ≡ Some text → IsLong (Some texts) name limit t → limit < length text
longer_front texts name text limit t told is =
    let behind : List ℕ = is.front.0 in
    let named = is.named in
    let was = is.front.1 in
    let whole : text ≡ t.bytes ++ behind = cc in
    let long = is.long in
    rw whole (omega (arith, long, length-append t.bytes behind))

longer_text : (name : List ℕ) (config : Option (List ℕ)) (texts : Option (List ℕ → Option (List ℕ)))
    (opened earlier : List Opened) (api : Api) (t : Opened) (text : List ℕ) → opened ≡ earlier ++ t ∷ []
    → IsApiFor texts config earlier api → IsFileText (Some (file name config)) texts opened text
    → IsLong texts name file_limit t → file_limit < length text
longer_text name None (Some texts) opened earlier api t text all known told is =
    longer_front texts name text file_limit t told is
longer_text name (Some config) (Some texts) opened earlier api t text all known told is =
    longer_front texts name text file_limit t told is
longer_text name None None opened earlier api t text all (none, known) (u, one, told) is =
    rw told (rw (only_one earlier t u none (sym one ∙ all)) is.long)
longer_text name (Some config) None opened earlier api t text all (d, one, was, known) (c, u, two, told) is =
    rw told (rw (second earlier c d t u one (sym two ∙ all)) is.long)

-- the text of the configuration is what was read of the one that was opened first
same_config : (name config : List ℕ) (texts : Option (List ℕ → Option (List ℕ))) (opened later : List Opened)
    (d : Opened) (text : List ℕ) (limit : ℕ) → opened ≡ d ∷ later
    → IsConfigText (Some (file name (Some config))) texts opened text → IsRead texts config limit d → text ≡ d.bytes
same_config name config (Some texts) opened later d text limit all told read =
    same_whole texts config text limit d told read
same_config name config None opened later d text limit all (c, others, is, told) read =
    told ∙ ap (λ (x : Opened). x.bytes) (first_same c d others later (sym is ∙ all))

longer_config : (name config : List ℕ) (texts : Option (List ℕ → Option (List ℕ))) (opened later : List Opened)
    (d : Opened) (text : List ℕ) → opened ≡ d ∷ later
    → IsConfigText (Some (file name (Some config))) texts opened text → IsLong texts config config_limit d
    → config_limit < length text
longer_config name config (Some texts) opened later d text all told long =
    longer_front texts config text config_limit d told long
longer_config name config None opened later d text all (c, others, is, told) long =
    rw told (rw (first_same c d others later (sym is ∙ all)) long.long)

-- a configuration makes one API known
one_reading : (found other : List (ℕ × Row) × FileTerms)
    → ◌≡◌ {A = Option (Result (List (ℕ × Row) × FileTerms) (List ℕ))} (Some (Ok found)) (Some (Ok other))
    → found ≡ other
one_reading found other same = cc

one_api : (text : List ℕ) (api other : Api) → IsConfigured text api → IsConfigured text other → api ≡ other
one_api text api other (more, terms, read, is) (rows, others, found, was) =
    let known : List (ℕ × Row) × FileTerms → Api = λ p.
    record { names = names_after builtin_words text; rows = builtin_rows ++ p.0; terms = p.1 } in
    is ∙ ap known (one_reading (more, terms) (rows, others) (sym read ∙ found)) ∙ sym was

-- the configuration was opened before the file
begins : (opened earlier : List Opened) (d t : Opened) → opened ≡ earlier ++ t ∷ [] → earlier ≡ d ∷ []
    → opened ≡ d ∷ t ∷ []
begins opened earlier d t all one = all ∙ ap (λ (ts : List Opened). ts ++ t ∷ []) one

same_api : (texts : Option (List ℕ → Option (List ℕ))) (opened earlier : List Opened) (t : Opened) (name : List ℕ)
    (config : Option (List ℕ)) (api other : Api) → opened ≡ earlier ++ t ∷ []
    → IsApiText (Some (file name config)) texts opened api → IsApiFor texts config earlier other → api ≡ other
same_api texts opened earlier t name None api other all is (none, known) = is ∙ sym known
same_api texts opened earlier t name (Some config) api other all (text, told, short, is) (d, one, read, known) =
    let same : text ≡ d.bytes =
    same_config name config texts opened (t ∷ []) d text config_limit (begins opened earlier d t all one) told read in
    one_api d.bytes api other (subst (λ (b : List ℕ). IsConfigured b api) same is) known

-- rows that were read are not refused
not_wrong : (text reason : List ℕ) (api : Api) → IsConfigured text api → IsWrong text reason → ⊥
not_wrong text reason api (more, terms, read, is) wrong =
    ⊎_elim (λ h. let none = h.0 in cc) (λ h. let found = h in cc) wrong

accepted_config : (texts : Option (List ℕ → Option (List ℕ))) (opened : List Opened) (d : Opened)
    (name config answer : List ℕ) (api : Api) → opened ≡ d ∷ []
    → IsApiText (Some (file name (Some config))) texts opened api
    → (IsLong texts config config_limit d × (answer ≡ wrong_text long_reason))
    ⊎ (IsRead texts config config_limit d
    × ((reason : List ℕ) × IsWrong d.bytes reason × (answer ≡ wrong_text reason))) → ⊥
accepted_config texts opened d name config answer api all (text, told, short, is) wrong =
    ⊎_elim (λ (l : IsLong texts config config_limit d × (answer ≡ wrong_text long_reason)).
    let long : config_limit < length text = longer_config name config texts opened [] d text all told l.0 in
    omega (arith, short, long))
    (λ (w : IsRead texts config config_limit d
    × ((reason : List ℕ) × IsWrong d.bytes reason × (answer ≡ wrong_text reason))).
    let same : text ≡ d.bytes = same_config name config texts opened [] d text config_limit all told w.0 in
    not_wrong d.bytes w.1.0 api (subst (λ (b : List ℕ). IsConfigured b api) same is) w.1.1) wrong

-- what was opened in a call is one list
pub one_list : (before after opened others : List Opened) → after ≡ before ++ opened → after ≡ before ++ others
    → opened ≡ others
one_list before after opened others is was = append_cancel_left before opened others (sym is ∙ was)

-- where the API and the file's text are known, the configuration isn't refused
not_unconfigured : (first last : Stand) (asked : Option Asked) (status : ℕ) (answer : List ℕ)
    → Answers first last asked status answer → (opened : List Opened) → last.opened ≡ first.opened ++ opened
    → (api : Api) → IsApiText asked first.texts opened api → status ≡ config_refused → ⊥
not_unconfigured first last asked status answer a opened grew api known h =
    let u = a.unconfigured h in
    let d : Opened = u.3.0 in
    accepted_config first.texts opened d u.0 u.1 answer api
    (one_list first.opened last.opened opened (d ∷ []) grew u.3.1)
    (subst (λ (o : Option Asked). IsApiText o first.texts opened api) u.2 known) u.3.2

none_asked : (asked : Option Asked) (texts : Option (List ℕ → Option (List ℕ))) (opened : List Opened) (api : Api)
    → IsApiText asked texts opened api → asked ≡ None → ⊥
none_asked None texts opened api known is = known
none_asked (Some asked) texts opened api known is = cc

-- what holds of each of seven cases holds
of_seven : {A B C D E F G P : Type 0} → A ⊎ B ⊎ C ⊎ D ⊎ E ⊎ F ⊎ G → (A → P) → (B → P) → (C → P) → (D → P) → (E → P)
    → (F → P) → (G → P) → P
of_seven cases a b c d e f g =
    ⊎_elim a (λ cases. ⊎_elim b (λ cases. ⊎_elim c (λ cases. ⊎_elim d (λ cases. ⊎_elim e (λ cases. ⊎_elim f g cases)
    cases) cases) cases) cases) cases

refused_is_no_file : (api : Api) (text : List ℕ) → length text ≤ file_limit → IsRefusedText api text
    → IsNoFile api text
refused_is_no_file api text short refused =
    ⊎_elim (λ (long : file_limit < length text). absurd (omega (arith, long, short)))
    (λ (none : (length text ≤ file_limit) × IsNoFile api text). none.1) refused

no_report : (first last : Stand) (asked : Option Asked) (status : ℕ) (answer : List ℕ) (opened : List Opened)
    (api : Api) (text : List ℕ) → IsReportFor IsJudged first last asked status answer
    → last.opened ≡ first.opened ++ opened → IsApiText asked first.texts opened api
    → IsFileText asked first.texts opened text → IsRefusedText api text → ⊥
no_report first last None status answer opened api text is grew known told refused = is
no_report first last (Some (file name config)) status answer opened api text (other, t, over, read, is) grew known
    told refused =
    let all = one_list first.opened last.opened opened (over.earlier ++ t ∷ []) grew over.opened in
    let same : text ≡ t.bytes =
    same_text name config first.texts opened over.earlier other t text file_limit all over.known told read in
    let one : api ≡ other = same_api first.texts opened over.earlier t name config api other all known over.known in
    let v = is.verdicts in
    refused_is_no_file other t.bytes read.short (subst (λ (a : Api). IsRefusedText a t.bytes) one
    (subst (λ (b : List ℕ). IsRefusedText api b) same refused)) is.names v.items v.file
no_report first last (Some (trial n)) status answer opened api text (short, is) grew known told refused =
    let v = is.verdicts in
    refused_is_no_file builtin_api (trial_text n) short (subst (λ (a : Api). IsRefusedText a (trial_text n)) known
    (subst (λ (t : List ℕ). IsRefusedText api t) told refused)) is.names v.items v.file

no_refusal : (first last : Stand) (asked : Option Asked) (answer : List ℕ) (opened : List Opened) (api : Api)
    (text : List ℕ) (names : List (List ℕ)) (items : List Item) → IsRefusalFor first last asked answer
    → last.opened ≡ first.opened ++ opened → IsApiText asked first.texts opened api
    → IsFileText asked first.texts opened text → length text ≤ file_limit → IsFile api text names items → ⊥
no_refusal first last None answer opened api text names items is grew known told short spelled = is
no_refusal first last (Some (file name config)) answer opened api text names items (other, t, over, is) grew known
    told short spelled =
    let all = one_list first.opened last.opened opened (over.earlier ++ t ∷ []) grew over.opened in
    let one : api ≡ other = same_api first.texts opened over.earlier t name config api other all known over.known in
    ⊎_elim (λ (l : IsLong first.texts name file_limit t × (answer ≡ long_text)).
    let long : file_limit < length text =
    longer_text name config first.texts opened over.earlier other t text all over.known told l.0 in
    omega (arith, short, long))
    (λ (r : IsRead first.texts name file_limit t × IsRefusedAs other t.bytes answer).
    let same : text ≡ t.bytes =
    same_text name config first.texts opened over.earlier other t text file_limit all over.known told r.0 in
    r.1.none names items (subst (λ (a : Api). IsFile a t.bytes names items) one
    (subst (λ (b : List ℕ). IsFile api b names items) same spelled))) is
no_refusal first last (Some (trial n)) answer opened api text names items is grew known told short spelled =
    ⊎_elim (λ (l : (file_limit < length (trial_text n)) × (answer ≡ long_text)).
    let long : file_limit < length (trial_text n) = l.0 in
    let within : length (trial_text n) ≤ file_limit = subst (λ (t : List ℕ). length t ≤ file_limit) told short in
    omega (arith, long, within))
    (λ (r : (length (trial_text n) ≤ file_limit) × IsRefusedAs builtin_api (trial_text n) answer).
    r.1.none names items (subst (λ (a : Api). IsFile a (trial_text n) names items) known
    (subst (λ (t : List ℕ). IsFile api t names items) told spelled))) is

pub file_is_refused : (first last : Stand) (asked : Option Asked) (status : ℕ) (answer : List ℕ)
    → Answers first last asked status answer → (opened : List Opened) → last.opened ≡ first.opened ++ opened
    → (api : Api) → IsApiText asked first.texts opened api → (text : List ℕ)
    → IsFileText asked first.texts opened text → IsRefusedText api text → (status ≡ file_unread → ⊥)
    → status ≡ file_refused
file_is_refused first last asked status answer a opened grew api known text told refused read =
    let reported = λ (h : IsReported status).
    no_report first last asked status answer opened api text (a.report h) grew known told refused in
    of_seven a.one (λ h. absurd (reported (inl h))) (λ h. absurd (reported (inr (inl h))))
    (λ h. absurd (reported (inr (inr h))))
    (λ h. absurd (none_asked asked first.texts opened api known (a.usage h).0))
    (λ h. absurd (read h)) (λ h. h)
    (λ h. absurd (not_unconfigured first last asked status answer a opened grew api known h))

pub file_judged : (first last : Stand) (asked : Option Asked) (status : ℕ) (answer : List ℕ)
    → Answers first last asked status answer → (opened : List Opened) → last.opened ≡ first.opened ++ opened
    → (api : Api) → IsApiText asked first.texts opened api → (text : List ℕ)
    → IsFileText asked first.texts opened text → length text ≤ file_limit
    → (names : List (List ℕ)) (items : List Item) → IsFile api text names items
    → (status ≡ file_unread → ⊥) → IsReported status
file_judged first last asked status answer a opened grew api known text told short names items spelled read =
    let refused = λ (h : status ≡ file_refused).
    no_refusal first last asked answer opened api text names items (a.refused h) grew known told short spelled in
    of_seven a.one (λ h. inl h) (λ h. inr (inl h)) (λ h. inr (inr h))
    (λ h. absurd (none_asked asked first.texts opened api known (a.usage h).0)) (λ h. absurd (read h))
    (λ h. absurd (refused h))
    (λ h. absurd (not_unconfigured first last asked status answer a opened grew api known h))

-- a configuration that is refused makes no API known
no_rows : (texts : Option (List ℕ → Option (List ℕ))) (opened earlier : List Opened) (t : Opened) (name : List ℕ)
    (config : Option (List ℕ)) (api : Api) (text : List ℕ) → opened ≡ earlier ++ t ∷ []
    → IsConfigText (Some (file name config)) texts opened text → IsRefusedConfig text
    → IsApiFor texts config earlier api → ⊥
no_rows texts opened earlier t name None api text all is refused known = is
no_rows texts opened earlier t name (Some config) api text all is refused (d, one, read, known) =
    let same : text ≡ d.bytes =
    same_config name config texts opened (t ∷ []) d text config_limit (begins opened earlier d t all one) is read in
    let short = read.short in
    ⊎_elim (λ (long : config_limit < length text).
    let within : length text ≤ config_limit = rw same short in omega (arith, long, within))
    (λ (none : (length text ≤ config_limit) × IsNoConfiguration text).
    none.1 api (subst (λ (b : List ℕ). IsConfigured b api) (sym same) known)) refused

no_config_report : (first last : Stand) (asked : Option Asked) (status : ℕ) (answer : List ℕ) (opened : List Opened)
    (text : List ℕ) → IsReportFor IsJudged first last asked status answer → last.opened ≡ first.opened ++ opened
    → IsConfigText asked first.texts opened text → IsRefusedConfig text → ⊥
no_config_report first last None status answer opened text is grew told refused = is
no_config_report first last (Some (file name config)) status answer opened text (api, t, over, read, is) grew told
    refused =
    no_rows first.texts opened over.earlier t name config api text
    (one_list first.opened last.opened opened (over.earlier ++ t ∷ []) grew over.opened) told refused over.known
no_config_report first last (Some (trial n)) status answer opened text is grew told refused = told

no_config_refusal : (first last : Stand) (asked : Option Asked) (answer : List ℕ) (opened : List Opened)
    (text : List ℕ) → IsRefusalFor first last asked answer → last.opened ≡ first.opened ++ opened
    → IsConfigText asked first.texts opened text → IsRefusedConfig text → ⊥
no_config_refusal first last None answer opened text is grew told refused = is
no_config_refusal first last (Some (file name config)) answer opened text (api, t, over, is) grew told refused =
    no_rows first.texts opened over.earlier t name config api text
    (one_list first.opened last.opened opened (over.earlier ++ t ∷ []) grew over.opened) told refused over.known
no_config_refusal first last (Some (trial n)) answer opened text is grew told refused = told

no_config : (asked : Option Asked) (texts : Option (List ℕ → Option (List ℕ))) (opened : List Opened) (text : List ℕ)
    → IsConfigText asked texts opened text → asked ≡ None → ⊥
no_config None texts opened text told is = told
no_config (Some asked) texts opened text told is = cc

pub config_is_refused : (first last : Stand) (asked : Option Asked) (status : ℕ) (answer : List ℕ)
    → Answers first last asked status answer → (opened : List Opened) → last.opened ≡ first.opened ++ opened
    → (text : List ℕ) → IsConfigText asked first.texts opened text → IsRefusedConfig text
    → (status ≡ file_unread → ⊥) → status ≡ config_refused
config_is_refused first last asked status answer a opened grew text told refused read =
    let reported = λ (h : IsReported status).
    no_config_report first last asked status answer opened text (a.report h) grew told refused in
    of_seven a.one (λ h. absurd (reported (inl h))) (λ h. absurd (reported (inr (inl h))))
    (λ h. absurd (reported (inr (inr h)))) (λ h. absurd (no_config asked first.texts opened text told (a.usage h).0))
    (λ h. absurd (read h))
    (λ h. absurd (no_config_refusal first last asked answer opened text (a.refused h) grew told refused)) (λ h. h)

nothing_reported : (first last : Stand) (asked : Option Asked) (status : ℕ) (answer : List ℕ) → asked ≡ None
    → IsReportFor IsJudged first last asked status answer → ⊥
nothing_reported first last None status answer none is = is
nothing_reported first last (Some asked) status answer none is = absurd (cc)

nothing_refused : (first last : Stand) (asked : Option Asked) (answer : List ℕ) → asked ≡ None
    → IsRefusalFor first last asked answer → ⊥
nothing_refused first last None answer none is = is
nothing_refused first last (Some asked) answer none is = absurd (cc)

-- where the words are refused, nothing is opened
not_unread : (asked : Option Asked) (status : ℕ) (before after : List (List ℕ)) → asked ≡ None
    → IsOpened asked status before after → status ≡ file_unread → ⊥
not_unread None status before after none is h =
    let some = is.unread h in
    let all : ◌≡◌ {A = List (List ℕ)} [] (is.opened ++ is.front.0) = is.front.1 in
    omega (arith, some, ap length all, length-append is.opened is.front.0)
not_unread (Some asked) status before after none is h = absurd (cc)

pub words_are_refused : (first last : Stand) (asked : Option Asked) (status : ℕ) (answer : List ℕ)
    (before after : List (List ℕ)) → Answers first last asked status answer
    → IsOpened asked status before after → asked ≡ None → status ≡ words_refused
words_are_refused first last asked status answer before after a opened none =
    let report = λ (h : IsReported status). nothing_reported first last asked status answer none (a.report h) in
    of_seven a.one (λ h. absurd (report (inl h))) (λ h. absurd (report (inr (inl h))))
    (λ h. absurd (report (inr (inr h)))) (λ h. h)
    (λ h. absurd (not_unread asked status before after none opened h))
    (λ h. absurd (nothing_refused first last asked answer none (a.refused h)))
    (λ h. absurd (let u = a.unconfigured h in let is = u.2 in cc))
