-- Reading types and expressions is right: what is read stands at the front of the tokens, is allowed, and is no deeper
-- than it may be; and each such tree is read, where the tokens after it do not go on with it.
--   .._sound         what is read stands there
--   .._complete      what stands there is read
--   .._shorter, .._no_longer    fewer tokens, or no more, are left than there were
--   .._begins        how the tokens of a tree begin
--   expr_no_label    where an expression begins with a word, no `:` follows it
use Rattle.std.proofs.Common.{◌≡◌, ℕ, ◌≤◌, ◌<◌, Bool, true, List, ◌∷◌, length, Some, None}
use Rattle.pungi_base.specs.declared.key.Key.{Key}
use Rattle.pungi_base.specs.declared.names.Name.{Name}
use Rattle.pungi_base.specs.declared.pos.Pos.{Pos}
use Rattle.pungi_base.specs.declared.punct.Punct.TheVariants as puncts
use Rattle.pungi_parse.specs.tokens.OneToken.{eat, eat_text, eat_listed}
use Rattle.pungi_parse.specs.Readers.{readers}
use Rattle.pungi_parse.specs.types.TypeReader.{keywords, stars, texts, declr_at, plain_word, type_word}
use Rattle.pungi_parse.proofs.tokens.FirstTokens.{ExprBegins, TypeBegins, DeclBegins}
use Rattle.pungi_parse.proofs.tokens.Ends.{ExprEnds, SpecEnds, StarsEnd, DeclrEnds}
use Rattle.pungi_parse.proofs.expr.Readings.{ReadsExpr, ReadsSpec, ReadsParams, ReadsDeclr}
use Rattle.pungi_parse.proofs.expr.AllRead as all
use Rattle.pungi_parse.proofs.expr.Choices as choices
use Rattle.pungi_parse.proofs.expr.ClimbSound as sound
use Rattle.pungi_parse.proofs.trees.Fronts as fronts
use Rattle.pungi_parse.proofs.trees.Shorter as shorter
use Rattle.pungi_parse.proofs.expr.ExprSteps.{whole}
use Rattle.pungi_parse.proofs.tokens.WordReadings as texts_read
use Rattle.pungi_tree.specs.ExprDepth.{expr_depth, spec_depth, params_depth, declr_depth}
use Rattle.pungi_tree.specs.ExprLevels.{expr_at, spec_ok, params_ok, declr_ok}
use Rattle.pungi_tree.specs.ExprSpells.{Spells, SpellsSpec, SpellsParams, SpellsDeclr, SpellsKeys, SpellsStars}
use Rattle.pungi_tree.specs.ExprSpells.{SpellsTexts}
use Rattle.pungi_tree.specs.Operators.{is_qualifier, all_keys}
use Rattle.pungi_tree.specs.Placed.{Placed, mark_at, word_at}
use Rattle.pungi_tree.specs.Syntax.{Expr, Spec, Params, Declr}
use Rattle.pungi_tree.specs.TypeWords.{is_type, is_word}

pub expr_sound : (types : List Name) (n d l : ℕ) (ts : List Placed) (x : Expr × List Placed)
    → (readers types n d).expr l ts ≡ Some x → l ≤ 14 → ReadsExpr types d l ts x
expr_sound types n d l ts x h most = sound.expr_sound types n d l ts x h most

pub spec_sound : (types : List Name) (n d : ℕ) (ts : List Placed) (x : Spec × List Placed)
    → (readers types n d).spec ts ≡ Some x → ReadsSpec types d ts x
spec_sound types n d ts x h = sound.spec_sound types n d ts x h

pub params_sound : (types : List Name) (n d : ℕ) (ts : List Placed) (x : Params × List Placed)
    → (readers types n d).params ts ≡ Some x → ReadsParams types d ts x
params_sound types n d ts x h = sound.params_sound types n d ts x h

pub declr_sound : (types : List Name) (n d : ℕ) (ts : List Placed) (x : Declr × List Placed)
    → declr_at types (readers types n d) ts ≡ Some x → ReadsDeclr types d ts x
declr_sound types n d ts x h = sound.declr_sound types n d ts x h

pub keywords_sound : (test : Key → Bool) (ts : List Placed)
    → SpellsKeys (keywords test ts).0 ts (keywords test ts).1 × (all_keys test (keywords test ts).0 ≡ true)
keywords_sound test ts = texts_read.keywords_sound test ts

pub stars_sound : (ts : List Placed) → SpellsStars (stars ts).0 ts (stars ts).1
stars_sound ts = texts_read.stars_sound ts

pub texts_sound : (ts : List Placed) → SpellsTexts (texts ts).0 ts (texts ts).1
texts_sound ts = texts_read.texts_sound ts

pub plain_word_sound : (types : List Name) (ts : List Placed) (w : Name × Pos × List Placed)
    → plain_word types ts ≡ Some w → (ts ≡ word_at w.0 w.1 ∷ w.2) × (is_word types w.0 ≡ true)
plain_word_sound types ts w h = texts_read.plain_word_sound types ts w h

pub type_word_sound : (types : List Name) (ts : List Placed) (w : Name × Pos × List Placed)
    → type_word types ts ≡ Some w → (ts ≡ word_at w.0 w.1 ∷ w.2) × (is_type types w.0 ≡ true)
type_word_sound types ts w h = texts_read.type_word_sound types ts w h

pub expr_complete : (types : List Name) (n d l : ℕ) (e : Expr) (ts rest : List Placed) → Spells e ts rest
    → expr_at types l e ≡ true → expr_depth e ≤ d → length ts ≤ n → ExprEnds l rest → l ≤ 14
    → (readers types n d).expr l ts ≡ Some (e, rest)
expr_complete types n d l e ts rest s ok deep long ends most =
    whole types e (all.expr_steps types e) n d l ts rest s ok deep long ends most

pub spec_complete : (types : List Name) (n d : ℕ) (s : Spec) (ts rest : List Placed) → SpellsSpec s ts rest
    → spec_ok types s ≡ true → spec_depth s ≤ d → length ts ≤ n → SpecEnds rest
    → (readers types n d).spec ts ≡ Some (s, rest)
spec_complete types n d c ts rest s ok deep long ends = all.spec_all types c n d ts rest s ok deep long ends

pub params_complete : (types : List Name) (n d : ℕ) (ps : Params) (q : Pos) (ts rest : List Placed)
    → SpellsParams ps ts (mark_at puncts.RightParen q ∷ rest) → params_ok types ps ≡ true → params_depth ps ≤ d
    → length ts < n → (readers types n d).params ts ≡ Some (ps, rest)
params_complete types n d ps q ts rest s ok deep long = all.params_all types ps n d q ts rest s ok deep long

pub declr_complete : (types : List Name) (n d : ℕ) (c : Declr) (ts rest : List Placed) → SpellsDeclr c ts rest
    → declr_ok types c ≡ true → declr_depth c ≤ d → length ts ≤ n → DeclrEnds rest
    → declr_at types (readers types n d) ts ≡ Some (c, rest)
declr_complete types n d c ts rest s ok deep long ends = all.declr_all types c n d ts rest s ok deep long ends

pub keywords_complete : (test : Key → Bool) (ks : List Key) (ts rest : List Placed) → SpellsKeys ks ts rest
    → all_keys test ks ≡ true → eat_listed test rest ≡ None → keywords test ts ≡ (ks, rest)
keywords_complete test ks ts rest s ok none = texts_read.keywords_complete test ks ts rest s ok none

pub stars_complete : (ss : List ℕ) (ts rest : List Placed) → SpellsStars ss ts rest → StarsEnd rest
    → stars ts ≡ (ss, rest)
stars_complete ss ts rest s ends = texts_read.stars_complete ss ts rest s ends

pub texts_complete : (ns : List Name) (ts rest : List Placed) → SpellsTexts ns ts rest → eat_text rest ≡ None
    → texts ts ≡ (ns, rest)
texts_complete ns ts rest s none = texts_read.texts_complete ns ts rest s none

pub plain_word_complete : (types : List Name) (n : Name) (p : Pos) (ts : List Placed) → is_word types n ≡ true
    → plain_word types (word_at n p ∷ ts) ≡ Some (n, p, ts)
plain_word_complete types n p ts h = texts_read.plain_word_complete types n p ts h

pub type_word_complete : (types : List Name) (n : Name) (p : Pos) (ts : List Placed) → is_type types n ≡ true
    → type_word types (word_at n p ∷ ts) ≡ Some (n, p, ts)
type_word_complete types n p ts h = texts_read.type_word_complete types n p ts h

pub expr_shorter : (types : List Name) (l : ℕ) (e : Expr) (ts rest : List Placed) → Spells e ts rest
    → expr_at types l e ≡ true → length rest < length ts
expr_shorter types l e ts rest s ok = shorter.expr_shorter types l e ts rest s ok

pub spec_shorter : (types : List Name) (s : Spec) (ts rest : List Placed) → SpellsSpec s ts rest
    → spec_ok types s ≡ true → length rest < length ts
spec_shorter types c ts rest s ok = shorter.spec_shorter types c ts rest s ok

pub declr_shorter : (c : Declr) (ts rest : List Placed) → SpellsDeclr c ts rest → length rest < length ts
declr_shorter c ts rest s = shorter.declr_shorter c ts rest s

pub params_no_longer : (ps : Params) (ts rest : List Placed) → SpellsParams ps ts rest → length rest ≤ length ts
params_no_longer ps ts rest s = shorter.params_no_longer ps ts rest s

pub keys_no_longer : (ks : List Key) (ts rest : List Placed) → SpellsKeys ks ts rest → length rest ≤ length ts
keys_no_longer ks ts rest s = texts_read.keys_no_longer ks ts rest s

pub stars_no_longer : (ss : List ℕ) (ts rest : List Placed) → SpellsStars ss ts rest → length rest ≤ length ts
stars_no_longer ss ts rest s = texts_read.stars_no_longer ss ts rest s

pub texts_no_longer : (ns : List Name) (ts rest : List Placed) → SpellsTexts ns ts rest → length rest ≤ length ts
texts_no_longer ns ts rest s = texts_read.texts_no_longer ns ts rest s

pub expr_begins : (types : List Name) (l : ℕ) (e : Expr) (ts rest : List Placed) → Spells e ts rest
    → expr_at types l e ≡ true → ExprBegins types ts
expr_begins types l e ts rest s ok = fronts.expr_begins types l e ts rest s ok

pub spec_begins : (types : List Name) (s : Spec) (ts rest : List Placed) → SpellsSpec s ts rest
    → spec_ok types s ≡ true → TypeBegins types ts
spec_begins types c ts rest s ok = fronts.spec_begins types c ts rest s ok

pub decl_begins : (types : List Name) (qs : List Key) (s : Spec) (ts after rest : List Placed)
    → SpellsKeys qs ts after → all_keys is_qualifier qs ≡ true → SpellsSpec s after rest → spec_ok types s ≡ true
    → DeclBegins types ts
decl_begins types qs c ts after rest k fine s ok = fronts.decl_begins types qs c ts after rest k fine s ok

pub expr_no_label : (types : List Name) (l : ℕ) (e : Expr) (ts rest : List Placed) (w : Name × Pos × List Placed)
    → Spells e ts rest → expr_at types l e ≡ true → eat puncts.Colon rest ≡ None → plain_word types ts ≡ Some w
    → eat puncts.Colon w.2 ≡ None
expr_no_label types l e ts rest w s ok none h = choices.expr_no_label types l e ts rest w s ok none h
