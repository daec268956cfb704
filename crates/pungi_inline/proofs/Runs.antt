-- The law of runs: all rounds of copies return what the code itself returns.
use Rattle.std.proofs.Common.{◌≡◌, ℕ, ◌≤◌, List, length, Some, sym, ap, ◌∙◌, arith}
use Rattle.pungi_base.specs.declared.choice.Choice.{Choice}
use Rattle.pungi_base.specs.declared.entry.Entry.{Entry}
use Rattle.pungi_meaning.specs.Run.{Run}
use Rattle.pungi_code.specs.declared.code.Code.{Code}
use Rattle.pungi_code.specs.declared.code.Codes.{Codes}
use Rattle.pungi_code.specs.Frames.{code_numbered}
use Rattle.pungi_code.specs.Run.{start}
use Rattle.pungi_code.specs.WellFormed.{AreWellFormed, IsWellFormedAmong, kinds_of}
use Rattle.pungi_code.proofs.AloneLemmas.{runs_alone}
use Rattle.pungi_inline.specs.Inlined.{replaced}
use Rattle.pungi_inline.specs.Laws.{RunsAlike, IsAlikeInlined}
use Rattle.pungi_inline.proofs.CalledCodes.{numbered, have_params}
use Rattle.pungi_inline.proofs.Formed.{replaced_among}
use Rattle.pungi_inline.proofs.Performing.{runs_among}
use Rattle.pungi_inline.proofs.Rounds.{RoundAlike, round}

module _ (codes : Codes) (h : AreWellFormed codes) where
  -- each code of the file is well-formed
  formed_each : (f : ℕ) (g : Code) → code_numbered codes.codes f ≡ Some g → IsWellFormedAmong (kinds_of codes) g
  formed_each f g e = h.each f g (numbered codes.codes f g e)

  -- each round changes nothing of what is returned
  each_round : (c : Code) → IsWellFormedAmong (kinds_of codes) c
      → RoundAlike codes.codes c (replaced codes.codes c)
  each_round c formed = round codes.codes (have_params codes h) (kinds_of codes) formed_each c formed

  -- nor do all rounds
  runs_alike : (c : Code) → IsWellFormedAmong (kinds_of codes) c → (entry : Entry) (choices : List Choice)
      → length entry.args ≤ length c.vars → RunsAlike codes c entry choices
  runs_alike c formed entry choices few =
      let cs = codes.codes in
      let c1 = replaced cs c in
      let c2 = replaced cs c1 in
      let c3 = replaced cs c2 in
      let formed1 = replaced_among codes h c formed in
      let formed2 = replaced_among codes h c1 formed1 in
      let a = each_round c formed in
      let b = each_round c1 formed1 in
      let d = each_round c2 formed2 in
      let few1 : length entry.args ≤ length c1.vars = omega (arith, few, a.vars) in
      let few2 : length entry.args ≤ length c2.vars = omega (arith, few1, b.vars) in record {
        only = λ n w v p used r.
            a.only entry choices n w v p used few
            (b.only entry choices n w v p used few1
            (d.only entry choices n w v p used few2
            (runs_among cs choices w v p used n c3.instrs 0 (start c3 entry) r)));
        all = λ none n w v p used r.
            let i = a.all entry choices n w v p used few r in
            let j = b.all entry choices i.0 w v p used few1 i.1 in
            let k = d.all entry choices j.0 w v p used few2 j.1 in
            (k.0, sym (ap (λ (o : Run). o.end) (runs_alone cs c3.instrs none choices k.0 0 (start c3 entry))) ∙ k.1);
      }

-- the law of runs
pub inlined_alike : (codes : Codes) (f : ℕ) (c : Code) → IsAlikeInlined codes f c
inlined_alike codes f c h there entry choices few =
    runs_alike codes h c (formed_each codes h f c there) entry choices few
