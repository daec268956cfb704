-- What an answer does to the status of a run and to the instructions that are counted.
use Rattle.std.proofs.Common.{◌≡◌, refl, Option, None, Some}
use Rattle.std.specs.declared.cmp.Ordering.{Ordering}
use Rattle.pungi_code.specs.declared.atom.Var.{Var}
use Rattle.pungi_code.specs.declared.code.Line.{Line}
use Rattle.pungi_code.specs.declared.instr.Instr.{Instr}
use Rattle.pungi_code.specs.declared.instr.Instr.TheVariants.{Set, Arith, Fit, Compare, Load, Store, Api, Call}
use Rattle.pungi_code.specs.declared.instr.Instr.TheVariants.{Unset as Forget, Jump, Branch, Return, Fall}
use Rattle.pungi_symbol.specs.declared.states.known.Known.{Known}
use Rattle.pungi_symbol.specs.declared.states.mark.Mark.{Mark}
use Rattle.pungi_symbol.specs.declared.states.sum.Sum.{Sum as SumOf}
use Rattle.pungi_symbol.specs.declared.states.term.Term.{Term}
use Rattle.pungi_symbol.specs.states.Turns.{stepped}
use Rattle.pungi_symbol.specs.answers.KnownAfter.{does, perform_line, load_first, store_first, put_answer, go_on}
use Rattle.pungi_symbol.specs.answers.KnownAfter.{ordered, computed}

-- the status stays, and no instruction is counted, or one more
pub data Counts (k k' : Known) : Type 0 where
  counts_none : k'.status ≡ k.status → k'.turns ≡ k.turns → Counts k k'
  counts_one : k'.status ≡ k.status → k'.turns ≡ stepped k.turns → Counts k k'

pub same_status : (k k' : Known) → Counts k k' → k'.status ≡ k.status
same_status k k' (counts_none e t) = e
same_status k k' (counts_one e t) = e

pub answered_counts : (k : Known) (x : Option Var) (o : Option Term) → Counts k (go_on (put_answer x o k))
answered_counts k None o = counts_one refl refl
answered_counts k (Some x) None = counts_one refl refl
answered_counts k (Some x) (Some c) = counts_one refl refl

pub does_counts : (k : Known) (i : Instr) → Counts k (does k i)
does_counts k (Set x a) = counts_one refl refl
does_counts k (Arith x kind o a b) = counts_one refl refl
does_counts k (Fit x kind a) = counts_one refl refl
does_counts k (Compare x c a b) = counts_one refl refl
does_counts k (Load x place) = counts_one refl refl
does_counts k (Store place a) = counts_one refl refl
does_counts k (Api x shape as') = answered_counts k x _
does_counts k (Call x f as') = counts_none refl refl
does_counts k (Forget x) = counts_one refl refl
does_counts k (Jump to) = counts_one refl refl
does_counts k (Branch a this other) = counts_one refl refl
does_counts k (Return o) = counts_none refl refl
does_counts k Fall = counts_none refl refl

pub line_counts : (k : Known) (o : Option Line) → Counts k (perform_line o (λ i. does k i) k)
line_counts k None = counts_none refl refl
line_counts k (Some line) = does_counts k line.instr

pub load_counts : (i : Instr) (r : Mark) (k : Known) → Counts k (load_first i r k)
load_counts (Set x a) r k = counts_none refl refl
load_counts (Arith x kind o a b) r k = counts_none refl refl
load_counts (Fit x kind a) r k = counts_none refl refl
load_counts (Compare x c a b) r k = counts_none refl refl
load_counts (Load x place) r k = counts_one refl refl
load_counts (Store place a) r k = counts_none refl refl
load_counts (Api x shape as') r k = counts_none refl refl
load_counts (Call x f as') r k = counts_none refl refl
load_counts (Forget x) r k = counts_none refl refl
load_counts (Jump to) r k = counts_none refl refl
load_counts (Branch a this other) r k = counts_none refl refl
load_counts (Return o) r k = counts_none refl refl
load_counts Fall r k = counts_none refl refl

pub store_counts : (i : Instr) (r : Mark) (k : Known) → Counts k (store_first i r k)
store_counts (Set x a) r k = counts_none refl refl
store_counts (Arith x kind o a b) r k = counts_none refl refl
store_counts (Fit x kind a) r k = counts_none refl refl
store_counts (Compare x c a b) r k = counts_none refl refl
store_counts (Load x place) r k = counts_none refl refl
store_counts (Store place a) r k = counts_one refl refl
store_counts (Api x shape as') r k = counts_none refl refl
store_counts (Call x f as') r k = counts_none refl refl
store_counts (Forget x) r k = counts_none refl refl
store_counts (Jump to) r k = counts_none refl refl
store_counts (Branch a this other) r k = counts_none refl refl
store_counts (Return o) r k = counts_none refl refl
store_counts Fall r k = counts_none refl refl

pub ordered_counts : (i : Instr) (o : Ordering) (k : Known) → Counts k (ordered i o k)
ordered_counts (Set x a) o k = counts_none refl refl
ordered_counts (Arith x kind p a b) o k = counts_none refl refl
ordered_counts (Fit x kind a) o k = counts_none refl refl
ordered_counts (Compare x c a b) o k = counts_one refl refl
ordered_counts (Load x place) o k = counts_none refl refl
ordered_counts (Store place a) o k = counts_none refl refl
ordered_counts (Api x shape as') o k = counts_none refl refl
ordered_counts (Call x f as') o k = counts_none refl refl
ordered_counts (Forget x) o k = counts_none refl refl
ordered_counts (Jump to) o k = counts_none refl refl
ordered_counts (Branch a this other) o k = counts_one refl refl
ordered_counts (Return a) o k = counts_none refl refl
ordered_counts Fall o k = counts_none refl refl

pub computed_counts : (i : Instr) (a : SumOf) (k : Known) → Counts k (computed i a k)
computed_counts (Set x b) a k = counts_none refl refl
computed_counts (Arith x kind p b c) a k = counts_one refl refl
computed_counts (Fit x kind b) a k = counts_one refl refl
computed_counts (Compare x c b d) a k = counts_none refl refl
computed_counts (Load x place) a k = counts_none refl refl
computed_counts (Store place b) a k = counts_none refl refl
computed_counts (Api x shape as') a k = counts_none refl refl
computed_counts (Call x f as') a k = counts_none refl refl
computed_counts (Forget x) a k = counts_none refl refl
computed_counts (Jump to) a k = counts_none refl refl
computed_counts (Branch b this other) a k = counts_none refl refl
computed_counts (Return b) a k = counts_none refl refl
computed_counts Fall a k = counts_none refl refl
