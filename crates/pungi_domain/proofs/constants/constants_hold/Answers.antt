use Rattle.std.proofs.Common.{length}
use Rattle.pungi_domain.proofs.FlatLemmas.{settled_meets, open_fails, values_fail}
use Rattle.pungi_domain.proofs.constants.constants_hold.Goals as goal

pub returns-in-Nowhere : goal.returns-in-Nowhere
returns-in-Nowhere c = record {
  yes = λ t v m. settled_meets c.args.constants.now c.args.coefficients.now v c.requires.width c.in-Nowhere.ensures
      (c.meets_constants.ensures.yes t) m;
  no = λ f. values_fail c.args.constants.now c.args.coefficients.now c.requires.constants
      (c.meets_constants.ensures.no f);
}

pub returns-in-At-clause-no : goal.returns-in-At-clause-no
returns-in-At-clause-no c _ =
    open_fails (length c.args.constants.now) c.args.constants.now c.args.coefficients.now _ c.requires.constants
    c.requires.width c.in-At.ensures.0

pub returns-in-Several-clause-no : goal.returns-in-Several-clause-no
returns-in-Several-clause-no c _ =
    open_fails (length c.args.constants.now) c.args.constants.now c.args.coefficients.now _ c.requires.constants
    c.requires.width c.in-Several.ensures.1
