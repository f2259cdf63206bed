use Rattle.cdr_values.specs.Kinds.{kind_of}
use Rattle.cdr_values.specs.Values.{value_of}
use Rattle.cdr_values.proofs.Fitted.{fits_where_spelled}
use Rattle.cdr_values.proofs.fitting.fits.Goals as goal

pub returns-clause-exact : goal.returns-clause-exact
returns-clause-exact c = fits_where_spelled c.fits_here.result (kind_of c.args.kind.now) (value_of c.args.value.now) c.fits_here.ensures
