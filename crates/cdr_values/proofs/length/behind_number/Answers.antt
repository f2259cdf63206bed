use Rattle.std.specs.Int.{w8, w16, w32, w64}
use Rattle.cdr_values.proofs.Ending.{ends_number}
use Rattle.cdr_values.proofs.length.behind_number.Goals as goal

pub returns-in-One : goal.returns-in-One
returns-in-One c = rw c.in-One.is (ends_number c.args.place c.behind.result _ w8 c.behind.ensures)

pub returns-in-Two : goal.returns-in-Two
returns-in-Two c = rw c.in-Two.is (ends_number c.args.place c.behind-in-Two.result _ w16 c.behind-in-Two.ensures)

pub returns-in-Four : goal.returns-in-Four
returns-in-Four c = rw c.in-Four.is (ends_number c.args.place c.behind-in-Four.result _ w32 c.behind-in-Four.ensures)

pub returns-in-Eight : goal.returns-in-Eight
returns-in-Eight c = rw c.in-Eight.is (ends_number c.args.place c.behind-in-Eight.result _ w64 c.behind-in-Eight.ensures)
