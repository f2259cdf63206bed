use Rattle.std.proofs.Common.{◌<◌, ◌^◌, arith}
use Rattle.cdr_values.specs.Kinds.{kind_of}
use Rattle.cdr_values.specs.Values.{value_of}
use Rattle.cdr_values.specs.Spelling.{fields_of}
use Rattle.cdr_values.proofs.Ending.{behind_of}
use Rattle.cdr_values.proofs.length.spelled_end.Goals as goal

pub returns-clause-len : goal.returns-clause-len
returns-clause-len c =
    let small : c.args.place < 2 ^ 64 = omega arith in
    behind_of c.args.place c.end_here.result (fields_of (value_of c.args.value.now) (kind_of c.args.kind.now)) small c.end_here.ensures
