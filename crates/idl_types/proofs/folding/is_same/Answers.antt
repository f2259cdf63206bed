use Rattle.std.specs.Str.{str_to_ascii_lowercase}
use Rattle.idl_types.proofs.Places.{test_is}
use Rattle.idl_types.proofs.folding.is_same.Goals as goal

pub returns : goal.returns
returns c = let h = c.eq_ignore_ascii_case.ensures.test in test_is c.eq_ignore_ascii_case.result (str_to_ascii_lowercase c.args.one.now) (str_to_ascii_lowercase c.args.other.now) h.0 h.1
