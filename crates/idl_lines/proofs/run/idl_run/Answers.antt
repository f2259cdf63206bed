-- What a file declares is what was listed, or the store, the sink or memory failed.
use Rattle.idl_types.specs.Contents.{things_of}
use Rattle.idl_reader.specs.Whole.{text_things}
use Rattle.idl_lines.proofs.Ends.{exact_none, exact_of, only_none, only_of}
use Rattle.idl_lines.proofs.run.idl_run.Goals as goal

pub returns-in-Ok-clause-only : goal.returns-in-Ok-clause-only
returns-in-Ok-clause-only g c = λ declared tells.
    only_of c.list.result (things_of c.in-Ok.repository) declared _ _ (c.in-Ok.ensures.only declared tells) c.list.ensures

pub returns-in-Err-clause-only : goal.returns-in-Err-clause-only
returns-in-Err-clause-only g c = λ declared tells. only_none c.in-Err.end declared _ _ (c.in-Err.ensures.only declared tells)

pub returns-in-Ok-clause-exact : goal.returns-in-Ok-clause-exact
returns-in-Ok-clause-exact g c = λ bytes told.
    exact_of c.list.result (things_of c.in-Ok.repository) (text_things bytes) _ _ (c.in-Ok.ensures.exact bytes told) c.list.ensures

pub returns-in-Err-clause-exact : goal.returns-in-Err-clause-exact
returns-in-Err-clause-exact g c = λ bytes told. exact_none c.in-Err.end (text_things bytes) _ _ (c.in-Err.ensures.exact bytes told)
