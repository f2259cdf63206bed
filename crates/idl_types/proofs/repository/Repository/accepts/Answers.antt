use Rattle.std.proofs.Common.{◌∙◌, sym}
use Rattle.idl_types.specs.Views.{thing_of}
use Rattle.idl_types.specs.Contents.{things_of}
use Rattle.idl_types.proofs.Judging.{says_underived}
use Rattle.idl_types.proofs.repository.Repository.accepts.Goals as goal

pub returns-then-not-branch : goal.returns-then-not-branch
returns-then-not-branch c = says_underived (things_of c.args.self.now) (thing_of c.args.declaration.now) (sym c.in_ok-is_derived.ensures ∙ c.if-not-branch.true)
