use Rattle.std.proofs.Common.{rules}
use Rattle.idl_scopes.proofs.SharedParts.{part_put}
use Rattle.idl_scopes.proofs.pieces.seal.Goals as goal

pub returns-clause-parts : goal.returns-clause-parts
returns-clause-parts c = part_put c.args.parts.now.items c.push.new.self.items _ c.args.own.now.items c.in_ok-push.ensures.items (search rules)
