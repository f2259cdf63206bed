use Rattle.std.proofs.Common.{◌≡◌, length, arith}
use Rattle.std.proofs.lemmas.Grind.{common_steps}
use Rattle.giop_messages.proofs.PutLaws.{no_body}
use Rattle.request_writer.proofs.part.put_body.Goals as goal

pub returns-then-is_empty : goal.returns-then-is_empty
returns-then-is_empty c =
    let none : length c.args.body.now ≡ 0 = grind (arith, common_steps) in
    no_body c.args.into.now c.args.body.now none
