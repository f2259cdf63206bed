use Rattle.std.proofs.Common.{refl}
use Rattle.idl_names.specs.Views.{built_of}
use Rattle.idl_reader.specs.Declared.{declared}
use Rattle.idl_reader.proofs.TakenThings.{repositories_take_texts}
use Rattle.idl_reader.proofs.reader.read_text.Goals as goal

pub repository_of-requires : goal.repository_of-requires
repository_of-requires c =
    let new = built_of c.in_ok-names.names in
    repositories_take_texts c.args.text.now (declared new) (record { new = new; names = c.in_ok-names.ensures.whole; told = refl })
