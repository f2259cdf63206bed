use Rattle.std.proofs.Common.{◌≡◌, map, option_map, subst, IfOk}
use Rattle.command_options.specs.Found.{given_by}
use Rattle.command_options.specs.Given.{given}
use Rattle.command_options.specs.Items.{items_of}
use Rattle.command_options.specs.Uses.{reading}
use Rattle.command_options.proofs.commands.read_names.Goals as goal

pub returns : goal.returns
returns g c =
    subst (λ items. IfOk c.read_options.result (λ found. option_map given_by found ≡ option_map given (reading (items_of items) (map g.S.AsStr.text c.args.words.now))))
    c.as_slice.ensures c.read_options.ensures
