use Rattle.std.proofs.Common.{◌≡◌, take, map}
use Rattle.clap.specs.Words.{app_of}
use Rattle.command_options.specs.Clap.{made_app}
use Rattle.command_options.specs.Items.{item_of}
use Rattle.command_options.proofs.library.command_of.Given as goal

abbrev pub invariant-loop-item : goal.invariant-loop-item
invariant-loop-item l = app_of l.command ≡ made_app (map item_of (take l.item-index l.items))
