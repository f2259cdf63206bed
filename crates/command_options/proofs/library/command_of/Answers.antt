use Rattle.std.proofs.Common.{◌∙◌, ap₂}
use Rattle.clap.specs.Words.{with_rule}
use Rattle.command_options.proofs.Building.{made_more}
use Rattle.command_options.proofs.library.command_of.Goals as goal

pub loop-item-preserved : goal.loop-item-preserved
loop-item-preserved c =
    c.in_ok-command.ensures.shape c.arg_of.ensures.local ∙ ap₂ with_rule c.loop-item.invariant c.arg_of.ensures.rule
    ∙ made_more c.args.items.now c.loop-item.item-index _ c.loop-item-test.true
