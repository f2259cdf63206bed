use Rattle.pipe_laws.specs.Setup.{pipe_conn}
use Rattle.lane_driver.proofs.Short.{collect_gives}
use Rattle.lane_driver.proofs.collects.collect.Goals as goal

pub say-requires : goal.say-requires
say-requires g c = collect_gives c.args.lanes.now pipe_conn c.in_ok-reply.reply c.requires.between.reached c.in_ok-reply.ensures.reply
