use Rattle.lane_driver.proofs.Whole as laws
use Rattle.lane_driver.proofs.laws.what_is_done_is_piped.Goals as goal

pub returns-clause-whole : goal.returns-clause-whole
returns-clause-whole c = laws.done_is_piped

pub returns-clause-front : goal.returns-clause-front
returns-clause-front c = laws.begun_is_piped
