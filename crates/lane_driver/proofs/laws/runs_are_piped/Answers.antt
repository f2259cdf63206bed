use Rattle.lane_driver.proofs.Whole as laws
use Rattle.lane_driver.proofs.laws.runs_are_piped.Goals as goal

pub returns-clause-whole : goal.returns-clause-whole
returns-clause-whole c = laws.runs_are_piped

pub returns-clause-front : goal.returns-clause-front
returns-clause-front c = laws.beginnings_are_piped
