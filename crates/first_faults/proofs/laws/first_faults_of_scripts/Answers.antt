use Rattle.first_faults.proofs.OfTexts.{script_refuses, script_at_one, script_one, script_read, script_none}
use Rattle.first_faults.proofs.laws.first_faults_of_scripts.Goals as goal

pub returns-clause-refused : goal.returns-clause-refused
returns-clause-refused c = script_refuses

pub returns-clause-token : goal.returns-clause-token
returns-clause-token c = script_at_one

pub returns-clause-one : goal.returns-clause-one
returns-clause-one c = script_one

pub returns-clause-read : goal.returns-clause-read
returns-clause-read c = script_read

pub returns-clause-none : goal.returns-clause-none
returns-clause-none c = script_none
