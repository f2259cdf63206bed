use Rattle.first_faults.proofs.OfTexts.{idl_refuses, idl_at_one, idl_one, idl_read, idl_none}
use Rattle.first_faults.proofs.laws.first_faults_of_idl.Goals as goal

pub returns-clause-refused : goal.returns-clause-refused
returns-clause-refused c = idl_refuses

pub returns-clause-token : goal.returns-clause-token
returns-clause-token c = idl_at_one

pub returns-clause-one : goal.returns-clause-one
returns-clause-one c = idl_one

pub returns-clause-read : goal.returns-clause-read
returns-clause-read c = idl_read

pub returns-clause-none : goal.returns-clause-none
returns-clause-none c = idl_none
