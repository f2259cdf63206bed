use Rattle.names_laws.proofs.Likeness.{unknown_alike, unread_alike, kin_alike, there_alike, own_alike}
use Rattle.names_laws.proofs.laws.names_answer_as_servants.Goals as goal

pub returns-clause-unknown : goal.returns-clause-unknown
returns-clause-unknown c = unknown_alike

pub returns-clause-unread : goal.returns-clause-unread
returns-clause-unread c = unread_alike

pub returns-clause-kin : goal.returns-clause-kin
returns-clause-kin c = kin_alike

pub returns-clause-there : goal.returns-clause-there
returns-clause-there c = there_alike

pub returns-clause-own : goal.returns-clause-own
returns-clause-own c = own_alike
