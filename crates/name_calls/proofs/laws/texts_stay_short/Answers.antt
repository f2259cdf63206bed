use Rattle.name_calls.proofs.Lengths.{asks_within, replies_short, short_answered}
use Rattle.name_calls.proofs.laws.texts_stay_short.Goals as goal

pub returns-clause-asks : goal.returns-clause-asks
returns-clause-asks c = asks_within

pub returns-clause-replies : goal.returns-clause-replies
returns-clause-replies c = replies_short

pub returns-clause-answers : goal.returns-clause-answers
returns-clause-answers c = short_answered
