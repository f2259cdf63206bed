use Rattle.value_json.proofs.Answering.{gives_are_of}
use Rattle.value_json.proofs.arguments.arguments_from.Goals as goal

pub returns-clause-of_type : goal.returns-clause-of_type
returns-clause-of_type c = gives_are_of _ _ c.values_from.result c.values_from.ensures
