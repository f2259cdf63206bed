use Rattle.idl_tokens.proofs.OneTurn.{behind_front}
use Rattle.idl_tokens.proofs.lexing.lex.Goals as goal

pub returns-in_default-clause-within : goal.returns-in_default-clause-within
returns-in_default-clause-within c = behind_front c.args.first c.mark_at.result.1 c.args.rest.now c.args.text.now c.requires c.mark_at.ensures.within
