use Rattle.std.proofs.Common.{◌≡◌, refl}
use Rattle.idl_tokens.proofs.OneTurn.{front_is}
use Rattle.idl_tokens.proofs.lexing.named.Goals as goal

pub returns-clause-value : goal.returns-clause-value
returns-clause-value c =
    rw (c.word_kind.ensures, front_is c.args.first c.name_len-n.result c.args.rest.now c.args.text.now c.requires, c.name_len-n.ensures.value) refl
