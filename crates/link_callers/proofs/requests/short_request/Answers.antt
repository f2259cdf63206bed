use Rattle.std.proofs.Common.{arith}
use Rattle.giop_messages.specs.Views.{message_of}
use Rattle.link_callers.proofs.Shorts.{short_some, short_is, long_is}
use Rattle.link_callers.proofs.requests.short_request.Goals as goal

pub returns-then-message_len-gt-MAX_MESSAGE-clause-some : goal.returns-then-message_len-gt-MAX_MESSAGE-clause-some
returns-then-message_len-gt-MAX_MESSAGE-clause-some c = let long = c.if-message_len-gt-MAX_MESSAGE.true in long_is (message_of c.args.message) c.message_len.result c.message_len.ensures (omega arith)

pub returns-clause-short : goal.returns-clause-short
returns-clause-short c = let few = c.if-message_len-gt-MAX_MESSAGE.false in short_some (message_of c.args.message) c.only_request.result c.message_len.result c.only_request.ensures c.message_len.ensures (omega arith)

pub returns-clause-some : goal.returns-clause-some
returns-clause-some c = let few = c.if-message_len-gt-MAX_MESSAGE.false in short_is (message_of c.args.message) c.only_request.result c.message_len.result c.only_request.ensures c.message_len.ensures (omega arith)
