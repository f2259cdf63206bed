use Rattle.std.proofs.Common.{◌≡◌, ◌-◌, length, refl, ◌∙◌, arith}
use Rattle.std.proofs.lemmas.Result.{err_from_is_err_and}
use Rattle.giop_messages.specs.Message.{reply_of}
use Rattle.giop_messages.specs.Spelling.{spelled}
use Rattle.giop_messages.specs.Lengths.{held}
use Rattle.giop_messages.proofs.PutLaws.{length_known, length_least, message_room, message_put, header_front, nothing_put}
use Rattle.giop_messages.proofs.RangeLaws.{reads_put}
use Rattle.giop_messages.proofs.write.write_reply.Goals as goal

pub returns-in_err-reserve-clause-memory : goal.returns-in_err-reserve-clause-memory
returns-in_err-reserve-clause-memory c =
    let p = err_from_is_err_and c.from_residual.result c.from_residual.ensures.1 in
    let message = reply_of c.args.id c.args.status c.args.contexts.now c.args.body.now in
    rw p.1 (nothing_put c.args.order message c.reserve.new.self (c.reserve.ensures ∙ c.requires.empty))

pub overflow_sub-size : goal.overflow_sub-size
overflow_sub-size c =
    let message = reply_of c.args.id c.args.status c.args.contexts.now c.args.body.now in
    let long : c.reply_len-len.result ≡ held (length (spelled c.args.order message)) =
    c.reply_len-len.ensures c.args.order c.args.id c.args.status c.args.body.now refl in
    length_least c.args.order message c.reply_len-len.result long

pub overflow_cast-size : goal.overflow_cast-size
overflow_cast-size c =
    let message = reply_of c.args.id c.args.status c.args.contexts.now c.args.body.now in
    let long : c.reply_len-len.result ≡ held (length (spelled c.args.order message)) =
    c.reply_len-len.ensures c.args.order c.args.id c.args.status c.args.body.now refl in
    omega (arith, c.requires.len)

pub returns-in_err-put_reply_header-clause-memory : goal.returns-in_err-put_reply_header-clause-memory
returns-in_err-put_reply_header-clause-memory c =
    let p = err_from_is_err_and c.from_residual-in_err-put_reply_header.result c.from_residual-in_err-put_reply_header.ensures.1 in
    let message = reply_of c.args.id c.args.status c.args.contexts.now c.args.body.now in
    let long : c.reply_len-len.result ≡ held (length (spelled c.args.order message)) =
    c.reply_len-len.ensures c.args.order c.args.id c.args.status c.args.body.now refl in
    let len = length_known c.args.order message c.reply_len-len.result long c.requires.len in
    rw p.1 (header_front p.0 c.args.order message (c.reply_len-len.result - 12) c.reserve.new.self c.put_reply_header.new.into (c.reserve.ensures ∙ c.requires.empty) len c.in_err-put_reply_header.ensures)

pub put_reply_parts-requires : goal.put_reply_parts-requires
put_reply_parts-requires c =
    let message = reply_of c.args.id c.args.status c.args.contexts.now c.args.body.now in
    message_room c.args.order message c.reserve.new.self c.put_reply_header.new.into 1 (c.reply_len-len.result - 12) (c.reserve.ensures ∙ c.requires.empty) c.in_ok-put_reply_header.ensures c.requires.len

pub returns-clause-ok : goal.returns-clause-ok
returns-clause-ok c =
    let message = reply_of c.args.id c.args.status c.args.contexts.now c.args.body.now in
    let long : c.reply_len-len.result ≡ held (length (spelled c.args.order message)) =
    c.reply_len-len.ensures c.args.order c.args.id c.args.status c.args.body.now refl in
    let len = length_known c.args.order message c.reply_len-len.result long c.requires.len in
    (message_put c.put_reply_parts.result c.args.order message (c.reply_len-len.result - 12) c.reserve.new.self c.put_reply_header.new.into c.put_reply_parts.new.into (c.reserve.ensures ∙ c.requires.empty) len
    c.in_ok-put_reply_header.ensures c.put_reply_parts.ensures).0

pub returns-clause-memory : goal.returns-clause-memory
returns-clause-memory c =
    let message = reply_of c.args.id c.args.status c.args.contexts.now c.args.body.now in
    let long : c.reply_len-len.result ≡ held (length (spelled c.args.order message)) =
    c.reply_len-len.ensures c.args.order c.args.id c.args.status c.args.body.now refl in
    let len = length_known c.args.order message c.reply_len-len.result long c.requires.len in
    (message_put c.put_reply_parts.result c.args.order message (c.reply_len-len.result - 12) c.reserve.new.self c.put_reply_header.new.into c.put_reply_parts.new.into (c.reserve.ensures ∙ c.requires.empty) len
    c.in_ok-put_reply_header.ensures c.put_reply_parts.ensures).1

pub returns-clause-reads_back : goal.returns-clause-reads_back
returns-clause-reads_back c =
    let message = reply_of c.args.id c.args.status c.args.contexts.now c.args.body.now in
    reads_put c.put_reply_parts.result c.args.order message c.put_reply_parts.new.into.bytes (c.see_long.ensures, c.see_contexts.ensures) c.requires.status c.requires.len (returns-clause-ok c)
