use Rattle.std.proofs.Common.{◌-◌, ◌∙◌}
use Rattle.std.proofs.lemmas.Result.{err_from_is_err_and}
use Rattle.giop_messages.specs.Views.{message_of}
use Rattle.giop_messages.proofs.PutLaws.{length_known, length_least, message_room, message_put, header_front, nothing_put}
use Rattle.giop_messages.proofs.RangeLaws.{reads_put}
use Rattle.giop_messages.proofs.write.write_message.Goals as goal

pub returns-in_err-reserve-clause-memory : goal.returns-in_err-reserve-clause-memory
returns-in_err-reserve-clause-memory c =
    let p = err_from_is_err_and c.from_residual.result c.from_residual.ensures.1 in
    rw p.1 (nothing_put c.args.order (message_of c.args.message.now) c.reserve.new.self (c.reserve.ensures ∙ c.requires.empty))

pub overflow_sub-size : goal.overflow_sub-size
overflow_sub-size c = length_least c.args.order (message_of c.args.message.now) c.message_len-len.result (c.message_len-len.ensures c.args.order)

pub returns-in_err-put_header-clause-memory : goal.returns-in_err-put_header-clause-memory
returns-in_err-put_header-clause-memory c =
    let p = err_from_is_err_and c.from_residual-in_err-put_header.result c.from_residual-in_err-put_header.ensures.1 in
    let len = length_known c.args.order (message_of c.args.message.now) c.message_len-len.result (c.message_len-len.ensures c.args.order) c.requires.len in
    rw p.1 (header_front p.0 c.args.order (message_of c.args.message.now) (c.message_len-len.result - 12) c.reserve.new.self c.put_header.new.into (c.reserve.ensures ∙ c.requires.empty) len (rw c.kind.ensures at c.in_err-put_header.ensures))

pub put_fields-requires : goal.put_fields-requires
put_fields-requires c = message_room c.args.order (message_of c.args.message.now) c.reserve.new.self c.put_header.new.into c.kind.result (c.message_len-len.result - 12) (c.reserve.ensures ∙ c.requires.empty) c.in_ok-put_header.ensures c.requires.len

pub returns-clause-ok : goal.returns-clause-ok
returns-clause-ok c =
    let len = length_known c.args.order (message_of c.args.message.now) c.message_len-len.result (c.message_len-len.ensures c.args.order) c.requires.len in
    (message_put c.put_fields.result c.args.order (message_of c.args.message.now) (c.message_len-len.result - 12) c.reserve.new.self c.put_header.new.into c.put_fields.new.into (c.reserve.ensures ∙ c.requires.empty) len
    (rw c.kind.ensures at c.in_ok-put_header.ensures) c.put_fields.ensures).0

pub returns-clause-memory : goal.returns-clause-memory
returns-clause-memory c =
    let len = length_known c.args.order (message_of c.args.message.now) c.message_len-len.result (c.message_len-len.ensures c.args.order) c.requires.len in
    (message_put c.put_fields.result c.args.order (message_of c.args.message.now) (c.message_len-len.result - 12) c.reserve.new.self c.put_header.new.into c.put_fields.new.into (c.reserve.ensures ∙ c.requires.empty) len
    (rw c.kind.ensures at c.in_ok-put_header.ensures) c.put_fields.ensures).1

pub returns-clause-reads_back : goal.returns-clause-reads_back
returns-clause-reads_back c =
    reads_put c.put_fields.result c.args.order (message_of c.args.message.now) c.put_fields.new.into.bytes c.see_message.ensures c.requires.status c.requires.len (returns-clause-ok c)
