-- A message of the program as plain data, without the spare room of its lists.
use Rattle.giop_messages.specs.Message as Spec
use Rattle.giop_messages.specs.declared.message.Message.{Message}
use Rattle.giop_messages.specs.declared.message.Message.TheVariants.{Request, Reply, Cancel, Locate, Located, Close, Error}

-- the message that a value stands for
abbrev pub message_of : Message → Spec.Message
message_of (Request r) = Spec.request r
message_of (Reply r) = Spec.reply r
message_of (Cancel id) = Spec.cancel id
message_of (Locate l) = Spec.locate l
message_of (Located l) = Spec.located (record { id = l.id; status = l.status })
message_of Close = Spec.close
message_of Error = Spec.error
