use Rattle.giop_messages.proofs.FromFrames.{streams_messages, feeds_messages, reads_messages}
use Rattle.giop_messages.proofs.laws.framed_is_message.Goals as goal

pub returns-clause-stream : goal.returns-clause-stream
returns-clause-stream c = streams_messages

pub returns-clause-feed : goal.returns-clause-feed
returns-clause-feed c = feeds_messages

pub returns-clause-whole : goal.returns-clause-whole
returns-clause-whole c = reads_messages
