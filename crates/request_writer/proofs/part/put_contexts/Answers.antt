use Rattle.giop_messages.proofs.PutLaws.{contexts_counted}
use Rattle.request_writer.proofs.part.put_contexts.Goals as goal

pub put_list-requires : goal.put_list-requires
put_list-requires c = contexts_counted c.args.into.now.place c.args.contexts.now c.requires
