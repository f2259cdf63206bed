use Rattle.giop_messages.proofs.PutLaws.{profiles_counted}
use Rattle.request_writer.proofs.part.put_profiles.Goals as goal

pub put_list-requires : goal.put_list-requires
put_list-requires c = profiles_counted c.args.into.now.place c.args.profiles.now c.requires
