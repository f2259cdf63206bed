use Rattle.std.proofs.Common.{◌≡◌, ap, ◌∙◌, arith}
use Rattle.giop_frames.specs.Feeds.{Feed}
use Rattle.giop_messages.proofs.CallerLemmas.{first_messages}
use Rattle.codec_tests.proofs.giop_messages_tests.read_tests.framed.Goals as goal

pub returns-in-Ok-feed : goal.returns-in-Ok-feed
returns-in-Ok-feed c =
    let limit : c.feed.new.self.limit ≡ 262144 = c.feed.ensures.fed.0 ∙ ap (λ (f : Feed). f.limit) c.in-Ok.ensures in
    first_messages c.feed.result c.in-Ok.framer c.feed.new.self c.new-whole.result.items c.feed.new.whole.items c.new-whole.ensures (omega (arith, limit)) c.feed.ensures.tells
