use Rattle.std.proofs.Common.{string_bytes}
use Rattle.trace_picture.specs.Grounds.{row_text}
use Rattle.trace_picture.proofs.Eaches.{one_more}
use Rattle.trace_picture.proofs.layout.Layout.add_rows.Goals as goal

pub loop-thread-preserved : goal.loop-thread-preserved
loop-thread-preserved c =
    one_more (string_bytes c.args.text.now) (string_bytes c.loop-thread.text) (string_bytes c.add_row.new.text) (row_text c.args.self.now) c.loop-thread.thread
    c.loop-thread.invariant c.in_ok-add_row.ensures
