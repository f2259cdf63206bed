use Rattle.request_writer.proofs.part.put_tagged.Goals as goal

pub returns : goal.returns
returns c = rw (← c.tagged.view_is) (rw c.as_slice.ensures at c.put_item.ensures)
