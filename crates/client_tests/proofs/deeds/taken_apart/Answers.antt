-- The seats of a link are its callers', the writer's and the reader's.
use Rattle.std.proofs.Common.{sym, ◌∙◌}
use Rattle.client_tests.proofs.SeatLemmas.{idle, sends, reads}
use Rattle.client_tests.proofs.deeds.taken_apart.Goals as goal

pub returns-clause-callers : goal.returns-clause-callers
returns-clause-callers c = idle c.args.callers c.args.opened.shared.cell c.args.opened.root c.args.opened.seats.items c.pop.new.self.items c.pop-2.new.self.items c.in_ok-reader.reader c.in_ok-writer.writer
    c.requires.open (sym c.into_vec-rest.ensures ∙ c.in_ok-reader.ensures.items) c.in_ok-writer.ensures.items

pub returns-clause-writer : goal.returns-clause-writer
returns-clause-writer c = sends c.args.callers c.args.opened.shared.cell c.args.opened.root c.args.opened.seats.items c.pop.new.self.items c.pop-2.new.self.items c.in_ok-reader.reader c.in_ok-writer.writer
    c.requires.open (sym c.into_vec-rest.ensures ∙ c.in_ok-reader.ensures.items) c.in_ok-writer.ensures.items

pub returns-clause-reader : goal.returns-clause-reader
returns-clause-reader c = reads c.args.callers c.args.opened.shared.cell c.args.opened.root c.args.opened.seats.items c.pop.new.self.items c.pop-2.new.self.items c.in_ok-reader.reader c.in_ok-writer.writer
    c.requires.open (sym c.into_vec-rest.ensures ∙ c.in_ok-reader.ensures.items) c.in_ok-writer.ensures.items
