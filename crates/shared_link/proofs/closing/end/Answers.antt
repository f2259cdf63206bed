use Rattle.shared_link.proofs.Closings.{back_in, back_whole, back_of}
use Rattle.shared_link.proofs.closing.end.Goals as goal

pub take_in-requires-clause-seats : goal.take_in-requires-clause-seats
take_in-requires-clause-seats c = back_in _ 1 c.args.seats.items c.requires.seats

pub close-history-requires-clause-whole : goal.close-history-requires-clause-whole
close-history-requires-clause-whole c = back_whole _ c.args.seats.items _ _ c.requires.main c.requires.seats c.take_in.ensures

pub returns : goal.returns
returns c =
    let good = c.close-history.ensures.good in record {
      opens = good.0;
      legal = good.1;
      fit = good.2;
      calls = back_of _ c.args.seats.items _ _ _ c.requires.main c.requires.seats c.take_in.ensures c.close-history.ensures.ended;
    }
