use Rattle.std.proofs.Common.{List, refl, inl, subst}
use Rattle.idl_types.specs.Views.{operation_of}
use Rattle.mux_sides.specs.declared.calling.CallEnd.{CallEnd}
use Rattle.shared_calls.specs.Lines.{WritesLines}
use Rattle.shared_calls.specs.Results.{results_of}
use Rattle.shared_calls.proofs.run.share_over.Goals as goal

pub returns-in-Ok : goal.returns-in-Ok
returns-in-Ok g c =
    let operation = operation_of c.args.asked.now.operation.now in
    let P : List CallEnd → Type 0 =
    λ (es : List CallEnd). WritesLines c.write_lines-end.result operation (results_of operation es) (g.O.Sink.state c.args.out.now) (g.O.Sink.state c.write_lines-end.new.out) in
    inl (record {
      run = c.in-Ok.run';
      is = refl;
      held = refl;
      over = record {
        calls = c.args.calls.items;
        alike = c.requires.all;
        many = refl;
        lawful = c.in-Ok.ensures.lawful;
        called = c.in-Ok.ensures.called;
        sent = c.in-Ok.ensures.sent;
        heard = c.in-Ok.ensures.heard;
        own = c.in-Ok.ensures.own;
      };
      lines = subst P c.as_slice.ensures c.write_lines-end.ensures;
    })
