use Rattle.std.proofs.Common.{◌≡◌, ◌∙◌, ap, sym, subst}
use Rattle.orb_base.specs.declared.item.Item.{Item}
use Rattle.orb_base.specs.declared.item.Item.TheVariants.{Transient}
use Rattle.text_streams.specs.Streams.{WritesAll}
use Rattle.item_writer.specs.ItemBytes.{item_bytes}
use Rattle.item_writer.proofs.items.write_item.Goals as goal

pub returns-in-Transient : goal.returns-in-Transient
returns-in-Transient g c =
    let is : c.args.item.now ≡ Transient c.get-in-Transient.result.now = c.in-Transient.is ∙ ap Transient (sym c.get-in-Transient.ensures) in
    subst (λ (i : Item). WritesAll c.write_transient.result (item_bytes i) (g.O.Sink.state c.args.sink.now) (g.O.Sink.state c.write_transient.new.sink)) (sym is) c.write_transient.ensures
