use Rattle.std.proofs.Common.{◌∙◌, sym, ap}
use Rattle.std.specs.Option.{option_copied, option_map}
use Rattle.idl_types.specs.Contents.{things_of}
use Rattle.idl_types.specs.Views.{thing_of}
use Rattle.script_names.specs.Views.{pairs_of}
use Rattle.script_names.proofs.Walking.{put_thing, no_thing}
use Rattle.script_names.proofs.building.put_at.Goals as goal

pub returns-in_ok-put_itself-in-Some : goal.returns-in_ok-put_itself-in-Some
returns-in_ok-put_itself-in-Some c =
    put_thing (things_of c.args.repository.now) c.args.place (thing_of c.in-Some.declaration.now) (pairs_of c.args.index.now.entries) (pairs_of c.put_itself.new.index.entries)
    (sym c.nth.ensures ∙ ap (λ o. option_map thing_of (option_copied o)) c.in-Some.is) c.in_ok-put_itself-in-Some.ensures

pub returns-in-None : goal.returns-in-None
returns-in-None c =
    no_thing (things_of c.args.repository.now) c.args.place (pairs_of c.args.index.now.entries) (sym c.nth.ensures ∙ ap (λ o. option_map thing_of (option_copied o)) c.in-None.is)
