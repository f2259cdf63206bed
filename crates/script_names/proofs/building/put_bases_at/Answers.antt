use Rattle.std.proofs.Common.{◌∙◌, sym, ap}
use Rattle.std.specs.Option.{option_copied, option_map}
use Rattle.idl_types.specs.Contents.{things_of}
use Rattle.idl_types.specs.Views.{thing_of}
use Rattle.script_names.specs.Views.{listed}
use Rattle.script_names.proofs.Walking.{list_thing, list_none}
use Rattle.script_names.proofs.building.put_bases_at.Goals as goal

pub returns-in_ok-put_bases-in-Some : goal.returns-in_ok-put_bases-in-Some
returns-in_ok-put_bases-in-Some c =
    λ before. list_thing (things_of c.args.repository.now) c.args.place (thing_of c.in-Some.declaration.now) (listed c.args.index.now.entries) (listed c.put_bases.new.index.entries)
    (sym c.nth.ensures ∙ ap (λ o. option_map thing_of (option_copied o)) c.in-Some.is) c.in_ok-put_bases-in-Some.ensures before

pub returns-in-None : goal.returns-in-None
returns-in-None c =
    λ before. list_none (things_of c.args.repository.now) c.args.place (listed c.args.index.now.entries) (sym c.nth.ensures ∙ ap (λ o. option_map thing_of (option_copied o)) c.in-None.is) before
