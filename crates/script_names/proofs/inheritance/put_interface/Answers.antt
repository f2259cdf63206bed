use Rattle.std.proofs.Common.{◌≡◌, ◌∙◌, ◌∷◌, ap, List, ℕ}
use Rattle.std.specs.Prelude.{if◌then◌else◌}
use Rattle.std.specs.List.{flat_map}
use Rattle.std.specs.Str.{bytes_eq}
use Rattle.cdr_values.specs.Trees.{Name, Names}
use Rattle.idl_types.specs.Names.{names_in, once}
use Rattle.script_names.specs.declared.bases.Bases.{Bases}
use Rattle.script_names.specs.Views.{listed}
use Rattle.script_names.proofs.Listing.{put_listed}
use Rattle.script_names.proofs.inheritance.put_interface.Goals as goal

pub returns : goal.returns
returns c =
    λ id.
    let es = c.args.index.now.entries in
    let bases : Bases = record { ids = c.in_ok-ids.ids } in
    let is_id : c.in_ok-id.id.items ≡ c.args.interface.now.id = c.in_ok-id.ensures.items ∙ c.as_slice-2.ensures.bytes in
    let is_list : names_in c.in_ok-ids.ids.keys ≡ once (flat_map (λ b. b ∷ listed es b) c.args.interface.now.bases.items)
    = c.in_ok-ids.ensures ∙ ap (λ (bs : Names). once (flat_map (λ b. b ∷ listed es b) bs)) c.as_slice.ensures in
    ap (λ xs. listed xs id) c.in_ok-insert.ensures.entries ∙ put_listed c.in_ok-id.id bases es id ∙ (λ j. if bytes_eq id (is_id j) then is_list j else listed es id)
