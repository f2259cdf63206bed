use Rattle.std.proofs.Common.{◌∙◌, sym, ap, Option, []}
use Rattle.std.specs.Option.{option_copied, option_map_or}
use Rattle.idl_types.specs.Names.{names_in}
use Rattle.script_names.specs.declared.bases.Bases.{Bases}
use Rattle.script_names.proofs.Listing.{looked}
use Rattle.script_names.proofs.inheritance.listed.Goals as goal

pub returns-in-Some : goal.returns-in-Some
returns-in-Some c =
    ap names_in c.as_slice.ensures.keys
    ∙ ap (λ (o : Option Bases). option_map_or (λ b. names_in b.ids.keys) o []) (sym (ap option_copied c.in-Some.is) ∙ c.get.ensures.value)
    ∙ looked c.args.id.now c.args.index.now.entries

pub returns-in-None : goal.returns-in-None
returns-in-None c =
    ap (λ (o : Option Bases). option_map_or (λ b. names_in b.ids.keys) o []) (sym (ap option_copied c.in-None.is) ∙ c.get.ensures.value)
    ∙ looked c.args.id.now c.args.index.now.entries
