use Rattle.std.proofs.Common.{◌∙◌, sym, ap}
use Rattle.std.specs.List.{list_any}
use Rattle.std.specs.Str.{bytes_eq}
use Rattle.idl_scopes.specs.Keywords.{text_of}
use Rattle.orb_base.proofs.Places.{any_map}
use Rattle.idl_scopes.proofs.keywords.is_keyword.Goals as goal

pub returns : goal.returns
returns c =
    c.is_among.ensures ∙ sym (any_map (λ k. bytes_eq k c.args.name.now) text_of c.keywords.result.now) ∙ ap (list_any (λ k. bytes_eq k c.args.name.now)) c.keywords.ensures
