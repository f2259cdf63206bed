-- The names in each type that a text declares are told apart, case aside.
use Rattle.std.proofs.Common.{[], sym, subst}
use Rattle.idl_types.specs.Apart.{is_told_apart}
use Rattle.idl_reader.specs.Accepted.{Each, TextsGive, HasNamesApart}
use Rattle.idl_reader.proofs.ToldTypes.{told_members}
use Rattle.idl_reader.proofs.TypedThings.{each_typed}
use Rattle.idl_reader.proofs.ApartBodies.{told_text}

pub texts_give_apart_names : TextsGive HasNamesApart
texts_give_apart_names text ts w =
    let n = w.new in
    subst (Each HasNamesApart []) (sym w.told) (each_typed is_told_apart told_members n.scopes n.things (told_text text n w.names).things)
