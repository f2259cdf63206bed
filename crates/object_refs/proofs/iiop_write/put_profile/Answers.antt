use Rattle.std.proofs.Common.{◌∷◌, ◌++◌, [], ltb}
use Rattle.std.proofs.lemmas.Result.{err_from_is_err_and}
use Rattle.std.specs.Int.{w8, w16}
use Rattle.cdr_core.specs.Field.{number, string_fields, octets_fields}
use Rattle.cdr_core.proofs.CallerLemmas.{puts_then, puts_first}
use Rattle.object_refs.specs.Layout.{components_fields}
use Rattle.cdr_core.proofs.CallerLemmas.{written_both, front_then}
use Rattle.object_refs.proofs.iiop_write.put_profile.Goals as goal

pub returns-in_err-put_version : goal.returns-in_err-put_version
returns-in_err-put_version c =
    let p = err_from_is_err_and c.from_residual.result c.from_residual.ensures.1 in
    let version = number w8 1 ∷ number w8 c.profile.inside.minor ∷ [] in
    let address = string_fields c.profile.inside.host ++ number w16 c.profile.inside.port ∷ [] in
    let key = octets_fields c.profile.inside.key.items in
    let components = components_fields (ltb 0 c.profile.inside.minor) c.profile.inside.components.items in
    rw (p.1, ← c.profile.view_is) (puts_first c.args.into.now c.put_version.new.into version
    (address ++ key ++ components) c.in_err-put_version.ensures)

pub returns-in_err-put_address : goal.returns-in_err-put_address
returns-in_err-put_address c =
    let p = err_from_is_err_and c.from_residual-in_err-put_address.result
    c.from_residual-in_err-put_address.ensures.1 in
    let version = number w8 1 ∷ number w8 c.profile.inside.minor ∷ [] in
    let address = string_fields c.profile.inside.host ++ number w16 c.profile.inside.port ∷ [] in
    let key = octets_fields c.profile.inside.key.items in
    let components = components_fields (ltb 0 c.profile.inside.minor) c.profile.inside.components.items in
    rw (p.1, ← c.profile.view_is)
    (front_then p.0 c.args.into.now c.put_version.new.into c.put_address.new.into version address (key ++ components)
    c.in_ok-put_version.ensures c.in_err-put_address.ensures)

pub returns-in_err-put_octets : goal.returns-in_err-put_octets
returns-in_err-put_octets c =
    let p = err_from_is_err_and c.from_residual-in_err-put_octets.result c.from_residual-in_err-put_octets.ensures.1 in
    let version = number w8 1 ∷ number w8 c.profile.inside.minor ∷ [] in
    let address = string_fields c.profile.inside.host ++ number w16 c.profile.inside.port ∷ [] in
    let key = octets_fields c.profile.inside.key.items in
    let components = components_fields (ltb 0 c.profile.inside.minor) c.profile.inside.components.items in
    let second =
    written_both c.args.into.now c.put_version.new.into c.put_address.new.into version address
    c.in_ok-put_version.ensures c.in_ok-put_address.ensures in
    rw (p.1, ← c.profile.view_is)
    (front_then p.0 c.args.into.now c.put_address.new.into c.put_octets.new.self (version ++ address) key components
    second (rw c.as_slice.ensures at c.in_err-put_octets.ensures))

pub returns : goal.returns
returns c =
    let version = number w8 1 ∷ number w8 c.profile.inside.minor ∷ [] in
    let address = string_fields c.profile.inside.host ++ number w16 c.profile.inside.port ∷ [] in
    let key = octets_fields c.profile.inside.key.items in
    let components = components_fields (ltb 0 c.profile.inside.minor) c.profile.inside.components.items in
    let second =
    written_both c.args.into.now c.put_version.new.into c.put_address.new.into version address
    c.in_ok-put_version.ensures c.in_ok-put_address.ensures in
    let third =
    written_both c.args.into.now c.put_address.new.into c.put_octets.new.self (version ++ address) key second
    (rw c.as_slice.ensures at c.in_ok-put_octets.ensures) in
    rw (← c.profile.view_is)
    (puts_then c.put_components.result c.args.into.now c.put_octets.new.self c.put_components.new.into
    (version ++ address ++ key) components third
    (rw c.as_slice-2.ensures at c.put_components.ensures))
