use Rattle.std.proofs.Common.{◌∷◌, ◌++◌, []}
use Rattle.std.proofs.lemmas.Result.{err_from_is_err_and}
use Rattle.std.specs.Int.{w16, w32}
use Rattle.cdr_core.specs.Field.{number, string_fields}
use Rattle.cdr_core.proofs.CallerLemmas.{written_both, front_then, puts_then, puts_first}
use Rattle.giop_messages.specs.Layout.{profiles_fields}
use Rattle.giop_messages.proofs.PutLaws.{room_then, text_fits}
use Rattle.request_writer.proofs.part.put_addressing.Goals as goal

pub returns-in_err-put_u16 : goal.returns-in_err-put_u16
returns-in_err-put_u16 c =
    let p = err_from_is_err_and c.from_residual.result c.from_residual.ensures.1 in
    rw p.1 (puts_first c.args.into.now c.put_u16.new.self (number w16 2 ∷ []) (number w32 c.args.index ∷ string_fields c.args.type_id.now ++ profiles_fields c.args.profiles.now) c.in_err-put_u16.ensures)

pub returns-in_err-put_u32 : goal.returns-in_err-put_u32
returns-in_err-put_u32 c =
    let p = err_from_is_err_and c.from_residual-in_err-put_u32.result c.from_residual-in_err-put_u32.ensures.1 in
    rw p.1 (front_then p.0 c.args.into.now c.put_u16.new.self c.put_u32.new.self (number w16 2 ∷ []) (number w32 c.args.index ∷ []) (string_fields c.args.type_id.now ++ profiles_fields c.args.profiles.now) c.in_ok-put_u16.ensures c.in_err-put_u32.ensures)

pub returns-in_err-put_string : goal.returns-in_err-put_string
returns-in_err-put_string c =
    let p = err_from_is_err_and c.from_residual-in_err-put_string.result c.from_residual-in_err-put_string.ensures.1 in
    rw p.1 (front_then p.0 c.args.into.now c.put_u32.new.self c.put_string.new.self (number w16 2 ∷ number w32 c.args.index ∷ []) (string_fields c.args.type_id.now) (profiles_fields c.args.profiles.now) (written_both c.args.into.now c.put_u16.new.self c.put_u32.new.self (number w16 2 ∷ []) (number w32 c.args.index ∷ []) c.in_ok-put_u16.ensures c.in_ok-put_u32.ensures) c.in_err-put_string.ensures)

pub put_profiles-requires : goal.put_profiles-requires
put_profiles-requires c = room_then c.args.into.now c.put_string.new.self (number w16 2 ∷ number w32 c.args.index ∷ string_fields c.args.type_id.now) (profiles_fields c.args.profiles.now) (written_both c.args.into.now c.put_u32.new.self c.put_string.new.self (number w16 2 ∷ number w32 c.args.index ∷ []) (string_fields c.args.type_id.now) (written_both c.args.into.now c.put_u16.new.self c.put_u32.new.self (number w16 2 ∷ []) (number w32 c.args.index ∷ []) c.in_ok-put_u16.ensures c.in_ok-put_u32.ensures) c.in_ok-put_string.ensures) c.requires

pub returns : goal.returns
returns c = puts_then c.put_profiles.result c.args.into.now c.put_string.new.self c.put_profiles.new.into (number w16 2 ∷ number w32 c.args.index ∷ string_fields c.args.type_id.now) (profiles_fields c.args.profiles.now) (written_both c.args.into.now c.put_u32.new.self c.put_string.new.self (number w16 2 ∷ number w32 c.args.index ∷ []) (string_fields c.args.type_id.now) (written_both c.args.into.now c.put_u16.new.self c.put_u32.new.self (number w16 2 ∷ []) (number w32 c.args.index ∷ []) c.in_ok-put_u16.ensures c.in_ok-put_u32.ensures) c.in_ok-put_string.ensures) c.put_profiles.ensures

pub put_string-requires : goal.put_string-requires
put_string-requires c = text_fits c.args.into.now.place (number w16 2 ∷ number w32 c.args.index ∷ []) c.args.type_id.now (profiles_fields c.args.profiles.now) c.requires
