use Rattle.std.proofs.Common.{ℕ, List, ◌∷◌, ◌++◌, []}
use Rattle.std.proofs.lemmas.Result.{err_from_is_err_and}
use Rattle.std.specs.Int.{w8, w32}
use Rattle.orb_base.specs.Tagged.{Context}
use Rattle.cdr_core.specs.Field.{Field, number, run, string_fields}
use Rattle.cdr_core.proofs.CallerLemmas.{written_both, front_then, puts_then, puts_first}
use Rattle.giop_messages.specs.Message.{Target}
use Rattle.giop_messages.specs.Layout.{target_fields, contexts_fields, body_fields}
use Rattle.giop_messages.specs.TargetView.{target_of}
use Rattle.giop_messages.proofs.PutLaws.{room_first, room_between, text_fits}
use Rattle.request_writer.proofs.request.put_request.Goals as goal

-- the parts of a request, one after the other
record Parts : Type 0 where
  pub head : List Field
  pub target : List Field
  pub name : List Field
  pub contexts : List Field
  pub body : List Field

abbrev parts : ℕ → ℕ → Target → List ℕ → List Context → List ℕ → Parts
parts id flags target name contexts body = record {
  head = number w32 id ∷ number w8 flags ∷ run 1 (0 ∷ 0 ∷ 0 ∷ []) ∷ [];
  target = target_fields target;
  name = string_fields name;
  contexts = contexts_fields contexts;
  body = body_fields body;
}

pub returns-in_err-put_request_head : goal.returns-in_err-put_request_head
returns-in_err-put_request_head c =
    let p = err_from_is_err_and c.from_residual.result c.from_residual.ensures.1 in
    let old = c.args.into.now in
    let r = c.request.inside in
    let f = parts c.args.id r.flags (target_of r.target) r.operation r.contexts.items r.body.items in
    rw (p.1, ← c.request.view_is) (puts_first old c.put_request_head.new.into f.head (f.target ++ f.name ++ f.contexts ++ f.body) c.in_err-put_request_head.ensures)

pub put_target-requires : goal.put_target-requires
put_target-requires c =
    let old = c.args.into.now in
    let r = c.request.inside in
    let f = parts c.args.id r.flags (target_of r.target) r.operation r.contexts.items r.body.items in
    let room = rw (← c.request.view_is) at c.requires in
    room_between old c.put_request_head.new.into f.head f.target f.name c.in_ok-put_request_head.ensures
    (room_first old.place (f.head ++ f.target ++ f.name) f.contexts (room_first old.place (f.head ++ f.target ++ f.name ++ f.contexts) f.body room))

pub returns-in_err-put_target : goal.returns-in_err-put_target
returns-in_err-put_target c =
    let p = err_from_is_err_and c.from_residual-in_err-put_target.result c.from_residual-in_err-put_target.ensures.1 in
    let old = c.args.into.now in
    let r = c.request.inside in
    let f = parts c.args.id r.flags (target_of r.target) r.operation r.contexts.items r.body.items in
    rw (p.1, ← c.request.view_is) (puts_first old c.put_target.new.into (f.head ++ f.target ++ f.name ++ f.contexts) f.body (puts_first old c.put_target.new.into (f.head ++ f.target ++ f.name) f.contexts
    (front_then p.0 old c.put_request_head.new.into c.put_target.new.into f.head f.target f.name c.in_ok-put_request_head.ensures c.in_err-put_target.ensures)))

pub put_string-requires : goal.put_string-requires
put_string-requires c =
    let old = c.args.into.now in
    let r = c.request.inside in
    let f = parts c.args.id r.flags (target_of r.target) r.operation r.contexts.items r.body.items in
    let room = rw (← c.request.view_is) at c.requires in
    text_fits old.place (f.head ++ f.target) r.operation f.contexts (room_first old.place (f.head ++ f.target ++ f.name ++ f.contexts) f.body room)

pub returns-in_err-put_string : goal.returns-in_err-put_string
returns-in_err-put_string c =
    let p = err_from_is_err_and c.from_residual-in_err-put_string.result c.from_residual-in_err-put_string.ensures.1 in
    let old = c.args.into.now in
    let r = c.request.inside in
    let f = parts c.args.id r.flags (target_of r.target) r.operation r.contexts.items r.body.items in
    let second = written_both old c.put_request_head.new.into c.put_target.new.into f.head f.target c.in_ok-put_request_head.ensures c.in_ok-put_target.ensures in
    rw (p.1, ← c.request.view_is) (puts_first old c.put_string.new.self (f.head ++ f.target ++ f.name ++ f.contexts) f.body
    (front_then p.0 old c.put_target.new.into c.put_string.new.self (f.head ++ f.target) f.name f.contexts second c.in_err-put_string.ensures))

pub put_contexts-requires : goal.put_contexts-requires
put_contexts-requires c =
    let old = c.args.into.now in
    let r = c.request.inside in
    let f = parts c.args.id r.flags (target_of r.target) r.operation r.contexts.items r.body.items in
    let room = rw (← c.request.view_is) at c.requires in
    let second = written_both old c.put_request_head.new.into c.put_target.new.into f.head f.target c.in_ok-put_request_head.ensures c.in_ok-put_target.ensures in
    let third = written_both old c.put_target.new.into c.put_string.new.self (f.head ++ f.target) f.name second c.in_ok-put_string.ensures in
    rw c.as_slice.ensures (room_between old c.put_string.new.self (f.head ++ f.target ++ f.name) f.contexts f.body third room)

pub returns-in_err-put_contexts : goal.returns-in_err-put_contexts
returns-in_err-put_contexts c =
    let p = err_from_is_err_and c.from_residual-in_err-put_contexts.result c.from_residual-in_err-put_contexts.ensures.1 in
    let old = c.args.into.now in
    let r = c.request.inside in
    let f = parts c.args.id r.flags (target_of r.target) r.operation r.contexts.items r.body.items in
    let second = written_both old c.put_request_head.new.into c.put_target.new.into f.head f.target c.in_ok-put_request_head.ensures c.in_ok-put_target.ensures in
    let third = written_both old c.put_target.new.into c.put_string.new.self (f.head ++ f.target) f.name second c.in_ok-put_string.ensures in
    rw (p.1, ← c.request.view_is) (front_then p.0 old c.put_string.new.self c.put_contexts.new.into (f.head ++ f.target ++ f.name) f.contexts f.body third (rw c.as_slice.ensures at c.in_err-put_contexts.ensures))

pub returns : goal.returns
returns c =
    let old = c.args.into.now in
    let r = c.request.inside in
    let f = parts c.args.id r.flags (target_of r.target) r.operation r.contexts.items r.body.items in
    let second = written_both old c.put_request_head.new.into c.put_target.new.into f.head f.target c.in_ok-put_request_head.ensures c.in_ok-put_target.ensures in
    let third = written_both old c.put_target.new.into c.put_string.new.self (f.head ++ f.target) f.name second c.in_ok-put_string.ensures in
    let fourth = written_both old c.put_string.new.self c.put_contexts.new.into (f.head ++ f.target ++ f.name) f.contexts third (rw c.as_slice.ensures at c.in_ok-put_contexts.ensures) in
    rw (← c.request.view_is) (puts_then c.put_body.result old c.put_contexts.new.into c.put_body.new.into (f.head ++ f.target ++ f.name ++ f.contexts) f.body fourth (rw c.as_slice-2.ensures at c.put_body.ensures))
