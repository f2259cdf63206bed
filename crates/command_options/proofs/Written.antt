-- Each command's words, written out with all its options.
use Rattle.std.proofs.Common.{◌≡◌, ◌++◌, ◌∷◌, [], Some, None, codes, refl}
use Rattle.command_options.specs.Commands.{call_items, idl_items, load_items, names_items, pipe_items, refs_items, serve_items}
use Rattle.command_options.specs.Items.{Text}
use Rattle.command_options.specs.Words.{form_of, has_no_stray_dash, plain}
use Rattle.command_options.specs.Uses.{reading, uses}

pub pipe_reads : (file number : Text) → form_of file ≡ plain → form_of number ≡ plain
    → reading pipe_items (codes "--config" ∷ file ∷ codes "--batch" ∷ number ∷ codes "--history" ∷ [])
    ≡ Some ((codes "config", Some file) ∷ (codes "batch", Some number) ∷ (codes "history", None) ∷ [])
unfolding reading uses has_no_stray_dash
pipe_reads file number file_plain number_plain = rw (file_plain, number_plain) refl

pub pipe_joined_reads : (file number : Text)
    → reading pipe_items (codes "--history" ∷ (codes "--batch=" ++ number) ∷ (codes "--config=" ++ file) ∷ [])
    ≡ Some ((codes "history", None) ∷ (codes "batch", Some number) ∷ (codes "config", Some file) ∷ [])
unfolding reading uses has_no_stray_dash
pipe_joined_reads file number = refl

pub pipe_traced_reads : (file number : Text)
    → reading pipe_items (codes "--trace" ∷ (codes "--batch=" ++ number) ∷ (codes "--config=" ++ file) ∷ [])
    ≡ Some ((codes "trace", None) ∷ (codes "batch", Some number) ∷ (codes "config", Some file) ∷ [])
unfolding reading uses has_no_stray_dash
pipe_traced_reads file number = refl

pub serve_reads : (file place : Text) → form_of file ≡ plain → form_of place ≡ plain
    → reading serve_items (codes "--config" ∷ file ∷ codes "--listen" ∷ place ∷ [])
    ≡ Some ((codes "config", Some file) ∷ (codes "listen", Some place) ∷ [])
unfolding reading uses has_no_stray_dash
serve_reads file place file_plain place_plain = rw (file_plain, place_plain) refl

pub serve_joined_reads : (file place : Text)
    → reading serve_items ((codes "--listen=" ++ place) ∷ (codes "--config=" ++ file) ∷ [])
    ≡ Some ((codes "listen", Some place) ∷ (codes "config", Some file) ∷ [])
unfolding reading uses has_no_stray_dash
serve_joined_reads file place = refl

pub serve_runs_reads : (file place number : Text) → form_of file ≡ plain → form_of place ≡ plain → form_of number ≡ plain
    → reading serve_items (codes "--config" ∷ file ∷ codes "--listen" ∷ place ∷ codes "--runs" ∷ number ∷ codes "--trace" ∷ [])
    ≡ Some ((codes "config", Some file) ∷ (codes "listen", Some place) ∷ (codes "runs", Some number) ∷ (codes "trace", None) ∷ [])
unfolding reading uses has_no_stray_dash
serve_runs_reads file place number file_plain place_plain number_plain = rw (file_plain, place_plain, number_plain) refl

pub serve_runs_joined_reads : (file place number : Text)
    → reading serve_items (codes "--trace" ∷ (codes "--runs=" ++ number) ∷ (codes "--listen=" ++ place) ∷ (codes "--config=" ++ file) ∷ [])
    ≡ Some ((codes "trace", None) ∷ (codes "runs", Some number) ∷ (codes "listen", Some place) ∷ (codes "config", Some file) ∷ [])
unfolding reading uses has_no_stray_dash
serve_runs_joined_reads file place number = refl

pub names_reads : (place : Text) → form_of place ≡ plain
    → reading names_items (codes "--listen" ∷ place ∷ [])
    ≡ Some ((codes "listen", Some place) ∷ [])
unfolding reading uses has_no_stray_dash
names_reads place place_plain = rw place_plain refl

pub names_joined_reads : (place : Text)
    → reading names_items ((codes "--listen=" ++ place) ∷ [])
    ≡ Some ((codes "listen", Some place) ∷ [])
unfolding reading uses has_no_stray_dash
names_joined_reads place = refl

pub refs_reads : (place file : Text) → form_of place ≡ plain → form_of file ≡ plain
    → reading refs_items (codes "--at" ∷ place ∷ codes "--config" ∷ file ∷ [])
    ≡ Some ((codes "at", Some place) ∷ (codes "config", Some file) ∷ [])
unfolding reading uses has_no_stray_dash
refs_reads place file place_plain file_plain = rw (place_plain, file_plain) refl

pub refs_joined_reads : (place file : Text)
    → reading refs_items ((codes "--config=" ++ file) ∷ (codes "--at=" ++ place) ∷ [])
    ≡ Some ((codes "config", Some file) ∷ (codes "at", Some place) ∷ [])
unfolding reading uses has_no_stray_dash
refs_joined_reads place file = refl

pub idl_reads : (file : Text) → form_of file ≡ plain
    → reading idl_items (codes "--file" ∷ file ∷ [])
    ≡ Some ((codes "file", Some file) ∷ [])
unfolding reading uses has_no_stray_dash
idl_reads file file_plain = rw file_plain refl

pub idl_joined_reads : (file : Text)
    → reading idl_items ((codes "--file=" ++ file) ∷ [])
    ≡ Some ((codes "file", Some file) ∷ [])
unfolding reading uses has_no_stray_dash
idl_joined_reads file = refl

pub call_reads : (remote op args priority file id number : Text) → form_of remote ≡ plain → form_of op ≡ plain → form_of args ≡ plain → form_of priority ≡ plain → form_of file ≡ plain → form_of id ≡ plain → form_of number ≡ plain
    → reading call_items (codes "--ref" ∷ remote ∷ codes "--op" ∷ op ∷ codes "--args" ∷ args ∷ codes "--priority" ∷ priority ∷ codes "--idl" ∷ file ∷ codes "--interface" ∷ id ∷ codes "--callers" ∷ number ∷ [])
    ≡ Some ((codes "ref", Some remote) ∷ (codes "op", Some op) ∷ (codes "args", Some args) ∷ (codes "priority", Some priority) ∷ (codes "idl", Some file) ∷ (codes "interface", Some id) ∷ (codes "callers", Some number) ∷ [])
unfolding reading uses has_no_stray_dash
call_reads remote op args priority file id number remote_plain op_plain args_plain priority_plain file_plain id_plain number_plain =
    rw (remote_plain, op_plain, args_plain, priority_plain, file_plain, id_plain, number_plain) refl

pub call_joined_reads : (remote op args priority file id number : Text)
    → reading call_items ((codes "--callers=" ++ number) ∷ (codes "--interface=" ++ id) ∷ (codes "--idl=" ++ file) ∷ (codes "--priority=" ++ priority) ∷ (codes "--args=" ++ args) ∷ (codes "--op=" ++ op) ∷ (codes "--ref=" ++ remote) ∷ [])
    ≡ Some ((codes "callers", Some number) ∷ (codes "interface", Some id) ∷ (codes "idl", Some file) ∷ (codes "priority", Some priority) ∷ (codes "args", Some args) ∷ (codes "op", Some op) ∷ (codes "ref", Some remote) ∷ [])
unfolding reading uses has_no_stray_dash
call_joined_reads remote op args priority file id number = refl

pub call_alone_reads : (remote op args priority file id : Text) → form_of remote ≡ plain → form_of op ≡ plain → form_of args ≡ plain → form_of priority ≡ plain → form_of file ≡ plain → form_of id ≡ plain
    → reading call_items (codes "--ref" ∷ remote ∷ codes "--op" ∷ op ∷ codes "--args" ∷ args ∷ codes "--priority" ∷ priority ∷ codes "--idl" ∷ file ∷ codes "--interface" ∷ id ∷ [])
    ≡ Some ((codes "ref", Some remote) ∷ (codes "op", Some op) ∷ (codes "args", Some args) ∷ (codes "priority", Some priority) ∷ (codes "idl", Some file) ∷ (codes "interface", Some id) ∷ [])
unfolding reading uses has_no_stray_dash
call_alone_reads remote op args priority file id remote_plain op_plain args_plain priority_plain file_plain id_plain =
    rw (remote_plain, op_plain, args_plain, priority_plain, file_plain, id_plain) refl

pub load_reads : (seed count file batch fragment : Text) → form_of seed ≡ plain → form_of count ≡ plain → form_of file ≡ plain → form_of batch ≡ plain → form_of fragment ≡ plain
    → reading load_items (seed ∷ count ∷ codes "--config" ∷ file ∷ codes "--batch" ∷ batch ∷ codes "--fragment" ∷ fragment ∷ [])
    ≡ Some ((codes "seed", Some seed) ∷ (codes "count", Some count) ∷ (codes "config", Some file) ∷ (codes "batch", Some batch) ∷ (codes "fragment", Some fragment) ∷ [])
unfolding reading uses has_no_stray_dash
load_reads seed count file batch fragment seed_plain count_plain file_plain batch_plain fragment_plain =
    rw (seed_plain, count_plain, file_plain, batch_plain, fragment_plain) refl

pub load_joined_reads : (seed count file batch fragment : Text) → form_of seed ≡ plain → form_of count ≡ plain
    → reading load_items ((codes "--fragment=" ++ fragment) ∷ seed ∷ (codes "--batch=" ++ batch) ∷ count ∷ (codes "--config=" ++ file) ∷ [])
    ≡ Some ((codes "fragment", Some fragment) ∷ (codes "seed", Some seed) ∷ (codes "batch", Some batch) ∷ (codes "count", Some count) ∷ (codes "config", Some file) ∷ [])
unfolding reading uses has_no_stray_dash
load_joined_reads seed count file batch fragment seed_plain count_plain = rw (seed_plain, count_plain) refl
