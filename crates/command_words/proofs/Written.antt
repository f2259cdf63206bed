-- Each command's words, written out with all its options.
use Rattle.std.proofs.Common.{◌≡◌, ◌∙◌, ◌++◌, ◌∷◌, ◌==◌, ◌+◌, ◌||◌, ℕ, Bool, true, false, List, [], Option, Some, None, if◌then◌else◌, codes, refl, sym, ap, true≢false}
use Rattle.std.specs.Prelude.{is_some, option_map}
use Rattle.std.specs.List.{list_any, position_from}
use Rattle.std.proofs.lemmas.Iterator.Adapters.{position_from-zero}
use Rattle.orb_base.specs.NulFree.{HasNoNul}
use Rattle.object_lines.specs.Addresses.{address_of}
use Rattle.pipe_runs.specs.declared.shown.Shown.TheVariants as shown
use Rattle.command_options.specs.Given.{given}
use Rattle.command_options.specs.Items.{Text}
use Rattle.command_options.specs.Numbers.{number_of}
use Rattle.command_options.specs.Words.{form_of, plain}
use Rattle.command_options.proofs.Written as options
use Rattle.command_words.specs.Meanings.{called, listed, loaded, named_at, piped, planned, refs_at, served_at}
use Rattle.command_words.specs.Numbers.{batch_of, callers_of, count_of, fragment_of, priority_of, runs_of}
use Rattle.command_words.specs.Words.{command_of}

-- ---- bytes before a value

any_step : (here : Bool) (n : ℕ) (later : Option ℕ) (rest : Bool) → (if here then Some n else later) ≡ None → (later ≡ None → rest ≡ false) → (here || rest) ≡ false
any_step true n later rest none more = absurd (true≢false (ap is_some none))
any_step false n later rest none more = more none

none_any : (n : ℕ) (xs : List ℕ) → position_from (λ b. b == 0) n xs ≡ None → list_any (λ b. b == 0) xs ≡ false
none_any n [] none = refl
none_any n (x ∷ xs) none = any_step (x == 0) n (position_from (λ b. b == 0) (n + 1) xs) (list_any (λ b. b == 0) xs) none (λ e. none_any (n + 1) xs e)

none_step : (here rest : Bool) (n : ℕ) (later : Option ℕ) → (here || rest) ≡ false → (rest ≡ false → later ≡ None) → (if here then Some n else later) ≡ None
none_step true rest n later none more = absurd (true≢false none)
none_step false rest n later none more = more none

any_none : (n : ℕ) (xs : List ℕ) → list_any (λ b. b == 0) xs ≡ false → position_from (λ b. b == 0) n xs ≡ None
any_none n [] none = refl
any_none n (x ∷ xs) none = none_step (x == 0) (list_any (λ b. b == 0) xs) n (position_from (λ b. b == 0) (n + 1) xs) none (λ e. any_none (n + 1) xs e)

clean : (xs ys : Text) → list_any (λ b. b == 0) xs ≡ list_any (λ b. b == 0) ys → HasNoNul ys → HasNoNul xs
clean xs ys same none = position_from-zero (λ b. b == 0) xs ∙ any_none 0 xs (same ∙ none_any 0 ys (sym (position_from-zero (λ b. b == 0) ys) ∙ none))

-- ---- the commands

pub pipe_means : (file number : Text) → form_of file ≡ plain → form_of number ≡ plain → HasNoNul file → HasNoNul number
    → command_of (codes "pipe" ∷ codes "--config" ∷ file ∷ codes "--batch" ∷ number ∷ codes "--history" ∷ []) ≡ piped (Some file) (batch_of number) (Some shown.Text)
unfolding command_of given
pipe_means file number file_plain number_plain file_clean number_clean =
    rw (file_clean, number_clean, options.pipe_reads file number file_plain number_plain) refl

pub pipe_joined_means : (file number : Text) → HasNoNul file → HasNoNul number
    → command_of (codes "pipe" ∷ codes "--history" ∷ (codes "--batch=" ++ number) ∷ (codes "--config=" ++ file) ∷ []) ≡ piped (Some file) (batch_of number) (Some shown.Text)
unfolding command_of given
pipe_joined_means file number file_clean number_clean =
    let file_so : HasNoNul (codes "--config=" ++ file) = clean (codes "--config=" ++ file) file refl file_clean in
    let number_so : HasNoNul (codes "--batch=" ++ number) = clean (codes "--batch=" ++ number) number refl number_clean in
    rw (file_so, number_so, options.pipe_joined_reads file number) refl

pub pipe_traced_means : (file number : Text) → HasNoNul file → HasNoNul number
    → command_of (codes "pipe" ∷ codes "--trace" ∷ (codes "--batch=" ++ number) ∷ (codes "--config=" ++ file) ∷ []) ≡ piped (Some file) (batch_of number) (Some shown.Trace)
unfolding command_of given
pipe_traced_means file number file_clean number_clean =
    let file_so : HasNoNul (codes "--config=" ++ file) = clean (codes "--config=" ++ file) file refl file_clean in
    let number_so : HasNoNul (codes "--batch=" ++ number) = clean (codes "--batch=" ++ number) number refl number_clean in
    rw (file_so, number_so, options.pipe_traced_reads file number) refl

pub serve_means : (file place : Text) → form_of file ≡ plain → form_of place ≡ plain → HasNoNul file → HasNoNul place
    → command_of (codes "serve" ∷ codes "--config" ∷ file ∷ codes "--listen" ∷ place ∷ []) ≡ served_at (Some file) (address_of place) (Some 1) false
unfolding command_of given
serve_means file place file_plain place_plain file_clean place_clean =
    rw (file_clean, place_clean, options.serve_reads file place file_plain place_plain) refl

pub serve_joined_means : (file place : Text) → HasNoNul file → HasNoNul place
    → command_of (codes "serve" ∷ (codes "--listen=" ++ place) ∷ (codes "--config=" ++ file) ∷ []) ≡ served_at (Some file) (address_of place) (Some 1) false
unfolding command_of given
serve_joined_means file place file_clean place_clean =
    let file_so : HasNoNul (codes "--config=" ++ file) = clean (codes "--config=" ++ file) file refl file_clean in
    let place_so : HasNoNul (codes "--listen=" ++ place) = clean (codes "--listen=" ++ place) place refl place_clean in
    rw (file_so, place_so, options.serve_joined_reads file place) refl

pub serve_runs_means : (file place number : Text) → form_of file ≡ plain → form_of place ≡ plain → form_of number ≡ plain → HasNoNul file → HasNoNul place → HasNoNul number
    → command_of (codes "serve" ∷ codes "--config" ∷ file ∷ codes "--listen" ∷ place ∷ codes "--runs" ∷ number ∷ codes "--trace" ∷ []) ≡ served_at (Some file) (address_of place) (runs_of number) true
unfolding command_of given
serve_runs_means file place number file_plain place_plain number_plain file_clean place_clean number_clean =
    rw (file_clean, place_clean, number_clean, options.serve_runs_reads file place number file_plain place_plain number_plain) refl

pub serve_runs_joined_means : (file place number : Text) → HasNoNul file → HasNoNul place → HasNoNul number
    → command_of (codes "serve" ∷ codes "--trace" ∷ (codes "--runs=" ++ number) ∷ (codes "--listen=" ++ place) ∷ (codes "--config=" ++ file) ∷ []) ≡ served_at (Some file) (address_of place) (runs_of number) true
unfolding command_of given
serve_runs_joined_means file place number file_clean place_clean number_clean =
    let file_so : HasNoNul (codes "--config=" ++ file) = clean (codes "--config=" ++ file) file refl file_clean in
    let place_so : HasNoNul (codes "--listen=" ++ place) = clean (codes "--listen=" ++ place) place refl place_clean in
    let number_so : HasNoNul (codes "--runs=" ++ number) = clean (codes "--runs=" ++ number) number refl number_clean in
    rw (file_so, place_so, number_so, options.serve_runs_joined_reads file place number) refl

pub names_means : (place : Text) → form_of place ≡ plain → HasNoNul place
    → command_of (codes "names" ∷ codes "--listen" ∷ place ∷ []) ≡ named_at (address_of place)
unfolding command_of given
names_means place place_plain place_clean = rw (place_clean, options.names_reads place place_plain) refl

pub names_joined_means : (place : Text) → HasNoNul place
    → command_of (codes "names" ∷ (codes "--listen=" ++ place) ∷ []) ≡ named_at (address_of place)
unfolding command_of given
names_joined_means place place_clean =
    let place_so : HasNoNul (codes "--listen=" ++ place) = clean (codes "--listen=" ++ place) place refl place_clean in
    rw (place_so, options.names_joined_reads place) refl

pub refs_means : (place file : Text) → form_of place ≡ plain → form_of file ≡ plain → HasNoNul place → HasNoNul file
    → command_of (codes "refs" ∷ codes "--at" ∷ place ∷ codes "--config" ∷ file ∷ []) ≡ refs_at (address_of place) (Some file)
unfolding command_of given
refs_means place file place_plain file_plain place_clean file_clean =
    rw (place_clean, file_clean, options.refs_reads place file place_plain file_plain) refl

pub refs_joined_means : (place file : Text) → HasNoNul place → HasNoNul file
    → command_of (codes "refs" ∷ (codes "--config=" ++ file) ∷ (codes "--at=" ++ place) ∷ []) ≡ refs_at (address_of place) (Some file)
unfolding command_of given
refs_joined_means place file place_clean file_clean =
    let file_so : HasNoNul (codes "--config=" ++ file) = clean (codes "--config=" ++ file) file refl file_clean in
    let place_so : HasNoNul (codes "--at=" ++ place) = clean (codes "--at=" ++ place) place refl place_clean in
    rw (file_so, place_so, options.refs_joined_reads place file) refl

pub idl_means : (file : Text) → form_of file ≡ plain → HasNoNul file
    → command_of (codes "idl" ∷ codes "--file" ∷ file ∷ []) ≡ listed (Some file)
unfolding command_of given
idl_means file file_plain file_clean = rw (file_clean, options.idl_reads file file_plain) refl

pub idl_joined_means : (file : Text) → HasNoNul file
    → command_of (codes "idl" ∷ (codes "--file=" ++ file) ∷ []) ≡ listed (Some file)
unfolding command_of given
idl_joined_means file file_clean =
    let file_so : HasNoNul (codes "--file=" ++ file) = clean (codes "--file=" ++ file) file refl file_clean in
    rw (file_so, options.idl_joined_reads file) refl

pub call_means : (remote op args priority file id number : Text) → form_of remote ≡ plain → form_of op ≡ plain → form_of args ≡ plain → form_of priority ≡ plain → form_of file ≡ plain → form_of id ≡ plain → form_of number ≡ plain
    → HasNoNul remote → HasNoNul op → HasNoNul args → HasNoNul priority → HasNoNul file → HasNoNul id → HasNoNul number
    → command_of (codes "call" ∷ codes "--ref" ∷ remote ∷ codes "--op" ∷ op ∷ codes "--args" ∷ args ∷ codes "--priority" ∷ priority ∷ codes "--idl" ∷ file ∷ codes "--interface" ∷ id ∷ codes "--callers" ∷ number ∷ [])
    ≡ called (Some remote) (Some op) (Some args) (option_map Some (priority_of priority)) (Some file) (Some id) (option_map Some (callers_of number))
unfolding command_of given
call_means remote op args priority file id number remote_plain op_plain args_plain priority_plain file_plain id_plain number_plain remote_clean op_clean args_clean priority_clean file_clean id_clean number_clean =
    rw (
      remote_clean,
      op_clean,
      args_clean,
      priority_clean,
      file_clean,
      id_clean,
      number_clean,
      options.call_reads remote op args priority file id number remote_plain op_plain args_plain priority_plain file_plain id_plain number_plain,
    ) refl

pub call_joined_means : (remote op args priority file id number : Text) → HasNoNul remote → HasNoNul op → HasNoNul args → HasNoNul priority → HasNoNul file → HasNoNul id → HasNoNul number
    → command_of (codes "call" ∷ (codes "--callers=" ++ number) ∷ (codes "--interface=" ++ id) ∷ (codes "--idl=" ++ file) ∷ (codes "--priority=" ++ priority) ∷ (codes "--args=" ++ args) ∷ (codes "--op=" ++ op) ∷ (codes "--ref=" ++ remote) ∷ [])
    ≡ called (Some remote) (Some op) (Some args) (option_map Some (priority_of priority)) (Some file) (Some id) (option_map Some (callers_of number))
unfolding command_of given
call_joined_means remote op args priority file id number remote_clean op_clean args_clean priority_clean file_clean id_clean number_clean =
    let remote_so : HasNoNul (codes "--ref=" ++ remote) = clean (codes "--ref=" ++ remote) remote refl remote_clean in
    let op_so : HasNoNul (codes "--op=" ++ op) = clean (codes "--op=" ++ op) op refl op_clean in
    let args_so : HasNoNul (codes "--args=" ++ args) = clean (codes "--args=" ++ args) args refl args_clean in
    let priority_so : HasNoNul (codes "--priority=" ++ priority) = clean (codes "--priority=" ++ priority) priority refl priority_clean in
    let file_so : HasNoNul (codes "--idl=" ++ file) = clean (codes "--idl=" ++ file) file refl file_clean in
    let id_so : HasNoNul (codes "--interface=" ++ id) = clean (codes "--interface=" ++ id) id refl id_clean in
    let number_so : HasNoNul (codes "--callers=" ++ number) = clean (codes "--callers=" ++ number) number refl number_clean in
    rw (remote_so, op_so, args_so, priority_so, file_so, id_so, number_so, options.call_joined_reads remote op args priority file id number) refl

pub call_alone_means : (remote op args priority file id : Text) → form_of remote ≡ plain → form_of op ≡ plain → form_of args ≡ plain → form_of priority ≡ plain → form_of file ≡ plain → form_of id ≡ plain
    → HasNoNul remote → HasNoNul op → HasNoNul args → HasNoNul priority → HasNoNul file → HasNoNul id
    → command_of (codes "call" ∷ codes "--ref" ∷ remote ∷ codes "--op" ∷ op ∷ codes "--args" ∷ args ∷ codes "--priority" ∷ priority ∷ codes "--idl" ∷ file ∷ codes "--interface" ∷ id ∷ [])
    ≡ called (Some remote) (Some op) (Some args) (option_map Some (priority_of priority)) (Some file) (Some id) (Some None)
unfolding command_of given
call_alone_means remote op args priority file id remote_plain op_plain args_plain priority_plain file_plain id_plain remote_clean op_clean args_clean priority_clean file_clean id_clean =
    rw (
      remote_clean,
      op_clean,
      args_clean,
      priority_clean,
      file_clean,
      id_clean,
      options.call_alone_reads remote op args priority file id remote_plain op_plain args_plain priority_plain file_plain id_plain,
    ) refl

pub load_means : (seed count file batch fragment : Text) → form_of seed ≡ plain → form_of count ≡ plain → form_of file ≡ plain → form_of batch ≡ plain → form_of fragment ≡ plain
    → HasNoNul seed → HasNoNul count → HasNoNul file → HasNoNul batch → HasNoNul fragment
    → command_of (codes "load" ∷ seed ∷ count ∷ codes "--config" ∷ file ∷ codes "--batch" ∷ batch ∷ codes "--fragment" ∷ fragment ∷ [])
    ≡ loaded (Some file) (planned (number_of seed) (count_of count) (batch_of batch) (option_map Some (fragment_of fragment)))
unfolding command_of given
load_means seed count file batch fragment seed_plain count_plain file_plain batch_plain fragment_plain seed_clean count_clean file_clean batch_clean fragment_clean =
    rw (seed_clean, count_clean, file_clean, batch_clean, fragment_clean, options.load_reads seed count file batch fragment seed_plain count_plain file_plain batch_plain fragment_plain) refl

pub load_joined_means : (seed count file batch fragment : Text) → form_of seed ≡ plain → form_of count ≡ plain → HasNoNul seed → HasNoNul count → HasNoNul file → HasNoNul batch → HasNoNul fragment
    → command_of (codes "load" ∷ (codes "--fragment=" ++ fragment) ∷ seed ∷ (codes "--batch=" ++ batch) ∷ count ∷ (codes "--config=" ++ file) ∷ [])
    ≡ loaded (Some file) (planned (number_of seed) (count_of count) (batch_of batch) (option_map Some (fragment_of fragment)))
unfolding command_of given
load_joined_means seed count file batch fragment seed_plain count_plain seed_clean count_clean file_clean batch_clean fragment_clean =
    let fragment_so : HasNoNul (codes "--fragment=" ++ fragment) = clean (codes "--fragment=" ++ fragment) fragment refl fragment_clean in
    let batch_so : HasNoNul (codes "--batch=" ++ batch) = clean (codes "--batch=" ++ batch) batch refl batch_clean in
    let file_so : HasNoNul (codes "--config=" ++ file) = clean (codes "--config=" ++ file) file refl file_clean in
    rw (seed_clean, count_clean, fragment_so, batch_so, file_so, options.load_joined_reads seed count file batch fragment seed_plain count_plain) refl
