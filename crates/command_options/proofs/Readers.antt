-- From what `clap` answers to what is read.
use Rattle.std.proofs.Common.{◌≡◌, ◌<◌, ◌≤◌, ◌+◌, ℕ, length, get_or, drop, drop-cons, ◌∙◌, ◌⊎◌, inl, inr, Bool, List, [], ◌∷◌, refl, sym, ap, true, false, true≢false, subst, map, find, not, ◌&&◌, Option, Some, None, option_map, slice_get, if◌then◌else◌, bytes_eq}
use Rattle.std.proofs.lemmas.Bool.{and_parts}
use Rattle.std.proofs.Math.Numerals.{add-one}
use Rattle.std.proofs.lemmas.List.{drop_all}
use Rattle.std.specs.Option.{option_and_then}
use Rattle.std.specs.Borrow.{Bor}
use Rattle.clap.specs.Facts.{Entry, explicit_source}
use Rattle.clap.specs.Faults.{fault_of, is_simple_and_free}
use Rattle.clap.specs.Kinds.{HasKind, IsAmong, Kinds}
use Rattle.clap.specs.Matches.{first_value, found_of, matched_of}
use Rattle.clap.specs.Simple.{App, HasMatchesOf, is_simple}
use Rattle.clap.specs.Values.{kind_of}
use Rattle.clap.specs.Walk.{row_of, rows_of, texts}
use Rattle.clap.specs.declared.error.Error.{Error}
use Rattle.clap.specs.declared.error.kind.ErrorKind.TheVariants.{OutOfMemory}
use Rattle.clap.specs.declared.parser.matches.ArgMatches.{ArgMatches}
use Rattle.clap.specs.declared.parser.matches.MatchedArg.{MatchedArg}
use Rattle.clap.specs.declared.parser.matches.ValueSource.{ValueSource}
use Rattle.clap.specs.declared.parser.matches.ValueSource.TheVariants.{DefaultValue}
use Rattle.command_options.specs.Items.{Item, Text, are_distinct, are_numbered, is_lawful}
use Rattle.command_options.specs.Words.{form_of, is_dashed, has_no_stray_dash}
use Rattle.command_options.specs.Uses.{Use, uses, has_repeat, fits, fitting, reading}
use Rattle.command_options.specs.Given.{given}
use Rattle.command_options.specs.Clap.{Matched, app_name, made_app}
use Rattle.command_options.specs.Found.{given_by, given_rows}
use Rattle.command_options.specs.declared.options.Options.{Options}
use Rattle.command_options.proofs.Walks.{reads_so, value_so, fits_all, sound}
use Rattle.command_options.proofs.Building.{built_is}

cases : (b : Bool) → (b ≡ true) ⊎ (b ≡ false)
cases true = inl refl
cases false = inr refl

-- ---- one parse

pub found_so : (app : App) (words : List Text) (m : ArgMatches) → is_simple_and_free app ≡ true → HasMatchesOf app words m → fault_of app words ≡ [] → Matched app words (Some m)
unfolding Matched
found_so app words m simple has none = (none, (has (and_parts (is_simple app) _ simple).0).0)

fails_step : (kinds : Kinds) (e : Error) → HasKind kinds e → (kind_of e ≡ OutOfMemory → ⊥) → kinds ≡ [] → ⊥
fails_step kinds e (inl memory) other none = other memory
fails_step kinds e (inr among) other none = subst (IsAmong (kind_of e)) none among

pub fails_so : (app : App) (words : List Text) (e : Error) → HasKind (fault_of app words) e → (kind_of e ≡ OutOfMemory → ⊥) → Matched app words None
unfolding Matched
fails_so app words e has other = fails_step (fault_of app words) e has other

-- ---- the reading

-- a word with a stray dash
pub stray : (items : List Item) (words : List Text) → has_no_stray_dash words ≡ false → option_map given (reading items words) ≡ None
unfolding reading
stray items words e = rw e refl

refused_case : (items : List Item) (o : Option (List Use)) → (fits_all items o ≡ true → ⊥) → fitting items o ≡ None
refused_case items None no_fit = refl
refused_case items (Some us) no_fit = go (fits items us) refl
  where
    go : (b : Bool) → fits items us ≡ b → fitting items (Some us) ≡ None
    go true e = absurd (no_fit e)
    go false e = rw e refl

-- what `clap` refuses has no reading
pub refused : (items : List Item) (words : List Text) → is_lawful items ≡ true → has_no_stray_dash words ≡ true → Matched (made_app items) words None
    → option_map given (reading items words) ≡ None
unfolding reading Matched
refused items words lawful dry no_take =
    let numbered = (and_parts (are_distinct items) (are_numbered 1 items) lawful).1 in
    let so = reads_so (made_app items) app_name items words (built_is items numbered) refl (sound items lawful) dry in
    rw dry (ap (option_map given) (refused_case items (uses items words 1 None) (λ fit. no_take (so.1 fit))))

record Taken (items : List Item) (words : List Text) : Type 0 where
  us : List Use
  read : uses items words 1 None ≡ Some us
  once : has_repeat us ≡ false
  reads : reading items words ≡ Some us

not_true : (b : Bool) → not b ≡ true → b ≡ false
not_true true e = sym e
not_true false e = refl

taken_case : (items : List Item) (words : List Text) → has_no_stray_dash words ≡ true → (o : Option (List Use)) → uses items words 1 None ≡ o → fits_all items o ≡ true → Taken items words
unfolding reading
taken_case items words dry None e fit = absurd (true≢false (sym fit))
taken_case items words dry (Some us) e fit = record { us = us; read = e; once = not_true (has_repeat us) (and_parts _ _ fit).0; reads = rw (dry, e, fit) refl }

-- what `clap` takes has a reading, and its matches give what the reading gives
pub taken : (items : List Item) (words : List Text) (o : Options) → is_lawful items ≡ true → has_no_stray_dash words ≡ true → Matched (made_app items) words (Some o.matches)
    → Some (given_by o) ≡ option_map given (reading items words)
unfolding Matched given_by
taken items words o lawful dry took =
    let numbered = (and_parts (are_distinct items) (are_numbered 1 items) lawful).1 in
    let same = built_is items numbered in
    let plain = sound items lawful in
    let t = taken_case items words dry (uses items words 1 None) refl ((reads_so (made_app items) app_name items words same refl plain dry).0 took.0) in
    let all : (name : Text) → given_rows (rows_of (found_of o.matches)) name ≡ given t.us name =
    λ name. ap (λ rows. given_rows rows name) took.1 ∙ value_so (made_app items) app_name items words t.us name same refl plain t.read t.once in
    ap (λ f. Some f) (λ i name. all name i) ∙ sym (ap (option_map given) t.reads)

-- ---- one value

first_text : (vs : List (Bor Text)) → slice_get (texts vs) 0 ≡ option_map (λ s. s.now) (slice_get vs 0)
first_text [] = refl
first_text (v ∷ vs) = refl

abbrev said_by : Option ValueSource → Option Text → Option Text
said_by source text = if explicit_source source then text else None

abbrev found_in : List Entry → Text → Option MatchedArg
found_in es name = option_map (λ e. e.1) (find (λ e. bytes_eq e.0.now name) es)

abbrev first_in : List Entry → Text → Option Text
first_in es name = option_and_then (λ (a : MatchedArg). option_map (λ s. s.now) (slice_get a.vals.items 0)) (found_in es name)

rows_give : (es : List Entry) (name : Text) → given_rows (map row_of es) name ≡ said_by (option_and_then (λ (a : MatchedArg). a.source) (found_in es name)) (first_in es name)
rows_give [] name = refl
rows_give (e ∷ es) name = elim (cases (bytes_eq e.0.now name)) [
  | inl h ↦ rw h (ap (said_by e.1.source) (first_text e.1.vals.items))
  | inr h ↦ rw h (rows_give es name)
]

-- a value that comes from the words, and one that is a default
pub by_words : (o : Options) (name : Text) (text : Option Text) → text ≡ first_value (found_of o.matches) name
    → explicit_source (option_and_then (λ (a : MatchedArg). a.source) (matched_of (found_of o.matches) name)) ≡ true → text ≡ given_by o name
unfolding given_by
by_words o name text is from = is ∙ sym (rows_give (found_of o.matches).entries.items name ∙ rw from refl)

pub by_default : (o : Options) (name : Text) → option_and_then (λ (a : MatchedArg). a.source) (matched_of (found_of o.matches) name) ≡ Some DefaultValue
    → None ≡ given_by o name
unfolding given_by
by_default o name is = sym (rows_give (found_of o.matches).entries.items name ∙ rw is refl)

-- ---- the words

-- the words from number k on are the k-th and those after it
from_word : {A : Type 0} (text : A → Text) (words : List A) (k : ℕ) (d : A) → k < length words
    → has_no_stray_dash (map text (drop k words)) ≡ (not (is_dashed (form_of (text (get_or words k d)))) && has_no_stray_dash (map text (drop (k + 1) words)))
unfolding has_no_stray_dash
from_word text words k d low =
    ap (λ ws. has_no_stray_dash (map text ws)) (drop-cons words k d low)
    ∙ ap (λ j. not (is_dashed (form_of (text (get_or words k d)))) && has_no_stray_dash (map text (drop j words))) (sym (add-one k))

pub stray_word : {A : Type 0} (text : A → Text) (words : List A) (k : ℕ) (d : A) → k < length words → is_dashed (form_of (text (get_or words k d))) ≡ true
    → has_no_stray_dash (map text (drop k words)) ≡ false
stray_word text words k d low e = from_word text words k d low ∙ rw e refl

pub good_word : {A : Type 0} (text : A → Text) (words : List A) (k : ℕ) (d : A) → k < length words → is_dashed (form_of (text (get_or words k d))) ≡ false
    → has_no_stray_dash (map text (drop k words)) ≡ has_no_stray_dash (map text (drop (k + 1) words))
good_word text words k d low e = from_word text words k d low ∙ rw e refl

pub no_words : {A : Type 0} (text : A → Text) (words : List A) (k : ℕ) → length words ≤ k → has_no_stray_dash (map text (drop k words)) ≡ true
unfolding has_no_stray_dash
no_words text words k e = ap (λ ws. has_no_stray_dash (map text ws)) (drop_all k words e)
