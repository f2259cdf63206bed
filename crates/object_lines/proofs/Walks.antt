-- Walks along the objects of a setup.
use Rattle.std.proofs.Common.{◌≡◌, ℕ, ◌+◌, List, [], ◌++◌, drop, Some, None, sym, ap, ◌∙◌, append_assoc}
use Rattle.std.specs.Prelude.{slice_get}
use Rattle.std.specs.List.{flat_map}
use Rattle.std.specs.Option.{option_map_or}
use Rattle.std.proofs.lemmas.List.{append-nil}
use Rattle.object_refs.specs.Reference.{Reference}
use Rattle.adapter_policies.specs.Publishing.{IsReferenceOf, reference_of}
use Rattle.adapter_policies.specs.SetupData.{AdapterData, SetupData}
use Rattle.adapter_policies.specs.declared.object_spec.ObjectSpec.{ObjectSpec}
use Rattle.setup_servants.proofs.Walks.{left_some, left_none}
use Rattle.object_lines.specs.Lines.{line_of, line_text, lines_text}

-- ---- lines

-- the lines so far with that of the next object, and those of the objects after it
pub more_lines : (setup : SetupData) (host : List ℕ) (port n : ℕ) (o : ObjectSpec) (front all : List ℕ) → slice_get setup.objects n ≡ Some o
    → front ++ flat_map (line_text setup host port) (drop n setup.objects) ≡ all
    → (front ++ line_text setup host port o) ++ flat_map (line_text setup host port) (drop (n + 1) setup.objects) ≡ all
more_lines setup host port n o front all at so_far =
    append_assoc front (line_text setup host port o) (flat_map (line_text setup host port) (drop (n + 1) setup.objects))
    ∙ ap (λ xs. front ++ flat_map (line_text setup host port) xs) (sym (left_some setup.objects n o at)) ∙ so_far

-- the lines of all objects
pub all_lines : (setup : SetupData) (host : List ℕ) (port n : ℕ) (front : List ℕ) → slice_get setup.objects n ≡ None
    → front ++ flat_map (line_text setup host port) (drop n setup.objects) ≡ lines_text setup host port → front ≡ lines_text setup host port
all_lines setup host port n front at so_far =
    sym (append-nil front) ∙ ap (λ xs. front ++ flat_map (line_text setup host port) xs) (sym (left_none setup.objects n at)) ∙ so_far

-- the line of an object is that of its reference
pub line_is : (setup : SetupData) (host : List ℕ) (port n : ℕ) (o : ObjectSpec) (r : Reference) → slice_get setup.objects n ≡ Some o
    → IsReferenceOf setup n host port r → line_of o.key r ≡ line_text setup host port o
line_is setup host port n o r at is = of_adapter (same (sym is.numbered ∙ at))
  where
    same : Some is.object ≡ Some o → is.object ≡ o
    same e = cc

    of_adapter : is.object ≡ o → line_of o.key r ≡ line_text setup host port o
    of_adapter e =
        ap (λ x. line_of o.key x) is.spelled
        ∙ ap (λ (x : ObjectSpec). line_of o.key (reference_of is.adapter x host port)) e
        ∙ sym (ap (λ a. option_map_or (λ (b : AdapterData). line_of o.key (reference_of b o host port)) a []) (sym (ap (λ (x : ObjectSpec). slice_get setup.adapters x.adapter) e) ∙ is.under))
