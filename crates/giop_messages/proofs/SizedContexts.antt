-- Contexts end where others end whose data are as long.
use Rattle.std.proofs.Common.{◌≡◌, ℕ, ◌+◌, List, [], ◌∷◌, map, length, replicate, refl, sym, ap, ◌∙◌}
use Rattle.std.specs.Int.{w32}
use Rattle.std.specs.List.{flat_map}
use Rattle.std.proofs.lemmas.List.{length-replicate}
use Rattle.orb_base.specs.Tagged.{Context}
use Rattle.cdr_core.specs.Alignment.{pad_len}
use Rattle.cdr_core.specs.Field.{Field, number, field_end, fields_end}
use Rattle.cdr_core.specs.Lists.{item_fields, context_fields}
use Rattle.cdr_core.proofs.CallerLemmas.{fields_end-append}
use Rattle.giop_messages.specs.Lengths.{held, Ends, data_len}

-- a context with data of a length
abbrev pub blank_context : ℕ → List Field
blank_context n = item_fields (0, replicate n 0)

one_end : (place : ℕ) (c : Context) → fields_end place (blank_context (data_len c)) ≡ fields_end place (context_fields c)
one_end place c =
    let at : ℕ = field_end (field_end place (number w32 0)) (number w32 0) in
    ap (λ (n : ℕ). at + pad_len 1 at + n) (length-replicate {A = ℕ} (length c.bytes) 0)

sized_end : (place : ℕ) (cs : List Context) → fields_end place (flat_map blank_context (map data_len cs)) ≡ fields_end place (flat_map context_fields cs)
sized_end place [] = refl
sized_end place (c ∷ cs) =
    fields_end-append place (blank_context (data_len c)) (flat_map blank_context (map data_len cs))
    ∙ ap (λ (p : ℕ). fields_end p (flat_map blank_context (map data_len cs))) (one_end place c)
    ∙ sized_end (fields_end place (context_fields c)) cs
    ∙ sym (fields_end-append place (context_fields c) (flat_map context_fields cs))

pub sized_ends : (a b : ℕ) (cs : List Context) (sizes : List ℕ) → map data_len cs ≡ sizes → Ends a (flat_map blank_context sizes) b → Ends a (flat_map context_fields cs) b
sized_ends a b cs sizes same p place from =
    p place from ∙ ap held (ap (λ (ns : List ℕ). fields_end place (flat_map blank_context ns)) (sym same) ∙ sized_end place cs)
