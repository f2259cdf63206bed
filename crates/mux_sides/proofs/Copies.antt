-- The service contexts that a reader is at.
use Rattle.std.proofs.Common.{◌≡◌, List, Ok, sym, ap, ◌∙◌}
use Rattle.cdr_core.specs.Cursor.{Cursor, Reads}
use Rattle.cdr_core.specs.Lists.{made_at, list_at, read_or_none, listed, context_of}
use Rattle.orb_base.specs.Tagged.{Context}

pub contexts_listed : (list c d : Cursor) (items : List Context) → c ≡ list → list_at (made_at context_of) c ≡ Ok (items, d) → items ≡ listed context_of list
contexts_listed list c d items same e =
    sym (ap (λ (r : Reads (List Context)). read_or_none r) (ap (λ (x : Cursor). list_at (made_at context_of) x) (sym same) ∙ e))
