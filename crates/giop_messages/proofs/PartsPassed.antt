-- Lists that are passed over in a message, and those that are copied by a reader at them.
use Rattle.std.proofs.Common.{◌≡◌, List, Result, Ok, Err, is_ok, sym, ap, ◌∙◌}
use Rattle.cdr_core.specs.declared.fault.CdrFault.{CdrFault}
use Rattle.cdr_core.specs.Cursor.{Cursor, Reads}
use Rattle.cdr_core.specs.Sequence.{behind}
use Rattle.cdr_core.specs.Lists.{Item, item_at, made_at, list_at, read_or_none, listed, IsAtList, tagged_of, context_of}
use Rattle.cdr_core.proofs.CallerLemmas.{passed_list, refused_list}
use Rattle.orb_base.specs.Tagged.{Tagged, Context}
use Rattle.giop_messages.specs.declared.message_fault.MessageFault.{MessageFault}
use Rattle.giop_messages.specs.declared.message_fault.MessageFault.TheVariants as faults
use Rattle.giop_messages.specs.MessageReading.{basic, profiles_at, contexts_at}

abbrev answer : {A : Type 0} → A → Result A MessageFault
answer x = Ok x

at_list : {A : Type 0} (made : Item → A) (c list d : Cursor) → list ≡ c → behind (list_at item_at c) ≡ Ok d → IsAtList made list
at_list {A} made c list d same e =
    ap (λ (r : Reads (List A)). is_ok r) (ap (λ (x : Cursor). list_at (made_at made) x) same ∙ passed_list made c d e)

-- ---- profiles

pub profiles_passed : (c list d : Cursor) → list ≡ c → behind (list_at item_at c) ≡ Ok d → profiles_at c ≡ Ok (listed tagged_of list, d)
unfolding profiles_at
profiles_passed c list d same e = rw same (ap (λ (r : Reads (List Tagged)). basic r) (passed_list tagged_of c d e))

pub profiles_refused : (c : Cursor) (f : CdrFault) → behind (list_at item_at c) ≡ Err f → profiles_at c ≡ Err (faults.Cdr f)
unfolding profiles_at
profiles_refused c f e = ap (λ (r : Reads (List Tagged)). basic r) (refused_list tagged_of c f e)

pub at_profiles : (c list d : Cursor) → list ≡ c → behind (list_at item_at c) ≡ Ok d → IsAtList tagged_of list
at_profiles c list d same e = at_list tagged_of c list d same e

pub profiles_listed : (list c d : Cursor) (items : List Tagged) → c ≡ list → list_at (made_at tagged_of) c ≡ Ok (items, d) → answer (listed tagged_of list) ≡ answer items
profiles_listed list c d items same e =
    ap (λ (r : Reads (List Tagged)). answer (read_or_none r)) (ap (λ (x : Cursor). list_at (made_at tagged_of) x) (sym same) ∙ e)

-- ---- service contexts

pub contexts_passed : (c list d : Cursor) → list ≡ c → behind (list_at item_at c) ≡ Ok d → contexts_at c ≡ Ok (listed context_of list, d)
unfolding contexts_at
contexts_passed c list d same e = rw same (ap (λ (r : Reads (List Context)). basic r) (passed_list context_of c d e))

pub contexts_refused : (c : Cursor) (f : CdrFault) → behind (list_at item_at c) ≡ Err f → contexts_at c ≡ Err (faults.Cdr f)
unfolding contexts_at
contexts_refused c f e = ap (λ (r : Reads (List Context)). basic r) (refused_list context_of c f e)

pub at_contexts : (c list d : Cursor) → list ≡ c → behind (list_at item_at c) ≡ Ok d → IsAtList context_of list
at_contexts c list d same e = at_list context_of c list d same e

pub contexts_listed : (list c d : Cursor) (items : List Context) → c ≡ list → list_at (made_at context_of) c ≡ Ok (items, d) → answer (listed context_of list) ≡ answer items
contexts_listed list c d items same e =
    ap (λ (r : Reads (List Context)). answer (read_or_none r)) (ap (λ (x : Cursor). list_at (made_at context_of) x) (sym same) ∙ e)
