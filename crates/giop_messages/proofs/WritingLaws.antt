-- The parts of a system exception are its body.
use Rattle.std.proofs.Common.{◌≡◌, ℕ, ◌≤◌, List, [], ◌∷◌, length, sym, ap, subst, ◌∙◌, arith}
use Rattle.std.specs.Prelude.{IfOk, Result, Ok, Err}
use Rattle.orb_base.specs.Room.{Room}
use Rattle.std.proofs.lemmas.List.{length-append}
use Rattle.orb_base.specs.declared.order.Order.{Order}
use Rattle.orb_base.specs.declared.system.Sys.{Sys}
use Rattle.cdr_core.specs.Spelling.{fields_bytes}
use Rattle.cdr_core.proofs.CallerLemmas.{fields_end-is}
use Rattle.giop_messages.specs.Exceptions.{exception_id, completion, parts_fields, exception_body}

length-exception : (order : Order) (text : List ℕ) (minor code : ℕ) → length text ≤ 64 → length (fields_bytes order 24 (parts_fields text minor code)) ≤ 1024
length-exception order text minor code short =
    omega (arith, fields_end-is order 24 (parts_fields text minor code), length-append text (0 ∷ []))

-- what was spelled of an exception's parts is its body
pub exception_spelled : (order : Order) (system : Sys) (text : List ℕ) (code : ℕ) (items : List ℕ) → text ≡ exception_id system.name → code ≡ completion system.completed
    → items ≡ fields_bytes order 24 (parts_fields text system.minor code) → items ≡ exception_body order system
exception_spelled order system text code items text-is code-is put =
    put ∙ ap (λ (t : List ℕ). fields_bytes order 24 (parts_fields t system.minor code)) text-is
    ∙ ap (λ (n : ℕ). fields_bytes order 24 (parts_fields (exception_id system.name) system.minor n)) code-is

pub exception_short : {E : Type 0} (order : Order) (text : List ℕ) (minor code : ℕ) (result : Result (Room ℕ) E) → length text ≤ 64
    → IfOk result (λ o. o.items ≡ fields_bytes order 24 (parts_fields text minor code)) → IfOk result (λ o. length o.items ≤ 1024)
exception_short order text minor code (Ok o) short put = subst (λ (x : List ℕ). length x ≤ 1024) (sym put) (length-exception order text minor code short)
exception_short order text minor code (Err e) short put = tt
