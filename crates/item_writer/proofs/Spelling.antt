-- Messages from their parts.
use Rattle.std.proofs.Common.{◌≡◌, ℕ, ◌+◌, ◌≤◌, List, [], ◌∷◌, ◌++◌, length, refl, sym, ap, ◌∙◌, append_assoc, append-nil, length-append, arith}
use Rattle.std.specs.Int.{w32}
use Rattle.orb_base.specs.declared.order.Order.{Order}
use Rattle.orb_base.specs.declared.order.Order.TheVariants.{Big}
use Rattle.orb_base.specs.declared.system.SysName.{SysName}
use Rattle.orb_base.specs.declared.system.SysName.TheVariants.{Marshal, BadOperation, ObjectNotExist, InvPolicy, Transient, DataConversion, ImpLimit, NoMemory}
use Rattle.cdr_core.specs.Field.{number_bytes}
use Rattle.cdr_core.specs.Encapsulation.{order_byte}
use Rattle.cdr_core.proofs.CallerLemmas.{length-number_bytes}
use Rattle.giop_messages.specs.Exceptions.{exception_id, parts_fields}
use Rattle.giop_messages.specs.Layout.{header}
use Rattle.giop_messages.specs.Message.{reply, located, close, error}
use Rattle.giop_messages.specs.Spelling.{spelled}
use Rattle.cdr_core.specs.Spelling.{fields_bytes}
use Rattle.item_writer.specs.ItemBytes.{bare}
use Rattle.item_writer.specs.Heads.{numbered_head, reply_head, padded}

-- three numbers and what is after them
three : (order : Order) (a b c : ℕ) (body : List ℕ)
    → length (number_bytes order w32 a ++ (number_bytes order w32 b ++ (number_bytes order w32 c ++ body))) ≡ 12 + length body
three order a b c body =
    omega (
      arith,
      length-append (number_bytes order w32 a) (number_bytes order w32 b ++ (number_bytes order w32 c ++ body)),
      length-append (number_bytes order w32 b) (number_bytes order w32 c ++ body),
      length-append (number_bytes order w32 c) body,
      length-number_bytes order w32 a,
      length-number_bytes order w32 b,
      length-number_bytes order w32 c,
    )

-- parts that are after each other
behind : (h a b c body : List ℕ) → (((h ++ a) ++ b) ++ c) ++ body ≡ h ++ (a ++ (b ++ (c ++ body)))
behind h a b c body =
    append_assoc ((h ++ a) ++ b) c body ∙ append_assoc (h ++ a) b (c ++ body) ∙ append_assoc h a (b ++ (c ++ body))

-- the parts of a reply's head before its body, where the size is that of what is after the header
framed_reply : (order : Order) (id status : ℕ) (body : List ℕ) (inner : List ℕ)
    → inner ≡ number_bytes order w32 id ++ (number_bytes order w32 status ++ (number_bytes order w32 0 ++ body))
    → reply_head order id status (length body) ++ body ≡ header order (order_byte order) 1 (length inner) ++ inner
framed_reply order id status body inner is =
    let size : length body + 12 ≡ length inner = omega (arith, three order id status 0 body, ap length is) in
    behind (header order (order_byte order) 1 (length body + 12)) (number_bytes order w32 id) (number_bytes order w32 status) (number_bytes order w32 0) body
    ∙ ap (λ (x : List ℕ). header order (order_byte order) 1 (length body + 12) ++ x) (sym is)
    ∙ ap (λ (n : ℕ). header order (order_byte order) 1 n ++ inner) size

pub reply_spelled : (order : Order) (id status : ℕ) (body : List ℕ) → reply_head order id status (length body) ++ body ≡ spelled order (reply (bare id status body))
reply_spelled order id status [] = framed_reply order id status [] (number_bytes order w32 id ++ (number_bytes order w32 status ++ (number_bytes order w32 0 ++ []))) refl
reply_spelled order id status (x ∷ xs) =
    framed_reply order id status (x ∷ xs) (number_bytes order w32 id ++ (number_bytes order w32 status ++ (number_bytes order w32 0 ++ ((x ∷ xs) ++ []))))
    (ap (λ (b : List ℕ). number_bytes order w32 id ++ (number_bytes order w32 status ++ (number_bytes order w32 0 ++ b))) (append-nil (x ∷ xs)))

pub located_spelled : (order : Order) (id status : ℕ) → numbered_head order 4 8 id status ++ [] ≡ spelled order (located (record { id = id; status = status }))
located_spelled order id status =
    let inner : List ℕ = number_bytes order w32 id ++ (number_bytes order w32 status ++ []) in
    let size : 8 ≡ length inner =
    omega (arith, length-append (number_bytes order w32 id) (number_bytes order w32 status ++ []), length-append (number_bytes order w32 status) [], length-number_bytes order w32 id, length-number_bytes order w32 status)
    in
    append_assoc (header order (order_byte order) 4 8 ++ number_bytes order w32 id) (number_bytes order w32 status) []
    ∙ append_assoc (header order (order_byte order) 4 8) (number_bytes order w32 id) (number_bytes order w32 status ++ [])
    ∙ ap (λ (n : ℕ). header order (order_byte order) 4 n ++ inner) size

pub close_spelled : header Big (order_byte Big) 5 0 ++ [] ≡ spelled Big close
close_spelled = refl

pub error_spelled : header Big (order_byte Big) 6 0 ++ [] ≡ spelled Big error
error_spelled = refl

-- the parts of an exception's body
parts_spelled : (order : Order) (name : SysName) (minor code : ℕ)
    → ((number_bytes order w32 (length (exception_id name) + 1) ++ padded (exception_id name)) ++ number_bytes order w32 minor) ++ number_bytes order w32 code
    ≡ number_bytes order w32 (length (exception_id name) + 1) ++ (padded (exception_id name) ++ (number_bytes order w32 minor ++ number_bytes order w32 code))
parts_spelled order name minor code =
    append_assoc (number_bytes order w32 (length (exception_id name) + 1) ++ padded (exception_id name)) (number_bytes order w32 minor) (number_bytes order w32 code)
    ∙ append_assoc (number_bytes order w32 (length (exception_id name) + 1)) (padded (exception_id name)) (number_bytes order w32 minor ++ number_bytes order w32 code)

-- the numbers after the id, as fields have them
as_fields : (order : Order) (minor code : ℕ) → number_bytes order w32 minor ++ number_bytes order w32 code ≡ number_bytes order w32 minor ++ (number_bytes order w32 code ++ [])
as_fields order minor code = ap (λ (x : List ℕ). number_bytes order w32 minor ++ x) (sym (append-nil (number_bytes order w32 code)))

pub exception_spelled : (order : Order) (name : SysName) (minor code : ℕ)
    → ((number_bytes order w32 (length (exception_id name) + 1) ++ padded (exception_id name)) ++ number_bytes order w32 minor) ++ number_bytes order w32 code
    ≡ fields_bytes order 24 (parts_fields (exception_id name) minor code)
exception_spelled order Marshal minor code = parts_spelled order Marshal minor code ∙ ap (λ (x : List ℕ). number_bytes order w32 30 ++ (padded (exception_id Marshal) ++ x)) (as_fields order minor code)
exception_spelled order BadOperation minor code = parts_spelled order BadOperation minor code ∙ ap (λ (x : List ℕ). number_bytes order w32 36 ++ (padded (exception_id BadOperation) ++ x)) (as_fields order minor code)
exception_spelled order ObjectNotExist minor code = parts_spelled order ObjectNotExist minor code ∙ ap (λ (x : List ℕ). number_bytes order w32 39 ++ (padded (exception_id ObjectNotExist) ++ x)) (as_fields order minor code)
exception_spelled order InvPolicy minor code = parts_spelled order InvPolicy minor code ∙ ap (λ (x : List ℕ). number_bytes order w32 33 ++ (padded (exception_id InvPolicy) ++ x)) (as_fields order minor code)
exception_spelled order Transient minor code = parts_spelled order Transient minor code ∙ ap (λ (x : List ℕ). number_bytes order w32 32 ++ (padded (exception_id Transient) ++ x)) (as_fields order minor code)
exception_spelled order DataConversion minor code = parts_spelled order DataConversion minor code ∙ ap (λ (x : List ℕ). number_bytes order w32 38 ++ (padded (exception_id DataConversion) ++ x)) (as_fields order minor code)
exception_spelled order ImpLimit minor code = parts_spelled order ImpLimit minor code ∙ ap (λ (x : List ℕ). number_bytes order w32 32 ++ (padded (exception_id ImpLimit) ++ x)) (as_fields order minor code)
exception_spelled order NoMemory minor code = parts_spelled order NoMemory minor code ∙ ap (λ (x : List ℕ). number_bytes order w32 32 ++ (padded (exception_id NoMemory) ++ x)) (as_fields order minor code)
