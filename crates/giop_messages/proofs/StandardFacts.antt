-- Whole messages, byte by byte: CORBA 3.0.3, section 15.4.
use Rattle.std.proofs.Common.{◌≡◌, ℕ, List, [], ◌∷◌, refl}
use Rattle.std.specs.Prelude.{codes}
use Rattle.orb_base.specs.declared.order.Order.TheVariants.{Big, Little}
use Rattle.orb_base.specs.declared.system.SysName.TheVariants.{ObjectNotExist}
use Rattle.orb_base.specs.declared.system.Completed.TheVariants.{No}
use Rattle.cdr_core.specs.Field.{number_bytes}
use Rattle.giop_messages.specs.Message.{Request, cancel, close, error, key, locate, located, reply_of, request}
use Rattle.giop_messages.specs.Spelling.{spelled}
use Rattle.giop_messages.specs.Exceptions.{exception_body}

-- the operation `current` of an object, with a reply due, no contexts and no body
abbrev plain : ℕ → List ℕ → Request
plain id object = record { id = id; flags = 3; target = key object; operation = codes "current"; contexts = []; body = [] }

-- a request for `current` of the object `ping`
ping_request : spelled Big (request (plain 1 (codes "ping"))) ≡
    71 ∷ 73 ∷ 79 ∷ 80 ∷ 1 ∷ 2 ∷ 0 ∷ 0 ∷ 0 ∷ 0 ∷ 0 ∷ 36
    ∷ 0 ∷ 0 ∷ 0 ∷ 1 ∷ 3 ∷ 0 ∷ 0 ∷ 0 ∷ 0 ∷ 0 ∷ 0 ∷ 0
    ∷ 0 ∷ 0 ∷ 0 ∷ 4 ∷ 112 ∷ 105 ∷ 110 ∷ 103
    ∷ 0 ∷ 0 ∷ 0 ∷ 8 ∷ 99 ∷ 117 ∷ 114 ∷ 114 ∷ 101 ∷ 110 ∷ 116 ∷ 0
    ∷ 0 ∷ 0 ∷ 0 ∷ 0 ∷ []
unfolding number_bytes
ping_request = refl

-- the short 100 as its answer
ping_reply : spelled Big (reply_of 1 0 [] (0 ∷ 100 ∷ [])) ≡
    71 ∷ 73 ∷ 79 ∷ 80 ∷ 1 ∷ 2 ∷ 0 ∷ 1 ∷ 0 ∷ 0 ∷ 0 ∷ 14
    ∷ 0 ∷ 0 ∷ 0 ∷ 1 ∷ 0 ∷ 0 ∷ 0 ∷ 0 ∷ 0 ∷ 0 ∷ 0 ∷ 0
    ∷ 0 ∷ 100 ∷ []
unfolding number_bytes
ping_reply = refl

-- the short 7, little-endian
little_reply : spelled Little (reply_of 1 0 [] (7 ∷ 0 ∷ [])) ≡
    71 ∷ 73 ∷ 79 ∷ 80 ∷ 1 ∷ 2 ∷ 1 ∷ 1 ∷ 14 ∷ 0 ∷ 0 ∷ 0
    ∷ 1 ∷ 0 ∷ 0 ∷ 0 ∷ 0 ∷ 0 ∷ 0 ∷ 0 ∷ 0 ∷ 0 ∷ 0 ∷ 0
    ∷ 7 ∷ 0 ∷ []
unfolding number_bytes
little_reply = refl

-- OBJECT_NOT_EXIST with the minor code 1, not completed
exception_reply : spelled Big (reply_of 1 2 [] (exception_body Big (record { name = ObjectNotExist; minor = 1; completed = No }))) ≡
    71 ∷ 73 ∷ 79 ∷ 80 ∷ 1 ∷ 2 ∷ 0 ∷ 1 ∷ 0 ∷ 0 ∷ 0 ∷ 64
    ∷ 0 ∷ 0 ∷ 0 ∷ 1 ∷ 0 ∷ 0 ∷ 0 ∷ 2 ∷ 0 ∷ 0 ∷ 0 ∷ 0
    ∷ 0 ∷ 0 ∷ 0 ∷ 39 ∷ 73 ∷ 68 ∷ 76 ∷ 58 ∷ 111 ∷ 109 ∷ 103 ∷ 46 ∷ 111 ∷ 114 ∷ 103 ∷ 47
    ∷ 67 ∷ 79 ∷ 82 ∷ 66 ∷ 65 ∷ 47 ∷ 79 ∷ 66 ∷ 74 ∷ 69 ∷ 67 ∷ 84 ∷ 95 ∷ 78 ∷ 79 ∷ 84
    ∷ 95 ∷ 69 ∷ 88 ∷ 73 ∷ 83 ∷ 84 ∷ 58 ∷ 49 ∷ 46 ∷ 48 ∷ 0 ∷ 0
    ∷ 0 ∷ 0 ∷ 0 ∷ 1 ∷ 0 ∷ 0 ∷ 0 ∷ 1 ∷ []
unfolding number_bytes
exception_reply = refl

-- MessageError is without a body
error_alone : spelled Big error ≡ 71 ∷ 73 ∷ 79 ∷ 80 ∷ 1 ∷ 2 ∷ 0 ∷ 6 ∷ 0 ∷ 0 ∷ 0 ∷ 0 ∷ []
unfolding number_bytes
error_alone = refl

-- the request that binds the band 100 to 200
bind_band_request : spelled Big (request (record { id = 1; flags = 3; target = key (codes "ping"); operation = codes "_bind_priority_band"; contexts = record { id = 11; bytes = 0 ∷ 0 ∷ 0 ∷ 100 ∷ 0 ∷ 200 ∷ [] } ∷ []; body = [] })) ≡ 71 ∷ 73 ∷ 79 ∷ 80 ∷ 1 ∷ 2 ∷ 0 ∷ 0 ∷ 0 ∷ 0 ∷ 0 ∷ 62 ∷ 0 ∷ 0 ∷ 0 ∷ 1 ∷ 3 ∷ 0 ∷ 0 ∷ 0 ∷ 0 ∷ 0 ∷ 0 ∷ 0 ∷ 0 ∷ 0 ∷ 0 ∷ 4 ∷ 112 ∷ 105 ∷ 110 ∷ 103 ∷ 0 ∷ 0 ∷ 0 ∷ 20 ∷ 95 ∷ 98 ∷ 105 ∷ 110 ∷ 100 ∷ 95 ∷ 112 ∷ 114 ∷ 105 ∷ 111 ∷ 114 ∷ 105 ∷ 116 ∷ 121 ∷ 95 ∷ 98 ∷ 97 ∷ 110 ∷ 100 ∷ 0 ∷ 0 ∷ 0 ∷ 0 ∷ 1 ∷ 0 ∷ 0 ∷ 0 ∷ 11 ∷ 0 ∷ 0 ∷ 0 ∷ 6 ∷ 0 ∷ 0 ∷ 0 ∷ 100 ∷ 0 ∷ 200 ∷ []
unfolding number_bytes
bind_band_request = refl

-- the little-endian ping with the priority 7
little_endian_ping : spelled Little (request (record { id = 1; flags = 3; target = key (codes "ping"); operation = codes "current"; contexts = record { id = 10; bytes = 1 ∷ 0 ∷ 7 ∷ 0 ∷ [] } ∷ []; body = [] })) ≡ 71 ∷ 73 ∷ 79 ∷ 80 ∷ 1 ∷ 2 ∷ 1 ∷ 0 ∷ 48 ∷ 0 ∷ 0 ∷ 0 ∷ 1 ∷ 0 ∷ 0 ∷ 0 ∷ 3 ∷ 0 ∷ 0 ∷ 0 ∷ 0 ∷ 0 ∷ 0 ∷ 0 ∷ 4 ∷ 0 ∷ 0 ∷ 0 ∷ 112 ∷ 105 ∷ 110 ∷ 103 ∷ 8 ∷ 0 ∷ 0 ∷ 0 ∷ 99 ∷ 117 ∷ 114 ∷ 114 ∷ 101 ∷ 110 ∷ 116 ∷ 0 ∷ 1 ∷ 0 ∷ 0 ∷ 0 ∷ 10 ∷ 0 ∷ 0 ∷ 0 ∷ 4 ∷ 0 ∷ 0 ∷ 0 ∷ 1 ∷ 0 ∷ 7 ∷ 0 ∷ []
unfolding number_bytes
little_endian_ping = refl

-- a request with a body
twice_request : spelled Big (request (record { id = 1; flags = 3; target = key (codes "v"); operation = codes "twice"; contexts = []; body = 0 ∷ 0 ∷ 0 ∷ 21 ∷ [] })) ≡ 71 ∷ 73 ∷ 79 ∷ 80 ∷ 1 ∷ 2 ∷ 0 ∷ 0 ∷ 0 ∷ 0 ∷ 0 ∷ 40 ∷ 0 ∷ 0 ∷ 0 ∷ 1 ∷ 3 ∷ 0 ∷ 0 ∷ 0 ∷ 0 ∷ 0 ∷ 0 ∷ 0 ∷ 0 ∷ 0 ∷ 0 ∷ 1 ∷ 118 ∷ 0 ∷ 0 ∷ 0 ∷ 0 ∷ 0 ∷ 0 ∷ 6 ∷ 116 ∷ 119 ∷ 105 ∷ 99 ∷ 101 ∷ 0 ∷ 0 ∷ 0 ∷ 0 ∷ 0 ∷ 0 ∷ 0 ∷ 0 ∷ 0 ∷ 0 ∷ 21 ∷ []
unfolding number_bytes
twice_request = refl

-- the question where `ping` is
locate_ping : spelled Big (locate (record { id = 5; target = key (codes "ping") })) ≡ 71 ∷ 73 ∷ 79 ∷ 80 ∷ 1 ∷ 2 ∷ 0 ∷ 3 ∷ 0 ∷ 0 ∷ 0 ∷ 16 ∷ 0 ∷ 0 ∷ 0 ∷ 5 ∷ 0 ∷ 0 ∷ 0 ∷ 0 ∷ 0 ∷ 0 ∷ 0 ∷ 4 ∷ 112 ∷ 105 ∷ 110 ∷ 103 ∷ []
unfolding number_bytes
locate_ping = refl

-- its answer
object_here : spelled Big (located (record { id = 5; status = 1 })) ≡ 71 ∷ 73 ∷ 79 ∷ 80 ∷ 1 ∷ 2 ∷ 0 ∷ 4 ∷ 0 ∷ 0 ∷ 0 ∷ 8 ∷ 0 ∷ 0 ∷ 0 ∷ 5 ∷ 0 ∷ 0 ∷ 0 ∷ 1 ∷ []
unfolding number_bytes
object_here = refl

-- a CancelRequest
cancel_request : spelled Big (cancel 9) ≡ 71 ∷ 73 ∷ 79 ∷ 80 ∷ 1 ∷ 2 ∷ 0 ∷ 2 ∷ 0 ∷ 0 ∷ 0 ∷ 4 ∷ 0 ∷ 0 ∷ 0 ∷ 9 ∷ []
unfolding number_bytes
cancel_request = refl

-- a CloseConnection
close_connection : spelled Big (close) ≡ 71 ∷ 73 ∷ 79 ∷ 80 ∷ 1 ∷ 2 ∷ 0 ∷ 5 ∷ 0 ∷ 0 ∷ 0 ∷ 0 ∷ []
unfolding number_bytes
close_connection = refl
