-- The bytes of the requests that a call takes: CORBA 3.0.3, section 15.4.2.
use Rattle.std.specs.Prelude.{◌≡◌, ◌≤◌, ℕ, List, Option, Some, option_map}
use Rattle.orb_base.specs.Span.{Span}
use Rattle.orb_base.specs.declared.limits.TheConstants.{MAX_MESSAGE}
use Rattle.orb_base.specs.declared.order.Order.TheVariants.{Big}
use Rattle.cdr_core.specs.Field.{Field}
use Rattle.cdr_core.specs.Writing.{Page, written}
use Rattle.giop_messages.specs.Message.{Request, request}
use Rattle.giop_messages.specs.Spelling.{spelled}
use Rattle.client_stub.specs.Asking.{Asked, call_body}
use Rattle.client_stub.specs.Requests.{call_of, bind_of, IsRequestLen}

-- a request is the call of an id
pub record IsCall (id : ℕ) (asked : Asked) (r : Request) : Type 0 where
  pub body : List ℕ
  pub has_body : call_body asked ≡ Some body
  pub is : request r ≡ call_of id asked body

-- the bytes of the call of an id; None where the arguments have no body
abbrev pub call_bytes : ℕ → Asked → Option (List ℕ)
call_bytes id asked = option_map (λ body. spelled Big (call_of id asked body)) (call_body asked)

-- the bytes of the request of an id that binds a band
abbrev pub bind_bytes : ℕ → Asked → Span → List ℕ
bind_bytes id asked band = spelled Big (bind_of id asked.remote.key band)

-- none of the requests is longer than a message may be
pub record IsSendable (asked : Asked) : Type 0 where
  pub len : ℕ
  pub is_len : IsRequestLen asked len
  pub short : len ≤ MAX_MESSAGE

-- the fields were spelled
pub record Spelled (old new : Page) (asked : Option (List Field)) : Type 0 where
  pub fields : List Field
  pub are : asked ≡ Some fields
  pub page : new ≡ written old fields
