-- Requests that are short enough.
use Rattle.std.specs.Prelude.{◌↔◌, IfSome, IsSome}
use Rattle.std.proofs.Common.{Option, Some, None, ◌≡◌, ◌≤◌, ◌<◌, ◌-◌, ◌^◌, ℕ, length, subst, refl, sym, ap, ◌∙◌, inl, inr, arith}
use Rattle.std.proofs.Math.Nat.{min-eq_left, min-eq_right}
use Rattle.std.proofs.lemmas.Bool.{cases_lt}
use Rattle.orb_base.specs.declared.limits.TheConstants.{MAX_MESSAGE}
use Rattle.orb_base.specs.declared.order.Order.{Order}
use Rattle.orb_base.specs.declared.order.Order.TheVariants.{Big}
use Rattle.giop_messages.specs.Lengths.{held}
use Rattle.giop_messages.specs.Message as Spec
use Rattle.giop_messages.specs.Message.{Message, Request, request}
use Rattle.giop_messages.specs.Spelling.{spelled}
use Rattle.client_mux.specs.Callers.{IsShort}
use Rattle.link_callers.specs.Requests.{request_in, IsShortRequest}

-- a length that is held within the limit of a message is within it
is_short : (n len : ℕ) → len ≡ held n → len ≤ MAX_MESSAGE → n ≤ MAX_MESSAGE
is_short n len is few = elim (cases_lt n (2 ^ 64 - 1)) [
  | inl a ↦ (let l : n ≤ 2 ^ 64 - 1 = omega arith in let h : held n ≡ n = min-eq_left l in omega arith)
  | inr b ↦ (let l : 2 ^ 64 - 1 ≤ n = omega arith in let h : held n ≡ 2 ^ 64 - 1 = min-eq_right l in absurd (omega arith))
]

-- and the other way round
is_held : (n len : ℕ) → len ≡ held n → n ≤ MAX_MESSAGE → len ≤ MAX_MESSAGE
is_held n len is few = let l : n ≤ 2 ^ 64 - 1 = omega arith in let h : held n ≡ n = min-eq_left l in omega arith

abbrev Measures : Message → ℕ → Type 0
Measures m len = (order : Order) → len ≡ held (length (spelled order m))

-- the request of a message is what it is a message of
pub short_same : (m : Message) (o : Option Request) → o ≡ request_in m → IfSome o (λ r. m ≡ request r)
short_same (request r) (Some q) e = cc
short_same m None e = tt
short_same (Spec.reply r) (Some q) e = absurd cc
short_same (Spec.cancel n) (Some q) e = absurd cc
short_same (Spec.locate l) (Some q) e = absurd cc
short_same (Spec.located l) (Some q) e = absurd cc
short_same Spec.close (Some q) e = absurd cc
short_same Spec.error (Some q) e = absurd cc

short_of : (m : Message) (r : Request) (len : ℕ) → m ≡ request r → Measures m len → len ≤ MAX_MESSAGE → IsShort r
short_of m r len e f few = subst (λ (z : Message). length (spelled Big z) ≤ MAX_MESSAGE) e (is_short (length (spelled Big m)) len (f Big) few)

pub short_some : (m : Message) (o : Option Request) (len : ℕ) → o ≡ request_in m → Measures m len → len ≤ MAX_MESSAGE → IfSome o (λ r. IsShort r)
short_some m (Some r) len e f few = short_of m r len (short_same m (Some r) e) f few
short_some m None len e f few = tt

some_of : (m : Message) (o : Option Request) (len : ℕ) → o ≡ request_in m → Measures m len → len ≤ MAX_MESSAGE → IsSome o → IsShortRequest m
some_of m (Some r) len e f few is = let same = short_same m (Some r) e in (r, same, short_of m r len same f few)
some_of m None len e f few is = absurd cc

is_some_of : (m : Message) (o : Option Request) (r : Request) → o ≡ request_in m → m ≡ request r → IsSome o
is_some_of m (Some q) r e s = refl
is_some_of m None r e s = let n : None ≡ Some r = e ∙ ap request_in s in absurd cc

-- one within the limit is given exactly where the message is a request
pub short_is : (m : Message) (o : Option Request) (len : ℕ) → o ≡ request_in m → Measures m len → len ≤ MAX_MESSAGE → IsSome o ↔ IsShortRequest m
short_is m o len e f few = (some_of m o len e f few, λ h. is_some_of m o h.0 e h.1)

abbrev no_request : Option Request
no_request = None

-- and none above it
pub long_is : (m : Message) (len : ℕ) → Measures m len → MAX_MESSAGE < len → IsSome no_request ↔ IsShortRequest m
long_is m len f long = (
  λ h. absurd cc,
  λ h.
      let n : length (spelled Big m) ≤ MAX_MESSAGE = subst (λ (z : Message). length (spelled Big z) ≤ MAX_MESSAGE) (sym h.1) h.2 in
      let l = is_held (length (spelled Big m)) len (f Big) n in
      absurd (omega (arith, l, long)),
)
