-- Whether the requests of a call are short, by how long they are.
use Rattle.std.proofs.Common.{◌≡◌, ℕ, ◌≤◌, List, length, Some, sym, ap, ◌∙◌, subst}
use Rattle.orb_base.specs.declared.limits.TheConstants.{MAX_MESSAGE}
use Rattle.orb_base.specs.declared.order.Order.TheVariants.{Big}
use Rattle.giop_messages.specs.Lengths.{held}
use Rattle.giop_messages.specs.Spelling.{spelled}
use Rattle.client_stub.specs.Asking.{Asked}
use Rattle.client_stub.specs.Requests.{IsRequestLen, longer, may_bind, call_of, bind_of}
use Rattle.client_stub.specs.Sending.{IsSendable}

pub is_short : (asked : Asked) (n : ℕ) → IsRequestLen asked n → n ≤ MAX_MESSAGE → IsSendable asked
is_short asked n len few = record { len = n; is_len = len; short = few }

some_is : (a b : List ℕ) → Some a ≡ Some b → a ≡ b
some_is a b e = cc

whole : Asked → List ℕ → ℕ
whole asked body =
    held (longer (may_bind asked) (length (spelled Big (call_of 0 asked body))) (length (spelled Big (bind_of 0 asked.remote.key (record { low = 0; high = 0 })))))

one_len : (asked : Asked) (m n : ℕ) → IsRequestLen asked m → IsRequestLen asked n → m ≡ n
unfolding whole
one_len asked m n a b =
    let same : a.body ≡ b.body = some_is a.body b.body (sym a.has_body ∙ b.has_body) in
    let one : m ≡ whole asked a.body = a.len 0 0 (record { low = 0; high = 0 }) in
    let two : n ≡ whole asked b.body = b.len 0 0 (record { low = 0; high = 0 }) in
    one ∙ ap (whole asked) same ∙ sym two

pub is_long : (asked : Asked) (n : ℕ) → IsRequestLen asked n → IsSendable asked → n ≤ MAX_MESSAGE
is_long asked n len s = let same = one_len asked n s.len len s.is_len in subst (λ (k : ℕ). k ≤ MAX_MESSAGE) (sym same) s.short
