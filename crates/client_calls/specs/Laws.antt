-- A law of exchanges.
use Rattle.std.specs.Prelude.{◌≡◌, ℕ, Bool, List}
use Rattle.client_stub.specs.Asking.{Asked}
use Rattle.client_calls.specs.Exchanges.{Exchange}
use Rattle.client_calls.specs.Replies.{Outcome}

-- the bytes that a connection gave, and whether its end was met, say what is sent and what the call comes to
abbrev pub OneResult : Type 0
OneResult = (asked : Asked) (got : List ℕ) (ended : Bool) (sent sent' : List ℕ) (outcome outcome' : Outcome)
    → Exchange asked sent got ended outcome → Exchange asked sent' got ended outcome' → (sent ≡ sent') × (outcome ≡ outcome')
