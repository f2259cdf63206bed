-- The kinds of messages and their numbers: CORBA 3.0.3, section 15.4.1.
use Rattle.std.specs.Prelude.{ℕ, ◌==◌, ◌||◌, Bool, List, [], ◌∷◌, Option, find}
use Rattle.giop_frames.specs.declared.kind.Kind.{Kind}
use Rattle.giop_frames.specs.declared.kind.Kind.TheVariants.{Request, Reply, CancelRequest, LocateRequest, LocateReply, CloseConnection, MessageError, Fragment}

-- the number of a kind
abbrev pub number : Kind → ℕ
number Request = 0
number Reply = 1
number CancelRequest = 2
number LocateRequest = 3
number LocateReply = 4
number CloseConnection = 5
number MessageError = 6
number Fragment = 7

-- all kinds
abbrev pub kinds : List Kind
kinds =
    Request ∷ Reply ∷ CancelRequest ∷ LocateRequest ∷ LocateReply ∷ CloseConnection ∷ MessageError ∷ Fragment ∷ []

-- a number is that of this kind
abbrev pub is_kind : Kind → ℕ → Bool
is_kind kind n = n == number kind

-- the kind of a number, if there is one
unfoldable pub kind_by : ℕ → Option Kind
kind_by n = find (λ kind. is_kind kind n) kinds

-- CancelRequest, CloseConnection and MessageError come in one piece
unfoldable pub comes_whole : ℕ → Bool
comes_whole n = is_kind CancelRequest n || (is_kind CloseConnection n || is_kind MessageError n)

-- Request, Reply, LocateRequest and LocateReply may come in fragments
unfoldable pub is_long_kind : ℕ → Bool
is_long_kind n = is_kind Request n || (is_kind Reply n || (is_kind LocateRequest n || is_kind LocateReply n))
