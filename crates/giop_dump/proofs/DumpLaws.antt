-- Lemmas on the lines of messages, and on where they end.
use Rattle.std.proofs.Common.{◌≡◌, ℕ, ◌+◌, ◌<◌, ◌≤◌, true, false, List, [], ◌∷◌, ◌++◌, length, take, drop, get_or, Option, Some, None, refl, sym, ap, ◌∙◌, cond, append_assoc, append-nil}
use Rattle.std.specs.Prelude.{is_some, Result, Ok, Err}
use Rattle.std.proofs.lemmas.List.{take_more, drop_more, take_all, take-append-drop}
use Rattle.std.specs.Option.{option_or}
use Rattle.giop_frames.specs.Messages.{Message}
use Rattle.giop_messages.specs.declared.message_fault.MessageFault.{MessageFault}
use Rattle.giop_messages.specs.Message as Reading
use Rattle.giop_messages.specs.MessageReading.{message_at}
use Rattle.giop_dump.specs.declared.refusal.Refusal.{Refusal}
use Rattle.giop_dump.specs.Ending.{line_by, refusal_by, first_refusal, lines_before}

option_or-assoc : {A : Type 0} (x y z : Option A) → option_or (option_or x y) z ≡ option_or x (option_or y z)
option_or-assoc (Some x) y z = refl
option_or-assoc None y z = refl

pub first_refusal-append : (a b : List Message) → first_refusal (a ++ b) ≡ option_or (first_refusal a) (first_refusal b)
unfolding first_refusal
first_refusal-append [] b = refl
first_refusal-append (m ∷ ms) b =
    ap (option_or (refusal_by m (message_at m))) (first_refusal-append ms b) ∙ sym (option_or-assoc (refusal_by m (message_at m)) (first_refusal ms) (first_refusal b))

-- lines go on after messages that have a reading, by whether the next one has
goes_on : (r : Option Refusal) (line : List ℕ) (rs : Option Refusal) (more lines all : List ℕ) → option_or r rs ≡ None → (rs ≡ None → all ≡ lines ++ more) → cond (is_some r) [] (line ++ all) ≡ cond (is_some r) [] (line ++ lines) ++ more
goes_on None line rs more lines all h e = ap (λ x. line ++ x) (e h) ∙ sym (append_assoc line lines more)
goes_on (Some x) line rs more lines all h e = absurd (cc)

pub lines_before-append : (a b : List Message) → first_refusal a ≡ None → lines_before (a ++ b) ≡ lines_before a ++ lines_before b
unfolding first_refusal lines_before
lines_before-append [] b h = refl
lines_before-append (m ∷ ms) b h =
    goes_on (refusal_by m (message_at m)) (line_by m (message_at m)) (first_refusal ms) (lines_before b) (lines_before ms) (lines_before (ms ++ b)) h (lines_before-append ms b)

-- one more message
lines_one : (a : List Message) (m : Message) → first_refusal a ≡ None → refusal_by m (message_at m) ≡ None → lines_before (a ++ m ∷ []) ≡ lines_before a ++ line_by m (message_at m)
unfolding first_refusal lines_before
lines_one a m none read =
    let e = lines_before-append a (m ∷ []) none in
    let last : lines_before (m ∷ []) ≡ line_by m (message_at m) = rw read (append-nil (line_by m (message_at m))) in
    e ∙ ap (λ x. lines_before a ++ x) last

-- a refusal ends the lines, here or later
stops_here : (here : Option Refusal) (line : List ℕ) (rs : Option Refusal) (all lines : List ℕ) (r : Refusal) → option_or here rs ≡ Some r → (rs ≡ Some r → all ≡ lines) → cond (is_some here) [] (line ++ all) ≡ cond (is_some here) [] (line ++ lines)
stops_here (Some x) line rs all lines r h e = refl
stops_here None line rs all lines r h e = ap (λ x. line ++ x) (e h)

pub lines_stop : (a b : List Message) (r : Refusal) → first_refusal a ≡ Some r → lines_before (a ++ b) ≡ lines_before a
unfolding first_refusal lines_before
lines_stop [] b r h = absurd (cc)
lines_stop (m ∷ ms) b r h =
    stops_here (refusal_by m (message_at m)) (line_by m (message_at m)) (first_refusal ms) (lines_before (ms ++ b)) (lines_before ms) r h (lines_stop ms b r)

lines_end : (a : List Message) (m : Message) (later : List Message) (r : Refusal) → first_refusal a ≡ None → refusal_by m (message_at m) ≡ Some r → lines_before (a ++ m ∷ later) ≡ lines_before a
unfolding first_refusal lines_before
lines_end a m later r none refused =
    let e = lines_before-append a (m ∷ later) none in
    let last : lines_before (m ∷ later) ≡ [] = rw refused refl in
    e ∙ ap (λ x. lines_before a ++ x) last ∙ append-nil (lines_before a)

-- the text so far is that of the first messages, each of which has a reading
pub record LinesSoFar (i : ℕ) (messages : List Message) (text : List ℕ) : Type 0 where
  pub text_is : text ≡ lines_before (take i messages)
  pub readable : first_refusal (take i messages) ≡ None

pub so_far_start : (messages : List Message) (text : List ℕ) → text ≡ [] → LinesSoFar 0 messages text
unfolding first_refusal lines_before
so_far_start messages text h = record { text_is = h; readable = refl }

-- what is at an index
split_at : (i : ℕ) (messages : List Message) (m : Message) → i < length messages → m ≡ get_or messages i m → messages ≡ take i messages ++ m ∷ drop (i + 1) messages
split_at i messages m within here =
    sym (take-append-drop i messages) ∙ ap (λ x. take i messages ++ x) (drop_more messages i m within ∙ ap (λ x. x ∷ drop (i + 1) messages) (sym here))

-- after one more message that has a reading
pub so_far_more : (i : ℕ) (messages : List Message) (text text' : List ℕ) (m : Message) → LinesSoFar i messages text → i < length messages → m ≡ get_or messages i m → refusal_by m (message_at m) ≡ None → text' ≡ text ++ line_by m (message_at m) → LinesSoFar (i + 1) messages text'
unfolding first_refusal
so_far_more i messages text text' m h within here read more =
    let e : take (i + 1) messages ≡ take i messages ++ m ∷ [] = take_more messages i m within ∙ ap (λ x. take i messages ++ x ∷ []) (sym here) in
    record {
      text_is = more ∙ ap (λ x. x ++ line_by m (message_at m)) h.text_is ∙ sym (ap lines_before e ∙ lines_one (take i messages) m h.readable read);
      readable = ap first_refusal e ∙ first_refusal-append (take i messages) (m ∷ []) ∙ rw (h.readable, read) refl;
    }

-- what the lines and the refusal of all are
pub record AreLines (messages : List Message) (text : List ℕ) (refusal : Option Refusal) : Type 0 where
  pub text_is : text ≡ lines_before messages
  pub refusal_is : refusal ≡ first_refusal messages

-- a message that is refused has no line
no_line : (m : Message) (reading : Result Reading.Message MessageFault) (r : Refusal) → refusal_by m reading ≡ Some r → line_by m reading ≡ []
no_line m (Ok x) r h = absurd (cc)
no_line m (Err e) r h = refl

refused_ends : (i : ℕ) (messages : List Message) (text text' : List ℕ) (m : Message) (r : Refusal) → LinesSoFar i messages text → messages ≡ take i messages ++ m ∷ drop (i + 1) messages → refusal_by m (message_at m) ≡ Some r → text' ≡ text ++ line_by m (message_at m) → AreLines messages text' (Some r)
unfolding first_refusal
refused_ends i messages text text' m r h parts refused more =
    let later = drop (i + 1) messages in
    record {
      text_is = more ∙ ap (λ x. text ++ x) (no_line m (message_at m) r refused) ∙ append-nil text ∙ h.text_is
          ∙ sym (ap lines_before parts ∙ lines_end (take i messages) m later r h.readable refused);
      refusal_is = sym (ap first_refusal parts ∙ first_refusal-append (take i messages) (m ∷ later) ∙ rw (h.readable, refused) refl);
    }

-- a message without a reading ends them
pub so_far_refused : (i : ℕ) (messages : List Message) (text text' : List ℕ) (m : Message) (refusal : Option Refusal) → LinesSoFar i messages text → i < length messages → m ≡ get_or messages i m → refusal ≡ refusal_by m (message_at m) → true ≡ is_some refusal → text' ≡ text ++ line_by m (message_at m) → AreLines messages text' refusal
so_far_refused i messages text text' m None h within here is some more = absurd (cc)
so_far_refused i messages text text' m (Some r) h within here is some more =
    refused_ends i messages text text' m r h (split_at i messages m within here) (sym is) more

-- all messages have one
pub so_far_all : (i : ℕ) (messages : List Message) (text : List ℕ) → LinesSoFar i messages text → length messages ≤ i → AreLines messages text None
so_far_all i messages text h all =
    let e : take i messages ≡ messages = take_all i messages all in
    record { text_is = h.text_is ∙ ap lines_before e; refusal_is = sym h.readable ∙ ap first_refusal e }

-- an option that is no Some is None
pub none_of : (refusal found : Option Refusal) → false ≡ is_some refusal → refusal ≡ found → found ≡ None
none_of None found h e = sym e
none_of (Some r) found h e = absurd (cc)
