-- What a feed does to a stream, by what a read does to its machine.
use Rattle.std.proofs.Common.{◌≡◌, ℕ, ◌^◌, ◌<◌, ◌≤◌, List, [], ◌++◌, length, None, refl, ap, sym, ◌∙◌, arith, append_assoc, length-append}
use Rattle.std.specs.Prelude.{sum_by}
use Rattle.std.proofs.lemmas.List.{append-nil}
use Rattle.giop_frames.specs.declared.fault.FrameFault.{FrameFault}
use Rattle.giop_frames.specs.Pieces.{Piece, Cut, cut}
use Rattle.giop_frames.specs.Messages.{Message, Partial, unfinished}
use Rattle.giop_frames.specs.Stream.{Said, stream, with_front, stopped, rest_of, rest_with, at_end}
use Rattle.giop_frames.specs.Running.{State, says, ahead, stepped_by, with_pieces, cut_from}
use Rattle.giop_frames.specs.Bounds.{kept_bytes, unfinished_bytes}
use Rattle.giop_frames.specs.Joining.{IsResting, Same, Stops}
use Rattle.giop_frames.specs.Feeding.{Follows, Ended}
use Rattle.giop_frames.proofs.Ahead.{ahead_part, part_short, cut_part}
use Rattle.giop_frames.proofs.Growing.{stream_is, unfinished_by}

-- a machine at rest says of no further bytes: what is unfinished
pub resting_says : (s : State) → IsResting s → says s [] ≡ record { messages = []; rest = rest_with s.partials (record { at = s.at; bytes = s.tail }); bad = None }
resting_says s r =
    ap (ahead s.limit s.partials s.at) (append-nil s.tail) ∙ ahead_part s.limit s.partials s.at s.tail r.part
    ∙ ap (at_end s.partials (record { at = s.at; bytes = s.tail })) r.sound

now_said : (limit : ℕ) (fed : List ℕ) (s : State) → Follows limit fed s → stream limit fed ≡ with_front (stream limit fed).messages (says s [])
now_said limit fed s f = ap (stream limit) (sym (append-nil fed)) ∙ f.on []

pub rest_is : (limit : ℕ) (fed : List ℕ) (s : State) → Follows limit fed s → (stream limit fed).rest ≡ rest_with s.partials (record { at = s.at; bytes = s.tail })
rest_is limit fed s f = ap (λ (x : Said). x.rest) (now_said limit fed s f ∙ ap (with_front (stream limit fed).messages) (resting_says s f.resting))

pub no_bad : (limit : ℕ) (fed : List ℕ) (s : State) → Follows limit fed s → (stream limit fed).bad ≡ None
no_bad limit fed s f = ap (λ (x : Said). x.bad) (now_said limit fed s f ∙ ap (with_front (stream limit fed).messages) (resting_says s f.resting))

-- the beginning
pub follows_start : (limit : ℕ) → 16 ≤ limit → limit < 2 ^ 31 → Follows limit [] (record { limit = limit; at = 0; tail = []; partials = []; kept = 0 })
unfolding unfinished
follows_start limit le lt =
    let s : State = record { limit = limit; at = 0; tail = []; partials = []; kept = 0 } in
    let r : IsResting s = record { few = omega arith; part = part_short [] (omega arith); sound = refl; distinct = tt; bounded = record { few = omega arith; within = tt; long = tt; least = le }; small = lt } in
    record {
      on = λ more. stream_is limit more
          ∙ ap (λ (x : List Message). with_front x (says s more)) (sym (ap (λ (x : Said). x.messages) (stream_is limit [] ∙ resting_says s r)));
      resting = r;
      limit_is = refl;
      place = refl;
      came = [];
      cuts = λ more. refl;
      steps = refl;
    }

-- what a read says of the bytes, the stream says after the messages so far
pub fed_more : (limit : ℕ) (fed bytes more : List ℕ) (s : State) → Follows limit fed s
    → stream limit ((fed ++ bytes) ++ more) ≡ with_front (stream limit fed).messages (says s (bytes ++ more))
fed_more limit fed bytes more s f = ap (stream limit) (append_assoc fed bytes more) ∙ f.on (bytes ++ more)

fed_now : (limit : ℕ) (fed bytes : List ℕ) (s : State) → Follows limit fed s
    → stream limit (fed ++ bytes) ≡ with_front (stream limit fed).messages (says s (bytes ++ []))
fed_now limit fed bytes s f = ap (stream limit) (sym (append-nil (fed ++ bytes))) ∙ fed_more limit fed bytes [] s f

-- Ok
pub new_said : (limit : ℕ) (fed bytes : List ℕ) (whole whole' : List Message) (s s' : State) (f : Follows limit fed s) (m : Same whole s bytes whole' s')
    → (stream limit (fed ++ bytes)).messages ≡ (stream limit fed).messages ++ m.told
new_said limit fed bytes whole whole' s s' f m =
    ap (λ (x : Said). x.messages) (fed_now limit fed bytes s f)
    ∙ ap (λ (x : Said). (stream limit fed).messages ++ x.messages) (m.on [] ∙ ap (with_front m.told) (resting_says s' m.resting))
    ∙ ap (λ (x : List Message). (stream limit fed).messages ++ x) (append-nil m.told)

pub same_follows : (limit : ℕ) (fed bytes : List ℕ) (whole whole' : List Message) (s s' : State) → Follows limit fed s → Same whole s bytes whole' s' → Follows limit (fed ++ bytes) s'
same_follows limit fed bytes whole whole' s s' f m =
    record {
      on = λ more.
          fed_more limit fed bytes more s f ∙ ap (with_front (stream limit fed).messages) (m.on more)
          ∙ ap (λ (x : List Message). let r : Said = record { messages = x; rest = (says s' more).rest; bad = (says s' more).bad } in r)
          (sym (append_assoc (stream limit fed).messages m.told (says s' more).messages)
          ∙ ap (λ (x : List Message). x ++ (says s' more).messages) (sym (new_said limit fed bytes whole whole' s s' f m)));
      resting = m.resting;
      limit_is = m.limit_is ∙ f.limit_is;
      place = omega (arith, m.place, f.place, length-append fed bytes);
      came = f.came ++ m.took;
      cuts = λ more.
          ap (λ (x : List ℕ). cut (length x) 0 x) (append_assoc fed bytes more) ∙ f.cuts (bytes ++ more) ∙ ap (with_pieces f.came) (m.cuts more)
          ∙ ap (λ (x : List Piece). let c : Cut = record { whole = x; tail = (cut_from s' more).tail } in c) (sym (append_assoc f.came m.took (cut_from s' more).whole));
      steps = m.steps ∙ ap (stepped_by m.took) f.steps ∙ sym (unfinished_by f.came m.took);
    }

-- what is kept is what has come of the unfinished messages and of the unfinished piece
pub kept_came : (limit : ℕ) (fed : List ℕ) (s : State) → Follows limit fed s → unfinished_bytes fed ≡ kept_bytes s
kept_came limit fed s f =
    let tail : Piece = record { at = s.at; bytes = s.tail } in
    let last : cut_from s [] ≡ record { whole = []; tail = tail } =
    ap (λ (x : List ℕ). cut (length x) s.at x) (append-nil s.tail) ∙ cut_part (length s.tail) s.at s.tail f.resting.part in
    let all : cut (length fed) 0 fed ≡ record { whole = f.came ++ []; tail = tail } =
    ap (λ (x : List ℕ). cut (length x) 0 x) (sym (append-nil fed)) ∙ f.cuts [] ∙ ap (with_pieces f.came) last in
    let us : unfinished (cut (length fed) 0 fed).whole ≡ s.partials =
    ap (λ (c : Cut). unfinished c.whole) all ∙ ap unfinished (append-nil f.came) ∙ sym f.steps in
    omega (arith, ap (λ (x : List Partial). sum_by (λ u. length u.bytes) x) us, ap (λ (c : Cut). length c.tail.bytes) all)

-- a fault
stop_said : (limit : ℕ) (fed bytes more : List ℕ) (whole whole' : List Message) (s : State) (us : List Partial) (e : FrameFault) → Follows limit fed s → (m : Stops whole s bytes whole' us e)
    → stream limit ((fed ++ bytes) ++ more) ≡ with_front (stream limit fed).messages (with_front m.told (stopped us e.offset e.cause))
stop_said limit fed bytes more whole whole' s us e f m = fed_more limit fed bytes more s f ∙ ap (with_front (stream limit fed).messages) (m.on more)

pub stop_now : (limit : ℕ) (fed bytes : List ℕ) (whole whole' : List Message) (s : State) (us : List Partial) (e : FrameFault) → Follows limit fed s → (m : Stops whole s bytes whole' us e)
    → stream limit (fed ++ bytes) ≡ with_front (stream limit fed).messages (with_front m.told (stopped us e.offset e.cause))
stop_now limit fed bytes whole whole' s us e f m = ap (stream limit) (sym (append-nil (fed ++ bytes))) ∙ stop_said limit fed bytes [] whole whole' s us e f m

pub stops_ended : (limit : ℕ) (fed bytes : List ℕ) (whole whole' : List Message) (s s' : State) (e : FrameFault) → Follows limit fed s → Stops whole s bytes whole' s'.partials e → Ended limit (fed ++ bytes) (rest_of s'.partials) e
stops_ended limit fed bytes whole whole' s s' e f m = record {
  on = λ more. stop_said limit fed bytes more whole whole' s s'.partials e f m ∙ sym (stop_now limit fed bytes whole whole' s s'.partials e f m);
  bad = ap (λ (x : Said). x.bad) (stop_now limit fed bytes whole whole' s s'.partials e f m);
  rest = ap (λ (x : Said). x.rest) (stop_now limit fed bytes whole whole' s s'.partials e f m);
}
