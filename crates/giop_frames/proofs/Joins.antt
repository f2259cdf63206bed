-- What the steps of a read do to what the machine says of further bytes.
use Rattle.std.proofs.Common.{◌≡◌, ℕ, ◌+◌, ◌≤◌, ◌<◌, Bool, true, false, cond, List, [], ◌∷◌, ◌++◌, length, take, drop, Option, Some, None, Result, Ok, Err, refl, ap, sym, ◌∙◌, subst, arith, nat_le, append_assoc, length-append}
use Rattle.std.specs.Prelude.{option_to_list}
use Rattle.std.proofs.lemmas.List.{append-nil, take-append-drop}
use Rattle.std.proofs.lemmas.List.Sums.{sum_by-append}
use Rattle.giop_frames.specs.declared.fault.FrameCause.{FrameCause}
use Rattle.giop_frames.specs.declared.fault.FrameFault.{FrameFault}
use Rattle.giop_frames.specs.declared.fault.FeedFault.{FeedFault}
use Rattle.giop_frames.specs.declared.fault.FeedFault.TheVariants.{Frame, NoMemory}
use Rattle.giop_frames.specs.Pieces.{Piece, Cut, is_whole, cut}
use Rattle.giop_frames.specs.Messages.{Partial, Message, completed}
use Rattle.giop_frames.specs.Stream.{Said, header_cause, tail_cause, piece_cause, or_else, or_stopped, stopped, with_front}
use Rattle.giop_frames.specs.Running.{State, says, stepped, stepped_by, ahead, with_pieces, cut_from}
use Rattle.giop_frames.specs.Steps.{IsDistinct, Does}
use Rattle.giop_frames.specs.Bounds.{IsBounded, held}
use Rattle.giop_frames.specs.Joining.{IsResting, IsFilled, IsReady, Same, Stops, Lacks, Fails, Reads, with_tail}
use Rattle.giop_frames.proofs.Ahead.{cut_piece, ahead_piece, ahead_bad, part_short}
use Rattle.giop_frames.proofs.Heads.{header_within}
use Rattle.giop_frames.proofs.Bounds.{step_bounded}
use Rattle.giop_frames.proofs.Flows.{step_flows}
use Rattle.giop_frames.proofs.Growing.{stepped-append}
use Rattle.giop_frames.proofs.Soundness.{sound, opens_new, step_distinct}

-- nothing was read, and nothing given
pub same_none : (whole : List Message) (s : State) → IsResting s → Same whole s [] whole s
same_none whole s r = record {
  told = [];
  gives = sym (append-nil whole);
  on = λ more. refl;
  resting = r;
  limit_is = refl;
  place = omega arith;
  took = [];
  cuts = λ more. refl;
  steps = refl;
  flows = omega arith;
}

pub lacks_any : (whole : List Message) (s : State) (bytes : List ℕ) (whole' : List Message) → whole' ≡ whole → Lacks whole s bytes whole'
lacks_any whole s bytes whole' is = record {
  told = [];
  left = λ more. (says s (bytes ++ more)).messages;
  gives = is ∙ sym (append-nil whole);
  front = λ more. refl;
}

-- a header that breaks no rule, once its 12 bytes are there
sound_by : (limit : ℕ) (tail : List ℕ) (b : Bool) → nat_le 12 (length tail) ≡ b → header_cause limit tail ≡ None → cond b (header_cause limit tail) None ≡ None
sound_by limit tail true e h = h
sound_by limit tail false e h = refl

pub tail_sound : (limit : ℕ) (tail : List ℕ) → header_cause limit tail ≡ None → tail_cause limit tail ≡ None
tail_sound limit tail h = sound_by limit tail (nat_le 12 (length tail)) refl h

pub tail_short : (limit : ℕ) (tail : List ℕ) → length tail < 12 → tail_cause limit tail ≡ None
tail_short limit tail lt = let n : nat_le 12 (length tail) ≡ false = grind arith in ap (λ (b : Bool). cond b (header_cause limit tail) None) n

-- the same, and so many bytes are kept
abbrev pub kept_as : State → ℕ → State
kept_as s k = record { limit = s.limit; at = s.at; tail = s.tail; partials = s.partials; kept = k }

-- less than a piece, whose header breaks no rule if it is there
pub rests_kept : (whole : List Message) (s : State) (k : ℕ) → IsFilled s → is_whole s.tail ≡ false → tail_cause s.limit s.tail ≡ None → k ≤ s.kept → k ≤ length s.tail + held s.partials
    → Same whole s [] whole (kept_as s k)
rests_kept whole s k f w c few all = record {
  told = [];
  gives = sym (append-nil whole);
  on = λ more. refl;
  resting = record { few = all; part = w; sound = c; distinct = f.distinct; bounded = f.bounded; small = f.small };
  limit_is = refl;
  place = omega arith;
  took = [];
  cuts = λ more. refl;
  steps = refl;
  flows = omega (arith, few);
}

pub stops_header : (whole : List Message) (s : State) (cause : FrameCause) → 12 ≤ length s.tail → header_cause s.limit s.tail ≡ Some cause
    → Stops whole s [] whole s.partials (record { cause = cause; offset = s.at })
stops_header whole s cause l h = record {
  told = [];
  gives = sym (append-nil whole);
  on = λ more. ahead_bad s.limit s.partials s.at s.tail more cause l h;
}

-- the verdict on a whole piece
says_piece : (s : State) (o : Option FrameCause) (more : List ℕ) → IsReady s → piece_cause s.limit s.partials s.tail ≡ o
    → says s more ≡ or_stopped s.partials (record { at = s.at; bytes = s.tail }) o
    (ahead s.limit (stepped (record { at = s.at; bytes = s.tail }) s.partials) (s.at + length s.tail) more)
says_piece s o more r h =
    let p : Piece = record { at = s.at; bytes = s.tail } in
    let later : Said = ahead s.limit (stepped p s.partials) (s.at + length s.tail) more in
    ahead_piece s.limit s.partials s.at s.tail more r.header r.full
    ∙ ap (λ (c : Option FrameCause). or_stopped s.partials p (or_else c (piece_cause s.limit s.partials s.tail)) later) r.sound
    ∙ ap (λ (c : Option FrameCause). or_stopped s.partials p c later) h

pub stops_piece : (whole : List Message) (s : State) (cause : FrameCause) → IsReady s → piece_cause s.limit s.partials s.tail ≡ Some cause
    → Stops whole s [] whole s.partials (record { cause = cause; offset = s.at })
stops_piece whole s cause r h = record {
  told = [];
  gives = sym (append-nil whole);
  on = λ more. says_piece s (Some cause) more r h;
}

-- the state after a whole piece
abbrev pub behind : State → List Partial → State
behind s us = record { limit = s.limit; at = s.at + length s.tail; tail = []; partials = us; kept = held us }

pub finish_same : (whole whole' : List Message) (s : State) (us' : List Partial) → IsReady s → piece_cause s.limit s.partials s.tail ≡ None
    → Does (record { at = s.at; bytes = s.tail }) s.partials us' whole whole' → length s.tail + held s.partials ≤ s.kept → Same whole s [] whole' (behind s us')
finish_same whole whole' s us' r h d few =
    let p : Piece = record { at = s.at; bytes = s.tail } in
    record {
      told = option_to_list (completed s.partials p);
      gives = d.gives;
      on = λ more. says_piece s None more r h
          ∙ ap (λ (us : List Partial). with_front (option_to_list (completed s.partials p)) (ahead s.limit us (s.at + length s.tail) more)) (sym d.steps);
      resting = record {
        few = omega arith;
        part = part_short [] (omega arith);
        sound = refl;
        distinct = let P : List Partial → Type 0 = λ us. IsDistinct us in
            subst P (sym d.steps) (step_distinct p s.partials r.distinct (λ o. (opens_new s.limit s.partials s.tail h o).0));
        bounded = let P : List Partial → Type 0 = λ us. IsBounded s.limit us in
            subst P (sym d.steps) (step_bounded s.limit p s.partials r.bounded r.distinct (omega (arith, r.full, header_within s.limit s.tail r.sound)) r.header h);
        small = r.small;
      };
      limit_is = refl;
      place = omega arith;
      took = p ∷ [];
      cuts = λ more. cut_piece (length (s.tail ++ more)) s.at s.tail more r.header r.full (omega arith);
      steps = d.steps;
      flows = omega (
        arith,
        step_flows p s.partials (sound s.limit s.partials s.tail h r.header r.small r.distinct) r.bounded.long,
        ap (λ (us : List Partial). held us) d.steps,
        few,
      );
    }

put_said : (s : State) (bytes more : List ℕ) → says s (bytes ++ more) ≡ says (with_tail s bytes) ([] ++ more)
put_said s bytes more = ap (ahead s.limit s.partials s.at) (sym (append_assoc s.tail bytes more))

pub put_same : (whole whole' : List Message) (s s' : State) (bytes : List ℕ) → Same whole (with_tail s bytes) [] whole' s' → Same whole s bytes whole' s'
put_same whole whole' s s' bytes m = record {
  told = m.told;
  gives = m.gives;
  on = λ more. put_said s bytes more ∙ m.on more;
  resting = m.resting;
  limit_is = m.limit_is;
  place = omega (arith, m.place, length-append s.tail bytes);
  took = m.took;
  cuts = λ more. ap (λ (x : List ℕ). cut (length x) s.at x) (sym (append_assoc s.tail bytes more)) ∙ m.cuts more;
  steps = m.steps;
  flows = omega (arith, m.flows);
}

pub put_stops : (whole whole' : List Message) (s : State) (bytes : List ℕ) (us : List Partial) (f : FrameFault) → Stops whole (with_tail s bytes) [] whole' us f → Stops whole s bytes whole' us f
put_stops whole whole' s bytes us f m = record { told = m.told; gives = m.gives; on = λ more. put_said s bytes more ∙ m.on more }

pub put_lacks : (whole whole' : List Message) (s : State) (bytes : List ℕ) → Lacks whole (with_tail s bytes) [] whole' → Lacks whole s bytes whole'
put_lacks whole whole' s bytes m = record {
  told = m.told;
  left = m.left;
  gives = m.gives;
  front = λ more. ap (λ (x : Said). x.messages) (put_said s bytes more) ∙ m.front more;
}

pub put_reads : (r : Result (Unit {0}) FeedFault) (whole whole' : List Message) (s s' : State) (bytes : List ℕ)
    → Reads r [] (with_tail s bytes) s' whole whole' → Reads r bytes s s' whole whole'
put_reads (Ok x) whole whole' s s' bytes m = put_same whole whole' s s' bytes m
put_reads (Err (Frame f)) whole whole' s s' bytes m = put_stops whole whole' s bytes s'.partials f m
put_reads (Err NoMemory) whole whole' s s' bytes m = put_lacks whole whole' s bytes m

-- a prefix of the bytes, and then the others
front_said : (s : State) (n : ℕ) (bytes more : List ℕ) → says s (bytes ++ more) ≡ says s (take n bytes ++ (drop n bytes ++ more))
front_said s n bytes more =
    ap (says s) (ap (λ (x : List ℕ). x ++ more) (sym (take-append-drop n bytes)) ∙ append_assoc (take n bytes) (drop n bytes) more)

pub took_stops : (n : ℕ) (whole whole' : List Message) (s : State) (bytes : List ℕ) (us : List Partial) (f : FrameFault) → Stops whole s (take n bytes) whole' us f → Stops whole s bytes whole' us f
took_stops n whole whole' s bytes us f m = record {
  told = m.told;
  gives = m.gives;
  on = λ more. front_said s n bytes more ∙ m.on (drop n bytes ++ more);
}

pub took_lacks : (n : ℕ) (whole whole' : List Message) (s : State) (bytes : List ℕ) → Lacks whole s (take n bytes) whole' → Lacks whole s bytes whole'
took_lacks n whole whole' s bytes m = record {
  told = m.told;
  left = λ more. m.left (drop n bytes ++ more);
  gives = m.gives;
  front = λ more. ap (λ (x : Said). x.messages) (front_said s n bytes more) ∙ m.front (drop n bytes ++ more);
}

pub took_fails : (fault : FeedFault) (n : ℕ) (whole whole' : List Message) (s s' : State) (bytes : List ℕ) → Fails fault (take n bytes) s s' whole whole' → Fails fault bytes s s' whole whole'
took_fails (Frame f) n whole whole' s s' bytes m = took_stops n whole whole' s bytes s'.partials f m
took_fails NoMemory n whole whole' s s' bytes m = took_lacks n whole whole' s bytes m

-- one read after another
pub same_same : (whole mid whole' : List Message) (s t s' : State) (a b : List ℕ) → Same whole s a mid t → Same mid t b whole' s' → Same whole s (a ++ b) whole' s'
same_same whole mid whole' s t s' a b m n = record {
  told = m.told ++ n.told;
  gives = n.gives ∙ ap (λ (x : List Message). x ++ n.told) m.gives ∙ append_assoc whole m.told n.told;
  on = λ more.
      ap (says s) (append_assoc a b more) ∙ m.on (b ++ more) ∙ ap (with_front m.told) (n.on more)
      ∙ ap (λ (x : List Message). let r : Said = record { messages = x; rest = (says s' more).rest; bad = (says s' more).bad } in r) (sym (append_assoc m.told n.told (says s' more).messages));
  resting = n.resting;
  limit_is = n.limit_is ∙ m.limit_is;
  place = omega (arith, m.place, n.place, length-append a b);
  took = m.took ++ n.took;
  cuts = λ more.
      ap (cut_from s) (append_assoc a b more) ∙ m.cuts (b ++ more) ∙ ap (with_pieces m.took) (n.cuts more)
      ∙ ap (λ (x : List Piece). let c : Cut = record { whole = x; tail = (cut_from s' more).tail } in c) (sym (append_assoc m.took n.took (cut_from s' more).whole));
  steps = n.steps ∙ ap (stepped_by n.took) m.steps ∙ sym (stepped-append m.took n.took s.partials);
  flows = omega (arith, m.flows, n.flows, sum_by-append (λ x. length x.bytes) m.told n.told, length-append a b);
}

pub same_stops : (whole mid whole' : List Message) (s t : State) (a b : List ℕ) (us : List Partial) (f : FrameFault) → Same whole s a mid t → Stops mid t b whole' us f → Stops whole s (a ++ b) whole' us f
same_stops whole mid whole' s t a b us f m n = record {
  told = m.told ++ n.told;
  gives = n.gives ∙ ap (λ (x : List Message). x ++ n.told) m.gives ∙ append_assoc whole m.told n.told;
  on = λ more.
      ap (says s) (append_assoc a b more) ∙ m.on (b ++ more) ∙ ap (with_front m.told) (n.on more)
      ∙ ap (λ (x : List Message). let r : Said = record { messages = x; rest = (stopped us f.offset f.cause).rest; bad = (stopped us f.offset f.cause).bad } in r) (sym (append_assoc m.told n.told []));
}

pub same_lacks : (whole mid whole' : List Message) (s t : State) (a b : List ℕ) → Same whole s a mid t → Lacks mid t b whole' → Lacks whole s (a ++ b) whole'
same_lacks whole mid whole' s t a b m n = record {
  told = m.told ++ n.told;
  left = n.left;
  gives = n.gives ∙ ap (λ (x : List Message). x ++ n.told) m.gives ∙ append_assoc whole m.told n.told;
  front = λ more.
      ap (λ (x : Said). x.messages) (ap (says s) (append_assoc a b more) ∙ m.on (b ++ more))
      ∙ ap (λ (x : List Message). m.told ++ x) (n.front more) ∙ sym (append_assoc m.told n.told (n.left more));
}

pub same_fails : (fault : FeedFault) (whole mid whole' : List Message) (s t s' : State) (a b : List ℕ) → Same whole s a mid t → Fails fault b t s' mid whole' → Fails fault (a ++ b) s s' whole whole'
same_fails (Frame f) whole mid whole' s t s' a b m n = same_stops whole mid whole' s t a b s'.partials f m n
same_fails NoMemory whole mid whole' s t s' a b m n = same_lacks whole mid whole' s t a b m n
