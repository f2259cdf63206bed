-- Lemmas on a dump from its start to its end.
use Rattle.std.proofs.Common.{◌≡◌, ℕ, ◌+◌, ◌≤◌, ◌<◌, List, [], ◌++◌, length, take, Option, Some, None, refl, sym, ap, ◌∙◌, subst, arith, append-nil, length-append, length-take}
use Rattle.std.specs.Prelude.{Bool, true, false, ◌==◌, Result, Ok, Err, option_map, IfSome, IsErr}
use Rattle.std.proofs.lemmas.Bool.Decides.{nat_tests}
use Rattle.orb_base.specs.Outside.{Told, SourceState, SinkState, Rose}
use Rattle.orb_base.specs.declared.no_memory.NoMemory.{NoMemory}
use Rattle.orb_base.specs.declared.limits.TheConstants.{MAX_MESSAGE}
use Rattle.giop_frames.proofs.Grows.{nothing_said}
use Rattle.giop_frames.specs.Stream.{stream}
use Rattle.giop_frames.specs.Feeds.{Feed, said}
use Rattle.giop_dump.specs.declared.refusal.Refusal.{Refusal}
use Rattle.giop_dump.specs.declared.dump_end.DumpEnd.{DumpEnd}
use Rattle.giop_dump.specs.declared.dump_end.DumpEnd.TheVariants.{Done, Refused, Spent, ReadFault, WriteFault}
use Rattle.giop_dump.specs.declared.dump_end.TheConstants.{MAX_DUMPED, READ_LEN}
use Rattle.giop_dump.specs.Ending.{first_refusal, lines_before, refusal_of, at_end, dumped, dump_text, dump_ending}
use Rattle.giop_dump.specs.Dump.{FaultsOf, DumpsBytes, Dumps, WroteOn}
use Rattle.giop_dump.specs.Steps.{IsGoing, WritesFront, DumpsPiece}
use Rattle.text_streams.specs.Streams.{Gave, WroteText}
use Rattle.std.proofs.lemmas.List.{take-append-le}
use Rattle.text_streams.proofs.CallerLemmas.{gave_start, gave_step, wrote_nothing, wrote_behind}

-- a dump that goes on: what was taken was fed, its lines were written, and nothing failed
pub record DumpsSoFar (f : Feed) (count : ℕ) (s s' : SourceState) (o o' : SinkState) : Type 0 where
  pub going : IsGoing f
  pub gave : Gave f.fed s s'
  pub count_is : count ≡ length f.fed
  pub few : length f.fed ≤ MAX_DUMPED
  pub wrote : WroteText (dump_text f.fed) o o'
  pub reads : s'.faults ≡ s.faults
  pub no_end : s'.ends ≡ s.ends
  pub writes : o'.faults ≡ o.faults

first_text : dump_text [] ≡ []
unfolding dump_text lines_before
first_text = ap (λ s. lines_before s.messages) (nothing_said MAX_MESSAGE)

first_sound : refusal_of (dumped []) ≡ None
unfolding first_refusal
first_sound = ap refusal_of (nothing_said MAX_MESSAGE)

pub dump_start : (f : Feed) (s : SourceState) (o : SinkState) → f ≡ record { limit = MAX_MESSAGE; fed = []; lacked = false; kept = 0 } → DumpsSoFar f 0 s s o o
dump_start f s o is =
    let none : f.fed ≡ [] = ap (λ (x : Feed). x.fed) is in
    record {
      going = record { limit_is = ap (λ (x : Feed). x.limit) is; enough = ap (λ (x : Feed). x.lacked) is; sound = ap (λ b. refusal_of (dumped b)) none ∙ first_sound };
      gave = rw none (gave_start s);
      count_is = rw none refl;
      few = rw none (omega arith);
      wrote = subst (λ (t : List ℕ). WroteText t o o) (sym (ap dump_text none ∙ first_text)) (wrote_nothing o);
      reads = refl;
      no_end = refl;
      writes = refl;
    }

-- how a dump ends, by its first refusal, the number of its bytes, and whether the end was met
ending_refused : (bytes : List ℕ) (ended : Bool) (r : Refusal) → refusal_of (dumped bytes) ≡ Some r → dump_ending bytes ended ≡ Some (Refused r)
unfolding dump_ending
ending_refused bytes ended r h = rw h refl

ending_spent : (bytes : List ℕ) (ended : Bool) → refusal_of (dumped bytes) ≡ None → length bytes ≡ MAX_DUMPED → dump_ending bytes ended ≡ Some Spent
unfolding dump_ending
ending_spent bytes ended none full = rw (none, full) refl

not_full : (n : ℕ) → n < MAX_DUMPED → (n == MAX_DUMPED) ≡ false
not_full n h = grind (arith, nat_tests)

ending_open : (bytes : List ℕ) → refusal_of (dumped bytes) ≡ None → length bytes < MAX_DUMPED → dump_ending bytes false ≡ None
unfolding dump_ending
ending_open bytes none few = let e = not_full (length bytes) few in rw (none, e) refl

ending_ended : (bytes : List ℕ) → refusal_of (dumped bytes) ≡ None → length bytes < MAX_DUMPED → dump_ending bytes true ≡ Some (at_end (dumped bytes).rest)
unfolding dump_ending
ending_ended bytes none few = let e = not_full (length bytes) few in rw (none, e) refl

-- one more piece was taken
pub record TookOn (f f' : Feed) (count : ℕ) (s s' : SourceState) : Type 0 where
  pub piece : List ℕ
  pub parts : f'.fed ≡ f.fed ++ piece
  pub one_read : length piece ≤ READ_LEN
  pub gave : Gave f'.fed s s'
  pub count_is : count ≡ length f'.fed
  pub few : length f'.fed ≤ MAX_DUMPED
  pub reads : s'.faults ≡ s.faults
  pub no_end : s'.ends ≡ s.ends

pub took_piece : (f f' : Feed) (count n : ℕ) (into behind : List ℕ) (s s' s'' : SourceState) (o o' : SinkState) → DumpsSoFar f count s s' o o' → n ≤ length into → n ≤ READ_LEN → n + count ≤ MAX_DUMPED → s'.left ≡ option_map (λ rest. take n into ++ rest) s''.left → s''.taken ≡ option_map (λ seen. seen ++ take n into) s'.taken → f'.fed ≡ f.fed ++ take n (into ++ behind) → s''.faults ≡ s'.faults → s''.ends ≡ s'.ends → TookOn f f' (count + n) s s''
took_piece f f' count n into behind s s' s'' o o' h within short few from to fed reads ends =
    let piece : f'.fed ≡ f.fed ++ take n into = fed ∙ ap (λ (x : List ℕ). f.fed ++ x) (take-append-le n into behind within) in
    let long : length (take n into) ≡ n = length-take n into ∙ omega arith in
    let len : length f'.fed ≡ length f.fed + n = ap length piece ∙ length-append f.fed (take n into) ∙ ap (λ m. length f.fed + m) long in
    record {
      piece = take n into;
      parts = piece;
      one_read = omega (arith, long, short);
      gave = gave_step f.fed into behind f'.fed n s s' s'' h.gave within from to fed;
      count_is = omega (arith, h.count_is, len);
      few = omega (arith, h.count_is, len);
      reads = reads ∙ h.reads;
      no_end = ends ∙ h.no_end;
    }

-- a dump goes on after it
pub dump_on : (f f' : Feed) (count count' : ℕ) (s s' s'' : SourceState) (o o' o'' : SinkState) → DumpsSoFar f count s s' o o' → TookOn f f' count' s s'' → DumpsPiece (Ok None) f f' o' o'' → DumpsSoFar f' count' s s'' o o''
dump_on f f' count count' s s' s'' o o' o'' h took piece = record {
  going = piece.0;
  gave = took.gave;
  count_is = took.count_is;
  few = took.few;
  wrote = subst (λ (t : List ℕ). WroteText t o o'') (sym piece.1.text_is) (wrote_behind (dump_text f.fed) piece.1.text o o' o'' h.wrote piece.1.wrote);
  reads = took.reads;
  no_end = took.no_end;
  writes = piece.2 ∙ h.writes;
}

-- a prefix of the text, after all of the text before
front_on : (f f' : Feed) (o o' o'' : SinkState) → WroteText (dump_text f.fed) o o' → WritesFront f f' o' o'' → WroteOn (dump_text f.fed) (dump_text f'.fed) o o''
front_on f f' o o' o'' all front =
    let some = front.wrote.1 in
    record {
      front = some.front;
      rest = front.wrote.0;
      parts = front.text_is ∙ ap (λ (x : List ℕ). dump_text f.fed ++ x) some.parts;
      wrote = wrote_behind (dump_text f.fed) some.front o o' o'' all some.wrote;
    }

rose_on : (w0 w1 w2 : ℕ) → w1 ≡ w0 → Rose w1 w2 → Rose w0 w2
rose_on w0 w1 w2 same rose = subst (λ (w : ℕ). Rose w w2) same rose

-- or ends with it
end_came : (end : DumpEnd) (f f' : Feed) (o o' o'' : SinkState) → WroteText (dump_text f.fed) o o' → DumpsPiece (Ok (Some end)) f f' o' o'' → DumpsBytes (Ok end) f.fed f'.fed false o o''
end_came (Refused r) f f' o o' o'' all piece = (
  ending_refused f'.fed false r piece.0,
  subst (λ (t : List ℕ). WroteText t o o'') (sym piece.1.text_is) (wrote_behind (dump_text f.fed) piece.1.text o o' o'' all piece.1.wrote),
)
end_came WriteFault f f' o o' o'' all piece = front_on f f' o o' o'' all piece.1
end_came Done f f' o o' o'' all piece = absurd piece
end_came Spent f f' o o' o'' all piece = absurd piece
end_came ReadFault f f' o o' o'' all piece = absurd piece

end_faults : (end : DumpEnd) (f f' : Feed) (s s'' : SourceState) (o o' o'' : SinkState) → s''.faults ≡ s.faults → o'.faults ≡ o.faults → DumpsPiece (Ok (Some end)) f f' o' o'' → FaultsOf (Ok end) s s'' o o''
end_faults (Refused r) f f' s s'' o o' o'' reads writes piece = (reads, piece.2 ∙ writes)
end_faults WriteFault f f' s s'' o o' o'' reads writes piece = (reads, rose_on o.faults o'.faults o''.faults writes piece.0)
end_faults Done f f' s s'' o o' o'' reads writes piece = absurd piece
end_faults Spent f f' s s'' o o' o'' reads writes piece = absurd piece
end_faults ReadFault f f' s s'' o o' o'' reads writes piece = absurd piece

pub dump_ends : (end : DumpEnd) (f f' : Feed) (count count' : ℕ) (s s' s'' : SourceState) (o o' o'' : SinkState) → DumpsSoFar f count s s' o o' → TookOn f f' count' s s'' → DumpsPiece (Ok (Some end)) f f' o' o'' → Dumps (Ok end) s s'' o o''
dump_ends end f f' count count' s s' s'' o o' o'' h took piece = record {
  bytes = f'.fed;
  earlier = f.fed;
  last = took.piece;
  ended = false;
  gave = took.gave;
  few = took.few;
  parts = took.parts;
  one_read = took.one_read;
  sound = h.going.sound;
  met = took.no_end;
  faults = end_faults end f f' s s'' o o' o'' took.reads h.writes piece;
  came = end_came end f f' o o' o'' h.wrote piece;
}

-- out of memory
want_came : (r : Result DumpEnd NoMemory) (earlier bytes : List ℕ) (o o' : SinkState) → IsErr r → WroteText (dump_text earlier) o o' → DumpsBytes r earlier bytes false o o'
want_came (Ok x) earlier bytes o o' e h = absurd (cc)
want_came (Err x) earlier bytes o o' e h = h

want_faults : (r : Result DumpEnd NoMemory) (s s' : SourceState) (o o' : SinkState) → IsErr r → s'.faults ≡ s.faults → o'.faults ≡ o.faults → FaultsOf r s s' o o'
want_faults (Ok x) s s' o o' e reads writes = absurd (cc)
want_faults (Err x) s s' o o' e reads writes = (reads, writes)

-- what a piece's out of memory leaves
piece_wants : (r : Result (Option DumpEnd) NoMemory) (f f' : Feed) (o o' : SinkState) → IsErr r → DumpsPiece r f f' o o' → o' ≡ o
piece_wants (Ok x) f f' o o' e h = absurd (cc)
piece_wants (Err x) f f' o o' e h = h

pub dump_wants : (r : Result DumpEnd NoMemory) (f f' : Feed) (count count' : ℕ) (s s' s'' : SourceState) (o o' o'' : SinkState) → IsErr r → DumpsSoFar f count s s' o o' → TookOn f f' count' s s'' → o'' ≡ o' → Dumps r s s'' o o''
dump_wants r f f' count count' s s' s'' o o' o'' e h took same = record {
  bytes = f'.fed;
  earlier = f.fed;
  last = took.piece;
  ended = false;
  gave = took.gave;
  few = took.few;
  parts = took.parts;
  one_read = took.one_read;
  sound = h.going.sound;
  met = took.no_end;
  faults = want_faults r s s'' o o'' e took.reads (ap (λ (x : SinkState). x.faults) same ∙ h.writes);
  came = want_came r f.fed f'.fed o o'' e (ap (λ (x : SinkState). x.held) same ∙ h.wrote);
}

pub dump_wants_first : (r : Result DumpEnd NoMemory) (s : SourceState) (o : SinkState) → IsErr r → Dumps r s s o o
dump_wants_first r s o e = record {
  bytes = [];
  earlier = [];
  last = [];
  ended = false;
  gave = gave_start s;
  few = omega arith;
  parts = refl;
  one_read = omega arith;
  sound = first_sound;
  met = refl;
  faults = want_faults r s s o o e refl refl;
  came = want_came r [] [] o o e (subst (λ (t : List ℕ). WroteText t o o) (sym first_text) (wrote_nothing o));
}

-- nothing more was taken
same_gave : (bytes : List ℕ) (s s' s'' : SourceState) → Gave bytes s s' → s''.left ≡ s'.left → s''.taken ≡ s'.taken → Gave bytes s s''
same_gave bytes s s' s'' h same_left same_taken = record {
  from_left = h.from_left ∙ ap (option_map (λ rest. bytes ++ rest)) (sym same_left);
  to_taken = same_taken ∙ h.to_taken;
}

-- the end of the input
end_done : (end : DumpEnd) (rest : Option ℕ) (bytes : List ℕ) (s s' : SourceState) (o o' : SinkState) → end ≡ at_end rest → dump_ending bytes true ≡ Some (at_end rest) → WroteText (dump_text bytes) o o' → s'.faults ≡ s.faults → o'.faults ≡ o.faults
    → DumpsBytes (Ok end) bytes bytes true o o' × FaultsOf (Ok end) s s' o o'
end_done end None bytes s s' o o' is ending all reads writes = subst (λ (x : DumpEnd). DumpsBytes (Ok x) bytes bytes true o o' × FaultsOf (Ok x) s s' o o') (sym is) ((ending, all), (reads, writes))
end_done end (Some offset) bytes s s' o o' is ending all reads writes = subst (λ (x : DumpEnd). DumpsBytes (Ok x) bytes bytes true o o' × FaultsOf (Ok x) s s' o o') (sym is) ((ending, all), (reads, writes))

pub dump_done : (end : DumpEnd) (rest : Option ℕ) (f : Feed) (count : ℕ) (s s' s'' : SourceState) (o o' : SinkState) → DumpsSoFar f count s s' o o' → count < MAX_DUMPED → s''.left ≡ s'.left → s''.taken ≡ s'.taken → IfSome s'.left (λ rest. rest ≡ []) → Rose s'.ends s''.ends → s''.faults ≡ s'.faults → (f.lacked ≡ false → rest ≡ (said f).rest) → end ≡ at_end rest → Dumps (Ok end) s s'' o o'
dump_done end rest f count s s' s'' o o' h few same_left same_taken none rose reads is_rest is_end =
    let said_rest : rest ≡ (dumped f.fed).rest = is_rest h.going.enough ∙ ap (λ limit. (stream limit f.fed).rest) h.going.limit_is in
    let ending : dump_ending f.fed true ≡ Some (at_end rest) =
    ending_ended f.fed h.going.sound (omega (arith, h.count_is)) ∙ ap (λ x. Some (at_end x)) (sym said_rest) in
    let done = end_done end rest f.fed s s'' o o' is_end ending h.wrote (reads ∙ h.reads) h.writes in
    record {
      bytes = f.fed;
      earlier = f.fed;
      last = [];
      ended = true;
      gave = same_gave f.fed s s' s'' h.gave same_left same_taken;
      few = h.few;
      parts = sym (append-nil f.fed);
      one_read = omega arith;
      sound = h.going.sound;
      met = (rose_on s.ends s'.ends s''.ends h.no_end rose, subst (λ (x : Told). IfSome x (λ rest. rest ≡ [])) (sym same_left) none);
      faults = done.1;
      came = done.0;
    }

-- a failed read
pub dump_failed : (f : Feed) (count : ℕ) (s s' s'' : SourceState) (o o' : SinkState) → DumpsSoFar f count s s' o o' → count < MAX_DUMPED → s''.left ≡ s'.left → s''.taken ≡ s'.taken → s''.ends ≡ s'.ends → Rose s'.faults s''.faults → Dumps (Ok ReadFault) s s'' o o'
dump_failed f count s s' s'' o o' h few same_left same_taken no_end rose = record {
  bytes = f.fed;
  earlier = f.fed;
  last = [];
  ended = false;
  gave = same_gave f.fed s s' s'' h.gave same_left same_taken;
  few = h.few;
  parts = sym (append-nil f.fed);
  one_read = omega arith;
  sound = h.going.sound;
  met = no_end ∙ h.no_end;
  faults = (rose_on s.faults s'.faults s''.faults h.reads rose, h.writes);
  came = (ending_open f.fed h.going.sound (omega (arith, h.count_is)), h.wrote);
}

-- as many bytes as are taken at most
pub dump_spent : (f : Feed) (count : ℕ) (s s' : SourceState) (o o' : SinkState) → DumpsSoFar f count s s' o o' → MAX_DUMPED ≤ count → Dumps (Ok Spent) s s' o o'
dump_spent f count s s' o o' h full = record {
  bytes = f.fed;
  earlier = f.fed;
  last = [];
  ended = false;
  gave = h.gave;
  few = h.few;
  parts = sym (append-nil f.fed);
  one_read = omega arith;
  sound = h.going.sound;
  met = h.no_end;
  faults = (h.reads, h.writes);
  came = (ending_spent f.fed false h.going.sound (omega (arith, h.count_is, h.few)), h.wrote);
}
