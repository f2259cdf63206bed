-- A load that was made so far, and one request more.
use Rattle.std.proofs.Common.{◌≡◌, ℕ, suc, ◌+◌, ◌*◌, ◌^◌, ◌<◌, ◌≤◌, is_some, List, [], ◌∷◌, ◌++◌, length, Option, Some, None, Result, Ok, Err, refl, sym, ap, ◌∙◌, subst, arith, length-append}
use Rattle.std.specs.Prelude.{IfOk, slice_get}
use Rattle.std.specs.Int.{w32}
use Rattle.orb_base.specs.Pool.{Pool}
use Rattle.orb_base.specs.Room.{Room}
use Rattle.orb_base.specs.declared.limits.TheConstants.{MAX_MESSAGE, MAX_RUN_CALLS}
use Rattle.orb_base.specs.declared.order.Order.TheVariants.{Big}
use Rattle.cdr_core.specs.Cursor.{AreBytes}
use Rattle.cdr_core.specs.Field.{number_bytes}
use Rattle.giop_frames.specs.Messages as Frames
use Rattle.giop_frames.specs.Messages.{lone}
use Rattle.giop_frames.specs.Pieces as Pieces
use Rattle.giop_frames.specs.Running.{ahead}
use Rattle.giop_frames.specs.Splitting.{IsUncut}
use Rattle.giop_frames.specs.Stream.{Said, with_front}
use Rattle.giop_frames.proofs.Growing.{stream_is}
use Rattle.giop_frames.proofs.Grows.{nothing_said}
use Rattle.giop_messages.specs.Message.{Message, Fits, kind_of}
use Rattle.giop_messages.specs.MessageReading.{message_at}
use Rattle.giop_messages.specs.Spelling.{spelled}
use Rattle.giop_messages.specs.Written.{whole_at}
use Rattle.giop_messages.proofs.Written.{reads_written}
use Rattle.adapter_policies.specs.SetupData.{AdapterData, SetupData}
use Rattle.adapter_policies.specs.declared.object_spec.ObjectSpec.{ObjectSpec}
use Rattle.load_runs.specs.Generated.{Aim, aim_of, asking, request_at, sent_level, StreamsThem}
use Rattle.load_runs.specs.Making.{AreShort, Sends, Puts, MadeSoFar, IsMade, IsPattern, carries, content}
use Rattle.load_runs.specs.declared.load_plan.LoadPlan.{LoadPlan}
use Rattle.load_runs.proofs.Past.{IsEven, past}
use Rattle.load_runs.proofs.Pieces.{SaysOne, sent_says, sent_few}
use Rattle.load_runs.proofs.Patterns.{carries_so}
use Rattle.load_runs.proofs.Requests.{is_uncut, uncut_bytes}

order_big : (m : Message) → Pieces.order_of (spelled Big m) ≡ Big
unfolding Pieces.order_of
order_big m = refl

kind_same : (m : Message) → Pieces.kind_of (spelled Big m) ≡ kind_of m
unfolding Pieces.kind_of
kind_same m = refl

lone_is : (at : ℕ) (m : Message) → lone (record { at = at; bytes = spelled Big m }) ≡ whole_at at Big m
lone_is at m k = record { at = at; order = order_big m k; kind = kind_same m k; bytes = spelled Big m }

read_again : (at : ℕ) (m : Message) → Fits m → length (spelled Big m) ≤ MAX_MESSAGE → message_at (lone (record { at = at; bytes = spelled Big m })) ≡ Ok m
read_again at m fits short = ap message_at (lone_is at m) ∙ reads_written at Big m fits short

-- no request is there
pub nothing_made : (limit : Option ℕ) (message : ℕ → Message) (bytes : List ℕ) → bytes ≡ [] → MadeSoFar limit message 0 bytes
nothing_made limit message bytes none =
    let made : MadeSoFar limit message 0 [] = record {
      sent = refl;
      streams = record { messages = []; are = refl; says = nothing_said MAX_MESSAGE };
      few = omega arith;
    } in
    let P : List ℕ → Type 0 = λ x. MadeSoFar limit message 0 x in subst P (sym none) made

more_says : (message : ℕ → Message) (n : ℕ) (old bytes : List ℕ) → Fits (message n) → length (spelled Big (message n)) ≤ MAX_MESSAGE → StreamsThem message n old
    → SaysOne MAX_MESSAGE (length old) (spelled Big (message n)) bytes → StreamsThem message (suc n) (old ++ bytes)
more_says message n old bytes fits short streams one =
    let base : ahead MAX_MESSAGE [] 0 old ≡ record { messages = streams.messages; rest = None; bad = None } = sym (stream_is MAX_MESSAGE old) ∙ streams.says in
    let even : IsEven (ahead MAX_MESSAGE [] 0 old) = record { rest = ap (λ (x : Said). x.rest) base; bad = ap (λ (x : Said). x.bad) base } in
    let start : 0 + length old ≡ length old = omega arith in
    let last : Frames.Message = lone (record { at = one.place; bytes = spelled Big (message n) }) in
    record {
      messages = streams.messages ++ last ∷ [];
      are = (streams.messages, last, streams.are, read_again one.place (message n) fits short, refl);
      says = stream_is MAX_MESSAGE (old ++ bytes) ∙ past MAX_MESSAGE 0 old bytes even
          ∙ ap (λ (ms : List Frames.Message). with_front ms (ahead MAX_MESSAGE [] (0 + length old) bytes)) (ap (λ (x : Said). x.messages) base)
          ∙ ap (λ (k : ℕ). with_front streams.messages (ahead MAX_MESSAGE [] k bytes)) start
          ∙ ap (with_front streams.messages) one.says;
    }

-- one more
pub one_more : (limit : Option ℕ) (message : ℕ → Message) (n : ℕ) (old new : List ℕ) → IsUncut (spelled Big (message n)) → MadeSoFar limit message n old
    → Puts limit (message n) old new → MadeSoFar limit message (n + 1) new
one_more limit message n old new uncut made puts =
    let bytes : List ℕ = puts.sends.bytes in
    let short : length (spelled Big (message n)) ≤ MAX_MESSAGE = omega (arith, puts.short) in
    let one = sent_says limit MAX_MESSAGE (length old) (spelled Big (message n)) bytes uncut puts.are_bytes puts.sends.cuts short puts.sends.sent in
    let size : length bytes ≤ 3 * length (spelled Big (message n)) + 16 = sent_few limit (spelled Big (message n)) bytes uncut puts.are_bytes puts.sends.cuts puts.sends.sent in
    let all : MadeSoFar limit message (suc n) (old ++ bytes) = record {
      sent = (old, bytes, made.sent, puts.sends.sent, refl);
      streams = more_says message n old bytes puts.fits short made.streams one;
      few = omega (arith, made.few, size, puts.short, length-append old bytes);
    } in
    let next : suc n ≡ n + 1 = omega arith in
    let P : ℕ → Type 0 = λ k. MadeSoFar limit message k (old ++ bytes) in
    let Q : List ℕ → Type 0 = λ x. MadeSoFar limit message (n + 1) x in
    subst Q (sym puts.sends.adds) (subst P next all)

-- a request was put after the bytes
pub puts_by : (limit : Option ℕ) (id : ℕ) (object : List ℕ) (level : Option ℕ) (bytes old new : List ℕ) → AreShort object → bytes ≡ spelled Big (asking id object level)
    → AreBytes bytes → Fits (asking id object level) → Sends limit bytes old new → Puts limit (asking id object level) old new
puts_by limit id object level bytes old new short is are fits sends =
    let P : List ℕ → Type 0 = λ x. Sends limit x old new in
    let Q : List ℕ → Type 0 = λ x. AreBytes x in
    record { sends = subst P is sends; fits = fits; are_bytes = subst Q is are; short = short id level }

-- one more, put under the priority that it carries
pub next_made : (limit : Option ℕ) (aim : Aim) (pool : Pool) (seed n : ℕ) (level : Option ℕ) (old new newer : List ℕ) → AreShort aim.object → level ≡ sent_level aim.model pool seed n
    → newer ≡ new → MadeSoFar limit (request_at aim pool seed) n old → Puts limit (asking (n + 1) aim.object level) old new
    → MadeSoFar limit (request_at aim pool seed) (n + 1) newer
next_made limit aim pool seed n level old new newer short is same made puts =
    let P : Option ℕ → Type 0 = λ x. Puts limit (asking (n + 1) aim.object x) old new in
    let Q : List ℕ → Type 0 = λ x. MadeSoFar limit (request_at aim pool seed) (n + 1) x in
    let here : Puts limit (request_at aim pool seed n) old new = subst P is puts in
    subst Q (sym same) (one_more limit (request_at aim pool seed) n old new (is_uncut (n + 1) aim.object (sent_level aim.model pool seed n) short) made here)

-- a request that was made by what all have in common
pub made_so : (aim : Aim) (pool : Pool) (seed n : ℕ) (level : Option ℕ) (before after bytes : List ℕ) → IsPattern aim.object (carries aim.model) before after
    → level ≡ sent_level aim.model pool seed n → bytes ≡ before ++ number_bytes Big w32 (n + 1) ++ after ++ content level → bytes ≡ spelled Big (asking (n + 1) aim.object level)
made_so aim pool seed n level before after bytes pattern is made =
    made ∙ sym (pattern.says (n + 1) level (ap is_some is ∙ carries_so aim.model pool seed n))

-- it can be sent
pub uncut_so : (aim : Aim) (pool : Pool) (seed n : ℕ) (level : Option ℕ) (before after bytes : List ℕ) → AreShort aim.object → IsPattern aim.object (carries aim.model) before after
    → level ≡ sent_level aim.model pool seed n → bytes ≡ before ++ number_bytes Big w32 (n + 1) ++ after ++ content level → IsUncut bytes
uncut_so aim pool seed n level before after bytes short pattern is made =
    uncut_bytes (n + 1) aim.object level bytes short (made_so aim pool seed n level before after bytes pattern is made)

-- and when it was sent, it was put after the bytes
pub puts_so : (limit : Option ℕ) (aim : Aim) (pool : Pool) (seed n : ℕ) (level : Option ℕ) (before after bytes old new : List ℕ) → AreShort aim.object
    → IsPattern aim.object (carries aim.model) before after → level ≡ sent_level aim.model pool seed n → bytes ≡ before ++ number_bytes Big w32 (n + 1) ++ after ++ content level
    → n < MAX_RUN_CALLS → AreBytes bytes → Sends limit bytes old new → Puts limit (asking (n + 1) aim.object level) old new
puts_so limit aim pool seed n level before after bytes old new short pattern is made few are sends =
    let lt : n + 1 < 2 ^ 32 = omega (arith, few) in
    puts_by limit (n + 1) aim.object level bytes old new short (made_so aim pool seed n level before after bytes pattern is made) are
    (pattern.fits (n + 1) level (ap is_some is ∙ carries_so aim.model pool seed n) lt) sends

-- what was made for the first object of a setup
pub is_made : {E : Type 0} (r : Result (Room ℕ) E) (setup : SetupData) (plan : LoadPlan) (object : ObjectSpec) (adapter : AdapterData) (key : List ℕ) (pool : Pool)
    → slice_get setup.objects 0 ≡ Some object → slice_get setup.adapters object.adapter ≡ Some adapter → key ≡ object.key → pool ≡ setup.pool → plan.count ≤ MAX_RUN_CALLS
    → IfOk r (λ input. MadeSoFar plan.fragment (request_at (record { object = key; model = adapter.model }) pool plan.seed) plan.count input.items)
    → IfOk r (λ input. IsMade setup plan input.items)
is_made (Ok input) setup plan object adapter key pool first under keyed pooled few made =
    let aim : Aim = record { object = object.key; model = adapter.model } in
    let is : aim_of setup ≡ Some aim = rw (first, under) refl in
    let P : List ℕ → Type 0 = λ x. MadeSoFar plan.fragment (request_at (record { object = x; model = adapter.model }) pool plan.seed) plan.count input.items in
    let Q : Pool → Type 0 = λ x. MadeSoFar plan.fragment (request_at aim x plan.seed) plan.count input.items in
    record { aim = aim; first = is; few = few; made = subst Q pooled (subst P keyed made) }
is_made (Err e) setup plan object adapter key pool first under keyed pooled few made = tt
