-- Steps that are made one after another.
use Rattle.std.proofs.Common.{◌≡◌, ℕ, ◌+◌, List, [], ◌∷◌, ◌++◌, length, refl, sym, ap, subst, ◌∙◌, append_assoc, append-nil, arith, length-append}
use Rattle.std.proofs.lemmas.List.{map-append}
use Rattle.std.proofs.lemmas.List.Concat.{flat_map-append}
use Rattle.orb_base.specs.JobRecord.{JobRecord}
use Rattle.orb_base.specs.Outside.{SinkState}
use Rattle.orb_base.specs.declared.answer.Answer.{Answer}
use Rattle.orb_base.specs.declared.due.Due.{Due}
use Rattle.orb_base.specs.declared.due.Due.TheVariants as due
use Rattle.orb_base.specs.declared.item.Item.TheVariants as item
use Rattle.orb_base.specs.declared.notice.Notice.{Notice}
use Rattle.orb_base.specs.declared.outcome.Outcome.{Outcome}
use Rattle.text_streams.specs.Streams.{WritesAll}
use Rattle.text_streams.specs.declared.writing.WriteAll.TheVariants.{Whole, Failed}
use Rattle.item_writer.specs.ItemBytes.{item_bytes}
use Rattle.item_writer.proofs.Saying.{whole_both, says_start}
use Rattle.halls.specs.Hands.{HandState, Does, DidAll}
use Rattle.halls.specs.Steps.{Step, noticed, invoked, begun, call_of, calls_of, answers_in, answers_of, text_in, text_of, early_bytes, late_bytes, AreWhole, Making, MakesAll, StopsAtLast}
use Rattle.halls.specs.Calls.{CallsBy, MadeBy, Takes}
use Rattle.halls.specs.declared.call.HallCall.{HallCall}
use Rattle.halls.specs.declared.call.HallCall.TheVariants.{Post, Invoke}
use Rattle.halls.specs.declared.ends.Took.{Took}
use Rattle.halls.specs.declared.ends.Took.TheVariants.{All, RunClosed, Stopped}

abbrev pub making : HandState → SinkState → Making
making hand sink = record { hand = hand; sink = sink }

pub did_none : (h : HandState) → DidAll [] h h
did_none h = record { slot_is = refl; done_is = sym (append-nil h.done); spare_is = omega arith }

did_one : (answer : Answer) (old new : HandState) → Does answer old new → DidAll (answer ∷ []) old new
did_one answer old new d = record { slot_is = d.slot_is; done_is = d.done_is; spare_is = d.spare_is }

pub did_more : (a b : List Answer) (old mid new : HandState) → DidAll a old mid → DidAll b mid new → DidAll (a ++ b) old new
did_more a b old mid new x y =
    let n : length (a ++ b) ≡ length a + length b = length-append a b in
    let p = x.spare_is in let q = y.spare_is in
    record {
      slot_is = y.slot_is ∙ x.slot_is;
      done_is = y.done_is ∙ (ap (λ (z : List Answer). z ++ b) x.done_is ∙ append_assoc old.done a b);
      spare_is = omega arith;
    }

whole_more : (a b : List Step) → AreWhole a → AreWhole b → AreWhole (a ++ b)
whole_more [] b x y = y
whole_more (s ∷ ss) b x y = (x.0, whole_more ss b x.1 y)

pub makes_none : (m : Making) → MakesAll [] m m
makes_none m = record { whole = tt; did = did_none m.hand; wrote = says_start m.sink }

pub makes_more : (a b : List Step) (old mid new : Making) → MakesAll a old mid → MakesAll b mid new → MakesAll (a ++ b) old new
makes_more a b old mid new x y = record {
  whole = whole_more a b x.whole y.whole;
  did = subst (λ (z : List Answer). DidAll z old.hand new.hand) (sym (flat_map-append answers_in a b))
      (did_more (answers_of a) (answers_of b) old.hand mid.hand new.hand x.did y.did);
  wrote = subst (λ (z : List ℕ). WritesAll Whole z old.sink new.sink) (sym (flat_map-append text_in a b))
      (whole_both Whole (text_of a) (text_of b) old.sink mid.sink new.sink x.wrote y.wrote);
}

stops_more : (a b : List Step) (old mid new : Making) → MakesAll a old mid → StopsAtLast b mid new → StopsAtLast (a ++ b) old new
stops_more a b old mid new x y = record {
  first = a ++ y.first;
  last = y.last;
  parts = ap (λ (z : List Step). a ++ z) y.parts ∙ sym (append_assoc a y.first (y.last ∷ []));
  mid = y.mid;
  makes = makes_more a y.first old mid y.mid x y.makes;
  fails = y.fails;
  did = y.did;
  wrote = y.wrote;
}

pub made_more : (r : Took) (a b : List Step) (old mid new : Making) → MakesAll a old mid → MadeBy r b mid new → MadeBy r (a ++ b) old new
made_more All a b old mid new x y = makes_more a b old mid new x y
made_more RunClosed a b old mid new x y = makes_more a b old mid new x y
made_more Stopped a b old mid new x y = stops_more a b old mid new x y

-- ---- one call

-- one step, which was made whole
one_made : (call : HallCall) (s : Step) (old new : Making) → call ≡ call_of s → AreWhole (s ∷ []) → DidAll (answers_in s) old.hand new.hand
    → WritesAll Whole (text_in s) old.sink new.sink → Takes All (call ∷ []) old new
one_made call s old new is whole did wrote = record {
  steps = s ∷ [];
  calls_by = ap (λ (c : HallCall). c ∷ []) is;
  made = record {
    whole = whole;
    did = subst (λ (z : List Answer). DidAll z old.hand new.hand) (sym (append-nil (answers_in s))) did;
    wrote = subst (λ (z : List ℕ). WritesAll Whole z old.sink new.sink) (sym (append-nil (text_in s))) wrote;
  };
}

pub noticed_all : (notice : Notice) (h : HandState) (o o' : SinkState) → WritesAll Whole (item_bytes (item.Noticed notice)) o o'
    → Takes All (Post notice ∷ []) (making h o) (making h o')
noticed_all notice h o o' w = one_made (Post notice) (noticed notice) (making h o) (making h o') refl (tt, tt) (did_none h) w

pub noticed_stopped : (notice : Notice) (h : HandState) (o o' : SinkState) → WritesAll Failed (item_bytes (item.Noticed notice)) o o'
    → Takes Stopped (Post notice ∷ []) (making h o) (making h o')
noticed_stopped notice h o o' w = record {
  steps = noticed notice ∷ [];
  calls_by = ([], refl);
  made = record { first = []; last = noticed notice; parts = refl; mid = making h o; makes = makes_none (making h o); fails = tt; did = did_none h; wrote = w };
}

-- what an invocation writes where it is whole, by when its reply is due
quiet_text : (d : Due) (job : JobRecord) (outcome : Outcome) → d ≡ due.Nothing → early_bytes d job ++ late_bytes d job outcome ≡ []
quiet_text due.Nothing job outcome h = refl
quiet_text due.Early job outcome h = absurd (cc)
quiet_text due.Late job outcome h = absurd (cc)

early_text : (d : Due) (job : JobRecord) (outcome : Outcome) → d ≡ due.Early → early_bytes d job ++ late_bytes d job outcome ≡ item_bytes (item.Early job)
early_text due.Nothing job outcome h = absurd (cc)
early_text due.Early job outcome h = append-nil (item_bytes (item.Early job))
early_text due.Late job outcome h = absurd (cc)

begun_text : (d : Due) (job : JobRecord) → d ≡ due.Early → early_bytes d job ≡ item_bytes (item.Early job)
begun_text due.Nothing job h = absurd (cc)
begun_text due.Early job h = refl
begun_text due.Late job h = absurd (cc)

late_text : (d : Due) (job : JobRecord) (outcome : Outcome) → d ≡ due.Late
    → early_bytes d job ++ late_bytes d job outcome ≡ item_bytes (item.Answered (record { job = job; outcome = outcome }))
late_text due.Nothing job outcome h = absurd (cc)
late_text due.Early job outcome h = absurd (cc)
late_text due.Late job outcome h = refl

-- an invocation that was made whole
invoked_all : (job : JobRecord) (outcome : Outcome) (text : List ℕ) (old new : HandState) (o o' : SinkState)
    → early_bytes job.due job ++ late_bytes job.due job outcome ≡ text → Does (record { job = job; outcome = outcome }) old new → WritesAll Whole text o o'
    → Takes All (Invoke job ∷ []) (making old o) (making new o')
invoked_all job outcome text old new o o' is d w =
    one_made (Invoke job) (invoked job outcome) (making old o) (making new o') refl (tt, tt) (did_one (record { job = job; outcome = outcome }) old new d)
    (subst (λ (z : List ℕ). WritesAll Whole z o o') (sym is) w)

pub quiet_all : (job : JobRecord) (outcome : Outcome) (old new : HandState) (o : SinkState) → job.due ≡ due.Nothing
    → Does (record { job = job; outcome = outcome }) old new → Takes All (Invoke job ∷ []) (making old o) (making new o)
quiet_all job outcome old new o h d = invoked_all job outcome [] old new o o (quiet_text job.due job outcome h) d (says_start o)

pub early_all : (job : JobRecord) (outcome : Outcome) (old new : HandState) (o o' : SinkState) → job.due ≡ due.Early
    → WritesAll Whole (item_bytes (item.Early job)) o o' → Does (record { job = job; outcome = outcome }) old new → Takes All (Invoke job ∷ []) (making old o) (making new o')
early_all job outcome old new o o' h w d = invoked_all job outcome (item_bytes (item.Early job)) old new o o' (early_text job.due job outcome h) d w

pub early_stopped : (job : JobRecord) (h : HandState) (o o' : SinkState) → job.due ≡ due.Early → WritesAll Failed (item_bytes (item.Early job)) o o'
    → Takes Stopped (Invoke job ∷ []) (making h o) (making h o')
early_stopped job h o o' e w = record {
  steps = begun job ∷ [];
  calls_by = ([], refl);
  made = record {
    first = [];
    last = begun job;
    parts = refl;
    mid = making h o;
    makes = makes_none (making h o);
    fails = e;
    did = did_none h;
    wrote = subst (λ (z : List ℕ). WritesAll Failed z o o') (sym (begun_text job.due job e)) w;
  };
}

pub late_all : (job : JobRecord) (outcome : Outcome) (old new : HandState) (o o' : SinkState) → job.due ≡ due.Late
    → Does (record { job = job; outcome = outcome }) old new → WritesAll Whole (item_bytes (item.Answered (record { job = job; outcome = outcome }))) o o'
    → Takes All (Invoke job ∷ []) (making old o) (making new o')
late_all job outcome old new o o' h d w =
    invoked_all job outcome (item_bytes (item.Answered (record { job = job; outcome = outcome }))) old new o o' (late_text job.due job outcome h) d w

pub late_stopped : (job : JobRecord) (outcome : Outcome) (old new : HandState) (o o' : SinkState) → job.due ≡ due.Late
    → Does (record { job = job; outcome = outcome }) old new → WritesAll Failed (item_bytes (item.Answered (record { job = job; outcome = outcome }))) o o'
    → Takes Stopped (Invoke job ∷ []) (making old o) (making new o')
late_stopped job outcome old new o o' h d w = record {
  steps = invoked job outcome ∷ [];
  calls_by = ([], refl);
  made = record {
    first = [];
    last = invoked job outcome;
    parts = refl;
    mid = making old o;
    makes = makes_none (making old o);
    fails = h;
    did = did_one (record { job = job; outcome = outcome }) old new d;
    wrote = subst (λ (z : List ℕ). WritesAll Failed z o o') (sym (late_text job.due job outcome h)) w;
  };
}

pub none_left : (job : JobRecord) (h : HandState) (o : SinkState) → h.spare ≡ 0 → Takes RunClosed (Invoke job ∷ []) (making h o) (making h o)
none_left job h o none = record { steps = []; calls_by = (job, [], refl, none); made = makes_none (making h o) }

-- ---- many calls

pub takes_none : (m : Making) → Takes All [] m m
takes_none m = record { steps = []; calls_by = refl; made = makes_none m }

calls_both : (xs ys : List HallCall) (a b : List Step) → xs ≡ calls_of a → ys ≡ calls_of b → xs ++ ys ≡ calls_of (a ++ b)
calls_both xs ys a b x y = (λ i. x i ++ y i) ∙ sym (map-append call_of a b)

calls_with : (xs ys rest : List HallCall) (a b : List Step) → xs ≡ calls_of a → ys ≡ calls_of b ++ rest → xs ++ ys ≡ calls_of (a ++ b) ++ rest
calls_with xs ys rest a b x y =
    (λ i. x i ++ y i) ∙ sym (append_assoc (calls_of a) (calls_of b) rest) ∙ ap (λ (z : List HallCall). z ++ rest) (sym (map-append call_of a b))

pub calls_more : (r : Took) (xs ys : List HallCall) (a b : List Step) (new : HandState) → xs ≡ calls_of a → CallsBy r ys b new → CallsBy r (xs ++ ys) (a ++ b) new
calls_more All xs ys a b new x y = calls_both xs ys a b x y
calls_more RunClosed xs ys a b new x y = (y.0, y.1, calls_with xs ys (Invoke y.0 ∷ y.1) a b x y.2, y.3)
calls_more Stopped xs ys a b new x y = (y.0, calls_with xs ys y.0 a b x y.1)

-- calls after others
pub takes_more : (r : Took) (xs ys : List HallCall) (old mid new : Making) → Takes All xs old mid → Takes r ys mid new → Takes r (xs ++ ys) old new
takes_more r xs ys old mid new x y = record {
  steps = x.steps ++ y.steps;
  calls_by = calls_more r xs ys x.steps y.steps new.hand x.calls_by y.calls_by;
  made = made_more r x.steps y.steps old mid new x.made y.made;
}

-- calls that aren't looked at any more
pub closed_before : (xs rest : List HallCall) (old new : Making) → Takes RunClosed xs old new → Takes RunClosed (xs ++ rest) old new
closed_before xs rest old new x =
    let c = x.calls_by in record {
      steps = x.steps;
      calls_by = (c.0, c.1 ++ rest, ap (λ (z : List HallCall). z ++ rest) c.2 ∙ append_assoc (calls_of x.steps) (Invoke c.0 ∷ c.1) rest, c.3);
      made = x.made;
    }

pub stopped_before : (xs rest : List HallCall) (old new : Making) → Takes Stopped xs old new → Takes Stopped (xs ++ rest) old new
stopped_before xs rest old new x = record {
  steps = x.steps;
  calls_by = (x.calls_by.0 ++ rest, ap (λ (z : List HallCall). z ++ rest) x.calls_by.1 ∙ append_assoc (calls_of x.steps) x.calls_by.0 rest);
  made = x.made;
}
