-- A framer after a feed, and what the feed tells.
use Rattle.std.proofs.Common.{◌≡◌, ℕ, ◌+◌, ◌*◌, ◌^◌, ◌<◌, ◌≤◌, Bool, false, List, [], ◌++◌, length, drop, Option, Some, None, true, Result, Ok, Err, refl, ap, sym, ◌∙◌, subst, arith, append_assoc}
use Rattle.std.proofs.lemmas.List.{append-nil}
use Rattle.std.proofs.Math.Seq.{drop-append_seam}
use Rattle.giop_frames.specs.declared.fault.FeedFault.{FeedFault}
use Rattle.giop_frames.specs.declared.fault.FeedFault.TheVariants.{Frame, NoMemory}
use Rattle.giop_frames.specs.Messages.{Message}
use Rattle.giop_frames.specs.Stream.{Said, stream, with_front, stopped, rest_of, rest_with}
use Rattle.giop_frames.specs.Running.{State}
use Rattle.giop_frames.specs.Bounds.{message_bytes, appended_bytes, unfinished_bytes}
use Rattle.giop_frames.specs.Joining.{Same, Fails}
use Rattle.giop_frames.specs.Feeds.{Feed, said, Tells, Lasts}
use Rattle.giop_frames.specs.Feeding.{Follows, Ended, IsFramed, IsEmptied, lacks, left_by}
use Rattle.giop_frames.proofs.Bounds.{kept_within}
use Rattle.giop_frames.proofs.Following.{kept_came, rest_is, no_bad, follows_start, fed_more, new_said, same_follows, stop_now, stops_ended}

pub framed_err : (fault : FeedFault) (limit : ℕ) (fed bytes : List ℕ) (whole whole' : List Message) (s s' : State) → Follows limit fed s → Fails fault bytes s s' whole whole'
    → IsFramed limit (fed ++ bytes) s' (left_by fault s'.partials) (Some fault)
framed_err (Frame e) limit fed bytes whole whole' s s' f m = stops_ended limit fed bytes whole whole' s s' e f m
framed_err NoMemory limit fed bytes whole whole' s s' f m = refl

framed_any : (fault : FeedFault) (limit : ℕ) (fed : List ℕ) (s t : State) (left : Option ℕ) → IsFramed limit fed s left (Some fault) → IsFramed limit fed t left (Some fault)
framed_any (Frame e) limit fed s t left f = f
framed_any NoMemory limit fed s t left f = f

-- a later feed: the fault stays
pub framed_kept : (fault : FeedFault) (limit : ℕ) (fed bytes : List ℕ) (s : State) (left : Option ℕ) → IsFramed limit fed s left (Some fault) → IsFramed limit (fed ++ bytes) s left (Some fault)
framed_kept (Frame e) limit fed bytes s left f = record {
  on = λ more. ap (stream limit) (append_assoc fed bytes more) ∙ f.on (bytes ++ more) ∙ sym (f.on bytes);
  bad = ap (λ (x : Said). x.bad) (f.on bytes) ∙ f.bad;
  rest = ap (λ (x : Said). x.rest) (f.on bytes) ∙ f.rest;
}
framed_kept NoMemory limit fed bytes s left f = f

-- what the feed tells
abbrev pub feed_of : ℕ → List ℕ → Bool → ℕ → Feed
feed_of limit fed lacked kept = record { limit = limit; fed = fed; lacked = lacked; kept = kept }

pub tells_ok : (limit : ℕ) (fed bytes : List ℕ) (whole whole' : List Message) (s s' : State) (x : Unit {0}) (k k' : ℕ) → Follows limit fed s → Same whole s bytes whole' s'
    → Tells (Ok x) (feed_of limit fed false k) (feed_of limit (fed ++ bytes) false k') whole whole'
tells_ok limit fed bytes whole whole' s s' x k k' f m = (
  refl,
  refl,
  no_bad limit (fed ++ bytes) s' (same_follows limit fed bytes whole whole' s s' f m),
  record { new = m.told; says_new = new_said limit fed bytes whole whole' s s' f m; gives = m.gives },
)

pub tells_err : (fault : FeedFault) (limit : ℕ) (fed bytes : List ℕ) (whole whole' : List Message) (s s' : State) (k k' : ℕ) → Follows limit fed s → Fails fault bytes s s' whole whole'
    → Tells (Err fault) (feed_of limit fed false k) (feed_of limit (fed ++ bytes) (lacks (Some fault)) k') whole whole'
tells_err (Frame e) limit fed bytes whole whole' s s' k k' f m =
    let n : stream limit (fed ++ bytes) ≡ with_front (stream limit fed).messages (with_front m.told (stopped s'.partials e.offset e.cause)) = stop_now limit fed bytes whole whole' s s'.partials e f m in
    let d : Ended limit (fed ++ bytes) (rest_of s'.partials) e = stops_ended limit fed bytes whole whole' s s' e f m in (
      refl,
      refl,
      d.bad,
      record {
        new = m.told;
        says_new = ap (λ (x : Said). x.messages) n ∙ ap (λ (x : List Message). (stream limit fed).messages ++ x) (append-nil m.told);
        gives = m.gives;
      },
      d.on,
    )
tells_err NoMemory limit fed bytes whole whole' s s' k k' f m = (
  refl,
  (λ _. record {
    new = m.told;
    left = m.left;
    says_new = λ more. ap (λ (x : Said). x.messages) (fed_more limit fed bytes more s f) ∙ ap (λ (x : List Message). (stream limit fed).messages ++ x) (m.front more);
    gives = m.gives;
  }),
  λ h. absurd (cc),
)

pub tells_kept : (fault : FeedFault) (limit : ℕ) (fed bytes : List ℕ) (whole : List Message) (s : State) (left : Option ℕ) (k k' : ℕ) → IsFramed limit fed s left (Some fault)
    → Tells (Err fault) (feed_of limit fed (lacks (Some fault)) k) (feed_of limit (fed ++ bytes) (lacks (Some fault)) k') whole whole
tells_kept (Frame e) limit fed bytes whole s left k k' f =
    let d : Ended limit (fed ++ bytes) left e = framed_kept (Frame e) limit fed bytes s left f in (
      refl,
      refl,
      d.bad,
      record {
        new = [];
        says_new = ap (λ (x : Said). x.messages) (f.on bytes) ∙ sym (append-nil (stream limit fed).messages);
        gives = sym (append-nil whole);
      },
      d.on,
    )
tells_kept NoMemory limit fed bytes whole s left k k' f = (refl, (λ h. absurd (cc)), λ _. refl)

-- the rest
pub rest_kept : (fault : FeedFault) (limit : ℕ) (fed : List ℕ) (s : State) (left : Option ℕ) → IsFramed limit fed s left (Some fault) → lacks (Some fault) ≡ false → left ≡ (stream limit fed).rest
rest_kept (Frame e) limit fed s left f h = sym f.rest
rest_kept NoMemory limit fed s left f h = absurd (cc)

-- the same, where the code has the parts of the framer
pub follows_new : (limit : ℕ) (fed : List ℕ) (s : State) → 16 ≤ limit → limit < 2 ^ 31 → fed ≡ [] → s ≡ record { limit = limit; at = 0; tail = []; partials = []; kept = 0 } → Follows limit fed s
follows_new limit fed s le lt hf hs =
    let P : List ℕ → Type 0 = λ b. Follows limit b s in
    let Q : State → Type 0 = λ y. Follows limit [] y in
    subst P (sym hf) (subst Q (sym hs) (follows_start limit le lt))

follows_of : (fault : Option FeedFault) (limit : ℕ) (fed : List ℕ) (s : State) (left : Option ℕ) → fault ≡ None → IsFramed limit fed s left fault → Follows limit fed s
follows_of fault limit fed s left n f = let P : Option FeedFault → Type 0 = λ o. IsFramed limit fed s left o in subst P n f

-- what holds of a framer: it follows its stream, and keeps nothing after a fault
abbrev pub Holds : ℕ → List ℕ → State → Option ℕ → Option FeedFault → Type 0
Holds limit fed s left fault = IsFramed limit fed s left fault × IsEmptied s fault

pub holds_new : (limit : ℕ) (fed : List ℕ) (s : State) → 16 ≤ limit → limit < 2 ^ 31 → fed ≡ [] → s ≡ record { limit = limit; at = 0; tail = []; partials = []; kept = 0 } → Holds limit fed s None None
holds_new limit fed s le lt hf hs = (follows_new limit fed s le lt hf hs, tt)

pub feed_ok_framed : (fault : Option FeedFault) (limit : ℕ) (fed fed' bytes : List ℕ) (whole whole' : List Message) (s s' : State) (left : Option ℕ) → fault ≡ None → Holds limit fed s left fault → fed' ≡ fed ++ bytes
    → Same whole s bytes whole' s' → Holds limit fed' s' left fault
feed_ok_framed fault limit fed fed' bytes whole whole' s s' left n f e m =
    let P : Option FeedFault → Type 0 = λ o. Holds limit fed' s' left o in
    let Q : List ℕ → Type 0 = λ b. Follows limit b s' in
    subst P (sym n) (subst Q (sym e) (same_follows limit fed bytes whole whole' s s' (follows_of fault limit fed s left n f.0) m), tt)

pub feed_err_framed : (fault : Option FeedFault) (x : FeedFault) (limit : ℕ) (fed fed' bytes : List ℕ) (whole whole' : List Message) (s s' t : State) (left left' : Option ℕ) → fault ≡ None → Holds limit fed s left fault → fed' ≡ fed ++ bytes
    → Fails x bytes s s' whole whole' → left' ≡ left_by x s'.partials → t.kept ≡ 0 → Holds limit fed' t left' (Some x)
feed_err_framed fault x limit fed fed' bytes whole whole' s s' t left left' n f e m hl hk =
    let Q : List ℕ → Type 0 = λ b. IsFramed limit b s' left' (Some x) in
    let L : Option ℕ → Type 0 = λ r. IsFramed limit (fed ++ bytes) s' r (Some x) in (
      framed_any x limit fed' s' t left' (subst Q (sym e) (subst L (sym hl) (framed_err x limit fed bytes whole whole' s s' (follows_of fault limit fed s left n f.0) m))),
      hk,
    )

pub feed_ok_tells : (v : Feed) (fault : Option FeedFault) (x : Unit {0}) (limit : ℕ) (fed fed' bytes : List ℕ) (whole whole' : List Message) (s s' : State) (left : Option ℕ) (k k' : ℕ) → feed_of limit fed (lacks fault) k ≡ v
    → fault ≡ None → Holds limit fed s left fault → fed' ≡ fed ++ bytes → Same whole s bytes whole' s' → Tells (Ok x) v (feed_of limit fed' (lacks fault) k') whole whole'
feed_ok_tells v fault x limit fed fed' bytes whole whole' s s' left k k' hv n f e m =
    let V : Feed → Type 0 = λ y. Tells (Ok x) y (feed_of limit fed' (lacks fault) k') whole whole' in
    let N : Option FeedFault → Type 0 = λ o. Tells (Ok x) (feed_of limit fed (lacks o) k) (feed_of limit fed' (lacks o) k') whole whole' in
    let Q : List ℕ → Type 0 = λ b. Tells (Ok x) (feed_of limit fed false k) (feed_of limit b false k') whole whole' in
    subst V hv (subst N (sym n) (subst Q (sym e) (tells_ok limit fed bytes whole whole' s s' x k k' (follows_of fault limit fed s left n f.0) m)))

pub feed_err_tells : (v : Feed) (fault : Option FeedFault) (x : FeedFault) (limit : ℕ) (fed fed' bytes : List ℕ) (whole whole' : List Message) (s s' : State) (left : Option ℕ) (k k' : ℕ) → feed_of limit fed (lacks fault) k ≡ v
    → fault ≡ None → Holds limit fed s left fault → fed' ≡ fed ++ bytes → Fails x bytes s s' whole whole' → Tells (Err x) v (feed_of limit fed' (lacks (Some x)) k') whole whole'
feed_err_tells v fault x limit fed fed' bytes whole whole' s s' left k k' hv n f e m =
    let V : Feed → Type 0 = λ y. Tells (Err x) y (feed_of limit fed' (lacks (Some x)) k') whole whole' in
    let N : Option FeedFault → Type 0 = λ o. Tells (Err x) (feed_of limit fed (lacks o) k) (feed_of limit fed' (lacks (Some x)) k') whole whole' in
    let Q : List ℕ → Type 0 = λ b. Tells (Err x) (feed_of limit fed false k) (feed_of limit b (lacks (Some x)) k') whole whole' in
    subst V hv (subst N (sym n) (subst Q (sym e) (tells_err x limit fed bytes whole whole' s s' k k' (follows_of fault limit fed s left n f.0) m)))

pub feed_kept_framed : (fault : Option FeedFault) (x : FeedFault) (limit : ℕ) (fed fed' bytes : List ℕ) (s : State) (left : Option ℕ) → fault ≡ Some x → Holds limit fed s left fault → fed' ≡ fed ++ bytes → Holds limit fed' s left fault
feed_kept_framed fault x limit fed fed' bytes s left n f e =
    let P : Option FeedFault → Type 0 = λ o. IsFramed limit fed s left o in
    let R : Option FeedFault → Type 0 = λ o. IsFramed limit fed' s left o in
    let Q : List ℕ → Type 0 = λ b. IsFramed limit b s left (Some x) in
    (subst R (sym n) (subst Q (sym e) (framed_kept x limit fed bytes s left (subst P n f.0))), f.1)

pub feed_kept_tells : (v : Feed) (fault : Option FeedFault) (x : FeedFault) (limit : ℕ) (fed fed' bytes : List ℕ) (whole : List Message) (s : State) (left : Option ℕ) (k k' : ℕ) → feed_of limit fed (lacks fault) k ≡ v
    → fault ≡ Some x → Holds limit fed s left fault → fed' ≡ fed ++ bytes → Tells (Err x) v (feed_of limit fed' (lacks fault) k') whole whole
feed_kept_tells v fault x limit fed fed' bytes whole s left k k' hv n f e =
    let P : Option FeedFault → Type 0 = λ o. IsFramed limit fed s left o in
    let V : Feed → Type 0 = λ y. Tells (Err x) y (feed_of limit fed' (lacks fault) k') whole whole in
    let N : Option FeedFault → Type 0 = λ o. Tells (Err x) (feed_of limit fed (lacks o) k) (feed_of limit fed' (lacks o) k') whole whole in
    let Q : List ℕ → Type 0 = λ b. Tells (Err x) (feed_of limit fed (lacks (Some x)) k) (feed_of limit b (lacks (Some x)) k') whole whole in
    subst V hv (subst N (sym n) (subst Q (sym e) (tells_kept x limit fed bytes whole s left k k' (subst P n f.0))))

pub rest_now : (v : Feed) (fault : Option FeedFault) (limit : ℕ) (fed : List ℕ) (s : State) (left : Option ℕ) (k : ℕ) (r : Option ℕ) → feed_of limit fed (lacks fault) k ≡ v → fault ≡ None → Holds limit fed s left fault
    → r ≡ rest_with s.partials (record { at = s.at; bytes = s.tail }) → r ≡ (said v).rest
rest_now v fault limit fed s left k r hv n f e =
    e ∙ sym (rest_is limit fed s (follows_of fault limit fed s left n f.0)) ∙ ap (λ (y : Feed). (said y).rest) hv

-- what was given stays given
lasts_by : (x : FeedFault) (limit : ℕ) (fed : List ℕ) (s : State) (left : Option ℕ) (k : ℕ) → IsFramed limit fed s left (Some x) → Lasts (Err x) (feed_of limit fed (lacks (Some x)) k)
lasts_by (Frame e) limit fed s left k f = λ d l h. let t : Some e ≡ Some d = sym f.bad ∙ h in cc
lasts_by NoMemory limit fed s left k f = λ d l h. absurd (cc)

pub lasts_kept : (v : Feed) (fault : Option FeedFault) (x : FeedFault) (limit : ℕ) (fed : List ℕ) (s : State) (left : Option ℕ) (k : ℕ) → feed_of limit fed (lacks fault) k ≡ v
    → fault ≡ Some x → Holds limit fed s left fault → Lasts (Err x) v
lasts_kept v fault x limit fed s left k hv n f =
    let P : Option FeedFault → Type 0 = λ o. IsFramed limit fed s left o in
    let V : Feed → Type 0 = λ y. Lasts (Err x) y in
    let N : Option FeedFault → Type 0 = λ o. Lasts (Err x) (feed_of limit fed (lacks o) k) in
    subst V hv (subst N (sym n) (lasts_by x limit fed s left k (subst P n f.0)))

-- and nothing was told before
pub lasts_none : (r : Result (Unit {0}) FeedFault) (v : Feed) (fault : Option FeedFault) (limit : ℕ) (fed : List ℕ) (s : State) (left : Option ℕ) (k : ℕ) → feed_of limit fed (lacks fault) k ≡ v
    → fault ≡ None → Holds limit fed s left fault → Lasts r v
lasts_none r v fault limit fed s left k hv n f =
    λ e l h. absurd (let t : None ≡ Some e = sym (no_bad limit fed s (follows_of fault limit fed s left n f.0)) ∙ ap (λ (y : Feed). (said y).bad) hv ∙ h in cc)

pub rest_lacked : (v : Feed) (fault : Option FeedFault) (limit : ℕ) (fed : List ℕ) (s : State) (left : Option ℕ) (k : ℕ) → feed_of limit fed (lacks fault) k ≡ v → Holds limit fed s left fault
    → v.lacked ≡ true → left ≡ None
rest_lacked v None limit fed s left k hv f h = absurd (let t : false ≡ true = ap (λ (y : Feed). y.lacked) hv ∙ h in cc)
rest_lacked v (Some (Frame e)) limit fed s left k hv f h = absurd (let t : false ≡ true = ap (λ (y : Feed). y.lacked) hv ∙ h in cc)
rest_lacked v (Some NoMemory) limit fed s left k hv f h = f.0

pub rest_ended : (v : Feed) (fault : Option FeedFault) (x : FeedFault) (limit : ℕ) (fed : List ℕ) (s : State) (left : Option ℕ) (k : ℕ) → feed_of limit fed (lacks fault) k ≡ v → fault ≡ Some x → Holds limit fed s left fault
    → v.lacked ≡ false → left ≡ (said v).rest
rest_ended v fault x limit fed s left k hv n f h =
    let P : Option FeedFault → Type 0 = λ o. IsFramed limit fed s left o in
    let l : lacks (Some x) ≡ false = sym (ap lacks n) ∙ ap (λ (y : Feed). y.lacked) hv ∙ h in
    rest_kept x limit fed s left (subst P n f.0) l ∙ ap (λ (y : Feed). (said y).rest) hv

-- at most 17 times the limit is kept
held_within : (limit : ℕ) (fed : List ℕ) (s : State) → Follows limit fed s → s.kept ≤ 17 * s.limit
held_within limit fed s f = kept_within s f.resting.few f.resting.part f.resting.sound f.resting.bounded

kept_by : (fault : Option FeedFault) (limit : ℕ) (fed : List ℕ) (s : State) (left : Option ℕ) → Holds limit fed s left fault → s.kept ≤ 17 * limit
kept_by None limit fed s left f = let P : ℕ → Type 0 = λ n. s.kept ≤ 17 * n in subst P f.0.limit_is (held_within limit fed s f.0)
kept_by (Some x) limit fed s left f = let e : s.kept ≡ 0 = f.1 in omega arith

pub kept_bound : (fault : Option FeedFault) (limit : ℕ) (fed : List ℕ) (s : State) (left : Option ℕ) → Holds limit fed s left fault → s.kept ≤ 17 * limit
kept_bound fault limit fed s left f = kept_by fault limit fed s left f

-- the bound on the limit is as long as there is no fault
pub kept_fits : (fault : Option FeedFault) (limit : ℕ) (fed : List ℕ) (s : State) (left : Option ℕ) → Holds limit fed s left fault → s.kept < 2 ^ 63
kept_fits None limit fed s left f = omega (arith, held_within limit fed s f.0, f.0.resting.small)
kept_fits (Some x) limit fed s left f = let e : s.kept ≡ 0 = f.1 in omega arith

-- what is appended and kept came with the feed, or was kept before
pub feed_flows : (v : Feed) (fault : Option FeedFault) (limit : ℕ) (fed bytes : List ℕ) (whole whole' : List Message) (s s' : State) → feed_of limit fed (lacks fault) s.kept ≡ v
    → Same whole s bytes whole' s' → appended_bytes whole whole' + s'.kept ≤ v.kept + length bytes
feed_flows v fault limit fed bytes whole whole' s s' hv m =
    let new : drop (length whole) whole' ≡ m.told = ap (drop (length whole)) m.gives ∙ drop-append_seam whole m.told in
    omega (arith, m.flows, ap (λ (x : List Message). message_bytes x) new, ap (λ (y : Feed). y.kept) hv)

-- no more is kept than has come of what is unfinished
kept_held_by : (fault : Option FeedFault) (limit : ℕ) (fed : List ℕ) (s : State) (left : Option ℕ) → Holds limit fed s left fault → s.kept ≤ unfinished_bytes fed
kept_held_by None limit fed s left f = omega (arith, f.0.resting.few, kept_came limit fed s f.0)
kept_held_by (Some x) limit fed s left f = let e : s.kept ≡ 0 = f.1 in omega arith

pub kept_held : (v : Feed) (fault : Option FeedFault) (limit : ℕ) (fed : List ℕ) (s : State) (left : Option ℕ) (k n : ℕ) → feed_of limit fed (lacks fault) k ≡ v
    → Holds limit fed s left fault → n ≡ s.kept → n ≤ unfinished_bytes v.fed
kept_held v fault limit fed s left k n hv f e =
    omega (arith, e, kept_held_by fault limit fed s left f, ap (λ (y : Feed). unfinished_bytes y.fed) hv)
