-- The number of a request among those that a history offers.
use Rattle.std.proofs.Common.{◌≡◌, ℕ, ◌+◌, suc, zero, Bool, true, List, [], ◌∷◌, ◌++◌, Some, inl, inr, refl, sym, ap, ◌∙◌, arith}
use Rattle.std.specs.Prelude.{map, slice_get, if◌then◌else◌, option_map}
use Rattle.std.proofs.lemmas.Bool.{cases_Bool, eq-eqb}
use Rattle.std.proofs.lemmas.List.{map-append}
use Rattle.std.proofs.lemmas.Option.{none-some, same_Some, slice_get-map}
use Rattle.orb_base.specs.Conn.{same_conn}
use Rattle.orb_base.specs.declared.conn_id.ConnId.{ConnId}
use Rattle.orb_base.specs.declared.job.Job.{Job}
use Rattle.lane_machine.specs.declared.call.LaneCall.{LaneCall}
use Rattle.lane_machine.specs.declared.call.LaneCall.TheVariants.{Offer, Post, Cancel, Take, Finish, Collect, End, Leave}
use Rattle.lane_machine.specs.declared.call.LaneReply.{LaneReply}
use Rattle.lane_machine.specs.Histories.{History}
use Rattle.trace_lines.specs.Offers.{offered, offers, same_name, number, NoNameTwice}
use Rattle.trace_lines.specs.Lines.{line_of, action_of}
use Rattle.trace_lines.specs.ReadBack.{offered_by, jobs_of}
use Rattle.trace_lines.specs.Plain.{plain}

-- the request is one of these
abbrev pub Among : List Job → Job → Type 0
Among jobs job = (k : ℕ) × (slice_get jobs k ≡ Some job)

pub conn_itself : (c : ConnId) → same_conn c c ≡ true
conn_itself c = rw (eq-eqb c.slot c.slot refl, eq-eqb c.nth c.nth refl) refl

pub name_itself : (job : Job) → same_name job job ≡ true
name_itself job = rw (conn_itself job.conn, eq-eqb job.serial job.serial refl) refl

pub pred_same : (i k : ℕ) → suc i ≡ suc k → i ≡ k
pred_same i k e = omega arith

apart_later : (j : Job) (js : List Job) → NoNameTwice (j ∷ js) → NoNameTwice js
apart_later j js apart i k a b g h same = pred_same i k (apart (suc i) (suc k) a b g h same)

-- a request's number is its place
pub number_is : (jobs : List Job) (k : ℕ) (job : Job) → NoNameTwice jobs → slice_get jobs k ≡ Some job → number jobs job ≡ k
number_is [] k job apart g = absurd (none-some job g)
number_is (j ∷ js) zero job apart g =
    ap (λ (b : Bool). if b then 0 else 1 + number js job) (ap (λ (x : Job). same_name x job) (same_Some j job g) ∙ name_itself job)
number_is (j ∷ js) (suc k) job apart g = elim (cases_Bool (same_name j job)) [
  | inl t ↦ absurd (let e : 0 ≡ suc k = apart 0 (suc k) j job refl g t in omega arith)
  | inr f ↦ ap (λ (b : Bool). if b then 0 else 1 + number js job) f ∙ (let h = number_is js k job (apart_later j js apart) g in omega arith)
]

-- and there its plain form is
pub plain_there : (jobs : List Job) (job : Job) → NoNameTwice jobs → Among jobs job → slice_get (map plain jobs) (number jobs job) ≡ Some (plain job)
plain_there jobs job apart at =
    ap (slice_get (map plain jobs)) (number_is jobs at.0 job apart at.1) ∙ (slice_get-map plain jobs at.0 ∙ ap (option_map plain) at.1)

-- two requests of one number are one
pub one_number : (jobs : List Job) (a b : Job) → NoNameTwice jobs → Among jobs a → Among jobs b → number jobs a ≡ number jobs b → a ≡ b
one_number jobs a b apart x y e =
    let k : x.0 ≡ y.0 = sym (number_is jobs x.0 a apart x.1) ∙ (e ∙ number_is jobs y.0 b apart y.1) in
    same_Some a b (sym x.1 ∙ (ap (slice_get jobs) k ∙ y.1))

offered_by_is : (jobs : List Job) (c : LaneCall) (r : LaneReply) → offered_by (action_of (number jobs) c r) ≡ map plain (offered c)
offered_by_is jobs (Offer job) r = refl
offered_by_is jobs (Post n) r = refl
offered_by_is jobs (Cancel conn id) r = refl
offered_by_is jobs (Take t) r = refl
offered_by_is jobs (Finish t a) r = refl
offered_by_is jobs (Collect conn) r = refl
offered_by_is jobs (End conn how) r = refl
offered_by_is jobs (Leave slot) r = refl

-- the jobs of the lines of a history are the plain forms of what it offers
pub jobs_are : (jobs : List Job) (h : History) → jobs_of (map (line_of (number jobs)) h) ≡ map plain (offers h)
jobs_are jobs [] = refl
jobs_are jobs (e ∷ es) =
    (λ i. offered_by_is jobs e.call e.reply i ++ jobs_are jobs es i) ∙ sym (map-append plain (offered e.call) (offers es))

-- each is one of those
abbrev pub AllAmong : List Job → List Job → Type 0
AllAmong jobs [] = Unit {0}
AllAmong jobs (j ∷ js) = Among jobs j × AllAmong jobs js

pub offered_parts : (jobs : List Job) (c : LaneCall) (rest : List Job) → AllAmong jobs (offered c ++ rest) → AllAmong jobs (offered c) × AllAmong jobs rest
offered_parts jobs (Offer job) rest a = ((a.0, tt), a.1)
offered_parts jobs (Post n) rest a = (tt, a)
offered_parts jobs (Cancel conn id) rest a = (tt, a)
offered_parts jobs (Take t) rest a = (tt, a)
offered_parts jobs (Finish t x) rest a = (tt, a)
offered_parts jobs (Collect conn) rest a = (tt, a)
offered_parts jobs (End conn how) rest a = (tt, a)
offered_parts jobs (Leave slot) rest a = (tt, a)

shifted : (j : Job) (jobs some : List Job) → AllAmong jobs some → AllAmong (j ∷ jobs) some
shifted j jobs [] a = tt
shifted j jobs (x ∷ xs) a = ((suc a.0.0, a.0.1), shifted j jobs xs a.1)

pub all_among : (jobs : List Job) → AllAmong jobs jobs
all_among [] = tt
all_among (j ∷ js) = ((0, refl), shifted j js js (all_among js))
