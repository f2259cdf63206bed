-- The numbers of the requests of a history, kept from its end on.
use Rattle.std.proofs.Common.{◌≡◌, ℕ, ◌+◌, ◌<◌, ◌≤◌, ◌==◌, ◌&&◌, zero, suc, Bool, true, false, cond, List, [], ◌∷◌, ◌++◌, Option, Some, length, drop, get_or, refl, sym, ap, subst, ◌∙◌, arith, length-append}
use Rattle.std.specs.Prelude.{count_by, unwrap_or, if◌then◌else◌}
use Rattle.std.specs.HashMap.{IsEmpty}
use Rattle.std.specs.Map.{lookup}
use Rattle.std.proofs.lemmas.List.{drop_all, drop_more}
use Rattle.std.proofs.lemmas.List.Sums.{sum_by-cons}
use Rattle.orb_base.specs.declared.job.Job.{Job}
use Rattle.lane_machine.specs.Entries.{One}
use Rattle.lane_machine.specs.Histories.{History}
use Rattle.lane_machine.specs.declared.call.LaneCall.{LaneCall}
use Rattle.lane_machine.specs.declared.call.LaneCall.TheVariants.{Offer, Post, Cancel, Take, Finish, Collect, End, Leave}
use Rattle.trace_lines.specs.Offers.{offered, offers, same_name, number}
use Rattle.trace_lines.specs.Numbers.{NumberMap, offers_one, is_offer, same_job, name_of, number_at, NumbersFrom, GoesBack, IsNumbering}

-- how many requests a call and a history offer
one_offer : (c : LaneCall) → ◌≡◌ {A = ℕ} (cond (offers_one c) 1 0) (length (offered c))
one_offer (Offer job) = refl
one_offer (Post n) = refl
one_offer (Cancel conn id) = refl
one_offer (Take t) = refl
one_offer (Finish t a) = refl
one_offer (Collect conn) = refl
one_offer (End conn how) = refl
one_offer (Leave slot) = refl

pub counted : (h : History) → count_by is_offer h ≡ length (offers h)
unfolding is_offer
counted [] = refl
counted (e ∷ es) =
    let a = counted es in let b = sum_by-cons (λ (x : One). cond (is_offer x) 1 0) e es in let c = one_offer e.call in
    let d = length-append (offered e.call) (offers es) in omega arith

-- a later part offers no more
offers_after : (i : ℕ) (h : History) → length (offers (drop i h)) ≤ length (offers h)
offers_after zero h = omega arith
offers_after (suc i) [] = omega arith
offers_after (suc i) (e ∷ es) = let a = offers_after i es in let b = length-append (offered e.call) (offers es) in omega arith

-- the part from an entry on
from_entry : (i : ℕ) (h : History) (e : One) → i < length h → e ≡ get_or h i e → drop i h ≡ e ∷ drop (i + 1) h
from_entry i h e within is = drop_more h i e within ∙ ap (λ (x : One). x ∷ drop (i + 1) h) (sym is)

-- there is a number for the request that an entry offers
pub enough_before : (i j next all : ℕ) (h : History) (e : One) → i < length h → j ≡ i + 1 → e ≡ get_or h i e → all ≡ length (offers h)
    → next + length (offers (drop j h)) ≡ all → length (offered e.call) ≤ next
enough_before i j next all h e within after is whole sums =
    let a = offers_after i h in
    let b : length (offers (drop i h)) ≡ length (offered e.call ++ offers (drop (i + 1) h)) = ap (λ (z : History). length (offers z)) (from_entry i h e within is) in
    let c = length-append (offered e.call) (offers (drop (i + 1) h)) in
    let d : length (offers (drop j h)) ≡ length (offers (drop (i + 1) h)) = ap (λ (n : ℕ). length (offers (drop n h))) after in omega arith

-- nothing is offered after the last entry
pub none_after : (numbers : NumberMap) (h : History) (all : ℕ) → IsEmpty numbers → NumbersFrom numbers all all (offers (drop (length h) h))
none_after numbers h all none = λ job.
    let d : number (offers (drop (length h) h)) job ≡ 0 = ap (λ (z : History). number (offers z) job) (drop_all (length h) h (omega arith)) in
    let x : unwrap_or (number_at numbers (name_of job)) all ≡ all = ap (λ es. unwrap_or (lookup (same_job (name_of job)) es) all) none in omega arith

pub none_counted : (h : History) → length (offers (drop (length h) h)) ≡ 0
none_counted h = ap (λ (z : History). length (offers z)) (drop_all (length h) h (omega arith))

-- three parts of a name are compared in any order of the brackets
and_assoc : (a b c : Bool) → ◌≡◌ {A = Bool} ((a && b) && c) (a && (b && c))
and_assoc true b c = refl
and_assoc false b c = refl

-- the number of a name, where that of one before it is kept
choose : (b : Bool) (o : Option ℕ) (all here next n : ℕ) → here + 1 ≡ next → unwrap_or o all ≡ next + n → unwrap_or (if b then Some here else o) all ≡ here + (if b then 0 else 1 + n)
choose true o all here next n step is = omega arith
choose false o all here next n step is = omega arith

same_numbers : (jobs : List Job) (all next here : ℕ) (old new : NumberMap) → NumbersFrom old all next jobs → (here ≡ next) × (new ≡ old) → NumbersFrom new all here jobs
same_numbers jobs all next here old new is same = λ job.
    let a = is job in let b : unwrap_or (number_at new (name_of job)) all ≡ unwrap_or (number_at old (name_of job)) all = ap (λ (m : NumberMap). unwrap_or (number_at m (name_of job)) all) same.1 in
    let c = same.0 in omega arith

go_back : (c : LaneCall) (rest : List Job) (all next here : ℕ) (old new : NumberMap) → NumbersFrom old all next rest → GoesBack (offered c) next here old new → NumbersFrom new all here (offered c ++ rest)
go_back (Offer job) rest all next here old new is back = λ x.
    let same : ◌≡◌ {A = Bool} (same_name job x) (same_job (name_of job) (name_of x)) =
    and_assoc (job.conn.slot == x.conn.slot) (job.conn.nth == x.conn.nth) (job.serial == x.serial) in
    ap (λ (o : Option ℕ). unwrap_or o all) (back.1 (name_of x))
    ∙ choose (same_job (name_of job) (name_of x)) (number_at old (name_of x)) all here next (number rest x) back.0 (is x)
    ∙ ap (λ (b : Bool). here + (if b then 0 else 1 + number rest x)) (sym same)
go_back (Post n) rest all next here old new is back = same_numbers rest all next here old new is back
go_back (Cancel conn id) rest all next here old new is back = same_numbers rest all next here old new is back
go_back (Take t) rest all next here old new is back = same_numbers rest all next here old new is back
go_back (Finish t a) rest all next here old new is back = same_numbers rest all next here old new is back
go_back (Collect conn) rest all next here old new is back = same_numbers rest all next here old new is back
go_back (End conn how) rest all next here old new is back = same_numbers rest all next here old new is back
go_back (Leave slot) rest all next here old new is back = same_numbers rest all next here old new is back

count_back : (c : LaneCall) (rest : List Job) (next here : ℕ) (old new : NumberMap) → GoesBack (offered c) next here old new → here + length (offered c ++ rest) ≡ next + length rest
count_back (Offer job) rest next here old new back = let a = back.0 in omega arith
count_back (Post n) rest next here old new back = let a = back.0 in omega arith
count_back (Cancel conn id) rest next here old new back = let a = back.0 in omega arith
count_back (Take t) rest next here old new back = let a = back.0 in omega arith
count_back (Finish t a) rest next here old new back = let a = back.0 in omega arith
count_back (Collect conn) rest next here old new back = let a = back.0 in omega arith
count_back (End conn how) rest next here old new back = let a = back.0 in omega arith
count_back (Leave slot) rest next here old new back = let a = back.0 in omega arith

-- one more entry
pub one_before : (i j next here all : ℕ) (h : History) (e : One) (old new : NumberMap) → i < length h → j ≡ i + 1 → e ≡ get_or h i e
    → NumbersFrom old all next (offers (drop j h)) → GoesBack (offered e.call) next here old new → NumbersFrom new all here (offers (drop i h))
one_before i j next here all h e old new within after is so back =
    subst (λ (z : History). NumbersFrom new all here (offers z)) (sym (from_entry i h e within is))
    (go_back e.call (offers (drop (i + 1) h)) all next here old new (subst (λ (n : ℕ). NumbersFrom old all next (offers (drop n h))) after so) back)

pub one_counted : (i j next here all : ℕ) (h : History) (e : One) (old new : NumberMap) → i < length h → j ≡ i + 1 → e ≡ get_or h i e
    → next + length (offers (drop j h)) ≡ all → GoesBack (offered e.call) next here old new → here + length (offers (drop i h)) ≡ all
one_counted i j next here all h e old new within after is so back =
    let a = count_back e.call (offers (drop (i + 1) h)) next here old new back in
    let b : length (offers (drop i h)) ≡ length (offered e.call ++ offers (drop (i + 1) h)) = ap (λ (z : History). length (offers z)) (from_entry i h e within is) in
    let d : length (offers (drop j h)) ≡ length (offers (drop (i + 1) h)) = ap (λ (n : ℕ). length (offers (drop n h))) after in omega arith

-- all entries
pub all_numbered : (i next all : ℕ) (h : History) (numbers : NumberMap) → i ≡ 0 → all ≡ length (offers h) → next + length (offers (drop i h)) ≡ all → NumbersFrom numbers all next (offers (drop i h))
    → IsNumbering (offers h) (record { first = numbers; count = all })
all_numbered i next all h numbers first whole sums is = λ job.
    let d : number (offers (drop i h)) job ≡ number (offers h) job = ap (λ (n : ℕ). number (offers (drop n h)) job) first in
    let e : length (offers (drop i h)) ≡ length (offers h) = ap (λ (n : ℕ). length (offers (drop n h))) first in
    let x = is job in omega arith
