-- Reading values one after the other, as a loop does.
use Rattle.std.proofs.Common.{◌≡◌, ℕ, suc, ◌-◌, ◌+◌, ◌≤◌, ◌<◌, List, [], ◌∷◌, ◌++◌, map, length, drop, Result, Ok, Err, refl, sym, ap, ◌∙◌, append_assoc, arith, rules}
use Rattle.std.proofs.lemmas.List.{append-nil, drop_all}
use Rattle.cdr_core.specs.declared.fault.CdrFault.{CdrFault}
use Rattle.cdr_values.specs.declared.fault.DecodeFault.{DecodeFault}
use Rattle.cdr_values.specs.declared.fault.DecodeFault.TheVariants.{Cdr, NoMemory}
use Rattle.cdr_values.specs.declared.kind.Member.{Member}
use Rattle.cdr_values.specs.declared.kind.IdlType.TheFolds.{fold_out-Member}
use Rattle.cdr_values.specs.Trees.{Value, Kind, Branch, members_of}
use Rattle.cdr_core.specs.Cursor.{Cursor, Reads}
use Rattle.cdr_core.specs.Sequence.{◌>>=◌}
use Rattle.cdr_values.specs.Gives.{Refuses}
use Rattle.cdr_values.specs.Reading.{with_front, then_values, times, read, read_members}
use Rattle.cdr_values.specs.Kinds.{kind_step, case_step, member_step, kind_of, member_of, members_view}

regroup : (front : List Value) (v : Value) (r : Reads (List Value)) → with_front front (with_front (v ∷ []) r) ≡ with_front (front ++ v ∷ []) r
regroup front v (Ok x) = ap (λ (vs : List Value). Ok (vs, x.1)) (simp append_assoc)
regroup front v (Err f) = refl

no_more : (front : List Value) (c : Cursor) → with_front front (Ok ([], c)) ≡ Ok (front, c)
no_more front c = ap (λ (vs : List Value). Ok (vs, c)) (append-nil front)

-- ---- the same reading several times

pub times_on : (one : Cursor → Reads Value) (front : List Value) (n i : ℕ) (c : Cursor) (v : Value) (after : Cursor) (total : Reads (List Value)) → i < n → one c ≡ Ok (v, after)
    → with_front front (times one (n - i) c) ≡ total → with_front (front ++ v ∷ []) (times one (n - (i + 1)) after) ≡ total
unfolding times
times_on one front n i c v after total lt h so_far =
    let k : n - i ≡ suc (n - (i + 1)) = omega arith in
    let here : with_front front (times one (n - i) c) ≡ with_front (front ++ v ∷ []) (times one (n - (i + 1)) after) = rw (k, h) (regroup front v (times one (n - (i + 1)) after)) in
    sym here ∙ so_far

pub times_fails : (e : DecodeFault) (one : Cursor → Reads Value) (front : List Value) (n i : ℕ) (c : Cursor) (total : Reads (List Value)) → i < n → Refuses e (one c)
    → with_front front (times one (n - i) c) ≡ total → Refuses e total
unfolding times
times_fails NoMemory one front n i c total lt h so_far = tt
times_fails (Cdr f) one front n i c total lt h so_far =
    let k : n - i ≡ suc (n - (i + 1)) = omega arith in
    let here : with_front front (times one (n - i) c) ≡ Err f = rw (k, h) refl in
    sym so_far ∙ here

pub times_done : (one : Cursor → Reads Value) (front : List Value) (n i : ℕ) (c : Cursor) (total : Reads (List Value)) → n ≤ i → with_front front (times one (n - i) c) ≡ total → total ≡ Ok (front, c)
unfolding times
times_done one front n i c total le so_far =
    let k : n - i ≡ 0 = omega arith in
    let here : with_front front (times one (n - i) c) ≡ Ok (front, c) = rw k (no_more front c) in
    sym so_far ∙ here

-- ---- the members of a struct

pub member_kind : (m : Member) → (member_of m).1 ≡ kind_of m.kind
member_kind m = ap (λ (x : List ℕ × Kind). x.1) (fold_out-Member Kind Branch (List ℕ × Kind) kind_step case_step member_step m)

pub members_on : (front : List Value) (ms : List Member) (m : Member) (more : List Member) (c : Cursor) (v : Value) (after : Cursor) (total : Reads (List Value)) → ms ≡ m ∷ more → read (kind_of m.kind) c ≡ Ok (v, after)
    → with_front front (read_members (members_of (members_view ms)) c) ≡ total → with_front (front ++ v ∷ []) (read_members (members_of (members_view more)) after) ≡ total
unfolding read_members
members_on front ms m more c v after total is h so_far =
    let here : with_front front (read_members (members_of (members_view ms)) c) ≡ with_front (front ++ v ∷ []) (read_members (members_of (members_view more)) after) = rw (is, member_kind m, h) (regroup front v (read_members (members_of (members_view more)) after)) in
    sym here ∙ so_far

pub members_fail : (e : DecodeFault) (front : List Value) (ms : List Member) (m : Member) (more : List Member) (c : Cursor) (total : Reads (List Value)) → ms ≡ m ∷ more → Refuses e (read (kind_of m.kind) c)
    → with_front front (read_members (members_of (members_view ms)) c) ≡ total → Refuses e total
unfolding read_members
members_fail NoMemory front ms m more c total is h so_far = tt
members_fail (Cdr f) front ms m more c total is h so_far =
    let here : with_front front (read_members (members_of (members_view ms)) c) ≡ Err f = rw (is, member_kind m, h) refl in
    sym so_far ∙ here

pub members_done : (front : List Value) (ms : List Member) (c : Cursor) (total : Reads (List Value)) → ms ≡ [] → with_front front (read_members (members_of (members_view ms)) c) ≡ total → total ≡ Ok (front, c)
unfolding read_members
members_done front ms c total none so_far =
    let here : with_front front (read_members (members_of (members_view ms)) c) ≡ Ok (front, c) = rw none (no_more front c) in
    sym so_far ∙ here
