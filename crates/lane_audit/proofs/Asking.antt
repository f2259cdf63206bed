-- The requests of lines, one line after another.
use Rattle.std.proofs.Common.{◌≡◌, ℕ, ◌+◌, ◌<◌, ◌≤◌, Bool, true, false, List, [], ◌∷◌, ◌++◌, length, take, get_or, inl, inr, sym, refl, ap, subst, ◌∙◌, arith, append-nil, append_assoc, eq-eqb, ne_eqb, get_or-set_same, get_or-set_other}
use Rattle.std.specs.Prelude.{slice_set, slice_index, ◌==◌, if◌then◌else◌}
use Rattle.std.proofs.lemmas.Bool.{cases_eq}
use Rattle.std.proofs.lemmas.List.{take_more, take_all, length-set}
use Rattle.orb_base.specs.declared.job.Job.{Job}
use Rattle.trace_lines.specs.declared.trace_line.TraceLine.{TraceLine}
use Rattle.trace_lines.specs.ReadBack.{jobs_of, offered_by}
use Rattle.lane_audit.specs.declared.offers.Offers.{Offers}
use Rattle.lane_audit.specs.Counting.{AreZeros}
use Rattle.lane_audit.specs.Resolved.{HasOffers, IsLenSet}

jobs_push : (ls : List TraceLine) (l : TraceLine) → jobs_of (ls ++ l ∷ []) ≡ jobs_of ls ++ offered_by l.action
jobs_push [] l = append-nil (offered_by l.action)
jobs_push (x ∷ xs) l = ap (λ (z : List Job). offered_by x.action ++ z) (jobs_push xs l) ∙ sym (append_assoc (offered_by x.action) (jobs_of xs) (offered_by l.action))

-- one more line
pub jobs_more : (lines : List TraceLine) (i : ℕ) (l : TraceLine) (jobs jobs' : List Job) → jobs ≡ jobs_of (take i lines) → i < length lines → l ≡ get_or lines i l → jobs' ≡ jobs ++ offered_by l.action
    → jobs' ≡ jobs_of (take (i + 1) lines)
jobs_more lines i l jobs jobs' so within here more =
    more ∙ ap (λ (z : List Job). z ++ offered_by l.action) so
    ∙ sym (ap jobs_of (take_more lines i l within ∙ ap (λ (z : TraceLine). take i lines ++ z ∷ []) (sym here)) ∙ jobs_push (take i lines) l)

-- all lines
pub jobs_all : (lines : List TraceLine) (i : ℕ) (jobs : List Job) → jobs ≡ jobs_of (take i lines) → length lines ≤ i → jobs ≡ jobs_of lines
jobs_all lines i jobs so past = so ∙ ap jobs_of (take_all i lines past)

-- a table of the requests of lines, and of zeros
pub has_offers : (lines : List TraceLine) (offers : Offers) (n : ℕ) → offers.asked.items ≡ jobs_of lines → n ≡ length offers.asked.items → AreZeros offers.lens.items n → HasOffers lines offers
has_offers lines offers n asked many zeros = record {
  asked = asked;
  lens = subst (AreZeros offers.lens.items) (many ∙ ap (length {A = Job}) asked) zeros;
}

-- a length that is set
pub len_set : (old : List ℕ) (request len : ℕ) → request < length old → IsLenSet old (slice_set old request len) request len
len_set old request len there = record {
  many = length-set old request len;
  each = λ k b. elim (cases_eq request k) [
    | inl same ↦ (let e : request == k ≡ true = eq-eqb request k same in
        ap (λ (n : ℕ). slice_index (slice_set old request len) n) (sym same) ∙ get_or-set_same old request len 0 there ∙ sym (ap (λ (x : Bool). if x then len else slice_index old k) e))
    | inr other ↦ (let e : request == k ≡ false = ne_eqb request k other in
        get_or-set_other old request k len 0 (λ p. other (sym p)) ∙ sym (ap (λ (x : Bool). if x then len else slice_index old k) e))
  ];
}

-- a length that isn't there
pub len_kept : (old : List ℕ) (request len : ℕ) → length old ≤ request → IsLenSet old old request len
len_kept old request len past = record {
  many = refl;
  each = λ k b. sym (ap (λ (x : Bool). if x then len else slice_index old k) (ne_eqb request k (λ same. absurd (omega arith))));
}
