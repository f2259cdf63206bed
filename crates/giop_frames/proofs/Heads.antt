-- Headers, and the kinds of their numbers.
use Rattle.std.proofs.Common.{◌≡◌, ℕ, zero, suc, ◌+◌, ◌≤◌, Bool, true, false, cond, not, ◌&&◌, ◌==◌, List, [], ◌∷◌, length, Option, Some, None, Result, Ok, Err, refl, ap, sym, ◌∙◌, subst, arith, nat_lt}
use Rattle.std.specs.Prelude.{find, ◌%◌}
use Rattle.orb_base.specs.declared.order.Order.{Order}
use Rattle.giop_frames.specs.declared.fault.FrameCause.{FrameCause}
use Rattle.giop_frames.specs.declared.fault.FrameCause.TheVariants.{BadMagic, BadVersion, BadPiece, TooLong}
use Rattle.giop_frames.specs.declared.kind.Kind.{Kind}
use Rattle.giop_frames.specs.declared.kind.Kind.TheVariants.{Request, Reply, CancelRequest, LocateRequest, LocateReply, CloseConnection, MessageError, Fragment}
use Rattle.giop_frames.specs.declared.header.Header.{Header}
use Rattle.giop_frames.specs.Kinds.{number, kinds, is_kind, kind_by, comes_whole}
use Rattle.giop_frames.specs.Pieces.{order_of, has_more, kind_of, size_of, piece_len, id_of}
use Rattle.giop_frames.specs.Headers.{has_magic, has_version, with_kind, header_at, BeginsWith}
use Rattle.giop_frames.specs.Messages.{Partial, open_at}
use Rattle.giop_frames.specs.Stream.{header_rule, header_cause, fragment_cause, first_cause, piece_rule, piece_cause}

-- ---- kinds

found_one : (t : Kind → Bool) (j k : Kind) (ks : List Kind) (b : Bool) → t j ≡ b → (find t ks ≡ Some k → t k ≡ true) → cond b (Some j) (find t ks) ≡ Some k → t k ≡ true
found_one t j k ks true e rec h = let same : j ≡ k = (let s : Some j ≡ Some k = h in cc) in ap t (sym same) ∙ e
found_one t j k ks false e rec h = rec h

found : (t : Kind → Bool) (ks : List Kind) (k : Kind) → find t ks ≡ Some k → t k ≡ true
found t [] k h = absurd (cc)
found t (j ∷ ks) k h = found_one t j k ks (t j) refl (found t ks k) h

pub number_is : (n : ℕ) (k : Kind) → kind_by n ≡ Some k → number k ≡ n
unfolding kind_by
number_is n k h = let t : (n == number k) ≡ true = found (λ kind. is_kind kind n) kinds k h in grind arith

few : (k : Kind) → number k ≤ 7
few Request = omega arith
few Reply = omega arith
few CancelRequest = omega arith
few LocateRequest = omega arith
few LocateReply = omega arith
few CloseConnection = omega arith
few MessageError = omega arith
few Fragment = omega arith

kind_there : (n : ℕ) → n ≤ 7 → (k : Kind) × (kind_by n ≡ Some k)
unfolding kind_by
kind_there zero h = (Request, refl)
kind_there (suc zero) h = (Reply, refl)
kind_there (suc (suc zero)) h = (CancelRequest, refl)
kind_there (suc (suc (suc zero))) h = (LocateRequest, refl)
kind_there (suc (suc (suc (suc zero)))) h = (LocateReply, refl)
kind_there (suc (suc (suc (suc (suc zero))))) h = (CloseConnection, refl)
kind_there (suc (suc (suc (suc (suc (suc zero)))))) h = (MessageError, refl)
kind_there (suc (suc (suc (suc (suc (suc (suc zero))))))) h = (Fragment, refl)
kind_there (suc (suc (suc (suc (suc (suc (suc (suc n)))))))) h = absurd (omega arith)

-- ---- headers

-- a header of a kind
abbrev pub head : List ℕ → Kind → Header
head bytes kind = record { order = order_of bytes; more = has_more bytes; kind = kind; size = size_of bytes }

-- what a header that is there says
pub record IsHead (bytes : List ℕ) (h : Header) : Type 0 where
  pub magic : has_magic bytes ≡ true
  pub version : has_version bytes ≡ true
  pub number_is : number h.kind ≡ kind_of bytes
  pub is : h ≡ head bytes h.kind

abbrev as_ok : Header → Result Header FrameCause
as_ok h = Ok h

ok_same : (a b : Header) → as_ok a ≡ as_ok b → a ≡ b
ok_same a b e = cc

head_by : (bytes : List ℕ) (h : Header) (m v : Bool) (o : Option Kind) → has_magic bytes ≡ m → has_version bytes ≡ v → kind_by (kind_of bytes) ≡ o
    → cond (not m) (Err BadMagic) (cond (not v) (Err BadVersion) (with_kind bytes o)) ≡ Ok h → IsHead bytes h
head_by bytes h false v o em ev eo e = absurd (cc)
head_by bytes h true false o em ev eo e = absurd (cc)
head_by bytes h true true None em ev eo e = absurd (cc)
head_by bytes h true true (Some k) em ev eo e =
    let q : head bytes k ≡ h = ok_same (head bytes k) h e in
    let P : Header → Type 0 = λ x. x ≡ head bytes x.kind in
    record {
      magic = em;
      version = ev;
      number_is = ap (λ (x : Header). number x.kind) (sym q) ∙ number_is (kind_of bytes) k eo;
      is = subst P q refl;
    }

pub head_is : (bytes : List ℕ) (h : Header) → header_at bytes ≡ Ok h → IsHead bytes h
unfolding header_at
head_is bytes h e = head_by bytes h (has_magic bytes) (has_version bytes) (kind_by (kind_of bytes)) refl refl refl e

pub head_few : (bytes : List ℕ) (h : Header) → header_at bytes ≡ Ok h → kind_of bytes ≤ 7
head_few bytes h e = let i = head_is bytes h e in omega (arith, i.number_is, few h.kind)

pub begins : (bytes : List ℕ) (h : Header) → 12 ≤ length bytes → header_at bytes ≡ Ok h → BeginsWith h bytes
begins bytes h l e =
    let i = head_is bytes h e in
    record {
      long = l;
      order = ap (λ (x : Header). x.order) i.is;
      more = ap (λ (x : Header). x.more) i.is;
      kind = i.number_is;
      size = ap (λ (x : Header). x.size) i.is;
    }

pub head_there : (bytes : List ℕ) → has_magic bytes ≡ true → has_version bytes ≡ true → kind_of bytes ≤ 7 → (k : Kind) × (header_at bytes ≡ Ok (head bytes k))
unfolding header_at
head_there bytes m v n = let k = kind_there (kind_of bytes) n in (k.0, rw (m, v, k.1) refl)

-- ---- headers under a limit

pub not_lt : (n m : ℕ) → nat_lt n m ≡ false → m ≤ n
not_lt n m h = grind arith

long_none : (b : Bool) → cond b (Some TooLong) None ≡ None → b ≡ false
long_none true h = absurd (cc)
long_none false h = refl

sound_by : (limit : ℕ) (r : Result Header FrameCause) → header_rule limit r ≡ None → (h : Header) × (r ≡ Ok h) × (12 + h.size ≤ limit)
sound_by limit (Err c) e = absurd (cc)
sound_by limit (Ok h) e = (h, refl, not_lt limit (12 + h.size) (long_none (nat_lt limit (12 + h.size)) e))

-- a header that breaks no rule
pub sound_head : (limit : ℕ) (bytes : List ℕ) → header_cause limit bytes ≡ None → (h : Header) × (header_at bytes ≡ Ok h) × (12 + h.size ≤ limit)
unfolding header_cause
sound_head limit bytes e = sound_by limit (header_at bytes) e

pub header_passes : (limit : ℕ) (p : List ℕ) → has_magic p ≡ true → has_version p ≡ true → nat_lt 7 (kind_of p) ≡ false → nat_lt limit (piece_len p) ≡ false → header_cause limit p ≡ None
unfolding header_cause piece_len
header_passes limit p m v k l =
    let t = head_there p m v (not_lt 7 (kind_of p) k) in
    ap (header_rule limit) t.1 ∙ ap (λ (b : Bool). cond b (Some TooLong) None) l

pub header_within : (limit : ℕ) (bytes : List ℕ) → header_cause limit bytes ≡ None → piece_len bytes ≤ limit
unfolding piece_len
header_within limit bytes e =
    let s = sound_head limit bytes e in
    let i = head_is bytes s.0 s.1 in omega (arith, s.2, ap (λ (x : Header). x.size) i.is)

-- ---- whole pieces

-- the rule that a whole piece breaks, by whether more follow, the number of its kind and its order
abbrev pub rule : ℕ → List Partial → List ℕ → Bool → ℕ → Order → Option FrameCause
rule limit us bytes more n order =
    cond (more && comes_whole n) (Some BadPiece) (cond (more && not (length bytes % 8 == 0)) (Some BadPiece)
    (cond (is_kind Fragment n) (cond (nat_lt (length bytes) 16) (Some BadPiece) (fragment_cause limit order (length bytes) (open_at (id_of bytes) us)))
    (cond more (first_cause us (id_of bytes)) None)))

pub rule_is : (limit : ℕ) (us : List Partial) (bytes : List ℕ) (h : Header) → header_at bytes ≡ Ok h → piece_cause limit us bytes ≡ rule limit us bytes (has_more bytes) (kind_of bytes) (order_of bytes)
unfolding piece_cause
rule_is limit us bytes h e =
    let i = head_is bytes h e in
    ap (piece_rule limit us (length bytes) (id_of bytes)) e
    ∙ ap (λ (m : Bool). rule limit us bytes m (number h.kind) h.order) (ap (λ (x : Header). x.more) i.is)
    ∙ ap (λ (n : ℕ). rule limit us bytes (has_more bytes) n h.order) i.number_is
    ∙ ap (λ (o : Order). rule limit us bytes (has_more bytes) (kind_of bytes) o) (ap (λ (x : Header). x.order) i.is)

-- of a piece whose header breaks no rule
pub rule_sound : (limit : ℕ) (us : List Partial) (bytes : List ℕ) → header_cause limit bytes ≡ None → piece_cause limit us bytes ≡ rule limit us bytes (has_more bytes) (kind_of bytes) (order_of bytes)
rule_sound limit us bytes e = let s = sound_head limit bytes e in rule_is limit us bytes s.0 s.1

-- a whole piece that breaks no rule has a header
none_by : (limit : ℕ) (us : List Partial) (bytes : List ℕ) (r : Result Header FrameCause) → header_at bytes ≡ r → piece_rule limit us (length bytes) (id_of bytes) r ≡ None → (h : Header) × (header_at bytes ≡ Ok h)
none_by limit us bytes (Err c) e h = absurd (cc)
none_by limit us bytes (Ok x) e h = (x, e)

pub none_rule : (limit : ℕ) (us : List Partial) (bytes : List ℕ) → piece_cause limit us bytes ≡ None → rule limit us bytes (has_more bytes) (kind_of bytes) (order_of bytes) ≡ None
unfolding piece_cause
none_rule limit us bytes e =
    let t = none_by limit us bytes (header_at bytes) refl e in sym (rule_is limit us bytes t.0 t.1) ∙ e
