-- Messages that can be cut, by their headers.
use Rattle.std.proofs.Common.{◌≡◌, ℕ, ◌+◌, ◌≤◌, Bool, true, false, List, length, Ok, Err, ap, sym, ◌∙◌, subst, arith}
use Rattle.std.specs.Prelude.{IsTrue, ◌↔◌}
use Rattle.giop_frames.specs.declared.fault.FrameCause.{FrameCause}
use Rattle.giop_frames.specs.declared.header.Header.{Header}
use Rattle.giop_frames.specs.Kinds.{is_long_kind}
use Rattle.giop_frames.specs.Pieces.{kind_of, piece_len}
use Rattle.giop_frames.specs.Headers.{header_at}
use Rattle.giop_frames.specs.Splitting.{IsUncut, CountsUncut}
use Rattle.giop_frames.proofs.Heads.{head_is, head_there}
use Rattle.giop_frames.proofs.PieceStreams.{long_kind}

counts : (message : List ℕ) (h : Header) → header_at message ≡ Ok h → IsUncut message → CountsUncut h (length message)
unfolding piece_len
counts message h e u =
    let i = head_is message h e in
    record {
      id = u.id;
      alone = ap (λ (x : Header). x.more) i.is ∙ u.alone;
      kind = ap is_long_kind i.number_is ∙ u.kind;
      size = u.size ∙ ap (λ (n : ℕ). 12 + n) (sym (ap (λ (x : Header). x.size) i.is));
    }

is_uncut : (message : List ℕ) (h : Header) → header_at message ≡ Ok h → CountsUncut h (length message) → IsUncut message
unfolding piece_len
is_uncut message h e c =
    let i = head_is message h e in
    record {
      magic = i.magic;
      version = i.version;
      alone = sym (ap (λ (x : Header). x.more) i.is) ∙ c.alone;
      kind = ap is_long_kind (sym i.number_is) ∙ c.kind;
      size = c.size ∙ ap (λ (n : ℕ). 12 + n) (ap (λ (x : Header). x.size) i.is);
      id = c.id;
    }

pub uncut_by : (message : List ℕ) (h : Header) (len : ℕ) (r : Bool) → Ok h ≡ header_at message → len ≡ length message → (IsTrue r ↔ CountsUncut h len) → (IsTrue r ↔ IsUncut message)
uncut_by message h len r e l c =
    let P : ℕ → Type 0 = λ n. CountsUncut h n in
    ((λ t. is_uncut message h (sym e) (subst P l (c.0 t))), λ u. c.1 (subst P (sym l) (counts message h (sym e) u)))

not_lt_seven : (k : ℕ) → is_long_kind k ≡ true → k ≤ 7
not_lt_seven k h = let t = (long_kind k h).2 in grind arith

pub uncut_not : (message : List ℕ) (cause : FrameCause) → Err cause ≡ header_at message → (IsTrue false ↔ IsUncut message)
uncut_not message cause e = (
  (λ t. absurd (cc)),
  λ u. absurd (let t = head_there message u.magic u.version (not_lt_seven (kind_of message) u.kind) in let both = e ∙ t.1 in cc),
)
