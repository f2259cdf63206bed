-- What is spelled is read as the message that was spelled.
use Rattle.std.proofs.Common.{◌≡◌, ℕ, ◌+◌, ◌^◌, ◌<◌, ◌/◌, ◌%◌, List, [], ◌∷◌, ◌++◌, length, drop, replicate, refl, sym, ap, ◌∙◌, arith, lit<}
use Rattle.std.proofs.Math.Seq.{drop-nil}
use Rattle.std.proofs.lemmas.List.{append-nil, drop_at, length-replicate}
use Rattle.orb_base.specs.declared.order.Order.{Order}
use Rattle.orb_base.specs.declared.order.Order.TheVariants.{Big, Little}
use Rattle.cdr_core.specs.Alignment.{pad_len}
use Rattle.cdr_core.specs.Field.{fields_end}
use Rattle.cdr_core.specs.Spelling.{fields_bytes}
use Rattle.cdr_core.proofs.CallerLemmas.{spelled_zeros, fields_bytes-append, fields_end-is}
use Rattle.giop_messages.specs.Message.{Message, request, reply, cancel, locate, located, close, error, kind_of, Fits}
use Rattle.cdr_core.specs.Encapsulation.{order_byte}
use Rattle.giop_messages.specs.Layout.{named_fields, body_fields, body_of}
use Rattle.giop_messages.specs.Spelling.{all_fields, framed, spelled}
use Rattle.giop_messages.specs.Reading.{HasBody, ReadsIn}

flag_fits : (order : Order) → order_byte order < 2 ^ 8
flag_fits Big = lit< tt
flag_fits Little = lit< tt

flag_bit : (order : Order) → order_byte order % 2 ≡ order_byte order
flag_bit Big = refl
flag_bit Little = refl

flag_whole : (order : Order) → order_byte order / 2 % 2 ≡ 0
flag_whole Big = refl
flag_whole Little = refl

-- the body after its pad
behind_pad : (order : Order) (here place : ℕ) (body : List ℕ) → here ≡ place → body ≡ drop (pad_len 8 here) (fields_bytes order place (body_fields body))
behind_pad order here place [] same = sym (drop-nil (pad_len 8 here))
behind_pad order here place (b ∷ body) same =
    let pad = replicate (pad_len 8 place) 0 in
    let text : fields_bytes order place (body_fields (b ∷ body)) ≡ pad ++ (b ∷ body) = append-nil (pad ++ (b ∷ body)) in
    let len : length pad ≡ pad_len 8 here = length-replicate {A = ℕ} (pad_len 8 place) 0 ∙ ap (pad_len 8) (sym same) in
    sym (ap (drop (pad_len 8 here)) text ∙ drop_at pad (b ∷ body) (pad_len 8 here) len)

has_body : (order : Order) (message : Message) (here place : ℕ) → here ≡ place → HasBody message here (fields_bytes order place (body_fields (body_of message)))
has_body order (request r) here place same = behind_pad order here place r.body same
has_body order (reply r) here place same = behind_pad order here place r.body same
has_body order (cancel id) here place same = tt
has_body order (locate l) here place same = tt
has_body order (located l) here place same = tt
has_body order close here place same = tt
has_body order error here place same = tt

pub spelled_reads : (order : Order) (message : Message) → Fits message → length (fields_bytes order 12 (all_fields message)) < 2 ^ 32 → ReadsIn order message (spelled order message)
spelled_reads order message fits size =
    let names = named_fields (0 ∷ 0 ∷ 0 ∷ []) message in
    let named = fields_bytes order 12 names in
    let rest = fields_bytes order (fields_end 12 names) (body_fields (body_of message)) in
    let both : fields_bytes order 12 (all_fields message) ≡ named ++ rest = fields_bytes-append order 12 names (body_fields (body_of message)) in
    record {
      flags = order_byte order;
      reserved = 0 ∷ 0 ∷ 0 ∷ [];
      named = named;
      rest = rest;
      octet = flag_fits order;
      order_bit = flag_bit order;
      whole = flag_whole order;
      three = refl;
      size = omega (arith, size, ap length both);
      parts = ap (framed order (kind_of message)) both;
      fields = spelled_zeros order 12 names;
      body = has_body order message (12 + length named) (fields_end 12 names) (sym (fields_end-is order 12 names));
      fits = fits;
    }
