-- What the four kinds of whole pieces do, as the code does it.
use Rattle.std.proofs.Common.{◌≡◌, ℕ, suc, ◌+◌, ◌-◌, ◌^◌, ◌≤◌, ◌<◌, Bool, true, false, cond, ◌&&◌, ◌==◌, List, [], ◌∷◌, ◌++◌, length, Option, Some, None, refl, ap, sym, ◌∙◌, subst, arith, nat_le, take, drop, length-append, length-drop, get_or}
use Rattle.std.specs.Prelude.{slice_get, slice_set, remove, option_to_list, option_map, Result, Ok, Err, OnOk}
use Rattle.std.proofs.lemmas.List.{append-nil}
use Rattle.std.proofs.Math.Seq.{take-length, get_or-append_seam, take-append_seam, set-append_seam}
use Rattle.orb_base.specs.declared.order.Order.{Order}
use Rattle.giop_frames.specs.Pieces.{Piece, order_of, has_more, kind_of, id_of}
use Rattle.giop_frames.specs.Messages.{Partial, Message, is_fragment, opens, ends, open_at, completed, joined, lone}
use Rattle.giop_frames.specs.Running.{stepped}
use Rattle.giop_frames.specs.Steps.{Found, IsDistinct, IsSound, JoinFits, StepsBy, GrowsAt, Does}
use Rattle.giop_frames.proofs.Places.{after_none, open_behind}
use Rattle.giop_frames.proofs.Effects.{fragment_opens_none, last_opens_none, fragment_continues, middle_ends, last_ends, cancel_ends, idle_ends, step_idle, step_opens, step_none, step_ends, step_grows}

pub found_as : (n m i : ℕ) (vs us : List Partial) → n ≡ m → vs ≡ us → Found n vs i → Found m us i
found_as n m i vs us e p f = let P : ℕ → Type 0 = λ k. Found k us i in let Q : List Partial → Type 0 = λ ws. Found n ws i in subst P e (subst Q p f)

pub none_as : (n m : ℕ) (vs us : List Partial) → n ≡ m → vs ≡ us → open_at n vs ≡ None → open_at m us ≡ None
none_as n m vs us e p f = let P : ℕ → Type 0 = λ k. open_at k us ≡ None in let Q : List Partial → Type 0 = λ ws. open_at n ws ≡ None in subst P e (subst Q p f)

pub ok_then : {V E P Q : Type 0} (r : Result V E) → OnOk r P → (P → Q) → OnOk r Q
ok_then (Ok x) p f = f p
ok_then (Err e) p f = p

id_is : (a b : ℕ) → (a == b) ≡ true → a ≡ b
id_is a b h = grind arith

get_seam : (front : List Partial) (there : Partial) (back : List Partial) → slice_get (front ++ there ∷ back) (length front) ≡ Some there
get_seam [] there back = refl
get_seam (u ∷ front) there back = get_seam front there back

drop_seam : (front : List Partial) (there : Partial) (back : List Partial) → drop (suc (length front)) (front ++ there ∷ back) ≡ back
drop_seam [] there back = refl
drop_seam (u ∷ front) there back = drop_seam front there back

pub found_get : (id i : ℕ) (us : List Partial) (f : Found id us i) → slice_get us i ≡ Some f.there
found_get id i us f = ap (λ (n : ℕ). slice_get us n) (sym f.place) ∙ ap (λ (vs : List Partial). slice_get vs (length f.front)) f.parts ∙ get_seam f.front f.there f.back

pub found_there : (id i : ℕ) (us : List Partial) (f : Found id us i) (u : Partial) → u ≡ get_or us i u → u ≡ f.there
found_there id i us f u is =
    is ∙ ap (λ (n : ℕ). get_or us n u) (sym f.place) ∙ ap (λ (vs : List Partial). get_or vs (length f.front) u) f.parts
    ∙ get_or-append_seam f.front f.there f.back u

pub found_below : (id i : ℕ) (us : List Partial) → Found id us i → i < length us
found_below id i us f = omega (arith, f.place, ap length f.parts, length-append f.front (f.there ∷ f.back))

pub found_open : (id i : ℕ) (us : List Partial) (f : Found id us i) → open_at id us ≡ Some f.there
found_open id i us f = ap (open_at id) f.parts ∙ open_behind id f.front f.there f.back f.before f.same

pub found_back : (id i : ℕ) (us : List Partial) (f : Found id us i) → IsDistinct us → open_at id f.back ≡ None
found_back id i us f d =
    ap (λ (n : ℕ). open_at n f.back) (sym (id_is f.there.id id f.same))
    ∙ after_none f.front f.there f.back (let P : List Partial → Type 0 = λ vs. IsDistinct vs in subst P f.parts d)

pub found_remove : (id i : ℕ) (us : List Partial) (f : Found id us i) → remove us i ≡ f.front ++ f.back
found_remove id i us f =
    ap (remove us) (sym f.place) ∙ ap (λ (vs : List Partial). remove vs (length f.front)) f.parts
    ∙ ap (λ (x : List Partial). x ++ drop (suc (length f.front)) (f.front ++ f.there ∷ f.back)) (take-append_seam f.front (f.there ∷ f.back))
    ∙ ap (λ (x : List Partial). f.front ++ x) (drop_seam f.front f.there f.back)

found_set : (id i : ℕ) (us : List Partial) (f : Found id us i) (v : Partial) → slice_set us i v ≡ f.front ++ v ∷ f.back
found_set id i us f v =
    ap (λ (n : ℕ). slice_set us n v) (sym f.place) ∙ ap (λ (vs : List Partial). slice_set vs (length f.front) v) f.parts
    ∙ set-append_seam f.front f.there f.back v

pub begins : (us us' : List Partial) (at id : ℕ) (order : Order) (bytes front back : List ℕ) → IsSound us bytes → opens bytes ≡ true
    → id ≡ id_of front → front ≡ bytes → order ≡ order_of back → back ≡ bytes
    → us' ≡ us ++ record { at = at; id = id; order = order; bytes = bytes } ∷ []
    → us' ≡ stepped (record { at = at; bytes = bytes }) us
begins us us' at id order bytes front back s o hi hf ho hb is =
    is
    ∙ ap (λ (n : ℕ). us ++ record { at = at; id = n; order = order; bytes = bytes } ∷ []) (hi ∙ ap id_of hf)
    ∙ ap (λ (r : Order). us ++ record { at = at; id = id_of bytes; order = r; bytes = bytes } ∷ []) (ho ∙ ap order_of hb)
    ∙ sym (step_opens (record { at = at; bytes = bytes }) us o (s.no_cancel o))

pub stays_open : (us : List Partial) (bytes : List ℕ) → opens bytes ≡ false → open_at (id_of bytes) us ≡ None → StepsBy bytes us us
stays_open us bytes o n = λ at. sym (step_none (record { at = at; bytes = bytes }) us o n)

pub all_behind : (n : ℕ) (bytes : List ℕ) → take (length bytes - n) (drop n bytes) ≡ drop n bytes
all_behind n bytes = ap (λ (k : ℕ). take k (drop n bytes)) (sym (length-drop n bytes)) ∙ take-length (drop n bytes)

pub goes_on : (us us' : List Partial) (bytes : List ℕ) (i : ℕ) → IsSound us bytes → is_fragment bytes ≡ true → has_more bytes ≡ true
    → Found (id_of bytes) us i → GrowsAt i (take (length bytes - 16) (drop 16 bytes)) us us' → StepsBy bytes us us'
goes_on us us' bytes i s hf hm f grows at =
    let p : Piece = record { at = at; bytes = bytes } in
    grows f.there (found_get (id_of bytes) i us f)
    ∙ ap (λ (x : List ℕ). slice_set us i (record f.there { bytes = f.there.bytes ++ x })) (all_behind 16 bytes)
    ∙ found_set (id_of bytes) i us f (record f.there { bytes = f.there.bytes ++ drop 16 bytes })
    ∙ sym (step_grows p f.front f.back f.there (fragment_opens_none bytes hf) (middle_ends f.there.id bytes hf hm)
    (fragment_continues f.there.id bytes hf f.same) f.before (found_back (id_of bytes) i us f s.distinct))
    ∙ sym (ap (stepped p) f.parts)

drops : (us us' : List Partial) (bytes : List ℕ) (i : ℕ) → IsDistinct us → opens bytes ≡ false → (f : Found (id_of bytes) us i) → ends f.there.id bytes ≡ true
    → us' ≡ remove us i → StepsBy bytes us us'
drops us us' bytes i d o f e is at =
    let p : Piece = record { at = at; bytes = bytes } in
    is ∙ found_remove (id_of bytes) i us f
    ∙ sym (step_ends p f.front f.back f.there o e f.before (found_back (id_of bytes) i us f d))
    ∙ sym (ap (stepped p) f.parts)

pub cancels_it : (us us' : List Partial) (bytes : List ℕ) (i : ℕ) → IsSound us bytes → is_fragment bytes ≡ false → has_more bytes ≡ false → kind_of bytes ≡ 2 → 16 ≤ length bytes
    → Found (id_of bytes) us i → us' ≡ remove us i → StepsBy bytes us us'
cancels_it us us' bytes i s hf hm hk l f is = drops us us' bytes i s.distinct (last_opens_none bytes hm) f (cancel_ends f.there.id bytes hf hk l f.same) is

pub stays : (us : List Partial) (bytes : List ℕ) → is_fragment bytes ≡ false → has_more bytes ≡ false → ((kind_of bytes == 2) && nat_le 16 (length bytes)) ≡ false → StepsBy bytes us us
stays us bytes hf hm n = λ at. sym (step_idle (record { at = at; bytes = bytes }) us (last_opens_none bytes hm) hf (λ v. idle_ends v bytes hf n))

pub completes_none : (us : List Partial) (p : Piece) → has_more p.bytes ≡ true → completed us p ≡ None
unfolding completed
completes_none us p h =
    ap (λ (b : Bool). cond b None (cond (is_fragment p.bytes) (option_map (joined p) (open_at (id_of p.bytes) us)) (Some (lone p)))) h

pub completes_joined : (us : List Partial) (p : Piece) → has_more p.bytes ≡ false → is_fragment p.bytes ≡ true → completed us p ≡ option_map (joined p) (open_at (id_of p.bytes) us)
unfolding completed
completes_joined us p h f =
    ap (λ (b : Bool). cond b None (cond (is_fragment p.bytes) (option_map (joined p) (open_at (id_of p.bytes) us)) (Some (lone p)))) h
    ∙ ap (λ (b : Bool). cond b (option_map (joined p) (open_at (id_of p.bytes) us)) (Some (lone p))) f

pub completes_lone : (us : List Partial) (p : Piece) → has_more p.bytes ≡ false → is_fragment p.bytes ≡ false → completed us p ≡ Some (lone p)
unfolding completed
completes_lone us p h f =
    ap (λ (b : Bool). cond b None (cond (is_fragment p.bytes) (option_map (joined p) (open_at (id_of p.bytes) us)) (Some (lone p)))) h
    ∙ ap (λ (b : Bool). cond b (option_map (joined p) (open_at (id_of p.bytes) us)) (Some (lone p))) f

-- a piece that more fragments follow gives nothing
pub does_more : (p : Piece) (us us' : List Partial) (whole whole' : List Message) → has_more p.bytes ≡ true → StepsBy p.bytes us us' → whole' ≡ whole → Does p us us' whole whole'
does_more p us us' whole whole' h s is = record {
  steps = s p.at;
  gives = is ∙ sym (append-nil whole) ∙ ap (λ (o : Option Message). whole ++ option_to_list o) (sym (completes_none us p h));
}

pub does_lone : (p : Piece) (us us' : List Partial) (whole whole' : List Message) → has_more p.bytes ≡ false → is_fragment p.bytes ≡ false → StepsBy p.bytes us us'
    → whole' ≡ whole ++ lone p ∷ [] → Does p us us' whole whole'
does_lone p us us' whole whole' h f s is = record {
  steps = s p.at;
  gives = is ∙ ap (λ (o : Option Message). whole ++ option_to_list o) (sym (completes_lone us p h f));
}

pub steps_as : (us us' : List Partial) (front bytes : List ℕ) → front ≡ bytes → StepsBy front us us' → StepsBy bytes us us'
steps_as us us' front bytes e s = λ at. s at ∙ ap (λ (x : List ℕ). stepped (record { at = at; bytes = x }) us) e

pub gives_lone : (p : Piece) (whole whole' : List Message) (order : Order) (kind : ℕ) (front back : List ℕ)
    → order ≡ order_of front → front ≡ p.bytes → kind ≡ kind_of back → back ≡ p.bytes
    → whole' ≡ whole ++ record { at = p.at; order = order; kind = kind; bytes = p.bytes } ∷ [] → whole' ≡ whole ++ lone p ∷ []
gives_lone p whole whole' order kind front back ho hf hk hb is =
    is
    ∙ ap (λ (r : Order). whole ++ record { at = p.at; order = r; kind = kind; bytes = p.bytes } ∷ []) (ho ∙ ap order_of hf)
    ∙ ap (λ (k : ℕ). whole ++ record { at = p.at; order = order_of p.bytes; kind = k; bytes = p.bytes } ∷ []) (hk ∙ ap kind_of hb)

pub does_begun : (p : Piece) (us us' : List Partial) (whole whole' : List Message) → has_more p.bytes ≡ true → us' ≡ stepped p us → whole' ≡ whole → Does p us us' whole whole'
does_begun p us us' whole whole' h s is = record {
  steps = s;
  gives = is ∙ sym (append-nil whole) ∙ ap (λ (o : Option Message). whole ++ option_to_list o) (sym (completes_none us p h));
}

-- a piece of a kind, by its header
pub fragment_as : (bytes : List ℕ) (n : ℕ) (t : Bool) → n ≡ kind_of bytes → t ≡ (n == 7) → is_fragment bytes ≡ t
unfolding is_fragment
fragment_as bytes n t e h = ap (λ (k : ℕ). k == 7) (sym e) ∙ sym h

pub cancel_as : (bytes : List ℕ) (n : ℕ) → n ≡ kind_of bytes → true ≡ (n == 2) → kind_of bytes ≡ 2
cancel_as bytes n e h = grind arith

pub no_cancel_as : (bytes : List ℕ) (n : ℕ) (b : Bool) → n ≡ kind_of bytes → false ≡ (n == 2) → ((kind_of bytes == 2) && b) ≡ false
no_cancel_as bytes n b e h = ap (λ (x : Bool). x && b) (ap (λ (k : ℕ). k == 2) (sym e) ∙ sym h)

pub short_no_cancel : (k : Bool) (n : ℕ) → n < 16 → (k && nat_le 16 n) ≡ false
short_no_cancel true n h = grind arith
short_no_cancel false n h = refl

pub other_no_cancel : (k : ℕ) (b : Bool) → (k ≡ 2 → ⊥) → ((k == 2) && b) ≡ false
other_no_cancel k b h = let e : (k == 2) ≡ false = grind arith in ap (λ (x : Bool). x && b) e

pub does_none : (p : Piece) (us : List Partial) (whole : List Message) → has_more p.bytes ≡ false → is_fragment p.bytes ≡ true → open_at (id_of p.bytes) us ≡ None
    → Does p us us whole whole
does_none p us whole h f n = record {
  steps = sym (step_none p us (last_opens_none p.bytes h) n);
  gives = sym (append-nil whole)
      ∙ ap (λ (o : Option Message). whole ++ option_to_list o) (sym (completes_joined us p h f ∙ ap (λ (o : Option Partial). option_map (joined p) o) n));
}

pub does_last : (p : Piece) (us us' : List Partial) (whole whole' : List Message) (i : ℕ) (u : Partial) → IsSound us p.bytes → has_more p.bytes ≡ false → is_fragment p.bytes ≡ true
    → Found (id_of p.bytes) us i → u ≡ get_or us i u → us' ≡ remove us i → whole' ≡ whole ++ joined p u ∷ [] → Does p us us' whole whole'
does_last p us us' whole whole' i u s h f found got is gave =
    let open_is : open_at (id_of p.bytes) us ≡ Some u = found_open (id_of p.bytes) i us found ∙ ap (λ (v : Partial). Some v) (sym (found_there (id_of p.bytes) i us found u got)) in
    record {
      steps = drops us us' p.bytes i s.distinct (last_opens_none p.bytes h) found (last_ends found.there.id p.bytes f h found.same) is p.at;
      gives = gave ∙ ap (λ (o : Option Message). whole ++ option_to_list o) (sym (completes_joined us p h f ∙ ap (λ (o : Option Partial). option_map (joined p) o) open_is));
    }

-- what the last Fragment joins has a size
pub joins_fit : (us : List Partial) (bytes : List ℕ) (i : ℕ) (u : Partial) → IsSound us bytes → is_fragment bytes ≡ true → Found (id_of bytes) us i → u ≡ get_or us i u
    → length u.bytes + (length bytes - 16) < 2 ^ 32
joins_fit us bytes i u s hf found got =
    let there : open_at (id_of bytes) us ≡ Some u = found_open (id_of bytes) i us found ∙ ap (λ (v : Partial). Some v) (sym (found_there (id_of bytes) i us found u got)) in
    let P : Option Partial → Type 0 = λ o. JoinFits (length bytes) o in subst P there (s.fits hf)
