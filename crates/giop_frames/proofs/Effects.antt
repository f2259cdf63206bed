-- What a whole piece does to the unfinished messages, by its kind and its fragment bit.
use Rattle.std.proofs.Common.{◌≡◌, ℕ, ◌≤◌, Bool, true, false, cond, not, ◌&&◌, ◌||◌, ◌==◌, List, [], ◌∷◌, ◌++◌, length, None, refl, ap, sym, ◌∙◌, arith, map, filter, nat_le}
use Rattle.std.proofs.Math.Bool.{and-false, or-false}
use Rattle.std.proofs.lemmas.List.{append-nil, map-append}
use Rattle.std.proofs.lemmas.List.Elements.{filter-append}
use Rattle.giop_frames.specs.Pieces.{Piece, order_of, has_more, kind_of, id_of}
use Rattle.giop_frames.specs.Messages.{Partial, is_fragment, opens, continues, cancels, ends, added, begun, open_at}
use Rattle.giop_frames.specs.Running.{grown, opened, stepped}
use Rattle.giop_frames.proofs.Places.{filter_quiet, map_quiet, same}

and_true : (b : Bool) → (b && true) ≡ b
and_true true = refl
and_true false = refl

continues_by : (v : ℕ) (b : List ℕ) (f t : Bool) → is_fragment b ≡ f → (v == id_of b) ≡ t → continues v b ≡ (f && t)
unfolding continues
continues_by v b f t hf ht = ap (λ (x : Bool). x && (v == id_of b)) hf ∙ ap (λ (x : Bool). f && x) ht

cancels_by : (v : ℕ) (b : List ℕ) (k l t : Bool) → (kind_of b == 2) ≡ k → nat_le 16 (length b) ≡ l → (v == id_of b) ≡ t → cancels v b ≡ (k && (l && t))
unfolding cancels
cancels_by v b k l t hk hl ht =
    ap (λ (x : Bool). x && (nat_le 16 (length b) && (v == id_of b))) hk ∙ ap (λ (x : Bool). k && (x && (v == id_of b))) hl ∙ ap (λ (x : Bool). k && (l && x)) ht

ends_by : (v : ℕ) (b : List ℕ) (c m d : Bool) → continues v b ≡ c → has_more b ≡ m → cancels v b ≡ d → ends v b ≡ ((c && not m) || d)
unfolding ends
ends_by v b c m d hc hm hd =
    ap (λ (x : Bool). (x && not (has_more b)) || cancels v b) hc ∙ ap (λ (x : Bool). (c && not x) || cancels v b) hm ∙ ap (λ (x : Bool). (c && not m) || x) hd

-- a piece leaves alone the messages of other ids
pub quiet : (v : ℕ) (b : List ℕ) → (v == id_of b) ≡ false → (ends v b ≡ false) × (continues v b ≡ false)
quiet v b h =
    let c : continues v b ≡ false = continues_by v b (is_fragment b) false refl h ∙ and-false (is_fragment b) in
    let d : cancels v b ≡ false = cancels_by v b (kind_of b == 2) (nat_le 16 (length b)) false refl refl h
    ∙ ap (λ (x : Bool). (kind_of b == 2) && x) (and-false (nat_le 16 (length b))) ∙ and-false (kind_of b == 2) in
    (ends_by v b false (has_more b) false c refl d, c)

opens_by : (b : List ℕ) (m f : Bool) → has_more b ≡ m → is_fragment b ≡ f → opens b ≡ (m && not f)
unfolding opens
opens_by b m f hm hf = ap (λ (x : Bool). x && not (is_fragment b)) hm ∙ ap (λ (x : Bool). m && not x) hf

pub opens_first : (b : List ℕ) → has_more b ≡ true → is_fragment b ≡ false → opens b ≡ true
opens_first b hm hf = opens_by b true false hm hf

pub fragment_opens_none : (b : List ℕ) → is_fragment b ≡ true → opens b ≡ false
fragment_opens_none b hf = opens_by b (has_more b) true refl hf ∙ and-false (has_more b)

pub last_opens_none : (b : List ℕ) → has_more b ≡ false → opens b ≡ false
last_opens_none b hm = opens_by b false (is_fragment b) hm refl

opens_parts : (b : List ℕ) (m f : Bool) → has_more b ≡ m → is_fragment b ≡ f → opens b ≡ true → (has_more b ≡ true) × (is_fragment b ≡ false)
opens_parts b true false hm hf h = (hm, hf)
opens_parts b true true hm hf h = absurd (let e : true ≡ false = sym h ∙ opens_by b true true hm hf in cc)
opens_parts b false f hm hf h = absurd (let e : true ≡ false = sym h ∙ opens_by b false f hm hf in cc)

pub opens_is : (b : List ℕ) → opens b ≡ true → (has_more b ≡ true) × (is_fragment b ≡ false)
opens_is b h = opens_parts b (has_more b) (is_fragment b) refl refl h

fragment_kind : (b : List ℕ) → is_fragment b ≡ true → (kind_of b == 2) ≡ false
unfolding is_fragment
fragment_kind b h = grind arith

-- a Fragment continues the message of its id, and ends it if it is the last
pub fragment_continues : (v : ℕ) (b : List ℕ) → is_fragment b ≡ true → (v == id_of b) ≡ true → continues v b ≡ true
fragment_continues v b hf h = continues_by v b true true hf h

fragment_cancels : (v : ℕ) (b : List ℕ) → is_fragment b ≡ true → cancels v b ≡ false
fragment_cancels v b hf = cancels_by v b false (nat_le 16 (length b)) (v == id_of b) (fragment_kind b hf) refl refl

pub middle_ends : (v : ℕ) (b : List ℕ) → is_fragment b ≡ true → has_more b ≡ true → ends v b ≡ false
middle_ends v b hf hm = ends_by v b (continues v b) true false refl hm (fragment_cancels v b hf) ∙ or-false (continues v b && false) ∙ and-false (continues v b)

pub last_ends : (v : ℕ) (b : List ℕ) → is_fragment b ≡ true → has_more b ≡ false → (v == id_of b) ≡ true → ends v b ≡ true
last_ends v b hf hm h = ends_by v b true false false (fragment_continues v b hf h) hm (fragment_cancels v b hf)

pub cancel_ends : (v : ℕ) (b : List ℕ) → is_fragment b ≡ false → kind_of b ≡ 2 → 16 ≤ length b → (v == id_of b) ≡ true → ends v b ≡ true
cancel_ends v b hf hk l h =
    let k : (kind_of b == 2) ≡ true = grind arith in
    let n : nat_le 16 (length b) ≡ true = grind arith in
    ends_by v b false (has_more b) true (continues_by v b false true hf h) refl (cancels_by v b true true true k n h)

other_continues : (v : ℕ) (b : List ℕ) → is_fragment b ≡ false → continues v b ≡ false
other_continues v b hf = continues_by v b false (v == id_of b) hf refl

idle_by : (v : ℕ) (b : List ℕ) (k l : Bool) → (kind_of b == 2) ≡ k → nat_le 16 (length b) ≡ l → is_fragment b ≡ false → (k && l) ≡ false → ends v b ≡ false
idle_by v b false l hk hl hf n =
    ends_by v b false (has_more b) false (other_continues v b hf) refl (cancels_by v b false l (v == id_of b) hk hl refl)
idle_by v b true false hk hl hf n =
    ends_by v b false (has_more b) false (other_continues v b hf) refl (cancels_by v b true false (v == id_of b) hk hl refl)
idle_by v b true true hk hl hf n = absurd (cc)

pub idle_ends : (v : ℕ) (b : List ℕ) → is_fragment b ≡ false → ((kind_of b == 2) && nat_le 16 (length b)) ≡ false → ends v b ≡ false
idle_ends v b hf n = idle_by v b (kind_of b == 2) (nat_le 16 (length b)) refl refl hf n

-- stepped, by what the piece does to each message
opened_none : (p : Piece) → opens p.bytes ≡ false → opened p ≡ []
opened_none p h = ap (λ (b : Bool). cond b (begun p [] ∷ []) []) h

grown_quiet : (p : Piece) (u : Partial) → continues u.id p.bytes ≡ false → grown p u ≡ u
grown_quiet p u h = ap (λ (b : Bool). cond b (record u { bytes = u.bytes ++ added p }) u) h

keeps_all : (t : Partial → Bool) → ((u : Partial) → t u ≡ false) → (us : List Partial) → filter (λ u. not (t u)) us ≡ us
keeps_all t q [] = refl
keeps_all t q (u ∷ us) =
    ap (λ (b : Bool). cond (not b) (u ∷ filter (λ u. not (t u)) us) (filter (λ u. not (t u)) us)) (q u) ∙ ap (λ (vs : List Partial). u ∷ vs) (keeps_all t q us)

maps_same : (g : Partial → Partial) → ((u : Partial) → g u ≡ u) → (us : List Partial) → map g us ≡ us
maps_same g q [] = refl
maps_same g q (u ∷ us) = ap (λ (v : Partial). v ∷ map g us) (q u) ∙ ap (λ (vs : List Partial). u ∷ vs) (maps_same g q us)

step_is : (p : Piece) (us vs ws xs : List Partial) → filter (λ u. not (ends u.id p.bytes)) us ≡ vs → map (grown p) vs ≡ ws → opened p ≡ xs → stepped p us ≡ ws ++ xs
unfolding stepped
step_is p us vs ws xs f m o = ap (λ (x : List Partial). map (grown p) x ++ opened p) f ∙ ap (λ (x : List Partial). x ++ opened p) m ∙ ap (λ (x : List Partial). ws ++ x) o

-- a piece that ends and continues nothing and opens nothing
pub step_idle : (p : Piece) (us : List Partial) → opens p.bytes ≡ false → is_fragment p.bytes ≡ false → ((v : ℕ) → ends v p.bytes ≡ false) → stepped p us ≡ us
step_idle p us o f e =
    step_is p us us us [] (keeps_all (λ u. ends u.id p.bytes) (λ u. e u.id) us)
    (maps_same (grown p) (λ u. grown_quiet p u (other_continues u.id p.bytes f)) us) (opened_none p o) ∙ append-nil us

-- a piece that continues and opens nothing leaves out what it ends
pub step_drops : (p : Piece) (us : List Partial) → opens p.bytes ≡ false → is_fragment p.bytes ≡ false → stepped p us ≡ filter (λ u. not (ends u.id p.bytes)) us
step_drops p us o f =
    let vs : List Partial = filter (λ u. not (ends u.id p.bytes)) us in
    step_is p us vs vs [] refl (maps_same (grown p) (λ u. grown_quiet p u (other_continues u.id p.bytes f)) vs) (opened_none p o) ∙ append-nil vs

-- a first piece opens a message
pub step_opens : (p : Piece) (us : List Partial) → opens p.bytes ≡ true → (kind_of p.bytes == 2) ≡ false
    → stepped p us ≡ us ++ record { at = p.at; id = id_of p.bytes; order = order_of p.bytes; bytes = p.bytes } ∷ []
step_opens p us o k =
    let f : is_fragment p.bytes ≡ false = (opens_is p.bytes o).1 in
    let e : (v : ℕ) → ends v p.bytes ≡ false = λ (v : ℕ). idle_by v p.bytes false (nat_le 16 (length p.bytes)) k refl f refl in
    step_is p us us us (begun p [] ∷ []) (keeps_all (λ u. ends u.id p.bytes) (λ u. e u.id) us)
    (maps_same (grown p) (λ u. grown_quiet p u (other_continues u.id p.bytes f)) us) (ap (λ (b : Bool). cond b (begun p [] ∷ []) []) o)
    ∙ ap (λ (x : List ℕ). us ++ record { at = p.at; id = id_of p.bytes; order = order_of p.bytes; bytes = x } ∷ []) (append-nil p.bytes)

-- no message has the id
pub step_none : (p : Piece) (us : List Partial) → opens p.bytes ≡ false → open_at (id_of p.bytes) us ≡ None → stepped p us ≡ us
step_none p us o n =
    step_is p us us us [] (filter_quiet (id_of p.bytes) (λ u. ends u.id p.bytes) (λ u e. (quiet u.id p.bytes e).0) us n)
    (map_quiet (id_of p.bytes) (grown p) (λ u e. grown_quiet p u (quiet u.id p.bytes e).1) us n) (opened_none p o) ∙ append-nil us

filter_around : (p : Piece) (front back : List Partial) (there : Partial) (b : Bool) → ends there.id p.bytes ≡ b
    → open_at (id_of p.bytes) front ≡ None → open_at (id_of p.bytes) back ≡ None
    → filter (λ u. not (ends u.id p.bytes)) (front ++ there ∷ back) ≡ front ++ cond (not b) (there ∷ back) back
filter_around p front back there b e nf nb =
    let t : Partial → Bool = λ (u : Partial). ends u.id p.bytes in
    let q : (u : Partial) → same (id_of p.bytes) u ≡ false → t u ≡ false = λ (u : Partial) (h : same (id_of p.bytes) u ≡ false). (quiet u.id p.bytes h).0 in
    filter-append (λ u. not (t u)) front (there ∷ back)
    ∙ ap (λ (x : List Partial). x ++ filter (λ u. not (t u)) (there ∷ back)) (filter_quiet (id_of p.bytes) t q front nf)
    ∙ ap (λ (x : Bool). front ++ cond (not x) (there ∷ filter (λ u. not (t u)) back) (filter (λ u. not (t u)) back)) e
    ∙ ap (λ (x : List Partial). front ++ cond (not b) (there ∷ x) x) (filter_quiet (id_of p.bytes) t q back nb)

map_around : (p : Piece) (front back : List Partial) → open_at (id_of p.bytes) front ≡ None → open_at (id_of p.bytes) back ≡ None
    → (mid : List Partial) → map (grown p) (front ++ (mid ++ back)) ≡ front ++ (map (grown p) mid ++ back)
map_around p front back nf nb mid =
    let q : (u : Partial) → same (id_of p.bytes) u ≡ false → grown p u ≡ u = λ (u : Partial) (h : same (id_of p.bytes) u ≡ false). grown_quiet p u (quiet u.id p.bytes h).1 in
    map-append (grown p) front (mid ++ back)
    ∙ ap (λ (x : List Partial). x ++ map (grown p) (mid ++ back)) (map_quiet (id_of p.bytes) (grown p) q front nf)
    ∙ ap (λ (x : List Partial). front ++ x) (map-append (grown p) mid back)
    ∙ ap (λ (x : List Partial). front ++ (map (grown p) mid ++ x)) (map_quiet (id_of p.bytes) (grown p) q back nb)

-- the message of the id ends
pub step_ends : (p : Piece) (front back : List Partial) (there : Partial) → opens p.bytes ≡ false → ends there.id p.bytes ≡ true
    → open_at (id_of p.bytes) front ≡ None → open_at (id_of p.bytes) back ≡ None → stepped p (front ++ there ∷ back) ≡ front ++ back
step_ends p front back there o e nf nb =
    step_is p (front ++ there ∷ back) (front ++ back) (front ++ back) [] (filter_around p front back there true e nf nb)
    (map_around p front back nf nb []) (opened_none p o) ∙ append-nil (front ++ back)

-- the message of the id goes on
pub step_grows : (p : Piece) (front back : List Partial) (there : Partial) → opens p.bytes ≡ false → ends there.id p.bytes ≡ false → continues there.id p.bytes ≡ true
    → open_at (id_of p.bytes) front ≡ None → open_at (id_of p.bytes) back ≡ None
    → stepped p (front ++ there ∷ back) ≡ front ++ record there { bytes = there.bytes ++ added p } ∷ back
step_grows p front back there o e c nf nb =
    step_is p (front ++ there ∷ back) (front ++ there ∷ back) (front ++ grown p there ∷ back) [] (filter_around p front back there false e nf nb)
    (map_around p front back nf nb (there ∷ [])) (opened_none p o) ∙ append-nil (front ++ grown p there ∷ back)
    ∙ ap (λ (b : Bool). front ++ cond b (record there { bytes = there.bytes ++ added p }) there ∷ back) c
