-- The unfinished messages after one more piece are those after the pieces before it, stepped by it.
use Rattle.std.proofs.Common.{◌≡◌, ℕ, Bool, true, false, cond, not, ◌&&◌, ◌||◌, List, [], ◌∷◌, ◌++◌, refl, ap, sym, ◌∙◌, append_assoc, map, filter}
use Rattle.std.specs.Prelude.{flat_map}
use Rattle.std.specs.List.{list_any}
use Rattle.std.proofs.lemmas.List.{append-nil}
use Rattle.std.proofs.lemmas.List.Elements.{filter-append}
use Rattle.std.proofs.lemmas.Grind.{flat_map-append}
use Rattle.giop_frames.specs.Pieces.{Piece, id_of, cut}
use Rattle.giop_frames.specs.Messages.{Partial, opens, continues, ends, added, begun, unfinished}
use Rattle.giop_frames.specs.Stream.{Said, said_behind, stream, or_stopped, cause_of}
use Rattle.giop_frames.specs.Running.{grown, opened, stepped, stepped_by, run, ahead}

any_or : (b c d e : Bool) → c ≡ (d || e) → (b || c) ≡ ((b || d) || e)
any_or true c d e h = refl
any_or false c d e h = h

any_more : (t : Piece → Bool) (ps : List Piece) (q : Piece) → list_any t (ps ++ q ∷ []) ≡ (list_any t ps || t q)
any_more t [] q = elim (t q) as (λ b. (b || false) ≡ b) [ true ↦ refl | false ↦ refl ]
any_more t (p ∷ ps) q = any_or (t p) _ _ _ (any_more t ps q)

flat_more : (t : Piece → Bool) (ps : List Piece) (q : Piece)
    → flat_map added (filter t (ps ++ q ∷ [])) ≡ flat_map added (filter t ps) ++ flat_map added (cond (t q) (q ∷ []) [])
flat_more t ps q = ap (flat_map added) (filter-append t ps (q ∷ [])) ∙ flat_map-append added (filter t ps) (cond (t q) (q ∷ []) [])

begun_case : (b : Bool) (p q : Piece) (mid : List ℕ) (u : Partial)
    → u ≡ record { at = p.at; id = id_of p.bytes; order = u.order; bytes = p.bytes ++ mid }
    → (record u { bytes = p.bytes ++ (mid ++ flat_map added (cond b (q ∷ []) [])) }) ≡ cond b (record u { bytes = u.bytes ++ added q }) u
begun_case true p q mid u is =
    ap (λ (x : List ℕ). let r : Partial = record u { bytes = x } in r)
    (ap (λ (x : List ℕ). p.bytes ++ (mid ++ x)) (append-nil (added q)) ∙ sym (append_assoc p.bytes mid (added q)) ∙ ap (λ (v : Partial). v.bytes ++ added q) (sym is))
begun_case false p q mid u is =
    ap (λ (x : List ℕ). let r : Partial = record u { bytes = x } in r)
    (ap (λ (x : List ℕ). p.bytes ++ x) (append-nil mid) ∙ ap (λ (v : Partial). v.bytes) (sym is))

begun_more : (p : Piece) (ps : List Piece) (q : Piece) → begun p (ps ++ q ∷ []) ≡ grown q (begun p ps)
begun_more p ps q =
    ap (λ (x : List ℕ). let r : Partial = record (begun p ps) { bytes = p.bytes ++ x } in r) (flat_more (λ r. continues (id_of p.bytes) r.bytes) ps q)
    ∙ begun_case (continues (id_of p.bytes) q.bytes) p q (flat_map added (filter (λ r. continues (id_of p.bytes) r.bytes) ps)) (begun p ps) refl

kept : (b1 b2 b3 : Bool) (u u' : Partial) (us us' : List Partial) (q : Piece)
    → ends u.id q.bytes ≡ b3 → u' ≡ grown q u → us' ≡ stepped q us
    → cond (b1 && not (b2 || b3)) (u' ∷ us') us' ≡ stepped q (cond (b1 && not b2) (u ∷ us) us)
unfolding stepped
kept false b2 b3 u u' us us' q e g s = s
kept true true b3 u u' us us' q e g s = s
kept true false true u u' us us' q e g s =
    s ∙ ap (λ (b : Bool). map (grown q) (cond (not b) (u ∷ filter (λ v. not (ends v.id q.bytes)) us) (filter (λ v. not (ends v.id q.bytes)) us)) ++ opened q) (sym e)
kept true false false u u' us us' q e g s =
    ap (λ (v : Partial). v ∷ us') g ∙ ap (λ (vs : List Partial). grown q u ∷ vs) s
    ∙ ap (λ (b : Bool). map (grown q) (cond (not b) (u ∷ filter (λ v. not (ends v.id q.bytes)) us) (filter (λ v. not (ends v.id q.bytes)) us)) ++ opened q) (sym e)

one_more : (b : Bool) (u : Partial) → cond (b && true) (u ∷ []) [] ≡ cond b (u ∷ []) []
one_more true u = refl
one_more false u = refl

pub unfinished_more : (ps : List Piece) (q : Piece) → unfinished (ps ++ q ∷ []) ≡ stepped q (unfinished ps)
unfolding unfinished stepped
unfinished_more [] q = one_more (opens q.bytes) (begun q [])
unfinished_more (p ∷ ps) q =
    ap (λ (b : Bool). cond (opens p.bytes && not b) (begun p (ps ++ q ∷ []) ∷ unfinished (ps ++ q ∷ [])) (unfinished (ps ++ q ∷ [])))
    (any_more (λ r. ends (id_of p.bytes) r.bytes) ps q)
    ∙ kept (opens p.bytes) (list_any (λ r. ends (id_of p.bytes) r.bytes) ps) (ends (id_of p.bytes) q.bytes)
    (begun p ps) (begun p (ps ++ q ∷ [])) (unfinished ps) (unfinished (ps ++ q ∷ [])) q
    refl (begun_more p ps q) (unfinished_more ps q)

pub run_is : (limit : ℕ) (ps earlier : List Piece) (tail : Piece) → said_behind limit earlier ps tail ≡ run limit (unfinished earlier) ps tail
unfolding said_behind run
run_is limit [] earlier tail = refl
run_is limit (p ∷ ps) earlier tail =
    ap (λ (s : Said). or_stopped (unfinished earlier) p (cause_of limit (unfinished earlier) p) s)
    (run_is limit ps (earlier ++ p ∷ []) tail ∙ ap (λ (us : List Partial). run limit us ps tail) (unfinished_more earlier p))

pub stream_is : (limit : ℕ) (bytes : List ℕ) → stream limit bytes ≡ ahead limit [] 0 bytes
unfolding stream ahead unfinished
stream_is limit bytes = let c = cut (Rattle.std.specs.Prelude.length bytes) 0 bytes in run_is limit c.whole [] c.tail

-- several pieces more
pub stepped-append : (ps qs : List Piece) (us : List Partial) → stepped_by (ps ++ qs) us ≡ stepped_by qs (stepped_by ps us)
stepped-append [] qs us = refl
stepped-append (p ∷ ps) qs us = stepped-append ps qs (stepped p us)

pub unfinished_by : (ps qs : List Piece) → unfinished (ps ++ qs) ≡ stepped_by qs (unfinished ps)
unfinished_by ps [] = ap unfinished (append-nil ps)
unfinished_by ps (q ∷ qs) =
    ap unfinished (sym (append_assoc ps (q ∷ []) qs)) ∙ unfinished_by (ps ++ q ∷ []) qs ∙ ap (stepped_by qs) (unfinished_more ps q)
