-- What was written of a trace that grows line by line.
use Rattle.std.proofs.Common.{◌≡◌, ℕ, ◌+◌, ◌<◌, ◌≤◌, List, [], ◌∷◌, ◌++◌, length, take, drop, get_or, refl, sym, ap, subst, ◌∙◌, append-nil, append_assoc}
use Rattle.std.specs.Prelude.{map}
use Rattle.std.specs.List.{flat_map}
use Rattle.std.proofs.lemmas.List.{flat_map_more, take_more, take_all, map-append, take-append-drop}
use Rattle.std.proofs.lemmas.List.Concat.{flat_map-append}
use Rattle.orb_base.specs.Outside.{SinkState, Rose}
use Rattle.orb_base.specs.declared.job.Job.{Job}
use Rattle.lane_machine.specs.Entries.{One}
use Rattle.lane_machine.specs.Histories.{History}
use Rattle.text_streams.specs.Streams.{WroteSome, WroteText, WroteFrontOf, WritesAll}
use Rattle.text_streams.specs.declared.writing.WriteAll.{WriteAll}
use Rattle.text_streams.specs.declared.writing.WriteAll.TheVariants as write
use Rattle.text_streams.proofs.CallerLemmas.{wrote_start, wrote_behind, wrote_whole}
use Rattle.trace_lines.specs.Offers.{offers, number}
use Rattle.trace_lines.specs.Lines.{line_of}
use Rattle.trace_lines.specs.Texts.{line_text, lines_text}
use Rattle.trace_lines.specs.Numbers.{number_in, IsNumbering}
use Rattle.trace_lines.specs.Writing.{AddsTo}
use Rattle.trace_lines.specs.declared.numbering.Numbering.{Numbering}
use Rattle.trace_lines.specs.declared.trace_line.TraceLine.{TraceLine}

-- nothing was written yet
pub wrote_none : (text : List ℕ) (o : SinkState) → WroteFrontOf text o o
wrote_none text o = (text, wrote_start text o)

-- the whole of a piece was written
pub wrote_piece : (piece : List ℕ) (o o' : SinkState) → WroteText piece o o' → WroteSome piece [] o o'
wrote_piece piece o o' wrote = record { front = piece; parts = sym (append-nil piece); wrote = wrote }

-- bytes were added to a piece, which isn't written yet
pub piece_kept : (bytes piece piece' : List ℕ) (o : SinkState) → piece' ≡ piece ++ bytes → WroteSome (piece ++ bytes) piece' o o
piece_kept bytes piece piece' o is = subst (λ (x : List ℕ). WroteSome (piece ++ bytes) x o o) (sym is) (wrote_start (piece ++ bytes) o)

-- or it is written whole, or a prefix of it
pub piece_out : (w : WriteAll) (bytes piece full : List ℕ) (o o' : SinkState) → full ≡ piece ++ bytes → WritesAll w full o o' → AddsTo w bytes piece [] o o'
piece_out write.Whole bytes piece full o o' is h = (subst (λ (x : List ℕ). WroteSome x [] o o') is (wrote_piece full o o' h.0), h.1)
piece_out write.Failed bytes piece full o o' is h = (subst (λ (x : List ℕ). WroteFrontOf x o o') is h.0, h.1)

-- bytes were added to the piece that isn't written yet
pub wrote_on : (text piece bytes piece' : List ℕ) (o o' o'' : SinkState) → WroteSome text piece o o' → WroteSome (piece ++ bytes) piece' o' o'' → WroteSome (text ++ bytes) piece' o o''
wrote_on text piece bytes piece' o o' o'' some more = record {
  front = some.front ++ more.front;
  parts = ap (λ (x : List ℕ). x ++ bytes) some.parts ∙ append_assoc some.front piece bytes ∙ ap (λ (x : List ℕ). some.front ++ x) more.parts ∙ sym (append_assoc some.front more.front piece');
  wrote = wrote_behind some.front more.front o o' o'' some.wrote more.wrote;
}

-- a prefix of more
pub prefix_of_more : (text more : List ℕ) (o o' : SinkState) → WroteFrontOf text o o' → WroteFrontOf (text ++ more) o o'
prefix_of_more text more o o' w = (
  w.0 ++ more,
  record {
    front = w.1.front;
    parts = ap (λ (x : List ℕ). x ++ more) w.1.parts ∙ append_assoc w.1.front w.0 more;
    wrote = w.1.wrote;
  },
)

-- a prefix of the piece with bytes added was written
pub prefix_on : (text piece bytes : List ℕ) (o o' o'' : SinkState) → WroteSome text piece o o' → WroteFrontOf (piece ++ bytes) o' o'' → WroteFrontOf (text ++ bytes) o o''
prefix_on text piece bytes o o' o'' some more = (more.0, wrote_on text piece bytes more.0 o o' o'' some more.1)

-- one more line
pub lines_more : (number : Job → ℕ) (h : History) (i : ℕ) (e : One) → i < length h → e ≡ get_or h i e → lines_text number (take (i + 1) h) ≡ lines_text number (take i h) ++ line_text (line_of number e)
lines_more number h i e within is =
    let t : take (i + 1) h ≡ take i h ++ e ∷ [] = take_more h i e within ∙ ap (λ (z : One). take i h ++ z ∷ []) (sym is) in
    ap (lines_text number) t ∙ ap (flat_map line_text) (map-append (line_of number) (take i h) (e ∷ []))
    ∙ sym (flat_map_more line_text [] (map (line_of number) (take i h)) (line_of number e))

pub line_added : (number : Job → ℕ) (h : History) (i : ℕ) (e : One) (piece0 piece piece' : List ℕ) (o o' o'' : SinkState) → i < length h → e ≡ get_or h i e
    → WroteSome (piece0 ++ lines_text number (take i h)) piece o o' → WroteSome (piece ++ line_text (line_of number e)) piece' o' o''
    → WroteSome (piece0 ++ lines_text number (take (i + 1) h)) piece' o o''
line_added number h i e piece0 piece piece' o o' o'' within is so more =
    subst (λ (x : List ℕ). WroteSome x piece' o o'')
    (append_assoc piece0 (lines_text number (take i h)) (line_text (line_of number e)) ∙ ap (λ (x : List ℕ). piece0 ++ x) (sym (lines_more number h i e within is)))
    (wrote_on (piece0 ++ lines_text number (take i h)) piece (line_text (line_of number e)) piece' o o' o'' so more)

-- the lines of a history are those of its beginning, and more
lines_split : (number : Job → ℕ) (h : History) (i : ℕ) → (more : List ℕ) × (lines_text number h ≡ lines_text number (take i h) ++ more)
lines_split number h i = (
  lines_text number (drop i h),
  ap (lines_text number) (sym (take-append-drop i h)) ∙ ap (flat_map line_text) (map-append (line_of number) (take i h) (drop i h)) ∙ flat_map-append line_text (map (line_of number) (take i h)) (map (line_of number) (drop i h)),
)

-- a write failed at a line, or memory
pub line_failed : (number : Job → ℕ) (h : History) (i : ℕ) (e : One) (piece0 piece : List ℕ) (o o' o'' : SinkState) → i < length h → e ≡ get_or h i e
    → WroteSome (piece0 ++ lines_text number (take i h)) piece o o' → WroteFrontOf (piece ++ line_text (line_of number e)) o' o''
    → WroteFrontOf (piece0 ++ lines_text number h) o o''
line_failed number h i e piece0 piece o o' o'' within is so more =
    let s = lines_split number h (i + 1) in
    let w = prefix_on (piece0 ++ lines_text number (take i h)) piece (line_text (line_of number e)) o o' o'' so more in
    subst (λ (x : List ℕ). WroteFrontOf x o o'')
    (ap (λ (x : List ℕ). x ++ s.0) (append_assoc piece0 (lines_text number (take i h)) (line_text (line_of number e)))
    ∙ append_assoc piece0 (lines_text number (take i h) ++ line_text (line_of number e)) s.0
    ∙ ap (λ (x : List ℕ). piece0 ++ x) (ap (λ (y : List ℕ). y ++ s.0) (sym (lines_more number h i e within is)) ∙ sym s.1))
    (prefix_of_more ((piece0 ++ lines_text number (take i h)) ++ line_text (line_of number e)) s.0 o o'' w)

-- the same, where this is the entry's line
line_cut : (number : Job → ℕ) (h : History) (i : ℕ) (e : One) (line : TraceLine) (piece0 piece : List ℕ) (o o' o'' : SinkState) → i < length h → e ≡ get_or h i e → line ≡ line_of number e
    → WroteSome (piece0 ++ lines_text number (take i h)) piece o o' → WroteFrontOf (piece ++ line_text line) o' o'' → WroteFrontOf (piece0 ++ lines_text number h) o o''
line_cut number h i e line piece0 piece o o' o'' within is same so more =
    line_failed number h i e piece0 piece o o' o'' within is so (subst (λ (l : TraceLine). WroteFrontOf (piece ++ line_text l) o' o'') same more)

-- memory ran out at a line
pub line_wanting : (number : Job → ℕ) (h : History) (i : ℕ) (e : One) (line : TraceLine) (piece0 piece : List ℕ) (o o' o'' : SinkState) → i < length h → e ≡ get_or h i e → line ≡ line_of number e
    → WroteSome (piece0 ++ lines_text number (take i h)) piece o o' → o'.faults ≡ o.faults → WroteFrontOf (piece ++ line_text line) o' o'' × (o''.faults ≡ o'.faults)
    → WroteFrontOf (piece0 ++ lines_text number h) o o'' × (o''.faults ≡ o.faults)
line_wanting number h i e line piece0 piece o o' o'' within is same so faults more = (line_cut number h i e line piece0 piece o o' o'' within is same so more.0, more.1 ∙ faults)

-- a write failed at a line
pub line_stopped : (w : WriteAll) (number : Job → ℕ) (h : History) (i : ℕ) (e : One) (line : TraceLine) (piece0 piece piece' : List ℕ) (o o' o'' : SinkState) → i < length h → e ≡ get_or h i e
    → line ≡ line_of number e → WroteSome (piece0 ++ lines_text number (take i h)) piece o o' → o'.faults ≡ o.faults → w ≡ write.Failed → AddsTo w (line_text line) piece piece' o' o''
    → WroteFrontOf (piece0 ++ lines_text number h) o o'' × Rose o.faults o''.faults
line_stopped w number h i e line piece0 piece piece' o o' o'' within is same so faults failed adds =
    let more : AddsTo write.Failed (line_text line) piece piece' o' o'' = subst (λ (x : WriteAll). AddsTo x (line_text line) piece piece' o' o'') failed adds in
    (line_cut number h i e line piece0 piece o o' o'' within is same so more.0, subst (λ (n : ℕ). Rose n o''.faults) faults more.1)

-- all lines
pub lines_added : (number : Job → ℕ) (h : History) (i : ℕ) (piece0 piece : List ℕ) (o o' : SinkState) → length h ≤ i
    → WroteSome (piece0 ++ lines_text number (take i h)) piece o o' → WroteSome (piece0 ++ lines_text number h) piece o o'
lines_added number h i piece0 piece o o' past so = subst (λ (z : History). WroteSome (piece0 ++ lines_text number z) piece o o') (take_all i h past) so

-- the numbers are those of the history
same_lines : (numbering : Numbering) (h : History) → IsNumbering (offers h) numbering → lines_text (number_in numbering) h ≡ lines_text (number (offers h)) h
same_lines numbering h is = ap (λ (f : Job → ℕ). lines_text f h) (λ i job. is job i)

-- what a trace begins with, and its lines
head_and_lines : (head head' : List ℕ) (numbering : Numbering) (h : History) → head' ≡ head → IsNumbering (offers h) numbering → head' ++ lines_text (number_in numbering) h ≡ head ++ lines_text (number (offers h)) h
head_and_lines head head' numbering h same is = λ i. same i ++ same_lines numbering h is i

-- a prefix of these was written
pub trace_cut : (head head' count : List ℕ) (numbering : Numbering) (h : History) (o o' : SinkState) → head' ≡ head → IsNumbering (offers h) numbering
    → WroteFrontOf (head' ++ lines_text (number_in numbering) h) o o' → WroteFrontOf (head ++ lines_text (number (offers h)) h ++ count) o o'
trace_cut head head' count numbering h o o' same is w =
    prefix_of_more (head ++ lines_text (number (offers h)) h) count o o' (subst (λ (x : List ℕ). WroteFrontOf x o o') (head_and_lines head head' numbering h same is) w)

-- memory ran out at a line
pub trace_wanting : (head head' count : List ℕ) (numbering : Numbering) (h : History) (o o' : SinkState) → head' ≡ head → IsNumbering (offers h) numbering
    → WroteFrontOf (head' ++ lines_text (number_in numbering) h) o o' × (o'.faults ≡ o.faults)
    → WroteFrontOf (head ++ lines_text (number (offers h)) h ++ count) o o' × (o'.faults ≡ o.faults)
trace_wanting head head' count numbering h o o' same is w = (trace_cut head head' count numbering h o o' same is w.0, w.1)

-- a write failed at a line
pub trace_stopped : (w : WriteAll) (head head' count piece : List ℕ) (numbering : Numbering) (h : History) (o o' : SinkState) → head' ≡ head → IsNumbering (offers h) numbering → w ≡ write.Failed
    → AddsTo w (lines_text (number_in numbering) h) head' piece o o' → WroteFrontOf (head ++ lines_text (number (offers h)) h ++ count) o o' × Rose o.faults o'.faults
trace_stopped w head head' count piece numbering h o o' same is failed adds =
    let more : AddsTo write.Failed (lines_text (number_in numbering) h) head' piece o o' = subst (λ (x : WriteAll). AddsTo x (lines_text (number_in numbering) h) head' piece o o') failed adds in
    (trace_cut head head' count numbering h o o' same is more.0, more.1)

-- memory ran out after the lines
pub trace_uncounted : (w : WriteAll) (head head' count piece : List ℕ) (numbering : Numbering) (h : History) (o o' : SinkState) → head' ≡ head → IsNumbering (offers h) numbering → w ≡ write.Whole
    → AddsTo w (lines_text (number_in numbering) h) head' piece o o' → WroteFrontOf (head ++ lines_text (number (offers h)) h ++ count) o o' × (o'.faults ≡ o.faults)
trace_uncounted w head head' count piece numbering h o o' same is whole adds =
    let more : AddsTo write.Whole (lines_text (number_in numbering) h) head' piece o o' = subst (λ (x : WriteAll). AddsTo x (lines_text (number_in numbering) h) head' piece o o') whole adds in
    (trace_cut head head' count numbering h o o' same is (piece, more.0), more.1)

-- the last piece is written whole, or a prefix of it
last_out : (w : WriteAll) (text bytes piece full : List ℕ) (o o' o'' : SinkState) → WroteSome text piece o o' → o'.faults ≡ o.faults → full ≡ piece ++ bytes → WritesAll w full o' o'' → WritesAll w (text ++ bytes) o o''
last_out write.Whole text bytes piece full o o' o'' some same is h = (
  wrote_whole (text ++ bytes) [] o o'' (wrote_on text piece bytes [] o o' o'' some (subst (λ (x : List ℕ). WroteSome x [] o' o'') is (wrote_piece full o' o'' h.0))) refl,
  h.1 ∙ same,
)
last_out write.Failed text bytes piece full o o' o'' some same is h = (
  prefix_on text piece bytes o o' o'' some (subst (λ (x : List ℕ). WroteFrontOf x o' o'') is h.0),
  subst (λ (n : ℕ). Rose n o''.faults) same h.1,
)

-- all lines were added, and the last piece is written whole, or a prefix of it
pub trace_out : (w r : WriteAll) (head head' count piece full bytes : List ℕ) (numbering : Numbering) (h : History) (o o' o'' : SinkState) → head' ≡ head → IsNumbering (offers h) numbering → w ≡ write.Whole
    → AddsTo w (lines_text (number_in numbering) h) head' piece o o' → full ≡ piece ++ count → bytes ≡ full → WritesAll r bytes o' o''
    → WritesAll r (head ++ lines_text (number (offers h)) h ++ count) o o''
trace_out w r head head' count piece full bytes numbering h o o' o'' same is whole adds full_is bytes_are out =
    let more : AddsTo write.Whole (lines_text (number_in numbering) h) head' piece o o' = subst (λ (x : WriteAll). AddsTo x (lines_text (number_in numbering) h) head' piece o o') whole adds in
    last_out r (head ++ lines_text (number (offers h)) h) count piece bytes o o' o''
    (subst (λ (x : List ℕ). WroteSome x piece o o') (head_and_lines head head' numbering h same is) more.0) more.1 (bytes_are ∙ full_is) out
