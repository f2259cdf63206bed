-- Lemmas on what a source gave and what a sink took, as loops over them need.
use Rattle.std.proofs.Common.{◌≡◌, ℕ, ◌+◌, ◌≤◌, ◌<◌, List, [], ◌++◌, length, take, drop, Some, None, refl, sym, ap, ◌∙◌, subst, arith, append_assoc, append-nil, length-append, length-take}
use Rattle.std.specs.Prelude.{option_map, IfSome}
use Rattle.std.proofs.lemmas.List.{take-append-drop, take-append-le}
use Rattle.orb_base.specs.Outside.{Told, SourceState, SinkState, Rose}
use Rattle.text_streams.specs.Streams.{Gave, GaveFew, AtEnd, WroteSome, WroteText}

-- an option that is mapped twice
map_map : (f g : List ℕ → List ℕ) (o : Told) → option_map f (option_map g o) ≡ option_map (λ x. f (g x)) o
map_map f g (Some x) = refl
map_map f g None = refl

map_same : (f : List ℕ → List ℕ) → ((x : List ℕ) → f x ≡ x) → (o : Told) → o ≡ option_map f o
map_same f h (Some x) = ap Some (sym (h x))
map_same f h None = refl

map_as : (f g : List ℕ → List ℕ) → ((x : List ℕ) → f x ≡ g x) → (o : Told) → option_map f o ≡ option_map g o
map_as f g h (Some x) = ap Some (h x)
map_as f g h None = refl

pub gave_start : (s : SourceState) → Gave [] s s
gave_start s = record { from_left = map_same (λ rest. [] ++ rest) (λ x. refl) s.left; to_taken = map_same (λ seen. seen ++ []) append-nil s.taken }

-- one more piece: the first n bytes of a buffer
pub gave_more : (bytes piece : List ℕ) (s s' s'' : SourceState) → Gave bytes s s' → s'.left ≡ option_map (λ rest. piece ++ rest) s''.left → s''.taken ≡ option_map (λ seen. seen ++ piece) s'.taken → Gave (bytes ++ piece) s s''
gave_more bytes piece s s' s'' so_far from to = record {
  from_left = so_far.from_left ∙ ap (option_map (λ rest. bytes ++ rest)) from ∙ map_map (λ rest. bytes ++ rest) (λ rest. piece ++ rest) s''.left
      ∙ map_as (λ rest. bytes ++ (piece ++ rest)) (λ rest. (bytes ++ piece) ++ rest) (λ rest. sym (append_assoc bytes piece rest)) s''.left;
  to_taken = to ∙ ap (option_map (λ seen. seen ++ piece)) so_far.to_taken ∙ map_map (λ seen. seen ++ piece) (λ seen. seen ++ bytes) s.taken
      ∙ map_as (λ seen. (seen ++ bytes) ++ piece) (λ seen. seen ++ (bytes ++ piece)) (λ seen. append_assoc seen bytes piece) s.taken;
}

-- nothing more was taken
pub gave_same : (bytes : List ℕ) (s s' s'' : SourceState) → Gave bytes s s' → s''.left ≡ s'.left → s''.taken ≡ s'.taken → Gave bytes s s''
gave_same bytes s s' s'' so_far same_left same_taken = record {
  from_left = so_far.from_left ∙ ap (option_map (λ rest. bytes ++ rest)) (sym same_left);
  to_taken = same_taken ∙ so_far.to_taken;
}

-- the end was met
pub end_met : (s s' s'' : SourceState) → s'.ends ≡ s.ends → s''.left ≡ s'.left → IfSome s'.left (λ rest. rest ≡ []) → Rose s'.ends s''.ends → AtEnd s s''
end_met s s' s'' same same_left none rose = (omega (arith, same, rose), subst (λ (o : Told). IfSome o (λ rest. rest ≡ [])) (sym same_left) none)

pub wrote_nothing : (o : SinkState) → WroteText [] o o
wrote_nothing o = map_same (λ h. h ++ []) append-nil o.held

pub wrote_start : (bytes : List ℕ) (o : SinkState) → WroteSome bytes bytes o o
wrote_start bytes o = record { front = []; parts = refl; wrote = map_same (λ h. h ++ []) append-nil o.held }

-- one more piece: the first n bytes of the rest
pub wrote_step : (bytes rest after : List ℕ) (n : ℕ) (o o' o'' : SinkState) → WroteSome bytes rest o o' → o''.held ≡ option_map (λ h. h ++ take n rest) o'.held → after ≡ drop n rest → WroteSome bytes after o o''
wrote_step bytes rest after n o o' o'' so_far wrote is = record {
  front = so_far.front ++ take n rest;
  parts = so_far.parts ∙ ap (λ (x : List ℕ). so_far.front ++ x) (sym (take-append-drop n rest)) ∙ sym (append_assoc so_far.front (take n rest) (drop n rest)) ∙ ap (λ (x : List ℕ). (so_far.front ++ take n rest) ++ x) (sym is);
  wrote = wrote ∙ ap (option_map (λ h. h ++ take n rest)) so_far.wrote ∙ map_map (λ h. h ++ take n rest) (λ h. h ++ so_far.front) o.held
      ∙ map_as (λ h. (h ++ so_far.front) ++ take n rest) (λ h. h ++ (so_far.front ++ take n rest)) (λ h. append_assoc h so_far.front (take n rest)) o.held;
}

-- nothing was taken of the rest
pub wrote_same : (bytes rest : List ℕ) (o o' o'' : SinkState) → WroteSome bytes rest o o' → o''.held ≡ o'.held → WroteSome bytes rest o o''
wrote_same bytes rest o o' o'' so_far same = record { front = so_far.front; parts = so_far.parts; wrote = same ∙ so_far.wrote }

-- nothing is left to write
pub wrote_whole : (bytes rest : List ℕ) (o o' : SinkState) → WroteSome bytes rest o o' → rest ≡ [] → WroteText bytes o o'
wrote_whole bytes rest o o' so_far none =
    so_far.wrote ∙ ap (λ (x : List ℕ). option_map (λ h. h ++ x) o.held) (sym (so_far.parts ∙ ap (λ (x : List ℕ). so_far.front ++ x) none ∙ append-nil so_far.front))

pub gave_few : (limit : ℕ) (bytes : List ℕ) (s s' : SourceState) → Gave bytes s s' → length bytes ≤ limit → GaveFew limit s s'
gave_few limit bytes s s' so_far few = record { bytes = bytes; few = few; gave = so_far }

-- one more piece, which is at the front of a buffer with other bytes after it
pub gave_step : (bytes into behind after : List ℕ) (n : ℕ) (s s' s'' : SourceState) → Gave bytes s s' → n ≤ length into → s'.left ≡ option_map (λ rest. take n into ++ rest) s''.left → s''.taken ≡ option_map (λ seen. seen ++ take n into) s'.taken → after ≡ bytes ++ take n (into ++ behind) → Gave after s s''
gave_step bytes into behind after n s s' s'' so_far few from to is =
    subst (λ (b : List ℕ). Gave b s s'') (sym (is ∙ ap (λ (x : List ℕ). bytes ++ x) (take-append-le n into behind few)))
    (gave_more bytes (take n into) s s' s'' so_far from to)

-- one more piece came, for which memory was wanting
pub gave_last : (limit : ℕ) (bytes into : List ℕ) (n : ℕ) (s s' s'' : SourceState) → Gave bytes s s' → n + length bytes ≤ limit → s'.left ≡ option_map (λ rest. take n into ++ rest) s''.left → s''.taken ≡ option_map (λ seen. seen ++ take n into) s'.taken → GaveFew limit s s''
gave_last limit bytes into n s s' s'' so_far few from to = record {
  bytes = bytes ++ take n into;
  few = omega (arith, length-append bytes (take n into), length-take n into);
  gave = gave_more bytes (take n into) s s' s'' so_far from to;
}

-- nothing was taken
pub gave_none : (limit : ℕ) (s : SourceState) → GaveFew limit s s
gave_none limit s = record { bytes = []; few = omega arith; gave = gave_start s }

-- bytes were written after others
pub wrote_behind : (a b : List ℕ) (o o' o'' : SinkState) → WroteText a o o' → WroteText b o' o'' → WroteText (a ++ b) o o''
wrote_behind a b o o' o'' first then =
    then ∙ ap (option_map (λ h. h ++ b)) first ∙ map_map (λ h. h ++ b) (λ h. h ++ a) o.held ∙ map_as (λ h. (h ++ a) ++ b) (λ h. h ++ (a ++ b)) (λ h. append_assoc h a b) o.held

-- and of those a prefix alone
pub wrote_all : (a b rest : List ℕ) (o o' o'' : SinkState) → WroteText a o o' → WroteSome b rest o' o'' → WroteSome (a ++ b) rest o o''
wrote_all a b rest o o' o'' first some = record {
  front = a ++ some.front;
  parts = ap (λ (x : List ℕ). a ++ x) some.parts ∙ sym (append_assoc a some.front rest);
  wrote = wrote_behind a some.front o o' o'' first some.wrote;
}

-- where more was to follow
pub wrote_more : (a b rest more : List ℕ) (o o' o'' : SinkState) → WroteText a o o' → WroteSome b rest o' o'' → WroteSome (a ++ (b ++ more)) (rest ++ more) o o''
wrote_more a b rest more o o' o'' first some = record {
  front = a ++ some.front;
  parts = ap (λ (x : List ℕ). a ++ (x ++ more)) some.parts ∙ ap (λ (x : List ℕ). a ++ x) (append_assoc some.front rest more) ∙ sym (append_assoc a some.front (rest ++ more));
  wrote = wrote_behind a some.front o o' o'' first some.wrote;
}

-- more than the limit came, and no more than one more
pub gave_more_than : (limit : ℕ) (bytes : List ℕ) (s s' : SourceState) → Gave bytes s s' → limit < length bytes → length bytes ≤ limit + 1
    → (all : List ℕ) × (length all ≡ limit + 1) × Gave all s s'
gave_more_than limit bytes s s' so_far more few = (bytes, omega arith, so_far)
