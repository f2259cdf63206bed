-- Values read one after the other, and lists of them after their count.
use Rattle.std.proofs.Common.{◌≡◌, ℕ, zero, suc, ◌+◌, ◌<◌, ◌≤◌, List, [], ◌∷◌, ◌++◌, length, Ok, Err, inl, inr, refl, sym, ap, subst, ◌∙◌, arith, length-append}
use Rattle.std.specs.Int.{w32}
use Rattle.std.specs.List.{AllByRecursion, flat_map}
use Rattle.std.proofs.lemmas.List.Concat.{flat_map-cons}
use Rattle.cdr_core.specs.declared.fault.CdrFault.{CdrFault}
use Rattle.cdr_core.specs.Field.{Field, number, octets_fields, fields_end}
use Rattle.cdr_core.specs.Spelling.{fields_bytes}
use Rattle.cdr_core.specs.Cursor.{Cursor, cursor, AreBytes, Reads}
use Rattle.cdr_core.specs.Basic.{unsigned}
use Rattle.cdr_core.specs.Reading.{number_at, count_at, octets_at}
use Rattle.cdr_core.specs.Passing.{Spans}
use Rattle.cdr_core.specs.Sequence.{Parsed, times}
use Rattle.cdr_core.specs.Lists.{Item, item_fields, FitsItem, item_at, made_at, list_fields, FitsList, list_at}
use Rattle.cdr_core.specs.Lists.{item_of_tagged, tagged_of, tagged_fields, FitsTagged, item_of_context, context_of, context_fields, FitsContext}
use Rattle.cdr_core.specs.FirstFault.{FailsIn, item, FailsAmong, FailsList}
use Rattle.cdr_core.specs.ListLaws.{TakesOnly, TakesEach, TellsOnly, TellsEach, IsExactFor, TakesRoom, ItemsAreExact, TaggedListsAreExact, ContextListsAreExact, ReadsBackAs, ListsReadBack}
use Rattle.cdr_core.proofs.Binding.{bind_ok, bind_err, ok_is}
use Rattle.cdr_core.proofs.Spelled.{length-spelled, spelled_zeros, fields_end-is}
use Rattle.cdr_core.proofs.Parts.{spans_then, spans_split, number_takes, number_reads, number_fails, number_refuses}
use Rattle.cdr_core.proofs.Counts.{passes_of, count_takes, count_reads, count_fails, count_refuses, octets_takes, octets_reads, octets_fail, octets_refuse}
use Rattle.cdr_core.proofs.Rows.{long_len, bytes_behind, nothing, same_cursor, number_stands, number_there}

-- ---- items

item_takes : TakesOnly item_at item_fields FitsItem
unfolding item_at
item_takes c y fits e =
    let n = bind_ok (number_at w32 c) _ y e in
    let b = bind_ok (octets_at n.0.1) _ y n.2 in
    let t = number_takes w32 c n.0 long_len fits n.1 in
    let u = octets_takes n.0.1 b.0 t.bytes b.1 in
    subst (λ (x : Item × Cursor). FitsItem x.0 × Spans c x.1 (item_fields x.0)) (ok_is ((n.0.0, b.0.0), b.0.1) y b.2)
    ((t.fits, u.fits), spans_then c n.0.1 b.0.1 (number w32 n.0.0 ∷ []) (octets_fields b.0.0) t.spans u.spans)

item_again : TakesEach item_at item_fields FitsItem
unfolding item_at
item_again c d a fits p =
    let h = spans_split c d (number w32 a.0 ∷ []) (octets_fields a.1) p in
    rw (number_reads w32 c h.middle a.0 long_len fits.0 h.first, octets_reads h.middle d a.1 fits.1 h.others) refl

item_fails : TellsOnly item_at (FailsIn item)
unfolding item_at
item_fails c e fits h =
    elim (bind_err (number_at w32 c) _ e h) [
      | inl a ↦ inl (number_fails w32 c e a)
      | inr a ↦
          let t = number_takes w32 c a.0 long_len fits a.1 in
          elim (bind_err (octets_at a.0.1) _ e a.2) [
            | inl b ↦ inr (a.0.1, number_stands w32 c a.0 long_len fits a.1, inl (octets_fail a.0.1 e t.bytes b))
            | inr b ↦ let no = b.2 in absurd cc
          ]
    ]

item_told : TellsEach item_at (FailsIn item)
unfolding item_at
item_told c e (inl h) = rw (number_refuses w32 c e h) refl
item_told c e (inr (d, s, inl h)) = let n = number_there w32 c d long_len s in rw (n.1, octets_refuse d e h) refl
item_told c e (inr (d, s, inr (b, t, h))) = absurd h

pub items_are_exact : ItemsAreExact
items_are_exact = record { found = item_takes; only = item_again; fails = item_fails; told = item_told }

pub items_take_room : TakesRoom item_fields
items_take_room a place = omega arith

-- what is made of an item, and is its item again
pub made_exact : {A : Type 0} (made : Item → A) (parts : A → Item) → ((a : A) → made (parts a) ≡ a) → ((x : Item) → parts (made x) ≡ x)
    → IsExactFor (made_at made) (λ a. item_fields (parts a)) (λ a. FitsItem (parts a)) (FailsIn item)
made_exact {A} made parts there back = record {
  found = λ c y fits e.
      let b = bind_ok (item_at c) _ y e in
      let t = item_takes c b.0 fits b.1 in
      let whole : FitsItem (parts (made b.0.0)) × Spans c b.0.1 (item_fields (parts (made b.0.0))) =
      subst (λ (x : Item). FitsItem x × Spans c b.0.1 (item_fields x)) (sym (back b.0.0)) t in
      subst (λ (x : A × Cursor). FitsItem (parts x.0) × Spans c x.1 (item_fields (parts x.0))) (ok_is (made b.0.0, b.0.1) y b.2) whole;
  only = λ c d a fits p. rw (item_again c d (parts a) fits p) (ap (λ (x : A). Ok (x, d)) (there a));
  fails = λ c e fits h. elim (bind_err (item_at c) _ e h) [
    | inl a ↦ item_fails c e fits a
    | inr a ↦ let no = a.2 in absurd cc
  ];
  told = λ c e h. rw (item_told c e h) refl;
}

-- ---- several

-- so many values between two cursors
pub record TookAll {A : Type 0} (fields : A → List Field) (Fits : A → Type 0) (n : ℕ) (c d : Cursor) (values : List A) : Type 0 where
  pub count : length values ≡ n
  pub fit : AllByRecursion Fits values
  pub spans : Spans c d (flat_map fields values)

pub times_takes : {E A : Type 0} (one : Cursor → Parsed E A) (fields : A → List Field) (Fits : A → Type 0) → TakesOnly one fields Fits
    → (n : ℕ) (c : Cursor) (y : List A × Cursor) → AreBytes c.rest → times one n c ≡ Ok y → TookAll fields Fits n c y.1 y.0
unfolding times
times_takes {E} {A} one fields Fits each zero c y fits e =
    subst (λ (x : List A × Cursor). TookAll fields Fits 0 c x.1 x.0) (ok_is ([], c) y e) (record { count = refl; fit = tt; spans = nothing c })
times_takes {E} {A} one fields Fits each (suc n) c y fits e =
    let first = bind_ok (one c) _ y e in
    let others = bind_ok (times one n first.0.1) _ y first.2 in
    let t = each c first.0 fits first.1 in
    let u = times_takes one fields Fits each n first.0.1 others.0 (bytes_behind c first.0.1 (fields first.0.0) fits t.1) others.1 in
    let both = spans_then c first.0.1 others.0.1 (fields first.0.0) (flat_map fields others.0.0) t.1 u.spans in
    subst (λ (x : List A × Cursor). TookAll fields Fits (suc n) c x.1 x.0) (ok_is (first.0.0 ∷ others.0.0, others.0.1) y others.2) (record {
      count = ap suc u.count;
      fit = (t.0, u.fit);
      spans = subst (Spans c others.0.1) (sym (flat_map-cons fields first.0.0 others.0.0)) both;
    })

pub times_again : {E A : Type 0} (one : Cursor → Parsed E A) (fields : A → List Field) (Fits : A → Type 0) → TakesEach one fields Fits
    → (s : List A) (c d : Cursor) → AllByRecursion Fits s → Spans c d (flat_map fields s) → times one (length s) c ≡ Ok (s, d)
unfolding times
times_again {E} {A} one fields Fits each [] c d fit p = ap (λ (e : Cursor). Ok ([], e)) (same_cursor c d p)
times_again one fields Fits each (a ∷ s) c d fit p =
    let q : Spans c d (fields a ++ flat_map fields s) = subst (Spans c d) (flat_map-cons fields a s) p in
    let h = spans_split c d (fields a) (flat_map fields s) q in
    rw (each c h.middle a fit.0 h.first, times_again one fields Fits each s h.middle d fit.1 h.others) refl

pub times_fails : {E A : Type 0} (one : Cursor → Parsed E A) (fields : A → List Field) (Fits : A → Type 0) (Bad : Cursor → E → Type 0)
    → TakesOnly one fields Fits → TellsOnly one Bad → (n : ℕ) (c : Cursor) (e : E) → AreBytes c.rest
    → times one n c ≡ Err e → FailsAmong fields Fits Bad n c e
unfolding times
times_fails one fields Fits Bad each fails zero c e fits h = absurd cc
times_fails one fields Fits Bad each fails (suc n) c e fits h =
    elim (bind_err (one c) _ e h) [
      | inl a ↦ record { before = []; fit = tt; few = omega arith; behind = c; spans = nothing c; fails = fails c e fits a }
      | inr a ↦
          let t = each c a.0 fits a.1 in
          elim (bind_err (times one n a.0.1) _ e a.2) [
            | inl b ↦
                let later = times_fails one fields Fits Bad each fails n a.0.1 e (bytes_behind c a.0.1 (fields a.0.0) fits t.1) b in
                record {
                  before = a.0.0 ∷ later.before;
                  fit = (t.0, later.fit);
                  few = omega (arith, later.few);
                  behind = later.behind;
                  spans = rw flat_map-cons (spans_then c a.0.1 later.behind (fields a.0.0) (flat_map fields later.before) t.1 later.spans);
                  fails = later.fails;
                }
            | inr b ↦ let no = b.2 in absurd cc
          ]
    ]

told_behind : {E A : Type 0} (one : Cursor → Parsed E A) (fields : A → List Field) (Fits : A → Type 0) (Bad : Cursor → E → Type 0)
    → TakesEach one fields Fits → TellsEach one Bad → (n : ℕ) (before : List A) (c d : Cursor) (e : E)
    → AllByRecursion Fits before → length before < n → Spans c d (flat_map fields before) → Bad d e → times one n c ≡ Err e
unfolding times
told_behind one fields Fits Bad each tells zero before c d e fit few p h = absurd (omega arith)
told_behind one fields Fits Bad each tells (suc n) [] c d e fit few p h =
    let there : Bad c e = subst (λ (x : Cursor). Bad x e) (sym (same_cursor c d p)) h in
    rw (tells c e there) refl
told_behind one fields Fits Bad each tells (suc n) (a ∷ before) c d e fit few p h =
    let q : Spans c d (fields a ++ flat_map fields before) = subst (Spans c d) (flat_map-cons fields a before) p in
    let s = spans_split c d (fields a) (flat_map fields before) q in
    rw (each c s.middle a fit.0 s.first, told_behind one fields Fits Bad each tells n before s.middle d e fit.1 (omega arith) s.others h) refl

pub times_told : {E A : Type 0} (one : Cursor → Parsed E A) (fields : A → List Field) (Fits : A → Type 0) (Bad : Cursor → E → Type 0)
    → TakesEach one fields Fits → TellsEach one Bad → (n : ℕ) (c : Cursor) (e : E) → FailsAmong fields Fits Bad n c e → times one n c ≡ Err e
times_told one fields Fits Bad each tells n c e h =
    told_behind one fields Fits Bad each tells n h.before c h.behind e h.fit h.few h.spans h.fails

-- each takes a byte at least, so that there are as many bytes as are counted
pub room_for : {A : Type 0} (fields : A → List Field) → TakesRoom fields → (s : List A) (c d : Cursor) → Spans c d (flat_map fields s) → length s ≤ length c.rest
room_for fields room [] c d p = omega arith
room_for fields room (a ∷ s) c d p =
    let q : Spans c d (fields a ++ flat_map fields s) = subst (Spans c d) (flat_map-cons fields a s) p in
    let h = spans_split c d (fields a) (flat_map fields s) q in
    let end = length-spelled c.order c.place (fields a) h.first.spelling h.first.spelled in
    let all : length c.rest ≡ length h.first.spelling + length h.middle.rest =
    ap length h.first.parts ∙ length-append h.first.spelling h.middle.rest in
    let others = room_for fields room s h.middle d h.others in
    omega (arith, end, all, others, room a c.place)

-- ---- lists behind their count, over any error of the values

-- a count and then so many, as any reading has them
pub counted_takes : {E A : Type 0} (one : Cursor → Parsed E A) (fields : A → List Field) (Fits : A → Type 0) → TakesOnly one fields Fits
    → (c : Cursor) (n : ℕ × Cursor) (y : List A × Cursor) → AreBytes c.rest → count_at c ≡ Ok n → times one n.0 n.1 ≡ Ok y
    → FitsList Fits y.0 × Spans c y.1 (list_fields fields y.0)
counted_takes one fields Fits each c n y fits e h =
    let t = count_takes c n fits e in
    let u = times_takes one fields Fits each n.0 n.1 y t.bytes h in
    let first : Spans c n.1 (number w32 (length y.0) ∷ []) = subst (λ (k : ℕ). Spans c n.1 (number w32 k ∷ [])) (sym u.count) t.spans in
    ((omega (arith, u.count, t.fits), u.fit), spans_then c n.1 y.1 (number w32 (length y.0) ∷ []) (flat_map fields y.0) first u.spans)

-- the count and the values of a list that is there
pub record Counting {E A : Type 0} (one : Cursor → Parsed E A) (c d : Cursor) (s : List A) : Type 0 where
  pub middle : Cursor
  pub counts : count_at c ≡ Ok (length s, middle)
  pub values : times one (length s) middle ≡ Ok (s, d)

pub counted_again : {E A : Type 0} (one : Cursor → Parsed E A) (fields : A → List Field) (Fits : A → Type 0) → TakesEach one fields Fits → TakesRoom fields
    → (c d : Cursor) (s : List A) → FitsList Fits s → Spans c d (list_fields fields s) → Counting one c d s
counted_again one fields Fits each room c d s fits p =
    let h = spans_split c d (number w32 (length s) ∷ []) (flat_map fields s) p in
    record {
      middle = h.middle;
      counts = count_reads c h.middle (length s) fits.0 (room_for fields room s h.middle d h.others) h.first;
      values = times_again one fields Fits each s h.middle d fits.1 h.others;
    }

list_fails : {A : Type 0} (one : Cursor → Reads A) (fields : A → List Field) (Fits : A → Type 0) (Bad : Cursor → CdrFault → Type 0)
    → IsExactFor one fields Fits Bad → TellsOnly (list_at one) (FailsList fields Fits Bad)
unfolding list_at
list_fails one fields Fits Bad exact c e fits h =
    elim (bind_err (count_at c) (λ x. times one x.0 x.1) e h) [
      | inl a ↦ inl (count_fails c e fits a)
      | inr a ↦
          let t = count_takes c a.0 fits a.1 in
          inr (
            a.0.0,
            a.0.1,
            (passes_of c a.0.1 (unsigned w32 a.0.0) t.fits t.spans, t.room),
            times_fails one fields Fits Bad exact.found exact.fails a.0.0 a.0.1 e t.bytes a.2,
          )
    ]

list_told : {A : Type 0} (one : Cursor → Reads A) (fields : A → List Field) (Fits : A → Type 0) (Bad : Cursor → CdrFault → Type 0)
    → IsExactFor one fields Fits Bad → TellsEach (list_at one) (FailsList fields Fits Bad)
unfolding list_at
list_told one fields Fits Bad exact c e (inl h) = rw (count_refuses c e h) refl
list_told one fields Fits Bad exact c e (inr (n, d, k, h)) =
    rw (count_reads c d n k.0.fits k.1 k.0.spans) (times_told one fields Fits Bad exact.only exact.told n d e h)

list_takes : {A : Type 0} (one : Cursor → Reads A) (fields : A → List Field) (Fits : A → Type 0) → TakesOnly one fields Fits
    → TakesOnly (list_at one) (list_fields fields) (FitsList Fits)
unfolding list_at
list_takes one fields Fits each c y fits e =
    let n = bind_ok (count_at c) (λ x. times one x.0 x.1) y e in
    counted_takes one fields Fits each c n.0 y fits n.1 n.2

list_again : {A : Type 0} (one : Cursor → Reads A) (fields : A → List Field) (Fits : A → Type 0) → TakesEach one fields Fits → TakesRoom fields
    → TakesEach (list_at one) (list_fields fields) (FitsList Fits)
unfolding list_at
list_again one fields Fits each room c d s fits p =
    let h = counted_again one fields Fits each room c d s fits p in rw h.counts h.values

pub lists_are_exact : {A : Type 0} (one : Cursor → Reads A) (fields : A → List Field) (Fits : A → Type 0) (Bad : Cursor → CdrFault → Type 0)
    → IsExactFor one fields Fits Bad → TakesRoom fields
    → IsExactFor (list_at one) (list_fields fields) (FitsList Fits) (FailsList fields Fits Bad)
lists_are_exact one fields Fits Bad exact room = record {
  found = list_takes one fields Fits exact.found;
  only = list_again one fields Fits exact.only room;
  fails = list_fails one fields Fits Bad exact;
  told = list_told one fields Fits Bad exact;
}

tagged_exact : IsExactFor (made_at tagged_of) tagged_fields FitsTagged (FailsIn item)
tagged_exact = made_exact tagged_of item_of_tagged (λ t. refl) (λ x. refl)

context_exact : IsExactFor (made_at context_of) context_fields FitsContext (FailsIn item)
context_exact = made_exact context_of item_of_context (λ t. refl) (λ x. refl)

pub tagged_lists_are_exact : TaggedListsAreExact
tagged_lists_are_exact = lists_are_exact (made_at tagged_of) tagged_fields FitsTagged (FailsIn item) tagged_exact (λ t place. items_take_room (item_of_tagged t) place)

pub context_lists_are_exact : ContextListsAreExact
context_lists_are_exact = lists_are_exact (made_at context_of) context_fields FitsContext (FailsIn item) context_exact (λ t place. items_take_room (item_of_context t) place)

-- ---- what is spelled reads back

pub reads_back_as : {E A : Type 0} (one : Cursor → Parsed E A) (fields : A → List Field) (Fits : A → Type 0)
    → TakesEach one fields Fits → ReadsBackAs one fields Fits
reads_back_as one fields Fits each order place a rest fits =
    let spelling = fields_bytes order place (fields a) in
    each (cursor order place (spelling ++ rest)) (cursor order (fields_end place (fields a)) rest) a fits
    (record { spelling = spelling; parts = refl; spelled = spelled_zeros order place (fields a); order = refl; place = fields_end-is order place (fields a) })

pub lists_read_back : ListsReadBack
lists_read_back =
    reads_back_as (list_at item_at) (list_fields item_fields) (FitsList FitsItem)
    (list_again item_at item_fields FitsItem item_again items_take_room)
