-- Hands whose seats come back one after another.
use Rattle.std.proofs.Common.{◌≡◌, List, [], ◌∷◌, ◌++◌, append-nil, append_assoc, subst, sym, ap, ◌∙◌, refl}
use Rattle.turn_cell.specs.Calls.{IsOf, IsJoined, gone}
use Rattle.orb_base.specs.declared.answer.Answer.{Answer}
use Rattle.orb_base.specs.declared.told.Told.{Told}
use Rattle.names_hall.specs.Hands.{Cell, Sitting, Leaving, Hand}
use Rattle.names_hall.specs.Seats.{AreIn}
use Rattle.names_hall.specs.Closing.{left_by, done_by, told_in, TakesIn}

cut_in : (cell : Cell) (xs : List Hand) (x : Hand) → AreIn cell (xs ++ x ∷ []) → AreIn cell xs × (IsOf cell x.seat × (x.seat.ended ≡ []))
cut_in cell [] x a = (tt, a.0)
cut_in cell (y ∷ ys) x a = let r = cut_in cell ys x a.1 in ((a.0, r.0), r.1)

pub in_front : (cell : Cell) (all xs : List Hand) (x : Hand) → AreIn cell all → all ≡ xs ++ x ∷ [] → AreIn cell xs
in_front cell all xs x a e = (cut_in cell xs x (subst (AreIn cell) e a)).0

pub in_last : (cell : Cell) (all xs : List Hand) (x : Hand) → AreIn cell all → all ≡ xs ++ x ∷ [] → IsOf cell x.seat
in_last cell all xs x a e = (cut_in cell xs x (subst (AreIn cell) e a)).1.0

last_alone : (cell : Cell) (all xs : List Hand) (x : Hand) → AreIn cell all → all ≡ xs ++ x ∷ [] → x.seat.ended ≡ []
last_alone cell all xs x a e = (cut_in cell xs x (subst (AreIn cell) e a)).1.1

pub taken_none : (cell : Cell) (hands : List Hand) (old : Sitting) → hands ≡ [] → IsOf cell old → TakesIn cell hands old old
taken_none cell hands old e in_cell = subst (λ (hs : List Hand). TakesIn cell hs old old) (sym e) (record {
  in_cell = in_cell;
  number = refl;
  splits = refl;
  ended = sym (append-nil old.ended);
})

left_push : (hands : List Hand) (x : Hand) → left_by (hands ++ x ∷ []) ≡ left_by hands ++ gone x.seat ∷ []
left_push [] x = refl
left_push (h ∷ hs) x = ap (λ (z : List Leaving). gone h.seat ∷ z) (left_push hs x)

pub taken_more : (cell : Cell) (all xs : List Hand) (x : Hand) (old mid new : Sitting) → all ≡ xs ++ x ∷ [] → AreIn cell all → TakesIn cell xs old mid
    → IsJoined mid x.seat new → TakesIn cell all old new
taken_more cell all xs x old mid new e a t j = let h = j.0 in
    let alone : gone x.seat ∷ x.seat.ended ≡ gone x.seat ∷ [] = ap (λ (z : List Leaving). gone x.seat ∷ z) (last_alone cell all xs x a e) in
    subst (λ (hs : List Hand). TakesIn cell hs old new) (sym e) (record {
      in_cell = (h.0 ∙ t.in_cell.0, h.1 ∙ t.in_cell.1);
      number = h.2 ∙ t.number;
      splits = h.4 ∙ t.splits;
      ended = j.1 ∙ (ap (λ (z : List Leaving). mid.ended ++ z) alone ∙ (ap (λ (z : List Leaving). z ++ gone x.seat ∷ []) t.ended
          ∙ (append_assoc old.ended (left_by xs) (gone x.seat ∷ []) ∙ ap (λ (z : List Leaving). old.ended ++ z) (sym (left_push xs x)))));
    })

done_push : (hands : List Hand) (x : Hand) → done_by (hands ++ x ∷ []) ≡ done_by hands ++ x.done ∷ []
done_push [] x = refl
done_push (h ∷ hs) x = ap (λ (z : List (List Answer)). h.done ∷ z) (done_push hs x)

told_push : (told : List (Told Answer)) (t : Told Answer) → told_in (told ++ t ∷ []) ≡ told_in told ++ t.items ∷ []
told_push [] t = refl
told_push (u ∷ us) t = ap (λ (z : List (List Answer)). u.items ∷ z) (told_push us t)

pub told_none : (told : List (Told Answer)) (hands : List Hand) → told ≡ [] → hands ≡ [] → told_in told ≡ done_by hands
told_none told hands e f = ap told_in e ∙ sym (ap done_by f)

pub told_more : (told more : List (Told Answer)) (t : Told Answer) (all xs : List Hand) (x : Hand) → told_in told ≡ done_by xs → more ≡ told ++ t ∷ []
    → t.items ≡ x.done → all ≡ xs ++ x ∷ [] → told_in more ≡ done_by all
told_more told more t all xs x e m same f =
    ap told_in m ∙ (told_push told t ∙ (ap (λ (z : List (List Answer)). z ++ t.items ∷ []) e
    ∙ (ap (λ (z : List Answer). done_by xs ++ z ∷ []) same ∙ (sym (done_push xs x) ∙ sym (ap done_by f)))))
