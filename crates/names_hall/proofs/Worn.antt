-- The history has room for each fit call.
use Rattle.std.proofs.Common.{◌≡◌, ℕ, true, length, sym, ◌∙◌, subst, arith}
use Rattle.turn_cell.specs.Calls.{WornOut}
use Rattle.turn_cell.specs.History.{of}
use Rattle.name_map.specs.declared.limits.TheConstants.{MAX_ENTRIES}
use Rattle.name_map.specs.declared.call.NamesCall.{NamesCall}
use Rattle.name_map.specs.Machine.{step}
use Rattle.name_map.specs.Callers.{History, Opens, IsFit}
use Rattle.name_map.proofs.Room.{has_room_for}
use Rattle.names_hall.specs.Hands.{Cell, Sitting}

pub never_worn : (cell : Cell) (call : NamesCall) (old new : Sitting) → cell.terms.length ≡ MAX_ENTRIES
    → IsFit cell.terms.opening old.number old.mine call → WornOut (λ _ _. true) (λ _ _. Unit {0}) step Opens IsFit cell old new → ⊥
never_worn cell call old new long fit w =
    let looks = w.0 in
    let good = looks.1.0 in
    let number : new.number ≡ old.number = looks.0.2 in
    let mine : old.mine ≡ of new.number new.seen = sym looks.2 ∙ looks.1.1 in
    let fit_now : IsFit cell.terms.opening new.number (of new.number new.seen) call =
    subst (λ (h : History). IsFit cell.terms.opening new.number h call) mine (subst (λ (n : ℕ). IsFit cell.terms.opening n old.mine call) (sym number) fit) in
    let short = has_room_for cell.terms.opening new.seen new.number call good.2 fit_now in
    let full : length new.seen ≡ cell.terms.length = w.1 in
    absurd (omega arith)
