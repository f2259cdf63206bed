-- The history has room for each fit call.
use Rattle.std.proofs.Common.{◌≡◌, ℕ, length, sym, ◌∙◌, subst, arith}
use Rattle.turn_cell.specs.Seats.{CellView}
use Rattle.turn_cell.specs.Calls.{WornOut}
use Rattle.client_mux.specs.declared.limits.TheConstants.{MAX_ENTRIES}
use Rattle.client_mux.specs.declared.call.MuxCall.{MuxCall}
use Rattle.client_mux.specs.Machine.{Mux, History, step, is_ready, IsSound, Opens}
use Rattle.client_mux.specs.Callers.{of, IsFit}
use Rattle.client_mux.proofs.Length.{has_room}
use Rattle.shared_link.specs.Link.{Sitting}

pub never_worn : (cell : CellView Mux) (call : MuxCall) (old new : Sitting) → cell.terms.length ≡ MAX_ENTRIES
    → IsFit cell.terms.opening old.number old.mine call → WornOut is_ready IsSound step Opens IsFit cell old new → ⊥
never_worn cell call old new long fit w =
    let looks = w.0 in
    let good = looks.1.0 in
    let number : new.number ≡ old.number = looks.0.2 in
    let mine : old.mine ≡ of new.number new.seen = sym looks.2 ∙ looks.1.1 in
    let fit_now : IsFit cell.terms.opening new.number (of new.number new.seen) call =
    subst (λ (h : History). IsFit cell.terms.opening new.number h call) mine (subst (λ (n : ℕ). IsFit cell.terms.opening n old.mine call) (sym number) fit) in
    let short = has_room cell.terms.opening new.seen new.number call good.0 good.1 good.2 fit_now in
    let full : length new.seen ≡ cell.terms.length = w.1 in
    absurd (omega arith)
