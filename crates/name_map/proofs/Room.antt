-- Callers that make no more calls than they may leave room for each.
use Rattle.std.proofs.Common.{◌≡◌, ℕ, ◌+◌, ◌<◌, ◌≤◌, List, [], ◌∷◌, ◌++◌, length, length-append, arith}
use Rattle.turn_cell.specs.History.{of, FitFrom}
use Rattle.flat_seats.specs.Bounded.{AreAmong, HaveAtMost}
use Rattle.flat_seats.proofs.Along.{fit_along}
use Rattle.flat_seats.proofs.Bounds.{has_room}
use Rattle.name_map.specs.declared.binding.Binding.{Binding}
use Rattle.name_map.specs.declared.limits.TheConstants.{MAX_CALLERS, MAX_CALLS}
use Rattle.name_map.specs.Callers.{History, IsFit}
use Rattle.name_map.specs.Laws as law

among : (opening : List Binding) (before h : History) → FitFrom IsFit opening before h → AreAmong 1 MAX_CALLERS h
among opening before [] f = tt
among opening before (e ∷ es) f = ((f.0.0, (let a = f.0.1 in omega arith)), among opening (before ++ e ∷ []) es f.1)

at_most : (opening : List Binding) (h : History) → FitFrom IsFit opening [] h → HaveAtMost MAX_CALLS h
at_most opening h f = fit_along IsFit opening (λ n mine. length mine ≤ MAX_CALLS)
    (λ n mine e fits le. let a = length-append mine (e ∷ []) in let b = fits.2 in omega arith) [] h (λ n. omega arith) f

pub has_room_for : law.HasRoom
has_room_for opening h n call f g = let a = g.1 in has_room 1 MAX_CALLERS MAX_CALLS n h (among opening [] h f) (at_most opening h f) g.0 (omega arith) g.2
