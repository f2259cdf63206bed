-- What a chosen thread and a next request are.
use Rattle.std.proofs.Common.{◌≡◌, ℕ, ◌≤◌, Bool, true, false, List, Some, None}
use Rattle.std.specs.Prelude.{slice_get}
use Rattle.thread_borrowing.specs.ThreadList.{Thread}
use Rattle.thread_borrowing.specs.Choice.{greatest, can_start, rank, chosen_thread}
use Rattle.thread_borrowing.proofs.Places.{at_first, first_is, none_passes}

pub chosen_is : (b : Bool) (lane : ℕ) (threads : List Thread) (t : ℕ) → chosen_thread b lane threads ≡ Some t → (x : Thread) × (slice_get threads t ≡ Some x) × (can_start b lane x ≡ true) × (rank x ≡ greatest (can_start b lane) rank threads)
unfolding chosen_thread
chosen_is b lane threads t e = at_first (can_start b lane) rank threads t e

pub none_chosen : (b : Bool) (lane : ℕ) (threads : List Thread) (k : ℕ) (x : Thread) → chosen_thread b lane threads ≡ None → slice_get threads k ≡ Some x → can_start b lane x ≡ false
unfolding chosen_thread
none_chosen b lane threads k x e g = none_passes (can_start b lane) rank threads k x e g

pub chosen_first : (b : Bool) (lane : ℕ) (threads : List Thread) (t : ℕ) (x : Thread) → chosen_thread b lane threads ≡ Some t → slice_get threads t ≡ Some x → (k : ℕ) (y : Thread) → slice_get threads k ≡ Some y → can_start b lane y ≡ true → (rank y ≤ rank x) × (rank y ≡ rank x → t ≤ k)
unfolding chosen_thread
chosen_first b lane threads t x e g k y h c = first_is (can_start b lane) rank threads t x e g k y h c
