-- A ledger of one part that nobody else has.
use Rattle.thread_borrowing.proofs.threads.Threads.choose.Given as goal

abbrev pub ghosts-choose_uncounted : goal.ghosts-choose_uncounted
ghosts-choose_uncounted a = record { name = a.blank.name; parts = a.blank.parts }
