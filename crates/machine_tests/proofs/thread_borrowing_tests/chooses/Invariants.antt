-- A ledger of one part.
use Rattle.machine_tests.proofs.thread_borrowing_tests.chooses.Given as goal

abbrev pub ghosts-counted : goal.ghosts-counted
ghosts-counted a = record { name = a.blank.name; parts = a.blank.parts }
