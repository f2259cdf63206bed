-- A ledger of one part.
use Rattle.machine_tests.proofs.thread_borrowing_tests.comes_down_uncounted.Given as goal

abbrev pub ghosts-comes_down : goal.ghosts-comes_down
ghosts-comes_down a = record { name = a.blank.name; parts = a.blank.parts }
