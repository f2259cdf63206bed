-- The response flags of a request: CORBA 3.0.3, section 15.4.2.
use Rattle.std.specs.Prelude.{ℕ, ◌==◌, ◌%◌, if◌then◌else◌}
use Rattle.orb_base.specs.declared.due.Due.{Due}
use Rattle.orb_base.specs.declared.due.Due.TheVariants as due

-- when a reply is due
abbrev pub due_of : ℕ → Due
due_of flags = if flags % 2 == 0 then due.Nothing else (if flags == 1 then due.Early else due.Late)
