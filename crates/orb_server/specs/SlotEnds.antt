-- Which connection closes its slot: own profile.
use Rattle.std.specs.Prelude.{Bool, true, false, List, [], ◌∷◌}
use Rattle.conn_sides.specs.WriteSides.{last_of}
use Rattle.conn_sides.specs.declared.write_end.LastCollect.{LastCollect}
use Rattle.conn_sides.specs.declared.write_end.LastCollect.TheVariants as last
use Rattle.conn_sides.specs.declared.write_end.WriteEnd.{WriteEnd}
use Rattle.orb_server.specs.declared.run.ConnLog.{ConnLog}

-- the collect was answered Close
abbrev pub is_close : LastCollect → Bool
is_close last.Close = true
is_close last.Done = false
is_close last.Error = false

-- the last collect was answered Close, also where a write had failed
abbrev pub was_closed : WriteEnd → Bool
was_closed end = is_close (last_of end)

module _ {I O : Type 0} where
  -- whether the last collect of the last of these connections was answered Close; without one, as it was before
  abbrev pub closed_behind : Bool → List (ConnLog I O) → Bool
  closed_behind before [] = before
  closed_behind before (l ∷ ls) = closed_behind (was_closed l.write) ls
