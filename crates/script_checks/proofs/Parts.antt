-- The parts of trees, written and run.
use Rattle.std.proofs.Common.{◌≡◌, ap, suc, refl, length, List, [], ◌∷◌, ◌++◌, map}
use Rattle.std.proofs.lemmas.List.{length-map}
use Rattle.cdr_values.specs.declared.kind.Member.{Member}
use Rattle.cdr_values.specs.Trees.{members_of}
use Rattle.cdr_values.specs.Kinds.{members_view}
use Rattle.idl_types.specs.Things.{Thing}
use Rattle.script_values.specs.declared.tree.Link.{Link}
use Rattle.script_values.specs.declared.tree.Element.{Element}
use Rattle.script_values.specs.Trees.{Term, joint, spine}
use Rattle.script_values.specs.Views.{joint_of, part_of, joints_view, parts_view}
use Rattle.script_checks.specs.Built.{members_len}

-- one more link after those that are there
pub one_link : (ts : List Thing) (t : Term) (ls : List Link) (l : Link)
    → spine t (joints_view ts (ls ++ l ∷ [])) ≡ joint (spine t (joints_view ts ls)) (joint_of ts l)
one_link ts t [] l = refl
one_link ts t (k ∷ ls) l = one_link ts (joint t (joint_of ts k)) ls l

pub members_count : (ms : List Member) → members_len (members_of (members_view ms)) ≡ length ms
members_count [] = refl
members_count (m ∷ ms) = ap suc (members_count ms)

pub parts_count : (ts : List Thing) (es : List Element) → length (parts_view ts es) ≡ length es
parts_count ts es = length-map es (part_of ts)
