-- Each step moves a request from one place to another.
use Rattle.lane_machine.proofs.Fates.{one_place, taken_once, admitted_once}
use Rattle.lane_laws.proofs.laws.each_in_one_place.Goals as goal

pub returns : goal.returns
returns c = record {
  place = λ conn serial s h o l. one_place conn serial s h o l;
  taken = λ conn serial s h o l. taken_once conn serial s h o l;
  once = λ conn serial s h o l f. admitted_once conn serial s h o l f;
}
