-- The worked examples and histories, by computing.
use Rattle.std.proofs.Common.{refl}
use Rattle.std.specs.Fmt.{digits}
use Rattle.qbf.specs.Reduce.{step, reduce_within}
use Rattle.qbf.specs.Walk.{walk_within}
use Rattle.qbf.specs.NodeList.{nodes_within}
use Rattle.qbf.specs.Run.{lower, run_within}
use Rattle.examples.specs.Examples.{Examples}
use Rattle.examples.specs.Histories.{Histories}

pub examples : Examples
unfolding step reduce_within walk_within nodes_within lower run_within
examples = record {
  one = record { expanded = refl; walked = refl; counted = refl };
  two = record { expanded = refl; walked = refl; counted = refl };
  three = record { expanded = refl; walked = refl; counted = refl };
  three_nodes = refl;
  four = record { expanded = refl; walked = refl; counted = refl };
  five = record { expanded = refl; walked = refl; counted = refl };
  six = record { expanded = refl; walked = refl; counted = refl };
  seven = record { expanded = refl; walked = refl; counted = refl };
  seven_set = refl;
  eight = record { expanded = refl; walked = refl; counted = refl };
  eight_blank = refl;
  eight_keeping = refl;
  eight_splits = refl;
}

pub histories : Histories
unfolding step reduce_within walk_within digits
histories = record { read = refl; write_back = refl; after_load = refl; after_decision = refl; after_refusal = refl; same_prefix = refl; other_prefix = refl; after_forgetting = refl }
