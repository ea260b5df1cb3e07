use Rattle.sets.proofs.Members.{union_members, lacking_members, holding_members, occurs_counted, taken_out_members, assigned_members}
use Rattle.sets.proofs.Placed.{clause_members}
use Rattle.sets.proofs.members_stand.Goals as goal

pub returns : goal.returns
returns c = record { union = union_members; lacking = lacking_members; holding = holding_members; counted = occurs_counted; taken_out = taken_out_members; assigned = assigned_members; clause = clause_members }
