use Rattle.arrays.specs.Lists.{items_of}
use Rattle.arrays.proofs.Fits.{items_fit}
use Rattle.memos.proofs.Counts.{row_holding}
use Rattle.memos.proofs.laws.keeping_counts_stands.Goals as goal

pub returns : goal.returns
returns c s = (row_holding (items_of s.pairs) s.apart, items_fit s.pairs)
