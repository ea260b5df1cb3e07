use Rattle.theory.proofs.Stands.{lines_keep, lines_fall, reducing_keeps, reducing_cleans, reducing_canonical}
use Rattle.theory.proofs.Reduces.{reduce_unfolds}
use Rattle.theory.proofs.reducing_stands.Goals as goal

pub returns : goal.returns
returns c = record { lines = lines_keep; fall = lines_fall; end = reduce_unfolds; keep = reducing_keeps; clean = reducing_cleans; canonical = reducing_canonical }
