use Rattle.std.proofs.Common.{◌∙◌, sym, rules}
use Rattle.writer.proofs.Sizes.{countable}
use Rattle.writer.proofs.Written.{put_whole}
use Rattle.writer.proofs.whole.Content.put.Goals as goal

pub returns : goal.returns
returns c =
    let s = c.args.self.now in
    let same = sym (c.put_text.ensures.same_buffer ∙ c.new-pen.ensures.same_buffer) in
    put_whole c.put_text.ensures c.new-pen.ensures.untouched c.new-pen.ensures.at_front (search rules) c.len.ensures (countable s.set s.variables s.prefix.now s.bound s.few)
