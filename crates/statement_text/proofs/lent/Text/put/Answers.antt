-- The piece is copied over its part of the buffer.
use Rattle.std.proofs.Common.{refl, arith}
use Rattle.numbers.proofs.Written.{put_mid_written, put_mid_length}
use Rattle.statement_text.proofs.lent.Text.put.Goals as goal

pub returns : goal.returns
returns c =
    let copied = put_mid_written c.args.self.now.bytes.now c.args.piece.now _ c.args.self.now.end _ c.copy_from_slice.ensures.after (omega arith) in
    let same = put_mid_length c.args.self.now.bytes.now c.args.piece.now _ c.args.self.now.end _ c.copy_from_slice.ensures.after (omega arith) c.requires in
    record {
      wrote = record { ends = refl; buffer = copied };
      same_buffer = refl;
      same_length = same;
      inside = rw same c.requires;
    }
