-- The parts one behind another, if there is room.
use Rattle.std.proofs.Common.{[], rules}
use Rattle.statement_text.specs.Sentence.{sentence, sentence_room}
use Rattle.statement_text.proofs.Pieces.{wrote_nothing}
use Rattle.statement_text.proofs.Room.{with_room, without_room}
use Rattle.statement_text.proofs.SentenceParts.{put_sentence}
use Rattle.statement_text.proofs.sentence.write_sentence.Goals as goal

pub returns-then-not-has_room : goal.returns-then-not-has_room
returns-then-not-has_room c =
    let is = without_room sentence_room (sentence c.args.tag c.args.number c.args.refusal c.args.faulty) c.args.text.now c.args.at (search rules) in
    record { value = is.0; text_after = is.1 }

pub returns-then-refusal-eq0 : goal.returns-then-refusal-eq0
unfolding sentence
returns-then-refusal-eq0 c =
    let is = with_room sentence_room [] c.args.text.now c.args.at _ _ (search rules) (wrote_nothing c.args.text.now c.args.at) in
    rw c.if-refusal-eq0.true (record { value = is.0; text_after = is.1 })

pub returns : goal.returns
returns c =
    let told =
    put_sentence c.args.tag c.args.number c.args.refusal c.args.faulty c.if-refusal-eq0.false c.write_named.ensures.put
    c.write_told.ensures.put
    c.write_record.ensures.put
    c.put.ensures in
    let is = with_room sentence_room _ _ _ _ _ (search rules) told.wrote in
    record { value = is.0; text_after = search (rules, told.same_buffer, is.1) }
