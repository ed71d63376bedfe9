-- Refused by its words, or the event of the book that they stand for.
use Rattle.std.proofs.Common.{rules, true, arith}
use Rattle.numbers.proofs.Refusals.{number_some}
use Rattle.settlement.specs.ByOwner.{AnsweredByOwner}
use Rattle.pupcopper.specs.BookWords.{kept_from}
use Rattle.pupcopper.specs.Calls.{settled_words}
use Rattle.pupcopper.specs.InnerContracts.{words_lent}
use Rattle.pupcopper.proofs.EventWords.{records_lent, refused_event, result_fits, settled_event}
use Rattle.pupcopper.proofs.WordRows.{given_book, refused_number}
use Rattle.pupcopper.proofs.book_words.LentBook.settle.Goals as goal

pub give_back-requires-clause-amounts_fit : goal.give_back-requires-clause-amounts_fit
give_back-requires-clause-amounts_fit g c =
    let words = words_lent c.args.self.now in
    let answered : AnsweredByOwner g.call (kept_from words) c.args.lines.now c.event-settled.result.outcome c.event-settled.result.book c.event-settled.new.arg3 = search rules in
    result_fits g.call words c.args.report.now c.args.lines.now _ _ answered.as_ruled (omega (arith, c.requires.1.1.1, records_lent g.call))

pub returns-in-Ok-clause-settles : goal.returns-in-Ok-clause-settles
returns-in-Ok-clause-settles g c =
    let words = words_lent c.args.self.now in
    let given = given_book true settled_words words _ c.words.ensures c.in-Ok.ensures in
    let answered : AnsweredByOwner g.call (kept_from words) c.args.lines.now c.event-settled.result.outcome c.event-settled.result.book c.event-settled.new.arg3 = search rules in
    settled_event g.call words c.args.report.now c.args.lines.now _ _ answered.as_ruled _ answered.laid _ _ _ given.0
    c.give_back.ensures.value
    c.give_back.ensures.report_after
    c.give_back.ensures.words_after

pub returns-in-Err-clause-settles : goal.returns-in-Err-clause-settles
returns-in-Err-clause-settles g c =
    let words = words_lent c.args.self.now in
    let refused = refused_number true settled_words words _ c.words.ensures c.in-Err.ensures in
    rw c.number.ensures (refused_event g.call words c.args.report.now c.args.lines.now _ _ refused.0 (number_some _) c.write.ensures)
