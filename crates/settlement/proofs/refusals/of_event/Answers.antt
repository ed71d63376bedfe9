-- Row by row; the cells come to all shortfalls together, which a book that is not spoiled has within the limit.
use Rattle.std.proofs.Common.{◌≡◌, rules, sym, ap, ◌∙◌, Ok, arith}
use Rattle.numbers.specs.Refusals.{first_refusal}
use Rattle.settlement.specs.Book.{all_shortfalls}
use Rattle.settlement.specs.ByOwner.{read_off}
use Rattle.settlement.specs.Events.{event_rows}
use Rattle.settlement.proofs.ByOwner.{total_read}
use Rattle.settlement.proofs.NotSpoiled.{shortfalls_within}
use Rattle.settlement.proofs.refusals.of_event.Goals as goal

pub is_spoiled-requires : goal.is_spoiled-requires
is_spoiled-requires c =
    let read = total_read c.args.book.now.shortfalls (search rules) in
    omega arith

pub returns : goal.returns
unfolding event_rows first_refusal
returns c =
    let read = total_read c.args.book.now.shortfalls (search rules) in
    let few = shortfalls_within (read_off c.args.book.now) (sym c.is_spoiled.ensures ∙ c.if-is_spoiled.false) in
    let carry : c.capped_total-carry.result ≡ all_shortfalls (read_off c.args.book.now) = omega arith in
    ap Ok carry ∙ search rules
