-- None at a fault; else the sums over the noted records, which are those over all.
use Rattle.std.proofs.Common.{Some, sym, ap, ◌∙◌, arith}
use Rattle.rights.proofs.Readings.{records_most}
use Rattle.target.proofs.Search.{all_noted, met}
use Rattle.target.proofs.Pass.{stops_bad, stops_unpriced, can_add, gives}
use Rattle.target.proofs.live_rights.add_rights.Goals as goal

pub returns-then-lacks_prices : goal.returns-then-lacks_prices
returns-then-lacks_prices c = stops_unpriced _ _ _ _ (sym c.lacks_prices.ensures ∙ c.if-lacks_prices.true)

pub returns-then-met_a_bad_one : goal.returns-then-met_a_bad_one
returns-then-met_a_bad_one c =
    stops_bad _ _ _ _ (sym (met _ _ _ _ _ c.note_live-noted.ensures c.requires.1) ∙ sym c.met_a_bad_one.ensures ∙ c.if-met_a_bad_one.true)

pub add_live-requires : goal.add_live-requires
add_live-requires c =
    let fine = sym c.met_a_bad_one.ensures ∙ c.if-met_a_bad_one.false in
    let search = c.note_live-noted.ensures in
    let found = all_noted _ _ _ _ _ search c.requires.1 fine in
    can_add _ _ _ _ _ _ found
    (omega (arith, found.fewer, records_most c.args.rights.now c.requires.1))
    search.to_here.whole c.requires.0 c.requires.1 c.requires.2
    (sym (met _ _ _ _ _ search c.requires.1) ∙ fine)
    (sym c.lacks_prices.ensures ∙ c.if-lacks_prices.false)

pub returns : goal.returns
returns c =
    let fine = sym c.met_a_bad_one.ensures ∙ c.if-met_a_bad_one.false in
    let search = c.note_live-noted.ensures in
    let found = all_noted _ _ _ _ _ search c.requires.1 fine in
    ap Some c.add_live.ensures
    ∙ gives _ _ _ _ _ _ found
    (omega (arith, found.fewer, records_most c.args.rights.now c.requires.1))
    search.to_here.whole c.requires.0 c.requires.1 c.requires.2
    (sym (met _ _ _ _ _ search c.requires.1) ∙ fine)
    (sym c.lacks_prices.ensures ∙ c.if-lacks_prices.false)
