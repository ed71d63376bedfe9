-- The record at each place is good and has its prices, so that its owner's sum takes its cents.
use Rattle.std.proofs.Common.{◌≡◌, ◌%◌, ◌≤◌, ℕ, true, false, List, length, get_or, sym, ap, subst, ◌∙◌, arith}
use Rattle.rights.specs.declared.Right.{Right}
use Rattle.rights.specs.Layout.{record_bytes, right_from, right_at, good_owner, good_size}
use Rattle.rights.specs.Faults.{is_unpriced}
use Rattle.rights.proofs.Readings.{at_place}
use Rattle.target.specs.InnerContracts.{number_in}
use Rattle.target.proofs.Pass.{begins, sums_next, room, whole}
use Rattle.target.proofs.live_rights.add_live.Goals as goal

pub loop-place-init : goal.loop-place-init
loop-place-init c = begins _ _ _

-- the right that was cut is the file's record at the place
is_right : (file places : List ℕ) (i : ℕ) {place : ℕ} {right cut : Right} → place ≡ get_or places i 0 → get_or places i 0 % record_bytes ≡ 0
    → right ≡ cut → cut ≡ right_from file place → right ≡ right_at file (number_in places i)
is_right file places i at fits is from = is ∙ from ∙ ap (right_from file) at ∙ at_place file (get_or places i 0) fits

pub record_at-requires : goal.record_at-requires
record_at-requires c =
    let i = c.loop-place.place-index in
    omega (arith, c.from.ensures, c.requires.whole i (omega arith), c.requires.inside i (omega arith))

pub invariant_of-add_to : goal.invariant_of-add_to
invariant_of-add_to c =
    let i = c.loop-place.place-index in
    let is = sym (is_right c.args.rights.now c.args.places.now i c.from.ensures (c.requires.whole i (omega arith)) c.cut-right.ensures (c.from_le_bytes.ensures.fields ∙ c.record_at.ensures)) in
    record {
      owned = subst (λ (r : Right). good_owner r ≡ true) is (c.requires.owned i (omega arith));
      kinded = subst (λ (r : Right). r.kind ≤ 1) is (c.requires.kinded i (omega arith));
      sized = subst (λ (r : Right). good_size r ≡ true) is (c.requires.sized i (omega arith));
      priced = subst (λ (r : Right). is_unpriced (length c.args.prices.now) r ≡ false) is (c.requires.priced i (omega arith));
      tame = c.requires.tame;
    }

pub add_to-requires : goal.add_to-requires
add_to-requires c =
    room _ _ _ c.requires _ _ c.loop-place.invariant (omega arith) _
    (is_right c.args.rights.now c.args.places.now c.loop-place.place-index c.from.ensures (c.requires.whole _ (omega arith)) c.cut-right.ensures (c.from_le_bytes.ensures.fields ∙ c.record_at.ensures))

pub loop-place-preserved : goal.loop-place-preserved
loop-place-preserved c =
    rw (c.add_to.ensures)
    (sums_next _ _ _ c.requires _ _ c.loop-place.invariant (omega arith) _
    (is_right c.args.rights.now c.args.places.now c.loop-place.place-index c.from.ensures (c.requires.whole _ (omega arith)) c.cut-right.ensures (c.from_le_bytes.ensures.fields ∙ c.record_at.ensures)))

pub returns : goal.returns
returns c = whole _ _ _ _ _ c.loop-place.invariant (omega arith)
