-- Each return has the row of the table that its tests lead to.
use Rattle.std.proofs.Common.{◌≡◌, ◌<◌, ℕ, List, [], get_or, length, Ok, sym, ap, ap₂, ◌∙◌, arith}
use Rattle.std.proofs.lemmas.Bool.{ltb-false}
use Rattle.rights.specs.Layout.{record_count, right_from, is_good}
use Rattle.std.proofs.lemmas.List.{get_or_read_under}
use Rattle.rights.proofs.RecordCalls.{record_15, record_wrong, record_past}
use Rattle.rights.proofs.Readings.{answered_by, answered_good, answered_bad}
use Rattle.rights.proofs.RecordWords.{cut_right}
use Rattle.rights.proofs.read.Goals as goal

pub returns-then-is_outside : goal.returns-then-is_outside
returns-then-is_outside c = sym (answered_by _ _ _ (record_15 _ _ _ _ (sym c.is_outside.ensures ∙ c.if-is_outside.true)))

pub returns-then-wrong_length : goal.returns-then-wrong_length
returns-then-wrong_length c =
    sym
    (answered_by _ _ _ (record_wrong _ _ _ _ (sym c.is_outside.ensures ∙ c.if-is_outside.false) (sym c.wrong_length.ensures ∙ c.if-wrong_length.true)))

pub returns-in_default : goal.returns-in_default
returns-in_default c =
    sym
    (answered_by _ _ _
    (record_past _ _ _ _ (sym c.is_outside.ensures ∙ c.if-is_outside.false) (sym c.wrong_length.ensures ∙ c.if-wrong_length.false) (omega (arith, ltb-false _ _ (sym c.in_default.ensures.lookup.0)))))

-- the record that was cut is the file's
module _ (file : List ℕ) (number : ℕ) (inside : number < record_count file) where
  taken : (chunks : List (List ℕ)) (bytes : List ℕ) → length chunks ≡ record_count file → bytes ≡ get_or chunks number bytes → right_from bytes 0 ≡ right_from (get_or chunks number []) 0
  taken chunks bytes long is =
      ap (λ (b : List ℕ). right_from b 0) (get_or_read_under chunks number (record_count file) bytes [] is inside (sym long))

pub returns-then-is_good : goal.returns-then-is_good
returns-then-is_good c =
    let inside : c.args.number < record_count c.args.file.now = omega (arith, c.in-Some.ensures.lookup) in
    let is = cut_right _ _ inside c.as_chunks.ensures.front
    (c.from_le_bytes-words.ensures.fields ∙ taken _ _ inside _ _ c.as_chunks.ensures.front_len c.in-Some.ensures.lookup.1) in
    ap Ok (c.cut.ensures ∙ is)
    ∙ sym
    (answered_good _ _ _ (sym c.is_outside.ensures ∙ c.if-is_outside.false) (sym c.wrong_length.ensures ∙ c.if-wrong_length.false) inside
    (ap₂ is_good (sym c.days_in_year.ensures) (sym is) ∙ sym c.is_good.ensures ∙ c.if-is_good.true))

pub returns-else-is_good : goal.returns-else-is_good
returns-else-is_good c =
    let inside : c.args.number < record_count c.args.file.now = omega (arith, c.in-Some.ensures.lookup) in
    let is = cut_right _ _ inside c.as_chunks.ensures.front
    (c.from_le_bytes-words.ensures.fields ∙ taken _ _ inside _ _ c.as_chunks.ensures.front_len c.in-Some.ensures.lookup.1) in
    sym
    (answered_bad _ _ _ (sym c.is_outside.ensures ∙ c.if-is_outside.false) (sym c.wrong_length.ensures ∙ c.if-wrong_length.false) inside
    (ap₂ is_good (sym c.days_in_year.ensures) (sym is) ∙ sym c.is_good.ensures ∙ c.if-is_good.false))
