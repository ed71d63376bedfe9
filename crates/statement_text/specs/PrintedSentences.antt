-- Sentences as the definitions give them, computed by the prover.
-- Assumes nothing.
use Rattle.std.specs.Prelude.{◌≡◌, refl, [], codes}
use Rattle.statement_text.specs.Text.{digits, digits_within}
use Rattle.statement_text.specs.Sentence.{word_of, event_phrase, refusal_phrase, record_phrase, sentence}

-- the letters H, M and Y are 72, 77 and 89; any other tag is the rights file
pub hour_refused : sentence 72 17 7 3 ≡ codes "Hour 17 is refused: 7, bad right, record 3.\n"
unfolding sentence record_phrase refusal_phrase event_phrase word_of digits digits_within
hour_refused = refl

pub month_end_refused : sentence 77 4 1 0 ≡ codes "Month end 4 is refused: 1, spoiled book.\n"
unfolding sentence record_phrase refusal_phrase event_phrase word_of digits digits_within
month_end_refused = refl

pub year_end_refused : sentence 89 0 1 0 ≡ codes "Year end 0 is refused: 1, spoiled book.\n"
unfolding sentence record_phrase refusal_phrase event_phrase word_of digits digits_within
year_end_refused = refl

pub rights_file_refused : sentence 0 0 4 0 ≡ codes "Rights file is refused: 4, wrong length.\n"
unfolding sentence record_phrase refusal_phrase event_phrase word_of digits digits_within
rights_file_refused = refl

-- 12 to 14 are not given yet
pub not_in_the_table : sentence 72 0 12 0 ≡ codes "Hour 0 is refused: 12, not in the table.\n"
unfolding sentence record_phrase refusal_phrase event_phrase word_of digits digits_within
not_in_the_table = refl

pub no_such_year : sentence 72 0 15 0 ≡ codes "Hour 0 is refused: 15, no such year.\n"
unfolding sentence record_phrase refusal_phrase event_phrase word_of digits digits_within
no_such_year = refl

pub not_refused : sentence 72 17 0 3 ≡ []
unfolding sentence
not_refused = refl

-- the words of a split's own refusals, which no event gives
pub words_of_a_split : (word_of 16 ≡ codes "too many wants") × (word_of 17 ≡ codes "total too large")
unfolding word_of
words_of_a_split = (refl, refl)
