-- The words are those that the fields make, each of which is in its width.
use Rattle.std.proofs.Common.{rules}
use Rattle.rights.specs.RecordWords.{InWidths}
use Rattle.rights.proofs.RecordWords.{made_cut, made_bytes}
use Rattle.rights.proofs.Words.from_right.Goals as goal

widths : (c : goal.After-from-8) → InWidths c.args.right
widths c =
    record {
      owner = search rules;
      source = search rules;
      sink = search rules;
      kind = search rules;
      class = search rules;
      size = search rules;
      first = search rules;
      last = search rules;
    }

pub returns-clause-fields : goal.returns-clause-fields
returns-clause-fields c = made_cut _ (widths c) (search rules) (search rules)

pub returns-clause-bytes : goal.returns-clause-bytes
returns-clause-bytes c = made_bytes _ (widths c) (search rules) (search rules)
