-- The numbers of owners, nodes and cents that several rules share.
-- Assumes nothing.
use Rattle.std.specs.Prelude.{ℕ}

-- "owner, 16 bits, 0 to 63"; "64 lines"; "up to 64 wants", "owners 1 to 64"
abbrev pub owners : ℕ
owners = 64

-- "node, 16 bits, 0 to 1,023"; "prices not 1 to 1,024"
abbrev pub nodes : ℕ
nodes = 1024

-- "above 4,000,000,000": all shortfalls together, positive targets, charges, or a split's wants; "total 1 to 4,000,000,000"
abbrev pub most_cents : ℕ
most_cents = 4_000_000_000
