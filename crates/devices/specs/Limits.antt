-- The limits of every device.
use Rattle.std.specs.Prelude.{ℕ, ◌≤◌, Bool, ◌&&◌, nat_le}

-- how many slots there may be at most
abbrev pub most_slots : ℕ
most_slots = 64

-- how short a row may be
abbrev pub shortest_row : ℕ
shortest_row = 16

-- how long the longest row of any device may be
abbrev pub longest_row : ℕ
longest_row = 1000

-- a device may have so many slots, and so long a longest row
abbrev pub Limits : ℕ → ℕ → Type 0
Limits slots longest = (1 ≤ slots) × (slots ≤ most_slots) × (shortest_row ≤ longest) × (longest ≤ longest_row)

-- whether it may
abbrev pub within_limits : ℕ → ℕ → Bool
within_limits slots longest = nat_le 1 slots && nat_le slots most_slots && nat_le shortest_row longest && nat_le longest longest_row
