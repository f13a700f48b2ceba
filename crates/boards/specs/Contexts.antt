-- What a row is bound to: the slot it stands in and the board's label.
use Rattle.std.specs.Prelude.{ℕ, ◌-◌, List, [], ◌++◌, length}
use Rattle.base.specs.Bytes.{zeros}
use Rattle.base.specs.Numbers.{bytes}

-- the longest label
abbrev pub label_limit : ℕ
label_limit = 12

-- a label with zeros behind it up to the longest one's length
unfoldable pub padded_label : List ℕ → List ℕ
padded_label label = label ++ zeros (label_limit - length label)

-- a nonce and associated data
pub record Context : Type 0 where
  pub nonce : List ℕ
  pub associated : List ℕ

-- those of a slot under a label: the nonce is the slot's number in four bytes, the lowest first, and the padded label; the
-- associated data is empty
unfoldable pub context_of : ℕ → List ℕ → Context
context_of slot label = record { nonce = bytes 4 slot ++ padded_label label; associated = [] }
