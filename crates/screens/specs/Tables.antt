-- How the contents of a slot on two devices compare, as text.
use Rattle.std.specs.Prelude.{ℕ, cond, List, codes}
use Rattle.std.specs.Str.{bytes_eq}

-- - stands for a slot that a device does not have
abbrev pub verdict_on : List ℕ → List ℕ → List ℕ
verdict_on first second =
    cond (bytes_eq first (codes "-")) (codes "-")
    (cond (bytes_eq second (codes "-")) (codes "-")
    (cond (bytes_eq first second) (codes "same") (codes "different")))
