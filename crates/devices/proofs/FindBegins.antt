-- The library's `starts_with` at bytes.
use Rattle.std.proofs.Common.{◌≡◌, ℕ, ◌&&◌, eqb, List, [], ◌∷◌, refl, ap}
use Rattle.std.specs.List.{starts_with}
use Rattle.devices.specs.Finding.{begins}

pub starts_with-bytes : (front xs : List ℕ) → starts_with eqb xs front ≡ begins front xs
starts_with-bytes [] xs = refl
starts_with-bytes (p ∷ front) [] = refl
starts_with-bytes (p ∷ front) (x ∷ xs) = ap (λ b. eqb p x && b) (starts_with-bytes front xs)
