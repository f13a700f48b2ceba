-- Memory that is all zero is well formed and holds nothing; and what right dimensions say.
use Rattle.std.proofs.Common.{◌≡◌, ℕ, zero, suc, ◌+◌, ◌-◌, ◌*◌, ◌<◌, ◌≤◌, true, false, ◌&&◌, eqb, leb, List, [], ◌∷◌, map, length, get_or, take, drop, replicate, refl, ap, ◌∙◌, arith}
use Rattle.std.proofs.lemmas.List.{length-replicate, get_or-replicate, take-replicate, drop-replicate}
use Rattle.std.proofs.lemmas.List.Sums.{sum_by-cons}
use Rattle.std.proofs.lemmas.Bool.{and_parts, leb-true, le-leb, eqb-true, eq-eqb, not-false}
use Rattle.base.specs.Bytes.{zeros}
use Rattle.devices.specs.Slots.{nothing}
use Rattle.devices.specs.Limits.{Limits, within_limits}
use Rattle.chain.specs.Cells.{chain_from, row_in, chains_of, times_in, times_on}
use Rattle.chain.specs.Memory.{slot_in, chain_held, holds_nothing, WellFormed, wrong_dimensions}
use Rattle.chain.specs.Soundness.{CellLimits}
use Rattle.chain.proofs.Right.{right_none}

-- ---- no chains

chain_none : (c : ℕ) (cs : List ℕ) → chain_from cs c 0 ≡ []
chain_none zero cs = refl
chain_none (suc c) cs = refl

chains_none : (c s : ℕ) (cs : List ℕ) → chains_of c cs (zeros s) ≡ replicate s []
chains_none c zero cs = refl
chains_none c (suc s) cs = ap (λ t. t ∷ chains_of c cs (zeros s)) (chain_none c cs) ∙ ap (λ t. [] ∷ t) (chains_none c s cs)

times_none : (k s : ℕ) → times_on k (replicate s []) ≡ 0
times_none k zero = refl
times_none k (suc s) = sum_by-cons (times_in k) [] (replicate s []) ∙ omega (arith, times_none k s)

held_none : (cs : List ℕ) (s : ℕ) → map slot_in (map (row_in cs) (replicate s [])) ≡ holds_nothing s
held_none cs zero = refl
held_none cs (suc s) = ap (λ t. nothing ∷ t) (held_none cs s)

-- ---- memory

module _ (s m c : ℕ) (b : List ℕ) (e : b ≡ zeros (s + 32 * c)) where
  heads_zero : take s b ≡ zeros s
  heads_zero = ap (take s) e ∙ take-replicate s (s + 32 * c) 0 (omega arith)

  cells_zero : drop s b ≡ zeros (32 * c)
  cells_zero = let n : (s + 32 * c) - s ≡ 32 * c = omega arith in ap (drop s) e ∙ drop-replicate s (s + 32 * c) 0 ∙ ap zeros n

  chains_zero : chains_of c (drop s b) (take s b) ≡ replicate s []
  chains_zero = ap (chains_of c (drop s b)) heads_zero ∙ chains_none c s (drop s b)

  pub zero_held : chain_held s c b ≡ holds_nothing s
  zero_held = ap (λ t. map slot_in (map (row_in (drop s b)) t)) chains_zero ∙ held_none (drop s b) s

  pub zero_formed : WellFormed s m c b
  zero_formed = record {
    linked = record {
      chains = λ i h.
          let lt : i < s = omega (arith, ap (λ t. length t) heads_zero, length-replicate {A = ℕ} s 0) in
          right_none c (drop s b) c (get_or (take s b) i 0) (ap (λ t. get_or t i 0) heads_zero ∙ get_or-replicate s i 0 0 lt);
      once = λ k. omega (arith, ap (times_on k) chains_zero, times_none k s);
      clean = λ k lo hi z.
          let le : 32 ≤ 32 * c - (k - 1) * 32 = omega arith in
          ap (λ t. take 32 (drop ((k - 1) * 32) t)) cells_zero ∙ ap (take 32) (drop-replicate ((k - 1) * 32) (32 * c) 0) ∙ take-replicate 32 (32 * c - (k - 1) * 32) 0 le;
    };
    rows = λ i h.
        let x : get_or (chain_held s c b) i nothing ≡ nothing = ap (λ t. get_or t i nothing) zero_held ∙ get_or-replicate s i nothing nothing h in
        rw x tt;
  }

-- ---- dimensions

within : (s m : ℕ) → within_limits s m ≡ true → Limits s m
within s m e =
    let p = and_parts (leb 1 s && leb s 64 && leb 16 m) (leb m 1000) e in
    let q = and_parts (leb 1 s && leb s 64) (leb 16 m) p.0 in
    let r = and_parts (leb 1 s) (leb s 64) q.0 in
    (leb-true 1 s r.0, leb-true s 64 r.1, leb-true 16 m q.1, leb-true m 1000 p.1)

pub right_dimensions : (s m c n : ℕ) → wrong_dimensions s m c n ≡ false → (Limits s m) × (CellLimits c) × (n ≡ s + 32 * c)
right_dimensions s m c n e =
    let p = and_parts (within_limits s m && leb 1 c && leb c 255) (eqb n (s + 32 * c)) (not-false _ e) in
    let q = and_parts (within_limits s m && leb 1 c) (leb c 255) p.0 in
    let r = and_parts (within_limits s m) (leb 1 c) q.0 in
    (within s m r.0, (leb-true 1 c r.1, leb-true c 255 q.1), eqb-true n (s + 32 * c) p.1)

-- and the other way round
pub dimensions_right : (s m c n : ℕ) → Limits s m → CellLimits c → n ≡ s + 32 * c → wrong_dimensions s m c n ≡ false
dimensions_right s m c n l d e =
    rw (le-leb 1 s l.0, le-leb s 64 l.1, le-leb 16 m l.2, le-leb m 1000 l.3, le-leb 1 c d.0, le-leb c 255 d.1, eq-eqb n (s + 32 * c) e) refl
